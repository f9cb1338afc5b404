use Rattle.std.proofs.Common.{◌≡◌, ◌+◌, ◌-◌, ◌*◌, ◌∙◌, map, take, drop, ap, arith}
use Rattle.question.specs.Layout.{question_in}
use Rattle.reports.proofs.Parts.{Lent, chunks_lent}
use Rattle.reports.proofs.checked.Reports.first_of.Goals as goal

pub of_parts-requires : goal.of_parts-requires
of_parts-requires c =
    let z : 1 + 50 * c.args.n - 1 ≡ 50 * c.args.n = omega arith in
    let p : Lent c.args.n c.args.numbers.now c.as_chunks.result.0.now = chunks_lent c.args.n c.args.numbers.now _ c.as_chunks.result.0.now c.requires.each c.requires.lent.1 (ap (λ k. take k (drop 1 c.args.numbers.now)) z) c.as_chunks.ensures.front in
    (p.checked, omega (arith, p.count))

pub returns : goal.returns
returns c =
    let z : 1 + 50 * c.args.n - 1 ≡ 50 * c.args.n = omega arith in
    let p : Lent c.args.n c.args.numbers.now c.as_chunks.result.0.now = chunks_lent c.args.n c.args.numbers.now _ c.as_chunks.result.0.now c.requires.each c.requires.lent.1 (ap (λ k. take k (drop 1 c.args.numbers.now)) z) c.as_chunks.ensures.front in
    ap (map question_in) c.of_parts.ensures ∙ p.are

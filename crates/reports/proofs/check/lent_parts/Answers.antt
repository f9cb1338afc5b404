use Rattle.std.proofs.Common.{◌-◌, ◌*◌, ◌∙◌, ◌≡◌, arith}
use Rattle.reports.proofs.Parts.{short_empty, short_many, short_cut, not-short, all-parts}
use Rattle.reports.proofs.check.lent_parts.Goals as goal

pub returns-in_err-count : goal.returns-in_err-count
returns-in_err-count c = rw c.from_residual.ensures (short_empty c.args.reports.now c.in_err-count.ensures.cases)

pub returns-then-count-gt8 : goal.returns-then-count-gt8
returns-then-count-gt8 c = short_many c.in_ok-count.count.now c.args.reports.now c.in_ok-count.rest.now c.in_ok-count.ensures.cases.0 c.if-count-gt8.true

pub returns-in_err-numbers : goal.returns-in_err-numbers
returns-in_err-numbers c =
    rw c.from_residual-in_err-numbers.ensures (short_cut c.in_ok-count.count.now c.args.reports.now c.in_ok-count.rest.now c.in_ok-count.ensures.cases.0 c.in_err-numbers.ensures.lookup.0)

pub returns : goal.returns
returns c =
    let n = c.in_ok-count.count.now in
    let rest = c.in_ok-count.rest.now in
    let b = c.in_ok-numbers.ensures.lookup.0 in
    let z : 50 * n - 0 ≡ 50 * n = omega arith in
    (not-short n c.args.reports.now rest c.in_ok-count.ensures.cases.0 c.if-count-gt8.false b.1, all-parts n c.args.reports.now rest c.in_ok-numbers.numbers.now c.as_chunks.result.0.now c.in_ok-count.ensures.cases.0 b.1 (b.2 ∙ rw z) c.as_chunks.ensures.front)

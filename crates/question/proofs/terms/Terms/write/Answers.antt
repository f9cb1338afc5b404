use Rattle.std.proofs.Common.{rules, ◌≡◌, ◌-◌, ◌*◌, length, ◌∙◌, ap, arith}
use Rattle.question.specs.Layout.{terms_out, padded}
use Rattle.question.specs.Lent.{terms_of}
use Rattle.question.proofs.Chunks.{pairs-flat}
use Rattle.question.proofs.Writing.{filled, length-terms_out}
use Rattle.question.proofs.terms.Terms.write.Goals as goal

pub returns : goal.returns
returns g c =
    let ts = terms_of c.args.self.now in
    let n = length c.as_flattened-written.result.now in
    let flat : c.as_flattened-written.result.now ≡ terms_out ts = c.as_flattened-written.ensures.value ∙ pairs-flat g.row.LIMIT c.args.self.now.left.now c.args.self.now.fit in
    let front : c.copy_from_slice.new.self ≡ terms_out ts = c.copy_from_slice.ensures.after ∙ flat in
    let k : n ≡ 2 * length ts = ap length flat ∙ length-terms_out ts in
    filled n (8 - n) 8 c.copy_from_slice.new.self c.args.out.now c.fill.new.self (ap length c.copy_from_slice.ensures.after) (omega (arith, k, c.requires.0)) c.requires.1 (search rules) ∙ ap (padded 8) front

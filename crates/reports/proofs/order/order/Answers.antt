use Rattle.std.proofs.Common.{◌≡◌, ◌∙◌, take, drop, arith}
use Rattle.std.proofs.lemmas.List.{take_all, length-drop}
use Rattle.reports.proofs.order.order.Goals as goal

pub returns : goal.returns
returns c =
    let a : take 8 (drop 2 c.args.line.now) ≡ drop 2 c.args.line.now = take_all 8 (drop 2 c.args.line.now) (omega (arith, length-drop 2 c.args.line.now)) in
    let b : take 8 (drop 2 c.args.other.now) ≡ drop 2 c.args.other.now = take_all 8 (drop 2 c.args.other.now) (omega (arith, length-drop 2 c.args.other.now)) in
    c.then-2.ensures ∙ rw (c.cmp-3.ensures, c.then.ensures, c.cmp.ensures, c.cmp-2.ensures, a, b)

use Rattle.std.proofs.Common.{◌∙◌, ◌<◌, ◌≤◌, length, ap, refl, sym, arith}
use Rattle.question.proofs.Faults.{fault-next, fault_stop, fault_end}
use Rattle.question.proofs.Chunks.{length-chunks, good-cut}
use Rattle.question.proofs.check.least_fault.Goals as goal

pub returns-then-not-line_good : goal.returns-then-not-line_good
returns-then-not-line_good c n xs e =
    let h : c.loop-i.i < n = omega (arith, c.loop-i-test.true, ap length e, length-chunks 10 n xs) in
    sym (fault_stop n c.loop-i.i xs h (sym (good-cut n c.loop-i.i xs _ _ h e refl) ∙ sym c.line_good.ensures ∙ c.if-not-line_good.true)) ∙ c.loop-i.invariant n xs e

pub loop-i-preserved : goal.loop-i-preserved
loop-i-preserved c n xs e =
    let h : c.loop-i.i < n = omega (arith, c.loop-i-test.true, ap length e, length-chunks 10 n xs) in
    sym (fault-next n c.loop-i.i xs h (sym (good-cut n c.loop-i.i xs _ _ h e refl) ∙ sym c.line_good.ensures ∙ c.if-not-line_good.false)) ∙ c.loop-i.invariant n xs e

pub returns : goal.returns
returns c n xs e =
    let h : n ≤ c.loop-i.i = omega (arith, c.loop-i-test.false, ap length e, length-chunks 10 n xs) in
    sym (fault_end n c.loop-i.i xs h) ∙ c.loop-i.invariant n xs e

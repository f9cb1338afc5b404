use Rattle.std.proofs.Common.{sym, ◌∙◌, arith}
use Rattle.std.proofs.lemmas.Bool.Decides.{nat_tests}
use Rattle.wire.proofs.CellText.{number-none, number-some, digits_step, digits_stop, digits_end}
use Rattle.wire.proofs.tables.read_number.Goals as goal

pub returns-then-is_empty : goal.returns-then-is_empty
returns-then-is_empty c = sym (number-none c.args.cell.now (grind (arith, nat_tests)))

pub returns-in_err-n : goal.returns-in_err-n
returns-in_err-n c =
    rw c.from_residual.ensures
    (sym (number-some c.args.cell.now (grind (arith, nat_tests)) ∙ sym c.loop-byte.invariant
    ∙ digits_stop c.loop-byte.n c.args.cell.now c.loop-byte.byte-index (omega arith) (sym c.in_err-n.ensures)))

pub loop-byte-preserved : goal.loop-byte-preserved
loop-byte-preserved c =
    sym (digits_step c.loop-byte.n c.in_ok-n.n c.args.cell.now c.loop-byte.byte-index (omega arith) (sym c.in_ok-n.ensures))
    ∙ c.loop-byte.invariant

pub returns : goal.returns
returns c =
    sym (number-some c.args.cell.now (grind (arith, nat_tests)) ∙ sym c.loop-byte.invariant
    ∙ digits_end c.loop-byte.n c.args.cell.now c.loop-byte.byte-index (omega arith))

use Rattle.std.proofs.Common.{sym, ap, ◌∙◌}
use Rattle.std.specs.Char.{digit_value}
use Rattle.wire.proofs.CellText.{digit_large, digit_fits, digit_from, digit_none}
use Rattle.wire.proofs.tables.with_digit.Goals as goal

pub returns-in_err-digit : goal.returns-in_err-digit
returns-in_err-digit c = rw (c.from_residual.ensures, ← c.from.ensures) (sym (digit_none c.args.n c.from.result c.in_err-digit.ensures.value))

pub returns-in_err-checked_mul : goal.returns-in_err-checked_mul
returns-in_err-checked_mul c =
    let h = c.in_err-checked_mul.ensures in
    rw c.from_residual-in_err-checked_mul.ensures (sym (digit_large c.args.n c.args.byte h))

pub returns : goal.returns
returns c =
    let h = c.in_ok-checked_mul.ensures in
    let v = c.in_ok-digit.ensures.value in
    let d = digit_from c.args.byte c.in_ok-digit.digit (v.1 ∙ ap digit_value c.from.ensures) (rw (sym v.1) at v.0) in
    digit_fits c.args.n c.args.byte c.in_ok-checked_mul.field-0 c.from-2.result c.checked_add.result (d.0, d.1) h.1 (c.from-2.ensures ∙ d.2) c.checked_add.ensures

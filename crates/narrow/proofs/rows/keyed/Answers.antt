use Rattle.std.proofs.Common.{◌+◌, vec_items, sym, ap, ◌∙◌, subst, arith}
use Rattle.narrow.proofs.Repeating.{Keying, keying-none, keying-more, keyed-by}
use Rattle.narrow.proofs.rows.keyed.Goals as goal
use Rattle.narrow.proofs.rows.keyed.Goals.{then-row-number+in_ok-push, else-row-number}

pub loop-row-preserved : goal.loop-row-preserved
loop-row-preserved c = elim c.if-row-number.branch [
  | then-row-number+in_ok-push w ↦
      subst (Keying c.args.rows.now c.args.number c.args.column (c.loop-row.row-index + 1)) (sym (ap vec_items w.keys-is ∙ w.in_ok-push.ensures.items))
      (keying-more c.args.rows.now c.args.number c.args.column c.loop-row.row-index (vec_items c.loop-row.keys) w.key_row.result (omega arith) w.if-row-number.true w.key_row.ensures c.loop-row.invariant)
  | else-row-number w ↦ rw w.keys-is (keying-none c.args.rows.now c.args.number c.args.column c.loop-row.row-index (vec_items c.loop-row.keys) w.if-row-number.false c.loop-row.invariant)
]

pub returns : goal.returns
returns c = (
  c.in_order.ensures.0,
  keyed-by c.args.rows.now c.args.number c.args.column c.loop-row.row-index (vec_items c.loop-row.keys) (vec_items c.in_order.result) (omega arith) c.loop-row.invariant c.in_order.ensures.1,
)

use Rattle.std.proofs.Common.{◌+◌, [], get_or, vec_items, sym, refl, ap, ◌∙◌, subst, arith}
use Rattle.narrow.proofs.Shortening.{Projecting, projecting-line, projecting-other, projected}
use Rattle.narrow.proofs.projecting.project.Goals as goal
use Rattle.narrow.proofs.projecting.project.Goals.{then-row-number+in_ok-push_shortened, else-row-number+in_ok-push}

pub loop-row-preserved : goal.loop-row-preserved
loop-row-preserved c = elim c.if-row-number.branch [
  | then-row-number+in_ok-push_shortened w ↦ rw w.out-is
      (projecting-line c.args.line.now c.args.new.now c.args.setting.now.k c.args.setting.now.env c.args.rows.now c.loop-row.row-index (vec_items c.loop-row.out) (vec_items w.push_shortened.new.out) (omega arith) w.if-row-number.true (w.in_ok-push_shortened.ensures refl) c.loop-row.invariant)
  | else-row-number+in_ok-push w ↦
      subst (Projecting c.args.line.now c.args.new.now c.args.setting.now.k c.args.setting.now.env c.args.rows.now (c.loop-row.row-index + 1)) (sym (ap vec_items w.out-is ∙ w.in_ok-push.ensures.items))
      (projecting-other c.args.line.now c.args.new.now c.args.setting.now.k c.args.setting.now.env c.args.rows.now c.loop-row.row-index (vec_items c.loop-row.out) (get_or c.args.rows.now c.loop-row.row-index []) (omega arith) refl w.if-row-number.false c.loop-row.invariant)
]

pub returns : goal.returns
returns c = (
  c.in_order.ensures.0,
  projected c.args.line.now c.args.new.now c.args.setting.now.k c.args.setting.now.env c.args.rows.now c.loop-row.row-index (vec_items c.loop-row.out) (vec_items c.in_order.result) (omega arith) c.requires.slots.1.1.1 c.loop-row.invariant c.in_order.ensures.1,
)

use Rattle.std.proofs.Common.{◌+◌, [], get_or, vec_items, sym, refl, ap, ◌∙◌, subst, arith}
use Rattle.narrow.proofs.Matching.{Others-to, others-none, others-more, others-end}
use Rattle.narrow.proofs.merging.push_others.Goals as goal
use Rattle.narrow.proofs.merging.push_others.Goals.{then-neither+in_ok-push, else-neither}

pub loop-row-preserved : goal.loop-row-preserved
loop-row-preserved c = elim c.if-neither.branch [
  | then-neither+in_ok-push w ↦
      let so = w.if-neither.ensures.yes refl in
      subst (Others-to c.args.rows.now c.args.x c.args.y (c.loop-row.row-index + 1) (vec_items c.args.out.now)) (sym (ap vec_items w.out-is ∙ w.in_ok-push.ensures.items))
      (others-more c.args.rows.now c.args.x c.args.y c.loop-row.row-index (vec_items c.args.out.now) (vec_items c.loop-row.out) (get_or c.args.rows.now c.loop-row.row-index []) (omega arith) refl so.0 so.1 c.loop-row.invariant)
  | else-neither w ↦ rw w.out-is
      (others-none c.args.rows.now c.args.x c.args.y c.loop-row.row-index (vec_items c.args.out.now) (vec_items c.loop-row.out) (w.if-neither.ensures.no refl) c.loop-row.invariant)
]

pub returns : goal.returns
returns c _ = others-end c.args.rows.now c.args.x c.args.y c.loop-row.row-index (vec_items c.args.out.now) (vec_items c.loop-row.out) (omega arith) c.loop-row.invariant

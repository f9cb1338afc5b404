use Rattle.std.proofs.Common.{vec_items, refl, arith}
use Rattle.narrow.proofs.Matching.{paired_none, paired-more}
use Rattle.narrow.proofs.merging.TwoLines.pair_all.Goals as goal
use Rattle.narrow.proofs.merging.TwoLines.pair_all.Goals.{then-row-number+in_ok-push_pairs, else-row-number}

pub loop-row-preserved : goal.loop-row-preserved
loop-row-preserved c = elim c.if-row-number.branch [
  | then-row-number+in_ok-push_pairs w ↦ rw w.out-is
      (paired-more c.args.self.now.first.now c.args.self.now.second.now c.args.self.now.new.now c.args.self.now.setting.now.k c.args.self.now.setting.now.env c.args.rows.now c.args.keys.now c.args.column c.loop-row.row-index (vec_items c.loop-row.out) (vec_items w.push_pairs.new.out) (omega arith) c.loop-row.invariant (w.in_ok-push_pairs.ensures refl))
  | else-row-number w ↦ rw w.out-is
      (paired_none c.args.self.now.first.now c.args.self.now.second.now c.args.self.now.new.now c.args.self.now.setting.now.k c.args.self.now.setting.now.env c.args.rows.now c.args.keys.now c.args.column c.loop-row.row-index (vec_items c.loop-row.out) w.if-row-number.false c.loop-row.invariant)
]

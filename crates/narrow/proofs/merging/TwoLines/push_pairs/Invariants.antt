use Rattle.std.proofs.Common.{◌<◌, ◌≤◌, vec_items}
use Rattle.join.specs.Order.{cells}
use Rattle.narrow.specs.Joining.{Matched}
use Rattle.narrow.proofs.merging.TwoLines.push_pairs.Given as goal

abbrev pub invariant-loop-p : goal.invariant-loop-p
invariant-loop-p l = Matched l.self.first.now l.self.second.now l.self.new.now l.self.setting.now.k l.self.setting.now.env (cells l.row) l.keys (λ q. (l.start ≤ q) × (q < l.p)) (vec_items l.initial.out) (vec_items l.out)

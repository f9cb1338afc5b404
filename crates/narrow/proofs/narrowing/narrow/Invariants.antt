use Rattle.std.proofs.Common.{vec_items}
use Rattle.join.specs.Order.{Sorted}
use Rattle.narrow.specs.Narrowed.{Narrowed}
use Rattle.narrow.proofs.narrowing.narrow.Given as goal

abbrev pub invariant-loop-s : goal.invariant-loop-s
invariant-loop-s l = Sorted (vec_items l.left) × Narrowed l.setting.n l.setting.shown l.setting.k l.setting.env (vec_items l.initial.left) (vec_items l.initial.lines) (vec_items l.left) (vec_items l.lines)

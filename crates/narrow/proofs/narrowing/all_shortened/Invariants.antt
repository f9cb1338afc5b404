use Rattle.std.proofs.Common.{vec_items}
use Rattle.narrow.specs.Narrowed.{Narrowed}
use Rattle.narrow.proofs.narrowing.all_shortened.Given as goal

abbrev pub invariant-loop-s : goal.invariant-loop-s
invariant-loop-s l = Narrowed l.setting.n l.setting.shown l.setting.k l.setting.env (vec_items l.initial.left) (vec_items l.initial.lines) (vec_items l.left) (vec_items l.lines)

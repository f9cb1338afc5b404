use Rattle.std.proofs.Common.{vec_items}
use Rattle.narrow.proofs.Matching.{Others-to}
use Rattle.narrow.proofs.merging.push_others.Given as goal

abbrev pub invariant-loop-row : goal.invariant-loop-row
invariant-loop-row l = Others-to l.rows l.x l.y l.row-index (vec_items l.initial.out) (vec_items l.out)

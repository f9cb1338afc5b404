use Rattle.std.proofs.Common.{vec_items}
use Rattle.narrow.proofs.Repeating.{Keying}
use Rattle.narrow.proofs.rows.keyed.Given as goal

abbrev pub invariant-loop-row : goal.invariant-loop-row
invariant-loop-row l = Keying l.rows l.number l.column l.row-index (vec_items l.keys)

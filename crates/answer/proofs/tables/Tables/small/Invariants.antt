use Rattle.std.proofs.Common.{◌≡◌}
use Rattle.answer.specs.TableCheck.{table_fault}
use Rattle.answer.specs.Lent.{tables_of}
use Rattle.answer.proofs.TableTurns.{large_from}
use Rattle.answer.proofs.tables.Tables.small.Given as goal

abbrev pub invariant-loop-i : goal.invariant-loop-i
invariant-loop-i l =
    (goal.iterator-loop-i).can_next l.i-iterator × (goal.iterator-loop-i).is_finite l.i-iterator
    × (large_from l.i-iterator.count (tables_of l.i-iterator.iter) ≡ table_fault l.self.count 0 l.self.left.now)

use Rattle.join.specs.Order.{cells}
use Rattle.narrow.proofs.Pairing.{Putting}
use Rattle.narrow.proofs.pairs.put_row.Given as goal

abbrev pub invariant-loop-c : goal.invariant-loop-c
invariant-loop-c l = Putting l.line (cells l.row) l.k l.c l.initial.vals l.vals

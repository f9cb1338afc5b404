use Rattle.std.proofs.Common.{length}
use Rattle.wire.specs.Reading.{left}
use Rattle.wire.proofs.Filling.{PartsLeft}
use Rattle.wire.proofs.reader.Reader.parts.Given as goal

abbrev pub invariant-loop-i : goal.invariant-loop-i
invariant-loop-i g l =
    PartsLeft (goal.F-post g l.read) g.P.AsSlice.items (length l.initial.room) l.count l.i l.room (left l.self) (left l.initial.self)

use Rattle.std.proofs.Common.{◌≡◌, drop}
use Rattle.wire.specs.Tables.{digits_more}
use Rattle.wire.proofs.tables.read_number.Given as goal

abbrev pub invariant-loop-byte : goal.invariant-loop-byte
invariant-loop-byte l = digits_more l.n (drop l.byte-index l.cell) ≡ digits_more 0 l.cell

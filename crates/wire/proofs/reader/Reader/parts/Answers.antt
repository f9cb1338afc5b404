use Rattle.std.proofs.Common.{arith}
use Rattle.wire.proofs.Filling.{parts_short, parts_more, parts_done}
use Rattle.wire.proofs.reader.Reader.parts.Goals as goal

pub returns-in_err-part : goal.returns-in_err-part
returns-in_err-part g c =
    let s = c.requires.sizes in
    λ reads r.
    rw c.from_residual.ensures (parts_short _ _ _ _ c.loop-i.i _ _ _ _ s.0 s.1 c.loop-i.invariant (omega arith) c.in_err-part.ensures s.2 s.4 s.5 reads r)

pub loop-i-preserved : goal.loop-i-preserved
loop-i-preserved g c =
    let p = c.in_ok-part.part in
    rw (c.keep.ensures, c.as_slice-numbers.ensures) (parts_more _ _ _ _ c.loop-i.i _ _ _ _ p c.loop-i.invariant (omega arith) c.in_ok-part.ensures)

pub returns : goal.returns
returns g c =
    let s = c.requires.sizes in
    parts_done _ _ _ _ c.loop-i.i _ _ _ s.0 s.1 c.loop-i.invariant (omega arith) s.2 s.4 s.5

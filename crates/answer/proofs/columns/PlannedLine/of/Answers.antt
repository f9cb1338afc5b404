use Rattle.question.specs.Lent.{line_of}
use Rattle.question.proofs.Chunks.{line_few}
use Rattle.answer.specs.Terms.{place_in}
use Rattle.answer.specs.Columns.{InOrder}
use Rattle.answer.proofs.Ordered.{line_order, line_slots}
use Rattle.answer.proofs.columns.PlannedLine.of.Goals as goal

pub in_order-columns-requires : goal.in_order-columns-requires
in_order-columns-requires c = rw c.terms.ensures (line_few 16 c.args.line.now.numbers.now c.args.line.now.fits)

pub returns : goal.returns
returns c =
    let place = place_in c.args.codes.now.list.items in
    let ts = (line_of c.args.line.now).cells in
    let cs = c.in_order-columns.result.items in
    let o : InOrder place ts cs = rw c.terms.ensures at c.in_order-columns.ensures in
    let s = rw c.deref.ensures.0 at c.line_slots.ensures in
    record { long = o.long; order = line_order place ts cs o; line = line_slots place ts cs o c.args.id c.line_slots.result s.first s.slots s.zeros }

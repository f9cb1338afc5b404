use Rattle.std.proofs.Common.{◌∙◌, arith}
use Rattle.std.proofs.lemmas.List.{length-set}
use Rattle.question.specs.Layout.{value_in}
use Rattle.question.specs.Lent.{lines_of}
use Rattle.containment.specs.OwnTables.{rows_of}
use Rattle.containment.specs.OwnNumbers.{lines_once, cells_out, table_out}
use Rattle.containment.proofs.Turns.{three-and-more, behind-three, table-long}
use Rattle.containment.proofs.shown.OwnTables.write_table.Goals as goal

pub bounds-room-0 : goal.bounds-room-0
bounds-room-0 c = omega (arith, table-long _ _ _ _ c.requires)

pub bounds-room-1 : goal.bounds-room-1
bounds-room-1 c = simp length-set (omega (arith, table-long _ _ _ _ c.requires))

pub bounds-room-2 : goal.bounds-room-2
bounds-room-2 c = simp length-set (omega (arith, table-long _ _ _ _ c.requires))

pub slice_bounds-write_rows-count : goal.slice_bounds-write_rows-count
slice_bounds-write_rows-count c = simp length-set (omega (arith, table-long _ _ _ _ c.requires))

pub slice_bounds-write_rows-start : goal.slice_bounds-write_rows-start
slice_bounds-write_rows-start c = simp length-set (omega (arith, table-long _ _ _ _ c.requires))

pub write_rows-requires : goal.write_rows-requires
write_rows-requires c = rw (behind-three c.table-of.result c.count_rows.result c.width.result c.args.room.now, c.table-of.ensures) (omega (arith, table-long _ _ _ _ c.requires))

pub returns-clause-count : goal.returns-clause-count
unfolding table_out
returns-clause-count c = let e = c.write_rows.ensures.count in omega (arith, rw c.table-of.ensures at e)

pub returns-clause-written : goal.returns-clause-written
unfolding table_out
returns-clause-written c =
    let v = value_in c.args.self.now.values.now in
    let os = lines_once (lines_of c.args.self.now.lines) in
    three-and-more c.table-of.result c.count_rows.result c.width.result c.args.room.now (cells_out (rows_of v c.table-of.result os)) c.write_rows.new.room c.write_rows.result _ (omega (arith, c.requires)) (simp length-set) c.write_rows.ensures.written ∙ rw (c.count_rows.ensures v, c.width.ensures, c.table-of.ensures)

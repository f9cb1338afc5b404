use Rattle.std.proofs.Common.{rules, ◌∙◌, sym, refl, inl, ap, arith}
use Rattle.question.specs.Layout.{value_in}
use Rattle.question.specs.Lent.{line_of, lines_of}
use Rattle.question.proofs.Coming.{next-dropped}
use Rattle.containment.specs.OwnNumbers.{lines_once, table_heads, table_out, each_out}
use Rattle.containment.proofs.Turns.{tables-skip, tables_write, heads_end, written_same, written_more, written_room, written_all}
use Rattle.containment.proofs.shown.OwnTables.write_each.Goals as goal

pub loop-i-init : goal.loop-i-init
unfolding table_heads
loop-i-init c =
    let e = c.into_iter-i-iterator.ensures.into_iter_gives in
    ((tt, tt, inl (rw (e, c.enumerate-i-items.ensures.count, c.enumerate-i-items.ensures.source) (omega (arith, c.args.self.now.few)))), search rules, rw (e, c.enumerate-i-items.ensures.count, c.enumerate-i-items.ensures.source) refl, rw (e, c.enumerate-i-items.ensures.count) (record { left = refl; front = refl; within = omega arith }))

pub write_table-at-requires : goal.write_table-at-requires
write_table-at-requires c =
    let v = value_in c.args.self.now.values.now in
    let ls = lines_of c.args.self.now.lines in
    let n = c.loop-i.i-iterator.count in
    let l = line_of c.in-Some.line in
    let s = c.in-Some.ensures.steps in
    let named = sym c.if-not-has_table.true ∙ rw (c.front.ensures, s.1) at c.has_table.ensures in
    let w = written_same (tables_write v (lines_once ls) n ls l _ (sym c.loop-i.invariant.2 ∙ s.0) named) c.loop-i.invariant.3 in
    (written_room _ _ _ _ (table_out v (lines_once ls) l) _ c.requires (omega arith) w).1

pub loop-i-preserved-then-not-has_table : goal.loop-i-preserved-then-not-has_table
loop-i-preserved-then-not-has_table c =
    let v = value_in c.args.self.now.values.now in
    let ls = lines_of c.args.self.now.lines in
    let n = c.loop-i.i-iterator.count in
    let l = line_of c.in-Some.line in
    let s = c.in-Some.ensures.steps in
    let next = sym c.loop-i.invariant.2 ∙ s.0 in
    let named = sym c.if-not-has_table.true ∙ rw (c.front.ensures, s.1) at c.has_table.ensures in
    let w = written_same (tables_write v (lines_once ls) n ls l _ next named) c.loop-i.invariant.3 in
    let more = written_more _ _ _ _ (table_out v (lines_once ls) l) c.write_table-at.new.room c.loop-i.at c.write_table-at.result _ c.requires (omega arith) w c.write_table-at.ensures.count refl c.write_table-at.ensures.written in
    (search rules, search rules, rw s.2 (next-dropped n ls l _ next), rw s.2 more)

pub loop-i-preserved : goal.loop-i-preserved
loop-i-preserved c =
    let v = value_in c.args.self.now.values.now in
    let ls = lines_of c.args.self.now.lines in
    let n = c.loop-i.i-iterator.count in
    let l = line_of c.in-Some.line in
    let s = c.in-Some.ensures.steps in
    let next = sym c.loop-i.invariant.2 ∙ s.0 in
    let named = sym c.if-not-has_table.false ∙ rw (c.front.ensures, s.1) at c.has_table.ensures in
    (search rules, search rules, rw s.2 (next-dropped n ls l _ next), rw s.2 (written_same (tables-skip v (lines_once ls) n ls l _ next named) c.loop-i.invariant.3))

pub returns : goal.returns
unfolding each_out
returns c =
    let ls = lines_of c.args.self.now.lines in
    let e = heads_end c.loop-i.i-iterator.count ls (sym c.loop-i.invariant.2 ∙ c.in-None.ensures.steps.0.0) in
    let a = written_all _ _ _ _ (written_same (ap (each_out (value_in c.args.self.now.values.now) (lines_once ls)) e) c.loop-i.invariant.3) in
    record { count = a.0; written = a.1 }

use Rattle.std.proofs.Common.{rules, ◌∙◌, ◌-◌, ◌++◌, ℕ, List, length, take, drop, sym, refl, inl, ap, arith}
use Rattle.question.specs.Question.{all_at}
use Rattle.question.specs.Layout.{value_in}
use Rattle.question.specs.Lent.{line_of, lines_of}
use Rattle.question.proofs.Coming.{next-dropped}
use Rattle.question.proofs.Front.{length-all_at}
use Rattle.containment.specs.OwnNumbers.{lines_once, cells_out}
use Rattle.containment.proofs.Turns.{rows-skip, rows_write, rows_end, written_same, written_more, written_room, written_all}
use Rattle.containment.proofs.shown.OwnTables.write_rows.Goals as goal

pub loop-i-init : goal.loop-i-init
unfolding lines_once
loop-i-init c =
    let e = c.into_iter-i-iterator.ensures.into_iter_gives in
    ((tt, tt, inl (rw (e, c.enumerate-i-items.ensures.count, c.enumerate-i-items.ensures.source) (omega (arith, c.args.self.now.few)))), search rules, rw (e, c.enumerate-i-items.ensures.count, c.enumerate-i-items.ensures.source) refl, rw (e, c.enumerate-i-items.ensures.count) (record { left = refl; front = refl; within = omega arith }))

pub row_under-requires : goal.row_under-requires
row_under-requires c =
    let v = value_in c.args.self.now.values.now in
    let ls = lines_of c.args.self.now.lines in
    let n = c.loop-i.i-iterator.count in
    let l = line_of c.in-Some.line in
    let s = c.in-Some.ensures.steps in
    let gives = sym c.if-gives_row.true ∙ rw (c.front.ensures, s.1) at c.gives_row.ensures in
    let w = written_same (rows_write v c.args.of n ls l _ (sym c.loop-i.invariant.2 ∙ s.0) gives) c.loop-i.invariant.3 in
    let r = written_room _ _ _ _ (all_at v l.cells) _ c.requires (omega arith) w in
    (search rules, (search rules, rw (length-all_at v l.cells) at r.1))

pub overflow_add-at : goal.overflow_add-at
overflow_add-at c =
    let v = value_in c.args.self.now.values.now in
    let ls = lines_of c.args.self.now.lines in
    let n = c.loop-i.i-iterator.count in
    let l = line_of c.in-Some.line in
    let s = c.in-Some.ensures.steps in
    let gives = sym c.if-gives_row.true ∙ rw (c.front.ensures, s.1) at c.gives_row.ensures in
    let w = written_same (rows_write v c.args.of n ls l _ (sym c.loop-i.invariant.2 ∙ s.0) gives) c.loop-i.invariant.3 in
    let r = written_room _ _ _ _ (all_at v l.cells) _ c.requires (omega arith) w in
    omega (arith, r.0, length-all_at v l.cells, c.width-at.ensures)

pub loop-i-preserved-then-gives_row : goal.loop-i-preserved-then-gives_row
loop-i-preserved-then-gives_row c =
    let v = value_in c.args.self.now.values.now in
    let ls = lines_of c.args.self.now.lines in
    let n = c.loop-i.i-iterator.count in
    let l = line_of c.in-Some.line in
    let s = c.in-Some.ensures.steps in
    let next = sym c.loop-i.invariant.2 ∙ s.0 in
    let gives = sym c.if-gives_row.true ∙ rw (c.front.ensures, s.1) at c.gives_row.ensures in
    let w = written_same (rows_write v c.args.of n ls l _ next gives) c.loop-i.invariant.3 in
    let row : List ℕ = all_at v l.cells in
    let part = take (length c.loop-i.room - c.loop-i.at) (drop c.loop-i.at c.loop-i.room) in
    let more = written_more _ _ _ _ row c.row_under.new.out c.loop-i.at c.width-at.result _ c.requires (omega arith) w (c.width-at.ensures ∙ sym (length-all_at v l.cells)) refl
    (c.row_under.ensures ∙ ap (λ (k : ℕ). row ++ drop k part) (sym c.width-at.ensures)) in
    (search rules, search rules, rw s.2 (next-dropped n ls l _ next), rw s.2 more)

pub loop-i-preserved : goal.loop-i-preserved
loop-i-preserved c =
    let v = value_in c.args.self.now.values.now in
    let ls = lines_of c.args.self.now.lines in
    let n = c.loop-i.i-iterator.count in
    let l = line_of c.in-Some.line in
    let s = c.in-Some.ensures.steps in
    let next = sym c.loop-i.invariant.2 ∙ s.0 in
    let gives = sym c.if-gives_row.false ∙ rw (c.front.ensures, s.1) at c.gives_row.ensures in
    (search rules, search rules, rw s.2 (next-dropped n ls l _ next), rw s.2 (written_same (rows-skip v c.args.of n ls l _ next gives) c.loop-i.invariant.3))

pub returns : goal.returns
unfolding cells_out
returns c =
    let e = rows_end (value_in c.args.self.now.values.now) c.args.of c.loop-i.i-iterator.count (lines_of c.args.self.now.lines) (sym c.loop-i.invariant.2 ∙ c.in-None.ensures.steps.0.0) in
    let a = written_all _ _ _ _ (written_same (ap cells_out e) c.loop-i.invariant.3) in
    record { count = a.0; written = a.1 }

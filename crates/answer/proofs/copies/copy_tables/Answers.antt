use Rattle.std.proofs.Common.{rules, arith, ◌≡◌, ◌∙◌, ◌<◌, [], length, drop, get_or, ap, sym, append_assoc, append-nil}
use Rattle.std.proofs.lemmas.List.{get_or-map}
use Rattle.question.specs.Lent.{line_of, lines_of, question_of}
use Rattle.question.proofs.Coming.{next-dropped, next-below}
use Rattle.answer.specs.Columns.{order_of, orders_of}
use Rattle.answer.specs.Lent.{base_of}
use Rattle.answer.proofs.Gathered.{all_more, all_end}
use Rattle.answer.proofs.copies.copy_tables.Goals as goal

pub loop-i-preserved : goal.loop-i-preserved
loop-i-preserved c =
    let ls = (question_of c.args.question.now).lines in
    let n = c.loop-i.i-iterator.count in
    let l = line_of c.in-Some.line in
    let s = c.in-Some.ensures.steps in
    let next = sym c.loop-i.invariant.3 ∙ s.0 in
    let rest = next-dropped n ls l _ next in
    let below = next-below n ls l _ next in
    let more = all_more (base_of c.args.tables) n (lines_of c.loop-i.i-iterator.iter) (orders_of c.args.lines.now) l _ s.0 in
    let m = c.index-lines-i.result in
    let inside : n < length c.args.lines.now = omega (arith, below, c.requires.many) in
    let order : order_of c.deref-in-loop-i.result.now ≡ get_or (orders_of c.args.lines.now) n [] = ap order_of c.deref-in-loop-i.ensures.0 ∙ ap (λ j. order_of (get_or c.args.lines.now j m).columns.items) s.1 ∙ sym (get_or-map (λ k. order_of k.columns.items) c.args.lines.now n m [] inside) in
    let put = rw (s.1, order, c.deref.ensures.value, c.in_ok-terms.ensures, c.table.ensures) at c.in_ok-copy_line.ensures in
    (search rules, search rules, rw s.2 (omega (arith, below)), rw s.2 rest, rw (s.2, put, append_assoc) (rw more at c.loop-i.invariant.4))

pub returns : goal.returns
returns c =
    let end = all_end (base_of c.args.tables) c.loop-i.i-iterator.count _ (drop c.loop-i.i-iterator.count (orders_of c.args.lines.now)) c.in-None.ensures.steps.0.0 in
    sym (append-nil _) ∙ rw end at c.loop-i.invariant.4

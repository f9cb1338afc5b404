use Rattle.std.proofs.Common.{rules, arith, ◌∙◌, drop, get_or, sym, append_assoc, append-nil}
use Rattle.std.proofs.lemmas.List.{length-drop}
use Rattle.answer.specs.Columns.{order_of}
use Rattle.answer.proofs.Takings.{takes-wide}
use Rattle.answer.proofs.Copying.{row-taken, row-left, no-copies, other_width}
use Rattle.answer.proofs.copies.Copier.copy_rows.Goals as goal

pub returns-then-columns-self : goal.returns-then-columns-self
returns-then-columns-self c =
    let xs = c.args.table.now.numbers.now in
    let left = length-drop 3 xs in
    let none = other_width c.args.self.now.id (order_of c.args.self.now.columns.now) c.args.self.now.terms.now (get_or xs 1 0) (get_or xs 2 0) (drop 3 xs)
    (λ e. c.if-columns-self.true (c.columns.ensures ∙ e)) (omega (arith, c.args.table.now.there, left)) in
    rw none (sym (append-nil _))

pub copy-requires : goal.copy-requires
copy-requires c = takes-wide c.args.self.now.terms.now c.in-Some.row.now (sym c.takes.ensures ∙ c.if-takes.true)

pub loop-row-preserved-in-Continue-1 : goal.loop-row-preserved-in-Continue-1
loop-row-preserved-in-Continue-1 c =
    let taken = row-taken c.args.self.now.id (order_of c.args.self.now.columns.now) c.args.self.now.terms.now _ _ _ c.in-Some.ensures.steps (sym c.takes.ensures ∙ c.if-takes.true) in
    (search rules, search rules, rw (c.in_ok-push.ensures.items, append_assoc, c.copy.ensures) (rw taken at c.loop-row.invariant.2))

pub loop-row-preserved : goal.loop-row-preserved
loop-row-preserved c =
    let left = row-left c.args.self.now.id (order_of c.args.self.now.columns.now) c.args.self.now.terms.now _ _ _ c.in-Some.ensures.steps (sym c.takes.ensures ∙ c.if-takes.false) in
    (search rules, search rules, rw left at c.loop-row.invariant.2)

pub returns : goal.returns
returns c =
    let none = no-copies c.args.self.now.id (order_of c.args.self.now.columns.now) c.args.self.now.terms.now _ c.in-None.ensures.steps.0 in
    sym (append-nil _) ∙ rw none at c.loop-row.invariant.2 ∙ search rules

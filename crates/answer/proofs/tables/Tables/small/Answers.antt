use Rattle.std.proofs.Common.{rules, refl, ◌∙◌, sym}
use Rattle.answer.proofs.TableTurns.{fault-listed, length-tables_from, large-stop, large-next}
use Rattle.answer.proofs.tables.Tables.small.Goals as goal

pub loop-i-init : goal.loop-i-init
loop-i-init c =
    let e = c.into_iter-i-iterator.ensures.into_iter_gives in
    let long = length-tables_from c.args.self.count c.args.self.left.now in
    let range = c.ranges.self in
    (search (rules, long), search rules, rw (e, c.enumerate-i-items.ensures.count, c.enumerate-i-items.ensures.source) (sym (fault-listed _ _ _)))

pub returns-then-not-is_small : goal.returns-then-not-is_small
returns-then-not-is_small c =
    let s = c.in-Some.ensures.steps in
    let stop = large-stop c.loop-i.i-iterator.count _ _ _ s.0 (sym c.is_small.ensures ∙ c.if-not-is_small.true) in
    rw (sym c.loop-i.invariant.2 ∙ stop, s.1) refl

pub loop-i-preserved : goal.loop-i-preserved
loop-i-preserved c =
    let s = c.in-Some.ensures.steps in
    let next = large-next c.loop-i.i-iterator.count _ _ _ s.0 (sym c.is_small.ensures ∙ c.if-not-is_small.false) in
    (search rules, search rules, rw s.2 (sym next ∙ c.loop-i.invariant.2))

pub returns : goal.returns
returns c = (sym c.loop-i.invariant.2 ∙ rw c.in-None.ensures.steps.0.0 refl, refl)

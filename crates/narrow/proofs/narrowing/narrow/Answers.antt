use Rattle.std.proofs.Common.{◌≡◌, vec_items, subst, MatchOption}
use Rattle.join.specs.Order.{Sorted}
use Rattle.narrow.specs.Narrowed.{Narrowed}
use Rattle.narrow.proofs.AnswersSame.{narrowed_same, narrowed_more}
use Rattle.narrow.proofs.narrowing.narrow.Goals as goal

pub loop-s-preserved-in-Some : goal.loop-s-preserved-in-Some
loop-s-preserved-in-Some c =
    let n = c.args.setting.now.n in
    let shown = c.args.setting.now.shown in
    let k = c.args.setting.now.k in
    let env = c.args.setting.now.env in
    let rows = vec_items c.loop-s.left in
    let lines = vec_items c.loop-s.lines in
    let next = vec_items c.take_slot.new.lines in
    let more = vec_items c.in-Some.more in
    let step : Sorted more × Narrowed n shown k env c.deref.result.now lines more next =
    subst (λ o. MatchOption o (next ≡ lines) (λ v. Sorted (vec_items v) × Narrowed n shown k env c.deref.result.now lines (vec_items v) next)) c.in-Some.is c.in_ok-taken.ensures in (
      step.0,
      narrowed_more n shown k env (vec_items c.in_order-left.result) (vec_items c.all_shortened.new.lines) rows lines more next c.loop-s.invariant.1
          (subst (λ xs. Narrowed n shown k env xs lines more next) c.deref.ensures.value step.1),
    )

pub returns : goal.returns
returns c =
    let n = c.args.setting.now.n in
    let shown = c.args.setting.now.shown in
    let k = c.args.setting.now.k in
    let env = c.args.setting.now.env in
    let first = vec_items c.args.lines.now in
    let begun = vec_items c.all_shortened.new.lines in
    let short = vec_items c.in_ok-short.short in
    let start = vec_items c.in_order-left.result in
    let step = c.in_ok-short.ensures in (
      c.loop-s.invariant.0,
      narrowed_more n shown k env (vec_items c.args.rows) first short begun (vec_items c.loop-s.left) (vec_items c.loop-s.lines) step
          (narrowed_more n shown k env short begun start begun (vec_items c.loop-s.left) (vec_items c.loop-s.lines) (narrowed_same n shown k env short begun start step.below c.in_order-left.ensures.1) c.loop-s.invariant.1),
    )

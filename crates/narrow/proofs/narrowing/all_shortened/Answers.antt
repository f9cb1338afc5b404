use Rattle.std.proofs.Common.{◌≡◌, vec_items, sym, subst, MatchOption}
use Rattle.join.specs.Order.{Sorted}
use Rattle.narrow.specs.Narrowed.{Narrowed}
use Rattle.narrow.proofs.AnswersSame.{narrowed_more}
use Rattle.narrow.proofs.narrowing.all_shortened.Goals as goal
use Rattle.narrow.proofs.narrowing.all_shortened.Goals.{in-Some, in_default}

pub loop-s-preserved : goal.loop-s-preserved
loop-s-preserved c =
    let n = c.args.setting.now.n in
    let shown = c.args.setting.now.shown in
    let k = c.args.setting.now.k in
    let env = c.args.setting.now.env in
    let start = vec_items c.args.rows in
    let begun = vec_items c.args.lines.now in
    let rows = vec_items c.loop-s.left in
    let lines = vec_items c.loop-s.lines in
    let next = vec_items c.leave_out.new.lines in
    elim c.match-taken.branch [
      | in-Some w ↦
          let step : Sorted (vec_items w.in-Some.more) × Narrowed n shown k env c.deref.result.now lines (vec_items w.in-Some.more) next =
          subst (λ o. MatchOption o (next ≡ lines) (λ v. Sorted (vec_items v) × Narrowed n shown k env c.deref.result.now lines (vec_items v) next)) w.in-Some.is c.in_ok-taken.ensures in
          rw w.left-is (narrowed_more n shown k env start begun rows lines (vec_items w.in-Some.more) next c.loop-s.invariant
          (subst (λ xs. Narrowed n shown k env xs lines (vec_items w.in-Some.more) next) c.deref.ensures.value step.1))
      | in_default w ↦
          let same : next ≡ lines = subst (λ o. MatchOption o (next ≡ lines) (λ v. Sorted (vec_items v) × Narrowed n shown k env c.deref.result.now lines (vec_items v) next)) w.in_default.is c.in_ok-taken.ensures in
          rw w.left-is (subst (Narrowed n shown k env start begun rows) (sym same) c.loop-s.invariant)
    ]

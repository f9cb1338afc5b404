-- What is put out after the lines are narrowed is what the plan gives.
use Rattle.std.proofs.Common.{◌≡◌, ℕ, List, Result, sym, subst}
use Rattle.join.specs.Order.{Sorted}
use Rattle.join.specs.FirstValues.{AllBelow, Covered}
use Rattle.join.specs.RowsOut.{PutOut}
use Rattle.join.specs.declared.output.NoRoomAfter.{NoRoomAfter}
use Rattle.narrow.specs.Narrowed.{Narrowed, asked}
use Rattle.narrow.proofs.AnswersSame.{put-out-same}
use Rattle.answer.specs.Plan.{Plan, Joinable}
use Rattle.answer.specs.Laws.{asked_by}

module _ (p : Plan) (j : Joinable p) (copied rows lines : List (List ℕ)) (all : List (List ℕ)) (whole : all ≡ p.lines) (n : Narrowed p.n p.shown p.k p.env copied all rows lines) where
  same : Narrowed p.n p.shown p.k p.env copied p.lines rows lines
  same = subst (λ ls. Narrowed p.n p.shown p.k p.env copied ls rows lines) whole n

  -- the join can still be asked
  pub still-joined : (xs ls : List (List ℕ)) → xs ≡ rows → ls ≡ lines → Sorted rows → Sorted xs × AllBelow p.n ls × Covered ls p.k p.shown
  still-joined xs ls e f s = (subst Sorted (sym e) s, subst (AllBelow p.n) (sym f) same.below, subst (λ ks. Covered ks p.k p.shown) (sym f) (same.covered j.covered))

  -- and puts out the same
  pub put-same : (xs ls : List (List ℕ)) (row : List ℕ) → xs ≡ rows → ls ≡ lines → row ≡ p.row → (before out : List ℕ) (r : Result ℕ NoRoomAfter)
      → PutOut (asked p.k p.env row xs ls) before out r → PutOut (asked_by p copied) before out r
  put-same xs ls row e f g before out r h =
      put-out-same p.k p.env p.row copied p.lines rows lines (same.same p.row j.row_shown) before out r
      (subst (λ w. PutOut (asked p.k p.env w rows lines) before out r) g (subst (λ ks. PutOut (asked p.k p.env row rows ks) before out r) f (subst (λ ys. PutOut (asked p.k p.env row ys ls) before out r) e h)))

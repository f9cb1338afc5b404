-- The number and the values of an answer.
use Rattle.std.proofs.Common.{◌≡◌, ℕ, Bool, true, false, List, Some, None, Option, Result, sym, refl, subst}
use Rattle.question.specs.declared.refusals.Refusal.{Refusal}
use Rattle.question.specs.Layout.{question_in}
use Rattle.containment.specs.declared.answer.Containment.{Containment}
use Rattle.containment.specs.Search.{can_read}
use Rattle.containment.specs.Answer.{number_of, values_of, told_by, within_says, size_of, Numbered}

by-reading : (b : Bool) (first second room : List ℕ) → (number_of (told_by b first second room).0 ≡ 0) × (values_of (told_by b first second room).0 ≡ size_of b first second)
by-reading true first second room = (refl, refl)
by-reading false first second room = (refl, refl)

pub numbered : (o : Option Refusal) (first second room : List ℕ) (r : Result Containment Refusal) → r ≡ (within_says o first second room).0 → Numbered r o first second
numbered o first second room r e = subst (λ (a : Result Containment Refusal). Numbered a o first second) (sym e) (go o)
  where
    go : (o : Option Refusal) → Numbered (within_says o first second room).0 o first second
    go (Some e) = record { number = refl; values = refl }
    go None = let h = by-reading (can_read (question_in second) (question_in first)) first second room in record { number = h.0; values = h.1 }

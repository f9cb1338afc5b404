-- Text that grows piece by piece.
use Rattle.std.proofs.Common.{◌≡◌, ℕ, List, ◌++◌, IfOk, Ok, Err, Result, ap, ◌∙◌, append_assoc}

-- what is added is the front of what is left
pub added : (before after piece left whole : List ℕ) → after ≡ before ++ piece → before ++ (piece ++ left) ≡ whole → after ++ left ≡ whole
added before after piece left whole e h = ap (λ (l : List ℕ). l ++ left) e ∙ append_assoc before piece left ∙ h

-- one piece behind another, where the second is added at all
pub then_added : {A E : Type 0} (r : Result A E) (before between after first second : List ℕ) → between ≡ before ++ first → IfOk r (λ _. after ≡ between ++ second) → IfOk r (λ _. after ≡ before ++ (first ++ second))
then_added (Ok x) before between after first second e h = h ∙ ap (λ (l : List ℕ). l ++ second) e ∙ append_assoc before first second
then_added (Err x) before between after first second e h = h

-- the same, where both were
pub joined : (before between after first second : List ℕ) → between ≡ before ++ first → after ≡ between ++ second → after ≡ before ++ (first ++ second)
joined before between after first second e h = h ∙ ap (λ (l : List ℕ). l ++ second) e ∙ append_assoc before first second

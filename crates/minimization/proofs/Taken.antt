-- What holds of each line holds of those taken and of those still behind.
use Rattle.std.proofs.Common.{◌≡◌, List, [], ◌∷◌, ◌++◌, sym, subst, inl, inr}
use Rattle.question.specs.Question.{In}
use Rattle.question.proofs.Members.{in_split}
use Rattle.question.proofs.Places.{in_head}

abbrev pub Each : {A : Type 0} → (A → Type 0) → List A → Type 0
Each P xs = (x : _) → In x xs → P x

module _ {A : Type 0} (P : A → Type 0) where
  -- of no line
  pub none-taken : (p : List A) → p ≡ [] → Each P p
  none-taken p e = subst (λ (xs : List A). Each P xs) (sym e) (λ x i. elim i [ ])

  -- of the lines behind the next
  pub behind-taken : (before : List A) (w : A) (ws : List A) → before ≡ w ∷ ws → Each P before → Each P ws
  behind-taken before w ws b all x i = subst (λ (xs : List A). Each P xs) b all x (In.there i)

  -- of one line more, the next
  pub more-taken : (p q before : List A) (w : A) (ws : List A) → before ≡ w ∷ ws → q ≡ p ++ w ∷ [] → Each P before → Each P p → Each P q
  more-taken p q before w ws b e all taken =
      let here : P w = subst (λ (xs : List A). Each P xs) b all w In.here in
      subst (λ (xs : List A). Each P xs) (sym e) (λ x k. elim (in_split p (w ∷ []) k) [ inl i ↦ taken x i | inr i ↦ in_head P here (λ j. elim j [ ]) i ])

-- The rows that a list has when one is put behind it.
use Rattle.std.proofs.Common.{◌≡◌, ℕ, zero, suc, ◌+◌, ◌<◌, ◌⊎◌, List, [], ◌∷◌, ◌++◌, length, get_or, sym, refl, ap, ◌∙◌, inl, inr, arith}
use Rattle.std.proofs.lemmas.Bool.{cases_lt}
use Rattle.std.proofs.lemmas.List.Sorted.{IsPermutation-sym}
use Rattle.std.proofs.ByRecursion.{has_shuffled}
use Rattle.std.proofs.lemmas.List.{get_or_default}
use Rattle.std.specs.List.Sorted.{IsPermutation}
use Rattle.std.specs.List.{ContainsAt as Has}
use Rattle.join.specs.Order.{Value, row_at}
use Rattle.narrow.specs.Rows.{Held, SameRows}

at_front : (xs : List (List ℕ)) (x : List ℕ) (j : ℕ) → j < length xs → get_or (xs ++ x ∷ []) j [] ≡ get_or xs j []
at_front (y ∷ xs) x zero h = refl
at_front (y ∷ xs) x (suc j) h = at_front xs x j (omega arith)
at_front [] x j h = absurd (omega arith)

at_last : (xs : List (List ℕ)) (x : List ℕ) → get_or (xs ++ x ∷ []) (length xs) [] ≡ x
at_last [] x = refl
at_last (y ∷ xs) x = at_last xs x

longer : (xs : List (List ℕ)) (x : List ℕ) → length (xs ++ x ∷ []) ≡ length xs + 1
longer [] x = refl
longer (y ∷ xs) x = let e = longer xs x in omega arith

pub held-front : (xs : List (List ℕ)) (x : List ℕ) (f : Value) → Held xs f → Held (xs ++ x ∷ []) f
held-front xs x f h = record {
  place = h.place;
  inside = omega (arith, h.inside, longer xs x);
  is = λ c g. ap (λ r. get_or r c 0) (at_front xs x h.place h.inside) ∙ h.is c g;
}

pub held_last : (xs : List (List ℕ)) (x : List ℕ) (f : Value) → ((c : ℕ) → c < 5 → get_or x c 0 ≡ f c) → Held (xs ++ x ∷ []) f
held_last xs x f e = record {
  place = length xs;
  inside = omega (arith, longer xs x);
  is = λ c g. ap (λ r. get_or r c 0) (at_last xs x) ∙ e c g;
}

pub held_cases : (xs : List (List ℕ)) (x : List ℕ) (f : Value) → Held (xs ++ x ∷ []) f → Held xs f ⊎ ((c : ℕ) → c < 5 → get_or x c 0 ≡ f c)
held_cases xs x f h = elim (cases_lt h.place (length xs)) [
  | inl l ↦ inl (record { place = h.place; inside = l; is = λ c g. ap (λ r. get_or r c 0) (sym (at_front xs x h.place l)) ∙ h.is c g })
  | inr l ↦
      let e : h.place ≡ length xs = omega (arith, h.inside, longer xs x) in
      inr (λ c g. ap (λ r. get_or r c 0) (sym (at_last xs x) ∙ ap (λ j. get_or (xs ++ x ∷ []) j []) (sym e)) ∙ h.is c g)
]

pub held_none : (f : Value) → Held [] f → ⊥
held_none f h = omega (arith, h.inside)

pub held_same : (xs : List (List ℕ)) (f g : Value) → ((c : ℕ) → c < 5 → f c ≡ g c) → Held xs f → Held xs g
held_same xs f g e h = record { place = h.place; inside = h.inside; is = λ c l. h.is c l ∙ e c l }

pub held_at : (xs : List (List ℕ)) (j : ℕ) → j < length xs → Held xs (row_at xs j)
held_at xs j h = record { place = j; inside = h; is = λ c g. refl }

-- the same rows in another order
held_shuffled : (xs ys : List (List ℕ)) → IsPermutation xs ys → (f : Value) → Held xs f → Held ys f
held_shuffled xs ys s f h =
    let p : Has ys (get_or xs h.place []) = has_shuffled xs ys (get_or xs h.place []) s (h.place, h.inside, λ d. get_or_default xs h.place d [] h.inside) in
    record { place = p.0; inside = p.1; is = λ c g. ap (λ r. get_or r c 0) (p.2 []) ∙ h.is c g }

pub same_shuffled : (xs ys : List (List ℕ)) → IsPermutation xs ys → SameRows xs ys
same_shuffled xs ys s f = (held_shuffled xs ys s f, held_shuffled ys xs (IsPermutation-sym xs ys s) f)

pub same_more : (xs ys zs : List (List ℕ)) → SameRows xs ys → SameRows ys zs → SameRows xs zs
same_more xs ys zs p q f = (λ h. (q f).0 ((p f).0 h), λ h. (p f).1 ((q f).1 h))

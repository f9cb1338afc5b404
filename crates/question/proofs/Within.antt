-- The terms of a question are within the limits, so that a variable has a place among sixteen values.
use Rattle.std.proofs.Common.{◌≡◌, ℕ, suc, ◌≤◌, true, List, [], ◌∷◌, map, length, get_or, subst, ap, arith}
use Rattle.std.specs.List.{list_all}
use Rattle.std.proofs.lemmas.Bool.{and_parts}
use Rattle.question.specs.declared.terms.Term.{Term}
use Rattle.question.specs.declared.terms.Terms.{Terms}
use Rattle.question.specs.Sound.{TermWithin}
use Rattle.question.specs.Layout.{pair_term, two_fit}
use Rattle.question.specs.Lent.{terms_of}
use Rattle.question.proofs.Fitting.{term_fits_wider}
use Rattle.question.proofs.Written.{fits-within-term}

nil_not_cons : {t : Term} {ts : List Term} → [] ≡ t ∷ ts → ⊥
nil_not_cons {t} {ts} e = let n : 0 ≡ suc (length ts) = ap length e in absurd (omega arith)

first_is : {t u : Term} {ts us : List Term} → t ∷ ts ≡ u ∷ us → t ≡ u
first_is {t} {u} e = ap (λ (l : List Term). get_or l 0 t) e

first-pair : (limit : ℕ) (ps : List (List ℕ)) (t : Term) (ts : List Term) → limit ≤ 16 → list_all (two_fit limit) ps ≡ true → map pair_term ps ≡ t ∷ ts → TermWithin t
first-pair limit [] t ts h f e = absurd (nil_not_cons e)
first-pair limit (p ∷ ps) t ts h f e = subst (λ (u : Term). TermWithin u) (first_is e) (fits-within-term (get_or p 0 0) (get_or p 1 0) (term_fits_wider limit 16 (get_or p 0 0) (get_or p 1 0) h (and_parts _ _ (and_parts _ _ f).0).1))

-- the term that comes next
pub next_within : {limit : ℕ} (s : Terms limit) (t : Term) (ts : List Term) → limit ≤ 16 → terms_of s ≡ t ∷ ts → TermWithin t
next_within {limit} s t ts h e = first-pair limit s.left.now t ts h s.fit e

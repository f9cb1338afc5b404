-- Terms that an iterator gives, compared with those of another: the same just where the lists are.
use Rattle.std.proofs.Common.{◌≡◌, ℕ, Bool, true, false, eqb, List, [], ◌∷◌, ◌++◌, Some, None, Option, MatchOption, IfSome, sym, refl, ap, ◌∙◌}
use Rattle.std.specs.Iterator.{YieldsFirst, Yields, ComparesItemsByEq}
use Rattle.std.specs.List.{AllZip}
use Rattle.question.specs.declared.terms.Term.{Term}
use Rattle.question.specs.declared.terms.Term.TheVariants.{Number, Variable}
use Rattle.containment.specs.Search.{term_eqb}
use Rattle.containment.specs.OwnNumbers.{terms_eqb}

-- what came and what is left
came : {S : Type 0} (rest : S → List Term) (s t : S) (xs : List Term) → Yields (YieldsFirst rest) s xs t → rest s ≡ xs ++ rest t
came rest s t [] y = ap rest y
came rest s t (x ∷ xs) (j, p, y) = p ∙ ap (λ (ts : List Term). x ∷ ts) (came rest j t xs y)

module _ (same : Term → Term → Bool) (numbers : (m n : ℕ) → same (Number m) (Number n) ≡ eqb m n) (number : (m y : ℕ) → same (Number m) (Variable y) ≡ false)
    (variable : (x n : ℕ) → same (Variable x) (Number n) ≡ false) (variables : (x y : ℕ) → same (Variable x) (Variable y) ≡ eqb x y) where
  same-is : (t u : Term) → same t u ≡ term_eqb t u
  unfolding term_eqb
  same-is (Number m) (Number n) = numbers m n
  same-is (Number m) (Variable y) = number m y
  same-is (Variable x) (Number n) = variable x n
  same-is (Variable x) (Variable y) = variables x y

  -- what is the same in front does not count
  past : (xs ys ts us : List Term) → AllZip (λ x y. same x y ≡ true) xs ys → terms_eqb (xs ++ ts) (ys ++ us) ≡ terms_eqb ts us
  unfolding terms_eqb
  past [] [] ts us z = refl
  past [] (y ∷ ys) ts us z = absurd z
  past (x ∷ xs) [] ts us z = absurd z
  past (x ∷ xs) (y ∷ ys) ts us (e, z) = rw (sym (same-is x y) ∙ e) (past xs ys ts us z)

  ends : (ts us : List Term) (rest other : List Term) (o p : Option Term) (r : Bool) → MatchOption o ((ts ≡ []) × (rest ≡ [])) (λ x. ts ≡ x ∷ rest) → MatchOption p ((us ≡ []) × (other ≡ [])) (λ y. us ≡ y ∷ other)
      → MatchOption o (MatchOption p (r ≡ true) (λ _. r ≡ false)) (λ x. (r ≡ false) × IfSome p (λ y. same x y ≡ false)) → r ≡ terms_eqb ts us
  unfolding terms_eqb
  ends ts us rest other None None r a b e = rw (a.0, b.0) e
  ends ts us rest other None (Some y) r a b e = rw (a.0, b) e
  ends ts us rest other (Some x) None r a b e = rw (a, b.0) e.0
  ends ts us rest other (Some x) (Some y) r a b e = rw (a, b, sym (same-is x y) ∙ e.1) e.0

  pub same-terms : {S : Type 0} (rest : S → List Term) (s t : S) (r : Bool) → ComparesItemsByEq (YieldsFirst rest) (λ u it. it ≡ u) (YieldsFirst rest) s t same r → r ≡ terms_eqb (rest s) (rest t)
  same-terms rest s t r (it, xs, ys, o, p, u, v, e, (s1, y1, o1), (t1, y2, o2), z, l) =
      ends (rest s1) (rest t1) (rest u) (rest v) o p r o1 o2 l ∙ sym (past xs ys (rest s1) (rest t1) z) ∙ rw (came rest s s1 xs y1, ap rest (sym e), came rest it t1 ys y2) refl

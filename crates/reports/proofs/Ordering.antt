-- The order of lines.
use Rattle.std.proofs.Common.{◌≡◌, ℕ, ◌<◌, Bool, true, false, cond, eqb, ltb, ◌⊎◌, List, [], ◌∷◌, sym, refl, ap, ◌∙◌, ap₂, inl, inr, arith, ltb-true, lt-ltb, eq-eqb, ne_eqb, eqb-true}
use borrow.Author.Tests.{clash}
use Rattle.std.proofs.lemmas.Bool.{cases_order}
use Rattle.question.specs.declared.terms.Term.{Term}
use Rattle.question.specs.declared.terms.Term.TheVariants.{Number, Variable}
use Rattle.question.specs.Question.{Line}
use Rattle.question.specs.Layout.{terms_out}
use Rattle.question.proofs.Places.{line_path}
use Rattle.containment.specs.Order.{nums_less}
use Rattle.reports.specs.Widest.{line_nums, line_less}

less_head : (x y : ℕ) (xs ys : List ℕ) → x < y → nums_less (x ∷ xs) (y ∷ ys) ≡ true
unfolding nums_less
less_head x y xs ys h = ap (λ (b : Bool). cond b (nums_less xs ys) (ltb x y)) (ne_eqb x y (λ e. omega arith)) ∙ lt-ltb x y h

less_tail : (x y : ℕ) (xs ys : List ℕ) → x ≡ y → nums_less xs ys ≡ true → nums_less (x ∷ xs) (y ∷ ys) ≡ true
unfolding nums_less
less_tail x y xs ys e h = ap (λ (b : Bool). cond b (nums_less xs ys) (ltb x y)) (eq-eqb x y e) ∙ h

less_cases : (x y : ℕ) (xs ys : List ℕ) → nums_less (x ∷ xs) (y ∷ ys) ≡ true → (x < y) ⊎ ((x ≡ y) × (nums_less xs ys ≡ true))
unfolding nums_less
less_cases x y xs ys h = go (eqb x y) refl h
  where
    go : (b : Bool) → eqb x y ≡ b → cond b (nums_less xs ys) (ltb x y) ≡ true → (x < y) ⊎ ((x ≡ y) × (nums_less xs ys ≡ true))
    go true e k = inr (eqb-true x y e, k)
    go false e k = inl (ltb-true x y k)

pub nums_irr : (xs : List ℕ) → nums_less xs xs ≡ true → ⊥
unfolding nums_less
nums_irr [] h = clash h
nums_irr (x ∷ xs) h = elim (less_cases x x xs xs h) [ inl k ↦ omega arith | inr k ↦ nums_irr xs k.1 ]

pub nums_trans : (xs ys zs : List ℕ) → nums_less xs ys ≡ true → nums_less ys zs ≡ true → nums_less xs zs ≡ true
unfolding nums_less
nums_trans [] [] zs h k = absurd (clash h)
nums_trans [] (y ∷ ys) [] h k = absurd (clash k)
nums_trans [] (y ∷ ys) (z ∷ zs) h k = refl
nums_trans (x ∷ xs) [] zs h k = absurd (clash h)
nums_trans (x ∷ xs) (y ∷ ys) [] h k = absurd (clash k)
nums_trans (x ∷ xs) (y ∷ ys) (z ∷ zs) h k = go (less_cases x y xs ys h) (less_cases y z ys zs k) (λ a b. nums_trans xs ys zs a b)
  where
    go : (x < y) ⊎ ((x ≡ y) × (nums_less xs ys ≡ true)) → (y < z) ⊎ ((y ≡ z) × (nums_less ys zs ≡ true)) → (nums_less xs ys ≡ true → nums_less ys zs ≡ true → nums_less xs zs ≡ true) → nums_less (x ∷ xs) (z ∷ zs) ≡ true
    go (inl a) (inl b) f = less_head x z xs zs (omega arith)
    go (inl a) (inr b) f = less_head x z xs zs (omega (arith, b.0))
    go (inr a) (inl b) f = less_head x z xs zs (omega (arith, a.0))
    go (inr a) (inr b) f = less_tail x z xs zs (a.0 ∙ b.0) (f a.1 b.1)

pub nums_total : (xs ys : List ℕ) → (xs ≡ ys) ⊎ ((nums_less xs ys ≡ true) ⊎ (nums_less ys xs ≡ true))
unfolding nums_less
nums_total [] [] = inl refl
nums_total [] (y ∷ ys) = inr (inl refl)
nums_total (x ∷ xs) [] = inr (inr refl)
nums_total (x ∷ xs) (y ∷ ys) = go (cases_order x y) (nums_total xs ys)
  where
    go : (x ≡ y) ⊎ ((x < y) ⊎ (y < x)) → (xs ≡ ys) ⊎ ((nums_less xs ys ≡ true) ⊎ (nums_less ys xs ≡ true)) → ((x ∷ xs) ≡ (y ∷ ys)) ⊎ ((nums_less (x ∷ xs) (y ∷ ys) ≡ true) ⊎ (nums_less (y ∷ ys) (x ∷ xs) ≡ true))
    go (inl e) (inl f) = inl (ap₂ {C = List ℕ} (λ a r. a ∷ r) e f)
    go (inl e) (inr (inl h)) = inr (inl (less_tail x y xs ys e h))
    go (inl e) (inr (inr h)) = inr (inr (less_tail y x ys xs (sym e) h))
    go (inr (inl h)) f = inr (inl (less_head x y xs ys h))
    go (inr (inr h)) f = inr (inr (less_head y x ys xs h))

terms_out_one : (ss ts : List Term) → terms_out ss ≡ terms_out ts → ss ≡ ts
unfolding terms_out
terms_out_one [] [] e = refl
terms_out_one [] (Number n ∷ ts) e = let z : ◌≡◌ {A = ℕ} 0 1 = cc e in absurd (omega arith)
terms_out_one [] (Variable x ∷ ts) e = let z : ◌≡◌ {A = ℕ} 0 1 = cc e in absurd (omega arith)
terms_out_one (Number n ∷ ss) [] e = let z : ◌≡◌ {A = ℕ} 0 1 = cc e in absurd (omega arith)
terms_out_one (Variable x ∷ ss) [] e = let z : ◌≡◌ {A = ℕ} 0 1 = cc e in absurd (omega arith)
terms_out_one (Number m ∷ ss) (Number n ∷ ts) e = ap₂ {C = List Term} (λ a r. a ∷ r) (ap Number (cc e)) (terms_out_one ss ts (cc e))
terms_out_one (Number m ∷ ss) (Variable y ∷ ts) e = let z : ◌≡◌ {A = ℕ} 0 1 = cc e in absurd (omega arith)
terms_out_one (Variable x ∷ ss) (Number n ∷ ts) e = let z : ◌≡◌ {A = ℕ} 0 1 = cc e in absurd (omega arith)
terms_out_one (Variable x ∷ ss) (Variable y ∷ ts) e = ap₂ {C = List Term} (λ a r. a ∷ r) (ap Variable (cc e)) (terms_out_one ss ts (cc e))

pub line_irr : (l : Line) → line_less l l ≡ true → ⊥
unfolding line_less
line_irr l h = nums_irr (line_nums l) h

pub line_trans : (l m k : Line) → line_less l m ≡ true → line_less m k ≡ true → line_less l k ≡ true
unfolding line_less
line_trans l m k h i = nums_trans (line_nums l) (line_nums m) (line_nums k) h i

pub line_same : (l m : Line) → line_less l m ≡ false → line_less m l ≡ false → l ≡ m
unfolding line_less line_nums
line_same l m h k =
    elim (nums_total (line_nums l) (line_nums m)) [
      | inl e ↦ line_path l m (cc e) (terms_out_one l.cells m.cells (cc e))
      | inr s ↦ elim s [ inl i ↦ absurd (clash (sym h ∙ i)) | inr i ↦ absurd (clash (sym k ∙ i)) ]
    ]

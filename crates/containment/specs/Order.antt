-- Orders: rows of numbers and lists by the first place that differs (lexicographic), and what it is to stand in order. Assumes nothing: these are definitions.
use Rattle.std.specs.Prelude.{ℕ, Bool, true, false, cond, List, [], ◌∷◌, ◌==◌, nat_lt}
use Rattle.question.specs.Question.{In}

-- one row of numbers comes before another: by the first place that differs, or as its beginning
unfoldable pub nums_less : List ℕ → List ℕ → Bool
nums_less [] [] = false
nums_less [] (y ∷ ys) = true
nums_less (x ∷ xs) [] = false
nums_less (x ∷ xs) (y ∷ ys) = cond (x == y) (nums_less xs ys) (nat_lt x y)

-- each once
pub data Apart {A : Type 0} : List A → Type 0 where
  none_left : Apart []
  and_one : {a : A} {xs : List A} → (In a xs → ⊥) → Apart xs → Apart (a ∷ xs)

-- each stands before all that follow it: in order, each once
pub data Rising {A : Type 0} (before : A → A → Type 0) : List A → Type 0 where
  none_left : Rising before []
  and_one : {a : A} {xs : List A} → ((x : A) → In x xs → before a x) → Rising before xs → Rising before (a ∷ xs)

-- one list comes before another: by the first place that differs
pub data Earlier {A : Type 0} (before : A → A → Type 0) : List A → List A → Type 0 where
  by_head : {a b : A} {xs ys : List A} → before a b → Earlier before (a ∷ xs) (b ∷ ys)
  by_tail : {a : A} {xs ys : List A} → Earlier before xs ys → Earlier before (a ∷ xs) (a ∷ ys)

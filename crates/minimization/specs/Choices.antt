-- Choices from a list, by size and then in order, and the first that will do. Assumes nothing: these are definitions.
use Rattle.std.specs.Prelude.{ℕ, zero, suc, Bool, cond, List, [], ◌∷◌, ◌++◌, map, Some, None, Option}
use Rattle.std.specs.Option.{option_or}

-- all choices of n from the list, each in the list's order; first those with the list's first
unfoldable pub choices : {A : Type 0} → ℕ → List A → List (List A)
choices zero ws = [] ∷ []
choices (suc n) [] = []
choices (suc n) (w ∷ ws) = map (λ c. w ∷ c) (choices n ws) ++ choices (suc n) ws

-- the first of the list that passes
unfoldable pub first_right : {A : Type 0} → (A → Bool) → List A → Option A
first_right f [] = None
first_right f (c ∷ cs) = cond (f c) (Some c) (first_right f cs)

-- the first that passes of the choices that begin with p and go on with n of the list
unfoldable pub first_after : {A : Type 0} → (f : List A → Bool) (p : List A) (n : ℕ) (ws : List A) → Option (List A)
first_after f p n ws = first_right f (map (λ c. p ++ c) (choices n ws))

-- the first choice that passes, of k sizes from n on
unfoldable pub by_size : {A : Type 0} → (List A → Bool) → List A → (k n : ℕ) → Option (List A)
by_size f ws zero n = None
by_size f ws (suc k) n = option_or (first_right f (choices n ws)) (by_size f ws k (suc n))

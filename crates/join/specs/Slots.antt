-- Lines that name five slots each, a table of rows of five numbers, and values of the slots under which every line's row stands in the table. Assumes nothing: these are definitions.
use Rattle.std.specs.Prelude.{◌≡◌, ℕ, ◌<◌, ◌≤◌, List, [], ◌∷◌, length, Some, None, Option, slice_index, slice_index_or}
use Rattle.join.specs.Order.{Value, row_at}

-- the slot of a line's column
abbrev pub slot : List ℕ → ℕ → ℕ
slot line c = slice_index line c

-- the numbers of a line's slots
abbrev pub under : List ℕ → List ℕ → List ℕ
under line env = slice_index env (slot line 0) ∷ slice_index env (slot line 1) ∷ slice_index env (slot line 2) ∷ slice_index env (slot line 3) ∷ slice_index env (slot line 4) ∷ []

-- the line's row stands in the table
pub record Stands (rows : List (List ℕ)) (line : List ℕ) (v : Value) : Type 0 where
  pub place : ℕ
  pub inside : place < length rows
  pub is : (c : ℕ) → c < 5 → row_at rows place c ≡ v (slot line c)

unfoldable pub AllStand : List (List ℕ) → List (List ℕ) → Value → Type 0
AllStand rows lines v = (i : ℕ) → i < length lines → Stands rows (slice_index_or lines i []) v

-- the first k slots have these values
abbrev pub Agree : ℕ → List ℕ → Value → Type 0
Agree k env v = (j : ℕ) → j < k → v j ≡ slice_index env j

-- nothing is put yet from k on
abbrev pub Blank : ℕ → List ℕ → Type 0
Blank k env = (j : ℕ) → k ≤ j → slice_index env j ≡ 0

abbrev pub SlotsBelow : ℕ → List ℕ → Type 0
SlotsBelow n line = (c : ℕ) → c < 5 → slot line c < n

-- no value below the bound will do for the slot k in this line, and none at all without a bound
abbrev pub LineBound : List (List ℕ) → List ℕ → ℕ → List ℕ → Option ℕ → Type 0
LineBound rows line k env None = (v : Value) → Agree k env v → slice_index env k ≤ v k → Stands rows line v → ⊥
LineBound rows line k env (Some z) = (v : Value) → Agree k env v → slice_index env k ≤ v k → Stands rows line v → z ≤ v k

-- the same for all lines
abbrev pub Bound : List (List ℕ) → List (List ℕ) → ℕ → List ℕ → Option ℕ → Type 0
Bound rows lines k env None = (v : Value) → Agree k env v → slice_index env k ≤ v k → AllStand rows lines v → ⊥
Bound rows lines k env (Some z) = (slice_index env k ≤ z) × ((v : Value) → Agree k env v → slice_index env k ≤ v k → AllStand rows lines v → z ≤ v k)

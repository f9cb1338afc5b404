-- The first values in order that are wanted. Assumes nothing: these are definitions.
use Rattle.std.specs.Prelude.{◌≡◌, ℕ, ◌^◌, ◌<◌, ◌≤◌, List, [], length, Some, None, Option, slice_index, slice_index_or}
use Rattle.join.specs.Order.{Value, Before, cells, row_at}
use Rattle.join.specs.Slots.{Agree, AllStand, SlotsBelow, slot}

-- values that begin as given, under which all lines stand, and that are late enough
pub record Wanted (rows lines : List (List ℕ)) (shown k : ℕ) (env : List ℕ) (Late : Value → Type 0) (v : Value) : Type 0 where
  pub agree : Agree k env v
  pub stand : AllStand rows lines v
  pub late : Late v

-- the first of them in the order of the shown slots, or none
abbrev pub FirstValues : List (List ℕ) → List (List ℕ) → ℕ → ℕ → List ℕ → (Value → Type 0) → Option (List ℕ) → Type 0
FirstValues rows lines shown k env Late None = (v : Value) → Wanted rows lines shown k env Late v → ⊥
FirstValues rows lines shown k env Late (Some e) =
    Wanted rows lines shown k env Late (cells e) × ((v : Value) → Wanted rows lines shown k env Late v → Before shown v (cells e) → ⊥)

-- a column of the line names the slot
pub record Names (line : List ℕ) (j : ℕ) : Type 0 where
  pub column : ℕ
  pub narrow : column < 5
  pub is : slot line column ≡ j

-- a column of one of the lines does
pub record HasSlot (lines : List (List ℕ)) (j : ℕ) : Type 0 where
  pub line : ℕ
  pub inside : line < length lines
  pub column : ℕ
  pub narrow : column < 5
  pub is : slot (slice_index_or lines line []) column ≡ j

abbrev pub Covered : List (List ℕ) → ℕ → ℕ → Type 0
Covered lines k n = (j : ℕ) → k ≤ j → j < n → HasSlot lines j

abbrev pub AllBelow : ℕ → List (List ℕ) → Type 0
AllBelow n lines = (i : ℕ) → i < length lines → SlotsBelow n (slice_index_or lines i [])

abbrev pub Small : List (List ℕ) → Type 0
Small rows = (j c : ℕ) → row_at rows j c < 2 ^ 64

-- the last values begin as given, and some of the shown ones are left
abbrev pub Passing : ℕ → ℕ → List ℕ → List ℕ → Type 0
Passing shown k env last = (k ≤ shown) × ((j : ℕ) → j < k → slice_index last j ≡ slice_index env j)

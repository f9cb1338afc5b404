-- Rows in lexicographic order, told by the first place where they differ. Assumes nothing: these are definitions.
use Rattle.std.specs.Prelude.{◌≡◌, ℕ, ◌<◌, ◌≤◌, List, [], length, slice_index, slice_index_or}

abbrev pub Value : Type 0
Value = ℕ → ℕ

abbrev pub cells : List ℕ → Value
cells xs c = slice_index xs c

abbrev pub row_at : List (List ℕ) → ℕ → Value
row_at rows j c = slice_index (slice_index_or rows j []) c

-- the first comes before the second: they agree below a place, and there it is smaller
pub record Before (n : ℕ) (a b : Value) : Type 0 where
  pub place : ℕ
  pub inside : place < n
  pub same : (i : ℕ) → i < place → a i ≡ b i
  pub less : a place < b place

-- no row comes before an earlier one
abbrev pub Sorted : List (List ℕ) → Type 0
Sorted rows = (i j : ℕ) → i ≤ j → j < length rows → Before 5 (row_at rows j) (row_at rows i) → ⊥

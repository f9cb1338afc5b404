-- Two lines made into one: the slots of the new line, its rows, and the lines that are left. Assumes nothing: these are definitions.
use Rattle.std.specs.Prelude.{◌≡◌, ℕ, ◌+◌, ◌<◌, ◌≤◌, ◌≢◌, ◌⊎◌, List, [], length, get_or, Some, None, Option, slice_index, slice_index_or}
use Rattle.join.specs.Order.{Value, cells, row_at}
use Rattle.join.specs.Slots.{Agree, Stands, slot}
use Rattle.join.specs.FirstValues.{Names}
use Rattle.narrow.specs.Rows.{Fits, Held, with_front}

-- the line's number, which its rows have in front
abbrev pub number : List ℕ → List ℕ → ℕ
number env line = slice_index env (slot line 0)

-- the row is the new line's under values under which both lines stand
pub record Joint (rows : List (List ℕ)) (first second new : List ℕ) (k : ℕ) (env : List ℕ) (f : Value) : Type 0 where
  pub value : Value
  pub agree : Agree k env value
  pub stands_first : Stands rows first value
  pub stands_second : Stands rows second value
  pub is : Fits new f value

-- the new line stands in the new rows where both stood, and the rows of other lines are there
pub record Merged (rows : List (List ℕ)) (first second new : List ℕ) (k : ℕ) (env : List ℕ) (after : List (List ℕ)) : Type 0 where
  pub only : (f : Value) → Held after f → Joint rows first second new k env f ⊎ (Held rows f × (f 0 ≢ number env first))
  pub joined : (v : Value) → Agree k env v → Stands rows first v → Stands rows second v → Held after (λ c. v (slot new c))
  pub kept : (f : Value) → Held rows f → f 0 ≢ number env first → f 0 ≢ number env second → Held after f

abbrev pub Either : List ℕ → List ℕ → ℕ → Type 0
Either first second j = Names first j ⊎ Names second j

-- the new line has no other slots
abbrev pub WithinBoth : List ℕ → List ℕ → List ℕ → Type 0
WithinBoth first second new = (c : ℕ) → c < 5 → Either first second (slot new c)

-- values that begin as given and under which the two lines are the two rows
pub record Pair (first second : List ℕ) (f g : Value) (k : ℕ) (env : List ℕ) (v : Value) : Type 0 where
  pub agree : Agree k env v
  pub fits_first : Fits first f v
  pub fits_second : Fits second g v

-- such values, if there are any; all such values are the same at the slots of both lines
abbrev pub Both : List ℕ → List ℕ → Value → Value → ℕ → List ℕ → Option (List ℕ) → Type 0
Both first second f g k env None = (v : Value) → Pair first second f g k env v → ⊥
Both first second f g k env (Some e) = Pair first second f g k env (cells e) × ((v : Value) → Pair first second f g k env v → (j : ℕ) → Either first second j → slice_index e j ≡ v j)

-- the row h is the new line's under values under which the two lines are f and g
pub record Met (first second new : List ℕ) (k : ℕ) (env : List ℕ) (f g h : Value) : Type 0 where
  pub value : Value
  pub pair : Pair first second f g k env value
  pub is : Fits new h value

-- more rows of the new line: those where one line is f
pub record Shortened (line new : List ℕ) (k : ℕ) (env : List ℕ) (f : Value) (before after : List (List ℕ)) : Type 0 where
  pub only : (h : Value) → Held after h → Held before h ⊎ Met line line new k env f f h
  pub stay : (h : Value) → Held before h → Held after h
  pub all : (v : Value) → Pair line line f f k env v → Held after (λ c. v (slot new c))

-- the row of the second line that a key stands for
abbrev pub row_by : List ℕ → List ℕ → List (List ℕ) → ℕ → Value
row_by env second keys p = with_front (number env second) (row_at keys p)

pub record MetKey (first second new : List ℕ) (k : ℕ) (env : List ℕ) (f : Value) (keys : List (List ℕ)) (h : Value) : Type 0 where
  pub place : ℕ
  pub inside : place < length keys
  pub met : Met first second new k env f (row_by env second keys place) h

-- more rows of the new line: only where the first line is f, and all of those by the keys at the places meant
pub record Matched (first second new : List ℕ) (k : ℕ) (env : List ℕ) (f : Value) (keys : List (List ℕ)) (At : ℕ → Type 0) (before after : List (List ℕ)) : Type 0 where
  pub only : (h : Value) → Held after h → Held before h ⊎ MetKey first second new k env f keys h
  pub stay : (h : Value) → Held before h → Held after h
  pub all : (p : ℕ) → p < length keys → At p → (v : Value) → Pair first second f (row_by env second keys p) k env v → Held after (λ c. v (slot new c))

pub record MetRow (first second new : List ℕ) (k : ℕ) (env : List ℕ) (rows keys : List (List ℕ)) (h : Value) : Type 0 where
  pub place : ℕ
  pub inside : place < length rows
  pub met : MetKey first second new k env (row_at rows place) keys h

-- the rows of the new line by the first i rows: all where a row of the first line and a key have the same number in the column
pub record Paired (first second new : List ℕ) (k : ℕ) (env : List ℕ) (rows : List (List ℕ)) (i : ℕ) (keys : List (List ℕ)) (column : ℕ) (out : List (List ℕ)) : Type 0 where
  pub only : (h : Value) → Held out h → MetRow first second new k env rows keys h
  pub all : (j : ℕ) → j < i → row_at rows j 0 ≡ number env first → (p : ℕ) → p < length keys → row_at keys p 0 ≡ row_at rows j column →
      (v : Value) → Pair first second (row_at rows j) (row_by env second keys p) k env v → Held out (λ c. v (slot new c))

-- the rows of the new line under all values under which both stand
pub record Joined (rows : List (List ℕ)) (first second new : List ℕ) (k : ℕ) (env : List ℕ) (out : List (List ℕ)) : Type 0 where
  pub only : (h : Value) → Held out h → Joint rows first second new k env h
  pub all : (v : Value) → Agree k env v → Stands rows first v → Stands rows second v → Held out (λ c. v (slot new c))

-- the rows with other numbers in front, behind those before
pub record Others (rows : List (List ℕ)) (x y : ℕ) (before after : List (List ℕ)) : Type 0 where
  pub only : (h : Value) → Held after h → Held before h ⊎ (Held rows h × (h 0 ≢ x) × (h 0 ≢ y))
  pub stay : (h : Value) → Held before h → Held after h
  pub all : (h : Value) → Held rows h → h 0 ≢ x → h 0 ≢ y → Held after h

-- the slot is not shown, and no line but the two names it
pub record Free (lines : List (List ℕ)) (a b shown j : ℕ) : Type 0 where
  pub inner : shown ≤ j
  pub unnamed : (i : ℕ) → i < length lines → i ≢ a → i ≢ b → Names (slice_index_or lines i []) j → ⊥

-- the new line has the number's slot of the line a, and the slots of both lines that are not free
pub record Gathered (lines : List (List ℕ)) (a b shown k : ℕ) (new : List ℕ) : Type 0 where
  pub first : slot new 0 ≡ slot (slice_index_or lines a []) 0
  pub only : WithinBoth (slice_index_or lines a []) (slice_index_or lines b []) new
  pub each : (j : ℕ) → (Either (slice_index_or lines a []) (slice_index_or lines b []) j → k ≤ j → Names new j) ⊎ Free lines a b shown j

-- no other line has the number of one of the two
pub record Apart (lines : List (List ℕ)) (a b k : ℕ) (env : List ℕ) : Type 0 where
  pub first : slot (slice_index_or lines a []) 0 < k
  pub second : slot (slice_index_or lines b []) 0 < k
  pub others : (i : ℕ) → i < length lines → i ≢ a → i ≢ b →
      (slot (slice_index_or lines i []) 0 < k) × (number env (slice_index_or lines i []) ≢ number env (slice_index_or lines a [])) × (number env (slice_index_or lines i []) ≢ number env (slice_index_or lines b []))

-- the new line stands in the place a, and the line b is left out
pub record Replaced (lines : List (List ℕ)) (a b : ℕ) (new : List ℕ) (after : List (List ℕ)) : Type 0 where
  pub long : length after + 1 ≡ length lines
  pub here : get_or after a [] ≡ new
  pub before : (i : ℕ) → i < b → i ≢ a → slice_index_or after i [] ≡ slice_index_or lines i []
  pub behind : (i : ℕ) → b ≤ i → slice_index_or after i [] ≡ slice_index_or lines (i + 1) []

-- The columns of a line in the order of their slots. Assumes nothing: these are definitions.
use Rattle.std.specs.Prelude.{◌≡◌, ℕ, ◌+◌, ◌<◌, ◌≤◌, List, [], map, length, get_or, slice_index, slice_index_or}
use Rattle.std.specs.List.{All}
use Rattle.std.specs.List.Sorted.{IsNonDecreasingBy}
use Rattle.join.specs.Slots.{slot}
use Rattle.question.specs.declared.terms.Term.{Term}
use Rattle.question.specs.declared.terms.Term.TheVariants.{Number}
use Rattle.question.specs.Question.{Question}
use Rattle.answer.specs.declared.columns.Column.{Column}
use Rattle.answer.specs.declared.columns.PlannedLine.{PlannedLine}
use Rattle.answer.specs.Plan.{Reached, Plan, no_line}

-- each of the first w columns stands once among the first w numbers
pub record Columns (w : ℕ) (cols : List ℕ) : Type 0 where
  pub inside : (c : ℕ) → c < w → slice_index cols c < w
  pub each : (d : ℕ) → d < w → Reached cols w d

-- which columns they are
abbrev pub order_of : List Column → List ℕ
order_of cs = map (λ c. c.place) cs

abbrev pub orders_of : List PlannedLine → List (List ℕ)
orders_of ls = map (λ l. order_of l.columns.items) ls

-- the column at a place, with its term's slot
abbrev pub column_at : (Term → ℕ) → List Term → ℕ → Column
column_at place ts i = record { place = i; slot = place (slice_index_or ts i (Number 0)) }

-- the columns of some terms, each with its term's slot, in the order of the slots
pub record InOrder (place : Term → ℕ) (ts : List Term) (cs : List Column) : Type 0 where
  pub long : length cs ≡ length ts
  pub slots : All (λ c. c.slot ≡ place (slice_index_or ts c.place (Number 0))) cs
  pub columns : Columns (length ts) (order_of cs)
  pub rising : IsNonDecreasingBy (λ c. c.slot) cs

-- the columns of a line stand in the order of their terms' slots
pub record LineInOrder (place : Term → ℕ) (ts : List Term) (cols : List ℕ) : Type 0 where
  pub columns : Columns (length ts) cols
  pub rising : (c d : ℕ) → c ≤ d → d < length ts → place (slice_index_or ts (slice_index cols c) (Number 0)) ≤ place (slice_index_or ts (slice_index cols d) (Number 0))

-- the five slots of a line: its number's, those of its cells in the order of cols, and 0
pub record LineSlots (place : Term → ℕ) (ts : List Term) (cols line : List ℕ) (id : ℕ) : Type 0 where
  pub first : slot line 0 ≡ id
  pub slots : (c : ℕ) → c < length ts → slot line (c + 1) ≡ place (slice_index_or ts (slice_index cols c) (Number 0))
  pub zeros : (c : ℕ) → length ts ≤ c → c < 4 → slot line (c + 1) ≡ 0

-- the line with the number id, kept as slots
pub record IsPlannedLine (place : Term → ℕ) (ts : List Term) (id : ℕ) (l : PlannedLine) : Type 0 where
  pub long : length l.columns.items ≡ length ts
  pub order : LineInOrder place ts (order_of l.columns.items)
  pub line : LineSlots place ts (order_of l.columns.items) l.slots id

-- the slots of each line ascend
abbrev pub Ascending : Question → Plan → Type 0
Ascending q p = (i c d : ℕ) → i < length q.lines → c ≤ d → d < length (get_or q.lines i no_line).cells → slot (slice_index_or p.lines i []) (c + 1) ≤ slot (slice_index_or p.lines i []) (d + 1)

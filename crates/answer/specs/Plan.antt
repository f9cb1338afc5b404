-- A question kept as slots, for the join: which slots its terms have, and what the slots hold before the search. Assumes nothing: these are definitions.
use Rattle.std.specs.Prelude.{◌≡◌, ℕ, ◌+◌, ◌<◌, ◌≤◌, List, [], ◌∷◌, length, get_or, slice_index, slice_index_or}
use Rattle.join.specs.Slots.{Blank, slot}
use Rattle.join.specs.FirstValues.{AllBelow, Covered}
use Rattle.join.specs.RowsOut.{AllShown}
use Rattle.question.specs.declared.terms.Term.{Term}
use Rattle.question.specs.declared.terms.Term.TheVariants.{Number, Variable}
use Rattle.question.specs.Question.{Line, Question, In}

-- a number has its value among the first k slots, a variable a slot of its own behind them
abbrev pub Kept : (Term → ℕ) → (ℕ → ℕ) → ℕ → List ℕ → Term → Type 0
Kept place name k env (Number n) = (place (Number n) < k) × (slice_index env (place (Number n)) ≡ n)
Kept place name k env (Variable x) = (k ≤ place (Variable x)) × (name (place (Variable x)) ≡ x)

abbrev pub AllKept : (Term → ℕ) → (ℕ → ℕ) → ℕ → List ℕ → List Term → Type 0
AllKept place name k env ts = (t : Term) → In t ts → Kept place name k env t

-- the slots of some terms
unfoldable pub places : (Term → ℕ) → List Term → List ℕ
places place [] = []
places place (t ∷ ts) = place t ∷ places place ts

-- one of the first w columns is the cell d
pub record Reached (cols : List ℕ) (w d : ℕ) : Type 0 where
  pub from : ℕ
  pub narrow : from < w
  pub is : get_or cols from 0 ≡ d

-- the five slots of the line with the number id: one that holds the number, those of the cells in the order of cols, and slots that hold 0
pub record LinePlanned (place : Term → ℕ) (k : ℕ) (env : List ℕ) (l : Line) (line cols : List ℕ) (id : ℕ) : Type 0 where
  pub few : length l.cells ≤ 4
  pub id_slot : (slot line 0 < k) × (slice_index env (slot line 0) ≡ id)
  pub slots : (c : ℕ) → c < length l.cells → slot line (c + 1) ≡ place (slice_index_or l.cells (slice_index cols c) (Number 0))
  pub zeros : (c : ℕ) → length l.cells ≤ c → c < 4 → (slot line (c + 1) < k) × (slice_index env (slot line (c + 1)) ≡ 0)
  pub inside : (c : ℕ) → c < length l.cells → slice_index cols c < length l.cells
  pub each : (d : ℕ) → d < length l.cells → Reached cols (length l.cells) d

-- a plan: the slots below k have their values in env, those below `shown` are in the row, and there are n
pub record Plan : Type 0 where
  pub k : ℕ
  pub shown : ℕ
  pub n : ℕ
  pub env : List ℕ
  pub lines : List (List ℕ)
  pub row : List ℕ
  pub cols : List (List ℕ)

abbrev pub no_line : Line
no_line = record { table = 0; cells = [] }

-- the plan is one for the question
pub record Planned (q : Question) (p : Plan) : Type 0 where
  pub place : Term → ℕ
  pub name : ℕ → ℕ
  pub row_kept : AllKept place name p.k p.env q.row
  pub row_is : p.row ≡ places place q.row
  pub many : length p.lines ≡ length q.lines
  pub kept : (i : ℕ) → i < length q.lines → AllKept place name p.k p.env (get_or q.lines i no_line).cells
  pub line : (i : ℕ) → i < length q.lines → LinePlanned place p.k p.env (slice_index_or q.lines i no_line) (slice_index_or p.lines i []) (slice_index_or p.cols i []) i

-- the join takes the plan
pub record Joinable (p : Plan) : Type 0 where
  pub below : AllBelow p.n p.lines
  pub covered : Covered p.lines p.k p.shown
  pub k_shown : p.k ≤ p.shown
  pub shown_n : p.shown ≤ p.n
  pub room : p.n ≤ 24
  pub blank : Blank p.k p.env
  pub shows : AllShown p.row p.k p.shown
  pub row_shown : (c : ℕ) → c < length p.row → slot p.row c < p.shown

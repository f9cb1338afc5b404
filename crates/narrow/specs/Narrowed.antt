-- Other rows and lines that answer the same as far as slots are shown. Assumes nothing: these are definitions.
use Rattle.std.specs.Prelude.{ℕ, ◌<◌, List, length}
use Rattle.join.specs.Order.{Value}
use Rattle.join.specs.Slots.{slot}
use Rattle.join.specs.FirstValues.{AllBelow, Covered}
use Rattle.join.specs.RowsOut.{Asked, Answered}

-- what the join is asked with some rows and lines
abbrev pub asked : ℕ → List ℕ → List ℕ → List (List ℕ) → List (List ℕ) → Asked
asked k env row rows lines = record { rows = rows; lines = lines; k = k; env = env; row = row }

-- whatever row of shown slots is asked for, the same rows are answered; and the join can still be asked
pub record Narrowed (n shown k : ℕ) (env : List ℕ) (rows lines new-rows new-lines : List (List ℕ)) : Type 0 where
  pub below : AllBelow n new-lines
  pub covered : Covered lines k shown → Covered new-lines k shown
  pub same : (row : List ℕ) → ((c : ℕ) → c < length row → slot row c < shown) → (r : Value) →
      (Answered (asked k env row rows lines) r → Answered (asked k env row new-rows new-lines) r) × (Answered (asked k env row new-rows new-lines) r → Answered (asked k env row rows lines) r)

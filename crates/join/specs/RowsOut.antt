-- The rows of the values under which all lines stand, one after the other in lent memory. Assumes nothing: these are definitions.
use Rattle.std.specs.Prelude.{◌≡◌, ℕ, ◌+◌, ◌*◌, ◌<◌, ◌≤◌, ◌⊎◌, List, length, Ok, Err, Result, slice_index}
use Rattle.join.specs.Order.{Value, Before}
use Rattle.join.specs.Slots.{Agree, AllStand, slot}
use Rattle.join.specs.declared.output.NoRoomAfter.{NoRoomAfter}

-- the i-th of the rows of w numbers
abbrev pub row_of : List ℕ → ℕ → ℕ → Value
row_of out w i c = slice_index out (i * w + c)

-- what is asked: the first k slots have their values, the lines stand, and the row is that of these slots
pub record Asked : Type 0 where
  pub rows : List (List ℕ)
  pub lines : List (List ℕ)
  pub k : ℕ
  pub env : List ℕ
  pub row : List ℕ

pub record Answered (q : Asked) (r : Value) : Type 0 where
  pub value : Value
  pub agree : Agree q.k q.env value
  pub stand : AllStand q.rows q.lines value
  pub is : (c : ℕ) → c < length q.row → r c ≡ value (slot q.row c)

-- the row is one of the first `count`
pub record Among (q : Asked) (out : List ℕ) (count : ℕ) (r : Value) : Type 0 where
  pub place : ℕ
  pub inside : place < count
  pub is : (c : ℕ) → c < length q.row → row_of out (length q.row) place c ≡ r c

abbrev pub AfterAll : Asked → List ℕ → ℕ → Value → Type 0
AfterAll q out count r = (i : ℕ) → i < count → Before (length q.row) (row_of out (length q.row) i) r

-- the first rows answered, in order and each once; what follows is as it was
pub record Standing (q : Asked) (before out : List ℕ) (count : ℕ) : Type 0 where
  pub room : count * length q.row ≤ length out
  pub answered : (i : ℕ) → i < count → Answered q (row_of out (length q.row) i)
  pub rising : (i j : ℕ) → i < j → j < count → Before (length q.row) (row_of out (length q.row) i) (row_of out (length q.row) j)
  pub first : (r : Value) → Answered q r → Among q out count r ⊎ AfterAll q out count r
  pub rest : (p : ℕ) → count * length q.row ≤ p → slice_index out p ≡ slice_index before p

-- there is one more, and no room for it
pub record NoRoom (q : Asked) (out : List ℕ) (count : ℕ) : Type 0 where
  pub next : Value
  pub answered : Answered q next
  pub after : AfterAll q out count next
  pub short : length out < count * length q.row + length q.row

abbrev pub PutOut : Asked → List ℕ → List ℕ → Result ℕ NoRoomAfter → Type 0
PutOut q before out (Ok count) = Standing q before out count × ((r : Value) → Answered q r → Among q out count r)
PutOut q before out (Err e) = Standing q before out e.0 × NoRoom q out e.0

-- the shown slots stand in the row in order of their first place there
pub record Shows (row : List ℕ) (j : ℕ) : Type 0 where
  pub column : ℕ
  pub narrow : column < length row
  pub is : slot row column ≡ j
  pub first : (c : ℕ) → c < column → slot row c < j

abbrev pub AllShown : List ℕ → ℕ → ℕ → Type 0
AllShown row k shown = (j : ℕ) → k ≤ j → j < shown → Shows row j

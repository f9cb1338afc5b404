-- What is proved of reading and containment, each a statement that a function's contract names. Assumes nothing.
use Rattle.std.specs.Prelude.{◌≡◌, ℕ, ◌≤◌, true, ◌⊎◌, ◌↔◌}
use Rattle.question.specs.Question.{Question, Value, In, Within}
use Rattle.question.specs.Sound.{Allowed}
use Rattle.containment.specs.Reading.{Reads}
use Rattle.containment.specs.Search.{can_read}
use Rattle.containment.specs.OwnTables.{question_vars, ToldApart, Avoids, LeastNames, Shown, naming}

-- the search finds a reading exactly if there is one
abbrev pub SearchExact : Type 0
SearchExact = (q p : Question) → (can_read q p ≡ true) ↔ Reads q p

-- one question lies within another exactly if the other can be read into it (the homomorphism theorem)
abbrev pub WithinReading : Type 0
WithinReading = (p q : Question) → Within p q ↔ Reads q p

-- if the other can't be read into it, its own tables show so, whatever different numbers its variables are named that neither question names
abbrev pub AnyNaming : Type 0
AnyNaming = (p q : Question) (v : Value) → ToldApart v p → Avoids v p p → Avoids v p q → (Reads q p → ⊥) → Shown v p q

-- our naming is one of these
abbrev pub NamingNew : Type 0
NamingNew = (p q : Question) → ToldApart (naming p q) p × Avoids (naming p q) p p × Avoids (naming p q) p q

-- and its names are the least
abbrev pub NamingLeast : Type 0
NamingLeast = (p q : Question) → LeastNames (naming p q) p q

-- no other naming is new and the least: it names p's variables as ours does
abbrev pub NamingOnly : Type 0
NamingOnly = (p q : Question) (v : Value) → Avoids v p p → Avoids v p q → LeastNames v p q → (x : ℕ) → In x (question_vars p) → v x ≡ naming p q x

-- of questions that may be asked, no name is above 40
abbrev pub NamingSmall : Type 0
NamingSmall = (p q : Question) → Allowed p → Allowed q → (x : ℕ) → In x (question_vars p) → naming p q x ≤ 40

-- containment, exactly: it holds if the other can be read into it; if not, its own tables under our naming tell the two apart
abbrev pub WithinExact : Type 0
WithinExact = (p q : Question) → (Reads q p → Within p q) × ((Reads q p → ⊥) → Shown (naming p q) p q)

-- containment is decided: one question lies within the other, or it does not and its own tables under our naming show so
abbrev pub WithinDecided : Type 0
WithinDecided = (p q : Question) → Within p q ⊎ ((Within p q → ⊥) × Shown (naming p q) p q)

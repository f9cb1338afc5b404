-- The least question that says the same (core, minimal equivalent query). Assumes nothing: these are definitions.
use Rattle.std.specs.Prelude.{◌≡◌, ℕ, zero, suc, ◌<◌, Bool, true, List, [], ◌∷◌, map, length, slice_index_or}
use Rattle.std.specs.Option.{unwrap_or}
use Rattle.question.specs.Question.{Line, Question, Same, In}
use Rattle.question.specs.Sound.{sound}
use Rattle.containment.specs.Search.{can_read}
use Rattle.containment.specs.Order.{Rising}
use Rattle.minimization.specs.Choices.{by_size}

-- the lines without the i-th
unfoldable pub out_line : ℕ → List Line → List Line
out_line i [] = []
out_line zero (l ∷ ls) = ls
out_line (suc i) (l ∷ ls) = l ∷ out_line i ls

-- the question without its i-th line
unfoldable pub less_line : Question → ℕ → Question
less_line q i = record { row = q.row; lines = out_line i q.lines }

-- p is a least question for q: it says the same, and no line of it can be spared
pub record Least (q p : Question) : Type 0 where
  pub same : Same q p
  pub sound_too : sound p ≡ true
  pub no_line : (i : ℕ) → i < length p.lines → sound (less_line p i) ≡ true → Same q (less_line p i) → ⊥

-- with these lines of its own alone, the question says the same
unfoldable pub says_same : Question → List Line → Bool
says_same q ls = can_read q (record { row = q.row; lines = ls })

-- the least question: of all choices of its lines that say the same the fewest lines, and of those the first by places
unfoldable pub least : Question → Question
least q = record { row = q.row; lines = unwrap_or (by_size (says_same q) q.lines (length q.lines) 1) q.lines }

-- the lines at some places
unfoldable pub at_places : List Line → List ℕ → List Line
at_places ls ps = map (λ i. slice_index_or ls i (record { table = 0; cells = [] })) ps

-- places among the first n, in order and each once
pub record Places (n : ℕ) (ps : List ℕ) : Type 0 where
  pub rising : Rising ◌<◌ ps
  pub below : (i : ℕ) → In i ps → i < n

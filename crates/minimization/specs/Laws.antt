-- What is proved of least questions, each a statement that a function's contract names. Assumes nothing.
use Rattle.std.specs.Prelude.{◌≡◌, ℕ, ◌<◌, ◌≤◌, true, ◌⊎◌, List, [], ◌∷◌, length}
use Rattle.question.specs.declared.terms.Term.TheVariants.{Variable}
use Rattle.question.specs.Question.{Line, Question, Same}
use Rattle.question.specs.Sound.{sound}
use Rattle.containment.specs.Reading.{Reads}
use Rattle.containment.specs.Order.{Earlier}
use Rattle.minimization.specs.Least.{Least, says_same, least, at_places, Places}

-- the least question as it is made is one
abbrev pub LeastMade : Type 0
LeastMade = (q : Question) → sound q ≡ true → Least q (least q)

-- no question that says the same has fewer lines
abbrev pub FewestLines : Type 0
FewestLines = (q p : Question) → sound q ≡ true → Same q p → length (least q).lines ≤ length p.lines

-- its lines are the question's at some places, and these come first of all choices of as many places that say the same
pub record FirstPlaces (q : Question) : Type 0 where
  pub places : List ℕ
  pub proper : Places (length q.lines) places
  pub is : (least q).lines ≡ at_places q.lines places
  pub first : (ps : List ℕ) → Places (length q.lines) ps → length ps ≡ length places → Same q (record { row = q.row; lines = at_places q.lines ps })
      → (places ≡ ps) ⊎ Earlier ◌<◌ places ps

abbrev pub LeastFirst : Type 0
LeastFirst = (q : Question) → sound q ≡ true → FirstPlaces q

-- every sound question has a least one, with no more lines; all of them have equally many lines, and can be read into each other
abbrev pub OneLeast : Type 0
OneLeast =
    (q : Question) → sound q ≡ true →
    ((p : Question) × Least q p × (length p.lines ≤ length q.lines))
    × ((p o : Question) → Least q p → Least q o → (length p.lines ≡ length o.lines) × Reads p o × Reads o p)

-- a question with two least choices: x0 of 3: x0 x1, 3: x0 x3, 3: x3 x4, 3: x1 x2
abbrev pub pair : ℕ → ℕ → Line
pair x y = record { table = 3; cells = Variable x ∷ Variable y ∷ [] }

abbrev pub two_ways : Question
two_ways = record { row = Variable 0 ∷ []; lines = pair 0 1 ∷ pair 0 3 ∷ pair 3 4 ∷ pair 1 2 ∷ [] }

-- the places 1 and 2 say the same, and are what is left where lines are dropped one by one, from either end; ours are 0 and 3
pub record TwoWays : Type 0 where
  pub other : says_same two_ways (pair 0 3 ∷ pair 3 4 ∷ []) ≡ true
  pub first : least two_ways ≡ record { row = Variable 0 ∷ []; lines = pair 0 1 ∷ pair 1 2 ∷ [] }

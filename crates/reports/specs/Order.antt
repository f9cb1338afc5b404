-- The order of lines as the library compares them. Assumes nothing: these are definitions.
use Rattle.std.specs.Prelude.{ℕ, List, drop, slice_index}
use Rattle.std.specs.declared.cmp.Ordering.{Ordering}
use Rattle.std.specs.Ordering.{ordering_then, nat_cmp}
use Rattle.std.specs.Cmp.Lexicographic.{slice_cmp}
use Rattle.question.specs.Question.{Line}
use Rattle.reports.specs.Widest.{line_nums}

-- two lines as ten numbers: their tables, then the room for terms, then how many terms there are
abbrev pub written_cmp : List ℕ → List ℕ → Ordering
written_cmp xs ys = ordering_then (ordering_then (nat_cmp (slice_index xs 0) (slice_index ys 0)) (slice_cmp nat_cmp (drop 2 xs) (drop 2 ys))) (nat_cmp (slice_index xs 1) (slice_index ys 1))

-- two lines as the numbers that put them in order
abbrev pub line_cmp : Line → Line → Ordering
line_cmp l m = slice_cmp nat_cmp (line_nums l) (line_nums m)

-- The whole search from its two parts: the rows, then the lines.
use Rattle.std.proofs.Common.{◌≡◌, is_some, Some, None, Option, refl, ap, ◌∙◌}
use Rattle.question.specs.Question.{Question}
use Rattle.containment.specs.declared.reading.Reading.{Reading}
use Rattle.containment.specs.Search.{Part, nothing, match_terms, read_lines, first_reading, can_read}
use Rattle.containment.specs.Told.{told}

pub rows_differ : (q p : Question) → match_terms nothing q.row p.row ≡ None → first_reading q p ≡ None
unfolding first_reading
rows_differ q p e = rw e

pub rows_match : (q p : Question) (s : Part) → match_terms nothing q.row p.row ≡ Some s → first_reading q p ≡ read_lines q.lines p.lines s
unfolding first_reading
rows_match q p s e = rw e

-- something is told where there is something
pub told-or-not : (o : Option Reading) → is_some o ≡ is_some (told o)
told-or-not None = refl
told-or-not (Some r) = refl

-- what is told tells whether the question can be read
pub told-can_read : (q p : Question) (o : Option Reading) → told o ≡ first_reading q p → is_some o ≡ can_read q p
unfolding can_read
told-can_read q p o e = told-or-not o ∙ ap is_some e

-- A question with two least choices, computed.
use Rattle.std.proofs.Common.{refl}
use Rattle.containment.specs.Search.{term_eqb, match_var, match_term, match_terms, match_line, try_lines, read_lines, first_reading, can_read}
use Rattle.minimization.specs.Choices.{choices, first_right, by_size}
use Rattle.minimization.specs.Least.{says_same, least}
use Rattle.minimization.specs.Laws.{TwoWays}

pub two_ways : TwoWays
unfolding term_eqb match_var match_term match_terms match_line try_lines read_lines first_reading can_read choices first_right by_size says_same least
two_ways = record { other = refl; first = refl }

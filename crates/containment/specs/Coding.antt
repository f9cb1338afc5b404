-- A part of a reading as a row of numbers, one for each variable: how a program keeps it. Assumes nothing: these are definitions.
use Rattle.std.specs.Prelude.{ℕ, ◌-◌, cond, List, Some, None, Option, nat_lt, slice_index_or}
use Rattle.question.specs.declared.terms.Term.{Term}
use Rattle.question.specs.declared.terms.Term.TheVariants.{Number, Variable}
use Rattle.containment.specs.Search.{Part}

-- a variable that is not put yet: 2^33
abbrev pub not_put : ℕ
not_put = 8589934592

-- what a number stands for
unfoldable pub decode : ℕ → Option Term
decode k = cond (nat_lt k 4294967296) (Some (Number k)) (cond (nat_lt k 8589934592) (Some (Variable (k - 4294967296))) None)

-- the part of a reading that a row of numbers is
abbrev pub part_of : List ℕ → Part
part_of a x = decode (slice_index_or a x 8589934592)

-- Why a question from a file may not be asked of tables from files. Assumes nothing: these are definitions.
use Rattle.std.specs.Prelude.{ℕ, cond, List, length, Some, None, Option, nat_le}
use Rattle.question.specs.declared.refusals.Refusal.{Refusal}
use Rattle.question.specs.declared.refusals.Refusal.TheVariants.{CutShort}
use Rattle.question.specs.Check.{question_refusal}
use Rattle.wire.specs.Bytes.{question_of}

-- the first refusal that there is
abbrev pub or_else : Option Refusal → Option Refusal → Option Refusal
or_else (Some refusal) other = Some refusal
or_else None other = other

-- there are at most sixteen tables
abbrev pub tables_refusal : ℕ → ℕ → Option Refusal
tables_refusal count size = cond (nat_le count 16) None (Some (CutShort size))

abbrev pub read_refusal : ℕ → Option Refusal → Option (List ℕ) → Option Refusal
read_refusal size other (Some numbers) = or_else (question_refusal numbers) other
read_refusal size other None = Some (CutShort size)

-- the bytes are cut short, or hold no question, or there are too many tables
abbrev pub refusal_of : List ℕ → ℕ → ℕ → Option Refusal
refusal_of bytes count size = read_refusal (length bytes) (tables_refusal count size) (question_of bytes)

-- How lent tables are turned away. Assumes nothing: these are definitions.
use Rattle.std.specs.Prelude.{ℕ, zero, suc, ◌+◌, Bool, true, cond, ◌&&◌, List, length, drop, Some, None, Option, nat_le, slice_index}
use Rattle.std.specs.Option.{option_map, option_or}
use Rattle.question.specs.declared.refusals.Refusal.{Refusal}
use Rattle.question.specs.declared.refusals.Refusal.TheVariants.{CutShort, TableTooLarge}
use Rattle.question.specs.Tables.{table_size}

-- n tables lie in the numbers, each as long as its counts announce
unfoldable pub all_there : ℕ → List ℕ → Bool
all_there zero xs = true
all_there (suc n) xs = nat_le (table_size xs) (length xs) && all_there n (drop (table_size xs) xs)

-- there is a count, it is at most sixteen, and that many tables are all there
unfoldable pub tables_whole : List ℕ → Bool
tables_whole xs = nat_le 1 (length xs) && (nat_le (slice_index xs 0) 16 && all_there (slice_index xs 0) (drop 1 xs))

-- the table at the front has at most 4,096 rows and four columns
abbrev pub table_fits : List ℕ → Bool
table_fits xs = nat_le (slice_index xs 1) 4096 && nat_le (slice_index xs 2) 4

-- the first of n tables that is too large, counted from i
unfoldable pub table_fault : (n i : ℕ) → List ℕ → Option ℕ
table_fault zero i xs = None
table_fault (suc n) i xs = cond (table_fits xs) (table_fault n (i + 1) (drop (table_size xs) xs)) (Some i)

-- number 1 at their length, where lent tables are cut short or too many
abbrev pub tables_short : List ℕ → Option Refusal
tables_short xs = cond (tables_whole xs) None (Some (CutShort (length xs)))

-- how lent tables are turned away: number 1, else number 7 at the first that is too large
unfoldable pub tables_refusal : List ℕ → Option Refusal
tables_refusal xs = option_or (tables_short xs) (option_map TableTooLarge (table_fault (slice_index xs 0) 0 (drop 1 xs)))

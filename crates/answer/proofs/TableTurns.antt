-- What the check of lent tables says turn by turn: the next table, the one that stops, and the end.
use Rattle.std.proofs.Common.{◌≡◌, ℕ, suc, ◌+◌, ◌-◌, ◌<◌, ◌≤◌, true, false, cond, ◌&&◌, leb, List, [], ◌∷◌, length, get_or, take, drop, Option, Some, None, Result, Ok, Err, MatchResult, refl, ap, ◌∙◌, zero, add-one, leb-true, arith}
use Rattle.std.proofs.lemmas.Bool.Decides.{nat_tests}
use Rattle.std.proofs.lemmas.Bool.{and_parts}
use Rattle.question.specs.declared.refusals.Refusal.{Refusal}
use Rattle.question.specs.declared.refusals.Refusal.TheVariants.{TableTooLarge}
use Rattle.std.specs.Option.{option_map}
use Rattle.question.specs.Tables.{table_size, table_rows, tables_in}
use Rattle.question.specs.Tables.{rows_in}
use Rattle.answer.specs.TableCheck.{all_there, table_fits, table_fault, tables_short, tables_refusal}
use Rattle.answer.specs.Lent.{tables_from}

there-more : (n i : ℕ) (xs : List ℕ) → i < n → all_there (n - i) xs ≡ (leb (table_size xs) (length xs) && all_there (n - (i + 1)) (drop (table_size xs) xs))
unfolding all_there
there-more n i xs h = let e : n - i ≡ suc (n - (i + 1)) = omega arith in rw e

pub there-next : (n i : ℕ) (xs : List ℕ) → i < n → table_size xs ≤ length xs → all_there (n - i) xs ≡ all_there (n - (i + 1)) (drop (table_size xs) xs)
there-next n i xs h g =
    let e : leb (table_size xs) (length xs) ≡ true = grind (arith, nat_tests) in
    simp e at (there-more n i xs h)

pub there_stop : (n i : ℕ) (xs : List ℕ) → i < n → length xs < table_size xs → all_there (n - i) xs ≡ false
there_stop n i xs h g =
    let e : leb (table_size xs) (length xs) ≡ false = grind (arith, nat_tests) in
    simp e at (there-more n i xs h)

pub there_end : (n i : ℕ) (xs : List ℕ) → n ≤ i → all_there (n - i) xs ≡ true
unfolding all_there
there_end n i xs h = let e : n - i ≡ 0 = omega arith in rw e

-- tables and rows one by one
pub tables_none : (n : ℕ) (xs : List ℕ) → n < 1 → tables_from n xs ≡ []
unfolding tables_from
tables_none n xs h = let e : n ≡ 0 = omega arith in rw e

pub tables-next : (n m : ℕ) (xs : List ℕ) → n ≡ m + 1 → tables_from n xs ≡ xs ∷ tables_from m (drop (table_size xs) xs)
unfolding tables_from
tables-next n m xs e = rw (e, add-one)

pub there-one : (n m : ℕ) (xs : List ℕ) → n ≡ m + 1 → all_there n xs ≡ true → (table_size xs ≤ length xs) × (all_there m (drop (table_size xs) xs) ≡ true)
unfolding all_there
there-one n m xs e h =
    let p = and_parts (leb (table_size xs) (length xs)) (all_there m (drop (table_size xs) xs)) (rw (e, add-one) at h) in
    (leb-true _ _ p.0, p.1)

pub length-tables_from : (n : ℕ) (xs : List ℕ) → length (tables_from n xs) ≡ n
unfolding tables_from
length-tables_from zero xs = refl
length-tables_from (suc n) xs = ap suc (length-tables_from n (drop (table_size xs) xs))

pub no-rows : (n w : ℕ) (xs : List ℕ) → n < 1 → rows_in n w xs ≡ []
unfolding rows_in
no-rows n w xs h = let e : n ≡ 0 = omega arith in rw e

pub rows-next : (n m w : ℕ) (xs : List ℕ) → n ≡ m + 1 → rows_in n w xs ≡ take w xs ∷ rows_in m w (drop w xs)
unfolding rows_in
rows-next n m w xs e = rw (e, add-one)

pub length-rows_in : (n w : ℕ) (xs : List ℕ) → length (rows_in n w xs) ≡ n
unfolding rows_in
length-rows_in zero w xs = refl
length-rows_in (suc n) w xs = ap suc (length-rows_in n w (drop w xs))

-- the first table that is too large, of tables one by one
abbrev pub large_from : ℕ → List (List ℕ) → Option ℕ
large_from i [] = None
large_from i (t ∷ ts) = cond (table_fits t) (large_from (i + 1) ts) (Some i)

pub fault-listed : (n i : ℕ) (xs : List ℕ) → table_fault n i xs ≡ large_from i (tables_from n xs)
unfolding table_fault tables_from
fault-listed zero i xs = refl
fault-listed (suc n) i xs = ap (λ o. cond (table_fits xs) o (Some i)) (fault-listed n (i + 1) (drop (table_size xs) xs))

pub large-stop : (i : ℕ) (ts : List (List ℕ)) (t : List ℕ) (us : List (List ℕ)) → ts ≡ t ∷ us → table_fits t ≡ false → large_from i ts ≡ Some i
large-stop i ts t us e h = rw (e, h) refl

pub large-next : (i : ℕ) (ts : List (List ℕ)) (t : List ℕ) (us : List (List ℕ)) → ts ≡ t ∷ us → table_fits t ≡ true → large_from i ts ≡ large_from (i + 1) us
large-next i ts t us e h = rw (e, h) refl

-- tables that are whole are turned away for the first that is too large, and for nothing else
pub large-told : (xs : List ℕ) (r : Result ℕ Refusal) (count : ℕ) (left : List ℕ) → tables_short xs ≡ None → count ≡ get_or xs 0 0 → left ≡ drop 1 xs
    → MatchResult r (λ n. (table_fault count 0 left ≡ None) × (n ≡ count)) (λ e. option_map TableTooLarge (table_fault count 0 left) ≡ Some e)
    → MatchResult r (λ n. (tables_refusal xs ≡ None) × (n ≡ get_or xs 0 0)) (λ e. tables_refusal xs ≡ Some e)
unfolding tables_refusal
large-told xs (Ok n) count left s a b h = (rw s (rw (← a, ← b, h.0) refl), h.1 ∙ a)
large-told xs (Err e) count left s a b h = rw s (rw (← a, ← b) h)

pub short-told : (xs : List ℕ) (e : Refusal) → tables_short xs ≡ Some e → tables_refusal xs ≡ Some e
unfolding tables_refusal
short-told xs e h = rw h refl

-- what whole tables hold
pub base-is : (xs : List ℕ) (count : ℕ) (left : List ℕ) → count ≡ get_or xs 0 0 → left ≡ drop 1 xs → (λ t. table_rows count t left) ≡ tables_in xs
unfolding tables_in
base-is xs count left a b = rw (a, b) refl

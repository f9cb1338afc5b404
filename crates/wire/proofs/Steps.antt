-- The steps of the readers: what one reading after another gives.
use Rattle.std.proofs.Common.{◌≡◌, ℕ, ◌+◌, ◌*◌, ◌<◌, ◌≤◌, List, [], ◌∷◌, length, get_or, take, drop, Some, None, Ok, Err, Option, Result, refl, ap, arith}
use Rattle.std.specs.Option.{ok_or}
use Rattle.wire.specs.Bytes.{Reads, ◌>>=◌, read_number}

-- what was read is handed on
pub then_read : {A B : Type 0} (read : Reads A) (next : A → Reads B) (bytes rest : List ℕ) (a : A) → read bytes ≡ Some (a, rest)
    → ◌>>=◌ read next bytes ≡ next a rest
unfolding ◌>>=◌
then_read read next bytes rest a e = rw e

-- where the first is cut short, so is the whole
pub then_short : {A B : Type 0} (read : Reads A) (next : A → Reads B) (bytes : List ℕ) → read bytes ≡ None → ◌>>=◌ read next bytes ≡ None
unfolding ◌>>=◌
then_short read next bytes e = rw e

-- four bytes, or fewer
pub number_short : (xs : List ℕ) → length xs < 4 → read_number xs ≡ None
unfolding read_number ◌>>=◌
number_short [] h = refl
number_short (a ∷ []) h = refl
number_short (a ∷ b ∷ []) h = refl
number_short (a ∷ b ∷ c ∷ []) h = refl
number_short (a ∷ b ∷ c ∷ d ∷ xs) h = absurd (omega arith)

pub number_whole : (xs : List ℕ) → 4 ≤ length xs
    → read_number xs ≡ Some (get_or (take 4 xs) 0 0 + get_or (take 4 xs) 1 0 * 256 + get_or (take 4 xs) 2 0 * 65536 + get_or (take 4 xs) 3 0 * 16777216, drop 4 xs)
unfolding read_number ◌>>=◌
number_whole [] h = absurd (omega arith)
number_whole (a ∷ []) h = absurd (omega arith)
number_whole (a ∷ b ∷ []) h = absurd (omega arith)
number_whole (a ∷ b ∷ c ∷ []) h = absurd (omega arith)
number_whole (a ∷ b ∷ c ∷ d ∷ xs) h = refl

-- a value that `ok_or` was called at, where it gave an `Err` and where it gave an `Ok`
pub none_from : {A E : Type 0} (o : Option A) (fault e : E) → ◌≡◌ {A = Result A E} (Err e) (ok_or o fault) → (o ≡ None) × (e ≡ fault)
none_from None fault e h = (refl, cc h)
none_from (Some n) fault e h = absurd (let z : ◌≡◌ {A = ℕ} 0 1 = cc h in omega arith)

pub some_from : {A E : Type 0} (o : Option A) (fault : E) (n : A) → ◌≡◌ {A = Result A E} (Ok n) (ok_or o fault) → o ≡ Some n
some_from (Some m) fault n h = ap Some (cc h)
some_from None fault n h = absurd (let z : ◌≡◌ {A = ℕ} 0 1 = cc h in omega arith)

-- The number of a cell, digit by digit.
use Rattle.std.proofs.Common.{◌≡◌, ℕ, ◌+◌, ◌-◌, ◌*◌, ◌<◌, ◌≤◌, true, false, ◌&&◌, ltb, leb, List, [], ◌∷◌, length, get_or, drop, Some, None, Option, refl, ◌∙◌, inl, inr, arith}
use Rattle.std.proofs.lemmas.List.{at_drop_more, at_drop_all}
use Rattle.std.proofs.lemmas.Bool.Decides.{nat_tests, leb_tells}
use Rattle.std.proofs.lemmas.Str.{digit_value_digit}
use Rattle.std.proofs.lemmas.Str.Parse.{digit_from_value}
use Rattle.std.specs.Char.{digit_value}
use Rattle.std.specs.Option.{SomeIff}
use Rattle.wire.specs.Tables.{digit_more, digits_more, cell_number}

-- a digit that the number has no room for, and one whose sum is tried
pub digit_large : (n d : ℕ) → (n * 10 < 18446744073709551616 → ⊥) → digit_more n d ≡ None
unfolding digit_more
digit_large n d h =
    let t : (leb 48 d && leb d 57 && ltb (n * 10 + (d - 48)) 18446744073709551616) ≡ false = grind (arith, nat_tests) in
    rw t

pub digit_fits : (n d ten one : ℕ) (r : Option ℕ) → (48 ≤ d) × (d ≤ 57) → ten ≡ n * 10 → one ≡ d - 48
    → SomeIff r (ten + one < 18446744073709551616) (ten + one) → r ≡ digit_more n d
unfolding digit_more
digit_fits n d ten one (Some x) k p q h =
    let t : (leb 48 d && leb d 57 && ltb (n * 10 + (d - 48)) 18446744073709551616) ≡ true = grind (arith, nat_tests) in
    rw (t, h.1, p, q)
digit_fits n d ten one None k p q h =
    let m : 18446744073709551616 ≤ n * 10 + (d - 48) = grind arith in
    let t : (leb 48 d && leb d 57 && ltb (n * 10 + (d - 48)) 18446744073709551616) ≡ false = grind (arith, nat_tests) in
    rw t

-- a byte that is a digit, by its value, and one that is none
pub digit_from : (d v : ℕ) → v ≡ digit_value d → v < 10 → (48 ≤ d) × (d ≤ 57) × (v ≡ d - 48)
digit_from d v e h =
    let r = digit_from_value d (omega (arith, e)) in
    let k = digit_value_digit d r in
    (omega (arith, e, k), omega (arith, e, k), omega (arith, e, k))

pub digit_none : (n d : ℕ) → (digit_value d < 10 → ⊥) → digit_more n d ≡ None
unfolding digit_more
digit_none n d h =
    elim (leb_tells 48 d) [
      | inl a ↦
          elim (leb_tells d 57) [
            | inl b ↦ absurd (h (omega (arith, a.1, b.1, digit_value_digit d (a.1, b.1))))
            | inr b ↦ let t : (leb 48 d && leb d 57 && ltb (n * 10 + (d - 48)) 18446744073709551616) ≡ false = grind (arith, nat_tests) in rw t
          ]
      | inr a ↦ let t : (leb 48 d && leb d 57 && ltb (n * 10 + (d - 48)) 18446744073709551616) ≡ false = grind (arith, nat_tests) in rw t
    ]

pub number-none : (xs : List ℕ) → length xs ≡ 0 → cell_number xs ≡ None
unfolding cell_number
number-none [] h = refl
number-none (x ∷ xs) h = absurd (omega arith)

pub number-some : (xs : List ℕ) → 0 < length xs → cell_number xs ≡ digits_more 0 xs
unfolding cell_number
number-some [] h = absurd (omega arith)
number-some (x ∷ xs) h = refl

-- one digit more, a byte that is none, and the end
pub digits_step : (n m : ℕ) (xs : List ℕ) (i : ℕ) → i < length xs → digit_more n (get_or xs i 0) ≡ Some m → digits_more n (drop i xs) ≡ digits_more m (drop (i + 1) xs)
unfolding digits_more
digits_step n m xs i h e = at_drop_more (digits_more n) xs i 0 h ∙ rw e

pub digits_stop : (n : ℕ) (xs : List ℕ) (i : ℕ) → i < length xs → digit_more n (get_or xs i 0) ≡ None → digits_more n (drop i xs) ≡ None
unfolding digits_more
digits_stop n xs i h e = at_drop_more (digits_more n) xs i 0 h ∙ rw e

pub digits_end : (n : ℕ) (xs : List ℕ) (i : ℕ) → length xs ≤ i → digits_more n (drop i xs) ≡ Some n
unfolding digits_more
digits_end n xs i h = at_drop_all (digits_more n) xs i h

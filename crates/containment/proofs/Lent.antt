-- The next line of a loop over lines in their numbers.
use Rattle.std.proofs.Common.{◌≡◌, ℕ, ◌+◌, ◌<◌, true, List, ◌∷◌, drop}
use Rattle.question.specs.Layout.{line_in, line_fits, lines_in, lines_fit, line_part}
use Rattle.question.proofs.Fitting.{lines-fit-at}
use Rattle.question.proofs.Decoding.{lines_in-next}

pub next-line : (limit n i : ℕ) (xs part : List ℕ) → i < n → lines_fit limit n xs ≡ true → part ≡ line_part i xs → drop i (lines_in n xs) ≡ line_in part ∷ drop (i + 1) (lines_in n xs)
next-line limit n i xs part h f e = rw e (lines_in-next limit n i xs h f)

pub next_fits : (limit n i : ℕ) (xs part : List ℕ) → i < n → lines_fit limit n xs ≡ true → part ≡ line_part i xs → line_fits limit part ≡ true
next_fits limit n i xs part h f e = rw e (lines-fit-at limit n i xs h f)

-- What is still to come in a list: the next of it, and the end.
use Rattle.std.proofs.Common.{◌≡◌, ℕ, suc, ◌+◌, ◌<◌, ◌≤◌, List, [], ◌∷◌, length, drop, sym, ap, ◌∙◌, arith}
use Rattle.std.proofs.lemmas.List.{drop-drop, length-drop}

-- where something comes at i, the rest comes behind it
pub next-dropped : {A : Type 0} (i : ℕ) (xs : List A) (x : A) (ys : List A) → drop i xs ≡ x ∷ ys → ys ≡ drop (i + 1) xs
next-dropped i xs x ys e = sym (ap (drop 1) e) ∙ drop-drop 1 i xs

pub next-below : {A : Type 0} (i : ℕ) (xs : List A) (x : A) (ys : List A) → drop i xs ≡ x ∷ ys → i < length xs
next-below i xs x ys e = let l : length (drop i xs) ≡ suc (length ys) = ap length e in omega (arith, length-drop i xs, l)

-- where nothing comes, the end is reached
pub none-left : {A : Type 0} (i : ℕ) (xs : List A) → drop i xs ≡ [] → length xs ≤ i
none-left i xs e = let l : length (drop i xs) ≡ 0 = ap length e in omega (arith, length-drop i xs, l)

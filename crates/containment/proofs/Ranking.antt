-- The place of a number among those of a list: rank rises with them, and misses none.
use Rattle.std.proofs.Common.{◌≡◌, ℕ, zero, suc, ◌<◌, ◌≤◌, Bool, true, false, cond, List, map, length, refl, ap, subst, inl, inr, not-suc-le-zero, arith}
use lib.ListN.{length-map}
use Rattle.std.proofs.lemmas.Bool.{cases_order, cases_eq}
use Rattle.question.specs.Question.{In}
use Rattle.question.specs.Sound.{has}
use Rattle.question.proofs.Members.{has_in, in_has}
use Rattle.question.proofs.Places.{in_map}
use Rattle.containment.specs.OwnTables.{rank}
use Rattle.containment.proofs.Counting.{apart-length, rising-apart, from_on, length_from, from_in, from-rising}

-- a program's steps: a number that is in the list counts, another one does not
pub rank_counts : (xs : List ℕ) (x : ℕ) → has xs x ≡ true → rank xs (suc x) ≡ suc (rank xs x)
unfolding rank
rank_counts xs x e = ap (λ (b : Bool). cond b (suc (rank xs x)) (rank xs x)) e

pub rank_passes : (xs : List ℕ) (x : ℕ) → has xs x ≡ false → rank xs (suc x) ≡ rank xs x
unfolding rank
rank_passes xs x e = ap (λ (b : Bool). cond b (suc (rank xs x)) (rank xs x)) e

rank_up : (xs : List ℕ) (x : ℕ) → rank xs x ≤ rank xs (suc x)
rank_up xs x = go (has xs x) refl
  where
    go : (b : Bool) → has xs x ≡ b → rank xs x ≤ rank xs (suc x)
    go true e = let r = rank_counts xs x e in omega arith
    go false e = let r = rank_passes xs x e in omega arith

-- rank rises with the numbers of the list
pub rank_rises : (xs : List ℕ) (x y : ℕ) → In x xs → x < y → rank xs x < rank xs y
rank_rises xs x zero i h = absurd (not-suc-le-zero h)
rank_rises xs x (suc y) i h =
    elim (cases_eq x y) [
      | inl e ↦ let r = rank_counts xs x (in_has i) in subst (λ (z : ℕ). rank xs x < rank xs (suc z)) e (omega arith)
      | inr d ↦ let r : rank xs x < rank xs y = rank_rises xs x y i (omega arith) in let u = rank_up xs y in omega arith
    ]

pub rank-apart : (xs : List ℕ) (x y : ℕ) → In x xs → In y xs → rank xs x ≡ rank xs y → x ≡ y
rank-apart xs x y i j e =
    elim (cases_order x y) [
      | inl p ↦ p
      | inr o ↦ elim o [ inl h ↦ absurd (let k = rank_rises xs x y i h in omega arith) | inr h ↦ absurd (let k = rank_rises xs y x j h in omega arith) ]
    ]

-- each number below a rank is the rank of a smaller one of the list
pub rank_misses_none : (xs : List ℕ) (x k : ℕ) → k < rank xs x → (y : ℕ) × In y xs × (y < x) × (rank xs y ≡ k)
unfolding rank
rank_misses_none xs zero k h = absurd (not-suc-le-zero h)
rank_misses_none xs (suc x) k h = go (has xs x) refl h (λ j. rank_misses_none xs x k j)
  where
    later : (y : ℕ) × In y xs × (y < x) × (rank xs y ≡ k) → (y : ℕ) × In y xs × (y < suc x) × (rank xs y ≡ k)
    later r = (r.0, r.1, (let a = r.2 in omega arith), r.3)

    go : (b : Bool) → has xs x ≡ b → k < cond b (suc (rank xs x)) (rank xs x) → (k < rank xs x → (y : ℕ) × In y xs × (y < x) × (rank xs y ≡ k)) → (y : ℕ) × In y xs × (y < suc x) × (rank xs y ≡ k)
    go true e h f = elim (cases_eq (rank xs x) k) [ inl p ↦ (x, has_in xs x e, omega arith, p) | inr d ↦ later (f (omega arith)) ]
    go false e h f = later (f h)

-- so the ranks of the list's numbers are below its length
pub rank_small : (xs : List ℕ) (x : ℕ) → In x xs → rank xs x < length xs
rank_small xs x i =
    let r : ℕ = rank xs x in
    let h : length (from_on 0 (suc r)) ≤ length (map (rank xs) xs) = apart-length (map (rank xs) xs) (rising-apart (λ a k. omega arith) (from-rising 0 (suc r))) (λ k j. place k (let b = (from_in 0 (suc r) k j).1 in omega arith)) in
    let a : length (from_on 0 (suc r)) ≡ suc r = length_from 0 (suc r) in
    let b : length (map (rank xs) xs) ≡ length xs = length-map xs (rank xs) in
    omega arith
  where
    place : (k : ℕ) → k < suc (rank xs x) → In k (map (rank xs) xs)
    place k h =
        elim (cases_eq (rank xs x) k) [
          | inl e ↦ subst (λ (m : ℕ). In m (map (rank xs) xs)) e (in_map (rank xs) i)
          | inr d ↦ let t = rank_misses_none xs x k (omega arith) in subst (λ (m : ℕ). In m (map (rank xs) xs)) t.3 (in_map (rank xs) t.1)
        ]

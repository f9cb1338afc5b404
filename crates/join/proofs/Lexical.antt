-- The order of arrays of numbers, told by the first place where they differ.
use Rattle.std.proofs.Common.{◌≡◌, ℕ, zero, suc, ◌<◌, ◌≤◌, Bool, ltb, ◌≢◌, ◌⊎◌, true, false, List, [], ◌∷◌, length, get_or, is_ok, Ok, Err, Result, Ordering, Less, Equal, Greater, refl, sym, ap, ◌∙◌, subst, inl, inr, arith}
use Rattle.std.specs.Ordering.{is_lt, MatchOrdering, ordering_index, ordering_reverse, ordering_then, nat_cmp}
use Rattle.std.specs.Cmp.{ranks, nat_cmp_total}
use Rattle.std.specs.Cmp.Lexicographic.{slice_cmp, lists_total}
use Rattle.std.specs.List.Sorted.{IsBinarySearchResult, IsNonDecreasingBy, IsSearchInRange, IsSortedWithin}
use Rattle.std.proofs.lemmas.Bool.{cases_lt}
use Rattle.std.proofs.lemmas.Bool.Decides.{nat_tests}
use Rattle.std.proofs.lemmas.Cmp.{tied_itself}
use Rattle.std.proofs.lemmas.List.{get_or_default}
use Rattle.std.proofs.lemmas.List.MinMax.{ranks_by}
use Rattle.std.proofs.lemmas.List.Sorted.{sorted_far}
use Rattle.std.proofs.lemmas.Map.Lookups.{exact_bytes}
use Rattle.join.specs.Order.{Before, Sorted, cells, row_at}
use Rattle.join.proofs.Ordering.{le_before}

smaller : (x y : ℕ) (k o : Ordering) → MatchOrdering o (x < y) (x ≡ y) (y < x) → x < y → is_lt (ordering_then o k) ≡ true
smaller x y k Less h l = refl
smaller x y k Equal h l = absurd (omega arith)
smaller x y k Greater h l = absurd (omega arith)

equal : (x y : ℕ) (k o : Ordering) → MatchOrdering o (x < y) (x ≡ y) (y < x) → x ≡ y → is_lt (ordering_then o k) ≡ is_lt k
equal x y k Less h e = absurd (omega arith)
equal x y k Equal h e = refl
equal x y k Greater h e = absurd (omega arith)

less-at : (xs ys : List ℕ) (p : ℕ) → ((i : ℕ) → i < p → get_or xs i 0 ≡ get_or ys i 0) → get_or xs p 0 < get_or ys p 0 → is_lt (slice_cmp nat_cmp xs ys) ≡ true
less-at [] [] p s l = absurd (omega arith)
less-at [] (y ∷ ys) p s l = refl
less-at (x ∷ xs) [] p s l = absurd (omega arith)
less-at (x ∷ xs) (y ∷ ys) zero s l = smaller x y (slice_cmp nat_cmp xs ys) (nat_cmp x y) (ranks x y) l
less-at (x ∷ xs) (y ∷ ys) (suc p) s l =
    equal x y (slice_cmp nat_cmp xs ys) (nat_cmp x y) (ranks x y) (s 0 (omega arith)) ∙ less-at xs ys p (λ i h. s (suc i) (omega arith)) l

pub less-by : (n : ℕ) (xs ys : List ℕ) → Before n (cells xs) (cells ys) → is_lt (slice_cmp nat_cmp xs ys) ≡ true
less-by n xs ys b = less-at xs ys b.place b.same b.less

later-place : (n x y : ℕ) (xs ys : List ℕ) → x ≡ y → Before n (cells xs) (cells ys) → Before (suc n) (cells (x ∷ xs)) (cells (y ∷ ys))
later-place n x y xs ys e b = record { place = suc b.place; inside = omega (arith, b.inside); same = at; less = b.less }
  where
    at : (i : ℕ) → i < suc b.place → get_or (x ∷ xs) i 0 ≡ get_or (y ∷ ys) i 0
    at zero h = e
    at (suc i) h = b.same i (omega arith)

before-at : (n x y : ℕ) (xs ys : List ℕ) (o : Ordering) → MatchOrdering o (x < y) (x ≡ y) (y < x) → is_lt (ordering_then o (slice_cmp nat_cmp xs ys)) ≡ true
    → (is_lt (slice_cmp nat_cmp xs ys) ≡ true → Before n (cells xs) (cells ys)) → Before (suc n) (cells (x ∷ xs)) (cells (y ∷ ys))
before-at n x y xs ys Less h t f = record { place = 0; inside = omega arith; same = λ i g. absurd (omega arith); less = h }
before-at n x y xs ys Equal h t f = later-place n x y xs ys h (f t)
before-at n x y xs ys Greater h t f = absurd (let z : ◌≡◌ {A = ℕ} 0 1 = cc in omega arith)

before-by : (n : ℕ) (xs ys : List ℕ) → length xs ≡ n → length ys ≡ n → is_lt (slice_cmp nat_cmp xs ys) ≡ true → Before n (cells xs) (cells ys)
before-by n [] [] p q t = absurd (let z : ◌≡◌ {A = ℕ} 0 1 = cc in omega arith)
before-by n [] (y ∷ ys) p q t = absurd (omega arith)
before-by n (x ∷ xs) [] p q t = absurd (omega arith)
before-by zero (x ∷ xs) (y ∷ ys) p q t = absurd (omega arith)
before-by (suc n) (x ∷ xs) (y ∷ ys) p q t = before-at n x y xs ys (nat_cmp x y) (ranks x y) t (before-by n xs ys (omega arith) (omega arith))

-- the order told by the first numbers, if these differ, and else by the others
unequal : (x y : ℕ) (k o : Ordering) → MatchOrdering o (x < y) (x ≡ y) (y < x) → x ≢ y → ltb x y ≡ is_lt (ordering_then o k)
unequal x y k Less h n = grind (arith, nat_tests)
unequal x y k Equal h n = absurd (n h)
unequal x y k Greater h n = grind (arith, nat_tests)

pub by-heads : (xs ys us vs : List ℕ) (x y : ℕ) → xs ≡ x ∷ us → ys ≡ y ∷ vs → x ≢ y → ltb x y ≡ is_lt (slice_cmp nat_cmp xs ys)
by-heads xs ys us vs x y e f n = rw (e, f) (unequal x y (slice_cmp nat_cmp us vs) (nat_cmp x y) (ranks x y) n)

pub by-tails : (xs ys us vs : List ℕ) (x y : ℕ) → xs ≡ x ∷ us → ys ≡ y ∷ vs → x ≡ y → is_lt (slice_cmp nat_cmp us vs) ≡ is_lt (slice_cmp nat_cmp xs ys)
by-tails xs ys us vs x y e f q = rw (e, f) (sym (equal x y (slice_cmp nat_cmp us vs) (nat_cmp x y) (ranks x y) q))

pub at-end : (xs ys : List ℕ) → length xs ≡ length ys → (xs ≡ []) ⊎ (ys ≡ []) → false ≡ is_lt (slice_cmp nat_cmp xs ys)
at-end [] [] l e = refl
at-end [] (y ∷ ys) l e = absurd (omega arith)
at-end (x ∷ xs) ys l (inl e) = absurd (let z : ◌≡◌ {A = ℕ} 0 1 = cc in omega arith)
at-end (x ∷ xs) [] l (inr e) = absurd (omega arith)
at-end (x ∷ xs) (y ∷ ys) l (inr e) = absurd (let z : ◌≡◌ {A = ℕ} 0 1 = cc in omega arith)

-- of two rows as long, the order of arrays tells which comes before the other
pub tells : (n : ℕ) (xs ys : List ℕ) (r : Bool) → length xs ≡ n → length ys ≡ n → r ≡ is_lt (slice_cmp nat_cmp xs ys)
    → (r ≡ true → Before n (cells xs) (cells ys)) × (r ≡ false → Before n (cells xs) (cells ys) → ⊥)
tells n xs ys r p q e = (
  λ t. before-by n xs ys p q (sym e ∙ t),
  λ f b. let l = less-by n xs ys b in let z : ◌≡◌ {A = ℕ} 0 1 = cc in omega arith,
)

is-less : (o : Ordering) → is_lt o ≡ true → o ≡ Less
is-less Less e = refl
is-less Equal e = absurd (let z : ◌≡◌ {A = ℕ} 0 1 = cc in omega arith)
is-less Greater e = absurd (let z : ◌≡◌ {A = ℕ} 0 1 = cc in omega arith)

from-reverse : (o : Ordering) → ordering_reverse o ≡ Greater → is_lt o ≡ true
from-reverse Less e = refl
from-reverse Equal e = absurd (let z : ◌≡◌ {A = ℕ} 0 1 = cc in omega arith)
from-reverse Greater e = absurd (let z : ◌≡◌ {A = ℕ} 0 1 = cc in omega arith)

rise : (o p : Ordering) → (p ≡ Less → o ≡ Less) → (p ≡ Equal → o ≡ Greater → ⊥) → ordering_index o ≤ ordering_index p
rise Less p f g = omega arith
rise Equal Less f g = absurd (let e = f refl in let z : ◌≡◌ {A = ℕ} 0 1 = cc in omega arith)
rise Equal Equal f g = omega arith
rise Equal Greater f g = omega arith
rise Greater Less f g = absurd (let e = f refl in let z : ◌≡◌ {A = ℕ} 0 1 = cc in omega arith)
rise Greater Equal f g = absurd (g refl refl)
rise Greater Greater f g = omega arith

module _ (rows : List (List ℕ)) (key : List ℕ) (wide : (i : ℕ) → i < length rows → length (get_or rows i []) ≡ 5) (key_wide : length key ≡ 5) (up : Sorted rows) where
  lower-or-same : (i j : ℕ) → i ≤ j → j < length rows → slice_cmp nat_cmp (get_or rows j []) key ≡ Less → slice_cmp nat_cmp (get_or rows i []) key ≡ Less
  lower-or-same i j h g e =
      let b = before-by 5 (get_or rows j []) key (wide j g) key_wide (ap is_lt e) in
      is-less (slice_cmp nat_cmp (get_or rows i []) key) (less-by 5 (get_or rows i []) key (le_before 5 (row_at rows i) (row_at rows j) (cells key) (up i j h g) b))

  not-above : (i j : ℕ) → i ≤ j → j < length rows → slice_cmp nat_cmp (get_or rows j []) key ≡ Equal → slice_cmp nat_cmp (get_or rows i []) key ≡ Greater → ⊥
  not-above i j h g e f =
      let k : get_or rows j [] ≡ key = exact_bytes (get_or rows j []) key e in
      let r : ordering_reverse (slice_cmp nat_cmp key (get_or rows i [])) ≡ Greater = sym ((lists_total nat_cmp_total).antisymm (get_or rows i []) key) ∙ f in
      let t : is_lt (slice_cmp nat_cmp key (get_or rows i [])) ≡ true = from-reverse (slice_cmp nat_cmp key (get_or rows i [])) r in
      up i j h g (subst (λ y. Before 5 (cells y) (row_at rows i)) (sym k) (before-by 5 key (get_or rows i []) key_wide (wide i (omega arith)) t))

  rising : IsNonDecreasingBy (λ y. ordering_index (slice_cmp nat_cmp y key)) rows
  rising i j d h g =
      rw (get_or_default rows i d [] (omega arith), get_or_default rows j d [] g)
      (rise (slice_cmp nat_cmp (get_or rows i []) key) (slice_cmp nat_cmp (get_or rows j []) key) (lower-or-same i j h g) (not-above i j h g))

  -- what the search for a key tells where it finds none
  pub not-there : (r : Result ℕ ℕ) → IsBinarySearchResult (λ y. slice_cmp nat_cmp y key) rows r → is_ok r ≡ false → (i : ℕ) → i < length rows → get_or rows i [] ≡ key → ⊥
  not-there (Ok p) f e i h k = let z : ◌≡◌ {A = ℕ} 0 1 = cc in omega arith
  not-there (Err p) f e i h k =
      let q = f rising in
      let same : slice_cmp nat_cmp (get_or rows i []) key ≡ Equal = rw k (tied_itself (lists_total nat_cmp_total) key) in
      elim (cases_lt i p) [
        | inl l ↦ (let t = q.0 i [] (omega arith) l in let z : ◌≡◌ {A = ℕ} 0 1 = cc in omega arith)
        | inr l ↦ (let t = q.1 i [] l h in let z : ◌≡◌ {A = ℕ} 0 1 = cc in omega arith)
      ]

-- where the search for a key finds one
pub there : (rows : List (List ℕ)) (key : List ℕ) (r : Result ℕ ℕ) → IsBinarySearchResult (λ y. slice_cmp nat_cmp y key) rows r → IsSearchInRange r (length rows) → is_ok r ≡ true
    → (i : ℕ) × (i < length rows) × (get_or rows i [] ≡ key)
there rows key (Ok i) f h e = (i, h, exact_bytes (get_or rows i []) key (f []))
there rows key (Err i) f h e = absurd (let z : ◌≡◌ {A = ℕ} 0 1 = cc in omega arith)

pub sorted-by : (xs : List (List ℕ)) → IsSortedWithin (λ x y. is_lt (slice_cmp nat_cmp x y)) xs 0 (length xs) → Sorted xs
sorted-by xs up i j h g b =
    let f = sorted_far (λ x y. is_lt (slice_cmp nat_cmp x y)) (ranks_by (lists_total nat_cmp_total) (λ x. x)) xs up i j [] h g in
    let t = less-by 5 (get_or xs j []) (get_or xs i []) b in
    let z : ◌≡◌ {A = ℕ} 0 1 = cc in omega arith

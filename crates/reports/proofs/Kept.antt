-- Uses as they are kept: the order of written lines is the order of lines, and where a search says that a line belongs is where it is put in.
use Rattle.std.proofs.Common.{◌≡◌, ℕ, zero, suc, ◌+◌, ◌-◌, ◌*◌, ◌<◌, ◌≤◌, true, false, List, [], ◌∷◌, ◌++◌, map, length, get_or, set, take, drop, replicate, ◌⊎◌, Err, sym, refl, ap, ◌∙◌, subst, ap₂, inl, inr, eq-eqb, arith, tests}
use Rattle.std.specs.declared.cmp.Ordering.{Ordering}
use Rattle.std.specs.declared.cmp.Ordering.TheVariants.{Less, Equal, Greater}
use Rattle.std.specs.Ordering.{ordering_then, ordering_reverse, ordering_index, nat_cmp, is_lt}
use Rattle.std.specs.Cmp.{IsTotalOrder}
use Rattle.std.specs.Cmp.Lexicographic.{slice_cmp, nat_list_cmp_total}
use Rattle.std.specs.List.{list_all, insert, copy_within, AllByRecursion, HoldsAt}
use Rattle.std.specs.List.Sorted.{IsStrictlySortedBy, IsNonDecreasingBy, IsBinarySearchResult}
use Rattle.std.proofs.lemmas.Bool.{and_parts, and_from, cases_lt}
use Rattle.std.proofs.lemmas.Bool.Decides.{nat_tests}
use Rattle.std.proofs.lemmas.List.{get_or-map, length-map, map-append, take-map, drop-map, take-append-drop, append_assoc, length-append, length-drop, length-take-le, take_more, take-take, drop-take, take_at, set_at}
use Rattle.std.proofs.lemmas.List.Edits.{length-insert}
use Rattle.std.proofs.lemmas.List.Folds.{list_all-append}
use Rattle.std.proofs.lemmas.List.Sums.{AllPass-from_list_all}
use Rattle.std.proofs.lemmas.Cmp.{same_from_slice_cmp}
use Rattle.std.proofs.lemmas.Map.Keys.{sorted_tail, Less-from_sorted}
use Rattle.question.specs.Question.{Line, In}
use Rattle.question.specs.Layout.{terms_out, padded, line_in, line_out, line_fits, ten_fit}
use Rattle.question.proofs.Chunks.{line_few}
use Rattle.question.proofs.Writing.{length-terms_out}
use Rattle.containment.specs.Order.{nums_less, Rising}
use Rattle.reports.specs.Widest.{line_nums, line_less, insert_line, Sorted}
use Rattle.reports.specs.Order.{written_cmp, line_cmp}
use Rattle.reports.specs.Uses.{lines_kept}
use Rattle.reports.specs.declared.uses.Uses.{Uses}
use Rattle.reports.proofs.Ordering.{line_same}
use Rattle.reports.proofs.Sorting.{insert_sorted}

-- the order that the library compares by is the order of lines
pub less-cmp : (l m : Line) → line_less l m ≡ is_lt (line_cmp l m)
unfolding line_less nums_less
less-cmp l m = sym (same_from_slice_cmp nat_cmp is_lt nums_less refl (λ _ _. refl) (λ _ _. refl) (λ x y xs ys o h. grind (arith, nat_tests)) (line_nums l) (line_nums m) (line_cmp l m) refl)

-- with 0 where room is left, and how many there are last, numbers stand as they do without
then-assoc : (o p q : Ordering) → ordering_then (ordering_then o p) q ≡ ordering_then o (ordering_then p q)
then-assoc Less p q = refl
then-assoc Equal p q = refl
then-assoc Greater p q = refl

same-Equal : (xs : List ℕ) → slice_cmp nat_cmp xs xs ≡ Equal
same-Equal [] = refl
same-Equal (x ∷ xs) = let e : nat_cmp x x ≡ Equal = grind (arith, tests) in rw (e, same-Equal xs)

below : (a b : ℕ) → a < b → nat_cmp a b ≡ Less
below a b h = grind (arith, tests)

above : (a b : ℕ) → b < a → nat_cmp a b ≡ Greater
above a b h = grind (arith, tests)

zeros-low : (n : ℕ) (ys : List ℕ) → length ys ≤ n → ordering_then (slice_cmp nat_cmp (replicate n 0) (padded n ys)) Less ≡ Less
zeros-low n [] h = let z : n - 0 ≡ n = omega arith in rw (z, same-Equal (replicate n 0))
zeros-low zero (y ∷ ys) h = absurd (omega arith)
zeros-low (suc n) (zero ∷ ys) h = let z : suc n - suc (length ys) ≡ n - length ys = omega arith in rw z (zeros-low n ys (omega arith))
zeros-low (suc n) (suc y ∷ ys) h = let e : nat_cmp 0 (suc y) ≡ Less = below 0 (suc y) (omega arith) in rw e

zeros-high : (n : ℕ) (xs : List ℕ) → length xs ≤ n → ordering_then (slice_cmp nat_cmp (padded n xs) (replicate n 0)) Greater ≡ Greater
zeros-high n [] h = let z : n - 0 ≡ n = omega arith in rw (z, same-Equal (replicate n 0))
zeros-high zero (x ∷ xs) h = absurd (omega arith)
zeros-high (suc n) (zero ∷ xs) h = let z : suc n - suc (length xs) ≡ n - length xs = omega arith in rw z (zeros-high n xs (omega arith))
zeros-high (suc n) (suc x ∷ xs) h = let e : nat_cmp (suc x) 0 ≡ Greater = above (suc x) 0 (omega arith) in rw e

padded-cmp : (n : ℕ) (xs ys : List ℕ) → length xs ≤ n → length ys ≤ n → ordering_then (slice_cmp nat_cmp (padded n xs) (padded n ys)) (nat_cmp (length xs) (length ys)) ≡ slice_cmp nat_cmp xs ys
padded-cmp n [] [] h k = rw (same-Equal (replicate (n - 0) 0))
padded-cmp n [] (y ∷ ys) h k = let z : n - 0 ≡ n = omega arith in rw (z, below 0 (suc (length ys)) (omega arith)) (zeros-low n (y ∷ ys) k)
padded-cmp n (x ∷ xs) [] h k = let z : n - 0 ≡ n = omega arith in rw (z, above (suc (length xs)) 0 (omega arith)) (zeros-high n (x ∷ xs) h)
padded-cmp zero (x ∷ xs) (y ∷ ys) h k = absurd (omega arith)
padded-cmp (suc n) (x ∷ xs) (y ∷ ys) h k =
    let z : suc n - suc (length xs) ≡ n - length xs = omega arith in
    let y₁ : suc n - suc (length ys) ≡ n - length ys = omega arith in
    let m : nat_cmp (suc (length xs)) (suc (length ys)) ≡ nat_cmp (length xs) (length ys) = grind (arith, tests) in
    rw (z, y₁, m)
    (then-assoc (nat_cmp x y) (slice_cmp nat_cmp (padded n xs) (padded n ys)) (nat_cmp (length xs) (length ys)) ∙ ap (ordering_then (nat_cmp x y)) (padded-cmp n xs ys (omega arith) (omega arith)))

twice-cmp : (a b : ℕ) → nat_cmp (2 * a) (2 * b) ≡ nat_cmp a b
twice-cmp a b = grind (arith, tests)

pub written-order : (l m : Line) → length l.cells ≤ 4 → length m.cells ≤ 4 → written_cmp (line_out l) (line_out m) ≡ line_cmp l m
unfolding line_out line_nums
written-order l m h k =
    let a = length-terms_out l.cells in
    let b = length-terms_out m.cells in
    let c : nat_cmp (length l.cells) (length m.cells) ≡ nat_cmp (length (terms_out l.cells)) (length (terms_out m.cells)) = sym (twice-cmp (length l.cells) (length m.cells)) ∙ rw (a, b) in
    then-assoc (nat_cmp l.table m.table) (slice_cmp nat_cmp (padded 8 (terms_out l.cells)) (padded 8 (terms_out m.cells))) (nat_cmp (length l.cells) (length m.cells))
    ∙ ap (λ (o : Ordering). ordering_then (nat_cmp l.table m.table) (ordering_then (slice_cmp nat_cmp (padded 8 (terms_out l.cells)) (padded 8 (terms_out m.cells))) o)) c
    ∙ ap (ordering_then (nat_cmp l.table m.table)) (padded-cmp 8 (terms_out l.cells) (terms_out m.cells) (omega (arith, a)) (omega (arith, b)))

-- what stands before is not behind
order_of : (l m : Line) → IsTotalOrder line_cmp → line_cmp l m ≡ Less → line_cmp m l ≡ Greater
order_of l m o e = o.antisymm m l ∙ ap ordering_reverse e

line_total : IsTotalOrder line_cmp
line_total = record {
  antisymm = λ l m. nat_list_cmp_total.antisymm (line_nums l) (line_nums m);
  trans = λ l m k. nat_list_cmp_total.trans (line_nums l) (line_nums m) (line_nums k);
  congr = λ l m k. nat_list_cmp_total.congr (line_nums l) (line_nums m) (line_nums k);
}

cmp-self : (l : Line) → line_cmp l l ≡ Equal
cmp-self l = same-Equal (line_nums l)

cmp_one : (l m : Line) → line_cmp l m ≡ Equal → l ≡ m
cmp_one l m e =
    let f : line_cmp m l ≡ Equal = line_total.antisymm m l ∙ ap ordering_reverse e in
    line_same l m (less-cmp l m ∙ ap is_lt e) (less-cmp m l ∙ ap is_lt f)

-- a line that is there, and one that is to be put in at a place
pub insert-found : (l : Line) (ls : List Line) (i : ℕ) → IsStrictlySortedBy line_cmp ls → i < length ls → get_or ls i l ≡ l → insert_line l ls ≡ ls
unfolding insert_line
insert-found l [] i s h e = absurd (omega arith)
insert-found l (m ∷ ms) zero s h e =
    let a : line_less l m ≡ false = less-cmp l m ∙ ap is_lt (ap (line_cmp l) e ∙ cmp-self l) in
    let b : line_less m l ≡ false = less-cmp m l ∙ ap is_lt (ap (line_cmp m) (sym e) ∙ cmp-self m) in
    rw (a, b)
insert-found l (m ∷ ms) (suc i) s h e =
    let c : line_cmp m l ≡ Less = ap (line_cmp m) (sym e) ∙ Less-from_sorted line_cmp (m ∷ ms) 0 (suc i) l s (omega arith) h in
    let a : line_less l m ≡ false = less-cmp l m ∙ ap is_lt (order_of m l line_total c) in
    let b : line_less m l ≡ true = less-cmp m l ∙ ap is_lt c in
    rw (a, b, insert-found l ms i (sorted_tail line_cmp m ms s) (omega arith) e)

pub insert-placed : (l : Line) (ls : List Line) (i : ℕ) → i ≤ length ls → ((k : ℕ) → k < i → line_cmp (get_or ls k l) l ≡ Less) → ((k : ℕ) → i ≤ k → k < length ls → line_cmp (get_or ls k l) l ≡ Greater)
    → insert_line l ls ≡ take i ls ++ l ∷ drop i ls
unfolding insert_line
insert-placed l [] zero h f g = refl
insert-placed l [] (suc i) h f g = absurd (omega arith)
insert-placed l (m ∷ ms) zero h f g =
    let c : line_cmp l m ≡ Less = line_total.antisymm l m ∙ ap ordering_reverse (g 0 (omega arith) (omega arith)) in
    let a : line_less l m ≡ true = less-cmp l m ∙ ap is_lt c in
    rw a
insert-placed l (m ∷ ms) (suc i) h f g =
    let c : line_cmp m l ≡ Less = f 0 (omega arith) in
    let a : line_less l m ≡ false = less-cmp l m ∙ ap is_lt (order_of m l line_total c) in
    let b : line_less m l ≡ true = less-cmp m l ∙ ap is_lt c in
    rw (a, b, insert-placed l ms i (omega arith) (λ k p. f (suc k) (omega arith)) (λ k p q. g (suc k) (omega arith) (omega arith)))

-- lines in order stay in order
rising-from : (ls : List Line) → IsStrictlySortedBy line_cmp ls → Sorted ls
unfolding IsStrictlySortedBy
rising-from [] s = Rising.none_left
rising-from (l ∷ ls) s = Rising.and_one (below ls s.0) (rising-from ls s.1)
  where
    below : (ms : List Line) → AllByRecursion (λ m. line_cmp l m ≡ Less) ms → (k : Line) → In k ms → line_less l k ≡ true
    below [] a k i = elim i [ ]
    below (m ∷ ms) a k In.here = less-cmp l k ∙ ap is_lt a.0
    below (m ∷ ms) a k (In.there j) = below ms a.1 k j

from-rising : {ls : List Line} → Sorted ls → IsStrictlySortedBy line_cmp ls
unfolding IsStrictlySortedBy
from-rising Rising.none_left = tt
from-rising (Rising.and_one {a = l} {xs = ls} f s) = (below ls f, from-rising s)
  where
    less_is : (o : Ordering) → is_lt o ≡ true → o ≡ Less
    less_is Less e = refl
    less_is Equal e = cc e
    less_is Greater e = cc e

    below : (ms : List Line) → ((k : Line) → In k ms → line_less l k ≡ true) → AllByRecursion (λ m. line_cmp l m ≡ Less) ms
    below [] g = tt
    below (m ∷ ms) g = (less_is (line_cmp l m) (sym (less-cmp l m) ∙ g m In.here), below ms (λ k i. g k (In.there i)))

pub insert-in_order : (l : Line) (ls : List Line) → IsStrictlySortedBy line_cmp ls → IsStrictlySortedBy line_cmp (insert_line l ls)
insert-in_order l ls s = from-rising (insert_sorted l (rising-from ls s))

-- the answers of a search rise
index-rises : (l m k : Line) → line_cmp l m ≡ Less → ordering_index (line_cmp l k) ≤ ordering_index (line_cmp m k)
index-rises l m k e = go (line_cmp m k) refl
  where
    go : (o : Ordering) → line_cmp m k ≡ o → ordering_index (line_cmp l k) ≤ ordering_index o
    go Less f = rw (line_total.trans l m k e f) (omega arith)
    go Equal f = rw (ap (line_cmp l) (sym (cmp_one m k f)) ∙ e) (omega arith)
    go Greater f = most (line_cmp l k)
      where
        most : (o : Ordering) → ordering_index o ≤ 2
        most Less = omega arith
        most Equal = omega arith
        most Greater = omega arith

-- what is known of the lines that are kept, and of one more
pub record AreKept (xs : List (List ℕ)) : Type 0 where
  pub few : length xs ≤ 32
  pub fit : list_all (ten_fit 16) xs ≡ true
  pub written : map line_out (map line_in xs) ≡ xs
  pub in_order : IsStrictlySortedBy line_cmp (map line_in xs)

pub kept_count : (u : Uses) → length (take u.count u.lines) ≡ u.count
kept_count u = length-take-le u.count u.lines (omega (arith, u.few, u.room))

pub kept : (u : Uses) → AreKept (take u.count u.lines)
kept u = record { few = omega (arith, kept_count u, u.few); fit = u.fit; written = u.written; in_order = u.in_order }

pub kept_few : (u : Uses) → length (lines_kept u) ≤ 32
kept_few u = omega (arith, length-map (take u.count u.lines) line_in, kept_count u, u.few)

pub record Written (xs : List ℕ) : Type 0 where
  pub fits : line_fits 16 xs ≡ true
  pub written : line_out (line_in xs) ≡ xs

written-at : (xs : List (List ℕ)) → AreKept xs → (k : ℕ) (d : List ℕ) → k < length xs → Written (get_or xs k d)
written-at xs a k d h =
    let f : ten_fit 16 (get_or xs k d) ≡ true = AllPass-from_list_all (ten_fit 16) xs a.fit k d h in
    let l : k < length (map line_in xs) = rw (length-map {A = List ℕ} {B = Line} xs line_in) h in
    record {
      fits = (and_parts _ _ f).1;
      written = sym (get_or-map line_out (map line_in xs) k (line_in d) d l ∙ ap line_out (get_or-map line_in xs k d (line_in d) h)) ∙ ap (λ (ys : List (List ℕ)). get_or ys k d) a.written;
    }

cmp-at : (xs : List (List ℕ)) (line : List ℕ) → AreKept xs → Written line → (k : ℕ) (d : List ℕ) → k < length xs → written_cmp (get_or xs k d) line ≡ line_cmp (line_in (get_or xs k d)) (line_in line)
cmp-at xs line a w k d h =
    let v : Written (get_or xs k d) = written-at xs a k d h in
    ap₂ {C = Ordering} written_cmp (sym v.written) (sym w.written) ∙ written-order (line_in (get_or xs k d)) (line_in line) (line_few 16 (get_or xs k d) v.fits) (line_few 16 line w.fits)

rises : (xs : List (List ℕ)) (line : List ℕ) → AreKept xs → Written line → IsNonDecreasingBy (λ y. ordering_index (written_cmp y line)) xs
rises xs line a w i j d le lt =
    let p : i < length xs = omega arith in
    rw (cmp-at xs line a w i d p, cmp-at xs line a w j d lt) (go (cases_lt i j))
  where
    l : Line
    l = line_in line

    go : (i < j) ⊎ (j ≤ i) → ordering_index (line_cmp (line_in (get_or xs i d)) l) ≤ ordering_index (line_cmp (line_in (get_or xs j d)) l)
    go (inl h) =
        let n : j < length (map line_in xs) = rw (length-map {A = List ℕ} {B = Line} xs line_in) lt in
        let e : line_cmp (get_or (map line_in xs) i (line_in d)) (get_or (map line_in xs) j (line_in d)) ≡ Less = Less-from_sorted line_cmp (map line_in xs) i j (line_in d) a.in_order h n in
        index-rises (line_in (get_or xs i d)) (line_in (get_or xs j d)) l (ap₂ {C = Ordering} line_cmp (sym (get_or-map line_in xs i d (line_in d) (omega arith))) (sym (get_or-map line_in xs j d (line_in d) lt)) ∙ e)
    go (inr h) = let e : i ≡ j = omega arith in rw e (omega arith)

-- what a search tells
pub found : (xs : List (List ℕ)) (line : List ℕ) (i : ℕ) → AreKept xs → Written line → i < length xs → HoldsAt (λ y. written_cmp y line ≡ Equal) xs i → insert_line (line_in line) (map line_in xs) ≡ map line_in xs
found xs line i a w h e =
    let one : line_in (get_or xs i line) ≡ line_in line = cmp_one (line_in (get_or xs i line)) (line_in line) (sym (cmp-at xs line a w i line h) ∙ e line) in
    insert-found (line_in line) (map line_in xs) i a.in_order (rw (length-map {A = List ℕ} {B = Line} xs line_in) h) (get_or-map line_in xs i line (line_in line) h ∙ one)

pub placed : (xs : List (List ℕ)) (line : List ℕ) (i : ℕ) → AreKept xs → Written line → i ≤ length xs → IsBinarySearchResult (λ y. written_cmp y line) xs (Err i)
    → insert_line (line_in line) (map line_in xs) ≡ map line_in (insert xs i line)
placed xs line i a w h r =
    let p = r (rises xs line a w) in
    let n : length (map line_in xs) ≡ length xs = length-map xs line_in in
    insert-placed (line_in line) (map line_in xs) i (omega (arith, n))
    (λ k b. let c : k < length xs = omega arith in ap (λ (m : Line). line_cmp m (line_in line)) (get_or-map line_in xs k line (line_in line) c) ∙ sym (cmp-at xs line a w k line c) ∙ p.0 k line (omega arith) b)
    (λ k b c. let e : k < length xs = omega (arith, n) in ap (λ (m : Line). line_cmp m (line_in line)) (get_or-map line_in xs k line (line_in line) e) ∙ sym (cmp-at xs line a w k line e) ∙ p.1 k line b e)
    ∙ sym (map-append line_in (take i xs) (line ∷ drop i xs) ∙ rw (take-map line_in i xs, drop-map line_in i xs))

-- the lines with one put in
pub are_kept : (xs : List (List ℕ)) (line : List ℕ) (i : ℕ) → AreKept xs → Written line → i ≤ length xs → length xs < 32 → length line ≡ 10 → insert_line (line_in line) (map line_in xs) ≡ map line_in (insert xs i line) → AreKept (insert xs i line)
are_kept xs line i a w b room ten e =
    let one : ten_fit 16 line ≡ true = and_from _ _ (eq-eqb _ _ ten) w.fits in
    let parts = and_parts (list_all (ten_fit 16) (take i xs)) (list_all (ten_fit 16) (drop i xs)) (sym (list_all-append (ten_fit 16) (take i xs) (drop i xs)) ∙ ap (list_all (ten_fit 16)) (take-append-drop i xs) ∙ a.fit) in
    record {
      few = omega (arith, length-insert xs i line b);
      fit = list_all-append (ten_fit 16) (take i xs) (line ∷ drop i xs) ∙ and_from _ _ parts.0 (and_from _ _ one parts.1);
      written = all_written;
      in_order = subst (IsStrictlySortedBy line_cmp) e (insert-in_order (line_in line) (map line_in xs) a.in_order);
    }
  where
    again : List (List ℕ) → List (List ℕ)
    again ys = map line_out (map line_in ys)

    again-append : (ys zs : List (List ℕ)) → again (ys ++ zs) ≡ again ys ++ again zs
    again-append ys zs = ap (map line_out) (map-append line_in ys zs) ∙ map-append line_out (map line_in ys) (map line_in zs)

    all_written : again (insert xs i line) ≡ insert xs i line
    all_written =
        again-append (take i xs) (line ∷ drop i xs)
        ∙ ap₂ {C = List (List ℕ)} (λ (ys zs : List (List ℕ)). ys ++ zs)
        (ap (map line_out) (sym (take-map line_in i xs)) ∙ sym (take-map line_out i (map line_in xs)) ∙ ap (take i) a.written)
        (ap₂ {C = List (List ℕ)} (λ (y : List ℕ) (ys : List (List ℕ)). y ∷ ys) w.written (ap (map line_out) (sym (drop-map line_in i xs)) ∙ sym (drop-map line_out i (map line_in xs)) ∙ ap (drop i) a.written))

-- a line written at a place, when those from there on have moved up
pub moved_up : {X : Type 0} (xs ys : List X) (p c : ℕ) (x : X) → p ≤ c → c < length xs → ys ≡ copy_within xs p c (p + 1) → take (c + 1) (set ys p x) ≡ insert (take c xs) p x
moved_up {X} xs ys p c x h k e =
    let f : List X = take p xs in
    let t : List X = take (c - p) (drop p xs) in
    let r : List X = drop (p + 1 + (c - p)) xs in
    let one : take (p + 1) xs ≡ f ++ get_or xs p x ∷ [] = take_more xs p x (omega arith) in
    let opened : ys ≡ f ++ get_or xs p x ∷ (t ++ r)
    = e ∙ append_assoc (take (p + 1) xs) t r ∙ ap (λ (zs : List X). zs ++ (t ++ r)) one ∙ append_assoc f (get_or xs p x ∷ []) (t ++ r) in
    let m : length f ≡ p = length-take-le p xs (omega arith) in
    let n : length t ≡ c - p = length-take-le (c - p) (drop p xs) (omega (arith, length-drop p xs)) in
    let put : set ys p x ≡ (f ++ x ∷ t) ++ r
    = ap (λ (zs : List X). set zs p x) opened ∙ set_at f (get_or xs p x) (t ++ r) x p m ∙ sym (append_assoc f (x ∷ t) r) in
    let few : take p (take c xs) ≡ f = take-take p c xs h in
    let d : c ≡ p + (c - p) = omega arith in
    let more : drop p (take c xs) ≡ t = ap (λ (i : ℕ). drop p (take i xs)) d ∙ drop-take p (c - p) xs in
    ap (take (c + 1)) put ∙ take_at (f ++ x ∷ t) r (c + 1) (length-append f (x ∷ t) ∙ omega (arith, m, n)) ∙ sym (ap₂ {C = List X} (λ (zs ws : List X). zs ++ x ∷ ws) few more)

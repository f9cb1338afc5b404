-- Columns in the order of their slots.
use Rattle.std.proofs.Common.{◌≡◌, ℕ, ◌+◌, ◌<◌, ◌≤◌, List, [], ◌∷◌, ◌++◌, map, length, get_or, drop, sym, refl, ap, ◌∙◌, inl, inr, arith}
use Rattle.std.specs.List.{All, Contains, range_with_len}
use Rattle.std.specs.List.Sorted.{IsPermutation, IsNonDecreasingBy}
use Rattle.std.proofs.lemmas.List.{get_or-map, get_or-drop, get_or_default, get_or_append_left, get_or_push, length-map}
use Rattle.std.proofs.lemmas.Bool.{cases_lt}
use Rattle.std.proofs.lemmas.List.FromFn.{length-map-range_with_len, get_or-map-range_with_len}
use Rattle.std.proofs.lemmas.List.Sorted.{All-permutation, IsPermutation-map, Contains-permutation, length_permutation}
use Rattle.question.specs.declared.terms.Term.{Term}
use Rattle.question.specs.declared.terms.Term.TheVariants.{Number}
use Rattle.answer.specs.declared.columns.Column.{Column}
use Rattle.answer.specs.Plan.{Reached}
use Rattle.answer.specs.Columns.{column_at, order_of, InOrder, LineInOrder, LineSlots}

abbrev pub no_column : Column
no_column = record { place = 0; slot = 0 }

-- what comes at i is the i-th
pub next-at : {A : Type 0} (i : ℕ) (xs : List A) (x d : A) (ys : List A) → drop i xs ≡ x ∷ ys → get_or xs i d ≡ x
next-at i xs x d ys e =
    let z : i + 0 ≡ i = omega arith in
    let g : get_or (drop i xs) 0 d ≡ get_or xs (i + 0) d = get_or-drop i xs 0 d in
    ap (λ k. get_or xs k d) (sym z) ∙ sym g ∙ ap (λ ys. get_or ys 0 d) e

-- one more that is as it has to be
pub each-pushed : {X : Type 0} (P : ℕ → X → Type 0) (xs : List X) (n : ℕ) (y : X) → length xs ≡ n → ((j : ℕ) (d : X) → j < n → P j (get_or xs j d)) → P n y
    → (j : ℕ) (d : X) → j < n + 1 → P j (get_or (xs ++ y ∷ []) j d)
each-pushed P xs n y l f p j d h = elim (cases_lt j n) [
  | inl g ↦ (let i : j < length xs = omega arith in rw (get_or_append_left xs (y ∷ []) d j i) (f j d g))
  | inr g ↦ (let e : j ≡ n = omega arith in let m : length xs ≡ n = l in rw (e, get_or_push xs y d n m) p)
]

module _ (place : Term → ℕ) (ts : List Term) (cs : List Column) (p : IsPermutation (map (column_at place ts) (range_with_len 0 (length ts))) cs) where
  as_many : length cs ≡ length ts
  as_many = length_permutation _ cs p ∙ length-map-range_with_len (column_at place ts) 0 (length ts)

  each-of : (P : Column → Type 0) → ((i : ℕ) → i < length ts → P (column_at place ts i)) → All P cs
  each-of P f = All-permutation P _ cs p (λ k d h.
      let l = length-map-range_with_len (column_at place ts) 0 (length ts) in
      let i : k < length ts = omega arith in
      rw (get_or-map-range_with_len (column_at place ts) 0 (length ts) k k d i (omega arith)) (f k i))

  inside : (c : ℕ) → c < length ts → get_or (order_of cs) c 0 < length ts
  inside c h =
      let l = as_many in
      let i : c < length cs = omega arith in
      rw (get_or-map (λ (c : Column). c.place) cs c no_column 0 i) (each-of (λ (c : Column). c.place < length ts) (λ i g. g) c no_column i)

  reached : (d : ℕ) → d < length ts → Reached (order_of cs) (length ts) d
  reached d h =
      let xs = map (column_at place ts) (range_with_len 0 (length ts)) in
      let l = length-map-range_with_len (column_at place ts) 0 (length ts) in
      let m = length-map xs (λ (c : Column). c.place) in
      let i : d < length xs = omega arith in
      let j : d < length (order_of xs) = omega arith in
      let e : get_or (order_of xs) d d ≡ d = get_or-map (λ (c : Column). c.place) xs d no_column d i ∙ ap (λ (c : Column). c.place) (get_or-map-range_with_len (column_at place ts) 0 (length ts) d d no_column h (omega arith)) in
      let f : Contains (order_of cs) d = Contains-permutation (order_of xs) (order_of cs) d (IsPermutation-map (λ (c : Column). c.place) xs cs p) (d, j, e) in
      let n = length-map cs (λ (c : Column). c.place) in
      let k = as_many in
      record { from = f.0; narrow = omega (arith, f.1); is = get_or_default (order_of cs) f.0 0 d f.1 ∙ f.2 }

  pub in_order : IsNonDecreasingBy (λ (c : Column). c.slot) cs → InOrder place ts cs
  in_order up = record {
    long = as_many;
    slots = each-of (λ (c : Column). c.slot ≡ place (get_or ts c.place (Number 0))) (λ i h. refl);
    columns = record { inside = inside; each = reached };
    rising = up;
  }

module _ (place : Term → ℕ) (ts : List Term) (cs : List Column) (o : InOrder place ts cs) where
  -- the slot of the c-th column is that of its term
  term-slot : (c : ℕ) → c < length ts → (get_or cs c no_column).slot ≡ place (get_or ts (get_or (order_of cs) c 0) (Number 0))
  term-slot c h =
      let l = o.long in
      let i : c < length cs = omega arith in
      rw (get_or-map (λ (c : Column). c.place) cs c no_column 0 i) (o.slots c no_column i)

  pub line_order : LineInOrder place ts (order_of cs)
  line_order = record {
    columns = o.columns;
    rising = λ c d h g. (let l = o.long in omega (arith, term-slot c (omega arith), term-slot d g, o.rising c d no_column h (omega arith)));
  }

  pub line_slots : (id : ℕ) (line : List ℕ) → get_or line 0 0 ≡ id → ((c : ℕ) → c < length cs → get_or line (c + 1) 0 ≡ get_or (map (λ (c : Column). c.slot) cs) c 0)
      → ((c : ℕ) → length cs ≤ c → c < 4 → get_or line (c + 1) 0 ≡ 0) → LineSlots place ts (order_of cs) line id
  line_slots id line f g z = record {
    first = f;
    slots = λ c h. (let l = o.long in let i : c < length cs = omega arith in g c i ∙ get_or-map (λ (c : Column). c.slot) cs c no_column 0 i ∙ term-slot c h);
    zeros = λ c h n. (let l = o.long in z c (omega arith) n);
  }

-- Sorted rows, those that are repeated left out; and rows keyed.
use Rattle.std.proofs.Common.{◌≡◌, ℕ, ◌+◌, ◌<◌, ◌≢◌, true, List, [], ◌∷◌, ◌++◌, length, get_or, Ordering, Less, Equal, Greater, nat_eq, sym, ap, ◌∙◌, subst, inl, inr, arith}
use Rattle.std.specs.Cmp.Lexicographic.{nat_list_cmp_total, nat_list_eq_equiv, bytes_decides, pointwise, slice_cmp, texts_ties}
use Rattle.std.specs.List.{Contains, dedup}
use Rattle.std.specs.List.Sorted.{IsSorted, IsStrictlySortedBy}
use Rattle.std.specs.Ordering.{is_lt, nat_cmp, ordering_reverse}
use Rattle.std.proofs.lemmas.Bool.{cases_lt}
use Rattle.std.proofs.lemmas.List.{get_or_default}
use Rattle.std.proofs.lemmas.List.Kept.{Contains-dedup, Contains-from_dedup, IsStrictlySortedBy-dedup}
use Rattle.std.proofs.lemmas.Map.Keys.{Less-from_sorted}
use Rattle.join.specs.Order.{Value, Sorted, cells, row_at}
use Rattle.join.proofs.Lexical.{less-by}
use Rattle.narrow.specs.Rows.{Held, Keyed, SameRows, Source, with_front}
use Rattle.narrow.proofs.Holding.{held-front, held_last, held_cases, held_none, held_same}

not-both : (o p : Ordering) → o ≡ ordering_reverse p → o ≡ Less → is_lt p ≡ true → ⊥
not-both o Less e l t = let z : ◌≡◌ {A = ℕ} 0 1 = cc in omega arith
not-both o Equal e l t = let z : ◌≡◌ {A = ℕ} 0 1 = cc in omega arith
not-both o Greater e l t = let z : ◌≡◌ {A = ℕ} 0 1 = cc in omega arith

sorted-once : (rows : List (List ℕ)) → IsStrictlySortedBy (slice_cmp nat_cmp) rows → Sorted rows
sorted-once rows s i j h g b = elim (cases_lt i j) [
  | inl l ↦ not-both (slice_cmp nat_cmp (get_or rows i []) (get_or rows j [])) (slice_cmp nat_cmp (get_or rows j []) (get_or rows i []))
      (nat_list_cmp_total.antisymm (get_or rows i []) (get_or rows j [])) (Less-from_sorted (slice_cmp nat_cmp) rows i j [] s l g) (less-by 5 (get_or rows j []) (get_or rows i []) b)
  | inr l ↦ (let e : i ≡ j = omega arith in let m : row_at rows j b.place < row_at rows j b.place = rw e at b.less in omega arith)
]

contains-held : (rows : List (List ℕ)) (f : Value) (h : Held rows f) → Contains rows (get_or rows h.place [])
contains-held rows f h = (h.place, h.inside, get_or_default rows h.place (get_or rows h.place []) [] h.inside)

held-contains : (rows : List (List ℕ)) (x : List ℕ) → Contains rows x → Held rows (cells x)
held-contains rows x m = record { place = m.0; inside = m.1; is = λ c _. ap (λ r. get_or r c 0) (get_or_default rows m.0 [] x m.1 ∙ m.2) }

-- rows in order, those that are repeated left out
pub once : (rows left : List (List ℕ)) → IsSorted (slice_cmp nat_cmp) rows → left ≡ dedup (pointwise nat_eq) rows → Sorted left × SameRows rows left
once rows left up e = (
  sorted-once left (rw e (IsStrictlySortedBy-dedup nat_list_cmp_total texts_ties rows up)),
  λ f. (
    λ h. let x = get_or rows h.place [] in
        held_same left (cells x) f h.is (held-contains left x (rw e (Contains-dedup nat_list_eq_equiv (λ a b. (bytes_decides a b).0) rows x (contains-held rows f h)))),
    λ h. let x = get_or left h.place [] in
        held_same rows (cells x) f h.is (held-contains rows x (Contains-from_dedup (pointwise nat_eq) rows x (subst (λ l. Contains l x) e (contains-held left f h)))),
  ),
)

-- the rows before i keyed
pub record Keying (rows : List (List ℕ)) (number column i : ℕ) (keys : List (List ℕ)) : Type 0 where
  pub only : (f : Value) → Held keys f → Source rows number column f
  pub each : (j : ℕ) → j < i → row_at rows j 0 ≡ number → Held keys (with_front (row_at rows j column) (row_at rows j))

module _ (rows : List (List ℕ)) (number column : ℕ) where
  pub keying-begin : (keys : List (List ℕ)) → keys ≡ [] → Keying rows number column 0 keys
  keying-begin keys e = rw e (record { only = λ f h. absurd (held_none f h); each = λ j h. absurd (omega arith) })

  pub keying-none : (i : ℕ) (keys : List (List ℕ)) → row_at rows i 0 ≢ number → Keying rows number column i keys → Keying rows number column (i + 1) keys
  keying-none i keys ne p = record {
    only = p.only;
    each = λ j h e. elim (cases_lt j i) [
      | inl l ↦ p.each j l e
      | inr l ↦ (let q : i ≡ j = omega arith in absurd (ne (ap (λ x. row_at rows x 0) q ∙ e)))
    ];
  }

  pub keying-more : (i : ℕ) (keys : List (List ℕ)) (x : List ℕ) → i < length rows → row_at rows i 0 ≡ number → ((c : ℕ) → c < 5 → get_or x c 0 ≡ with_front (row_at rows i column) (row_at rows i) c)
      → Keying rows number column i keys → Keying rows number column (i + 1) (keys ++ x ∷ [])
  keying-more i keys x h e k p = record {
    only = λ f g. elim (held_cases keys x f g) [
      | inl l ↦ p.only f l
      | inr l ↦ record { place = i; inside = h; numbered = e; is = λ c m. sym (k c m) ∙ l c m }
    ];
    each = λ j g d. elim (cases_lt j i) [
      | inl l ↦ held-front keys x (with_front (row_at rows j column) (row_at rows j)) (p.each j l d)
      | inr l ↦ (let q : i ≡ j = omega arith in
          held_last keys x (with_front (row_at rows j column) (row_at rows j)) (λ c m. k c m ∙ ap (λ y. with_front (row_at rows y column) (row_at rows y) c) q))
    ];
  }

  pub keyed-by : (i : ℕ) (keys out : List (List ℕ)) → i ≡ length rows → Keying rows number column i keys → SameRows keys out → Keyed rows number column out
  keyed-by i keys out e p s = record {
    only = λ f h. p.only f ((s f).1 h);
    each = λ j h d. (s (with_front (row_at rows j column) (row_at rows j))).0 (p.each j (omega arith) d);
  }

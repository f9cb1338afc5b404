-- What a binary search says of the values that are left for a slot.
use Rattle.std.proofs.Common.{◌≡◌, ℕ, zero, suc, ◌+◌, ◌<◌, ◌≤◌, List, [], length, get_or, sym, refl, ap, ◌∙◌, inl, inr, arith}
use Rattle.std.proofs.lemmas.Bool.{cases_lt}
use Rattle.join.specs.Order.{Value, Before, Sorted, cells, row_at}
use Rattle.join.proofs.Ordering.{not-less}
use Rattle.join.specs.Slots.{Agree, Blank, AllStand, Stands, SlotsBelow, slot, under}

pub under_at : (line env : List ℕ) (c : ℕ) → c < 5 → get_or (under line env) c 0 ≡ get_or env (slot line c) 0
under_at line env zero h = refl
under_at line env (suc zero) h = refl
under_at line env (suc (suc zero)) h = refl
under_at line env (suc (suc (suc zero))) h = refl
under_at line env (suc (suc (suc (suc zero)))) h = refl
under_at line env (suc (suc (suc (suc (suc c))))) h = absurd (omega arith)

pub key_at : (line env key : List ℕ) → key ≡ under line env → (c : ℕ) → c < 5 → get_or key c 0 ≡ get_or env (slot line c) 0
key_at line env key e c h = ap (λ xs. get_or xs c 0) e ∙ under_at line env c h

module _ (rows : List (List ℕ)) (line env key : List ℕ) (is_key : (c : ℕ) → c < 5 → get_or key c 0 ≡ get_or env (slot line c) 0)
    (k : ℕ) (v : Value) (blank : Blank (k + 1) env) (agree : Agree k env v) (up : get_or env k 0 ≤ v k) (f : Stands rows line v) where
  -- the row that stands there does not come before the key
  key-low : Before 5 (row_at rows f.place) (cells key) → ⊥
  key-low b =
      let e = f.is b.place b.inside in
      let u = is_key b.place b.inside in
      let s = slot line b.place in
      elim (cases_lt s k) [
        | inl h ↦ omega (arith, b.less, e, u, agree s h)
        | inr h ↦ elim (cases_lt k s) [
          | inl g ↦ omega (arith, b.less, u, blank s (omega arith))
          | inr g ↦ (let q : s ≡ k = omega arith in
              let e2 : row_at rows f.place b.place ≡ v k = rw (sym q) e in
              let u2 : get_or key b.place 0 ≡ get_or env k 0 = rw (sym q) u in
              omega (arith, b.less))
        ]
      ]

  module _ (at : ℕ) (below : (j : ℕ) → j < at → Before 5 (row_at rows j) (cells key)) where
    pub not-past : at ≤ f.place
    not-past = elim (cases_lt f.place at) [ inl h ↦ absurd (key-low (below f.place h)) | inr h ↦ h ]

    module _ (sorted : Sorted rows) (c : ℕ) (inside : c < 5) (same : (i : ℕ) → i < c → (slot line i < k) × (row_at rows at i ≡ get_or key i 0)) where
      -- the first row from the key on is no larger at the next column
      pub next_le : row_at rows at c ≤ v (slot line c)
      next_le =
          let le : row_at rows at c ≤ row_at rows f.place c =
          not-less 5 (row_at rows at) (row_at rows f.place) c inside
          (λ i h. (same i h).1 ∙ is_key i (omega arith) ∙ sym (agree (slot line i) (same i h).0) ∙ sym (f.is i (omega arith)))
          (sorted at f.place not-past f.inside) in
          omega (arith, le, f.is c inside)

      -- and is the key's where the slot has its value already
      pub next-same : slot line c < k → (Before 5 (row_at rows at) (cells key) → ⊥) → row_at rows at c ≡ get_or key c 0
      next-same h from =
          let ge : get_or key c 0 ≤ row_at rows at c =
          not-less 5 (cells key) (row_at rows at) c inside (λ i g. sym (same i g).1) from in
          omega (arith, ge, next_le, is_key c inside, agree (slot line c) h)

pub line_of : (rows lines : List (List ℕ)) (v : Value) → AllStand rows lines v → (i : ℕ) → i < length lines → Stands rows (get_or lines i []) v
unfolding AllStand
line_of rows lines v f = f

pub all-stand : (rows lines : List (List ℕ)) (v : Value) → ((i : ℕ) → i < length lines → Stands rows (get_or lines i []) v) → AllStand rows lines v
unfolding AllStand
all-stand rows lines v f = f

-- where all its slots have their values, a line stands under these
pub found_known : (rows : List (List ℕ)) (line env : List ℕ) (k : ℕ) (v : Value) → SlotsBelow k line → Agree k env v → Stands rows line v → Stands rows line (cells env)
found_known rows line env k v low agree f = record { place = f.place; inside = f.inside; is = λ c h. f.is c h ∙ agree (slot line c) (low c h) }

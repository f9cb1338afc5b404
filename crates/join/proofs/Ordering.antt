-- The order of rows by the first place where they differ.
use Rattle.std.proofs.Common.{◌≡◌, ℕ, zero, suc, ◌+◌, ◌<◌, ◌≤◌, ◌⊎◌, List, length, sym, ◌∙◌, inl, inr, arith}
use Rattle.std.proofs.lemmas.Bool.{cases_lt}
use Rattle.join.specs.Order.{Value, Before, Sorted, row_at}

pub record Differ (n : ℕ) (a b : Value) : Type 0 where
  pub place : ℕ
  pub inside : place < n
  pub same : (i : ℕ) → i < place → a i ≡ b i
  pub not : a place ≡ b place → ⊥

pub cases_eq : (x y : ℕ) → (x ≡ y) ⊎ (x ≡ y → ⊥)
cases_eq x y = elim (cases_lt x y) [ inl h ↦ inr (λ e. omega arith) | inr h ↦ elim (cases_lt y x) [ inl g ↦ inr (λ e. omega arith) | inr g ↦ inl (omega arith) ] ]

-- two rows agree below a place, or differ at a first one
pub first_differ : (n : ℕ) (a b : Value) → ((i : ℕ) → i < n → a i ≡ b i) ⊎ Differ n a b
first_differ zero a b = inl (λ i h. absurd (omega arith))
first_differ (suc n) a b = elim (first_differ n a b) [
  | inl s ↦ elim (cases_eq (a n) (b n)) [
    | inl e ↦ inl (λ i h. elim (cases_lt i n) [ inl g ↦ s i g | inr g ↦ (let q : i ≡ n = omega arith in rw q e) ])
    | inr d ↦ inr (record { place = n; inside = omega arith; same = s; not = d })
  ]
  | inr d ↦ inr (record { place = d.place; inside = omega (arith, d.inside); same = d.same; not = d.not })
]

-- at the first place past which they are not known to agree, a row that does not come before is not smaller
pub not-less : (n : ℕ) (a b : Value) (c : ℕ) → c < n → ((i : ℕ) → i < c → a i ≡ b i) → (Before n b a → ⊥) → a c ≤ b c
not-less n a b c h s nb = elim (cases_lt (b c) (a c)) [
  | inl g ↦ absurd (nb (record { place = c; inside = h; same = λ i k. sym (s i k); less = g }))
  | inr g ↦ g
]

-- no later than b, which comes before c
pub le_before : (n : ℕ) (a b c : Value) → (Before n b a → ⊥) → Before n b c → Before n a c
le_before n a b c nb h = elim (first_differ (suc h.place) a b) [
  | inl s ↦ record { place = h.place; inside = h.inside; same = λ i k. s i (omega arith) ∙ h.same i k; less = omega (arith, s h.place (omega arith), h.less) }
  | inr d ↦
      let le : a d.place ≤ b d.place = not-less n a b d.place (omega (arith, d.inside, h.inside)) d.same nb in
      let lt : a d.place < b d.place = elim (cases_lt (a d.place) (b d.place)) [ inl g ↦ g | inr g ↦ absurd (d.not (omega arith)) ] in
      record {
        place = d.place;
        inside = omega (arith, d.inside, h.inside);
        same = λ i k. d.same i k ∙ h.same i (omega (arith, d.inside));
        less = elim (cases_lt d.place h.place) [
          | inl g ↦ omega (arith, lt, h.same d.place g)
          | inr g ↦ (let e : d.place ≡ h.place = omega (arith, d.inside) in
              let hl : b d.place < c d.place = rw e h.less in omega arith)
        ];
      }
]

-- rows that agree everywhere do not come before one another
pub same_not : (n : ℕ) (a b : Value) → ((i : ℕ) → i < n → a i ≡ b i) → Before n a b → ⊥
same_not n a b s h = omega (arith, s h.place h.inside, h.less)

-- what comes before at a row comes before at each earlier one
pub all-before : (rows : List (List ℕ)) (m : ℕ) (key : Value) → Sorted rows → m < length rows → Before 5 (row_at rows m) key → (j : ℕ) → j < m + 1 → Before 5 (row_at rows j) key
all-before rows m key up h b j k = le_before 5 (row_at rows j) (row_at rows m) key (up j m (omega arith) h) b

-- Two lines made into one answer the same.
use Rattle.std.proofs.Common.{◌≡◌, ℕ, ◌+◌, ◌-◌, ◌<◌, ◌≤◌, ◌≢◌, ◌⊎◌, List, [], length, get_or, set, Ok, Err, Result, sym, refl, ap, ◌∙◌, subst, inl, inr, arith, length-set, get_or-set_other, get_or-set_same}
use Rattle.std.proofs.lemmas.Bool.{cases_lt}
use Rattle.join.specs.Order.{Value}
use Rattle.join.specs.Slots.{Agree, AllStand, SlotsBelow, Stands, slot}
use Rattle.join.specs.FirstValues.{AllBelow, Covered, HasSlot, Names}
use Rattle.join.specs.RowsOut.{Among, Answered, PutOut, Standing, row_of}
use Rattle.join.specs.declared.output.NoRoomAfter.{NoRoomAfter}
use Rattle.join.proofs.Bounds.{all-stand, line_of}
use Rattle.join.proofs.Ordering.{cases_eq}
use Rattle.narrow.specs.Rows.{Held, SameRows}
use Rattle.narrow.specs.Joining.{Apart, Either, Free, Gathered, Joint, Merged, Replaced, WithinBoth}
use Rattle.narrow.specs.Narrowed.{Narrowed, asked}

pub held : (rows : List (List ℕ)) (line : List ℕ) (v : Value) → Stands rows line v → Held rows (λ c. v (slot line c))
held rows line v f = record { place = f.place; inside = f.inside; is = f.is }

pub stands : (rows : List (List ℕ)) (line : List ℕ) (v : Value) → Held rows (λ c. v (slot line c)) → Stands rows line v
stands rows line v f = record { place = f.place; inside = f.inside; is = f.is }

-- a line stands under other values that are the same at its slots
stands_same : (rows : List (List ℕ)) (line : List ℕ) (v u : Value) → ((c : ℕ) → c < 5 → v (slot line c) ≡ u (slot line c)) → Stands rows line v → Stands rows line u
stands_same rows line v u e f = record { place = f.place; inside = f.inside; is = λ c h. f.is c h ∙ e c h }

choose : {A B : Type 0} → A ⊎ B → ℕ → ℕ → ℕ
choose (inl p) x y = x
choose (inr p) x y = y

choose_cases : {A B : Type 0} (d : A ⊎ B) (x y : ℕ) → (A × (choose d x y ≡ x)) ⊎ (B × (choose d x y ≡ y))
unfolding choose
choose_cases (inl p) x y = inl (p, refl)
choose_cases (inr p) x y = inr (p, refl)

pub within-below : (n : ℕ) (first second new : List ℕ) → SlotsBelow n first → SlotsBelow n second → WithinBoth first second new → SlotsBelow n new
within-below n first second new low_first low_second within c h = elim (within c h) [
  | inl x ↦ (let y = low_first x.column x.narrow in omega (arith, x.is))
  | inr x ↦ (let y = low_second x.column x.narrow in omega (arith, x.is))
]

-- where a line stands among those that are left
pub record Left (lines after : List (List ℕ)) (i : ℕ) : Type 0 where
  pub at : ℕ
  pub inside : at < length after
  pub is : get_or after at [] ≡ get_or lines i []

-- a line that is left: the new one, or an old one that is not one of the two
pub record Old (lines after : List (List ℕ)) (a b i : ℕ) : Type 0 where
  pub at : ℕ
  pub inside : at < length lines
  pub not_first : at ≢ a
  pub not_second : at ≢ b
  pub is : get_or after i [] ≡ get_or lines at []

-- the new line in the place a, and each old line but the two
pub record LeftOver (lines : List (List ℕ)) (a b : ℕ) (new : List ℕ) (after : List (List ℕ)) : Type 0 where
  pub inside : a < length after
  pub here : get_or after a [] ≡ new
  pub left : (i : ℕ) → i < length lines → i ≢ a → i ≢ b → Left lines after i
  pub old : (i : ℕ) → i < length after → (i ≡ a) ⊎ Old lines after a b i

module _ (lines : List (List ℕ)) (a b : ℕ) (new : List ℕ) (after : List (List ℕ)) (order : a < b) (inside : b < length lines) (r : Replaced lines a b new after) where
  left : (i : ℕ) → i < length lines → i ≢ a → i ≢ b → Left lines after i
  left i h na nb = elim (cases_lt i b) [
    | inl l ↦ record { at = i; inside = omega (arith, r.long); is = r.before i l na }
    | inr l ↦
        let o : b < i = omega arith in
        let e : i - 1 + 1 ≡ i = omega arith in
        record { at = i - 1; inside = omega (arith, r.long); is = r.behind (i - 1) (omega arith) ∙ ap (λ j. get_or lines j []) e }
  ]

  old : (i : ℕ) → i < length after → (i ≡ a) ⊎ Old lines after a b i
  old i h = elim (cases_eq i a) [
    | inl e ↦ inl e
    | inr ne ↦ elim (cases_lt i b) [
      | inl l ↦ inr (record { at = i; inside = omega (arith, r.long); not_first = ne; not_second = λ e. omega arith; is = r.before i l ne })
      | inr l ↦ inr (record { at = i + 1; inside = omega (arith, r.long); not_first = λ e. omega arith; not_second = λ e. omega arith; is = r.behind i l })
    ]
  ]

  pub left-of-two : LeftOver lines a b new after
  left-of-two = record { inside = omega (arith, r.long); here = r.here; left = left; old = old }

-- a line put in the place of another
pub left_of_one : (lines : List (List ℕ)) (a : ℕ) (new : List ℕ) → a < length lines → LeftOver lines a a new (set lines a new)
left_of_one lines a new inside = record {
  inside = rw (length-set lines a new) inside;
  here = rw get_or-set_same;
  left = λ i h na _. record { at = i; inside = rw (length-set lines a new) h; is = rw get_or-set_other };
  old = λ i h. elim (cases_eq i a) [
    | inl e ↦ inl e
    | inr ne ↦ inr (record { at = i; inside = rw (length-set lines a new) at h; not_first = ne; not_second = ne; is = rw get_or-set_other })
  ];
}

module _ (rows lines : List (List ℕ)) (n shown k : ℕ) (env : List ℕ) (a b : ℕ) (new : List ℕ) (out after : List (List ℕ))
    (first_in : a < length lines) (inside : b < length lines) (low : k ≤ shown) (below : AllBelow n lines)
    (g : Gathered lines a b shown k new) (apart : Apart lines a b k env) (m : Merged rows (get_or lines a []) (get_or lines b []) new k env out) (l : LeftOver lines a b new after) where
  -- the rows of another line are there before and after
  keep : (v : Value) → Agree k env v → (i : ℕ) → i < length lines → i ≢ a → i ≢ b → Stands rows (get_or lines i []) v → Stands out (get_or lines i []) v
  keep v agree i h na nb f =
      let o = apart.others i h na nb in
      let e = agree (slot (get_or lines i []) 0) o.0 in
      stands out (get_or lines i []) v (m.kept (λ c. v (slot (get_or lines i []) c)) (held rows (get_or lines i []) v f) (λ x. o.1 (sym e ∙ x)) (λ x. o.2 (sym e ∙ x)))

  unkeep : (v : Value) → Agree k env v → (i : ℕ) → i < length lines → i ≢ a → i ≢ b → Stands out (get_or lines i []) v → Stands rows (get_or lines i []) v
  unkeep v agree i h na nb f =
      let o = apart.others i h na nb in
      let e = agree (slot (get_or lines i []) 0) o.0 in
      elim (m.only (λ c. v (slot (get_or lines i []) c)) (held out (get_or lines i []) v f)) [
        | inl j ↦ absurd (o.1 (sym e ∙ j.is 0 (omega arith) ∙ ap j.value g.first ∙ j.agree (slot (get_or lines a []) 0) apart.first))
        | inr p ↦ stands rows (get_or lines i []) v p.0
      ]

  stand-new : (v : Value) → Agree k env v → AllStand rows lines v → AllStand out after v
  stand-new v agree f = all-stand out after v (λ i h. elim (l.old i h) [
    | inl e ↦ subst (λ y. Stands out y v) (sym (ap (λ j. get_or after j []) e ∙ l.here))
        (stands out new v (m.joined v agree (line_of rows lines v f a first_in) (line_of rows lines v f b inside)))
    | inr o ↦ subst (λ y. Stands out y v) (sym o.is) (keep v agree o.at o.inside o.not_first o.not_second (line_of rows lines v f o.at o.inside))
  ])

  module _ (v : Value) (agree : Agree k env v) (f : AllStand out after v) where
    -- the new line stands on values of both
    joint : Joint rows (get_or lines a []) (get_or lines b []) new k env (λ c. v (slot new c))
    joint =
        let s : Stands out new v = subst (λ y. Stands out y v) l.here (line_of out after v f a l.inside) in
        elim (m.only (λ c. v (slot new c)) (held out new v s)) [
          | inl j ↦ j
          | inr p ↦ absurd (p.1 (ap v g.first ∙ agree (slot (get_or lines a []) 0) apart.first))
        ]

    -- the free slots have their values there, all others as they are
    back : Value
    back j = choose (g.each j) (v j) (joint.value j)

    back-kept : (j : ℕ) → (Free lines a b shown j → ⊥) → back j ≡ v j
    unfolding back choose
    back-kept j bound = elim (choose_cases (g.each j) (v j) (joint.value j)) [ inl p ↦ p.1 | inr p ↦ absurd (bound p.0) ]

    back-shown : (j : ℕ) → j < shown → back j ≡ v j
    back-shown j h = back-kept j (λ p. omega (arith, p.inner))

    -- at a slot of the two they are the new line's values
    back_either : (j : ℕ) → Either (get_or lines a []) (get_or lines b []) j → back j ≡ joint.value j
    unfolding back choose
    back_either j e = elim (choose_cases (g.each j) (v j) (joint.value j)) [
      | inr p ↦ p.1
      | inl p ↦ elim (cases_lt j k) [
        | inl h ↦ p.1 ∙ agree j h ∙ sym (joint.agree j h)
        | inr h ↦ (let c = p.0 e h in
            p.1 ∙ ap v (sym c.is) ∙ joint.is c.column c.narrow ∙ ap joint.value c.is)
      ]
    ]

    stand-at : (i : ℕ) → i < length lines → Stands rows (get_or lines i []) back
    stand-at i h = elim (cases_eq i a) [
      | inl e ↦ subst (λ x. Stands rows (get_or lines x []) back) (sym e)
          (stands_same rows (get_or lines a []) joint.value back (λ c h. sym (back_either (slot (get_or lines a []) c) (inl (record { column = c; narrow = h; is = refl })))) joint.stands_first)
      | inr na ↦ elim (cases_eq i b) [
        | inl e ↦ subst (λ x. Stands rows (get_or lines x []) back) (sym e)
            (stands_same rows (get_or lines b []) joint.value back (λ c h. sym (back_either (slot (get_or lines b []) c) (inr (record { column = c; narrow = h; is = refl })))) joint.stands_second)
        | inr nb ↦
            let o = l.left i h na nb in
            let s : Stands out (get_or lines i []) v = subst (λ x. Stands out x v) o.is (line_of out after v f o.at o.inside) in
            stands_same rows (get_or lines i []) v back
            (λ c x. sym (back-kept (slot (get_or lines i []) c) (λ p. p.unnamed i h na nb (record { column = c; narrow = x; is = refl }))))
            (unkeep v agree i h na nb s)
      ]
    ]

    stand-old : AllStand rows lines back
    stand-old = all-stand rows lines back stand-at

  -- a slot that is shown keeps a line that names it
  covered-new : Covered lines k shown → Covered after k shown
  covered-new c j h s =
      let p = c j h s in
      let named : Names (get_or lines p.line []) j = record { column = p.column; narrow = p.narrow; is = p.is } in
      let kept : Either (get_or lines a []) (get_or lines b []) j → HasSlot after j = λ e. elim (g.each j) [
        | inl f ↦ (let x = f e h in record { line = a; inside = l.inside; column = x.column; narrow = x.narrow; is = subst (λ y. slot y x.column ≡ j) (sym l.here) x.is })
        | inr f ↦ absurd (omega (arith, f.inner))
      ] in
      elim (cases_eq p.line a) [
        | inl e ↦ kept (inl (subst (λ x. Names (get_or lines x []) j) e named))
        | inr na ↦ elim (cases_eq p.line b) [
          | inl e ↦ kept (inr (subst (λ x. Names (get_or lines x []) j) e named))
          | inr nb ↦ (let o = l.left p.line p.inside na nb in
              record { line = o.at; inside = o.inside; column = p.column; narrow = p.narrow; is = subst (λ x. slot x p.column ≡ j) (sym o.is) p.is })
        ]
      ]

  new-below : SlotsBelow n new
  new-below = within-below n (get_or lines a []) (get_or lines b []) new (below a first_in) (below b inside) g.only

  below_new : AllBelow n after
  below_new i h = elim (l.old i h) [
    | inl e ↦ subst (SlotsBelow n) (sym (ap (λ j. get_or after j []) e ∙ l.here)) new-below
    | inr o ↦ subst (SlotsBelow n) (sym o.is) (below o.at o.inside)
  ]

  pub narrowed-by : Narrowed n shown k env rows lines out after
  narrowed-by = record {
    below = below_new;
    covered = covered-new;
    same = λ row slots x. (
      λ w. record { value = w.value; agree = w.agree; stand = stand-new w.value w.agree w.stand; is = w.is },
      λ w. record {
        value = back w.value w.agree w.stand;
        agree = λ j h. back-shown w.value w.agree w.stand j (omega arith) ∙ w.agree j h;
        stand = stand-old w.value w.agree w.stand;
        is = λ c h. w.is c h ∙ sym (back-shown w.value w.agree w.stand (slot row c) (slots c h));
      },
    );
  }

pub narrowed_none : (n shown k : ℕ) (env : List ℕ) (rows lines : List (List ℕ)) → AllBelow n lines → Narrowed n shown k env rows lines rows lines
narrowed_none n shown k env rows lines below = record { below = below; covered = λ c. c; same = λ row slots r. (λ w. w, λ w. w) }

pub narrowed_more : (n shown k : ℕ) (env : List ℕ) (rows lines rows-1 lines-1 rows-2 lines-2 : List (List ℕ))
    → Narrowed n shown k env rows lines rows-1 lines-1 → Narrowed n shown k env rows-1 lines-1 rows-2 lines-2 → Narrowed n shown k env rows lines rows-2 lines-2
narrowed_more n shown k env rows lines rows-1 lines-1 rows-2 lines-2 p q = record {
  below = q.below;
  covered = λ c. q.covered (p.covered c);
  same = λ row slots r. (λ w. (q.same row slots r).0 ((p.same row slots r).0 w), λ w. (p.same row slots r).1 ((q.same row slots r).1 w));
}

-- the same rows answer the same
pub narrowed_same : (n shown k : ℕ) (env : List ℕ) (rows lines new-rows : List (List ℕ)) → AllBelow n lines → SameRows rows new-rows → Narrowed n shown k env rows lines new-rows lines
narrowed_same n shown k env rows lines new-rows below s =
    let all : (v : Value) → AllStand rows lines v → AllStand new-rows lines v =
    λ v f. all-stand new-rows lines v (λ i h. stands new-rows (get_or lines i []) v ((s (λ c. v (slot (get_or lines i []) c))).0 (held rows (get_or lines i []) v (line_of rows lines v f i h)))) in
    let back : (v : Value) → AllStand new-rows lines v → AllStand rows lines v =
    λ v f. all-stand rows lines v (λ i h. stands rows (get_or lines i []) v ((s (λ c. v (slot (get_or lines i []) c))).1 (held new-rows (get_or lines i []) v (line_of new-rows lines v f i h)))) in
    record {
      below = below;
      covered = λ c. c;
      same = λ row slots r. (
        λ w. record { value = w.value; agree = w.agree; stand = all w.value w.stand; is = w.is },
        λ w. record { value = w.value; agree = w.agree; stand = back w.value w.stand; is = w.is },
      );
    }

-- what is put out for the one is put out for the other
module _ (k : ℕ) (env row : List ℕ) (rows lines new-rows new-lines : List (List ℕ))
    (same : (r : Value) → (Answered (asked k env row rows lines) r → Answered (asked k env row new-rows new-lines) r) × (Answered (asked k env row new-rows new-lines) r → Answered (asked k env row rows lines) r)) where
  among_same : (out : List ℕ) (count : ℕ) (r : Value) → Among (asked k env row new-rows new-lines) out count r → Among (asked k env row rows lines) out count r
  among_same out count r m = record { place = m.place; inside = m.inside; is = m.is }

  standing-same : (before out : List ℕ) (count : ℕ) → Standing (asked k env row new-rows new-lines) before out count → Standing (asked k env row rows lines) before out count
  standing-same before out count s = record {
    room = s.room;
    answered = λ i h. (same (row_of out (length row) i)).1 (s.answered i h);
    rising = s.rising;
    first = λ r w. elim (s.first r ((same r).0 w)) [ inl m ↦ inl (among_same out count r m) | inr a ↦ inr a ];
    rest = s.rest;
  }

  pub put-out-same : (before out : List ℕ) (r : Result ℕ NoRoomAfter) → PutOut (asked k env row new-rows new-lines) before out r → PutOut (asked k env row rows lines) before out r
  put-out-same before out (Ok count) p = (standing-same before out count p.0, λ r w. among_same out count r (p.1 r ((same r).0 w)))
  put-out-same before out (Err e) p = (
    standing-same before out e.0 p.0,
    record { next = p.1.next; answered = (same p.1.next).1 p.1.answered; after = p.1.after; short = p.1.short },
  )

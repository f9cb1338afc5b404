-- The steps of the search for the first values in order.
use Rattle.std.proofs.Common.{◌≡◌, ℕ, ◌+◌, ◌^◌, ◌<◌, ◌≤◌, true, false, cond, eqb, ◌≢◌, ◌⊎◌, List, [], length, get_or, set, Some, None, Option, Bor, IfSome, MatchOption, is_some, sym, refl, ap, ◌∙◌, inl, inr, arith, get_or-set_other, get_or-set_same}
use Rattle.std.proofs.lemmas.Bool.{cases_lt}
use Rattle.std.proofs.lemmas.Bool.Decides.{nat_tests}
use Rattle.join.specs.Order.{Value, Before, cells, row_at}
use Rattle.join.specs.Slots.{Agree, Blank, AllStand, Stands, SlotsBelow, slot}
use Rattle.join.specs.FirstValues.{Wanted, FirstValues, HasSlot, AllBelow, Small, Passing}
use Rattle.join.proofs.Bounds.{line_of, all-stand}

-- values of slots that a line names are numbers of the table
pub value_small : (rows lines : List (List ℕ)) (k : ℕ) (v : Value) → Small rows → HasSlot lines k → AllStand rows lines v → v k < 2 ^ 64
value_small rows lines k v small m f =
    let g = line_of rows lines v f m.line m.inside in
    let e : row_at rows g.place m.column ≡ v k = g.is m.column m.narrow ∙ ap v m.is in
    omega (arith, e, small g.place m.column)

-- the values come after the last ones, if there are any
abbrev pub later : ℕ → Option (Bor (List ℕ)) → Value → Type 0
later shown after v = IfSome after (λ last. Before shown (cells last.now) v)

abbrev pub passing : ℕ → ℕ → List ℕ → Option (Bor (List ℕ)) → Type 0
passing shown k env after = IfSome after (λ last. Passing shown k env last.now)

-- the values with another one for a slot
abbrev pub put : Value → ℕ → ℕ → Value
put v s x j = cond (eqb j s) x (v j)

put-at : (v : Value) (s x : ℕ) → put v s x s ≡ x
put-at v s x = let e : eqb s s ≡ true = grind (arith, nat_tests) in rw e

put_other : (v : Value) (s x j : ℕ) → j ≢ s → put v s x j ≡ v j
put_other v s x j ne = let e : eqb j s ≡ false = grind (arith, nat_tests) in rw e

later_put : (shown k : ℕ) (after : Option (Bor (List ℕ))) (x : ℕ) → shown ≤ k → (v : Value) → later shown after v → later shown after (put v k x)
later_put shown k None x h v l = tt
later_put shown k (Some last) x h v b = record {
  place = b.place;
  inside = b.inside;
  same = λ i g. b.same i g ∙ sym (put_other v k x i (omega (arith, b.inside)));
  less = omega (arith, b.less, put_other v k x b.place (omega (arith, b.inside)));
}

-- any value will do for a slot that is not shown and that no line names
any_value : (rows lines : List (List ℕ)) (shown k : ℕ) (env : List ℕ) (after : Option (Bor (List ℕ))) (x : ℕ) → shown ≤ k → (HasSlot lines k → ⊥) → (v : Value)
    → Wanted rows lines shown k env (later shown after) v → Wanted rows lines shown k env (later shown after) (put v k x)
any_value rows lines shown k env after x h free v w = record {
  agree = λ j g. put_other v k x j (omega arith) ∙ w.agree j g;
  stand = all-stand rows lines (put v k x) (λ i g.
      let f = line_of rows lines v w.stand i g in
      record { place = f.place; inside = f.inside; is = λ c m. f.is c m ∙ sym (put_other v k x (slot (get_or lines i []) c) (λ e. free (record { line = i; inside = g; column = c; narrow = m; is = e }))) });
  late = later_put shown k after x h v w.late;
}

-- so where no values with the first number for it will do, none will
pub no_value : (rows lines : List (List ℕ)) (shown k : ℕ) (env : List ℕ) (after : Option (Bor (List ℕ))) (x : ℕ) → shown ≤ k → (HasSlot lines k → ⊥)
    → ((v : Value) → Wanted rows lines shown k env (later shown after) v → x + 1 ≤ v k) → (v : Value) → Wanted rows lines shown k env (later shown after) v → ⊥
no_value rows lines shown k env after x h free up v w = omega (arith, up (put v k 0) (any_value rows lines shown k env after 0 h free v w), put-at v k 0)

module _ (env : List ℕ) (k x : ℕ) (room : k < length env) where
  pub here-at : get_or (set env k x) k 0 ≡ x
  here-at = rw get_or-set_same

  pub here-other : (j : ℕ) → j ≢ k → get_or (set env k x) j 0 ≡ get_or env j 0
  here-other j ne = rw get_or-set_other

  pub here-blank : Blank k env → Blank (k + 1) (set env k x)
  here-blank b j h = here-other j (omega arith) ∙ b j (omega arith)

  pub here-agree : (v : Value) → Agree k env v → Agree k (set env k x) v
  here-agree v a j h = a j h ∙ sym (here-other j (omega arith))

  pub here-more : (v : Value) → Agree k env v → v k ≡ x → Agree (k + 1) (set env k x) v
  here-more v a e j h = elim (cases_lt j k) [
    | inl g ↦ here-agree v a j g
    | inr g ↦ (let q : j ≡ k = omega arith in rw q (e ∙ sym here-at))
  ]

  pub here-less : (v : Value) → Agree (k + 1) (set env k x) v → Agree k env v
  here-less v a j h = a j (omega arith) ∙ here-other j (omega arith)

  pub here-value : (v : Value) → Agree (k + 1) (set env k x) v → v k ≡ x
  here-value v a = a k (omega arith) ∙ here-at

-- all shown values are the last ones
pub none_after : (rows lines : List (List ℕ)) (shown k : ℕ) (env : List ℕ) (after : Option (Bor (List ℕ))) → is_some after ≡ true → shown ≤ k → passing shown k env after
    → (v : Value) → Wanted rows lines shown k env (later shown after) v → ⊥
none_after rows lines shown k env None e h p v w = let z : ◌≡◌ {A = ℕ} 0 1 = cc in omega arith
none_after rows lines shown k env (Some last) e h p v w =
    let b = w.late in omega (arith, b.less, p.1 b.place (omega (arith, b.inside)), w.agree b.place (omega (arith, b.inside)))

-- the next value is no less than the last one
from-last : (rows lines : List (List ℕ)) (shown k : ℕ) (env : List ℕ) (last : Bor (List ℕ)) → Passing shown k env last.now → (v : Value) → Wanted rows lines shown k env (later shown (Some last)) v → get_or last.now k 0 ≤ v k
from-last rows lines shown k env last p v w =
    let b = w.late in
    elim (cases_lt b.place k) [
      | inl g ↦ absurd (omega (arith, b.less, p.1 b.place g, w.agree b.place g))
      | inr g ↦ elim (cases_lt k b.place) [
        | inl h ↦ omega (arith, b.same k h)
        | inr h ↦ (let q : b.place ≡ k = omega arith in let l : get_or last.now k 0 < v k = rw q at b.less in omega arith)
      ]
    ]

-- where the search for a slot's value begins: no wanted value is less, and the last one is no more
pub record From (rows lines : List (List ℕ)) (shown k : ℕ) (env : List ℕ) (after : Option (Bor (List ℕ))) (x : ℕ) : Type 0 where
  pub reached : IfSome after (λ last. get_or last.now k 0 ≤ x)
  pub low : (v : Value) → Wanted rows lines shown k env (later shown after) v → x ≤ v k

pub start : (rows lines : List (List ℕ)) (shown k : ℕ) (env : List ℕ) (after : Option (Bor (List ℕ))) (x : ℕ) → passing shown k env after
    → MatchOption after (x ≡ 0) (λ last. x ≡ get_or last.now k 0) → From rows lines shown k env after x
start rows lines shown k env None x p e = record { reached = tt; low = λ v w. omega arith }
start rows lines shown k env (Some last) x p e = record { reached = omega arith; low = λ v w. omega (arith, from-last rows lines shown k env last p v w) }

reach_more : (k x y : ℕ) (after : Option (Bor (List ℕ))) → x ≤ y → IfSome after (λ last. get_or last.now k 0 ≤ x) → IfSome after (λ last. get_or last.now k 0 ≤ y)
reach_more k x y None h r = tt
reach_more k x y (Some last) h r = omega arith

late_none : (shown : ℕ) (after : Option (Bor (List ℕ))) → is_some after ≡ false → (v : Value) → later shown after v
late_none shown None e v = tt
late_none shown (Some last) e v = absurd (let z : ◌≡◌ {A = ℕ} 0 1 = cc in omega arith)

-- what is passed on of the last values: they, if the slot has its last value, and else nothing
abbrev pub StillPassing : ℕ → ℕ → Option (Bor (List ℕ)) → Option (Bor (List ℕ)) → Type 0
StillPassing k x after still = MatchOption after (still ≡ None) (λ last. ((still ≡ Some last) × (get_or last.now k 0 ≡ x)) ⊎ ((still ≡ None) × (get_or last.now k 0 ≢ x)))

late_more : (shown k x : ℕ) (after still : Option (Bor (List ℕ))) → StillPassing k x after still → (v : Value) → later shown after v → later shown still v
late_more shown k x None still s v l = rw s tt
late_more shown k x (Some last) still s v l = elim s [ inl p ↦ rw p.0 l | inr p ↦ rw p.0 tt ]

pub passing-more : (shown k x : ℕ) (env : List ℕ) (after still : Option (Bor (List ℕ))) → k < length env → StillPassing k x after still → (is_some after ≡ true → k < shown) → passing shown k env after
    → passing shown (k + 1) (set env k x) still
passing-more shown k x env None still room s left p = rw s tt
passing-more shown k x env (Some last) still room s left p = elim s [
  | inl q ↦ rw q.0 (
    omega (arith, left refl),
    λ j h. elim (cases_lt j k) [
      | inl g ↦ p.1 j g ∙ sym (here-other env k x room j (omega arith))
      | inr g ↦ (let e : j ≡ k = omega arith in rw e (q.1 ∙ sym (here-at env k x room)))
    ],
  )
  | inr q ↦ rw q.0 tt
]

late_taken : (shown k x : ℕ) (env e : List ℕ) (after still : Option (Bor (List ℕ))) → StillPassing k x after still → (is_some after ≡ true → k < shown) → passing shown k env after
    → IfSome after (λ last. get_or last.now k 0 ≤ x) → Agree k env (cells e) → get_or e k 0 ≡ x → later shown still (cells e) → later shown after (cells e)
late_taken shown k x env e None still s left p r a h l = tt
late_taken shown k x env e (Some last) still s left p r a h l = elim s [
  | inl q ↦ rw q.0 at l
  | inr q ↦ record {
    place = k;
    inside = left refl;
    same = λ i g. p.1 i g ∙ sym (a i g);
    less = elim (cases_lt (get_or last.now k 0) x) [ inl g ↦ omega arith | inr g ↦ absurd (q.1 (omega arith)) ];
  }
]

module _ (rows lines : List (List ℕ)) (shown k : ℕ) (env : List ℕ) (after : Option (Bor (List ℕ))) where
  -- all slots have their values
  pub complete : AllBelow k lines → is_some after ≡ false → ((i : ℕ) → i < length lines → SlotsBelow k (get_or lines i []) → Stands rows (get_or lines i []) (cells env)) → shown ≤ k
      → FirstValues rows lines shown k env (later shown after) (Some env)
  complete low t f h = (
    record { agree = λ j g. refl; stand = all-stand rows lines (cells env) (λ i g. f i g (low i g)); late = late_none shown after t (cells env) },
    λ v w b. omega (arith, b.less, w.agree b.place (omega (arith, b.inside))),
  )

  module _ (x : ℕ) (room : k < length env) where
    module _ (still : Option (Bor (List ℕ))) (s : StillPassing k x after still) (f : From rows lines shown k env after x) where
      wanted-more : (v : Value) → Wanted rows lines shown k env (later shown after) v → v k ≡ x → Wanted rows lines shown (k + 1) (set env k x) (later shown still) v
      wanted-more v w e = record { agree = here-more env k x room v w.agree e; stand = w.stand; late = late_more shown k x after still s v w.late }

      -- none with this value
      pub past : FirstValues rows lines shown (k + 1) (set env k x) (later shown still) None → From rows lines shown k env after (x + 1)
      past none_left = record {
        reached = reach_more k x (x + 1) after (omega arith) f.reached;
        low = λ v w. elim (cases_lt x (v k)) [ inl g ↦ omega arith | inr g ↦ absurd (none_left v (wanted-more v w (omega (arith, f.low v w)))) ];
      }

      pub taken : (e : List ℕ) → (is_some after ≡ true → k < shown) → passing shown k env after
          → FirstValues rows lines shown (k + 1) (set env k x) (later shown still) (Some e) → FirstValues rows lines shown k env (later shown after) (Some e)
      taken e left p found =
          let a = here-less env k x room (cells e) found.0.agree in
          let ek = here-value env k x room (cells e) found.0.agree in (
            record { agree = a; stand = found.0.stand; late = late_taken shown k x env e after still s left p f.reached a ek found.0.late },
            λ v w b. elim (cases_lt x (v k)) [
              | inl l ↦ elim (cases_lt b.place k) [
                | inl h ↦ omega (arith, b.less, w.agree b.place h, a b.place h)
                | inr h ↦ elim (cases_lt k b.place) [
                  | inl m ↦ omega (arith, b.same k m, ek)
                  | inr m ↦ (let q : b.place ≡ k = omega arith in let bl : v k < get_or e k 0 = rw q at b.less in omega (arith, ek))
                ]
              ]
              | inr l ↦ found.1 v (wanted-more v w (omega (arith, f.low v w))) b
            ],
          )

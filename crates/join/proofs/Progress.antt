-- The steps of putting rows out.
use Rattle.std.proofs.Common.{◌≡◌, ℕ, ◌+◌, ◌*◌, ◌^◌, ◌<◌, ◌≤◌, Bool, is_some, ◌⊎◌, List, Option, Bor, IfSome, MatchOption, [], length, take, get_or, Some, None, Ok, Err, sym, refl, ap, ◌∙◌, inl, inr, mul-le-mul_right, add-mul, one-mul, zero-mul, arith}
use mir.Val.{bool_byte}
use Rattle.std.specs.Option.{option_copied}
use Rattle.std.proofs.lemmas.Bool.{cases_lt}
use Rattle.std.specs.List.{flat_map}
use Rattle.std.proofs.lemmas.List.{get_or_past}
use Rattle.std.proofs.lemmas.List.Concat.{get_or-flat_map}
use Rattle.join.specs.Order.{Value, Before, cells, row_at}
use Rattle.join.proofs.Ordering.{first_differ, le_before, same_not}
use Rattle.join.specs.Slots.{Agree, AllStand, slot}
use Rattle.join.specs.FirstValues.{FirstValues, Small}
use Rattle.join.proofs.Steps.{later}
use Rattle.join.specs.RowsOut.{row_of, Asked, Answered, Among, AfterAll, Standing, PutOut, AllShown}

abbrev pub row_under : List ℕ → Value → Value
row_under row v c = v (slot row c)

-- the values come after those of the last row, if there is one
abbrev pub later_than : ℕ → Option (List ℕ) → Value → Type 0
later_than shown last v = IfSome last (λ e. Before shown (cells e) v)

pub later-from : (shown : ℕ) (last : Option (List ℕ)) (after : Option (Bor (List ℕ))) → option_copied after ≡ last → (v : Value) → later_than shown last v → later shown after v
later-from shown last None e v l = tt
later-from shown last (Some r) e v l = rw (sym e) at l

pub later-to : (shown : ℕ) (last : Option (List ℕ)) (after : Option (Bor (List ℕ))) → option_copied after ≡ last → (v : Value) → later shown after v → later_than shown last v
later-to shown last None e v l = rw (sym e) tt
later-to shown last (Some r) e v l = rw (sym e) l

pub record Progress (q : Asked) (shown : ℕ) (old out : List ℕ) (count at : ℕ) (last : Option (List ℕ)) : Type 0 where
  pub at_is : at ≡ count * length q.row
  pub room : at ≤ length out
  pub few : count ≤ at
  pub known : MatchOption last (count ≡ 0) (λ e. Agree q.k q.env (cells e) × ((i : ℕ) → i < count → Before (length q.row) (row_under q.row (cells e)) (row_of out (length q.row) i) → ⊥))
  pub answered : (i : ℕ) → i < count → Answered q (row_of out (length q.row) i)
  pub rising : (i j : ℕ) → i < j → j < count → Before (length q.row) (row_of out (length q.row) i) (row_of out (length q.row) j)
  pub found : (v : Value) → Agree q.k q.env v → AllStand q.rows q.lines v → Among q out count (row_under q.row v) ⊎ later_than shown last v
  pub rest : (p : ℕ) → at ≤ p → get_or out p 0 ≡ get_or old p 0

pub before_same : (n : ℕ) (a x b y : Value) → ((i : ℕ) → i < n → a i ≡ x i) → ((i : ℕ) → i < n → b i ≡ y i) → Before n a b → Before n x y
before_same n a x b y p q h = record {
  place = h.place;
  inside = h.inside;
  same = λ i g. sym (p i (omega (arith, h.inside))) ∙ h.same i g ∙ q i (omega (arith, h.inside));
  less = omega (arith, h.less, p h.place h.inside, q h.place h.inside);
}

not_both : (n : ℕ) (a b : Value) → Before n a b → Before n b a → ⊥
not_both n a b h g = elim (cases_lt h.place g.place) [
  | inl l ↦ omega (arith, g.same h.place l, h.less)
  | inr l ↦ elim (cases_lt g.place h.place) [
    | inl m ↦ omega (arith, h.same g.place m, g.less)
    | inr m ↦ (let e : g.place ≡ h.place = omega arith in let gl : b h.place < a h.place = rw e at g.less in omega (arith, h.less))
  ]
]

block : (w i n : ℕ) → i < n → i * w + w ≤ n * w
block w i n h =
    let p : (i + 1) * w ≤ n * w = mul-le-mul_right w (omega arith) in
    let e : (i + 1) * w ≡ i * w + 1 * w = add-mul i 1 w in
    omega (arith, p, e, one-mul w)

-- later values of the shown slots make a later row
pub row-after : (row : List ℕ) (k shown : ℕ) (a b : Value) → AllShown row k shown → ((j : ℕ) → j < k → a j ≡ b j) → Before shown a b → Before (length row) (row_under row a) (row_under row b)
row-after row k shown a b shows same h = elim (cases_lt h.place k) [
  | inl l ↦ absurd (omega (arith, same h.place l, h.less))
  | inr l ↦ (let s = shows h.place l h.inside in
      record {
        place = s.column;
        inside = s.narrow;
        same = λ i g. h.same (slot row i) (s.first i g);
        less = (let e : slot row s.column ≡ h.place = s.is in rw e h.less);
      })
]

module _ (q : Asked) (shown : ℕ) (old : List ℕ) (wide : 0 < length q.row) where
  pub begin : Progress q shown old old 0 0 None
  begin = record {
    at_is = sym (zero-mul (length q.row));
    room = omega arith;
    few = omega arith;
    known = refl;
    answered = λ i h. absurd (omega arith);
    rising = λ i j h g. absurd (omega arith);
    found = λ v a f. inr tt;
    rest = λ p h. refl;
  }

  -- the last row, and so each, comes before a row of later values
  behind_last : AllShown q.row q.k shown → (out : List ℕ) (count : ℕ) (last : Option (List ℕ)) → MatchOption last (count ≡ 0) (λ e. Agree q.k q.env (cells e) × ((i : ℕ) → i < count → Before (length q.row) (row_under q.row (cells e)) (row_of out (length q.row) i) → ⊥))
      → (v : Value) → Agree q.k q.env v → later_than shown last v → AfterAll q out count (row_under q.row v)
  behind_last shows out count None n v a b i h = absurd (omega arith)
  behind_last shows out count (Some e) n v a b i h =
      le_before (length q.row) (row_of out (length q.row) i) (row_under q.row (cells e)) (row_under q.row v) (n.1 i h)
      (row-after q.row q.k shown (cells e) v shows (λ j g. n.0 j g ∙ sym (a j g)) b)

  module _ (shows : AllShown q.row q.k shown) (slots : (c : ℕ) → c < length q.row → slot q.row c < shown)
      (out : List ℕ) (count at : ℕ) (last : Option (List ℕ)) (p : Progress q shown old out count at last) where
    after-all : (v : Value) → Agree q.k q.env v → later_than shown last v → AfterAll q out count (row_under q.row v)
    after-all = behind_last shows out count last p.known

    pub standing : Standing q old out count
    standing = record {
      room = omega (arith, p.at_is, p.room);
      answered = p.answered;
      rising = p.rising;
      first = λ r w. elim (p.found w.value w.agree w.stand) [
        | inl m ↦ inl (record { place = m.place; inside = m.inside; is = λ c h. m.is c h ∙ sym (w.is c h) })
        | inr b ↦ inr (λ i h. before_same (length q.row) (row_of out (length q.row) i) (row_of out (length q.row) i) (row_under q.row w.value) r
            (λ c g. refl) (λ c g. sym (w.is c g)) (after-all w.value w.agree b i h))
      ];
      rest = λ x h. p.rest x (omega (arith, p.at_is));
    }

    module _ (Late : Value → Type 0) (late : (v : Value) → later_than shown last v → Late v) (lately : (v : Value) → Late v → later_than shown last v) where
      -- nothing is left
      pub all-out : FirstValues q.rows q.lines shown q.k q.env Late None → PutOut q old out (Ok count)
      all-out none_left = (
        standing,
        λ r w. elim (p.found w.value w.agree w.stand) [
          | inl m ↦ record { place = m.place; inside = m.inside; is = λ c h. m.is c h ∙ sym (w.is c h) }
          | inr b ↦ absurd (none_left w.value (record { agree = w.agree; stand = w.stand; late = late w.value b }))
        ],
      )

      module _ (e : List ℕ) (least : FirstValues q.rows q.lines shown q.k q.env Late (Some e)) where
        next-after : AfterAll q out count (row_under q.row (cells e))
        next-after i h = after-all (cells e) least.0.agree (lately (cells e) least.0.late) i h

        pub no_room : length out < at + length q.row → PutOut q old out (Err (record { 0 = count }))
        no_room h = (
          standing,
          record {
            next = row_under q.row (cells e);
            answered = record { value = cells e; agree = least.0.agree; stand = least.0.stand; is = λ c g. refl };
            after = next-after;
            short = omega (arith, p.at_is);
          },
        )

        module _ (now-out : List ℕ) (fits : at + length q.row ≤ length now-out)
            (put : (c : ℕ) → c < length q.row → get_or now-out (at + c) 0 ≡ get_or e (slot q.row c) 0)
            (kept : (x : ℕ) → x < at → get_or now-out x 0 ≡ get_or out x 0)
            (behind : (x : ℕ) → at + length q.row ≤ x → get_or now-out x 0 ≡ get_or out x 0) where
          stays : (i : ℕ) → i < count → (c : ℕ) → c < length q.row → row_of out (length q.row) i c ≡ row_of now-out (length q.row) i c
          stays i h c g = sym (kept (i * length q.row + c) (omega (arith, block (length q.row) i count h, p.at_is)))

          newest : (c : ℕ) → c < length q.row → row_of now-out (length q.row) count c ≡ get_or e (slot q.row c) 0
          newest c g = ap (λ x. get_or now-out (x + c) 0) (sym p.at_is) ∙ put c g

          one_more : (P : ℕ → Type 0) → ((i : ℕ) → i < count → P i) → P count → (i : ℕ) → i < count + 1 → P i
          one_more P f here i h = elim (cases_lt i count) [ inl g ↦ f i g | inr g ↦ (let x : count ≡ i = omega arith in rw x at here) ]

          before-new : (i : ℕ) → i < count → Before (length q.row) (row_of now-out (length q.row) i) (row_of now-out (length q.row) count)
          before-new i h = before_same (length q.row) (row_of out (length q.row) i) (row_of now-out (length q.row) i) (row_under q.row (cells e)) (row_of now-out (length q.row) count)
              (stays i h) (λ c g. sym (newest c g)) (next-after i h)

          pub put-more : Progress q shown old now-out (count + 1) (at + length q.row) (Some e)
          put-more = record {
            at_is = omega (arith, p.at_is, add-mul count 1 (length q.row), one-mul (length q.row));
            room = fits;
            few = omega (arith, p.few, wide);
            known = (
              least.0.agree,
              one_more (λ i. Before (length q.row) (row_under q.row (cells e)) (row_of now-out (length q.row) i) → ⊥)
                  (λ i h b. not_both (length q.row) (row_under q.row (cells e)) (row_of now-out (length q.row) i) b
                  (before_same (length q.row) (row_of now-out (length q.row) i) (row_of now-out (length q.row) i) (row_of now-out (length q.row) count) (row_under q.row (cells e)) (λ c g. refl) newest (before-new i h)))
                  (same_not (length q.row) (row_under q.row (cells e)) (row_of now-out (length q.row) count) (λ c g. sym (newest c g))),
            );
            answered = one_more (λ i. Answered q (row_of now-out (length q.row) i))
                (λ i h. let a = p.answered i h in record { value = a.value; agree = a.agree; stand = a.stand; is = λ c g. sym (stays i h c g) ∙ a.is c g })
                (record { value = cells e; agree = least.0.agree; stand = least.0.stand; is = newest });
            rising = λ i j h g. elim (cases_lt j count) [
              | inl l ↦ before_same (length q.row) (row_of out (length q.row) i) (row_of now-out (length q.row) i) (row_of out (length q.row) j) (row_of now-out (length q.row) j)
                  (stays i (omega arith)) (stays j l) (p.rising i j h l)
              | inr l ↦ (let x : count ≡ j = omega arith in rw x at (before-new i (omega arith)))
            ];
            found = λ v a f. elim (p.found v a f) [
              | inl m ↦ inl (record { place = m.place; inside = omega (arith, m.inside); is = λ c g. sym (stays m.place m.inside c g) ∙ m.is c g })
              | inr b ↦ elim (first_differ shown (cells e) v) [
                | inl s ↦ inl (record { place = count; inside = omega arith; is = λ c g. newest c g ∙ s (slot q.row c) (slots c g) })
                | inr d ↦ elim (cases_lt (cells e d.place) (v d.place)) [
                  | inl l ↦ inr (record { place = d.place; inside = d.inside; same = d.same; less = l })
                  | inr l ↦ absurd (least.1 v (record { agree = a; stand = f; late = late v b })
                      (record {
                        place = d.place;
                        inside = d.inside;
                        same = λ i h. sym (d.same i h);
                        less = elim (cases_lt (v d.place) (cells e d.place)) [ inl m ↦ m | inr m ↦ absurd (d.not (omega arith)) ];
                      }))
                ]
              ]
            ];
            rest = λ x h. behind x h ∙ p.rest x (omega arith);
          }

module _ (q : Asked) (shown : ℕ) (old : List ℕ) (Late : Value → Type 0) (all : (v : Value) → Late v) (narrow : length q.row ≡ 0) where
  none-empty : FirstValues q.rows q.lines shown q.k q.env Late None → PutOut q old old (Ok 0)
  none-empty none_left =
      let no_row : (r : Value) → Answered q r → ⊥ = λ r w. none_left w.value (record { agree = w.agree; stand = w.stand; late = all w.value }) in (
        record {
          room = omega (arith, zero-mul (length q.row));
          answered = λ i h. absurd (omega arith);
          rising = λ i j h g. absurd (omega arith);
          first = λ r w. absurd (no_row r w);
          rest = λ p h. refl;
        },
        λ r w. absurd (no_row r w),
      )

  one-empty : (e : List ℕ) → FirstValues q.rows q.lines shown q.k q.env Late (Some e) → PutOut q old old (Ok 1)
  one-empty e least =
      let here : (r : Value) → Among q old 1 r = λ r. record { place = 0; inside = omega arith; is = λ c h. absurd (omega arith) } in (
        record {
          room = omega (arith, one-mul (length q.row));
          answered = λ i h. record { value = cells e; agree = least.0.agree; stand = least.0.stand; is = λ c g. absurd (omega arith) };
          rising = λ i j h g. absurd (omega arith);
          first = λ r w. inl (here r);
          rest = λ p h. refl;
        },
        λ r w. here r,
      )

  pub empty-out : (r : Option (List ℕ)) → FirstValues q.rows q.lines shown q.k q.env Late r → (n : ℕ) (b : Bool) → b ≡ is_some r → n ≡ bool_byte b → PutOut q old old (Ok n)
  empty-out None least n b e g = rw (g, e) (none-empty least)
  empty-out (Some v) least n b e g = rw (g, e) (one-empty v least)

-- numbers of 64 bits in a row after the other are so in each row
pub small-by : (rows : List (List ℕ)) (numbers : List ℕ) → numbers ≡ flat_map (λ x. x) rows → ((p : ℕ) → get_or numbers p 0 < 2 ^ 64) → Small rows
small-by rows numbers e f j c = elim (cases_lt j (length rows)) [
  | inl h ↦ elim (cases_lt c (length (get_or rows j []))) [
    | inl g ↦ (let p = length (flat_map (λ x. x) (take j rows)) + c in
        let q = get_or-flat_map (λ x. x) rows j c [] 0 h g in
        let r : get_or numbers p 0 ≡ row_at rows j c = rw e q in
        omega (arith, f p))
    | inr g ↦ (let r : row_at rows j c ≡ 0 = get_or_past (get_or rows j []) c 0 g in omega arith)
  ]
  | inr h ↦ (let r : row_at rows j c ≡ 0 = rw (get_or_past rows j [] h) in omega arith)
]

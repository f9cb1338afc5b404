-- The values of the slots of two lines that stand on two rows.
use Rattle.std.proofs.Common.{◌≡◌, ℕ, ◌+◌, ◌<◌, ◌≤◌, ◌≢◌, List, length, get_or, set, Some, sym, refl, ap, ◌∙◌, subst, inl, inr, arith, get_or-set_other, get_or-set_same}
use Rattle.std.proofs.lemmas.Bool.{cases_lt}
use Rattle.join.specs.Order.{Value, cells}
use Rattle.join.specs.Slots.{Agree, slot}
use Rattle.join.proofs.Ordering.{cases_eq}
use Rattle.narrow.specs.Rows.{Fits}
use Rattle.narrow.specs.Joining.{Both, Either, Pair}

-- the first m columns of the row are put into the line's slots from k on
pub record Putting (line : List ℕ) (f : Value) (k m : ℕ) (old new : List ℕ) : Type 0 where
  pub low : (j : ℕ) → j < k → get_or new j 0 ≡ get_or old j 0
  pub put : (v : Value) → Fits line f v → (c : ℕ) → c < m → k ≤ slot line c → get_or new (slot line c) 0 ≡ v (slot line c)
  pub stays : (v : Value) → Fits line f v → (j : ℕ) → get_or old j 0 ≡ v j → get_or new j 0 ≡ v j

module _ (line : List ℕ) (f : Value) (k m : ℕ) (old new : List ℕ) where
  pub putting-begin : Putting line f k 0 old old
  putting-begin = record { low = λ j h. refl; put = λ v g c h. absurd (omega arith); stays = λ v g j e. e }

  pub putting-none : slot line m < k → Putting line f k m old new → Putting line f k (m + 1) old new
  putting-none low p = record {
    low = p.low;
    put = λ v g c h o. elim (cases_lt c m) [ inl l ↦ p.put v g c l o | inr l ↦ (let e : c ≡ m = omega arith in absurd (let q = ap (slot line) e in omega arith)) ];
    stays = p.stays;
  }

  module _ (room : slot line m < length new) (narrow : m < 5) (high : k ≤ slot line m) (p : Putting line f k m old new) where
    here : get_or (set new (slot line m) (f m)) (slot line m) 0 ≡ f m
    here = rw get_or-set_same

    other : (j : ℕ) → j ≢ slot line m → get_or (set new (slot line m) (f m)) j 0 ≡ get_or new j 0
    other j h = rw get_or-set_other

    -- whatever was right stays right
    right : (v : Value) → Fits line f v → (j : ℕ) → get_or new j 0 ≡ v j → get_or (set new (slot line m) (f m)) j 0 ≡ v j
    right v g j e = elim (cases_eq j (slot line m)) [
      | inl q ↦ subst (λ x. get_or (set new (slot line m) (f m)) x 0 ≡ v x) (sym q) (here ∙ g m narrow)
      | inr q ↦ other j q ∙ e
    ]

    pub putting-more : Putting line f k (m + 1) old (set new (slot line m) (f m))
    putting-more = record {
      low = λ j h. other j (omega arith) ∙ p.low j h;
      put = λ v g c h o. elim (cases_lt c m) [
        | inl l ↦ right v g (slot line c) (p.put v g c l o)
        | inr l ↦ (let e : m ≡ c = omega arith in subst (λ x. get_or (set new (slot line m) (f m)) (slot line x) 0 ≡ v (slot line x)) e (here ∙ g m narrow))
      ];
      stays = λ v g j e. right v g j (p.stays v g j e);
    }

module _ (first second : List ℕ) (f g : Value) (k : ℕ) (env one two : List ℕ) (p : Putting first f k 5 env one) (q : Putting second g k 5 one two) where
  pub pair-agree : Agree k env (cells two)
  pair-agree j h = q.low j h ∙ p.low j h

  -- they are the only values of the slots of both
  pub pair-only : (v : Value) → Pair first second f g k env v → (j : ℕ) → Either first second j → get_or two j 0 ≡ v j
  pair-only v w j (inl x) = elim (cases_lt j k) [
    | inl l ↦ pair-agree j l ∙ sym (w.agree j l)
    | inr l ↦ q.stays v w.fits_second j (subst (λ y. get_or one y 0 ≡ v y) x.is (p.put v w.fits_first x.column x.narrow (omega (arith, x.is))))
  ]
  pair-only v w j (inr x) = elim (cases_lt j k) [
    | inl l ↦ pair-agree j l ∙ sym (w.agree j l)
    | inr l ↦ subst (λ y. get_or two y 0 ≡ v y) x.is (q.put v w.fits_second x.column x.narrow (omega (arith, x.is)))
  ]

  pub pair-first : (v : Value) → Pair first second f g k env v → Fits first f (cells two)
  pair-first v w c h = w.fits_first c h ∙ sym (pair-only v w (slot first c) (inl (record { column = c; narrow = h; is = refl })))

  pub pair-second : (v : Value) → Pair first second f g k env v → Fits second g (cells two)
  pair-second v w c h = w.fits_second c h ∙ sym (pair-only v w (slot second c) (inr (record { column = c; narrow = h; is = refl })))

  pub pair_found : Fits first f (cells two) → Fits second g (cells two) → Both first second f g k env (Some two)
  pair_found x y = (record { agree = pair-agree; fits_first = x; fits_second = y }, pair-only)

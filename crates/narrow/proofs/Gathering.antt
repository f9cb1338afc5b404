-- The slots of the new line, gathered one by one.
use Rattle.std.proofs.Common.{◌≡◌, ℕ, ◌+◌, ◌<◌, ◌≤◌, ◌≢◌, ◌⊎◌, List, [], length, get_or, set, sym, ap, ◌∙◌, subst, inl, inr, arith, length-set, get_or-set_other, get_or-set_same}
use Rattle.std.proofs.lemmas.Bool.{cases_lt}
use Rattle.join.specs.Slots.{slot}
use Rattle.join.specs.FirstValues.{AllBelow}
use Rattle.narrow.specs.Joining.{Either, Free, Gathered, WithinBoth}

-- the slot is at one of the first w columns
pub record PutIn (line : List ℕ) (w j : ℕ) : Type 0 where
  pub column : ℕ
  pub narrow : column < w
  pub is : slot line column ≡ j

-- the slots below j are dealt with, and the line has w columns
pub record Gathering (lines : List (List ℕ)) (a b shown k j w : ℕ) (new : List ℕ) : Type 0 where
  pub some : 1 ≤ w
  pub few : w ≤ 5
  pub long : length new ≡ 5
  pub first : slot new 0 ≡ slot (get_or lines a []) 0
  pub only : WithinBoth (get_or lines a []) (get_or lines b []) new
  pub each : (i : ℕ) → i < j → (Either (get_or lines a []) (get_or lines b []) i → k ≤ i → PutIn new w i) ⊎ Free lines a b shown i

module _ (lines : List (List ℕ)) (a b shown k : ℕ) where
  pub gather_none : (j w : ℕ) (new : List ℕ) → (Either (get_or lines a []) (get_or lines b []) j → ⊥) ⊎ Free lines a b shown j → Gathering lines a b shown k j w new → Gathering lines a b shown k (j + 1) w new
  gather_none j w new d g = record {
    some = g.some;
    few = g.few;
    long = g.long;
    first = g.first;
    only = g.only;
    each = λ i h. elim (cases_lt i j) [
      | inl l ↦ g.each i l
      | inr l ↦ (let e : j ≡ i = omega arith in
          subst (λ x. (Either (get_or lines a []) (get_or lines b []) x → k ≤ x → PutIn new w x) ⊎ Free lines a b shown x) e
          (elim d [ inl n ↦ inl (λ p _. absurd (n p)) | inr f ↦ inr f ]))
    ];
  }

  module _ (j w : ℕ) (new : List ℕ) (room : w < 5) (e : Either (get_or lines a []) (get_or lines b []) j) (g : Gathering lines a b shown k j w new) where
    here : slot (set new w j) w ≡ j
    here = let h : w < length new = omega (arith, g.long) in rw get_or-set_same

    other : (c : ℕ) → c ≢ w → slot (set new w j) c ≡ slot new c
    other c h = rw get_or-set_other

    pub gather-more : Gathering lines a b shown k (j + 1) (w + 1) (set new w j)
    gather-more = record {
      some = omega arith;
      few = omega arith;
      long = length-set new w j ∙ g.long;
      first = other 0 (omega (arith, g.some)) ∙ g.first;
      only = λ c h. elim (cases_lt c w) [
        | inl l ↦ rw (other c (omega arith)) (g.only c h)
        | inr l ↦ elim (cases_lt w c) [
          | inl m ↦ rw (other c (omega arith)) (g.only c h)
          | inr m ↦ (let q : w ≡ c = omega arith in (subst (Either (get_or lines a []) (get_or lines b [])) (sym here ∙ ap (slot (set new w j)) q) e))
        ]
      ];
      each = λ i h. elim (cases_lt i j) [
        | inl l ↦ elim (g.each i l) [
          | inl f ↦ inl (λ p o. let x = f p o in record { column = x.column; narrow = omega (arith, x.narrow); is = other x.column (omega (arith, x.narrow)) ∙ x.is })
          | inr f ↦ inr f
        ]
        | inr l ↦ inl (λ p o. record { column = w; narrow = omega arith; is = here ∙ omega arith })
      ];
    }

  past : (n : ℕ) → a < length lines → b < length lines → AllBelow n lines → (i : ℕ) → n ≤ i → Either (get_or lines a []) (get_or lines b []) i → ⊥
  past n ia ib below i h (inl x) = omega (arith, below a ia x.column x.narrow, x.is)
  past n ia ib below i h (inr x) = omega (arith, below b ib x.column x.narrow, x.is)

  pub gathered : (n j w : ℕ) (new : List ℕ) → a < length lines → b < length lines → AllBelow n lines → n ≤ j → Gathering lines a b shown k j w new → Gathered lines a b shown k new
  gathered n j w new ia ib below ends g = record {
    first = g.first;
    only = g.only;
    each = λ i. elim (cases_lt i j) [
      | inl l ↦ elim (g.each i l) [
        | inl f ↦ inl (λ p o. let x = f p o in record { column = x.column; narrow = omega (arith, x.narrow, g.few); is = x.is })
        | inr f ↦ inr f
      ]
      | inr l ↦ inl (λ p o. absurd (past n ia ib below i (omega arith) p))
    ];
  }

-- The rows of the new line, put behind one another.
use Rattle.std.proofs.Common.{◌≡◌, ℕ, zero, suc, ◌+◌, ◌<◌, ◌≤◌, ◌≢◌, ◌⊎◌, List, [], ◌∷◌, ◌++◌, length, get_or, IfSome, Some, None, Option, sym, refl, ap, ◌∙◌, subst, inl, inr, arith}
use Rattle.std.proofs.Math.Logic.{∥∥₁_elim}
use Rattle.std.specs.Coded.{Coded-set, coded_ℕ}
use Rattle.std.proofs.lemmas.Bool.{cases_lt}
use Rattle.join.specs.Order.{Value, Before, Sorted, cells, row_at}
use Rattle.join.specs.Slots.{slot, under}
use Rattle.join.proofs.Bounds.{under_at}
use Rattle.narrow.specs.Rows.{Held, Keyed, SameRows, with_front}
use Rattle.narrow.specs.Joining.{Both, Joined, Matched, Merged, Others, Pair, Paired, WithinBoth, number, row_by}
use Rattle.narrow.proofs.Holding.{held-front, held_last, held_cases, held_none, held_same}

pub some_so : {A : Type 0} (o : Option A) (P Q : A → Type 0) → ((v : A) → P v → Q v) → IfSome o P → IfSome o Q
some_so None P Q f h = h
some_so (Some v) P Q f h = f v h

module _ (first second new : List ℕ) (k : ℕ) (env : List ℕ) where
  pair_same : (f g h v : Value) → ((c : ℕ) → c < 5 → g c ≡ h c) → Pair first second f g k env v → Pair first second f h k env v
  pair_same f g h v e p = record { agree = p.agree; fits_first = p.fits_first; fits_second = λ c l. sym (e c l) ∙ p.fits_second c l }

  module _ (f : Value) (keys : List (List ℕ)) where
    pub matched-begin : (At : ℕ → Type 0) (out : List (List ℕ)) → ((q : ℕ) → At q → ⊥) → Matched first second new k env f keys At out out
    matched-begin At out no_place = record { only = λ h l. inl l; stay = λ h l. l; all = λ p l a. absurd (no_place p a) }

    pub matched-so : (P Q : ℕ → Type 0) (xs ys : List (List ℕ)) → Matched first second new k env f keys P xs ys → ((q : ℕ) → q < length keys → Q q → P q) → Matched first second new k env f keys Q xs ys
    matched-so P Q xs ys m so = record { only = m.only; stay = m.stay; all = λ p l a. m.all p l (so p l a) }

    pub matched-more : (P Q R : ℕ → Type 0) (xs ys zs : List (List ℕ)) → Matched first second new k env f keys P xs ys → Matched first second new k env f keys Q ys zs
        → ((q : ℕ) → q < length keys → R q → P q ⊎ Q q) → Matched first second new k env f keys R xs zs
    matched-more P Q R xs ys zs m n split = record {
      only = λ h l. elim (n.only h l) [ inl o ↦ m.only h o | inr o ↦ inr o ];
      stay = λ h l. n.stay h (m.stay h l);
      all = λ p l a v w. elim (split p l a) [ inl o ↦ n.stay (λ c. v (slot new c)) (m.all p l o v w) | inr o ↦ n.all p l o v w ];
    }

    module _ (p : ℕ) (inside : p < length keys) (g : Value) (is : (c : ℕ) → c < 5 → g c ≡ row_by env second keys p c) (out : List (List ℕ)) where
      pub matched-none : Both first second f g k env None → Matched first second new k env f keys (λ q. q ≡ p) out out
      matched-none none_both = record {
        only = λ h l. inl l;
        stay = λ h l. l;
        all = λ q l e v w. absurd (none_both v (pair_same f (row_by env second keys p) g v (λ c o. sym (is c o)) (subst (λ x. Pair first second f (row_by env second keys x) k env v) e w)));
      }

      pub matched-one : (e x : List ℕ) → Both first second f g k env (Some e) → ∥ WithinBoth first second new ∥₁ → x ≡ under new e → Matched first second new k env f keys (λ q. q ≡ p) out (out ++ x ∷ [])
      matched-one e x both within is_row =
          let at : (c : ℕ) → c < 5 → get_or x c 0 ≡ get_or e (slot new c) 0 = λ c l. ap (λ r. get_or r c 0) is_row ∙ under_at new e c l in
          record {
            only = λ h l. elim (held_cases out x h l) [
              | inl o ↦ inl o
              | inr o ↦ inr (record {
                place = p;
                inside = inside;
                met = record { value = cells e; pair = pair_same f g (row_by env second keys p) (cells e) is both.0; is = λ c m. sym (o c m) ∙ at c m };
              })
            ];
            stay = λ h l. held-front out x h l;
            all = λ q l d v w.
                let pair = pair_same f (row_by env second keys p) g v (λ b o. sym (is b o)) (subst (λ y. Pair first second f (row_by env second keys y) k env v) d w) in
                held_last out x (λ c. v (slot new c)) (λ c m. at c m ∙ ∥∥₁_elim within (Coded-set coded_ℕ (get_or e (slot new c) 0) (v (slot new c))) (λ (o : WithinBoth first second new). both.1 v pair (slot new c) (o c m)));
          }

    -- the keys with a number are those from the first that does not come before it up to the first that is larger
    module _ (x from to : ℕ) (sorted : Sorted keys) (low : (j : ℕ) → j < from → Before 5 (row_at keys j) (cells (x ∷ 0 ∷ 0 ∷ 0 ∷ 0 ∷ []))) (high : (to < length keys → x < row_at keys to 0)) where
      behind-zero : (c : ℕ) → get_or (x ∷ 0 ∷ 0 ∷ 0 ∷ 0 ∷ []) (suc c) 0 ≡ 0
      behind-zero zero = refl
      behind-zero (suc zero) = refl
      behind-zero (suc (suc zero)) = refl
      behind-zero (suc (suc (suc zero))) = refl
      behind-zero (suc (suc (suc (suc c)))) = refl

      smaller : (q c : ℕ) → row_at keys q 0 ≡ x → row_at keys q c < get_or (x ∷ 0 ∷ 0 ∷ 0 ∷ 0 ∷ []) c 0 → ⊥
      smaller q zero e l = omega arith
      smaller q (suc c) e l = omega (arith, behind-zero c)

      pub number-from : (q : ℕ) → q < length keys → row_at keys q 0 ≡ x → from ≤ q
      number-from q h e = elim (cases_lt q from) [ inl l ↦ (let b = low q l in absurd (smaller q b.place e b.less)) | inr l ↦ l ]

      pub number-to : (q : ℕ) → q < length keys → row_at keys q 0 ≡ x → q < to
      number-to q h e = elim (cases_lt q to) [
        | inl l ↦ l
        | inr l ↦ absurd (sorted to q l h (record { place = 0; inside = omega arith; same = λ i g. absurd (omega arith); less = (let g = high (omega arith) in omega arith) }))
      ]

  module _ (rows keys : List (List ℕ)) (column : ℕ) where
    pub paired-begin : (out : List (List ℕ)) → out ≡ [] → Paired first second new k env rows 0 keys column out
    paired-begin out e = rw e (record { only = λ h l. absurd (held_none h l); all = λ j l. absurd (omega arith) })

    pub paired_none : (i : ℕ) (out : List (List ℕ)) → row_at rows i 0 ≢ number env first → Paired first second new k env rows i keys column out → Paired first second new k env rows (i + 1) keys column out
    paired_none i out ne p = record {
      only = p.only;
      all = λ j l e. elim (cases_lt j i) [ inl o ↦ p.all j o e | inr o ↦ (let q : i ≡ j = omega arith in absurd (ne (ap (λ y. row_at rows y 0) q ∙ e))) ];
    }

    pub paired-more : (i : ℕ) (out more : List (List ℕ)) → i < length rows → Paired first second new k env rows i keys column out
        → Matched first second new k env (row_at rows i) keys (λ q. row_at keys q 0 ≡ row_at rows i column) out more → Paired first second new k env rows (i + 1) keys column more
    paired-more i out more inside p m = record {
      only = λ h l. elim (m.only h l) [ inl o ↦ p.only h o | inr o ↦ record { place = i; inside = inside; met = o } ];
      all = λ j l e q o d v w. elim (cases_lt j i) [
        | inl b ↦ m.stay (λ c. v (slot new c)) (p.all j b e q o d v w)
        | inr b ↦
            let x : j ≡ i = omega arith in
            m.all q o (subst (λ y. row_at keys q 0 ≡ row_at rows y column) x d) v (subst (λ y. Pair first second (row_at rows y) (row_by env second keys q) k env v) x w)
      ];
    }

    -- the keys of the second line's rows by the same slot: all values under which both lines stand are met
    pub joined_by : (right : ℕ) (out : List (List ℕ)) → slot first 0 < k → slot second 0 < k → column < 5 → right < 5 → slot first column ≡ slot second right
        → Keyed rows (number env second) right keys → Paired first second new k env rows (length rows) keys column out → Joined rows first second new k env out
    joined_by right out low_first low_second narrow narrow-right same keyed p = record {
      only = λ h l.
          let r = p.only h l in
          let m = r.met.met in
          let src = keyed.only (row_at keys r.met.place) (record { place = r.met.place; inside = r.met.inside; is = λ c g. refl }) in
          record {
            value = m.value;
            agree = m.pair.agree;
            stands_first = record { place = r.place; inside = r.inside; is = m.pair.fits_first };
            stands_second = record { place = src.place; inside = src.inside; is = λ c g. front (row_at rows src.place) (row_at keys r.met.place) right src.numbered src.is c g ∙ m.pair.fits_second c g };
            is = m.is;
          };
      all = λ v agree f g.
          let a : row_at rows f.place 0 ≡ number env first = f.is 0 (omega arith) ∙ agree (slot first 0) low_first in
          let b : row_at rows g.place 0 ≡ number env second = g.is 0 (omega arith) ∙ agree (slot second 0) low_second in
          let key = keyed.each g.place g.inside b in
          p.all f.place f.inside a key.place key.inside
          (key.is 0 (omega arith) ∙ g.is right narrow-right ∙ ap v (sym same) ∙ sym (f.is column narrow)) v
          (record {
            agree = agree;
            fits_first = f.is;
            fits_second = λ c l. back (row_at rows g.place) (row_at keys key.place) right b key.is c l ∙ g.is c l;
          });
    }
      where
        front : (r key : Value) (right : ℕ) → r 0 ≡ number env second → ((c : ℕ) → c < 5 → with_front (r right) r c ≡ key c) → (c : ℕ) → c < 5 → r c ≡ with_front (number env second) key c
        front r key right e is zero g = e
        front r key right e is (suc c) g = is (suc c) g

        back : (r key : Value) (right : ℕ) → r 0 ≡ number env second → ((c : ℕ) → c < 5 → key c ≡ with_front (r right) r c) → (c : ℕ) → c < 5 → with_front (number env second) key c ≡ r c
        back r key right e is zero g = sym e
        back r key right e is (suc c) g = is (suc c) g

-- the rows of other lines
module _ (rows : List (List ℕ)) (x y : ℕ) where
  -- as far as the first i rows
  pub record Others-to (i : ℕ) (before after : List (List ℕ)) : Type 0 where
    pub only : (h : Value) → Held after h → Held before h ⊎ (Held rows h × (h 0 ≢ x) × (h 0 ≢ y))
    pub stay : (h : Value) → Held before h → Held after h
    pub all : (j : ℕ) → j < i → row_at rows j 0 ≢ x → row_at rows j 0 ≢ y → Held after (row_at rows j)

  pub others-begin : (out : List (List ℕ)) → Others-to 0 out out
  others-begin out = record { only = λ h l. inl l; stay = λ h l. l; all = λ j l. absurd (omega arith) }

  pub others-none : (i : ℕ) (before after : List (List ℕ)) → (row_at rows i 0 ≡ x) ⊎ (row_at rows i 0 ≡ y) → Others-to i before after → Others-to (i + 1) before after
  others-none i before after e o = record {
    only = o.only;
    stay = o.stay;
    all = λ j l a b. elim (cases_lt j i) [
      | inl m ↦ o.all j m a b
      | inr m ↦ (let q : j ≡ i = omega arith in absurd (elim e [ inl d ↦ a (ap (λ z. row_at rows z 0) q ∙ d) | inr d ↦ b (ap (λ z. row_at rows z 0) q ∙ d) ]))
    ];
  }

  pub others-more : (i : ℕ) (before after : List (List ℕ)) (r : List ℕ) → i < length rows → r ≡ get_or rows i [] → row_at rows i 0 ≢ x → row_at rows i 0 ≢ y → Others-to i before after → Others-to (i + 1) before (after ++ r ∷ [])
  others-more i before after r h e nx ny o = record {
    only = λ f l. elim (held_cases after r f l) [
      | inl m ↦ o.only f m
      | inr m ↦
          let is : (c : ℕ) → c < 5 → row_at rows i c ≡ f c = λ c g. ap (λ z. get_or z c 0) (sym e) ∙ m c g in
          let z = is 0 (omega arith) in
          inr (record { place = i; inside = h; is = is }, λ d. nx (z ∙ d), λ d. ny (z ∙ d))
    ];
    stay = λ f l. held-front after r f (o.stay f l);
    all = λ j l a b. elim (cases_lt j i) [
      | inl m ↦ held-front after r (row_at rows j) (o.all j m a b)
      | inr m ↦ (let q : i ≡ j = omega arith in held_last after r (row_at rows j) (λ c g. ap (λ z. get_or z c 0) (e ∙ ap (λ w. get_or rows w []) q)))
    ];
  }

  pub others-end : (i : ℕ) (before after : List (List ℕ)) → i ≡ length rows → Others-to i before after → Others rows x y before after
  others-end i before after e o = record {
    only = o.only;
    stay = o.stay;
    all = λ f l a b.
        let z = l.is 0 (omega arith) in
        held_same after (row_at rows l.place) f l.is (o.all l.place (omega (arith, l.inside)) (λ d. a (sym z ∙ d)) (λ d. b (sym z ∙ d)));
  }

pub merged_by : (rows : List (List ℕ)) (first second new : List ℕ) (k : ℕ) (env : List ℕ) (joined out after : List (List ℕ))
    → Joined rows first second new k env joined → Others rows (number env first) (number env second) joined out → SameRows out after → Merged rows first second new k env after
merged_by rows first second new k env joined out after j o s = record {
  only = λ f h. elim (o.only f ((s f).1 h)) [ inl l ↦ inl (j.only f l) | inr l ↦ inr (l.0, l.1) ];
  joined = λ v agree f g. (s (λ c. v (slot new c))).0 (o.stay (λ c. v (slot new c)) (j.all v agree f g));
  kept = λ f h a b. (s f).0 (o.all f h a b);
}

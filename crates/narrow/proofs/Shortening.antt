-- The rows of a line with fewer slots, put behind one another beside the others.
use Rattle.std.proofs.Common.{◌≡◌, ℕ, ◌+◌, ◌<◌, ◌≢◌, ◌⊎◌, List, [], ◌∷◌, ◌++◌, length, get_or, Some, None, sym, ap, ◌∙◌, subst, inl, inr, arith}
use Rattle.std.proofs.lemmas.Bool.{cases_lt}
use Rattle.join.specs.Order.{Value, cells, row_at}
use Rattle.join.specs.Slots.{slot, under}
use Rattle.join.proofs.Bounds.{under_at}
use Rattle.narrow.specs.Rows.{Held, SameRows}
use Rattle.narrow.specs.Joining.{Both, Joint, Merged, Pair, Shortened, WithinBoth, number}
use Rattle.narrow.proofs.Holding.{held-front, held_last, held_cases, held_none, held_same}

module _ (line new : List ℕ) (k : ℕ) (env : List ℕ) where
  module _ (f : Value) (out : List (List ℕ)) where
    pub shortened-none : Both line line f f k env None → Shortened line new k env f out out
    shortened-none none_both = record { only = λ h l. inl l; stay = λ h l. l; all = λ v w. absurd (none_both v w) }

    pub shortened-one : (e x : List ℕ) → Both line line f f k env (Some e) → WithinBoth line line new → x ≡ under new e → Shortened line new k env f out (out ++ x ∷ [])
    shortened-one e x both within is_row =
        let at : (c : ℕ) → c < 5 → get_or x c 0 ≡ get_or e (slot new c) 0 = λ c l. ap (λ r. get_or r c 0) is_row ∙ under_at new e c l in
        record {
          only = λ h l. elim (held_cases out x h l) [ inl o ↦ inl o | inr o ↦ inr (record { value = cells e; pair = both.0; is = λ c m. sym (o c m) ∙ at c m }) ];
          stay = λ h l. held-front out x h l;
          all = λ v w. held_last out x (λ c. v (slot new c)) (λ c m. at c m ∙ both.1 v w (slot new c) (within c m));
        }

  module _ (rows : List (List ℕ)) where
    -- as far as the first i rows
    pub record Projecting (i : ℕ) (out : List (List ℕ)) : Type 0 where
      pub only : (f : Value) → Held out f → Joint rows line line new k env f ⊎ (Held rows f × (f 0 ≢ number env line))
      pub joined : (j : ℕ) → j < i → row_at rows j 0 ≡ number env line → (v : Value) → Pair line line (row_at rows j) (row_at rows j) k env v → Held out (λ c. v (slot new c))
      pub kept : (j : ℕ) → j < i → row_at rows j 0 ≢ number env line → Held out (row_at rows j)

    pub projecting-begin : (out : List (List ℕ)) → out ≡ [] → Projecting 0 out
    projecting-begin out e = rw e (record { only = λ f h. absurd (held_none f h); joined = λ j h. absurd (omega arith); kept = λ j h. absurd (omega arith) })

    pub projecting-line : (i : ℕ) (out more : List (List ℕ)) → i < length rows → row_at rows i 0 ≡ number env line → Shortened line new k env (row_at rows i) out more → Projecting i out → Projecting (i + 1) more
    projecting-line i out more inside e s p = record {
      only = λ f h. elim (s.only f h) [
        | inl l ↦ p.only f l
        | inr m ↦ inl (record {
          value = m.value;
          agree = m.pair.agree;
          stands_first = record { place = i; inside = inside; is = m.pair.fits_first };
          stands_second = record { place = i; inside = inside; is = m.pair.fits_second };
          is = m.is;
        })
      ];
      joined = λ j h d v w. elim (cases_lt j i) [
        | inl l ↦ s.stay (λ c. v (slot new c)) (p.joined j l d v w)
        | inr l ↦ (let q : j ≡ i = omega arith in s.all v (subst (λ y. Pair line line (row_at rows y) (row_at rows y) k env v) q w))
      ];
      kept = λ j h ne. elim (cases_lt j i) [
        | inl l ↦ s.stay (row_at rows j) (p.kept j l ne)
        | inr l ↦ (let q : j ≡ i = omega arith in absurd (ne (ap (λ y. row_at rows y 0) q ∙ e)))
      ];
    }

    pub projecting-other : (i : ℕ) (out : List (List ℕ)) (x : List ℕ) → i < length rows → x ≡ get_or rows i [] → row_at rows i 0 ≢ number env line → Projecting i out → Projecting (i + 1) (out ++ x ∷ [])
    projecting-other i out x inside e ne p = record {
      only = λ f h. elim (held_cases out x f h) [
        | inl l ↦ p.only f l
        | inr l ↦
            let is : (c : ℕ) → c < 5 → row_at rows i c ≡ f c = λ c g. ap (λ z. get_or z c 0) (sym e) ∙ l c g in
            inr (record { place = i; inside = inside; is = is }, λ d. ne (is 0 (omega arith) ∙ d))
      ];
      joined = λ j h d v w. elim (cases_lt j i) [
        | inl l ↦ held-front out x (λ c. v (slot new c)) (p.joined j l d v w)
        | inr l ↦ (let q : i ≡ j = omega arith in absurd (ne (ap (λ y. row_at rows y 0) q ∙ d)))
      ];
      kept = λ j h d. elim (cases_lt j i) [
        | inl l ↦ held-front out x (row_at rows j) (p.kept j l d)
        | inr l ↦ (let q : i ≡ j = omega arith in held_last out x (row_at rows j) (λ c g. ap (λ z. get_or z c 0) (e ∙ ap (λ w. get_or rows w []) q)))
      ];
    }

    pub projected : (i : ℕ) (out after : List (List ℕ)) → i ≡ length rows → slot line 0 < k → Projecting i out → SameRows out after → Merged rows line line new k env after
    projected i out after e low p s = record {
      only = λ f h. p.only f ((s f).1 h);
      joined = λ v agree f g. (s (λ c. v (slot new c))).0
          (p.joined f.place (omega (arith, f.inside)) (f.is 0 (omega arith) ∙ agree (slot line 0) low) v (record { agree = agree; fits_first = f.is; fits_second = f.is }));
      kept = λ f h ne _. (s f).0 (held_same out (row_at rows h.place) f h.is (p.kept h.place (omega (arith, h.inside)) (λ d. ne (sym (h.is 0 (omega arith)) ∙ d))));
    }

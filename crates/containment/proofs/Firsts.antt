-- Of lines that are the same by a test, the first: what is among them.
use Rattle.std.proofs.Common.{◌≡◌, ℕ, suc, ◌≤◌, Bool, true, false, cond, eqb, ◌⊎◌, List, [], ◌∷◌, ◌++◌, length, refl, ap, ◌∙◌, subst, ap₂, inl, inr, arith, eqb-true}
use borrow.Author.Tests.{clash}
use Rattle.std.proofs.lemmas.Bool.{and_parts}
use Rattle.question.specs.declared.terms.Term.{Term}
use Rattle.question.specs.Question.{Line, In}
use Rattle.question.proofs.Members.{in_split, in_cases}
use Rattle.question.proofs.Places.{line_path}
use Rattle.containment.specs.Search.{term_eqb}
use Rattle.containment.specs.OwnNumbers.{terms_eqb, line_eqb, one_table, has_same, firsts}
use Rattle.containment.proofs.Searching.{term_eqb_true}

-- the test on lines, as a fact
terms_eqb_true : (ts us : List Term) → terms_eqb ts us ≡ true → ts ≡ us
unfolding terms_eqb
terms_eqb_true [] [] e = refl
terms_eqb_true [] (u ∷ us) e = absurd (clash e)
terms_eqb_true (t ∷ ts) [] e = absurd (clash e)
terms_eqb_true (t ∷ ts) (u ∷ us) e =
    let p : (term_eqb t u ≡ true) × (terms_eqb ts us ≡ true) = and_parts _ _ e in
    ap₂ {C = List Term} (λ a r. a ∷ r) (term_eqb_true t u p.0) (terms_eqb_true ts us p.1)

line_eqb_true : (l m : Line) → line_eqb l m ≡ true → l ≡ m
unfolding line_eqb
line_eqb_true l m e =
    let p : (eqb l.table m.table ≡ true) × (terms_eqb l.cells m.cells ≡ true) = and_parts _ _ e in
    line_path l m (eqb-true _ _ p.0) (terms_eqb_true _ _ p.1)

-- lines that a test takes for the same have one key
pub record Tells {K : Type 0} (key : Line → K) (same : Line → Line → Bool) : Type 0 where
  pub told : (l m : Line) → same l m ≡ true → key l ≡ key m

abbrev pub itself : Line → Line
itself l = l

abbrev pub its_table : Line → ℕ
its_table l = l.table

pub tells_line : Tells itself line_eqb
tells_line = record { told = line_eqb_true }

pub tells_table : Tells its_table one_table
tells_table = record { told = λ l m. eqb-true l.table m.table }

-- one of the lines has the key of m
pub record Like {K : Type 0} (key : Line → K) (m : Line) (ls : List Line) : Type 0 where
  pub line : Line
  pub is_in : In line ls
  pub key_is : key line ≡ key m

like_there : {K : Type 0} (key : Line → K) (m l : Line) (ls : List Line) → Like key m ls → Like key m (l ∷ ls)
like_there key m l ls k = record { line = k.line; is_in = In.there k.is_in; key_is = k.key_is }

pub has_like : {K : Type 0} (key : Line → K) (same : Line → Line → Bool) → Tells key same → (ms : List Line) (l : Line) → has_same same ms l ≡ true → Like key l ms
unfolding has_same
has_like key same t [] l e = absurd (clash e)
has_like key same t (m ∷ ms) l e = go (same m l) refl e (λ k. has_like key same t ms l k)
  where
    go : (b : Bool) → same m l ≡ b → cond b true (has_same same ms l) ≡ true → (has_same same ms l ≡ true → Like key l ms) → Like key l (m ∷ ms)
    go true p k f = record { line = m; is_in = In.here; key_is = t.told m l p }
    go false p k f = like_there key l m ms (f k)

-- the first of them are among the lines
pub firsts_in : (same : Line → Line → Bool) (before ls : List Line) (m : Line) → In m (firsts same before ls) → In m ls
unfolding firsts
firsts_in same before [] m i = elim i [ ]
firsts_in same before (l ∷ ls) m i = go (has_same same before l) i (λ j. firsts_in same (before ++ l ∷ []) ls m j)
  where
    go : (b : Bool) → In m (cond b (firsts same (before ++ l ∷ []) ls) (l ∷ firsts same (before ++ l ∷ []) ls)) → (In m (firsts same (before ++ l ∷ []) ls) → In m ls) → In m (l ∷ ls)
    go true i f = In.there (f i)
    go false i f = in_cases (In m (l ∷ ls)) (λ p. subst (λ (k : Line). In k (l ∷ ls)) p In.here) (λ j. In.there (f j)) i

-- and each line has one like it there or before
module _ {K : Type 0} (key : Line → K) (same : Line → Line → Bool) (t : Tells key same) where
  abbrev Found : (before rs : List Line) (m : Line) → Type 0
  Found before rs m = Like key m before ⊎ Like key m rs

  found_as : (before rs : List Line) (l m : Line) → key l ≡ key m → Found before rs l → Found before rs m
  found_as before rs l m e (inl k) = inl (record { line = k.line; is_in = k.is_in; key_is = k.key_is ∙ e })
  found_as before rs l m e (inr k) = inr (record { line = k.line; is_in = k.is_in; key_is = k.key_is ∙ e })

  found-next : (before rs us : List Line) (l m : Line) → Found before us l → ((k : Line) → In k rs → In k us) → Found (before ++ l ∷ []) rs m → Found before us m
  found-next before rs us l m f g (inr k) = inr (record { line = k.line; is_in = g k.line k.is_in; key_is = k.key_is })
  found-next before rs us l m f g (inl k) =
      elim (in_split before (l ∷ []) k.is_in) [
        | inl a ↦ inl (record { line = k.line; is_in = a; key_is = k.key_is })
        | inr b ↦ in_cases (Found before us m) (λ p. found_as before us l m (ap key p ∙ k.key_is) f) (λ j. elim j [ ]) b
      ]

  pub firsts-found : (before ls : List Line) (m : Line) → In m ls → Found before (firsts same before ls) m
  unfolding firsts
  firsts-found before [] m i = elim i [ ]
  firsts-found before (l ∷ ls) m i = go (has_same same before l) refl (λ j. firsts-found (before ++ l ∷ []) ls m j)
    where
      rest : List Line
      rest = firsts same (before ++ l ∷ []) ls

      go : (b : Bool) → has_same same before l ≡ b → (In m ls → Found (before ++ l ∷ []) rest m) → Found before (cond b rest (l ∷ rest)) m
      go true e f =
          let k : Found before rest l = inl (has_like key same t before l e) in
          in_cases _ (λ p. found_as before rest l m (ap key p) k) (λ j. found-next before rest rest l m k (λ x a. a) (f j)) i
      go false e f =
          let k : Found before (l ∷ rest) l = inr (record { line = l; is_in = In.here; key_is = refl }) in
          in_cases _ (λ p. found_as before (l ∷ rest) l m (ap key p) k) (λ j. found-next before rest (l ∷ rest) l m k (λ x a. In.there a) (f j)) i

  -- with nothing before, it is there
  pub firsts-like : (ls : List Line) (m : Line) → In m ls → Like key m (firsts same [] ls)
  firsts-like ls m i = elim (firsts-found [] ls m i) [ inl k ↦ elim k.is_in [ ] | inr k ↦ k ]

-- there are no more of them than lines
pub length-firsts : (same : Line → Line → Bool) (before ls : List Line) → length (firsts same before ls) ≤ length ls
unfolding firsts
length-firsts same before [] = omega arith
length-firsts same before (l ∷ ls) = go (has_same same before l) (length-firsts same (before ++ l ∷ []) ls)
  where
    go : (b : Bool) → length (firsts same (before ++ l ∷ []) ls) ≤ length ls → length (cond b (firsts same (before ++ l ∷ []) ls) (l ∷ firsts same (before ++ l ∷ []) ls)) ≤ suc (length ls)
    go true h = omega arith
    go false h = omega arith

-- one line more before
or_false : (b : Bool) → cond b true false ≡ b
or_false true = refl
or_false false = refl

or-or : (a b c : Bool) → cond a true (cond b true c) ≡ cond (cond a true b) true c
or-or true b c = refl
or-or false b c = refl

pub has_push : (same : Line → Line → Bool) (ms : List Line) (l m : Line) → has_same same (ms ++ l ∷ []) m ≡ cond (has_same same ms m) true (same l m)
unfolding has_same
has_push same [] l m = or_false (same l m)
has_push same (k ∷ ms) l m = ap (λ (b : Bool). cond (same k m) true b) (has_push same ms l m) ∙ or-or (same k m) (has_same same ms m) (same l m)

-- whether a line before is of its table, only the table tells
pub has-table_of : (ms : List Line) (l m : Line) → l.table ≡ m.table → has_same one_table ms l ≡ has_same one_table ms m
unfolding has_same
has-table_of [] l m e = refl
has-table_of (k ∷ ms) l m e = ap₂ {C = Bool} (λ (t : ℕ) (b : Bool). cond (eqb k.table t) true b) e (has-table_of ms l m e)

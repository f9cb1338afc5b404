-- What is in a list, and the tests on variables as facts: has, all_in, sound.
use Rattle.std.proofs.Common.{◌≡◌, ℕ, zero, suc, ◌<◌, Bool, true, false, cond, eqb, ltb, ◌⊎◌, List, [], ◌∷◌, ◌++◌, length, get_or, sym, refl, ap, ◌∙◌, subst, inl, inr, suc-le-suc, zero-le, le_of_suc-le-suc, not-suc-le-zero, ltb-true, lt-ltb, eq-eqb, eqb-true}
use borrow.Author.Tests.{clash}
use Rattle.std.proofs.lemmas.Bool.{and_parts, and_from}
use Rattle.question.specs.declared.terms.Term.{Term}
use Rattle.question.specs.declared.terms.Term.TheVariants.{Number, Variable}
use Rattle.question.specs.Question.{Line, Question, In}
use Rattle.question.specs.Sound.{has, vars, line_vars, all_in, sound}

pub in_left : {A : Type 0} {a : A} {xs : List A} (ys : List A) → In a xs → In a (xs ++ ys)
in_left ys In.here = In.here
in_left ys (In.there m) = In.there (in_left ys m)

pub in_right : {A : Type 0} {a : A} (xs : List A) {ys : List A} → In a ys → In a (xs ++ ys)
in_right [] m = m
in_right (x ∷ xs) m = In.there (in_right xs m)

pub in_split : {A : Type 0} {a : A} (xs ys : List A) → In a (xs ++ ys) → In a xs ⊎ In a ys
in_split [] ys m = inr m
in_split (x ∷ xs) ys In.here = inl In.here
in_split (x ∷ xs) ys (In.there m) = elim (in_split xs ys m) [ inl a ↦ inl (In.there a) | inr b ↦ inr b ]

-- cases of what is in a list, also where the element is computed
pub in_cases : {A : Type 0} {s x : A} {xs : List A} (P : Type 0) → (x ≡ s → P) → (In s xs → P) → In s (x ∷ xs) → P
in_cases P f g In.here = f refl
in_cases P f g (In.there m) = g m

pub in_length : {A : Type 0} {a : A} {xs : List A} → In a xs → 0 < length xs
in_length In.here = suc-le-suc zero-le
in_length (In.there m) = suc-le-suc zero-le

cond_in : (c : Bool) (m n : ℕ) (ms : List ℕ) (t : Bool) → eqb m n ≡ c → (t ≡ true → In n ms) → cond c true t ≡ true → In n (m ∷ ms)
cond_in true m n ms t e f h = subst (λ (k : ℕ). In n (k ∷ ms)) (sym (eqb-true m n e)) In.here
cond_in false m n ms t e f h = In.there (f h)

pub has_in : (ms : List ℕ) (n : ℕ) → has ms n ≡ true → In n ms
unfolding has
has_in [] n e = absurd (clash e)
has_in (m ∷ ms) n e = cond_in (eqb m n) m n ms (has ms n) refl (λ h. has_in ms n h) e

cond_true : (c : Bool) → cond c true true ≡ true
cond_true true = refl
cond_true false = refl

pub in_has : {n : ℕ} {ms : List ℕ} → In n ms → has ms n ≡ true
unfolding has
in_has {n} (In.here {xs = xs}) = ap (λ (c : Bool). cond c true (has xs n)) (eq-eqb n n refl)
in_has {n} (In.there {x = x} {xs = xs} m) = ap (λ (t : Bool). cond (eqb x n) true t) (in_has m) ∙ cond_true (eqb x n)

cond_parts : (c t : Bool) → cond c t false ≡ true → (c ≡ true) × (t ≡ true)
cond_parts true t e = (refl, e)
cond_parts false t e = absurd (clash e)

pub all_in_each : (ns ms : List ℕ) → all_in ns ms ≡ true → (n : ℕ) → In n ns → In n ms
unfolding all_in
all_in_each [] ms e n k = elim k [ ]
all_in_each (m ∷ ns) ms e n In.here = has_in ms m (cond_parts (has ms m) (all_in ns ms) e).0
all_in_each (m ∷ ns) ms e n (In.there k) = all_in_each ns ms (cond_parts (has ms m) (all_in ns ms) e).1 n k

pub all_in_from : (ns ms : List ℕ) → ((n : ℕ) → In n ns → In n ms) → all_in ns ms ≡ true
unfolding all_in
all_in_from [] ms f = refl
all_in_from (n ∷ ns) ms f = ap (λ (c : Bool). cond c (all_in ns ms) false) (in_has (f n In.here)) ∙ all_in_from ns ms (λ m k. f m (In.there k))

-- variables of terms
pub in_vars : {x : ℕ} {ts : List Term} → In (Variable x) ts → In x (vars ts)
unfolding vars
in_vars In.here = In.here
in_vars (In.there {x = Number n} m) = in_vars m
in_vars (In.there {x = Variable y} m) = In.there (in_vars m)

pub vars_in : (ts : List Term) (x : ℕ) → In x (vars ts) → In (Variable x) ts
unfolding vars
vars_in [] x m = elim m [ ]
vars_in (Number n ∷ ts) x m = In.there (vars_in ts x m)
vars_in (Variable y ∷ ts) x In.here = In.here
vars_in (Variable y ∷ ts) x (In.there m) = In.there (vars_in ts x m)

-- a variable stands in a line
pub record Used (x : ℕ) (ls : List Line) : Type 0 where
  pub line : Line
  pub is_in : In line ls
  pub stands : In (Variable x) line.cells

pub used-vars : (x : ℕ) (ls : List Line) → In x (line_vars ls) → Used x ls
unfolding line_vars
used-vars x [] m = elim m [ ]
used-vars x (l ∷ ls) m =
    elim (in_split (vars l.cells) (line_vars ls) m) [
      | inl a ↦ record { line = l; is_in = In.here; stands = vars_in l.cells x a }
      | inr b ↦ let u : Used x ls = used-vars x ls b in record { line = u.line; is_in = In.there u.is_in; stands = u.stands }
    ]

pub vars-used : {x : ℕ} {l : Line} {ls : List Line} → In l ls → In (Variable x) l.cells → In x (line_vars ls)
unfolding line_vars
vars-used (In.here {xs = ls}) m = in_left (line_vars ls) (in_vars m)
vars-used (In.there {x = k} a) m = in_right (vars k.cells) (vars-used a m)

-- what it is to be sound, as facts
pub record Sound (q : Question) : Type 0 where
  pub lines : 0 < length q.lines
  pub row : (x : ℕ) → In (Variable x) q.row → Used x q.lines

pub sound_parts : (q : Question) → sound q ≡ true → Sound q
unfolding sound
sound_parts q e =
    let p : (ltb 0 (length q.lines) ≡ true) × (all_in (vars q.row) (line_vars q.lines) ≡ true) = and_parts _ _ e in
    record { lines = ltb-true _ _ p.0; row = λ x m. used-vars x q.lines (all_in_each _ _ p.1 x (in_vars m)) }

pub sound-from : (q : Question) → Sound q → sound q ≡ true
unfolding sound
sound-from q s =
    and_from _ _ (lt-ltb _ _ s.lines) (all_in_from (vars q.row) (line_vars q.lines) (λ x m. let u : Used x q.lines = s.row x (vars_in q.row x m) in vars-used u.is_in u.stands))

-- what stands at a place is in the list
pub in_at : {A : Type 0} (xs : List A) (k : ℕ) (d : A) → k < length xs → In (get_or xs k d) xs
in_at [] k d h = absurd (not-suc-le-zero h)
in_at (x ∷ xs) zero d h = In.here
in_at (x ∷ xs) (suc k) d h = In.there (in_at xs k d (le_of_suc-le-suc h))

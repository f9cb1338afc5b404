-- The terms of a question put into a list: one step more, how many there are at most, and which they are.
use Rattle.std.proofs.Common.{◌≡◌, ℕ, ◌+◌, ◌*◌, ◌≤◌, List, [], ◌∷◌, ◌++◌, length, sym, refl, inl, inr, arith}
use Rattle.std.proofs.lemmas.List.{length-append}
use Rattle.question.specs.declared.terms.Term.{Term}
use Rattle.question.specs.declared.terms.Term.TheVariants.{Number, Variable}
use Rattle.question.specs.Question.{Line, Question, In, here, there}
use Rattle.question.specs.Sound.{Allowed}
use Rattle.question.proofs.Members.{in_left, in_right, in_split, in_cases}
use Rattle.answer.specs.declared.codes.Kind.{Kind}
use Rattle.answer.specs.declared.codes.Kind.TheVariants.{Numbers, Variables}
use Rattle.question.specs.Layout.{code}
use Rattle.answer.specs.Terms.{put_in, all_put_in, codes_of, line_codes}
use Rattle.answer.proofs.Listing.{all_append}

-- the codes of the next term, and of the next line
pub codes_more : (k : Kind) (t : Term) (ts : List Term) → codes_of k (t ∷ ts) ≡ codes_of k (t ∷ []) ++ codes_of k ts
unfolding codes_of
codes_more Numbers (Number n) ts = refl
codes_more Numbers (Variable x) ts = refl
codes_more Variables (Number n) ts = refl
codes_more Variables (Variable x) ts = refl

pub no-codes : (k : Kind) → codes_of k [] ≡ []
unfolding codes_of
no-codes Numbers = refl
no-codes Variables = refl

-- what is left to be put in, after the next term and after the next line
pub term-put : (k : Kind) (xs : List ℕ) (us : List Term) (t : Term) (ts : List Term) → us ≡ t ∷ ts → codes_of k (t ∷ []) ≡ code t ∷ []
    → all_put_in xs (codes_of k us) ≡ all_put_in (put_in xs (code t)) (codes_of k ts)
unfolding all_put_in
term-put k xs us t ts e h = rw (e, codes_more k t ts, h) refl

pub term-left : (k : Kind) (us : List Term) (t : Term) (ts : List Term) → us ≡ t ∷ ts → codes_of k (t ∷ []) ≡ [] → codes_of k us ≡ codes_of k ts
term-left k us t ts e h = rw (e, codes_more k t ts, h) refl

pub line-put : (k : Kind) (xs : List ℕ) (ms : List Line) (l : Line) (ls : List Line) → ms ≡ l ∷ ls
    → all_put_in xs (line_codes k ms) ≡ all_put_in (all_put_in xs (codes_of k l.cells)) (line_codes k ls)
unfolding line_codes
line-put k xs ms l ls e = rw e (all_append xs (codes_of k l.cells) (line_codes k ls))

-- and there is room for it
pub term-room : (k : Kind) (us : List Term) (t : Term) (ts : List Term) → us ≡ t ∷ ts → codes_of k (t ∷ []) ≡ code t ∷ [] → length (codes_of k us) ≡ length (codes_of k ts) + 1
term-room k us t ts e h = rw (e, codes_more k t ts, h) (omega arith)

pub line_room : (k : Kind) (ms : List Line) (l : Line) (ls : List Line) → ms ≡ l ∷ ls → length (line_codes k ms) ≡ length (codes_of k l.cells) + length (line_codes k ls)
unfolding line_codes
line_room k ms l ls e = rw e (length-append (codes_of k l.cells) (line_codes k ls))

-- how many there are at most
pub codes_count : (ts : List Term) → length (codes_of Numbers ts) + length (codes_of Variables ts) ≡ length ts
unfolding codes_of
codes_count [] = refl
codes_count (Number n ∷ ts) = let e = codes_count ts in omega arith
codes_count (Variable x ∷ ts) = let e = codes_count ts in omega arith

pub line_codes-count : (ls : List Line) → ((l : Line) → In l ls → length l.cells ≤ 4) → length (line_codes Numbers ls) + length (line_codes Variables ls) ≤ 4 * length ls
unfolding line_codes
line_codes-count [] f = omega arith
line_codes-count (l ∷ ls) f =
    let e = line_codes-count ls (λ k i. f k (there i)) in
    let c = codes_count l.cells in
    let h = f l here in
    let t = length-append (codes_of Numbers l.cells) (line_codes Numbers ls) in
    let s = length-append (codes_of Variables l.cells) (line_codes Variables ls) in
    omega arith

pub codes_few : (q : Question) → Allowed q → length (codes_of Numbers q.row) + length (line_codes Numbers q.lines) + length (codes_of Variables q.row) + length (line_codes Variables q.lines) ≤ 20
codes_few q a =
    let r = codes_count q.row in
    let l = line_codes-count q.lines (λ l i. (a.cells l i).few) in
    let f = a.few in
    let w = a.row.few in
    omega arith

-- which they are
pub number-code : (ts : List Term) (n : ℕ) → In (Number n) ts → In n (codes_of Numbers ts)
unfolding codes_of
number-code [] m i = elim i [ ]
number-code (Number n ∷ ts) m here = here
number-code (Number n ∷ ts) m (there i) = there (number-code ts m i)
number-code (Variable x ∷ ts) m (there i) = number-code ts m i

pub variable_code : (ts : List Term) (x : ℕ) → In (Variable x) ts → In (4294967296 + x) (codes_of Variables ts)
unfolding codes_of
variable_code [] x i = elim i [ ]
variable_code (Variable y ∷ ts) x here = here
variable_code (Variable y ∷ ts) x (there i) = there (variable_code ts x i)
variable_code (Number n ∷ ts) x (there i) = variable_code ts x i

pub code-number : (ts : List Term) (c : ℕ) → In c (codes_of Numbers ts) → In (Number c) ts
unfolding codes_of
code-number [] c i = elim i [ ]
code-number (Number n ∷ ts) c i = in_cases (In (Number c) (Number n ∷ ts)) (λ e. rw e here) (λ j. there (code-number ts c j)) i
code-number (Variable x ∷ ts) c i = there (code-number ts c i)

pub record VariableOf (ts : List Term) (c : ℕ) : Type 0 where
  pub x : ℕ
  pub is : c ≡ 4294967296 + x
  pub stands : In (Variable x) ts

pub code_variable : (ts : List Term) (c : ℕ) → In c (codes_of Variables ts) → VariableOf ts c
unfolding codes_of
code_variable [] c i = elim i [ ]
code_variable (Number n ∷ ts) c i = let v = code_variable ts c i in record { x = v.x; is = v.is; stands = there v.stands }
code_variable (Variable x ∷ ts) c i = in_cases (VariableOf (Variable x ∷ ts) c) (λ e. record { x = x; is = sym e; stands = here }) (λ j. let v = code_variable ts c j in record { x = v.x; is = v.is; stands = there v.stands }) i

pub line_code : (b : Kind) {l : Line} {ls : List Line} (c : ℕ) → In l ls → In c (codes_of b l.cells) → In c (line_codes b ls)
unfolding line_codes
line_code b c (here {xs = ls}) m = in_left (line_codes b ls) m
line_code b c (there {x = k} i) m = in_right (codes_of b k.cells) (line_code b c i m)

pub record LineOf (b : Kind) (ls : List Line) (c : ℕ) : Type 0 where
  pub line : Line
  pub is_in : In line ls
  pub stands : In c (codes_of b line.cells)

pub code-line : (b : Kind) (ls : List Line) (c : ℕ) → In c (line_codes b ls) → LineOf b ls c
unfolding line_codes
code-line b [] c i = elim i [ ]
code-line b (l ∷ ls) c i = elim (in_split (codes_of b l.cells) (line_codes b ls) i) [
  | inl m ↦ record { line = l; is_in = here; stands = m }
  | inr m ↦ (let v = code-line b ls c m in record { line = v.line; is_in = there v.is_in; stands = v.stands })
]

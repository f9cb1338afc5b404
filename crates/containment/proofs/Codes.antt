-- Codes told apart: what a reading's number says of the term that it is compared with.
use Rattle.std.proofs.Common.{◌≡◌, ℕ, ◌-◌, ◌<◌, ◌≤◌, Bool, true, false, ltb, List, length, get_or, set, Some, None, sym, refl, ap, ◌∙◌, subst, arith, ltb-false, le-ltb, lt-ltb, eq-eqb}
use Rattle.std.proofs.lemmas.List.{get_or_default}
use Rattle.question.specs.declared.terms.Term.{Term}
use Rattle.question.specs.declared.terms.Term.TheVariants.{Number, Variable}
use Rattle.question.specs.Sound.{TermWithin}
use Rattle.containment.specs.Search.{term_eqb, Part, match_var, match_term}
use Rattle.question.specs.Layout.{code, Codes}
use Rattle.containment.specs.Coding.{decode, part_of}
use Rattle.containment.proofs.Coding.{decode-code, part_set}
use Rattle.containment.proofs.Searching.{term_eqb_true}

-- different terms have different codes
pub codes_apart : (s t : Term) → Codes s → Codes t → code s ≡ code t → s ≡ t
codes_apart s t a b e = let f : Some s ≡ Some t = sym (decode-code s a) ∙ ap decode e ∙ decode-code t b in cc f

pub term_eqb-same : (t : Term) → term_eqb t t ≡ true
unfolding term_eqb
term_eqb-same (Number n) = eq-eqb n n refl
term_eqb-same (Variable x) = eq-eqb x x refl

term_eqb-other : (s t : Term) → (s ≡ t → ⊥) → term_eqb s t ≡ false
term_eqb-other s t h = go (term_eqb s t) refl
  where
    go : (b : Bool) → term_eqb s t ≡ b → b ≡ false
    go true e = absurd (h (term_eqb_true s t e))
    go false e = refl

-- what is not put, and what is put: a term with that code
pub decode_past : (k : ℕ) → 8589934592 ≤ k → decode k ≡ None
unfolding decode
decode_past k h = let a : 4294967296 ≤ k = omega arith in rw (le-ltb k 4294967296 a, le-ltb k 8589934592 h)

pub record Coded (k : ℕ) : Type 0 where
  pub term : Term
  pub is : decode k ≡ Some term
  pub back : code term ≡ k

coded : (k : ℕ) → k < 8589934592 → Coded k
unfolding decode code
coded k h = go (ltb k 4294967296) refl
  where
    go : (b : Bool) → ltb k 4294967296 ≡ b → Coded k
    go true e = record { term = Number k; is = rw e; back = refl }
    go false e = record { term = Variable (k - 4294967296); is = rw (e, lt-ltb k 8589934592 h); back = (let p : 4294967296 ≤ k = ltb-false k 4294967296 e in omega arith) }

-- a number is to be itself
pub number_same : (s : Part) (n : ℕ) (t c : Term) → t ≡ Number n → Codes t → Codes c → code t ≡ code c → match_term s t c ≡ Some s
unfolding match_term
number_same s n t c is a b e = let f : Number n ≡ c = sym is ∙ codes_apart t c a b e in rw (is, ← f, term_eqb-same (Number n))

pub number-other : (s : Part) (n : ℕ) (t c : Term) → t ≡ Number n → (code t ≡ code c → ⊥) → match_term s t c ≡ None
unfolding match_term
number-other s n t c is h = rw (is, term_eqb-other (Number n) c (λ e. h (ap code (is ∙ e))))

-- a variable that is not put, one that is put so, and one that is put otherwise
pub variable_new : (a : List ℕ) (x : ℕ) (t c : Term) → t ≡ Variable x → x < length a → Codes c → 8589934592 ≤ get_or a x 0 → match_term (part_of a) t c ≡ Some (part_of (set a x (code c)))
unfolding match_term match_var
variable_new a x t c is h b k =
    let d : decode (get_or a x 8589934592) ≡ None = ap decode (get_or_default a x 8589934592 0 h) ∙ decode_past (get_or a x 0) k in
    rw (is, d) (ap Some (sym (part_set a x c h b)))

pub variable_same : (a : List ℕ) (x : ℕ) (t c : Term) → t ≡ Variable x → x < length a → Codes c → get_or a x 0 ≡ code c → match_term (part_of a) t c ≡ Some (part_of a)
unfolding match_term match_var
variable_same a x t c is h b k =
    let d : decode (get_or a x 8589934592) ≡ Some c = ap decode (get_or_default a x 8589934592 0 h ∙ k) ∙ decode-code c b in
    rw (is, d, term_eqb-same c)

pub variable_other : (a : List ℕ) (x : ℕ) (t c : Term) → t ≡ Variable x → x < length a → get_or a x 0 < 8589934592 → (get_or a x 0 ≡ code c → ⊥) → match_term (part_of a) t c ≡ None
unfolding match_term match_var
variable_other a x t c is h k n =
    let m = coded (get_or a x 0) k in
    let d : decode (get_or a x 8589934592) ≡ Some m.term = ap decode (get_or_default a x 8589934592 0 h) ∙ m.is in
    rw (is, d, term_eqb-other m.term c (λ e. n (sym m.back ∙ ap code e)))

-- a variable of a question has a place in the reading
pub has-place : (t : Term) (x : ℕ) (a : List ℕ) → TermWithin t → t ≡ Variable x → length a ≡ 16 → x < length a
has-place t x a w is l = let h : x < 16 = subst (λ (u : Term). TermWithin u) is w in omega arith

-- A part of a reading as a row of numbers: what writing one number does.
use Rattle.std.proofs.Common.{◌≡◌, ℕ, zero, suc, ◌+◌, ◌-◌, ◌<◌, ◌≤◌, Bool, true, false, cond, eqb, List, length, get_or, set, replicate, Some, None, sym, refl, ap, ◌∙◌, subst, arith, get_or-set_other, get_or-set_same, le-ltb, lt-ltb, eqb-true}
use mathlib.Core.Path.{fun_ext}
use borrow.Author.Tests.{eqb-false}
use Rattle.question.specs.declared.terms.Term.{Term}
use Rattle.question.specs.declared.terms.Term.TheVariants.{Number, Variable}
use Rattle.containment.specs.Search.{nothing, put_one}
use Rattle.question.specs.Layout.{code, Codes}
use Rattle.containment.specs.Coding.{not_put, decode, part_of}

pub decode-code : (t : Term) → Codes t → decode (code t) ≡ Some t
unfolding decode code
decode-code (Number n) h = rw (lt-ltb n 4294967296 h)
decode-code (Variable x) h =
    let a : 4294967296 ≤ 4294967296 + x = omega arith in
    let b : 4294967296 + x < 8589934592 = omega arith in
    let c : 4294967296 + x - 4294967296 ≡ x = omega arith in
    rw (le-ltb (4294967296 + x) 4294967296 a, lt-ltb (4294967296 + x) 8589934592 b, c)

pub decode-not_put : decode not_put ≡ None
unfolding decode
decode-not_put = refl

pub part_set : (a : List ℕ) (x : ℕ) (t : Term) → x < length a → Codes t → part_of (set a x (code t)) ≡ put_one (part_of a) x t
part_set a x t h c = fun_ext (λ y. go y (eqb x y) refl)
  where
    go : (y : ℕ) (b : Bool) → eqb x y ≡ b → decode (get_or (set a x (code t)) y 8589934592) ≡ cond b (Some t) (decode (get_or a y 8589934592))
    go y true e = subst (λ (k : ℕ). decode (get_or (set a x (code t)) k 8589934592) ≡ Some t) (eqb-true x y e) (ap decode (get_or-set_same a x (code t) 8589934592 h) ∙ decode-code t c)
    go y false e = ap decode (get_or-set_other a x y (code t) 8589934592 (λ p. eqb-false x y e (sym p)))

marks : (n x : ℕ) → ◌≡◌ {A = ℕ} (get_or (replicate n 8589934592) x 8589934592) 8589934592
marks zero x = refl
marks (suc n) zero = refl
marks (suc n) (suc x) = marks n x

pub part_none : (n : ℕ) → part_of (replicate n not_put) ≡ nothing
unfolding decode
part_none n = fun_ext (λ x. ap decode (marks n x))

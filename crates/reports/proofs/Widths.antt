-- What the tests of a report say turn by turn: the next term, line or report, the one that stops, and the end.
use Rattle.std.proofs.Common.{◌≡◌, ℕ, true, false, cond, eqb, List, [], ◌∷◌, length, ap, ◌∙◌, arith}
use Rattle.std.proofs.lemmas.Bool.Decides.{nat_tests}
use Rattle.question.specs.declared.terms.Term.{Term}
use Rattle.question.specs.declared.terms.Term.TheVariants.{Number, Variable}
use Rattle.question.specs.Question.{Line}
use Rattle.question.specs.Sound.{has, vars}
use Rattle.reports.specs.Check.{different, same_width, same_widths}

-- the terms of a row
pub different-number : (ts us : List Term) (n : ℕ) → ts ≡ Number n ∷ us → different ts ≡ false
unfolding different
different-number ts us n e = ap different e

pub different_twice : (ts us : List Term) (x : ℕ) → ts ≡ Variable x ∷ us → has (vars us) x ≡ true → different ts ≡ false
unfolding different
different_twice ts us x e f = ap different e ∙ rw f

pub different-next : (ts us : List Term) (x : ℕ) → ts ≡ Variable x ∷ us → has (vars us) x ≡ false → different ts ≡ different us
unfolding different
different-next ts us x e f = ap different e ∙ rw f

pub different_end : (ts : List Term) → ts ≡ [] → different ts ≡ true
unfolding different
different_end ts e = ap different e

-- the lines that a line is compared with
pub width-next : (ms ks : List Line) (m l : Line) → ms ≡ m ∷ ks → (m.table ≡ l.table → length m.cells ≡ length l.cells) → same_width ms l ≡ same_width ks l
unfolding same_width
width-next ms ks m l e f =
    let t : cond (eqb m.table l.table) (eqb (length m.cells) (length l.cells)) true ≡ true = grind (arith, nat_tests) in
    ap (λ (ls : List Line). same_width ls l) e ∙ rw t

pub width_stop : (ms ks : List Line) (m l : Line) → ms ≡ m ∷ ks → m.table ≡ l.table → (length m.cells ≡ length l.cells → ⊥) → same_width ms l ≡ false
unfolding same_width
width_stop ms ks m l e a b =
    let t : cond (eqb m.table l.table) (eqb (length m.cells) (length l.cells)) true ≡ false = grind (arith, nat_tests) in
    ap (λ (ls : List Line). same_width ls l) e ∙ rw t

pub width_end : (ms : List Line) (l : Line) → ms ≡ [] → same_width ms l ≡ true
unfolding same_width
width_end ms l e = ap (λ (ls : List Line). same_width ls l) e

-- the lines of a report
pub widths_next : (ms ls ks : List Line) (l : Line) → ls ≡ l ∷ ks → same_width ms l ≡ true → same_widths ms ls ≡ same_widths ms ks
unfolding same_widths
widths_next ms ls ks l e f = ap (same_widths ms) e ∙ rw f

pub widths_stop : (ms ls ks : List Line) (l : Line) → ls ≡ l ∷ ks → same_width ms l ≡ false → same_widths ms ls ≡ false
unfolding same_widths
widths_stop ms ls ks l e f = ap (same_widths ms) e ∙ rw f

pub widths_end : (ms ls : List Line) → ls ≡ [] → same_widths ms ls ≡ true
unfolding same_widths
widths_end ms ls e = ap (same_widths ms) e

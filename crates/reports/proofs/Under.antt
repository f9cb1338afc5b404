-- Lines within limits fit where they are written, and a line that a use puts is within 256 variables.
use Rattle.std.proofs.Common.{◌≡◌, ℕ, ◌+◌, ◌-◌, ◌<◌, ◌≤◌, true, List, [], ◌∷◌, ◌++◌, length, replicate, sym, refl, ap, ◌∙◌, subst, inl, inr, arith, eq-eqb, ltb-true}
use Rattle.std.proofs.lemmas.Bool.Decides.{nat_tests}
use Rattle.std.proofs.lemmas.Bool.{and_parts, and_from, lt-ltb, le-leb}
use Rattle.std.proofs.lemmas.List.{append_assoc, append-nil}
use Rattle.question.specs.declared.terms.Term.{Term}
use Rattle.question.specs.declared.terms.Term.TheVariants.{Number, Variable}
use Rattle.question.specs.Question.{Line, In}
use Rattle.question.specs.Sound.{TermWithin, TermsWithin}
use Rattle.question.specs.Layout.{term_fits, terms_fit, line_in, line_fits, ten_fit, terms_out, line_out}
use Rattle.question.proofs.Written.{fits-within-cells}
use Rattle.containment.specs.Reading.{put, line_put}
use Rattle.containment.proofs.Readings.{length-put, put_in}
use Rattle.reports.specs.Expand.{assign, row_put}
use Rattle.reports.proofs.Expanding.{assign_in}

-- a number is below 2^32, and a variable below the limit
abbrev pub TermUnder : ℕ → Term → Type 0
TermUnder limit (Number n) = n < 4294967296
TermUnder limit (Variable x) = x < limit

pub record LineUnder (limit : ℕ) (l : Line) : Type 0 where
  pub table : l.table < 4294967296
  pub few : length l.cells ≤ 4
  pub each : (t : Term) → In t l.cells → TermUnder limit t

terms_under-fit : (limit : ℕ) (ts : List Term) (rest : List ℕ) → ((t : Term) → In t ts → TermUnder limit t) → terms_fit limit (length ts) (terms_out ts ++ rest) ≡ true
unfolding terms_fit terms_out
terms_under-fit limit [] rest f = refl
terms_under-fit limit (Number n ∷ ts) rest f =
    let h : n < 4294967296 = f (Number n) In.here in
    let a : term_fits limit 0 n ≡ true = grind (arith, nat_tests) in
    and_from _ _ a (terms_under-fit limit ts rest (λ t i. f t (In.there i)))
terms_under-fit limit (Variable x ∷ ts) rest f =
    let h : x < limit = f (Variable x) In.here in
    let a : term_fits limit 1 x ≡ true = grind (arith, nat_tests) in
    and_from _ _ a (terms_under-fit limit ts rest (λ t i. f t (In.there i)))

line-under-fits : (limit : ℕ) (l : Line) (rest : List ℕ) → LineUnder limit l → line_fits limit (line_out l ++ rest) ≡ true
unfolding line_fits line_out
line-under-fits limit l rest u =
    let z : List ℕ = replicate (8 - length (terms_out l.cells)) 0 in
    let f : terms_fit limit (length l.cells) ((terms_out l.cells ++ z) ++ rest) ≡ true = rw (append_assoc (terms_out l.cells) z rest) (terms_under-fit limit l.cells (z ++ rest) u.each) in
    and_from _ _ (lt-ltb _ _ u.table) (and_from _ _ (le-leb _ _ u.few) f)

-- what a use puts in is within 256 variables
term_wider : (t : Term) → TermWithin t → TermUnder 256 t
term_wider (Number n) h = h
term_wider (Variable x) h = omega arith

put_under : (row cells : List Term) (base : ℕ) (t : Term) → TermWithin t → ((c : Term) → In c cells → TermWithin c) → base ≤ 240 → TermUnder 256 (put (row_put row cells base) t)
put_under row cells base (Number n) h f b = h
put_under row cells base (Variable x) h f b =
    elim (assign_in row cells (Variable (base + x)) x) [
      | inl e ↦ let s : base + x < 256 = omega arith in subst (λ (u : Term). TermUnder 256 u) (sym e) s
      | inr m ↦ term_wider (assign row cells (Variable (base + x)) x) (f (assign row cells (Variable (base + x)) x) m)
    ]

-- a line of a question, put so and written, fits
pub put_fits : (row cells : List Term) (base : ℕ) (xs out : List ℕ) → line_fits 16 xs ≡ true → ((c : Term) → In c cells → TermWithin c) → base ≤ 240 → out ≡ line_out (line_put (row_put row cells base) (line_in xs)) → length out ≡ 10
    → ten_fit 256 out ≡ true
unfolding line_put line_fits
put_fits row cells base xs out f g b e ten =
    let h = row_put row cells base in
    let l = line_in xs in
    let w : TermsWithin l.cells = fits-within-cells xs f in
    let under : LineUnder 256 (line_put h l) = record {
      table = ltb-true _ _ (and_parts _ _ f).0;
      few = rw (length-put h l.cells) w.few;
      each = λ t j. let p = put_in h t l.cells j in subst (λ (u : Term). TermUnder 256 u) p.2 (put_under row cells base p.0 (w.each p.0 p.1) g b);
    } in
    and_from _ _ (eq-eqb _ _ ten) (ap (line_fits 256) (e ∙ sym (append-nil (line_out (line_put h l)))) ∙ line-under-fits 256 (line_put h l) [] under)

-- Lines made of terms that are put as others: what codes stand for, one term more, and the whole line, which fits.
use Rattle.std.proofs.Common.{◌≡◌, ℕ, ◌+◌, ◌-◌, ◌*◌, ◌<◌, ◌≤◌, true, List, [], ◌∷◌, ◌++◌, length, get_or, take, drop, set, replicate, sym, refl, ap, ◌∙◌, subst, arith}
use Rattle.std.proofs.lemmas.List.{append_assoc, take_all, take_at, take_more, drop_more, drop-replicate, length-append, length-take-le, get_or_default}
use Rattle.question.specs.declared.terms.Term.{Term}
use Rattle.question.specs.declared.terms.Term.TheVariants.{Number, Variable}
use Rattle.question.specs.Question.{Line}
use Rattle.question.specs.Sound.{TermWithin, TermsWithin}
use Rattle.question.specs.Layout.{terms_out, line_in, line_out, line_fits, lines_in}
use Rattle.question.specs.Check.{WritesLine, WritesLines}
use Rattle.question.proofs.Front.{front_set}
use Rattle.question.proofs.Writing.{length-terms_out}
use Rattle.question.proofs.Written.{within-fits-line, writes_lines_in}
use Rattle.containment.specs.Reading.{put, all_put}
use Rattle.containment.specs.Search.{fill, filling}
use Rattle.containment.specs.Coding.{decode, part_of}
use Rattle.containment.proofs.Readings.{length-put, put_in}

-- a variable's code, where it is kept
pub code-kept : (x : ℕ) (a : List ℕ) → x < length a → fill (decode (get_or a x 0)) ≡ filling (part_of a) x
code-kept x a h = ap (λ (k : ℕ). fill (decode k)) (sym (get_or_default a x 8589934592 0 h))

-- terms one behind the other
terms_out-append : (ts us : List Term) → terms_out (ts ++ us) ≡ terms_out ts ++ terms_out us
unfolding terms_out
terms_out-append [] us = refl
terms_out-append (Number n ∷ ts) us = ap (λ (xs : List ℕ). 0 ∷ n ∷ xs) (terms_out-append ts us)
terms_out-append (Variable x ∷ ts) us = ap (λ (xs : List ℕ). 1 ∷ x ∷ xs) (terms_out-append ts us)

all_put-append : (h : ℕ → Term) (ts us : List Term) → all_put h (ts ++ us) ≡ all_put h ts ++ all_put h us
unfolding all_put
all_put-append h [] us = refl
all_put-append h (t ∷ ts) us = ap (λ (vs : List Term). put h t ∷ vs) (all_put-append h ts us)

put-more : (h : ℕ → Term) (i : ℕ) (ts : List Term) (t : Term) (a b : ℕ) → i < length ts → drop i ts ≡ t ∷ drop (i + 1) ts → terms_out (put h t ∷ []) ≡ a ∷ b ∷ []
    → terms_out (all_put h (take (i + 1) ts)) ≡ terms_out (all_put h (take i ts)) ++ a ∷ b ∷ []
unfolding all_put
put-more h i ts t a b l e o =
    let g : get_or ts i t ≡ t = cc (drop_more ts i t l, e) in
    let m : take (i + 1) ts ≡ take i ts ++ t ∷ [] = take_more ts i t l ∙ ap (λ (u : Term). take i ts ++ u ∷ []) g in
    ap (λ (us : List Term). terms_out (all_put h us)) m ∙ ap terms_out (all_put-append h (take i ts) (t ∷ [])) ∙ terms_out-append (all_put h (take i ts)) (put h t ∷ []) ∙ ap (λ (xs : List ℕ). terms_out (all_put h (take i ts)) ++ xs) o

set_two : (n : ℕ) (f out : List ℕ) (a b : ℕ) → length f ≡ n → n + 1 < length out → set (set (f ++ drop n out) n a) (n + 1) b ≡ (f ++ a ∷ b ∷ []) ++ drop (n + 2) out
set_two n f out a b e h =
    let d : n + 1 + 1 ≡ n + 2 = omega arith in
    ap (λ (xs : List ℕ). set xs (n + 1) b) (front_set n f out a e (omega arith)) ∙ front_set (n + 1) (f ++ a ∷ []) out b (length-append f (a ∷ []) ∙ omega arith) h ∙ rw (d, append_assoc f (a ∷ []) (b ∷ []))

-- one term more in the line
pub use_more : (t n i : ℕ) (h : ℕ → Term) (ts : List Term) (u : Term) (a b : ℕ) (out line : List ℕ) → length out ≡ 10 → i < length ts → length ts ≤ 4 → drop i ts ≡ u ∷ drop (i + 1) ts → terms_out (put h u ∷ []) ≡ a ∷ b ∷ []
    → line ≡ (t ∷ n ∷ terms_out (all_put h (take i ts))) ++ drop (2 + 2 * i) out → set (set line (2 + 2 * i) a) (3 + 2 * i) b ≡ (t ∷ n ∷ terms_out (all_put h (take (i + 1) ts))) ++ drop (2 + 2 * (i + 1)) out
use_more t n i h ts u a b out line ten l few e o inv =
    let f : List ℕ = t ∷ n ∷ terms_out (all_put h (take i ts)) in
    let s : 3 + 2 * i ≡ 2 + 2 * i + 1 = omega arith in
    let d : 2 + 2 * (i + 1) ≡ 2 + 2 * i + 2 = omega arith in
    let w : length f ≡ 2 + 2 * i = omega (arith, length-terms_out (all_put h (take i ts)), length-put h (take i ts), length-take-le i ts (omega arith)) in
    rw (s, d, put-more h i ts u a b l e o, inv) (set_two (2 + 2 * i) f out a b w (omega arith))

-- the whole line
pub use_whole : (t w i : ℕ) (h : ℕ → Term) (ts : List Term) → w ≡ length ts → length ts ≤ 4 → i ≡ w
    → (t ∷ w ∷ terms_out (all_put h (take i ts))) ++ drop (2 + 2 * i) (replicate {A = ℕ} 10 0) ≡ line_out (record { table = t; cells = all_put h ts })
unfolding line_out
use_whole t w i h ts e few b =
    let a : take i ts ≡ ts = take_all i ts (omega arith) in
    let c : w ≡ length (all_put h ts) = e ∙ sym (length-put h ts) in
    let d : drop (2 + 2 * i) (replicate {A = ℕ} 10 0) ≡ replicate (8 - length (terms_out (all_put h ts))) 0 = drop-replicate {X = ℕ} (2 + 2 * i) 10 0 ∙ ap (λ (k : ℕ). replicate {A = ℕ} k 0) (omega (arith, length-terms_out (all_put h ts))) in
    rw (a, d) (ap (λ (k : ℕ). t ∷ k ∷ (terms_out (all_put h ts) ++ replicate (8 - length (terms_out (all_put h ts))) 0)) c)

-- a line, as it is written, is there
line_written : (l : Line) → WritesLine (line_out l) l
unfolding line_out
line_written l = record { table = refl; count = refl; cells = take_at (terms_out l.cells) (replicate (8 - length (terms_out l.cells)) 0) (2 * length l.cells) (length-terms_out l.cells) }

pub line-back : (l : Line) → line_in (line_out l) ≡ l
unfolding lines_in
line-back l = let e : line_in (line_out l) ∷ [] ≡ l ∷ [] = writes_lines_in (l ∷ []) (line_out l) (WritesLines.and_line (line_written l) WritesLines.none_left) in cc e

-- it fits, where what is put is within the limits
put-within : (h : ℕ → Term) → ((x : ℕ) → TermWithin (h x)) → (u : Term) → TermWithin u → TermWithin (put h u)
put-within h f (Number n) w = w
put-within h f (Variable x) w = f x

pub use_fits : (t : ℕ) (h : ℕ → Term) (ts : List Term) → t < 4294967296 → ((x : ℕ) → TermWithin (h x)) → TermsWithin ts → line_fits 16 (line_out (record { table = t; cells = all_put h ts })) ≡ true
use_fits t h ts b f w =
    let l : Line = record { table = t; cells = all_put h ts } in
    within-fits-line (line_out l) l (line_written l) b (record {
      few = rw (length-put h ts) w.few;
      each = λ u m. let p = put_in h u ts m in subst (λ (v : Term). TermWithin v) p.2 (put-within h f p.0 (w.each p.0 p.1));
    })

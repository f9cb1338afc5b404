-- The uses of all reports, one report after another.
use Rattle.std.proofs.Common.{◌≡◌, ℕ, suc, ◌+◌, ◌<◌, List, [], ◌∷◌, map, length, ap, ◌∙◌, add-one, arith}
use Rattle.question.specs.Question.{Line, Question}
use Rattle.containment.specs.Search.{nothing}
use Rattle.reports.specs.Widest.{use_of, all_readings, all_uses, widest}
use Rattle.reports.specs.Uses.{insert_all}
use Rattle.reports.proofs.Inserting.{insert_all-append, insert_all_longer, insert_all_sorts}

-- nothing kept yet, the uses of one more report, more than 32, and the end
pub uses-none : (rs : List Question) (q : Question) (ks : List Line) → ks ≡ [] → insert_all (all_uses q 0 rs) ks ≡ (widest rs q).lines
unfolding widest
uses-none rs q ks e = ap (insert_all (all_uses q 0 rs)) e ∙ insert_all_sorts (all_uses q 0 rs)

pub uses-more : (rs os : List Question) (q r : Question) (ks : List Line) (t : ℕ) → rs ≡ r ∷ os
    → insert_all (all_uses q t rs) ks ≡ insert_all (all_uses q (t + 1) os) (insert_all (map (use_of t r) (all_readings r.lines q.lines nothing)) ks)
unfolding all_uses
uses-more rs os q r ks t e =
    ap (λ (qs : List Question). insert_all (all_uses q t qs) ks) e
    ∙ insert_all-append (map (use_of t r) (all_readings r.lines q.lines nothing)) (all_uses q (suc t) os) ks ∙ rw add-one

pub uses-over : (rs os : List Question) (q r : Question) (ks : List Line) (t : ℕ) → rs ≡ r ∷ os → 32 < length (insert_all (map (use_of t r) (all_readings r.lines q.lines nothing)) ks)
    → 32 < length (insert_all (all_uses q t rs) ks)
uses-over rs os q r ks t e h =
    omega (arith, ap length (uses-more rs os q r ks t e), insert_all_longer (all_uses q (t + 1) os) (insert_all (map (use_of t r) (all_readings r.lines q.lines nothing)) ks))

pub uses_end : (rs : List Question) (q : Question) (ks : List Line) (t : ℕ) → rs ≡ [] → insert_all (all_uses q t rs) ks ≡ ks
unfolding all_uses insert_all
uses_end rs q ks t e = ap (λ (qs : List Question). insert_all (all_uses q t qs) ks) e

-- The lines of uses, one use after another: the next use, one that names no report, and the end.
use Rattle.std.proofs.Common.{◌≡◌, ℕ, ◌+◌, ◌*◌, ◌≤◌, List, [], ◌∷◌, ◌++◌, length, get_or, arith}
use Rattle.std.proofs.lemmas.List.{append_assoc, append-nil, get_or_past}
use Rattle.question.specs.declared.terms.Term.{Term}
use Rattle.question.specs.Question.{Line, Question}
use Rattle.containment.specs.Reading.{line_put, put_lines}
use Rattle.reports.specs.Reports.{no_question}
use Rattle.reports.specs.Expand.{row_put, use_lines, expand_lines}

-- the next line of a report
pub lines-more : (h : ℕ → Term) (done new : List Line) (ls ms : List Line) (l : Line) → ls ≡ l ∷ ms → new ≡ done ++ line_put h l ∷ [] → new ++ put_lines h ms ≡ done ++ put_lines h ls
unfolding put_lines
lines-more h done new ls ms l e n = rw (n, e, append_assoc done (line_put h l ∷ []) (put_lines h ms))

pub lines-done : (h : ℕ → Term) (done ls : List Line) → ls ≡ [] → done ≡ done ++ put_lines h ls
unfolding put_lines
lines-done h done ls e = rw (e, append-nil done)

-- the next use
pub use-more : (rs : List Question) (k : ℕ) (done new us vs : List Line) (u : Line) (r : Question) → us ≡ u ∷ vs → r ≡ get_or rs u.table no_question
    → new ≡ done ++ put_lines (row_put r.row u.cells (16 + 16 * k)) r.lines → new ++ expand_lines rs 16 (16 + 16 * (k + 1)) vs ≡ done ++ expand_lines rs 16 (16 + 16 * k) us
unfolding expand_lines
use-more rs k done new us vs u r e f n =
    let b : 16 + 16 * (k + 1) ≡ 16 + 16 * k + 16 = omega arith in
    rw (n, e, b, f, append_assoc done (use_lines rs (16 + 16 * k) u) (expand_lines rs 16 (16 + 16 * k + 16) vs))

pub use-none : (rs : List Question) (k : ℕ) (done us vs : List Line) (u : Line) → us ≡ u ∷ vs → length rs ≤ u.table → done ++ expand_lines rs 16 (16 + 16 * (k + 1)) vs ≡ done ++ expand_lines rs 16 (16 + 16 * k) us
unfolding expand_lines put_lines
use-none rs k done us vs u e h =
    let b : 16 + 16 * (k + 1) ≡ 16 + 16 * k + 16 = omega arith in
    rw (e, b, get_or_past rs u.table no_question h)

pub uses-done : (rs : List Question) (base : ℕ) (done us : List Line) → us ≡ [] → done ≡ done ++ expand_lines rs 16 base us
unfolding expand_lines
uses-done rs base done us e = rw (e, append-nil done)

-- The least question: of the choices that say the same the fewest lines, and of those the first by places.
use Rattle.std.proofs.Common.{◌≡◌, ℕ, zero, suc, ◌+◌, ◌<◌, ◌≤◌, Bool, true, false, List, [], ◌∷◌, length, Some, None, Option, unwrap_or, sym, refl, ap, subst, inl, inr, le_of_suc-le-suc, not-suc-le-zero, arith}
use Rattle.std.proofs.lemmas.Bool.{cases_lt}
use Rattle.question.specs.Question.{Line, Question, In, Within, Same}
use Rattle.question.specs.Sound.{sound}
use Rattle.question.proofs.Members.{sound_parts}
use Rattle.question.proofs.Places.{in_head, in_cons, one_in}
use Rattle.containment.specs.Reading.{Reads}
use Rattle.containment.proofs.Readings.{reads-within, within_trans, fewer_within, reads_itself, reads-sound, into_at, into_more}
use Rattle.containment.proofs.Exactly.{within-reads}
use Rattle.containment.proofs.Searching.{can_read-reads, reads-can_read}
use Rattle.containment.proofs.Chosen.{chosen, chosen_in, count, length_chosen, ChosenFor, chosen_for}
use Rattle.minimization.specs.Choices.{choices, first_right, by_size}
use Rattle.minimization.specs.Least.{out_line, less_line, Least, says_same, least}
use Rattle.minimization.specs.Laws.{LeastMade, FewestLines, OneLeast}
use Rattle.minimization.proofs.Choosing.{PartOf, part-all, part_in, part_trans, part_chosen, choice-part, part-choice, first_in, None-at, Result, size_is}

-- q with other lines
abbrev pub with_lines : Question → List Line → Question
with_lines q ls = record { row = q.row; lines = ls }

pub same_reads : (q : Question) (ls : List Line) → says_same q ls ≡ true → Reads q (with_lines q ls)
unfolding says_same
same_reads q ls e = can_read-reads q (with_lines q ls) e

pub reads_same : (q : Question) (ls : List Line) → Reads q (with_lines q ls) → says_same q ls ≡ true
unfolding says_same
reads_same q ls e = reads-can_read q (with_lines q ls) e

-- what is found
pub record Got (q : Question) : Type 0 where
  pub lines : List Line
  pub is : (least q).lines ≡ lines
  pub first : first_right (says_same q) (choices (length lines) q.lines) ≡ Some lines
  pub fewest : (i : ℕ) → i < length lines → None-at (says_same q) q.lines i

none_at_zero : (q : Question) → sound q ≡ true → (j : ℕ) → j < 1 → None-at (says_same q) q.lines j
unfolding choices
none_at_zero q sq zero h = λ c m e. in_head (λ d. says_same q d ≡ true → ⊥) (λ t. let k = one_in q.lines (sound_parts q sq).lines in elim (into_at k.1 (same_reads q [] t).lines) [ ]) (λ k. elim k [ ]) m e
none_at_zero q sq (suc j) h = absurd (omega arith)

-- a choice is found
pub some-choice : (q : Question) → sound q ≡ true → by_size (says_same q) q.lines (length q.lines) 1 ≡ None → ⊥
some-choice q sq e =
    let r : Result (says_same q) q.lines (1 + length q.lines) None
    = subst (Result (says_same q) q.lines (1 + length q.lines)) e (size_is (says_same q) q.lines (length q.lines) 1 (none_at_zero q sq)) in
    r (length q.lines) (omega arith) q.lines (part-choice (part-all q.lines)) (reads_same q q.lines (reads_itself q))

pub got : (q : Question) → sound q ≡ true → Got q
unfolding least
got q sq = go (by_size (says_same q) q.lines (length q.lines) 1) refl (size_is (says_same q) q.lines (length q.lines) 1 (none_at_zero q sq))
  where
    go : (o : Option (List Line)) → by_size (says_same q) q.lines (length q.lines) 1 ≡ o → Result (says_same q) q.lines (1 + length q.lines) o → Got q
    go None e r = absurd (some-choice q sq e)
    go (Some c) e r = record { lines = c; is = ap (λ (o : Option (List Line)). unwrap_or o q.lines) e; first = r.0; fewest = r.1 }

-- no question that says the same has fewer lines
module _ (q : Question) (sq : sound q ≡ true) where
  abbrev found : List Line
  found = (got q sq).lines

  pub found_part : PartOf found q.lines
  found_part = choice-part (length found) q.lines found (first_in (says_same q) (choices (length found) q.lines) found (got q sq).first).0

  found-reads : Reads q (with_lines q found)
  found-reads = same_reads q found (first_in (says_same q) (choices (length found) q.lines) found (got q sq).first).1

  pub found-same : Same q (with_lines q found)
  unfolding Same
  found-same = (fewer_within q found (part_in found_part), reads-within q (with_lines q found) found-reads)

  pub found-fewest : (p : Question) → Same q p → length found ≤ length p.lines
  unfolding Same
  found-fewest p s =
      let e : Reads p (with_lines q found) = within-reads (with_lines q found) p (within_trans (with_lines q found) q p found-same.1 s.0) in
      let c : ChosenFor e.how found p.lines = chosen_for found e.lines in
      let ls : List Line = chosen c.mask found in
      let f : Reads p (with_lines q ls) = record { how = e.how; lines = c.reads; row = e.row } in
      let t : says_same q ls ≡ true = reads_same q ls (within-reads (with_lines q ls) q (within_trans (with_lines q ls) p q (reads-within p (with_lines q ls) f) s.1)) in
      let m : In ls (choices (length ls) q.lines) = part-choice (part_trans (part_chosen c.mask found) found_part) in
      let k : length ls ≤ count c.mask = length_chosen c.mask found in
      elim (cases_lt (length ls) (length found)) [ inl h ↦ absurd ((got q sq).fewest (length ls) h ls m t) | inr h ↦ (let j = c.few in omega arith) ]

pub fewest-lines : FewestLines
fewest-lines q p sq s = subst (λ (ls : List Line). length ls ≤ length p.lines) (sym (got q sq).is) (found-fewest q sq p s)

pub length_out : (i : ℕ) (ls : List Line) → i < length ls → suc (length (out_line i ls)) ≡ length ls
unfolding out_line
length_out i [] h = absurd (not-suc-le-zero h)
length_out zero (l ∷ ls) h = refl
length_out (suc i) (l ∷ ls) h = ap suc (length_out i ls (le_of_suc-le-suc h))

pub least_made : LeastMade
unfolding least less_line
least_made q sq =
    let c : List Line = (got q sq).lines in
    let e : (least q).lines ≡ c = (got q sq).is in
    subst (λ (ls : List Line). Least q (with_lines q ls)) (sym e)
    (record {
      same = found-same q sq;
      sound_too = reads-sound q (with_lines q c) (found-reads q sq) sq;
      no_line = λ i h so s. let k : length c ≤ length (out_line i c) = found-fewest q sq (less_line (with_lines q c) i) s in let z : suc (length (out_line i c)) ≡ length c = length_out i c h in omega arith;
    })

-- a line that is not chosen can be left out
missed : (m : List Bool) (ls : List Line) → count m < length ls → (i : ℕ) × (i < length ls) × ((y : Line) → In y (chosen m ls) → In y (out_line i ls))
unfolding chosen out_line count
missed m [] h = absurd (not-suc-le-zero h)
missed [] (l ∷ ls) h = (0, omega arith, λ y a. elim a [ ])
missed (true ∷ m) (l ∷ ls) h = let r = missed m ls (omega arith) in (suc r.0, (let k = r.1 in omega arith), in_cons l (chosen m ls) (out_line r.0 ls) r.2)
missed (false ∷ m) (l ∷ ls) h = (0, omega arith, chosen_in m ls)

out_in : (i : ℕ) (ls : List Line) (y : Line) → In y (out_line i ls) → In y ls
unfolding out_line
out_in i [] y a = a
out_in zero (l ∷ ls) y a = In.there a
out_in (suc i) (l ∷ ls) y a = in_cons l (out_line i ls) ls (out_in i ls) y a

pub least-reads : (q p o : Question) → Least q p → Least q o → Reads o p
unfolding Same
least-reads q p o lp lo = within-reads p o (within_trans p q o lp.same.1 lo.same.0)

pub least-short : (q p o : Question) → Least q p → Least q o → length o.lines < length p.lines → ⊥
unfolding Same less_line
least-short q p o lp lo h =
    let e : Reads o p = least-reads q p o lp lo in
    let c : ChosenFor e.how p.lines o.lines = chosen_for p.lines e.lines in
    let r = missed c.mask p.lines (let k = c.few in omega arith) in
    let f : Reads o (less_line p r.0) = record { how = e.how; lines = into_more _ r.2 c.reads; row = e.row } in
    lp.no_line r.0 r.1 (reads-sound o (less_line p r.0) f lo.sound_too) (
      within_trans q p (less_line p r.0) lp.same.0 (fewer_within p (out_line r.0 p.lines) (out_in r.0 p.lines)),
      within_trans (less_line p r.0) o q (reads-within o (less_line p r.0) f) lo.same.1,
    )

pub one_least : OneLeast
unfolding Same Within
one_least q sq = (
  (least q, least_made q sq, fewest-lines q q sq (λ b r a. a, λ b r a. a)),
  λ p o lp lo. (eq p o (least-short q p o lp lo) (least-short q o p lo lp), least-reads q o p lo lp, least-reads q p o lp lo),
)
  where
    eq : (p o : Question) → (length o.lines < length p.lines → ⊥) → (length p.lines < length o.lines → ⊥) → length p.lines ≡ length o.lines
    eq p o f g = elim (cases_lt (length o.lines) (length p.lines)) [ inl h ↦ absurd (f h) | inr h ↦ elim (cases_lt (length p.lines) (length o.lines)) [ inl k ↦ absurd (g k) | inr k ↦ omega arith ] ]

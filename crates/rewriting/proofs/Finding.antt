-- What is found is right, has as few uses as any, and is the first such choice.
use Rattle.std.proofs.Common.{◌≡◌, ℕ, zero, suc, ◌+◌, ◌<◌, ◌≤◌, Bool, true, false, List, [], ◌∷◌, ◌++◌, length, is_some, Some, None, Option, sym, refl, subst, inl, inr, arith}
use Rattle.std.specs.Option.{option_map}
use Rattle.std.proofs.lemmas.Bool.{cases_lt, and_from}
use Rattle.question.specs.declared.terms.Term.TheVariants.{Variable}
use Rattle.question.specs.Question.{Line, Question, In}
use Rattle.question.specs.Sound.{sound}
use Rattle.question.proofs.Members.{sound_parts}
use Rattle.question.proofs.Places.{in_head, one_in}
use Rattle.containment.specs.Reading.{Reads}
use Rattle.containment.proofs.Readings.{into_at}
use Rattle.containment.proofs.Searching.{can_read-reads}
use Rattle.containment.proofs.Chosen.{chosen}
use Rattle.minimization.specs.Choices.{choices}
use Rattle.minimization.proofs.Choosing.{PartOf, part_in, part-rising, part_chosen, choice-part, part-choice, rising_part, choices-rising, first_in, first-least, None-at, Result, size_is}
use Rattle.reports.specs.Reports.{AnsweredBy, all_sound}
use Rattle.reports.specs.Expand.{expand, expand_lines, Below, Narrow}
use Rattle.reports.specs.Widest.{Widest, widest, Sorted}
use Rattle.reports.proofs.Reporting.{still_right}
use Rattle.reports.proofs.OwnUses.{widest-right}
use Rattle.reports.proofs.Fewer.{few-uses, over_reports, narrow-over, below-over}
use Rattle.reports.proofs.Fewer as fewer
use Rattle.reports.proofs.Ordering.{line_irr, line_trans}
use Rattle.reports.proofs.Sorting.{widest_made}
use Rattle.rewriting.specs.Found.{Found, over_lines, will_do, choose, find, First}
use Rattle.rewriting.specs.Laws.{AlwaysFound, FindRight, FindFirst, FindAllowed, FoundByWidest, MoreReports}
use Rattle.rewriting.proofs.Trying.{will_do_exact, SomeRight, some_of_widest}

module _ (reports : List Question) (q : Question) (width base : ℕ) (ok : all_sound reports ≡ true) (sq : sound q ≡ true) (na : Narrow width reports) (be : Below base q.lines) where
  abbrev ws : List Line
  ws = (widest reports q).lines

  abbrev does : List Line → Bool
  does = will_do reports width base q

  wide : Widest reports q (widest reports q)
  wide = (widest_made reports q ok).0

  does-right : (ls : List Line) → ((l : Line) → In l ls → In l ws) → does ls ≡ true → AnsweredBy reports q (over_lines q ls)
  does-right ls f = (will_do_exact reports q width base ls ok sq na be (λ l i. wide.right l (f l i))).0

  right-does : (ls : List Line) → ((l : Line) → In l ls → In l ws) → AnsweredBy reports q (over_lines q ls) → does ls ≡ true
  right-does ls f = (will_do_exact reports q width base ls ok sq na be (λ l i. wide.right l (f l i))).1

  -- a right question shows a choice that will do
  shows : (o : Question) → AnsweredBy reports q o → (c : List Line) × (length c ≤ length o.lines) × In c (choices (length c) ws) × (does c ≡ true)
  shows o a =
      let s : SomeRight reports q (widest reports q) o = some_of_widest reports q (widest reports q) o wide a in
      let p : PartOf (chosen s.mask ws) ws = part_chosen s.mask ws in
      (chosen s.mask ws, s.few, part-choice p, right-does (chosen s.mask ws) (part_in p) s.right)

  not-empty : does [] ≡ true → ⊥
  unfolding will_do expand expand_lines
  not-empty e =
      let r : Reads q (over_lines q []) = can_read-reads q (over_lines q []) e in
      let k = one_in q.lines (sound_parts q sq).lines in
      elim (into_at k.1 r.lines) [ ]

  none_at_zero : (j : ℕ) → j < 1 → None-at does ws j
  unfolding choices
  none_at_zero zero h = λ c m e. in_head (λ d. does d ≡ true → ⊥) not-empty (λ k. elim k [ ]) m e
  none_at_zero (suc j) h = absurd (omega arith)

  says : (o : Option (List Line)) → Result does ws (1 + length q.lines) o → Found reports q (option_map (over_lines q) o)
  says None r =
      Found.by_none (λ o a.
      let t = few-uses reports q o sq a in
      let s = shows t.0 t.1 in
      r (length s.0) (let h = s.1 in let k = t.2 in omega arith) s.0 s.2 s.3)
  says (Some c) (e, z) =
      let i = first_in does (choices (length c) ws) c e in
      Found.by (does-right c (part_in (choice-part (length c) ws c i.0)) i.1) (λ o a.
      let s = shows o a in
      elim (cases_lt (length s.0) (length c)) [ inl h ↦ absurd (z (length s.0) h s.0 s.2 s.3) | inr h ↦ (let k = s.1 in omega arith) ])

  result : Result does ws (1 + length q.lines) (choose reports width base q ws)
  unfolding choose
  result = size_is does ws (length q.lines) 1 none_at_zero

  pub found : Found reports q (find reports width base q)
  unfolding find
  found = says (choose reports width base q ws) result

  -- the order
  first_of : (c : List Line) → Result does ws (1 + length q.lines) (Some c) → First reports q (over_lines q c)
  first_of c (e, z) =
      let s : Sorted ws = (widest_made reports q ok).1 in
      let p : PartOf c ws = choice-part (length c) ws c (first_in does (choices (length c) ws) c e).0 in
      record {
        row = refl;
        choice = record { sorted = part-rising p s; from = part_in p };
        first = λ ls ch n a.
            first-least does c (choices-rising (length c) s) e ls
            (subst (λ (k : ℕ). In ls (choices k ws)) n (part-choice (rising_part line_irr line_trans ls s ch.sorted ch.from)))
            (right-does ls ch.from a);
      }

  first-at : (p : Question) (o : Option (List Line)) → Result does ws (1 + length q.lines) o → option_map (over_lines q) o ≡ Some p → First reports q p
  first-at p None r e = absurd (let z : ◌≡◌ {A = ℕ} 0 1 = cc e in omega arith)
  first-at p (Some c) r e = subst (λ (x : Question). First reports q x) (let z : over_lines q c ≡ p = cc e in z) (first_of c r)

  pub found_first : (p : Question) → find reports width base q ≡ Some p → First reports q p
  unfolding find
  found_first p e = first-at p (choose reports width base q ws) result e

  -- the widest question decides
  widest-does : (o : Option Question) → Found reports q o → is_some o ≡ does ws
  unfolding widest
  widest-does None (Found.by_none n) = go (does ws) refl
    where
      go : (b : Bool) → does ws ≡ b → false ≡ b
      go true e = absurd (n (over_lines q ws) (does-right ws (λ l i. i) e))
      go false e = refl
  widest-does (Some p) (Found.by a f) = sym (right-does ws (λ l i. i) (widest-right reports q (widest reports q) p wide a))

  pub by-widest : is_some (find reports width base q) ≡ does ws
  by-widest = widest-does (find reports width base q) found

pub find-right : FindRight
find-right reports q width base ok sq na be = found reports q width base ok sq na be

pub find_first : FindFirst
find_first reports q p width base ok sq na be e = found_first reports q width base ok sq na be p e

pub found-by-widest : FoundByWidest
found-by-widest reports q width base ok sq na be = by-widest reports q width base ok sq na be

pub always_found : AlwaysFound
always_found reports q ok sq =
    let base : ℕ = fewer.over_lines q.lines in
    (find reports (over_reports reports) base q, find-right reports q (over_reports reports) base ok sq (narrow-over reports) (below-over base q.lines (omega arith)))

pub all-sound-from : (reports : List Question) → ((r : Question) → In r reports → sound r ≡ true) → all_sound reports ≡ true
unfolding all_sound
all-sound-from [] f = refl
all-sound-from (r ∷ rs) f = and_from _ _ (f r In.here) (all-sound-from rs (λ s i. f s (In.there i)))

pub find-allowed : FindAllowed
find-allowed reports q ar aq =
    let ok : all_sound reports ≡ true = all-sound-from reports (λ r i. (ar r i).is_sound) in
    let na : Narrow 16 reports = λ r i l j x m. ((ar r i).cells l j).each (Variable x) m in
    let be : Below 16 q.lines = λ l j x m. (aq.cells l j).each (Variable x) m in
    (find-right reports q 16 16 ok aq.is_sound na be, λ p e. find_first reports q p 16 16 ok aq.is_sound na be e)

pub more_reports : MoreReports
more_reports reports more q p (Found.by a f) = (λ o w. least o w, λ w. none w)
  where
    least : (o : Question) → Found (reports ++ more) q (Some o) → length o.lines ≤ length p.lines
    least o (Found.by c g) = g p (still_right reports more q p a)

    none : Found (reports ++ more) q None → ⊥
    none (Found.by_none n) = n p (still_right reports more q p a)

-- Choices of uses that the reports have on the question's own lines: one reading decides whether they are right, and if anything is right, no more of the widest question's lines are.
use Rattle.std.proofs.Common.{◌≡◌, ℕ, ◌<◌, ◌≤◌, Bool, true, List, length, sym, refl, subst, arith}
use Rattle.std.proofs.lemmas.Bool.{and_from}
use Rattle.question.specs.Question.{Line, Question, In, Within}
use Rattle.question.specs.Sound.{sound}
use Rattle.question.proofs.Members.{Used, Sound, sound_parts, sound-from}
use Rattle.question.proofs.Places.{one_in}
use Rattle.containment.specs.Reading.{line_put, Reads}
use Rattle.containment.proofs.Readings.{reads-within, reads-sound, into_from}
use Rattle.containment.proofs.Exactly.{within-reads}
use Rattle.containment.proofs.Searching.{can_read-reads, reads-can_read}
use Rattle.containment.proofs.Chosen.{chosen, chosen_in, every, chosen_every, length_chosen, ChosenFor, chosen_for}
use Rattle.reports.specs.Reports.{AnsweredBy, fits, all_sound}
use Rattle.reports.specs.Expand.{expand_lines, expand, Below, Narrow}
use Rattle.reports.specs.Widest.{OwnUse, Widest}
use Rattle.reports.proofs.Reporting.{fits-from}
use Rattle.reports.proofs.OwnUses.{use_fit, use_shaped, uses-held, by-uses, ReadOn, read_on}
use Rattle.reports.proofs.Expanding.{expand-some, expand_every, expand-told, told-expand}
use Rattle.reports.proofs.Fewer.{some_back, some-lines}
use Rattle.reports.proofs.Righting.{row_below}
use Rattle.reports.proofs.Widening.{own_below}
use Rattle.rewriting.specs.Found.{over_lines, will_do}
use Rattle.rewriting.specs.Laws.{WillDoExact}

-- uses that the reports have on the question's own lines are right exactly if the question can be read into their expansion
module _ (reports : List Question) (width base : ℕ) (q : Question) (ls : List Line) (ok : all_sound reports ≡ true) (sq : sound q ≡ true) (na : Narrow width reports) (be : Below base q.lines)
    (own : (l : Line) → In l ls → OwnUse reports q l) where
  lines-below : Below base ls
  lines-below l i x m = own_below base reports q l ok be (own l i) x m

  pub reads-right : Reads q (expand reports width base (over_lines q ls)) → AnsweredBy reports q (over_lines q ls)
  unfolding expand Within
  reads-right e =
      let p : Question = expand reports width base (over_lines q ls) in
      let s : Sound p = sound_parts p (reads-sound q p e sq) in
      let f : expand_lines reports width base ls ≡ expand-some reports width base (every ls) ls = sym (expand_every reports width base ls) in
      let g : chosen (every ls) ls ≡ ls = chosen_every ls in
      record {
        proper = and_from (sound (over_lines q ls)) (fits reports ls)
            (sound-from (over_lines q ls) (record {
              lines = subst (λ (xs : List Line). 0 < length xs) g (some-lines reports width base (every ls) ls _ (subst (λ (xs : List Line). In (one_in p.lines s.lines).0 xs) f (one_in p.lines s.lines).1));
              row = λ x i. let u : Used x p.lines = s.row x i in
                  subst (λ (xs : List Line). Used x xs) g (some_back reports width base x (row_below base q sq be x i) (every ls) ls u.line (subst (λ (xs : List Line). In u.line xs) f u.is_in) u.stands);
            }))
            (fits-from reports ls (λ l i. use_fit reports q l (own l i)));
        no_more = λ b r t. reads-within q p e b r (told-expand reports width base (over_lines q ls) na lines-below (row_below base q sq be) b r t);
        no_less = λ b r t. record { value = t.value; held = uses-held reports q ls own t.stand; is = t.is };
      }

  pub right-reads : AnsweredBy reports q (over_lines q ls) → Reads q (expand reports width base (over_lines q ls))
  unfolding Within
  right-reads a =
      within-reads (expand reports width base (over_lines q ls)) q (λ b r s. a.no_more b r (expand-told reports width base (over_lines q ls) (λ l i. use_shaped reports q l (own l i)) b r s))

pub will_do_exact : WillDoExact
unfolding will_do
will_do_exact reports q width base ls ok sq na be own =
    (λ e. reads-right reports width base q ls ok sq na be own (can_read-reads q _ e), λ a. reads-can_read q _ (right-reads reports width base q ls ok sq na be own a))

-- if any question over the reports is right, some of the widest question's lines are, no more of them
pub record SomeRight (reports : List Question) (q w p : Question) : Type 0 where
  pub mask : List Bool
  pub right : AnsweredBy reports q (over_lines q (chosen mask w.lines))
  pub few : length (chosen mask w.lines) ≤ length p.lines

pub some_of_widest : (reports : List Question) (q w p : Question) → Widest reports q w → AnsweredBy reports q p → SomeRight reports q w p
some_of_widest reports q w p wi a =
    let t : ReadOn reports q p = read_on reports q p a in
    let c : ChosenFor t.how w.lines p.lines = chosen_for w.lines (into_from p.lines (λ l i. wi.all (line_put t.how l) (t.own l i))) in
    record {
      mask = c.mask;
      right = by-uses reports q p (over_lines q (chosen c.mask w.lines)) a (record { how = t.how; lines = c.reads; row = t.row }) refl
          (λ l i. wi.right l (chosen_in c.mask w.lines l i));
      few = let h = length_chosen c.mask w.lines in let k = c.few in omega arith;
    }

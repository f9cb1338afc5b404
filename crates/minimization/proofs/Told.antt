-- The least question as it is found, and as it stands where it is written.
use Rattle.std.proofs.Common.{◌≡◌, ℕ, ◌<◌, ◌≤◌, true, false, ltb, List, ◌++◌, length, Some, None, Option, Result, unwrap_or, sym, refl, ap, ◌∙◌, subst, arith}
use Rattle.std.proofs.lemmas.Bool.Decides.{nat_tests}
use Rattle.question.specs.declared.refusals.Refusal.{Refusal}
use Rattle.question.specs.declared.refusals.Refusal.TheVariants.{NoRoomForQuestion}
use Rattle.question.specs.Question.{Line, Question, In}
use Rattle.question.specs.Sound.{sound, Allowed}
use Rattle.question.specs.Layout.{question_in, question_out}
use Rattle.question.specs.Check.{question_refusal}
use Rattle.question.proofs.Written.{writes_question_in}
use Rattle.question.proofs.Accepted.{checked, accepted}
use Rattle.question.proofs.Back.{reads_back, written_accepted}
use Rattle.minimization.specs.Choices.{by_size}
use Rattle.minimization.specs.Least.{says_same, least}
use Rattle.minimization.specs.Answer.{least_refusal, answer_of, Numbered, LeastStands}
use Rattle.minimization.proofs.Choosing.{PartOf, part_in}
use Rattle.minimization.proofs.Fewest.{with_lines, got, found_part, least_made}

-- what is found is the least question
pub least-is : (q : Question) (ls : List Line) → Some ls ≡ by_size (says_same q) q.lines (length q.lines) 1 → with_lines q ls ≡ least q
unfolding least
least-is q ls e = ap (λ (o : Option (List Line)). with_lines q (unwrap_or o q.lines)) e

-- of what is found among its lent lines
pub among-lent : (q : Question) (ws : List Line) (n : ℕ) (o : Option (List Line)) → ws ≡ q.lines → n ≡ length ws → o ≡ by_size (says_same q) ws n 1 → o ≡ by_size (says_same q) q.lines (length q.lines) 1
among-lent q ws n o w e h = h ∙ ap (λ (k : ℕ). by_size (says_same q) ws k 1) e ∙ ap (λ (vs : List Line). by_size (says_same q) vs (length vs) 1) w

-- its lines are the question's
least-row : (q : Question) → (least q).row ≡ q.row
unfolding least
least-row q = refl

least_in : (q : Question) → sound q ≡ true → (l : Line) → In l (least q).lines → In l q.lines
least_in q sq l i = part_in (found_part q sq) l (subst (λ (ls : List Line). In l ls) (got q sq).is i)

part_length : {A : Type 0} {xs ys : List A} → PartOf xs ys → length xs ≤ length ys
part_length PartOf.none_left = omega arith
part_length (PartOf.keep p) = let h = part_length p in omega arith
part_length (PartOf.skip p) = let h = part_length p in omega arith

least-short : (q : Question) → sound q ≡ true → length (least q).lines ≤ length q.lines
least-short q sq = subst (λ (ls : List Line). length ls ≤ length q.lines) (sym (got q sq).is) (part_length (found_part q sq))

-- it may be asked where the question may
pub least-allowed : (q : Question) → Allowed q → Allowed (least q)
least-allowed q a =
    let sq : sound q ≡ true = a.is_sound in
    let short : length (least q).lines ≤ length q.lines = least-short q sq in
    record {
      row = rw (least-row q) a.row;
      few = omega (arith, a.few);
      tables = λ l i. a.tables l (least_in q sq l i);
      cells = λ l i. a.cells l (least_in q sq l i);
      one_width = λ l m i j. a.one_width l m (least_in q sq l i) (least_in q sq m j);
      is_sound = (least_made q sq).sound_too;
    }

-- where it is written, it stands
pub stands : (xs more : List ℕ) (n : ℕ) → question_refusal xs ≡ None → n ≡ length (least (question_in xs)).lines → LeastStands xs (question_out (least (question_in xs)) ++ more) n
stands xs more n e h =
    let q : Question = question_in xs in
    let p : Question = least q in
    let out : List ℕ = question_out p ++ more in
    let is = accepted xs e in
    let b : Allowed p = least-allowed q (subst (λ (o : Question). Allowed o) (sym (writes_question_in xs is.0 is.1)) is.2) in
    let back : question_in out ≡ p = reads_back p (record { row = b.row.few; lines = b.few; cells = λ l i. (b.cells l i).few }) more in
    record {
      reads_back = back;
      is_least = rw back (least_made q (checked xs e).is_sound);
      is_question = accepted out (written_accepted p b more);
      count = h ∙ ap (λ (o : Question). length o.lines) (sym back);
    }

-- how a call is turned away
pub refused_first : (xs out : List ℕ) (e : Refusal) → question_refusal xs ≡ Some e → least_refusal xs out ≡ Some e
unfolding least_refusal
refused_first xs out e h = rw h

pub refused_room : (xs out : List ℕ) → question_refusal xs ≡ None → length out < 50 → least_refusal xs out ≡ Some (NoRoomForQuestion (length out))
unfolding least_refusal
refused_room xs out h r = let t : ltb (length out) 50 ≡ true = grind (arith, nat_tests) in rw (h, t)

pub refused_not : (xs out : List ℕ) → question_refusal xs ≡ None → 50 ≤ length out → least_refusal xs out ≡ None
unfolding least_refusal
refused_not xs out h r = let t : ltb (length out) 50 ≡ false = grind (arith, nat_tests) in rw (h, t)

-- the number and the values of an answer
pub numbered : (o : Option Refusal) (n : ℕ) (r : Result ℕ Refusal) → r ≡ answer_of o n → Numbered r o n
numbered o n r e = subst (λ (a : Result ℕ Refusal). Numbered a o n) (sym e) (go o)
  where
    go : (o : Option Refusal) → Numbered (answer_of o n) o n
    go None = record { number = refl; values = refl }
    go (Some e) = record { number = refl; values = refl }

use Rattle.std.proofs.Common.{◌≡◌, ℕ, true, false, List, Ok, Result, ◌++◌, length, get_or, drop, ◌<◌, sym, ap, ◌∙◌, subst}
use Rattle.question.specs.declared.refusals.Refusal.{Refusal}
use Rattle.question.specs.Layout.{question_in, value_in}
use Rattle.question.specs.Lent.{question_of}
use Rattle.question.specs.Tables.{tables_in}
use Rattle.question.proofs.Accepted.{allowed}
use Rattle.containment.specs.declared.answer.Containment.{Containment}
use Rattle.containment.specs.declared.answer.Containment.TheVariants as answer
use Rattle.containment.specs.Search.{can_read}
use Rattle.containment.specs.OwnTables.{naming}
use Rattle.containment.specs.OwnNumbers.{tables_out}
use Rattle.containment.specs.Answer.{within_refusal, TellsApart}
use Rattle.containment.proofs.Telling.{names_tables, told-within, told-apart, says_apart}
use Rattle.containment.proofs.Numbered.{numbered}
use Rattle.containment.proofs.compare.within.Goals as goal

pub returns-then-is_some-clause-meant : goal.returns-then-is_some-clause-meant
returns-then-is_some-clause-meant c =
    let found : can_read (question_of c.in_ok-second.second) (question_of c.in_ok-first.first) ≡ true = sym c.first_reading.ensures.found ∙ sym c.is_some.ensures ∙ c.if-is_some.true in
    told-within _ _ (rw (c.in_ok-first.ensures.told.1, c.in_ok-second.ensures.told.1) at found)

pub returns : goal.returns
returns c =
    let xs = c.args.first.now in
    let ys = c.args.second.now in
    let p = question_in xs in
    let q = question_in ys in
    let size = c.write_tables-size.result in
    let a = c.in_ok-first.ensures.told.0 in
    let first-is = c.in_ok-first.ensures.told.1 in
    let second-is = c.in_ok-second.ensures.told.1 in
    let found : can_read (question_of c.in_ok-second.second) (question_of c.in_ok-first.first) ≡ false = sym c.first_reading.ensures.found ∙ sym c.is_some.ensures ∙ c.if-is_some.false in
    let none : can_read q p ≡ false = rw (first-is, second-is) at found in
    let names : (x : ℕ) → x < 16 → get_or c.names.result x 0 ≡ naming p q x = rw (first-is, second-is) at c.names.ensures in
    let says = says_apart xs ys c.args.room.now c.names.result a c.in_ok-second.ensures.told.0 c.if-room-lt64.false none names in
    let n : size ≡ length (tables_out (value_in c.names.result) p) = rw first-is at c.write_tables-size.ensures.count in
    let w : c.write_tables-size.new.room ≡ tables_out (value_in c.names.result) p ++ drop size c.args.room.now = rw first-is at c.write_tables-size.ensures.written in
    let shown : c.write_tables-size.new.room ≡ tables_out (naming p q) p ++ drop size c.args.room.now = w ∙ ap (λ (ns : List ℕ). ns ++ drop size c.args.room.now) (names_tables c.names.result p q (allowed xs a) names) in
    let apart = told-apart p q (allowed xs a) none (drop size c.args.room.now) in
    let told = ap (λ (k : ℕ). Ok (answer.Apart k)) n ∙ sym (ap (λ (r : Result Containment Refusal × List ℕ). r.0) says) in
    record {
      answer = told;
      numbered = numbered (within_refusal xs ys c.args.room.now) xs ys c.args.room.now _ told;
      after = w ∙ ap (λ (k : ℕ). tables_out (value_in c.names.result) p ++ drop k c.args.room.now) n ∙ sym (ap (λ (r : Result Containment Refusal × List ℕ). r.1) says);
      meant = (apart.0, subst (λ (ns : List ℕ). TellsApart (tables_in ns) p q) (sym shown) apart.1);
    }

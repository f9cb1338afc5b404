use Rattle.std.proofs.Common.{◌≡◌, Some, None, sym, arith}
use Rattle.std.proofs.lemmas.Bool.Decides.{nat_tests}
use Rattle.question.specs.declared.refusals.Refusal.TheVariants.{CutShort, NoQuestion}
use Rattle.question.specs.Layout.{question_in}
use Rattle.question.specs.Check.{question_refusal}
use Rattle.question.proofs.Decoding.{length-lines_in}
use Rattle.question.proofs.Accepted.{accepted, refused}
use Rattle.question.proofs.check.check_question.Goals as goal

pub returns-then-question-lt50 : goal.returns-then-question-lt50
unfolding question_refusal
returns-then-question-lt50 c =
    let told : question_refusal c.args.question.now ≡ Some (CutShort _) = grind (arith, nat_tests) in
    record { told = told; meant = refused c.args.question.now _ told }

pub returns-in-Some : goal.returns-in-Some
unfolding question_refusal
returns-in-Some c =
    let told : question_refusal c.args.question.now ≡ Some (NoQuestion c.in-Some.place) = grind (arith, nat_tests) in
    record { told = told; meant = refused c.args.question.now _ told }

pub returns : goal.returns
unfolding question_refusal question_in
returns c =
    let none : question_refusal c.args.question.now ≡ None = grind (arith, nat_tests) in
    record { told = (none, sym (length-lines_in _ _)); meant = accepted c.args.question.now none }

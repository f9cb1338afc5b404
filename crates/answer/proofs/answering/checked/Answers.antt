use Rattle.std.proofs.Common.{rules, arith, ◌≡◌, None}
use Rattle.std.proofs.lemmas.Bool.Decides.{nat_tests}
use Rattle.question.specs.Check.{cut_short}
use Rattle.answer.specs.Answered.{answer_refusal}
use Rattle.answer.proofs.Refusing.{by_short, by_question, by_tables}
use Rattle.answer.proofs.answering.checked.Goals as goal

pub returns-then-question-lt50 : goal.returns-then-question-lt50
unfolding answer_refusal
returns-then-question-lt50 c = grind (arith, nat_tests)

pub returns-in_err-whole : goal.returns-in_err-whole
returns-in_err-whole c =
    let long : cut_short c.args.question.now ≡ None = grind (arith, nat_tests) in
    let told = by_short _ c.args.tables.now long _ c.in_err-whole.ensures in
    search (rules, told)

pub returns-in_err-question : goal.returns-in_err-question
returns-in_err-question c =
    let long : cut_short c.args.question.now ≡ None = grind (arith, nat_tests) in
    let told = by_question _ c.args.tables.now long _ c.in_ok-whole.ensures.0 c.in_err-question.ensures.told in
    search (rules, told)

pub returns-in_err-check_tables : goal.returns-in_err-check_tables
returns-in_err-check_tables c =
    let long : cut_short c.args.question.now ≡ None = grind (arith, nat_tests) in
    let told = by_tables _ c.args.tables.now long _ c.in_ok-whole.ensures.0 c.in_ok-question.ensures.told.0 c.in_err-check_tables.ensures in
    search (rules, told)

pub returns : goal.returns
returns c =
    let long : cut_short c.args.question.now ≡ None = grind (arith, nat_tests) in
    let t = c.in_ok-whole.ensures in
    let q = c.in_ok-question.ensures.told in
    (by_tables _ c.args.tables.now long _ t.0 q.0 c.in_ok-check_tables.ensures.0, q.1, t.1, t.2)

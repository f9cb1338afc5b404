use Rattle.std.proofs.Common.{rules, ◌≡◌, length, vec_items}
use Rattle.question.specs.Lent.{question_of}
use Rattle.answer.specs.Lent.{base_of}
use Rattle.answer.specs.Laws.{Copied}
use Rattle.answer.specs.Planning.{plan_in}
use Rattle.answer.specs.Answered.{Meant}
use Rattle.answer.proofs.TableTurns.{base-is}
use Rattle.answer.proofs.Gathered.{copied_by}
use Rattle.answer.proofs.Refusing.{refused}
use Rattle.answer.proofs.RowsMeant.{meant}
use Rattle.answer.proofs.answering.answer.Goals as goal

pub returns-in_err-question : goal.returns-in_err-question
unfolding Meant
returns-in_err-question c =
    let told = refused _ c.args.tables.now c.args.out.now _ c.in_err-question.ensures in
    search (rules, told)

pub returns-in_err-rows : goal.returns-in_err-rows
unfolding Meant
returns-in_err-rows c =
    let told = c.in_ok-question.ensures.0 in
    search (rules, told)

pub returns : goal.returns
returns c =
    let t = c.in_ok-question.ensures in
    let b = base_of c.in_ok-question.tables in
    let q = question_of c.in_ok-question.question in
    let p = plan_in c.of-plan.result in
    let rows = vec_items c.in_ok-rows.rows in
    let planned = c.of-plan.ensures.planned in
    let k : Copied b q p rows = copied_by b q p rows (λ i h. (planned.line i h).few) (rw c.deref.ensures.0 at c.in_ok-rows.ensures) in
    let long : length c.put_rows.new.out ≡ length c.args.out.now = search rules in
    meant c.args.question.now c.args.tables.now b q t.0 (base-is c.args.tables.now _ _ t.2 t.3) t.1 p rows planned k c.args.out.now c.put_rows.new.out long c.put_rows.result c.put_rows.ensures

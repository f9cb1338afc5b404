use Rattle.std.proofs.Common.{◌∙◌, List, ℕ, arith}
use Rattle.std.proofs.lemmas.List.{length-set}
use Rattle.question.specs.Question.{Line}
use Rattle.question.specs.Layout.{value_in}
use Rattle.question.specs.Lent.{lines_of}
use Rattle.containment.specs.OwnNumbers.{lines_once, table_heads, each_out, tables_out}
use Rattle.containment.proofs.OwnNumbers.{lent_few}
use Rattle.containment.proofs.Turns.{one_and-more, behind_one}
use Rattle.containment.proofs.shown.write_tables.Goals as goal

pub write_each-requires : goal.write_each-requires
unfolding tables_out
write_each-requires c =
    let few = lent_few (value_in c.args.values.now) _ c.args.question.now.asked in
    rw (behind_one c.count.result c.args.room.now, c.lines.ensures.lines) (omega (arith, few, c.requires))

pub returns-clause-count : goal.returns-clause-count
unfolding tables_out
returns-clause-count c = let e = c.write_each.ensures.count in omega (arith, rw c.lines.ensures.lines at e)

pub returns-clause-written : goal.returns-clause-written
unfolding tables_out
returns-clause-written c =
    let v = value_in c.args.values.now in
    let each : List Line → List ℕ = λ ms. each_out v (lines_once ms) (table_heads ms) in
    one_and-more c.count.result c.args.room.now (each (lines_of c.lines.result)) c.write_each.new.room c.write_each.result _ (omega (arith, c.requires)) (simp length-set) c.write_each.ensures.written ∙ rw (c.count.ensures, c.lines.ensures.lines)

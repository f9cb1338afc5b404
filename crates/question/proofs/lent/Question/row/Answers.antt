use Rattle.std.proofs.Common.{arith, ◌∙◌, refl}
use Rattle.question.specs.Layout.{question_in}
use Rattle.question.proofs.Parted.{lent_row}
use Rattle.question.proofs.lent.Question.row.Goals as goal

pub first_of-requires : goal.first_of-requires
first_of-requires c =
    let p = lent_row _ c.args.self.now.asked in
    (omega arith, ((p.room, p.fit), omega arith))

pub returns-clause-row : goal.returns-clause-row
unfolding question_in
returns-clause-row c =
    let p = lent_row _ c.args.self.now.asked in
    c.first_of.ensures ∙ rw p.whole refl

pub returns-clause-few : goal.returns-clause-few
returns-clause-few c = (lent_row _ c.args.self.now.asked).few

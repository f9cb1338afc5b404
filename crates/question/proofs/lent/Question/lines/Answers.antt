use Rattle.std.proofs.Common.{arith, ◌∙◌, refl}
use Rattle.question.specs.Layout.{question_in}
use Rattle.question.proofs.Parted.{lent_lines}
use Rattle.question.proofs.lent.Question.lines.Goals as goal

pub first_of-requires : goal.first_of-requires
first_of-requires c =
    let p = lent_lines _ c.args.self.now.asked in
    (omega arith, ((p.room, p.fit), omega arith))

pub returns-clause-lines : goal.returns-clause-lines
unfolding question_in
returns-clause-lines c =
    let p = lent_lines _ c.args.self.now.asked in
    c.first_of.ensures ∙ rw p.whole refl

pub returns-clause-few : goal.returns-clause-few
returns-clause-few c = (lent_lines _ c.args.self.now.asked).few

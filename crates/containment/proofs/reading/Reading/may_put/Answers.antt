use Rattle.std.proofs.Common.{sym, ◌∙◌, arith}
use borrow.Author.Tests.{eqb-false}
use Rattle.containment.specs.Coding.{part_of}
use Rattle.containment.proofs.Codes.{number-other, variable_other, has-place}
use Rattle.containment.proofs.reading.Reading.may_put.Goals as goal

pub returns-in_default : goal.returns-in_default
returns-in_default c = λ no. number-other (part_of c.args.self.now.codes) c.in_default.field-0 c.args.from c.args.to c.in_default.is (λ e. eqb-false c.code.result c.code-wanted.result no (c.code.ensures.code ∙ e ∙ sym c.code-wanted.ensures.code))

pub returns-else-so_far-ge-NOT_PUT : goal.returns-else-so_far-ge-NOT_PUT
returns-else-so_far-ge-NOT_PUT c = λ no.
    let h = has-place c.args.from c.in-Variable.x c.args.self.now.codes c.requires c.in-Variable.is c.args.self.now.sixteen in
    variable_other c.args.self.now.codes c.in-Variable.x c.args.from c.args.to c.in-Variable.is h (omega arith) (λ e. eqb-false _ _ no (cc e))

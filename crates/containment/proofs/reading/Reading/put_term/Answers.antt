use Rattle.std.proofs.Common.{sym, arith}
use Rattle.containment.specs.Coding.{part_of}
use Rattle.containment.proofs.Codes.{number_same, number-other, variable_new, variable_same, variable_other, has-place}
use Rattle.containment.proofs.reading.Reading.put_term.Goals as goal

pub returns-then-code-wanted : goal.returns-then-code-wanted
returns-then-code-wanted c =
    sym (number_same (part_of c.args.self.codes) c.in_default.field-0 c.args.from c.args.to c.in_default.is c.code.ensures.own c.code-wanted.ensures.own (cc))

pub returns-else-code-wanted : goal.returns-else-code-wanted
returns-else-code-wanted c =
    sym (number-other (part_of c.args.self.codes) c.in_default.field-0 c.args.from c.args.to c.in_default.is (λ e. c.if-code-wanted.false (cc e)))

pub returns-then-put-ge-NOT_PUT : goal.returns-then-put-ge-NOT_PUT
returns-then-put-ge-NOT_PUT c =
    let h = has-place c.args.from c.in-Variable.x c.args.self.codes c.requires c.in-Variable.is c.args.self.sixteen in
    rw c.code-wanted.ensures.code (sym (variable_new c.args.self.codes c.in-Variable.x c.args.from c.args.to c.in-Variable.is h c.code-wanted.ensures.own c.if-put-ge-NOT_PUT.true))

pub returns-then-put-wanted : goal.returns-then-put-wanted
returns-then-put-wanted c =
    let h = has-place c.args.from c.in-Variable.x c.args.self.codes c.requires c.in-Variable.is c.args.self.sixteen in
    sym (variable_same c.args.self.codes c.in-Variable.x c.args.from c.args.to c.in-Variable.is h c.code-wanted.ensures.own (cc))

pub returns-else-put-wanted : goal.returns-else-put-wanted
returns-else-put-wanted c =
    let h = has-place c.args.from c.in-Variable.x c.args.self.codes c.requires c.in-Variable.is c.args.self.sixteen in
    sym (variable_other c.args.self.codes c.in-Variable.x c.args.from c.args.to c.in-Variable.is h (omega arith) (λ e. c.if-put-wanted.false (cc e)))

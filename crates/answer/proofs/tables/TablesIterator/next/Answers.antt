use Rattle.std.proofs.Common.{arith, ◌≡◌, ◌+◌}
use Rattle.answer.proofs.TableTurns.{tables_none, tables-next, there-one, length-tables_from}
use Rattle.answer.proofs.tables.TablesIterator.next.Goals as goal

pub returns-in_err-self-clause-steps : goal.returns-in_err-self-clause-steps
returns-in_err-self-clause-steps c = let none = tables_none c.args.self.now.count c.args.self.now.left.now (omega (arith, c.in_err-self.ensures)) in rw c.from_residual.ensures (none, none)

pub invariant_of-table : goal.invariant_of-table
invariant_of-table c = let e : c.args.self.now.count ≡ c.in_ok-self.field-0 + 1 = omega (arith, c.in_ok-self.ensures) in record { there = (there-one _ _ _ e c.args.self.now.there).0 }

pub invariant_of-self : goal.invariant_of-self
invariant_of-self c = let e : c.args.self.now.count ≡ c.in_ok-self.field-0 + 1 = omega (arith, c.in_ok-self.ensures) in record { there = rw c.behind-self.ensures (there-one _ _ _ e c.args.self.now.there).1 }

pub returns-clause-steps : goal.returns-clause-steps
returns-clause-steps c = let e : c.args.self.now.count ≡ c.in_ok-self.field-0 + 1 = omega (arith, c.in_ok-self.ensures) in rw c.behind-self.ensures (tables-next _ _ _ e)

pub returns-clause-goes : goal.returns-clause-goes
returns-clause-goes c =
    let before = length-tables_from c.args.self.now.count c.args.self.now.left.now in
    let after = length-tables_from c.in_ok-self.field-0 c.behind-self.result.now in
    record { on = λ _. (tt, tt, omega (arith, before, after, c.in_ok-self.ensures)); keeps = tt; rests = λ _. tt }

use Rattle.std.proofs.Common.{arith, ◌≡◌, ◌+◌}
use Rattle.answer.proofs.TableTurns.{no-rows, rows-next, length-rows_in}
use Rattle.answer.proofs.tables.RowsIterator.next.Goals as goal

pub returns-in_err-self-clause-steps : goal.returns-in_err-self-clause-steps
returns-in_err-self-clause-steps c = let none = no-rows c.args.self.now.count c.args.self.now.columns c.args.self.now.left.now (omega (arith, c.in_err-self.ensures)) in rw c.from_residual.ensures (none, none)

pub returns-clause-steps : goal.returns-clause-steps
returns-clause-steps c = let e : c.args.self.now.count ≡ c.in_ok-self.field-0 + 1 = omega (arith, c.in_ok-self.ensures) in rw (c.split_at.ensures.front, c.split_at.ensures.back) (rows-next _ _ _ _ e)

pub returns-clause-goes : goal.returns-clause-goes
returns-clause-goes c =
    let before = length-rows_in c.args.self.now.count c.args.self.now.columns c.args.self.now.left.now in
    let after = length-rows_in c.in_ok-self.field-0 c.args.self.now.columns c.split_at.result.1.now in
    record { on = λ _. (tt, tt, omega (arith, before, after, c.in_ok-self.ensures)); keeps = tt; rests = λ _. tt }

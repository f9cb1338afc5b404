use Rattle.std.proofs.Common.{rules}
use Rattle.answer.proofs.TableTurns.{short-told, large-told}
use Rattle.answer.proofs.tables.check_tables.Goals as goal

pub returns-in_err-whole : goal.returns-in_err-whole
returns-in_err-whole c = let h = c.from_residual.ensures in let s = short-told _ _ c.in_err-whole.ensures in search (rules, s)

pub returns : goal.returns
returns c =
    let e = c.in_ok-whole.ensures in
    large-told c.args.tables.now c.small.result _ _ e.0 e.1 e.2 c.small.ensures

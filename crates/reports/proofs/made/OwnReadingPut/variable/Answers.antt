use Rattle.std.proofs.Common.{◌∙◌, length, arith, ◌<◌}
use Rattle.reports.proofs.Filling.{code-kept}
use Rattle.reports.proofs.Gathering.{code-put, code_at}
use Rattle.reports.proofs.made.OwnReadingPut.variable.Goals as goal

pub returns : goal.returns
returns c =
    let a = c.args.self.now.reading.codes in
    let h : c.args.x < length a = omega arith in
    c.unwrap_or.ensures ∙ code-put c.of_code.result _ c.of_code.ensures (code_at a c.args.x c.args.self.now.within h) ∙ code-kept c.args.x a h

use Rattle.std.proofs.Common.{◌++◌, codes, decimal, rules}
use Rattle.std.specs.Fmt.{HasWritten}
use Rattle.std.proofs.Output.{has_written_append, has_written_of_eq}
use Rattle.question.specs.Lent.{line_of}
use Rattle.question.specs.Texts.{term_text}
use Rattle.rewriting.proofs.Lines.{term-more, terms-over}
use Rattle.rewriting.proofs.line.UseDisplay.fmt.Goals as goal

pub loop-term-preserved : goal.loop-term-preserved
loop-term-preserved g c = (
  tt,
  tt,
  λ plain.
      let so_far = c.loop-term.invariant.2 plain in (
        so_far.0 ++ (codes " " ++ term_text c.in-Some.term),
        has_written_append _ _ _ _ _ _ so_far.1 (search rules),
        term-more _ c.in-Some.term _ so_far.0 _ c.in-Some.ensures.steps so_far.2,
      ),
)

pub returns-clause-writes : goal.returns-clause-writes
returns-clause-writes g c = λ plain _.
    let report : HasWritten g.W.Write.write_str_gives c.args.f.now (codes " R" ++ decimal (line_of c.args.self.now.0).table) c.write.new.self = search rules in
    let terms = c.loop-term.invariant.2 report.plain in
    has_written_append _ _ _ _ _ _ report (has_written_of_eq _ _ _ _ _ (terms-over _ terms.0 _ c.in-None.ensures.steps.0 terms.2) terms.1)

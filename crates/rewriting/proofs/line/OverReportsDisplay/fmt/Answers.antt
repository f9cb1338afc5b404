use Rattle.std.proofs.Common.{◌++◌, length, codes, decimal, ap, sym, ◌∙◌, rules}
use Rattle.std.specs.Fmt.{HasWritten}
use Rattle.std.proofs.Output.{has_written_append, has_written_of_eq}
use Rattle.question.specs.Lent.{line_of, question_of}
use Rattle.rewriting.specs.Texts.{use_text}
use Rattle.rewriting.proofs.Lines.{use-more, uses-over, uses-from}
use Rattle.rewriting.proofs.line.OverReportsDisplay.fmt.Goals as goal

pub loop-more-preserved : goal.loop-more-preserved
loop-more-preserved g c = (
  tt,
  tt,
  λ plain.
      let so_far = c.loop-more.invariant.2 plain in (
        so_far.0 ++ (codes "," ++ use_text (line_of c.in-Some-more.more)),
        has_written_append _ _ _ _ _ _ so_far.1 (search rules),
        use-more _ (line_of c.in-Some-more.more) _ so_far.0 _ c.in-Some-more.ensures.steps so_far.2,
      ),
)

pub returns-clause-writes : goal.returns-clause-writes
returns-clause-writes g c = λ plain _.
    let took = g.W.Write.write_str_gives in
    let ls = (question_of c.args.self.now.0).lines in
    let l = line_of c.in-Some.first in
    let counted = c.count_left-count.ensures ∙ ap length c.lines-uses.ensures.lines in
    let head : HasWritten took c.args.f.now ((codes "by " ++ decimal (length ls)) ++ codes ":") c.write.new.self = rw (← counted) (search rules) in
    let first : HasWritten took c.write.new.self (use_text l) c.write-2.new.self = let p = head.plain in search rules in
    let more = c.loop-more.invariant.2 first.plain in
    let uses = uses-from ls l _ (sym c.lines-uses.ensures.lines ∙ c.in-Some.ensures.steps) in
    has_written_append _ _ _ _ _ _ head
    (has_written_of_eq _ _ _ _ _ uses (has_written_append _ _ _ _ _ _ first (has_written_of_eq _ _ _ _ _ (uses-over _ more.0 _ c.in-None.ensures.steps.0 (rw c.into_iter-more-iterator.ensures.into_iter_gives at more.2)) more.1)))

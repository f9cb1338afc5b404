use Rattle.std.proofs.Common.{List, ap, ◌∙◌}
use Rattle.question.specs.Question.{Line}
use Rattle.question.specs.Lent.{question_of}
use Rattle.containment.specs.Search.{can_read}
use Rattle.reports.specs.Expand.{expand}
use Rattle.rewriting.specs.Found.{over_lines, will_do}
use Rattle.rewriting.proofs.fewest.WillDoPartialTest.passes.Goals as goal

pub returns : goal.returns
unfolding will_do expand
returns c =
    let q = question_of c.args.self.now.question in
    c.reads_into.ensures ∙ ap (λ (ls : List Line). can_read q (over_lines q ls)) (c.lines-put_in.ensures.lines ∙ c.expand_uses-expanded.ensures)

use Rattle.std.proofs.Common.{◌≡◌, length, Some, None, sym, ap, ◌∙◌}
use Rattle.question.specs.Question.{Question}
use Rattle.question.specs.Lent.{lines_of, question_of}
use Rattle.question.proofs.Accepted.{checked}
use Rattle.minimization.specs.Meant.{meant}
use Rattle.minimization.specs.Least.{least}
use Rattle.minimization.proofs.Fewest.{with_lines, some-choice}
use Rattle.minimization.proofs.Told.{least-is, among-lent}
use Rattle.minimization.proofs.shorten.write_least.Goals as goal

pub unreachable-requires : goal.unreachable-requires
unreachable-requires c =
    let q : Question = question_of c.args.question.now in
    some-choice q (checked c.args.question.now.numbers.now c.args.question.now.asked).is_sound
    (sym (among-lent q (lines_of c.lines-lines.result) c.count_left.result None c.lines-lines.ensures.lines c.count_left.ensures c.in_default.ensures))

pub returns : goal.returns
returns c =
    let q : Question = question_of c.args.question.now in
    let ls = meant c.in-Some.chosen in
    let is : with_lines q ls ≡ least q = least-is q ls (among-lent q (lines_of c.lines-lines.result) c.count_left.result (Some ls) c.lines-lines.ensures.lines c.count_left.ensures c.in-Some.ensures) in
    record {
      told = c.count_left-2.ensures ∙ ap length c.lines-least.ensures.lines ∙ ap (λ (p : Question). length p.lines) is;
      written = rw (← is, ← c.lines-least.ensures.lines) c.write_with.ensures;
    }

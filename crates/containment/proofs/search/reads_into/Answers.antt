use Rattle.std.proofs.Common.{List, is_some, None, sym, ap, ◌∙◌}
use Rattle.question.specs.Question.{Line, Question}
use Rattle.question.specs.Lent.{lines_of, question_of}
use Rattle.containment.specs.Search.{read_lines, can_read}
use Rattle.containment.specs.Coding.{part_of}
use Rattle.containment.proofs.Found.{rows_differ, rows_match, told-can_read}
use Rattle.containment.proofs.search.reads_into.Goals as goal

pub returns-in_default : goal.returns-in_default
returns-in_default g c =
    let q = question_of c.args.question.now in
    let p : Question = record { row = q.row; lines = lines_of c.args.lines.now } in
    told-can_read q p None (sym (rows_differ q p (sym c.in_default.ensures)))

pub returns : goal.returns
unfolding can_read
returns g c =
    let q = question_of c.args.question.now in
    let p : Question = record { row = q.row; lines = lines_of c.args.lines.now } in
    let s = part_of c.in-Some.reading.codes in
    c.can_read_lines.ensures ∙ ap (λ (ls : List Line). is_some (read_lines ls p.lines s)) c.lines-from.ensures.lines ∙ sym (ap is_some (rows_match q p s (sym c.in-Some.ensures)))

use Rattle.std.proofs.Common.{◌≡◌, List, Option, sym, ◌∙◌, ap, ap₂}
use Rattle.question.specs.Question.{Line}
use Rattle.question.specs.Lent.{question_of}
use Rattle.containment.specs.Search.{Part, read_lines, first_reading}
use Rattle.containment.specs.Coding.{part_of}
use Rattle.containment.specs.Told.{told}
use Rattle.containment.proofs.Found.{rows_differ, rows_match, told-can_read}
use Rattle.containment.proofs.search.first_reading.Goals as goal

pub returns-in_err-reading : goal.returns-in_err-reading
returns-in_err-reading c =
    let q = question_of c.args.question.now in
    let p = question_of c.args.other.now in
    let e : told c.from_residual.result ≡ first_reading q p = ap told c.from_residual.ensures ∙ sym (rows_differ q p (sym c.in_err-reading.ensures)) in
    record { first = e; found = told-can_read q p c.from_residual.result e }

pub returns : goal.returns
returns c =
    let q = question_of c.args.question.now in
    let p = question_of c.args.other.now in
    let s = part_of c.in_ok-reading.reading.codes in
    let e : told c.read_lines.result ≡ first_reading q p
    = c.read_lines.ensures ∙ ap₂ {C = Option Part} (λ (ls ms : List Line). read_lines ls ms s) c.lines.ensures.lines c.lines-2.ensures.lines ∙ sym (rows_match q p s (sym c.in_ok-reading.ensures)) in
    record { first = e; found = told-can_read q p c.read_lines.result e }

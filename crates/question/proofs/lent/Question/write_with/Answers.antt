use Rattle.std.proofs.Common.{◌≡◌, ◌*◌, ◌≤◌, length, ap, ◌∙◌, refl, arith}
use Rattle.question.specs.Layout.{question_out, terms_out, lines_out}
use Rattle.question.specs.Lent.{terms_of, lines_of}
use Rattle.question.proofs.Chunks.{lines-long}
use Rattle.question.proofs.Writing.{question_written, length-padded, length-terms_out}
use Rattle.question.proofs.lent.Question.write_with.Goals as goal

pub returns : goal.returns
unfolding question_out
returns g c =
    let ts = terms_of c.row-row.result in
    let ls = lines_of c.args.lines.now in
    let few : length ts ≤ 4 = rw c.row-row.ensures.row c.row-row.ensures.few in
    let long : length (lines_out ls) ≡ 10 * length ls = lines-long g.row.LIMIT c.args.lines.now.left.now c.args.lines.now.fit in
    let eight : length c.write.new.out ≡ 8 = ap length c.write.ensures ∙ length-padded 8 (terms_out ts) (omega (arith, length-terms_out ts, few)) in
    let forty : length c.write-2.new.out ≡ 40 = ap length c.write-2.ensures ∙ length-padded 40 (lines_out ls) (omega (arith, long, c.requires.0)) in
    question_written c.count_left.result c.count_left-2.result c.write.new.out c.write-2.new.out c.args.out.now eight forty c.requires.1
    ∙ rw (c.write.ensures, c.write-2.ensures, c.count_left.ensures, c.count_left-2.ensures, c.row-row.ensures.row) refl

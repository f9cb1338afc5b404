use Rattle.std.proofs.Common.{rules, ◌∙◌, refl}
use Rattle.question.specs.Layout.{line_out}
use Rattle.question.proofs.Chunks.{line_few}
use Rattle.question.proofs.Writing.{two_and-room}
use Rattle.question.proofs.lines.Line.write.Goals as goal

pub write-requires : goal.write-requires
write-requires g c =
    let few = line_few g.row.LIMIT c.args.self.now.numbers.now c.args.self.now.fits in
    (search rules, (rw c.terms.ensures few, search rules))

pub returns : goal.returns
unfolding line_out
returns g c = two_and-room c.table.result c.width.result c.args.out.now c.write.new.out c.requires ∙ rw (c.write.ensures, c.table.ensures, c.width.ensures, c.terms.ensures) refl

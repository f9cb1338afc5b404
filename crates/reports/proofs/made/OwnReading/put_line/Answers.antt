use Rattle.std.proofs.Common.{sym}
use Rattle.question.specs.Lent.{line_of}
use Rattle.question.proofs.Written.{fits-within-cells}
use Rattle.containment.specs.Coding.{part_of}
use Rattle.reports.proofs.Gathering.{codes-within, within-codes, line-within}
use Rattle.reports.proofs.made.OwnReading.put_line.Goals as goal

pub invariant_of-result : goal.invariant_of-result
invariant_of-result c =
    let s = part_of c.args.self.now.reading.codes in
    let w = line-within s (part_of c.in_ok-reading.reading.codes) (line_of c.args.from.now) (line_of c.args.to.now) (sym c.in_ok-reading.ensures) (codes-within c.args.self.now.reading.codes c.args.self.now.within) (fits-within-cells c.args.to.now.numbers.now c.args.to.now.fits).each in
    record { within = within-codes c.in_ok-reading.reading.codes w }

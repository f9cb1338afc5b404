use Rattle.std.proofs.Common.{refl}
use Rattle.answer.specs.Taking.{takes}
use Rattle.answer.proofs.copies.cell_passes.Goals as goal

pub returns-in-Number : goal.returns-in-Number
unfolding takes
returns-in-Number c = rw (c.in-Number.is, c.from.ensures) refl

pub returns-in-Variable : goal.returns-in-Variable
unfolding takes
returns-in-Variable c = rw (c.in-Variable.is, c.one_number.ensures) refl

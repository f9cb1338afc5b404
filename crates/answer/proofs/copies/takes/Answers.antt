use Rattle.std.proofs.Common.{◌∙◌, sym}
use Rattle.answer.proofs.Takings.{takes_no_term, takes_no_cell}
use Rattle.answer.proofs.copies.takes.Goals as goal

pub returns-in_default-split_first : goal.returns-in_default-split_first
returns-in_default-split_first c = sym (takes_no_term _ _ _ _ c.in_default-split_first.ensures.cases c.in-Some.ensures.cases.0) ∙ c.loop-cell.invariant

pub returns : goal.returns
returns c = c.is_empty.ensures ∙ sym (takes_no_cell _ _ c.in_default.ensures.cases) ∙ c.loop-cell.invariant

use Rattle.std.proofs.Common.{is_some, sym, ap, ◌∙◌}
use Rattle.question.specs.Lent.{line_of, lines_of}
use Rattle.containment.specs.Search.{read_lines}
use Rattle.containment.specs.Coding.{part_of}
use Rattle.containment.proofs.Steps.{lines_more, lines_end, try_past, try_none, try_some, try_end}
use Rattle.containment.proofs.Placed.{not_read}
use Rattle.containment.proofs.ahead.+can_read_lines.Goals as goal

pub returns-in_default : goal.returns-in_default
returns-in_default g t c = sym (ap is_some (lines_end (lines_of c.args.from.now) (lines_of c.args.to.now) (part_of c.args.reading.codes) c.in_default.ensures.steps.0))

pub returns-then-not-all_placed : goal.returns-then-not-all_placed
returns-then-not-all_placed g t c =
    sym (ap is_some (not_read (lines_of c.args.from.now) (lines_of c.args.to.now) (part_of c.args.reading.codes) (sym c.all_placed.ensures ∙ c.if-not-all_placed.true)))

pub loop-other-init : goal.loop-other-init
loop-other-init g t c =
    (tt, tt, rw c.into_iter-other-iterator.ensures.into_iter_gives (sym (lines_more (lines_of c.args.from.now) (lines_of c.args.to.now) (line_of c.in-Some.line) (lines_of c.next.new.self) (part_of c.args.reading.codes) c.in-Some.ensures.steps)))

pub loop-other-preserved-in_default-put_line : goal.loop-other-preserved-in_default-put_line
loop-other-preserved-in_default-put_line g t c =
    (tt, tt, sym (try_past (read_lines (lines_of c.next.new.self) (lines_of c.args.to.now)) (lines_of c.loop-other.other-iterator) (line_of c.in-Some.line) _ _ _ c.in-Some-other.ensures.steps (sym c.in_default-put_line.ensures)) ∙ c.loop-other.invariant.2)

pub loop-other-preserved : goal.loop-other-preserved
loop-other-preserved g t c =
    (tt, tt, sym (try_none (read_lines (lines_of c.next.new.self) (lines_of c.args.to.now)) (lines_of c.loop-other.other-iterator) (line_of c.in-Some.line) _ _ _ _ c.in-Some-other.ensures.steps (sym c.in-Some-put_line.ensures) (sym c.can_read_lines.ensures ∙ c.if-can_read_lines.false)) ∙ c.loop-other.invariant.2)

pub returns-then-can_read_lines : goal.returns-then-can_read_lines
returns-then-can_read_lines g t c =
    sym (ap is_some (sym c.loop-other.invariant.2) ∙ try_some (read_lines (lines_of c.next.new.self) (lines_of c.args.to.now)) (lines_of c.loop-other.other-iterator) (line_of c.in-Some.line) _ _ _ _ c.in-Some-other.ensures.steps (sym c.in-Some-put_line.ensures) (sym c.can_read_lines.ensures ∙ c.if-can_read_lines.true))

pub returns : goal.returns
returns g t c =
    sym (ap is_some (sym c.loop-other.invariant.2 ∙ try_end (read_lines (lines_of c.next.new.self) (lines_of c.args.to.now)) (lines_of c.loop-other.other-iterator) (line_of c.in-Some.line) (part_of c.args.reading.codes) c.in-None.ensures.steps.0))

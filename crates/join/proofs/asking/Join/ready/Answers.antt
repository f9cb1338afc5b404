use Rattle.std.proofs.Common.{[], get_or, refl, arith}
use Rattle.join.proofs.Bounds.{line_of, found_known}
use Rattle.join.proofs.asking.Join.ready.Goals as goal

pub returns-then-not-present-clause-no : goal.returns-then-not-present-clause-no
returns-then-not-present-clause-no c e v agree f = c.if-not-present.ensures.no refl
    (found_known c.args.self.now.rows.now (get_or c.args.self.now.lines.now c.loop-line.line-index []) c.args.env.now c.args.k v (c.if-known.ensures.yes refl) agree
    (line_of c.args.self.now.rows.now c.args.self.now.lines.now v f c.loop-line.line-index (omega arith)))

use Rattle.std.proofs.Common.{vec_items}
use Rattle.narrow.proofs.Shortening.{Projecting}
use Rattle.narrow.proofs.projecting.project.Given as goal

abbrev pub invariant-loop-row : goal.invariant-loop-row
invariant-loop-row l = Projecting l.line l.new l.setting.k l.setting.env l.rows l.row-index (vec_items l.out)

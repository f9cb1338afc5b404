use Rattle.std.proofs.Common.{vec_items}
use Rattle.narrow.specs.Joining.{Paired}
use Rattle.narrow.proofs.merging.TwoLines.pair_all.Given as goal

abbrev pub invariant-loop-row : goal.invariant-loop-row
invariant-loop-row l = Paired l.self.first.now l.self.second.now l.self.new.now l.self.setting.now.k l.self.setting.now.env l.rows l.row-index l.keys l.column (vec_items l.out)

use Rattle.std.proofs.Common.{◌-◌, length}
use Rattle.join.proofs.Progress.{Progress}
use Rattle.join.proofs.asking.Join.put_out.Given as goal

abbrev pub invariant-loop-next : goal.invariant-loop-next
invariant-loop-next l =
    Progress (record { rows = l.self.rows.now; lines = l.self.lines.now; k = l.self.setting.now.k; env = l.self.setting.now.env; row = l.row }) l.self.setting.now.shown l.initial.out l.out l.count l.at l.last

abbrev pub decreases-loop-next : goal.decreases-loop-next
decreases-loop-next l = length l.initial.out - l.at

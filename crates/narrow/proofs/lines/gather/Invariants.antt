use Rattle.narrow.proofs.Gathering.{Gathering}
use Rattle.narrow.proofs.lines.gather.Given as goal

abbrev pub invariant-loop-j : goal.invariant-loop-j
invariant-loop-j l = Gathering l.lines l.a l.b l.setting.shown l.setting.k l.j l.w l.new

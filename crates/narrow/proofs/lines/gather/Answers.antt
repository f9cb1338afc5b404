use Rattle.std.proofs.Common.{refl, arith}
use Rattle.narrow.proofs.Gathering.{gather_none, gather-more, gathered}
use Rattle.narrow.proofs.lines.gather.Goals as goal
use Rattle.narrow.proofs.lines.gather.Goals.{then-kept+else-w-ge5, else-kept}

pub loop-j-preserved : goal.loop-j-preserved
loop-j-preserved c = elim c.if-kept.branch [
  | then-kept+else-w-ge5 w ↦ rw (w.new-is, w.w-is)
      (gather-more c.args.lines.now c.args.a c.args.b c.args.setting.now.shown c.args.setting.now.k c.loop-j.j c.loop-j.w c.loop-j.new w.if-w-ge5.false (w.if-kept.ensures.yes refl).0 c.loop-j.invariant)
  | else-kept w ↦ rw (w.new-is, w.w-is)
      (gather_none c.args.lines.now c.args.a c.args.b c.args.setting.now.shown c.args.setting.now.k c.loop-j.j c.loop-j.w c.loop-j.new (w.if-kept.ensures.no refl) c.loop-j.invariant)
]

pub returns : goal.returns
returns c = gathered c.args.lines.now c.args.a c.args.b c.args.setting.now.shown c.args.setting.now.k c.args.setting.now.n c.loop-j.j c.loop-j.w c.loop-j.new c.requires.0 c.requires.1.0 c.requires.1.1 (omega arith) c.loop-j.invariant

use Rattle.std.proofs.Common.{refl, arith}
use Rattle.join.specs.Order.{cells}
use Rattle.join.proofs.Ordering.{all-before}
use Rattle.join.proofs.order.lower.Goals as goal

pub loop-lo-preserved-then-less : goal.loop-lo-preserved-then-less
loop-lo-preserved-then-less c = (omega arith, omega arith, all-before c.args.rows.now _ (cells c.args.key.now) c.requires (omega arith) (c.if-less.ensures.yes refl), c.loop-lo.invariant.3)

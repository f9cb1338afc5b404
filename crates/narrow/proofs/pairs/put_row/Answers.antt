use Rattle.std.proofs.Common.{arith, rules}
use Rattle.join.specs.Order.{cells}
use Rattle.narrow.proofs.Pairing.{putting-none, putting-more}
use Rattle.narrow.proofs.pairs.put_row.Goals as goal
use Rattle.narrow.proofs.pairs.put_row.Goals.{then-s-k, else-s-k}

pub loop-c-preserved : goal.loop-c-preserved
loop-c-preserved c = elim c.if-s-k.branch [
  | then-s-k w ↦ rw w.vals-is (putting-more c.args.line.now (cells c.args.row.now) c.args.k c.loop-c.c c.args.vals.now c.loop-c.vals (search rules) (omega arith) (omega arith) c.loop-c.invariant)
  | else-s-k w ↦ rw w.vals-is (putting-none c.args.line.now (cells c.args.row.now) c.args.k c.loop-c.c c.args.vals.now c.loop-c.vals (omega arith) c.loop-c.invariant)
]

pub returns : goal.returns
returns c = record {
  low = c.loop-c.invariant.low;
  put = λ v g d h. c.loop-c.invariant.put v g d (omega arith);
  stays = c.loop-c.invariant.stays;
}

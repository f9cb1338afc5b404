use Rattle.std.proofs.Common.{vec_items, arith}
use Rattle.join.proofs.Lexical.{sorted-by}
use Rattle.join.proofs.order.put_in_order.Goals as goal

pub returns-clause-sorted : goal.returns-clause-sorted
returns-clause-sorted c = sorted-by (vec_items c.sort_unstable.new.self) (λ k d h g. c.sort_unstable.ensures.sorted k d h (omega (arith, c.sort_unstable.new.self.ok.0)))

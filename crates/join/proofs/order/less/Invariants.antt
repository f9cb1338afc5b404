use Rattle.std.proofs.Common.{◌≡◌, length}
use Rattle.std.specs.Ordering.{is_lt, nat_cmp}
use Rattle.std.specs.Cmp.Lexicographic.{slice_cmp}
use Rattle.std.specs.Iterator.Adapters.{zip_first, zip_second}
use Rattle.std.specs.Slice.Iter.{iter_rest}
use Rattle.join.proofs.order.less.Given as goal

-- what is left of the rows is as long, and tells their order
abbrev pub invariant-loop-x : goal.invariant-loop-x
invariant-loop-x l = (length (iter_rest (zip_first l.x-iterator)) ≡ length (iter_rest (zip_second l.x-iterator)))
    × (is_lt (slice_cmp nat_cmp (iter_rest (zip_first l.x-iterator)) (iter_rest (zip_second l.x-iterator))) ≡ is_lt (slice_cmp nat_cmp l.fn.a l.fn.b))

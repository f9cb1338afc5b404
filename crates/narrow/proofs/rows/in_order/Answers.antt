use Rattle.std.proofs.Common.{vec_items}
use Rattle.std.proofs.lemmas.List.Filters.{dedup_is}
use Rattle.narrow.proofs.Holding.{same_shuffled, same_more}
use Rattle.narrow.proofs.Repeating.{once}
use Rattle.narrow.proofs.rows.in_order.Goals as goal

pub returns : goal.returns
returns c =
    let rows = vec_items c.put_in_order.new.rows in
    let left = vec_items c.dedup.new.self in
    let o = once rows left c.put_in_order.ensures.arrays (dedup_is _ rows left c.dedup.ensures.filtered) in
    (o.0, same_more (vec_items c.args.rows) rows left (same_shuffled (vec_items c.args.rows) rows c.put_in_order.ensures.same) o.1)

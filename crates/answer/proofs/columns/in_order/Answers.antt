use Rattle.std.proofs.Common.{rules, subst, map, length}
use Rattle.std.specs.List.{range_with_len}
use Rattle.std.specs.List.Sorted.{IsPermutation}
use Rattle.std.proofs.lemmas.List.Sorted.{IsNonDecreasingBy-from_sort_by_key}
use Rattle.arrayvec.proofs.ArrayVecLemmas.{items-with_items}
use Rattle.question.specs.Lent.{terms_of}
use Rattle.answer.specs.Terms.{place_in}
use Rattle.answer.specs.Columns.{column_at}
use Rattle.answer.proofs.Ordered.{in_order}
use Rattle.answer.proofs.columns.in_order.Goals as goal

pub returns : goal.returns
returns c =
    let place = place_in c.args.codes.now.list.items in
    let ts = terms_of c.args.terms in
    let s = c.sort_unstable_by_key.ensures in
    let p : IsPermutation (map (column_at place ts) (range_with_len 0 (length ts))) c.sort_unstable_by_key.new.self = subst (λ xs. IsPermutation xs c.sort_unstable_by_key.new.self) c.columns-columns.ensures (subst (λ xs. IsPermutation xs c.sort_unstable_by_key.new.self) c.deref_mut.ensures.value s.permutation) in
    rw (items-with_items c.columns-columns.result c.sort_unstable_by_key.new.self (search rules))
    (in_order place ts c.sort_unstable_by_key.new.self p (IsNonDecreasingBy-from_sort_by_key (λ d. d.slot) _ s.sorted (λ a r q k. search rules)))

use Rattle.std.proofs.Common.{rules, tests, eqb, ap, ◌∙◌}
use Rattle.std.proofs.lemmas.Iterator.{YieldsList-from_slice}
use Rattle.std.proofs.lemmas.Iterator.Search.{position_from_yields_List}
use Rattle.answer.specs.Terms.{first_place}
use Rattle.answer.proofs.Listing.{place-any}
use Rattle.answer.proofs.codes.Codes.slot.Goals as goal

pub returns : goal.returns
returns c =
    let xs = c.args.self.now.list.items in
    let p = position_from_yields_List (λ y. eqb y c.code-code.result) _ _ c.position-place.result c.position-place.ensures.ran (YieldsList-from_slice xs cc) (λ x b q k. search (rules, tests)) in
    c.unwrap_or.ensures ∙ place-any xs c.code-code.result c.len.result c.position-place.result c.len.ensures.value p ∙ ap (first_place xs) c.code-code.ensures.code

use Rattle.std.proofs.Common.{rules, ◌≡◌, length, eqb, ltb, true, false, sym, refl, ◌∙◌}
use Rattle.std.specs.List.{list_any}
use Rattle.answer.specs.Terms.{put_in, first_place}
use Rattle.answer.proofs.Listing.{there-any}
use Rattle.answer.proofs.codes.Codes.put.Goals as goal

pub returns-then-not-contains : goal.returns-then-not-contains
unfolding put_in
returns-then-not-contains c =
    let value : c.contains.result ≡ list_any (λ y. eqb y c.code-code.result) c.args.self.now.list.items = search rules in
    let e : ltb (first_place c.args.self.now.list.items c.code-code.result) (length c.args.self.now.list.items) ≡ false = sym (there-any _ _) ∙ sym value ∙ c.if-not-contains.true in
    rw (← c.code-code.ensures.code, e) c.push.ensures.items

pub returns-else-not-contains : goal.returns-else-not-contains
unfolding put_in
returns-else-not-contains c =
    let value : c.contains.result ≡ list_any (λ y. eqb y c.code-code.result) c.args.self.now.list.items = search rules in
    let e : ltb (first_place c.args.self.now.list.items c.code-code.result) (length c.args.self.now.list.items) ≡ true = sym (there-any _ _) ∙ sym value ∙ c.if-not-contains.false in
    rw (← c.code-code.ensures.code, e) refl

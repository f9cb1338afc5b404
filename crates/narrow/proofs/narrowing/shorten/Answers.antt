use Rattle.std.proofs.Common.{◌≡◌, [], get_or, set, vec_items, refl, ◌∙◌, subst}
use Rattle.std.proofs.lemmas.List.{get_or_default}
use Rattle.narrow.specs.Joining.{Apart, Gathered, Merged}
use Rattle.narrow.proofs.AnswersSame.{left_of_one, narrowed-by}
use Rattle.narrow.proofs.narrowing.shorten.Goals as goal

pub returns : goal.returns
returns c =
    let lines = vec_items c.args.lines.now in
    let rows = c.args.rows.now in
    let more = vec_items c.in_ok-more.more in
    let env = c.args.setting.now.env in
    let k = c.args.setting.now.k in
    let a = c.args.a in
    let new = c.in-Some.new in
    let inside = c.requires.counts.0 in
    let line : c.index.result.now ≡ get_or lines a [] = c.index.ensures ∙ get_or_default lines a c.index.result.now [] inside in
    let g : Gathered lines a a c.args.setting.now.shown k new = subst (λ xs. Gathered xs a a c.args.setting.now.shown k new) c.deref-2.ensures.value c.in-Some.ensures in
    let p : Apart lines a a k env = subst (λ xs. Apart xs a a k env) c.deref.ensures.value (c.if-not-apart.ensures refl) in
    let m : Merged rows (get_or lines a []) (get_or lines a []) new k env more = subst (λ x. Merged rows x x new k env more) line c.in_ok-more.ensures.1 in (
      c.in_ok-more.ensures.0,
      narrowed-by rows lines c.args.setting.now.n c.args.setting.now.shown k env a a new more (set lines a new) inside inside c.args.setting.now.begun c.requires.counts.1 g p m (left_of_one lines a new inside),
    )

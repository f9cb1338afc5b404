use Rattle.std.proofs.Common.{◌≡◌, ◌<◌, [], length, get_or, IfSome, vec_items, sym, refl, ◌∙◌, subst, arith}
use Rattle.std.proofs.lemmas.List.{get_or_default}
use Rattle.join.specs.Order.{Sorted}
use Rattle.join.specs.Slots.{SlotsBelow, slot}
use Rattle.join.specs.FirstValues.{Names}
use Rattle.narrow.specs.Joining.{Apart, Gathered, Merged, WithinBoth}
use Rattle.narrow.proofs.AnswersSame.{left-of-two, narrowed-by, within-below}
use Rattle.narrow.proofs.narrowing.join_two.Goals as goal

pub invariant_of-two : goal.invariant_of-two
invariant_of-two c =
    let lines = vec_items c.args.lines.now in
    let a = c.args.a in
    let b = c.args.b in
    let a_in : a < length lines = omega (arith, c.requires.lines.0, c.requires.lines.1.0) in
    let b-in : b < length lines = c.requires.lines.1.0 in
    let first : c.index.result.now ≡ get_or lines a [] = c.index.ensures ∙ get_or_default lines a c.index.result.now [] a_in in
    let second : c.index-2.result.now ≡ get_or lines b [] = c.index-2.ensures ∙ get_or_default lines b c.index-2.result.now [] b-in in
    let g : Gathered lines a b c.args.setting.now.shown c.args.setting.now.k c.in-Some.new = subst (λ xs. Gathered xs a b c.args.setting.now.shown c.args.setting.now.k c.in-Some.new) c.deref-2.ensures.value c.in-Some.ensures in
    let p : Apart lines a b c.args.setting.now.k c.args.setting.now.env = subst (λ xs. Apart xs a b c.args.setting.now.k c.args.setting.now.env) c.deref.ensures.value (c.if-not-apart.ensures refl) in
    let low-a : SlotsBelow 24 (get_or lines a []) = λ d h. omega (arith, c.requires.counts a a_in d h, c.args.setting.now.few) in
    let low-b : SlotsBelow 24 (get_or lines b []) = λ d h. omega (arith, c.requires.counts b b-in d h, c.args.setting.now.few) in
    record {
      low_first = subst (SlotsBelow 24) (sym first) low-a;
      low_second = subst (SlotsBelow 24) (sym second) low-b;
      low_new = within-below 24 (get_or lines a []) (get_or lines b []) c.in-Some.new low-a low-b g.only;
      within = ∣ subst (λ x. WithinBoth x c.index-2.result.now c.in-Some.new) (sym first) (subst (λ y. WithinBoth (get_or lines a []) y c.in-Some.new) (sym second) g.only) ∣₁;
    }

pub merge-requires : goal.merge-requires
merge-requires c =
    let lines = vec_items c.args.lines.now in
    let a = c.args.a in
    let b = c.args.b in
    let a_in : a < length lines = omega (arith, c.requires.lines.0, c.requires.lines.1.0) in
    let b-in : b < length lines = c.requires.lines.1.0 in
    let first : c.index.result.now ≡ get_or lines a [] = c.index.ensures ∙ get_or_default lines a c.index.result.now [] a_in in
    let second : c.index-2.result.now ≡ get_or lines b [] = c.index-2.ensures ∙ get_or_default lines b c.index-2.result.now [] b-in in
    let g : Gathered lines a b c.args.setting.now.shown c.args.setting.now.k c.in-Some.new = subst (λ xs. Gathered xs a b c.args.setting.now.shown c.args.setting.now.k c.in-Some.new) c.deref-2.ensures.value c.in-Some.ensures in
    let p : Apart lines a b c.args.setting.now.k c.args.setting.now.env = subst (λ xs. Apart xs a b c.args.setting.now.k c.args.setting.now.env) c.deref.ensures.value (c.if-not-apart.ensures refl) in
    let low-a : SlotsBelow 24 (get_or lines a []) = λ d h. omega (arith, c.requires.counts a a_in d h, c.args.setting.now.few) in
    let low-b : SlotsBelow 24 (get_or lines b []) = λ d h. omega (arith, c.requires.counts b b-in d h, c.args.setting.now.few) in (
      subst (λ x. Names x c.args.s) (sym first) c.requires.lines.1.1.0,
      (
        subst (λ x. Names x c.args.s) (sym second) c.requires.lines.1.1.1,
        (subst (λ x. slot x 0 < c.args.setting.now.k) (sym first) p.first, subst (λ x. slot x 0 < c.args.setting.now.k) (sym second) p.second),
      ),
    )

pub returns : goal.returns
returns c =
    let lines = vec_items c.args.lines.now in
    let rows = c.args.rows.now in
    let env = c.args.setting.now.env in
    let k = c.args.setting.now.k in
    let a = c.args.a in
    let b = c.args.b in
    let new = c.in-Some.new in
    let a_in : a < length lines = omega (arith, c.requires.lines.0, c.requires.lines.1.0) in
    let b-in : b < length lines = c.requires.lines.1.0 in
    let first : c.index.result.now ≡ get_or lines a [] = c.index.ensures ∙ get_or_default lines a c.index.result.now [] a_in in
    let second : c.index-2.result.now ≡ get_or lines b [] = c.index-2.ensures ∙ get_or_default lines b c.index-2.result.now [] b-in in
    let g : Gathered lines a b c.args.setting.now.shown k new = subst (λ xs. Gathered xs a b c.args.setting.now.shown k new) c.deref-2.ensures.value c.in-Some.ensures in
    let p : Apart lines a b k env = subst (λ xs. Apart xs a b k env) c.deref.ensures.value (c.if-not-apart.ensures refl) in
    let both : Sorted (vec_items c.in-Some-merged.more) × Merged rows c.index.result.now c.index-2.result.now new k env (vec_items c.in-Some-merged.more) =
    subst (λ o. IfSome o (λ v. Sorted (vec_items v) × Merged rows c.index.result.now c.index-2.result.now new k env (vec_items v))) c.in-Some-merged.is c.in_ok-merged.ensures in
    let m : Merged rows (get_or lines a []) (get_or lines b []) new k env (vec_items c.in-Some-merged.more) =
    subst (λ x. Merged rows (get_or lines a []) x new k env (vec_items c.in-Some-merged.more)) second (subst (λ x. Merged rows x c.index-2.result.now new k env (vec_items c.in-Some-merged.more)) first both.1) in (
      both.0,
      narrowed-by rows lines c.args.setting.now.n c.args.setting.now.shown k env a b new (vec_items c.in-Some-merged.more) (vec_items c.replace.new.lines) a_in b-in c.args.setting.now.begun c.requires.counts g p m
          (left-of-two lines a b new (vec_items c.replace.new.lines) c.requires.lines.0 b-in c.replace.ensures),
    )

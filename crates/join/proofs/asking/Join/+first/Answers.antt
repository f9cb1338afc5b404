use Rattle.std.proofs.Common.{◌≡◌, ℕ, ◌<◌, true, false, is_some, refl, sym, inl, inr, arith}
use Rattle.std.proofs.Math.Logic.{∥∥₁_elim}
use Rattle.std.proofs.lemmas.Bool.{cases_lt}
use Rattle.std.proofs.lemmas.Bool.Decides.{nat_tests}
use Rattle.join.specs.FirstValues.{HasSlot}
use Rattle.join.proofs.Steps.{StillPassing, complete, taken, past, value_small, no_value}
use Rattle.join.proofs.asking.Join.+first.Goals as goal
use Rattle.join.proofs.asking.Join.+first.Goals.{else-is_some-via-then-is_some+else-k-self, else-is_some-via-else-is_some}

pub returns-then-k-self-2 : goal.returns-then-k-self-2
returns-then-k-self-2 t c =
    let s = c.args.self.now in
    let none : is_some c.args.after ≡ false = elim c.else-is_some.branch [
      | else-is_some-via-then-is_some+else-k-self w ↦ absurd (omega (arith, s.inside))
      | else-is_some-via-else-is_some w ↦ sym w.if-is_some.ensures
    ] in
    complete s.rows.now s.lines.now s.setting.now.shown c.args.k c.args.env.now c.args.after (λ i h d g. omega (arith, s.below i h d g)) none (c.if-not-ready.ensures.yes refl) (omega (arith, s.inside))

pub returns-in-Some : goal.returns-in-Some
returns-in-Some t c =
    let s = c.args.self.now in
    let left : is_some c.args.after ≡ true → c.args.k < s.setting.now.shown = λ e. elim c.else-is_some.branch [
      | else-is_some-via-then-is_some+else-k-self w ↦ omega arith
      | else-is_some-via-else-is_some w ↦ absurd (let f = w.if-is_some.ensures in let z : ◌≡◌ {A = ℕ} 0 1 = cc in omega arith)
    ] in
    let still : StillPassing c.args.k c.loop-y.x c.args.after c.filter-still.result = grind (arith, nat_tests, c.filter-still.ensures) in
    taken s.rows.now s.lines.now s.setting.now.shown c.args.k c.args.env.now c.args.after c.loop-y.x (omega (arith, s.setting.now.few)) c.filter-still.result still c.loop-y.invariant c.in-Some.found left c.requires.values.1 c.in-Some.ensures

pub returns-then-spare : goal.returns-then-spare
returns-then-spare t c =
    let s = c.args.self.now in
    let still : StillPassing c.args.k c.loop-y.x c.args.after c.filter-still.result = grind (arith, nat_tests, c.filter-still.ensures) in
    let next = past s.rows.now s.lines.now s.setting.now.shown c.args.k c.args.env.now c.args.after c.loop-y.x (omega (arith, s.setting.now.few)) c.filter-still.result still c.loop-y.invariant c.in_default.ensures in
    no_value s.rows.now s.lines.now s.setting.now.shown c.args.k c.args.env.now c.args.after c.loop-y.x (c.if-spare.ensures.yes refl).0 (c.if-spare.ensures.yes refl).1 next.low

pub returns-in_err-x : goal.returns-in_err-x
returns-in_err-x t c =
    let s = c.args.self.now in
    let still : StillPassing c.args.k c.loop-y.x c.args.after c.filter-still.result = grind (arith, nat_tests, c.filter-still.ensures) in
    let next = past s.rows.now s.lines.now s.setting.now.shown c.args.k c.args.env.now c.args.after c.loop-y.x (omega (arith, s.setting.now.few)) c.filter-still.result still c.loop-y.invariant c.in_default.ensures in
    rw c.from_residual-in_err-x.ensures (λ v w. ∥∥₁_elim s.covered (λ x. absurd x) (λ covered.
    let named : HasSlot s.lines.now c.args.k = elim (cases_lt c.args.k s.setting.now.shown) [ inl g ↦ covered c.args.k (omega arith) g | inr g ↦ c.if-spare.ensures.no refl g ] in
    let small = value_small s.rows.now s.lines.now c.args.k v c.requires.small named w.stand in
    c.in_err-x.ensures (omega (arith, small, next.low v w))))

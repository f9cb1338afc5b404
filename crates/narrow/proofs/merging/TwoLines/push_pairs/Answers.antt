use Rattle.std.proofs.Common.{◌≡◌, ◌+◌, ◌<◌, ◌≤◌, get_or, vec_items, refl, inl, inr, arith}
use Rattle.std.proofs.lemmas.Bool.{cases_lt}
use Rattle.join.specs.Order.{cells, row_at}
use Rattle.narrow.proofs.Matching.{matched-so, matched-more, number-from, number-to}
use Rattle.narrow.proofs.merging.TwoLines.push_pairs.Goals as goal

pub returns-then-keys-p : goal.returns-then-keys-p
returns-then-keys-p c _ =
    let x = get_or c.args.row.now c.args.column 0 in
    matched-so c.args.self.now.first.now c.args.self.now.second.now c.args.self.now.new.now c.args.self.now.setting.now.k c.args.self.now.setting.now.env (cells c.args.row.now) c.args.keys.now
    (λ q. (c.lower-start.result ≤ q) × (q < c.loop-p.p)) (λ q. row_at c.args.keys.now q 0 ≡ x) (vec_items c.args.out.now) (vec_items c.loop-p.out) c.loop-p.invariant
    (λ q h e. (
      number-from c.args.self.now.first.now c.args.self.now.second.now c.args.self.now.new.now c.args.self.now.setting.now.k c.args.self.now.setting.now.env (cells c.args.row.now) c.args.keys.now x c.lower-start.result c.loop-p.p c.requires.0 c.lower-start.ensures.below (λ _. c.if-keys-p.true) q h e,
      number-to c.args.self.now.first.now c.args.self.now.second.now c.args.self.now.new.now c.args.self.now.setting.now.k c.args.self.now.setting.now.env (cells c.args.row.now) c.args.keys.now x c.lower-start.result c.loop-p.p c.requires.0 c.lower-start.ensures.below (λ _. c.if-keys-p.true) q h e,
    ))

pub loop-p-preserved : goal.loop-p-preserved
loop-p-preserved c =
    matched-more c.args.self.now.first.now c.args.self.now.second.now c.args.self.now.new.now c.args.self.now.setting.now.k c.args.self.now.setting.now.env (cells c.args.row.now) c.args.keys.now
    (λ q. (c.lower-start.result ≤ q) × (q < c.loop-p.p)) (λ q. q ≡ c.loop-p.p) (λ q. (c.lower-start.result ≤ q) × (q < c.loop-p.p + 1))
    (vec_items c.args.out.now) (vec_items c.loop-p.out) (vec_items c.push_pair.new.out) c.loop-p.invariant (c.in_ok-push_pair.ensures refl)
    (λ q h a. elim (cases_lt q c.loop-p.p) [ inl l ↦ inl (a.0, l) | inr l ↦ inr (omega (arith, a.1)) ])

pub returns : goal.returns
returns c _ =
    let x = get_or c.args.row.now c.args.column 0 in
    matched-so c.args.self.now.first.now c.args.self.now.second.now c.args.self.now.new.now c.args.self.now.setting.now.k c.args.self.now.setting.now.env (cells c.args.row.now) c.args.keys.now
    (λ q. (c.lower-start.result ≤ q) × (q < c.loop-p.p)) (λ q. row_at c.args.keys.now q 0 ≡ x) (vec_items c.args.out.now) (vec_items c.loop-p.out) c.loop-p.invariant
    (λ q h e. (
      number-from c.args.self.now.first.now c.args.self.now.second.now c.args.self.now.new.now c.args.self.now.setting.now.k c.args.self.now.setting.now.env (cells c.args.row.now) c.args.keys.now x c.lower-start.result c.loop-p.p c.requires.0 c.lower-start.ensures.below (λ l. absurd (omega arith)) q h e,
      omega arith,
    ))

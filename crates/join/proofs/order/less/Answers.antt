use Rattle.std.proofs.Common.{false, length, ltb, ap, ◌∙◌, arith}
use Rattle.std.proofs.lemmas.Slice.Zip.{Zip-more, either_empty_from_Zip}
use Rattle.std.specs.Iterator.Adapters.{zip_first, zip_second}
use Rattle.std.specs.Slice.Iter.{iter_rest}
use Rattle.join.proofs.Lexical.{at-end, by-heads, by-tails, tells}
use Rattle.join.proofs.order.less.Goals as goal

pub returns-then-x-y : goal.returns-then-x-y
returns-then-x-y c =
    let s = c.loop-x.x-iterator in
    let t = c.next.new.self in
    let m = Zip-more s t c.next.result (c.in-Some.x, c.in-Some.y) c.in-Some.is c.next.ensures.steps in
    let t = tells 5 c.args.a.now c.args.b.now (ltb c.in-Some.x.now c.in-Some.y.now) c.told-a c.told-b
    (by-heads (iter_rest (zip_first s)) (iter_rest (zip_second s)) (iter_rest (zip_first t)) (iter_rest (zip_second t)) c.in-Some.x.now c.in-Some.y.now m.0 m.1 c.if-x-y.true ∙ c.loop-x.invariant.1) in
    record { yes = t.0; no = t.1 }

pub loop-x-preserved : goal.loop-x-preserved
loop-x-preserved c =
    let s = c.loop-x.x-iterator in
    let t = c.next.new.self in
    let m = Zip-more s t c.next.result (c.in-Some.x, c.in-Some.y) c.in-Some.is c.next.ensures.steps in (
      omega (arith, c.loop-x.invariant.0, ap length m.0, ap length m.1),
      by-tails (iter_rest (zip_first s)) (iter_rest (zip_second s)) (iter_rest (zip_first t)) (iter_rest (zip_second t)) c.in-Some.x.now c.in-Some.y.now m.0 m.1 c.if-x-y.false ∙ c.loop-x.invariant.1,
    )

pub returns : goal.returns
returns c =
    let s = c.loop-x.x-iterator in
    let t = tells 5 c.args.a.now c.args.b.now false c.told-a c.told-b
    (at-end (iter_rest (zip_first s)) (iter_rest (zip_second s)) c.loop-x.invariant.0 (either_empty_from_Zip s c.next.new.self c.next.result c.in-None.is c.next.ensures.steps) ∙ c.loop-x.invariant.1) in
    record { yes = t.0; no = t.1 }

use Rattle.std.proofs.Common.{vec_items, Ok, Err}
use Rattle.answer.specs.Planning.{plan_in}
use Rattle.answer.proofs.Narrowing.{still-joined, put-same}
use Rattle.answer.proofs.answering.put_rows.Goals as goal

pub invariant_of-join : goal.invariant_of-join
invariant_of-join c =
    let s = still-joined (plan_in c.args.plan.now) c.requires (vec_items c.args.rows) (vec_items c.in_ok-left.left) (vec_items c.narrow.new.lines) (vec_items c.in_ok-lines.lines) c.in_ok-lines.ensures c.in_ok-left.ensures.1
    c.deref.result.now c.deref-2.result.now c.deref.ensures.value c.deref-2.ensures.value c.in_ok-left.ensures.0 in
    record { sorted = s.0; below = s.1; covered = ∣ s.2 ∣₁; inside = c.requires.shown_n; blank = c.requires.blank }

pub returns-in-Ok : goal.returns-in-Ok
returns-in-Ok c =
    put-same (plan_in c.args.plan.now) c.requires (vec_items c.args.rows) (vec_items c.in_ok-left.left) (vec_items c.narrow.new.lines) (vec_items c.in_ok-lines.lines) c.in_ok-lines.ensures c.in_ok-left.ensures.1
    c.deref.result.now c.deref-2.result.now c.deref-3.result.now c.deref.ensures.value c.deref-2.ensures.value c.deref-3.ensures.0 c.args.out.now c.put_out.new.out (Ok c.in-Ok.count) c.in-Ok.ensures

pub returns : goal.returns
returns c =
    put-same (plan_in c.args.plan.now) c.requires (vec_items c.args.rows) (vec_items c.in_ok-left.left) (vec_items c.narrow.new.lines) (vec_items c.in_ok-lines.lines) c.in_ok-lines.ensures c.in_ok-left.ensures.1
    c.deref.result.now c.deref-2.result.now c.deref-3.result.now c.deref.ensures.value c.deref-2.ensures.value c.deref-3.ensures.0 c.args.out.now c.put_out.new.out (Err c.in-Err.field-0) c.in-Err.ensures

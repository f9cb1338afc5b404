use Rattle.std.proofs.Common.{arith, map, length, refl, ap, sym, ◌∙◌}
use Rattle.question.specs.Lent.{question_of}
use Rattle.question.proofs.Accepted.{allowed}
use Rattle.answer.specs.Plan.{Plan}
use Rattle.answer.specs.Columns.{orders_of}
use Rattle.answer.proofs.Listing.{put-room}
use Rattle.answer.proofs.Gathering.{codes_few}
use Rattle.answer.proofs.Placing.{Listed, listed-few}
use Rattle.answer.proofs.Planner.{Made, planned, joinable, ascending}
use Rattle.answer.proofs.plan.SlotPlan.of.Goals as goal

pub put_terms-requires : goal.put_terms-requires
put_terms-requires c =
    let f = codes_few (question_of c.args.question.now) (allowed _ c.args.question.now.asked) in
    rw (c.row-row.ensures.row, c.line_numbers-codes.ensures) (omega (arith, f))

pub put_lines-requires : goal.put_lines-requires
put_lines-requires c =
    let f = codes_few (question_of c.args.question.now) (allowed _ c.args.question.now.asked) in
    let one = rw (c.row-row.ensures.row, c.line_numbers-codes.ensures) at (put-room _ _ _ c.put_terms.ensures) in
    rw c.lines-lines.ensures.lines (omega (arith, f, one))

pub put_terms-requires-2 : goal.put_terms-requires-2
put_terms-requires-2 c =
    let f = codes_few (question_of c.args.question.now) (allowed _ c.args.question.now.asked) in
    let one = rw (c.row-row.ensures.row, c.line_numbers-codes.ensures) at (put-room _ _ _ c.put_terms.ensures) in
    let two = rw c.lines-lines.ensures.lines at (put-room _ _ _ c.put_lines.ensures) in
    rw c.row-row.ensures.row (omega (arith, f, one, two))

pub put_lines-requires-2 : goal.put_lines-requires-2
put_lines-requires-2 c =
    let f = codes_few (question_of c.args.question.now) (allowed _ c.args.question.now.asked) in
    let one = rw (c.row-row.ensures.row, c.line_numbers-codes.ensures) at (put-room _ _ _ c.put_terms.ensures) in
    let two = rw c.lines-lines.ensures.lines at (put-room _ _ _ c.put_lines.ensures) in
    let three = rw c.row-row.ensures.row at (put-room _ _ _ c.put_terms-2.ensures) in
    rw c.lines-lines.ensures.lines (omega (arith, f, one, two, three))

pub invariant_of-setting : goal.invariant_of-setting
invariant_of-setting c =
    let q = question_of c.args.question.now in
    let listed : Listed q c.put_lines.new.self.list.items c.put_terms-2.new.self.list.items c.put_lines-2.new.self.list.items = record {
      numbers = rw (c.lines-lines.ensures.lines, c.put_terms.ensures, c.row-row.ensures.row, c.line_numbers-codes.ensures) at c.put_lines.ensures;
      row = rw c.row-row.ensures.row at c.put_terms-2.ensures;
      lines = rw c.lines-lines.ensures.lines at c.put_lines-2.ensures;
    } in
    let few = listed-few q (allowed _ c.args.question.now.asked) _ _ _ listed in
    record { few = omega (arith, few, c.count-n.ensures); begun = omega (arith, few, c.count-k.ensures, c.count-shown.ensures) }

pub returns : goal.returns
returns c =
    let q = question_of c.args.question.now in
    let a = allowed _ c.args.question.now.asked in
    let known = c.put_lines.new.self.list.items in
    let shown = c.put_terms-2.new.self.list.items in
    let all = c.put_lines-2.new.self.list.items in
    let lines = c.planned_lines.result.items in
    let listed : Listed q known shown all = record {
      numbers = rw (c.lines-lines.ensures.lines, c.put_terms.ensures, c.row-row.ensures.row, c.line_numbers-codes.ensures) at c.put_lines.ensures;
      row = rw c.row-row.ensures.row at c.put_terms-2.ensures;
      lines = rw c.lines-lines.ensures.lines at c.put_lines-2.ensures;
    } in
    let p : Plan = record { k = c.count-k.result; shown = c.count-shown.result; n = c.count-n.result; env = c.values-env.result; lines = map (λ l. l.slots) lines; row = c.row_slots.result.items; cols = orders_of lines } in
    let made : Made q p known shown all lines = record {
      listed = listed;
      k_is = sym c.count-k.ensures;
      shown_is = sym c.count-shown.ensures;
      n_is = sym c.count-n.ensures;
      room = omega (arith, listed-few q a _ _ _ listed, c.count-n.ensures);
      values = rw (← c.count-k.ensures) at c.values-env.ensures.values;
      blank = rw (← c.count-k.ensures) at c.values-env.ensures.blank;
      row_is = rw c.row-row.ensures.row at c.row_slots.ensures;
      many = c.planned_lines.ensures.long ∙ ap length c.lines-lines.ensures.lines;
      lines_are = refl;
      cols_are = refl;
      each = rw c.lines-lines.ensures.lines at c.planned_lines.ensures.each;
    } in
    record {
      planned = planned q a p known shown all lines made;
      many = made.many;
      orders = λ i d h. (let l = made.each i d h in (l.long, l.order.columns.inside));
      joinable = joinable q a p known shown all lines made;
      ascending = ascending q a p known shown all lines made;
    }

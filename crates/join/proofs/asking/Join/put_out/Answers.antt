use Rattle.std.proofs.Common.{arith, rules}
use Rattle.std.specs.Bool.{⊤}
use Rattle.std.proofs.lemmas.Bool.Decides.{nat_tests}
use Rattle.join.specs.RowsOut.{Asked}
use Rattle.join.proofs.Progress.{all-out, empty-out, later-from, later-to, no_room, put-more, small-by}
use Rattle.join.proofs.Steps.{later}
use Rattle.join.proofs.asking.Join.put_out.Goals as goal

pub first-answered-requires-clause-small : goal.first-answered-requires-clause-small
first-answered-requires-clause-small c = small-by c.args.self.now.rows.now c.as_flattened.result.now c.as_flattened.ensures.value c.all_small.ensures

pub first-requires-clause-small : goal.first-requires-clause-small
first-requires-clause-small c = small-by c.args.self.now.rows.now c.as_flattened.result.now c.as_flattened.ensures.value c.all_small.ensures

pub returns-then-out-at : goal.returns-then-out-at
returns-then-out-at c =
    let s = c.args.self.now in
    let q : Asked = record { rows = s.rows.now; lines = s.lines.now; k = s.setting.now.k; env = s.setting.now.env; row = c.args.row.now } in
    no_room q s.setting.now.shown c.args.out.now (grind (arith, nat_tests, c.if-is_empty.ensures)) c.requires.asked.0 c.requires.asked.1 c.loop-next.out c.loop-next.count c.loop-next.at c.loop-next.last c.loop-next.invariant
    (later s.setting.now.shown c.as_ref.result) (later-from s.setting.now.shown c.loop-next.last c.as_ref.result c.as_ref.ensures.value) (later-to s.setting.now.shown c.loop-next.last c.as_ref.result c.as_ref.ensures.value)
    c.in-Some.next c.in-Some.ensures (omega (arith, c.loop-next.invariant.room))

pub loop-next-preserved : goal.loop-next-preserved
loop-next-preserved c =
    let s = c.args.self.now in
    let q : Asked = record { rows = s.rows.now; lines = s.lines.now; k = s.setting.now.k; env = s.setting.now.env; row = c.args.row.now } in
    put-more q s.setting.now.shown c.args.out.now (grind (arith, nat_tests, c.if-is_empty.ensures)) c.requires.asked.0 c.requires.asked.1 c.loop-next.out c.loop-next.count c.loop-next.at c.loop-next.last c.loop-next.invariant
    (later s.setting.now.shown c.as_ref.result) (later-from s.setting.now.shown c.loop-next.last c.as_ref.result c.as_ref.ensures.value) (later-to s.setting.now.shown c.loop-next.last c.as_ref.result c.as_ref.ensures.value)
    c.in-Some.next c.in-Some.ensures c.put_row.new.out (search rules) c.put_row.ensures.put c.put_row.ensures.before c.put_row.ensures.behind

pub returns : goal.returns
returns c =
    let s = c.args.self.now in
    let q : Asked = record { rows = s.rows.now; lines = s.lines.now; k = s.setting.now.k; env = s.setting.now.env; row = c.args.row.now } in
    all-out q s.setting.now.shown c.args.out.now (grind (arith, nat_tests, c.if-is_empty.ensures)) c.requires.asked.0 c.requires.asked.1 c.loop-next.out c.loop-next.count c.loop-next.at c.loop-next.last c.loop-next.invariant
    (later s.setting.now.shown c.as_ref.result) (later-from s.setting.now.shown c.loop-next.last c.as_ref.result c.as_ref.ensures.value) (later-to s.setting.now.shown c.loop-next.last c.as_ref.result c.as_ref.ensures.value) c.in_default.ensures

pub returns-then-is_empty : goal.returns-then-is_empty
returns-then-is_empty c =
    let s = c.args.self.now in
    let q : Asked = record { rows = s.rows.now; lines = s.lines.now; k = s.setting.now.k; env = s.setting.now.env; row = c.args.row.now } in
    empty-out q s.setting.now.shown c.args.out.now (λ _. ⊤) (λ _. tt) (grind (arith, nat_tests, c.if-is_empty.ensures)) c.first-answered.result c.first-answered.ensures c.from.result c.is_some.result c.is_some.ensures c.from.ensures

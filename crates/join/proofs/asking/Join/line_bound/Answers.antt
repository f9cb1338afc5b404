use Rattle.std.proofs.Common.{◌≡◌, ◌<◌, [], length, get_or, sym, ap, ◌∙◌, arith}
use Rattle.std.proofs.lemmas.Bool.Decides.{nat_tests}
use Rattle.std.proofs.lemmas.List.{get_or_default}
use Rattle.join.proofs.Bounds.{key_at, not-past, next_le, next-same}
use Rattle.join.proofs.asking.Join.line_bound.Goals as goal

pub returns-in_err-row : goal.returns-in_err-row
returns-in_err-row c = rw c.from_residual.ensures (λ v agree up f.
    let h = not-past c.args.self.now.rows.now c.args.line.now c.args.env.now c.row_under-key.result
    (key_at c.args.line.now c.args.env.now c.row_under-key.result c.row_under-key.ensures) c.args.k v c.requires.slots.1 agree up f c.lower.result c.lower.ensures.below in
    let n = f.inside in
    grind (arith, nat_tests, c.in_err-row.ensures.lookup, n))

pub returns-then-s-k-2 : goal.returns-then-s-k-2
returns-then-s-k-2 c v agree up f =
    let in_rows : c.lower.result < length c.args.self.now.rows.now = grind (arith, nat_tests, c.in_ok-row.ensures.lookup.0) in
    let e : c.in_ok-row.row.now ≡ get_or c.args.self.now.rows.now c.lower.result [] = c.in_ok-row.ensures.lookup.1 ∙ get_or_default c.args.self.now.rows.now c.lower.result c.in_ok-row.row.now [] in_rows in
    rw e (rw c.if-s-k-2.true at (next_le c.args.self.now.rows.now c.args.line.now c.args.env.now c.row_under-key.result
    (key_at c.args.line.now c.args.env.now c.row_under-key.result c.row_under-key.ensures) c.args.k v c.requires.slots.1 agree up f c.lower.result c.lower.ensures.below
    c.args.self.now.sorted c.loop-c.c (omega arith) (λ i h. let p = c.loop-c.invariant i h in (p.0, ap (λ xs. get_or xs i 0) (sym e) ∙ p.1))))

pub returns-then-row-c : goal.returns-then-row-c
returns-then-row-c c v agree up f =
    let in_rows : c.lower.result < length c.args.self.now.rows.now = grind (arith, nat_tests, c.in_ok-row.ensures.lookup.0) in
    let e : c.in_ok-row.row.now ≡ get_or c.args.self.now.rows.now c.lower.result [] = c.in_ok-row.ensures.lookup.1 ∙ get_or_default c.args.self.now.rows.now c.lower.result c.in_ok-row.row.now [] in_rows in
    c.if-row-c.true (ap (λ xs. get_or xs c.loop-c.c 0) e ∙ next-same c.args.self.now.rows.now c.args.line.now c.args.env.now c.row_under-key.result
    (key_at c.args.line.now c.args.env.now c.row_under-key.result c.row_under-key.ensures) c.args.k v c.requires.slots.1 agree up f c.lower.result c.lower.ensures.below
    c.args.self.now.sorted c.loop-c.c (omega arith) (λ i h. let p = c.loop-c.invariant i h in (p.0, ap (λ xs. get_or xs i 0) (sym e) ∙ p.1)) (omega arith) (c.lower.ensures.from in_rows))

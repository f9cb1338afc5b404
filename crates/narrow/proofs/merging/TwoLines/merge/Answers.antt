use Rattle.std.proofs.Common.{IfSome, vec_items, refl, subst}
use Rattle.narrow.specs.Joining.{Joined}
use Rattle.narrow.proofs.Matching.{merged_by}
use Rattle.narrow.proofs.merging.TwoLines.merge.Goals as goal

pub returns : goal.returns
returns c =
    let rows = c.args.rows.now in
    let first = c.args.self.now.first.now in
    let second = c.args.self.now.second.now in
    let new = c.args.self.now.new.now in
    let k = c.args.self.now.setting.now.k in
    let env = c.args.self.now.setting.now.env in
    let j : Joined rows first second new k env (vec_items c.in-Some.out) = subst (λ o. IfSome o (λ v. Joined rows first second new k env (vec_items v))) c.in-Some.is c.in_ok-out.ensures in (
      c.in_order.ensures.0,
      merged_by rows first second new k env (vec_items c.in-Some.out) (vec_items c.push_others.new.out) (vec_items c.in_order.result) j (c.in_ok-push_others.ensures refl) c.in_order.ensures.1,
    )

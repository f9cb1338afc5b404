use Rattle.std.proofs.Common.{length, IfSome, vec_items, sym, ◌∙◌, subst}
use Rattle.std.proofs.lemmas.Result.{IfOk-weaker}
use Rattle.join.specs.Order.{Sorted}
use Rattle.narrow.specs.Rows.{Keyed}
use Rattle.narrow.specs.Joining.{Joined, Paired, number}
use Rattle.narrow.proofs.Matching.{joined_by, some_so}
use Rattle.narrow.proofs.merging.TwoLines.joined.Goals as goal

pub pair_all-requires : goal.pair_all-requires
pair_all-requires c = (subst Sorted (sym c.deref.ensures.value) c.in_ok-keys.ensures.0, c.column_of-2.ensures.0)

pub returns : goal.returns
returns c =
    let rows = c.args.rows.now in
    let first = c.args.self.now.first.now in
    let second = c.args.self.now.second.now in
    let new = c.args.self.now.new.now in
    let k = c.args.self.now.setting.now.k in
    let env = c.args.self.now.setting.now.env in
    let keys = c.deref.result.now in
    let keyed : Keyed rows (number env second) c.column_of.result keys = subst (Keyed rows (number env second) c.column_of.result) (sym c.deref.ensures.value) c.in_ok-keys.ensures.1 in
    IfOk-weaker c.pair_all.result (λ o. IfSome o (λ v. Paired first second new k env rows (length rows) keys c.column_of-2.result (vec_items v))) (λ o. IfSome o (λ v. Joined rows first second new k env (vec_items v)))
    (λ o. some_so o (λ v. Paired first second new k env rows (length rows) keys c.column_of-2.result (vec_items v)) (λ v. Joined rows first second new k env (vec_items v))
    (λ v p. joined_by first second new k env rows keys c.column_of-2.result c.column_of.result (vec_items v) c.requires.1.1.0 c.requires.1.1.1 c.column_of-2.ensures.0 c.column_of.ensures.0
    (c.column_of-2.ensures.1 ∙ sym c.column_of.ensures.1) keyed p))
    c.pair_all.ensures

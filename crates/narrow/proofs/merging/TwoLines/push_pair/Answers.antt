use Rattle.std.proofs.Common.{◌≡◌, vec_items, sym, subst}
use Rattle.join.specs.Order.{cells}
use Rattle.narrow.specs.Joining.{Matched}
use Rattle.narrow.proofs.Matching.{matched-none, matched-one}
use Rattle.narrow.proofs.merging.TwoLines.push_pair.Goals as goal

pub row_under-requires : goal.row_under-requires
row_under-requires c = c.args.self.now.low_new

pub returns-in_ok-push : goal.returns-in_ok-push
returns-in_ok-push c _ =
    subst (Matched c.args.self.now.first.now c.args.self.now.second.now c.args.self.now.new.now c.args.self.now.setting.now.k c.args.self.now.setting.now.env (cells c.args.row.now) c.args.keys.now (λ q. q ≡ c.args.p) (vec_items c.args.out.now))
    (sym c.in_ok-push.ensures.items)
    (matched-one c.args.self.now.first.now c.args.self.now.second.now c.args.self.now.new.now c.args.self.now.setting.now.k c.args.self.now.setting.now.env (cells c.args.row.now) c.args.keys.now c.args.p c.requires
    (cells c.numbered-other.result) c.numbered-other.ensures (vec_items c.args.out.now) c.in-Some.vals c.row_under.result c.in-Some.ensures c.args.self.now.within c.row_under.ensures)

pub returns-in_default : goal.returns-in_default
returns-in_default c _ =
    matched-none c.args.self.now.first.now c.args.self.now.second.now c.args.self.now.new.now c.args.self.now.setting.now.k c.args.self.now.setting.now.env (cells c.args.row.now) c.args.keys.now c.args.p c.requires
    (cells c.numbered-other.result) c.numbered-other.ensures (vec_items c.args.out.now) c.in_default.ensures

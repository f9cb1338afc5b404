use Rattle.std.proofs.Common.{vec_items, sym, subst}
use Rattle.join.specs.Order.{cells}
use Rattle.narrow.specs.Joining.{Shortened}
use Rattle.narrow.proofs.Shortening.{shortened-none, shortened-one}
use Rattle.narrow.proofs.projecting.push_shortened.Goals as goal

pub row_under-requires : goal.row_under-requires
row_under-requires c = c.requires.1.0

pub returns-in_ok-push : goal.returns-in_ok-push
returns-in_ok-push c _ =
    subst (Shortened c.args.line.now c.args.new.now c.args.setting.now.k c.args.setting.now.env (cells c.args.row.now) (vec_items c.args.out.now)) (sym c.in_ok-push.ensures.items)
    (shortened-one c.args.line.now c.args.new.now c.args.setting.now.k c.args.setting.now.env (cells c.args.row.now) (vec_items c.args.out.now) c.in-Some.vals c.row_under.result c.in-Some.ensures c.requires.1.1 c.row_under.ensures)

pub returns-in_default : goal.returns-in_default
returns-in_default c _ = shortened-none c.args.line.now c.args.new.now c.args.setting.now.k c.args.setting.now.env (cells c.args.row.now) (vec_items c.args.out.now) c.in_default.ensures

use Rattle.std.proofs.Common.{refl}
use Rattle.join.specs.Order.{cells}
use Rattle.narrow.proofs.Pairing.{Putting, pair-first, pair-second, pair_found}
use Rattle.narrow.proofs.pairs.pair.Goals as goal

pub put_row-requires : goal.put_row-requires
put_row-requires c = c.requires.0

pub put_row-requires-2 : goal.put_row-requires-2
put_row-requires-2 c = c.requires.1

pub fits-requires : goal.fits-requires
fits-requires c = c.requires.0

pub returns-then-not-fits : goal.returns-then-not-fits
returns-then-not-fits c v w =
    let f = cells c.args.row.now in
    let g = cells c.args.other.now in
    let p : Putting c.args.first.now f c.args.setting.now.k 5 c.args.setting.now.env c.put_row.new.vals = record { low = c.put_row.ensures.low; put = c.put_row.ensures.put; stays = c.put_row.ensures.stays } in
    let q : Putting c.args.second.now g c.args.setting.now.k 5 c.put_row.new.vals c.put_row-2.new.vals = record { low = c.put_row-2.ensures.low; put = c.put_row-2.ensures.put; stays = c.put_row-2.ensures.stays } in
    c.if-not-fits.ensures.no refl (pair-first c.args.first.now c.args.second.now f g c.args.setting.now.k c.args.setting.now.env c.put_row.new.vals c.put_row-2.new.vals p q v w)

pub fits-requires-2 : goal.fits-requires-2
fits-requires-2 c = c.requires.1

pub returns-then-not-fits-2 : goal.returns-then-not-fits-2
returns-then-not-fits-2 c v w =
    let f = cells c.args.row.now in
    let g = cells c.args.other.now in
    let p : Putting c.args.first.now f c.args.setting.now.k 5 c.args.setting.now.env c.put_row.new.vals = record { low = c.put_row.ensures.low; put = c.put_row.ensures.put; stays = c.put_row.ensures.stays } in
    let q : Putting c.args.second.now g c.args.setting.now.k 5 c.put_row.new.vals c.put_row-2.new.vals = record { low = c.put_row-2.ensures.low; put = c.put_row-2.ensures.put; stays = c.put_row-2.ensures.stays } in
    c.if-not-fits-2.ensures.no refl (pair-second c.args.first.now c.args.second.now f g c.args.setting.now.k c.args.setting.now.env c.put_row.new.vals c.put_row-2.new.vals p q v w)

pub returns : goal.returns
returns c =
    let f = cells c.args.row.now in
    let g = cells c.args.other.now in
    let p : Putting c.args.first.now f c.args.setting.now.k 5 c.args.setting.now.env c.put_row.new.vals = record { low = c.put_row.ensures.low; put = c.put_row.ensures.put; stays = c.put_row.ensures.stays } in
    let q : Putting c.args.second.now g c.args.setting.now.k 5 c.put_row.new.vals c.put_row-2.new.vals = record { low = c.put_row-2.ensures.low; put = c.put_row-2.ensures.put; stays = c.put_row-2.ensures.stays } in
    pair_found c.args.first.now c.args.second.now f g c.args.setting.now.k c.args.setting.now.env c.put_row.new.vals c.put_row-2.new.vals p q (c.if-not-fits.ensures.yes refl) (c.if-not-fits-2.ensures.yes refl)

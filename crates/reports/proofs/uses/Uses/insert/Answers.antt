use Rattle.std.proofs.Common.{◌≡◌, ◌+◌, map, set, take, sym, ap, ◌∙◌, subst, arith}
use Rattle.std.specs.List.{insert}
use Rattle.std.proofs.lemmas.List.{length-set}
use Rattle.question.specs.Layout.{line_in}
use Rattle.reports.proofs.Kept.{AreKept, kept_count, kept, are_kept, moved_up}
use Rattle.reports.proofs.uses.Uses.insert.Goals as goal

pub invariant_of-self : goal.invariant_of-self
invariant_of-self c =
    let u = c.args.self.now in
    let place = c.args.place in
    let line = c.args.line in
    let xs = take u.count u.lines in
    let n = kept_count u in
    let e : take (u.count + 1) (set c.copy_within.new.self place line) ≡ insert xs place line = moved_up u.lines _ place u.count line c.requires.place (omega (arith, u.room)) c.copy_within.ensures.after in
    let k : AreKept (take (u.count + 1) (set c.copy_within.new.self place line))
    = subst AreKept (sym e) (are_kept xs line place (kept u) (record { fits = c.requires.fits; written = c.requires.written }) (omega (arith, n, c.requires.place)) (omega (arith, n)) (omega arith) c.requires.belongs) in
    record { few = omega arith; room = length-set c.copy_within.new.self place line ∙ c.copy_within.ensures.len ∙ u.room; fit = k.fit; written = k.written; in_order = k.in_order }

pub returns : goal.returns
returns c =
    let u = c.args.self.now in
    ap (map line_in) (moved_up u.lines _ c.args.place u.count c.args.line c.requires.place (omega (arith, u.room)) c.copy_within.ensures.after) ∙ sym c.requires.belongs

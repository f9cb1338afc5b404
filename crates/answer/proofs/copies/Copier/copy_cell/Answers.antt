use Rattle.std.proofs.Common.{arith, get_or, ap, sym, ◌∙◌}
use Rattle.std.proofs.lemmas.List.{get_or-map}
use Rattle.answer.proofs.Ordered.{no_column}
use Rattle.answer.proofs.Copying.{copied-cell, copied_zero}
use Rattle.answer.proofs.copies.Copier.copy_cell.Goals as goal

pub offset_bounds-row-place : goal.offset_bounds-row-place
offset_bounds-row-place c =
    let found = c.in-Some.ensures.lookup.3 in
    let fits = c.args.self.now.fits in
    let within = fits.1 c.args.c (omega (arith, found.0, fits.0)) in
    let is = ap (λ k. k.place) (found.1 no_column) ∙ sym (get_or-map (λ k. k.place) c.args.self.now.columns.now c.args.c no_column 0 found.0) in
    omega (arith, is, within, fits.0, c.args.self.now.few)

pub bounds-row-place : goal.bounds-row-place
bounds-row-place c =
    let found = c.in-Some.ensures.lookup.3 in
    let fits = c.args.self.now.fits in
    let within = fits.1 c.args.c (omega (arith, found.0, fits.0)) in
    let is = ap (λ k. k.place) (found.1 no_column) ∙ sym (get_or-map (λ k. k.place) c.args.self.now.columns.now c.args.c no_column 0 found.0) in
    omega (arith, is, within, c.requires)

pub returns-in-Some : goal.returns-in-Some
returns-in-Some c =
    let found = c.in-Some.ensures.lookup.3 in
    let fits = c.args.self.now.fits in
    ap (λ k. get_or c.args.row.now k.place 0) (found.1 no_column) ∙ sym (copied-cell c.args.self.now.columns.now c.args.row.now (c.requires ∙ sym fits.0) c.args.c no_column found.0)

pub returns-in-None : goal.returns-in-None
returns-in-None c = let fits = c.args.self.now.fits in sym (copied_zero c.args.self.now.columns.now c.args.row.now (c.requires ∙ sym fits.0) c.args.c (sym c.in-None.ensures.lookup.0))

use Rattle.std.proofs.Common.{rules, arith, ◌≡◌, ◌∙◌, length, take, drop, refl}
use Rattle.std.proofs.lemmas.List.{length-drop, length-take-le}
use Rattle.question.proofs.Decoding.{terms_in-take, length-terms_in}
use Rattle.question.proofs.Fitting.{line_fits-cells, terms_fit-take}
use Rattle.question.proofs.lines.Line.terms.Goals as goal

pub first_of-requires : goal.first_of-requires
first_of-requires g c =
    let xs = c.args.self.now.numbers.now in
    let p = line_fits-cells g.row.LIMIT xs c.args.self.now.fits in
    let l : length (drop 2 xs) ≡ 8 = omega (arith, length-drop 2 xs, c.args.self.now.ten) in
    let k : length (take 8 (drop 2 xs)) ≡ 8 = length-take-le 8 (drop 2 xs) (omega (arith, l)) in
    let w = c.width.ensures ∙ length-terms_in _ _ in
    let f = terms_fit-take g.row.LIMIT c.width.result 8 (drop 2 xs) (omega (arith, p.1, w)) in
    (search rules, ((omega (arith, k, p.1, w), f ∙ rw w p.2), c.args.self.now.limit))

pub returns : goal.returns
returns g c =
    let xs = c.args.self.now.numbers.now in
    let p = line_fits-cells g.row.LIMIT xs c.args.self.now.fits in
    let w = c.width.ensures ∙ length-terms_in _ _ in
    c.first_of.ensures ∙ terms_in-take c.width.result 8 (drop 2 xs) (omega (arith, p.1, w)) ∙ rw w refl

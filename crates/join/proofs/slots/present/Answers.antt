use Rattle.std.proofs.Common.{[], length, get_or, sym, ap, ◌∙◌, arith}
use Rattle.std.proofs.lemmas.Grind.{same_number_lists}
use Rattle.join.proofs.Bounds.{key_at}
use Rattle.join.proofs.Lexical.{not-there, there}
use Rattle.join.proofs.slots.present.Goals as goal

pub returns-clause-yes : goal.returns-clause-yes
returns-clause-yes c e =
    let rows = c.args.rows.now in
    let key = c.row_under.result in
    let f = there rows key c.binary_search.result c.binary_search.ensures.position c.binary_search.ensures.bound (sym c.is_ok.ensures.value ∙ e) in
    record { place = f.0; inside = f.1; is = λ d h. ap (λ xs. get_or xs d 0) f.2 ∙ key_at c.args.line.now c.args.env.now key c.row_under.ensures d h }

pub returns-clause-no : goal.returns-clause-no
returns-clause-no c e f =
    let rows = c.args.rows.now in
    let key = c.row_under.result in
    let wide = c.told-rows f.place f.inside in
    let five = ap length c.row_under.ensures in
    not-there rows key (λ i h. c.told-rows i h) five c.requires.0 c.binary_search.result c.binary_search.ensures.position (sym c.is_ok.ensures.value ∙ e) f.place f.inside
    (same_number_lists (get_or rows f.place []) key (wide ∙ sym five) (λ d h. f.is d (omega arith) ∙ sym (key_at c.args.line.now c.args.env.now key c.row_under.ensures d (omega arith))))

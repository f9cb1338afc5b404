use Rattle.std.proofs.Common.{rules, length, List, Option, sym, ◌∙◌, ap, ap₂}
use Rattle.question.specs.declared.terms.Term.{Term}
use Rattle.question.specs.Lent.{terms_of, question_of}
use Rattle.containment.specs.Search.{Part, nothing, match_terms}
use Rattle.containment.proofs.Steps.{terms_differ}
use Rattle.containment.proofs.search.row_reading.Goals as goal

pub returns-then-count_left : goal.returns-then-count_left
returns-then-count_left c =
    let a = c.count_left.ensures ∙ ap length c.row-row.ensures.row in
    let b = c.count_left-2.ensures ∙ ap length c.row-as_row.ensures.row in
    sym (terms_differ nothing (question_of c.args.question.now).row (question_of c.args.other.now).row (λ e. c.if-count_left.true (a ∙ e ∙ sym b)))

pub put_terms-requires : goal.put_terms-requires
put_terms-requires c = (search rules, sym c.count_left.ensures ∙ c.if-count_left.false ∙ c.count_left-2.ensures)

pub returns : goal.returns
returns c =
    c.put_terms.ensures
    ∙ ap {B = Option Part} (λ s. match_terms s (terms_of c.row-row.result) (terms_of c.row-as_row.result)) c.nothing.ensures
    ∙ ap₂ {C = Option Part} (λ (ts us : List Term). match_terms nothing ts us) c.row-row.ensures.row c.row-as_row.ensures.row

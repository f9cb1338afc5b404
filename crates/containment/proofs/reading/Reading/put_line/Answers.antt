use Rattle.std.proofs.Common.{rules, sym, ◌∙◌, ap₂}
use Rattle.std.proofs.Common.{Option, List}
use Rattle.question.specs.declared.terms.Term.{Term}
use Rattle.question.specs.Lent.{line_of}
use Rattle.containment.specs.Search.{Part, match_terms}
use Rattle.containment.specs.Coding.{part_of}
use Rattle.containment.proofs.Steps.{lines-apart, widths_apart, lines_alike}
use Rattle.containment.proofs.reading.Reading.put_line.Goals as goal
use Rattle.containment.proofs.reading.Reading.put_line.Goals.{then-table-via-then-table, then-table-via-else-table+then-width}

pub returns-then-table : goal.returns-then-table
returns-then-table g c =
    let s = part_of c.args.self.codes in
    let l = line_of c.args.from.now in
    let m = line_of c.args.to.now in
    elim c.then-table.branch [
      | then-table-via-then-table w ↦ sym (lines-apart s l m (λ e. w.if-table.true (cc e)))
      | then-table-via-else-table+then-width w ↦ sym (widths_apart s l m (λ e. w.if-width.true (w.width.ensures ∙ e ∙ sym w.width-else-table.ensures)))
    ]

pub returns-then-not-may_put_all : goal.returns-then-not-may_put_all
returns-then-not-may_put_all g c =
    let s = part_of c.args.self.codes in
    let alike = lines_alike s (line_of c.args.from.now) (line_of c.args.to.now) (cc) in
    sym (alike ∙ ap₂ {C = Option Part} (λ (ts us : List Term). match_terms s ts us) (sym c.terms-terms.ensures) (sym c.terms-others.ensures) ∙ c.may_put_all.ensures c.if-not-may_put_all.true)

pub put_terms-requires : goal.put_terms-requires
put_terms-requires g c =
    let w = sym c.width.ensures ∙ c.if-width.false ∙ c.width-else-table.ensures in
    (search rules, rw (c.terms-terms.ensures, c.terms-others.ensures) w)

pub returns : goal.returns
returns g c =
    let s = part_of c.args.self.codes in
    let alike = lines_alike s (line_of c.args.from.now) (line_of c.args.to.now) (cc) in
    c.put_terms.ensures ∙ ap₂ {C = Option Part} (λ (ts us : List Term). match_terms s ts us) c.terms-terms.ensures c.terms-others.ensures ∙ sym alike

use Rattle.std.proofs.Common.{ℕ, List, ◌∷◌, length, ap, ◌∙◌, arith}
use Rattle.std.proofs.lemmas.List.{take_all}
use Rattle.std.proofs.lemmas.Slice.{pushed}
use Rattle.question.specs.Tables.{tables_in}
use Rattle.named_files.specs.Forms.{tables_numbers}
use Rattle.named_files.proofs.Lending.{lent_more}
use Rattle.named_files.proofs.Held.{held}
use Rattle.named_files.proofs.lent.lend.Goals as goal

pub loop-numbered-init : goal.loop-numbered-init
unfolding tables_numbers
loop-numbered-init c = pushed _ c.new-numbers.ensures.items c.in_ok-push.was c.push.ensures.items

pub loop-numbered-preserved : goal.loop-numbered-preserved
loop-numbered-preserved c =
    lent_more c.args.tables.now c.loop-numbered.numbered-index (length c.args.tables.now) c.numbered-item.result _ _ (omega arith)
    c.numbered-item.is c.loop-numbered.invariant c.in_ok-push_table.ensures

pub returns : goal.returns
returns c =
    let tables = c.args.tables.now in
    let numbers = c.loop-numbered.invariant ∙ ap (λ ts. length tables ∷ tables_numbers ts) (take_all _ tables (omega arith)) in
    record { numbers = numbers; held = λ full n. ap (λ (ns : List ℕ). tables_in ns n) numbers ∙ held tables full n }

use Rattle.std.proofs.Common.{◌≡◌, ◌∷◌, length, take, vec_items}
use Rattle.named_files.specs.Forms.{tables_numbers}
use Rattle.named_files.proofs.lent.lend.Given as goal

abbrev pub invariant-loop-numbered : goal.invariant-loop-numbered
invariant-loop-numbered l = vec_items l.numbers ≡ length l.tables ∷ tables_numbers (take l.numbered-index l.tables)

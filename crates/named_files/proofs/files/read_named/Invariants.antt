use Rattle.std.proofs.Common.{vec_items}
use Rattle.question.specs.Question.{In}
use Rattle.named_files.specs.declared.lent.Numbered.{Numbered}
use Rattle.named_files.specs.Forms.{Full}
use Rattle.named_files.proofs.files.read_named.Given as goal

abbrev pub invariant-loop-arg : goal.invariant-loop-arg
invariant-loop-arg l = (t : Numbered) → In t (vec_items l.tables) → Full t

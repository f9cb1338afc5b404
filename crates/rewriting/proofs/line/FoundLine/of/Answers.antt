use Rattle.std.proofs.Common.{refl}
use Rattle.question.proofs.Accepted.{not_refused}
use Rattle.rewriting.specs.Answer.{Stands, Meant, printed}
use Rattle.rewriting.proofs.line.FoundLine.of.Goals as goal

pub invariant_of-result : goal.invariant_of-result
unfolding Meant
invariant_of-result c = record {
  stands = λ n e.
      let s : Stands c.args.question.now c.args.reports.now c.find-reply.new.out n = rw e at c.find-reply.ensures.meant in
      not_refused c.find-reply.new.out s.is_question;
}

pub returns : goal.returns
unfolding printed
returns c = rw (← c.find-reply.ensures.told, ← c.find-reply.ensures.written) refl

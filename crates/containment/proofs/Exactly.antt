-- Containment is reading, exactly.
use Rattle.std.proofs.Common.{inl, inr}
use Rattle.question.specs.Question.{Question, Value, Within, all_at}
use Rattle.containment.specs.Reading.{Reads}
use Rattle.containment.specs.OwnTables.{own_tables, naming}
use Rattle.containment.specs.Laws.{WithinReading, AnyNaming, WithinExact, WithinDecided}
use Rattle.containment.proofs.Readings.{reads-within}
use Rattle.containment.proofs.OwnTables.{own_answers, answers_reads}
use Rattle.containment.proofs.Naming.{naming-new}
use Rattle.containment.proofs.Searching.{reads_dec}

pub any_naming : AnyNaming
any_naming p q v d mp mq n = record { answered = own_answers v p; not_answered = λ a. n (answers_reads p q v d mp mq a) }

pub within-reads : (p q : Question) → Within p q → Reads q p
unfolding Within
within-reads p q w =
    let v : Value = naming p q in
    let n = naming-new p q in
    answers_reads p q v n.0 n.1 n.2 (w (own_tables v p) (all_at v p.row) (own_answers v p))

pub within-reading : WithinReading
within-reading p q = (within-reads p q, reads-within q p)

pub within_exact : WithinExact
within_exact p q = let n = naming-new p q in (reads-within q p, any_naming p q (naming p q) n.0 n.1 n.2)

pub within_decided : WithinDecided
within_decided p q =
    elim (reads_dec q p) [
      | yes r ↦ inl (reads-within q p r)
      | no n ↦ inr (λ w. n (within-reads p q w), (within_exact p q).1 n)
    ]

use Rattle.std.proofs.Common.{◌≡◌, ◌-◌}
use Rattle.answer.specs.TableCheck.{all_there}
use Rattle.answer.proofs.tables.all_there.Given as goal

abbrev pub invariant-loop : goal.invariant-loop
invariant-loop l = all_there (l.count - l.counter) l.rest ≡ all_there l.count l.numbers

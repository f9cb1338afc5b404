use Rattle.wire.proofs.TableBack.{tables-back}
use Rattle.wire.proofs.laws.written_tables_are_read_back.Goals as goal

pub returns : goal.returns
returns c = tables-back

use Rattle.std.proofs.Common.{ap, ◌∙◌}
use Rattle.wire.proofs.Splits.{stripped}
use Rattle.wire.proofs.tables.without.Goals as goal

pub returns : goal.returns
returns c = ap (λ x. x.now) c.unwrap_or.ensures ∙ stripped c.args.end c.args.line c.strip_suffix.result c.strip_suffix.ensures.cases

use Rattle.rewriting.proofs.Finding.{more_reports}
use Rattle.rewriting.proofs.laws.more_reports_never_need_more.Goals as goal

pub returns : goal.returns
returns c = more_reports

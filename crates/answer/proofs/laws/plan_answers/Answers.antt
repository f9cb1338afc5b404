use Rattle.answer.proofs.ByPlan.{plan_answers}
use Rattle.answer.proofs.laws.plan_answers.Goals as goal

pub returns : goal.returns
returns c = plan_answers

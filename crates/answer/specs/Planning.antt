-- The plan that the code's struct is. Assumes nothing: these are definitions.
use Rattle.std.specs.Prelude.{map}
use Rattle.answer.specs.Plan.{Plan}
use Rattle.answer.specs.Columns.{orders_of}
use Rattle.answer.specs.declared.plan.SlotPlan.{SlotPlan}

abbrev pub plan_in : SlotPlan → Plan
plan_in s = record { k = s.setting.k; shown = s.setting.shown; n = s.setting.n; env = s.setting.env; lines = map (λ l. l.slots) s.lines.items; row = s.row.items; cols = orders_of s.lines.items }

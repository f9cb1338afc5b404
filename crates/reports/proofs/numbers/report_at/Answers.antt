use Rattle.std.proofs.Common.{◌≡◌, ℕ, ◌+◌, ◌-◌, ◌*◌, take, drop, ap, arith}
use Rattle.reports.specs.Check.{report_part}
use Rattle.reports.proofs.numbers.report_at.Goals as goal

pub returns : goal.returns
unfolding report_part
returns c =
    let fifty : 1 + 50 * c.args.i + 50 - (1 + 50 * c.args.i) ≡ 50 = omega arith in
    record { part = ap (λ (n : ℕ). take n (drop (1 + 50 * c.args.i) c.args.reports.now)) fifty; fifty = grind arith }

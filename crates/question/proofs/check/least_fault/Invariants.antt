use Rattle.std.proofs.Common.{◌≡◌, ℕ, ◌-◌, List}
use Rattle.std.specs.Simd.{first_chunks}
use Rattle.question.specs.Check.{least_fault}
use Rattle.question.proofs.check.least_fault.Given as goal

abbrev pub invariant-loop-i : goal.invariant-loop-i
invariant-loop-i l = (n : ℕ) (xs : List ℕ) → l.lines ≡ first_chunks 10 n xs → least_fault xs (n - l.i) l.i ≡ least_fault xs n 0

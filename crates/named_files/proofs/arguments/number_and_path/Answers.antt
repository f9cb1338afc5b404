use Rattle.std.proofs.Common.{◌≡◌, ℕ, List, Some, None, sym, ◌∙◌, subst, arith}
use Rattle.std.proofs.lemmas.Str.Pattern.{IsSplitOnceResult, split_parts}
use Rattle.wire.specs.Tables.{cell_number}
use Rattle.named_files.proofs.Naming.{none-some, parted}
use Rattle.named_files.proofs.arguments.number_and_path.Goals as goal

pub returns-in_err-number : goal.returns-in_err-number
returns-in_err-number c =
    let arg = c.args.arg.now in
    let split : IsSplitOnceResult 61 arg None = c.in_err-number.ensures.cases in
    rw c.from_residual.ensures (λ n path named. parted arg None split n path named)

pub returns-in_err-read_number : goal.returns-in_err-read_number
returns-in_err-read_number c =
    let arg = c.args.arg.now in
    let number = c.in_ok-number.number in
    let path = c.in_ok-number.path in
    let split : IsSplitOnceResult 61 arg (Some (number, path)) = c.in_ok-number.ensures.cases in
    let same : c.as_bytes.result.now ≡ number.now = c.as_bytes.ensures.value in
    let none : None ≡ cell_number c.as_bytes.result.now = c.in_err-read_number.ensures in
    rw c.from_residual-in_err-read_number.ensures (λ n rest named. none-some (subst (λ (digits : List ℕ). None ≡ cell_number digits) same none ∙ parted arg (Some (number, path)) split n rest named))

pub returns : goal.returns
returns c =
    let arg = c.args.arg.now in
    let number = c.in_ok-number.number in
    let path = c.in_ok-number.path in
    let split : IsSplitOnceResult 61 arg (Some (number, path)) = c.in_ok-number.ensures.cases in
    let same : c.as_bytes.result.now ≡ number.now = c.as_bytes.ensures.value in
    let read : Some c.in_ok-read_number.field-0 ≡ cell_number c.as_bytes.result.now = c.in_ok-read_number.ensures in
    record {
      digits = number.now;
      is = (split_parts 61 arg (Some (number, path)) split (omega arith)).0;
      number = sym (subst (λ (digits : List ℕ). Some c.in_ok-read_number.field-0 ≡ cell_number digits) same read);
    }

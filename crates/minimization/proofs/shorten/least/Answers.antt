use Rattle.std.proofs.Common.{◌≡◌, ℕ, List, ◌++◌, length, drop, None, Ok, Err, sym, refl, subst}
use Rattle.std.proofs.lemmas.Result.{err_from_is_err_and}
use Rattle.question.specs.declared.refusals.Refusal.TheVariants.{NoRoomForQuestion}
use Rattle.question.specs.Layout.{question_in, question_out}
use Rattle.question.proofs.Accepted.{refused}
use Rattle.minimization.specs.Least.{least}
use Rattle.minimization.specs.Answer.{least_refusal, least_says, least_leaves, MeantLeast, LeastStands}
use Rattle.minimization.proofs.Told.{refused_first, refused_room, refused_not, stands, numbered}
use Rattle.minimization.proofs.shorten.least.Goals as goal

pub returns-in_err-asked : goal.returns-in_err-asked
unfolding least_says least_leaves MeantLeast
returns-in_err-asked c =
    let xs = c.args.question.now in
    let some = c.in_err-asked.ensures.told in
    let p = err_from_is_err_and c.from_residual.result c.from_residual.ensures.1 in
    let r : c.from_residual.result ≡ Err c.in_err-asked.field-0.0 = rw (p.1, p.2) refl in
    let e = refused_first xs c.args.out.now c.in_err-asked.field-0.0 some in
    let told : c.from_residual.result ≡ least_says xs c.args.out.now = rw (r, e) in
    record { told = told; numbered = numbered _ _ _ told; written = rw e; meant = rw r (record { same = refl; why = λ q. absurd (refused xs c.in_err-asked.field-0.0 some q) }) }

pub returns-then-out-lt50 : goal.returns-then-out-lt50
unfolding least_says least_leaves MeantLeast
returns-then-out-lt50 c =
    let e = refused_room c.args.question.now c.args.out.now c.in_ok-asked.ensures.told.0 c.if-out-lt50.true in
    let told : Err (NoRoomForQuestion (length c.args.out.now)) ≡ least_says c.args.question.now c.args.out.now = rw e in
    record { told = told; numbered = numbered _ _ _ told; written = rw e; meant = record { same = refl; why = λ _. c.if-out-lt50.true } }

pub returns : goal.returns
unfolding least_says least_leaves MeantLeast
returns c =
    let xs = c.args.question.now in
    let none = c.in_ok-asked.ensures.told.0 in
    let is = c.in_ok-asked.ensures.told.1 in
    let e : least_refusal xs c.args.out.now ≡ None = refused_not xs c.args.out.now none c.if-out-lt50.false in
    let n : c.write_least.result ≡ length (least (question_in xs)).lines = rw (← is) c.write_least.ensures.told in
    let out : c.write_least.new.out ≡ question_out (least (question_in xs)) ++ drop 50 c.args.out.now = rw (← is) c.write_least.ensures.written in
    let told : Ok c.write_least.result ≡ least_says xs c.args.out.now = rw (e, n) in
    record {
      told = told;
      numbered = numbered _ _ _ told;
      written = rw e out;
      meant = subst (λ (ys : List ℕ). LeastStands xs ys c.write_least.result) (sym out) (stands xs (drop 50 c.args.out.now) c.write_least.result none n);
    }

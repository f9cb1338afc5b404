use Rattle.std.proofs.Common.{◌≡◌, ℕ, ◌+◌, ◌≤◌, ◌++◌, sym, refl, ap, ◌∙◌, arith}
use Rattle.question.specs.Sound.{has}
use Rattle.question.specs.Lent.{question_of}
use Rattle.question.proofs.Accepted.{allowed}
use Rattle.containment.specs.OwnTables.{question_numbers, question_vars, free_from, naming}
use Rattle.containment.proofs.Naming.{naming-first, naming-next, naming_skips, sound-vars}
use Rattle.containment.proofs.Small.{naming-few}
use Rattle.containment.proofs.Numbering.{one_name-more}
use Rattle.containment.proofs.fresh.names.Goals as goal
use Rattle.containment.proofs.fresh.names.Goals.{then-has, else-has}

pub loop-x-init : goal.loop-x-init
loop-x-init c = (naming-first (question_of c.args.first.now) (question_of c.args.second.now), λ y h. absurd (omega arith), refl)

pub free_from-name-requires : goal.free_from-name-requires
free_from-name-requires c =
    let p = question_of c.args.first.now in
    let q = question_of c.args.second.now in
    let small : naming p q c.loop-x.x ≤ 57 = naming-few p q (allowed _ c.args.first.now.asked) (allowed _ c.args.second.now.asked) c.loop-x.x (omega arith) in
    omega (arith, small, c.loop-x.invariant.0)

pub overflow_add-next : goal.overflow_add-next
overflow_add-next c =
    let p = question_of c.args.first.now in
    let q = question_of c.args.second.now in
    let small : naming p q c.loop-x.x ≤ 57 = naming-few p q (allowed _ c.args.first.now.asked) (allowed _ c.args.second.now.asked) c.loop-x.x (omega arith) in
    omega (arith, small, c.loop-x.invariant.0, c.free_from-name.ensures)

pub loop-x-preserved : goal.loop-x-preserved
loop-x-preserved c =
    let p = question_of c.args.first.now in
    let q = question_of c.args.second.now in
    let ns = question_numbers p ++ question_numbers q in
    let x = c.loop-x.x in
    let name : c.free_from-name.result ≡ naming p q x = c.free_from-name.ensures ∙ sym c.loop-x.invariant.0 in
    let occurs : has (question_vars p) x ≡ c.has.result = sound-vars p (allowed _ c.args.first.now.asked).is_sound x ∙ sym c.has.ensures in
    let next : naming p q (x + 1) ≡ free_from ns c.if-has.next = elim c.if-has.branch [
      | then-has w ↦ naming-next p q x (occurs ∙ w.if-has.true) ∙ ap (λ (n : ℕ). free_from ns (n + 1)) (sym name) ∙ ap (free_from ns) (sym w.next-is)
      | else-has w ↦ naming_skips p q x (occurs ∙ w.if-has.false) ∙ c.loop-x.invariant.0 ∙ ap (free_from ns) (sym w.next-is)
    ] in
    let more = one_name-more x c.free_from-name.result c.loop-x.values (naming p q) c.loop-x.invariant.1 c.loop-x.invariant.2 (omega arith) name in
    (next, more.0, more.1)

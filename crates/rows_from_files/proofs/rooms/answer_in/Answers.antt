use Rattle.std.proofs.Common.{◌≡◌, ℕ, List, ◌++◌, length, take, drop, replicate, vec_items, ap, ◌∙◌, subst, rules}
use Rattle.std.proofs.lemmas.List.{take_at}
use Rattle.answer.specs.Answered.{Meant}
use Rattle.rows_from_files.proofs.rooms.answer_in.Goals as goal

pub returns : goal.returns
returns c =
    let question = c.args.question.now in
    let tables = c.args.tables.now in
    let room = c.deref_mut.result.now in
    let out = c.answer-answer.new.out in
    let made : vec_items c.in_ok-out.out ≡ replicate c.args.size 0 = c.in_ok-out.ensures.items_if_clones_equal (λ y h. h) in
    let zeros : room ≡ replicate c.args.size 0 = c.deref_mut.ensures.value ∙ made in
    let long : length out ≡ c.in_ok-out.out.len = search rules in
    let same : take c.in_ok-out.out.len (out ++ drop (length out) c.in_ok-out.out.items) ≡ out = take_at out (drop (length out) c.in_ok-out.out.items) c.in_ok-out.out.len long in
    let size : length out ≡ c.args.size = long ∙ c.in_ok-out.ensures.len in
    record {
      meant = rw same (subst (λ (before : List ℕ). Meant question tables before out c.answer-answer.result) zeros c.answer-answer.ensures);
      size = ap length same ∙ size;
    }

use Rattle.std.proofs.Common.{refl, vec_items, ◌∷◌, []}
use Rattle.std.proofs.lemmas.Slice.{pushed}
use Rattle.named_files.proofs.Held.{full_push}
use Rattle.named_files.proofs.files.read_named.Goals as goal

pub loop-arg-preserved : goal.loop-arg-preserved
loop-arg-preserved c =
    let t = c.in_ok-read_numbered.field-0 in
    full_push (vec_items c.loop-arg.tables) _ t (pushed (t ∷ []) refl c.in_ok-push.was c.push.ensures.items) c.loop-arg.invariant
    c.in_ok-read_numbered.ensures.0

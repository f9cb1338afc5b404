use Rattle.std.proofs.Common.{◌∙◌, map, take, sym, ap}
use Rattle.std.proofs.lemmas.List.{take_min, take-map}
use Rattle.question.specs.Layout.{line_in, ten_fit}
use Rattle.question.proofs.Chunks.{all-front}
use Rattle.question.proofs.lines.Lines.front.Goals as goal

pub invariant_of-result : goal.invariant_of-result
invariant_of-result g c = record { fit = all-front (ten_fit g.row.LIMIT) c.min.result c.args.self.now.left.now c.args.self.now.fit; limit = c.args.self.now.limit }

pub returns : goal.returns
returns g c =
    let ps = c.args.self.now.left.now in
    ap (λ k. map line_in (take k ps)) c.min.ensures ∙ ap (map line_in) (take_min c.args.n ps) ∙ sym (take-map line_in c.args.n ps)

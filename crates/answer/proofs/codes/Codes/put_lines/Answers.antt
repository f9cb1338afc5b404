use Rattle.std.proofs.Common.{rules, arith, ◌∙◌, sym}
use Rattle.question.specs.Lent.{line_of}
use Rattle.answer.specs.Terms.{all_put_in, codes_of, line_codes}
use Rattle.answer.proofs.Listing.{put-length}
use Rattle.answer.proofs.Gathering.{line-put, line_room}
use Rattle.answer.proofs.codes.Codes.put_lines.Goals as goal

pub put_terms-requires : goal.put_terms-requires
put_terms-requires c =
    let room = line_room c.args.kind _ _ _ c.in-Some.ensures.steps in
    rw c.terms.ensures (omega (arith, c.loop-line.invariant.2, room))

pub loop-line-preserved : goal.loop-line-preserved
loop-line-preserved c =
    let room = line_room c.args.kind _ _ _ c.in-Some.ensures.steps in
    let cs = codes_of c.args.kind (line_of c.in-Some.line).cells in
    let more = put-length c.loop-line.self.list.items cs in
    let put = rw c.terms.ensures at c.put_terms.ensures in
    (tt, tt, rw put (omega (arith, c.loop-line.invariant.2, room, more)), rw put (sym (line-put c.args.kind _ _ _ _ c.in-Some.ensures.steps) ∙ c.loop-line.invariant.3))

pub returns : goal.returns
unfolding all_put_in line_codes
returns c = rw c.in-None.ensures.steps.0 at c.loop-line.invariant.3 ∙ search rules

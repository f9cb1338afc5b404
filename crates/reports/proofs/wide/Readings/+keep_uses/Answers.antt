use Rattle.std.proofs.Common.{◌≡◌, ◌<◌, List, map, length, sym, ap, ◌∙◌, subst}
use Rattle.std.proofs.lemmas.Result.{err_from_is_err_and}
use Rattle.question.specs.Question.{Line}
use Rattle.question.specs.Layout.{line_in, line_out}
use Rattle.question.specs.Lent.{line_of, lines_of, question_of}
use Rattle.question.proofs.Accepted.{allowed}
use Rattle.containment.specs.Search.{filling}
use Rattle.reports.specs.Widest.{use_of, all_lines, all_readings, insert_line}
use Rattle.reports.specs.Uses.{lines_kept, Keeps, insert_all}
use Rattle.reports.specs.Made.{own_part}
use Rattle.reports.proofs.Filling.{use_fits, line-back}
use Rattle.reports.proofs.Gathering.{codes-within, keep_end, keep_line, keep_past, keep-on, keep-over, keep-none}
use Rattle.reports.proofs.wide.Readings.+keep_uses.Goals as goal

pub keep-requires-clause-fits : goal.keep-requires-clause-fits
keep-requires-clause-fits t c =
    let a = c.args.self.now in
    let r = question_of a.report in
    rw (c.line_put.ensures.put, c.row.ensures.row)
    (use_fits a.number (filling (own_part c.args.reading.now)) r.row a.small (codes-within c.args.reading.now.reading.codes c.args.reading.now.within) (allowed _ a.report.asked).row)

pub keep-requires-clause-written : goal.keep-requires-clause-written
keep-requires-clause-written t c = rw c.line_put.ensures.put (ap line_out (line-back _))

pub returns-in_default : goal.returns-in_default
returns-in_default t c =
    let a = c.args.self.now in
    let s = own_part c.args.reading.now in
    let l : Line = use_of a.number (question_of a.report) s in
    let p : c.line_put.result ≡ line_out l = c.line_put.ensures.put ∙ rw c.row.ensures.row in
    let e : line_in c.line_put.result ≡ l = ap line_in p ∙ line-back l in
    subst (Keeps c.keep.result c.keep.new.self) (ap (λ (m : Line). insert_line m (lines_kept c.args.uses.now)) e ∙ sym (keep_end (use_of a.number (question_of a.report)) (lines_of c.args.lines) (question_of a.question).lines (lines_kept c.args.uses.now) s c.in_default.ensures.steps.0)) c.keep.ensures

pub loop-to-preserved-in_default-put_line : goal.loop-to-preserved-in_default-put_line
loop-to-preserved-in_default-put_line t c =
    let a = c.args.self.now in
    let s = own_part c.args.reading.now in
    let go = all_readings (lines_of c.next.new.self) (question_of a.question).lines in
    let e = keep_past (use_of a.number (question_of a.report)) go (lines_of c.loop-to.to-iterator) (lines_of c.next-in-loop-to.new.self) (lines_kept c.loop-to.uses) (line_of c.in-Some.from) (line_of c.in-Some-to.to) s c.in-Some-to.ensures.steps (sym c.in_default-put_line.ensures) in
    (tt, tt, sym e ∙ c.loop-to.invariant.2)

pub returns-in_err-keep_uses : goal.returns-in_err-keep_uses
returns-in_err-keep_uses t c =
    let a = c.args.self.now in
    let s = own_part c.args.reading.now in
    let q = (question_of a.question).lines in
    let p = err_from_is_err_and c.from_residual.result c.from_residual.ensures.1 in
    let go = all_readings (lines_of c.next.new.self) q in
    let f = use_of a.number (question_of a.report) in
    let h = keep-over f go (lines_of c.loop-to.to-iterator) (lines_of c.next-in-loop-to.new.self) (lines_kept c.loop-to.uses) (line_of c.in-Some.from) (line_of c.in-Some-to.to) s (own_part c.in-Some-put_line.more) c.in-Some-to.ensures.steps (sym c.in-Some-put_line.ensures) c.in_err-keep_uses.ensures.1 in
    let e = c.loop-to.invariant.2 ∙ keep_line f (lines_of c.args.lines) q (lines_kept c.args.uses.now) (lines_of c.next.new.self) (line_of c.in-Some.from) s c.in-Some.ensures.steps in
    rw (p.1, p.2) (c.in_err-keep_uses.ensures.0, subst (λ (ls : List Line). 32 < length ls) e h)

pub loop-to-preserved : goal.loop-to-preserved
loop-to-preserved t c =
    let a = c.args.self.now in
    let s = own_part c.args.reading.now in
    let q = (question_of a.question).lines in
    let go = all_readings (lines_of c.next.new.self) q in
    let f = use_of a.number (question_of a.report) in
    let e = keep-on f go (lines_of c.loop-to.to-iterator) (lines_of c.next-in-loop-to.new.self) (lines_kept c.loop-to.uses) (line_of c.in-Some.from) (line_of c.in-Some-to.to) s (own_part c.in-Some-put_line.more) c.in-Some-to.ensures.steps (sym c.in-Some-put_line.ensures) in
    (tt, tt, ap (λ (ks : List Line). insert_all (map f (all_lines go (lines_of c.next-in-loop-to.new.self) (line_of c.in-Some.from) s)) ks) c.in_ok-keep_uses.ensures ∙ sym e ∙ c.loop-to.invariant.2)

pub returns : goal.returns
returns t c =
    let a = c.args.self.now in
    let s = own_part c.args.reading.now in
    let q = (question_of a.question).lines in
    let go = all_readings (lines_of c.next.new.self) q in
    let f = use_of a.number (question_of a.report) in
    sym (keep-none f go (lines_of c.loop-to.to-iterator) (lines_kept c.loop-to.uses) (line_of c.in-Some.from) s c.in-None.ensures.steps.0) ∙ c.loop-to.invariant.2 ∙ keep_line f (lines_of c.args.lines) q (lines_kept c.args.uses.now) (lines_of c.next.new.self) (line_of c.in-Some.from) s c.in-Some.ensures.steps

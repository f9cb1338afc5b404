-- A question over reports is right exactly if the question and its expansion can be read into each other.
use Rattle.std.proofs.Common.{◌≡◌, ℕ, ◌<◌, true, ◌↔◌}
use Rattle.std.proofs.lemmas.Bool.{and_parts}
use Rattle.question.specs.declared.terms.Term.TheVariants.{Variable}
use Rattle.question.specs.Question.{Question, Row, Base, In, Answers, Within}
use Rattle.question.specs.Sound.{sound}
use Rattle.question.proofs.Members.{Used, sound_parts}
use Rattle.containment.proofs.Readings.{reads-within}
use Rattle.containment.proofs.Exactly.{within-reads}
use Rattle.reports.specs.Reports.{Told, fits}
use Rattle.reports.specs.Expand.{expand, Below}
use Rattle.reports.specs.Laws.{ExpansionCorrect, RightExact}
use Rattle.reports.proofs.Expanding.{expand-told, told-expand}

-- the variables of a sound question's row stand in its lines
pub row_below : (n : ℕ) (p : Question) → sound p ≡ true → Below n p.lines → (x : ℕ) → In (Variable x) p.row → x < n
row_below n p so be x m = let u : Used x p.lines = (sound_parts p so).row x m in be u.line u.is_in x u.stands

pub expansion_correct : ExpansionCorrect
expansion_correct reports p width base ok so na be b r = (told-expand reports width base p na be (row_below base p so be) b r, expand-told reports width base p ok b r)

pub right_exact : RightExact
unfolding Within
right_exact reports q p width base ok pr na be =
    let e : Question = expand reports width base p in
    let so : sound p ≡ true = (and_parts (sound p) (fits reports p.lines) pr).0 in
    let x : (b : Base) (r : Row) → Told b reports p r ↔ Answers b e r = expansion_correct reports p width base ok so na be in (
      λ a. (within-reads e q (λ b r s. a.no_more b r ((x b r).1 s)), within-reads q e (λ b r s. (x b r).0 (a.no_less b r s))),
      λ k. record { proper = pr; no_more = λ b r t. reads-within q e k.0 b r ((x b r).0 t); no_less = λ b r s. (x b r).1 (reads-within e q k.1 b r s) },
    )

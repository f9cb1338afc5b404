-- The line of a question over reports, as it grows piece by piece.
use Rattle.std.proofs.Common.{◌≡◌, ℕ, List, [], ◌∷◌, ◌++◌, codes, sym, ap, ◌∙◌, append-nil, append_assoc}
use Rattle.question.specs.declared.terms.Term.{Term}
use Rattle.question.specs.Question.{Line}
use Rattle.question.specs.Texts.{term_text}
use Rattle.rewriting.specs.Texts.{terms_text, use_text, more_uses_text, uses_text}

pub term-more : (ts : List Term) (t : Term) (left : List Term) (done whole : List ℕ) → ts ≡ t ∷ left → done ++ terms_text ts ≡ whole → (done ++ (codes " " ++ term_text t)) ++ terms_text left ≡ whole
unfolding terms_text
term-more ts t left done whole e h = append_assoc done (codes " " ++ term_text t) (terms_text left) ∙ ap (λ (l : List Term). done ++ terms_text l) (sym e) ∙ h

pub terms-over : (ts : List Term) (done whole : List ℕ) → ts ≡ [] → done ++ terms_text ts ≡ whole → done ≡ whole
unfolding terms_text
terms-over ts done whole e h = sym (append-nil done) ∙ ap (λ (l : List Term). done ++ terms_text l) (sym e) ∙ h

pub use-more : (ls : List Line) (l : Line) (left : List Line) (done whole : List ℕ) → ls ≡ l ∷ left → done ++ more_uses_text ls ≡ whole → (done ++ (codes "," ++ use_text l)) ++ more_uses_text left ≡ whole
unfolding more_uses_text
use-more ls l left done whole e h = append_assoc done (codes "," ++ use_text l) (more_uses_text left) ∙ ap (λ (k : List Line). done ++ more_uses_text k) (sym e) ∙ h

pub uses-over : (ls : List Line) (done whole : List ℕ) → ls ≡ [] → done ++ more_uses_text ls ≡ whole → done ≡ whole
unfolding more_uses_text
uses-over ls done whole e h = sym (append-nil done) ∙ ap (λ (k : List Line). done ++ more_uses_text k) (sym e) ∙ h

-- the first use and those behind it
pub uses-from : (ls : List Line) (l : Line) (left : List Line) → ls ≡ l ∷ left → use_text l ++ more_uses_text left ≡ uses_text ls
uses-from ls l left e = ap uses_text (sym e)

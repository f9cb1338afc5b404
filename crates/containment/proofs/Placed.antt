-- A line that has no place alone has none in a reading.
use Rattle.std.proofs.Common.{◌≡◌, ℕ, Bool, true, false, ◌&&◌, List, [], ◌∷◌, is_some, Some, None, Option, sym, refl, ap, ◌∙◌}
use borrow.Author.Tests.{clash}
use Rattle.question.specs.declared.terms.Term.{Term}
use Rattle.question.specs.Question.{Line, In}
use Rattle.containment.specs.Reading.{line_put, Into}
use Rattle.containment.specs.Search.{Part, try_lines, read_lines, all_placed, filling}
use Rattle.containment.proofs.Searching.{Ext, Finds, try_finds, read_finds, filled}

-- the line that comes next has a place, has none, and none comes
pub placed_next : (ks ms : List Line) (s : Part) (l : Line) (ls : List Line) → ks ≡ l ∷ ls → is_some (try_lines Some ms l s) ≡ true → all_placed ks ms s ≡ all_placed ls ms s
unfolding all_placed
placed_next ks ms s l ls d e = ap (λ (x : List Line). all_placed x ms s) d ∙ ap (λ (b : Bool). b && all_placed ls ms s) e

pub placed_stop : (ks ms : List Line) (s : Part) (l : Line) (ls : List Line) → ks ≡ l ∷ ls → is_some (try_lines Some ms l s) ≡ false → all_placed ks ms s ≡ false
unfolding all_placed
placed_stop ks ms s l ls d e = ap (λ (x : List Line). all_placed x ms s) d ∙ ap (λ (b : Bool). b && all_placed ls ms s) e

pub placed_end : (ks ms : List Line) (s : Part) → ks ≡ [] → all_placed ks ms s ≡ true
unfolding all_placed
placed_end ks ms s e = ap (λ (x : List Line). all_placed x ms s) e

has-place : (ms : List Line) (l : Line) (s : Part) (h : ℕ → Term) → Ext h s → In (line_put h l) ms → is_some (try_lines Some ms l s) ≡ true
has-place ms l s h e i = go (try_lines Some ms l s) (try_finds Some ms l s (λ _. Unit {0}) (λ r g x. (x, tt)))
  where
    go : (o : Option Part) → Finds o s (λ g. In (line_put g l) ms × Unit {0}) → is_some o ≡ true
    go None f = absurd (f h e (i, tt))
    go (Some r) f = refl

into_placed : (ls ms : List Line) (s : Part) (h : ℕ → Term) → Ext h s → Into h ms ls → all_placed ls ms s ≡ true
unfolding all_placed
into_placed [] ms s h e i = refl
into_placed (l ∷ ls) ms s h e (Into.and_line a r) = ap (λ (b : Bool). b && all_placed ls ms s) (has-place ms l s h e a) ∙ into_placed ls ms s h e r

-- no search is needed
pub not_read : (ls ms : List Line) (s : Part) → all_placed ls ms s ≡ false → read_lines ls ms s ≡ None
not_read ls ms s n = go (read_lines ls ms s) (read_finds ls ms s)
  where
    go : (o : Option Part) → Finds o s (λ h. Into h ms ls) → o ≡ None
    go None f = refl
    go (Some r) f = let g = f (filling r) (filled r) in absurd (clash (sym n ∙ into_placed ls ms s (filling r) g.0 g.1))

-- One step of each loop of the search, and its end.
use Rattle.std.proofs.Common.{◌≡◌, suc, Bool, true, false, cond, eqb, List, [], ◌∷◌, length, is_some, Some, None, Option, sym, refl, ap, ◌∙◌, ap₂, eq-eqb, ne_eqb, arith}
use borrow.Author.Tests.{clash}
use Rattle.question.specs.declared.terms.Term.{Term}
use Rattle.question.specs.Question.{Line}
use Rattle.containment.specs.Search.{Part, and_then, match_term, match_terms, match_line, try_lines, read_lines}

-- terms: the next, none, and the end
terms_more : (s : Part) (us ds : List Term) (t c : Term) (ts cs : List Term) → us ≡ t ∷ ts → ds ≡ c ∷ cs → match_terms s us ds ≡ and_then (match_term s t c) (λ r. match_terms r ts cs)
unfolding match_terms
terms_more s us ds t c ts cs e f = ap₂ {C = Option Part} (λ (us ds : List Term). match_terms s us ds) e f

pub terms_next : (s r : Part) (us ds : List Term) (t c : Term) (ts cs : List Term) → us ≡ t ∷ ts → ds ≡ c ∷ cs → match_term s t c ≡ Some r → match_terms s us ds ≡ match_terms r ts cs
terms_next s r us ds t c ts cs e f m = terms_more s us ds t c ts cs e f ∙ ap (λ (o : Option Part). and_then o (λ r. match_terms r ts cs)) m

pub terms_stop : (s : Part) (us ds : List Term) (t c : Term) (ts cs : List Term) → us ≡ t ∷ ts → ds ≡ c ∷ cs → match_term s t c ≡ None → match_terms s us ds ≡ None
terms_stop s us ds t c ts cs e f m = terms_more s us ds t c ts cs e f ∙ ap (λ (o : Option Part). and_then o (λ r. match_terms r ts cs)) m

pub terms_end : (s : Part) (us ds : List Term) → us ≡ [] → ds ≡ [] → match_terms s us ds ≡ Some s
unfolding match_terms
terms_end s us ds e f = ap₂ {C = Option Part} (λ (us ds : List Term). match_terms s us ds) e f

pub no-terms : (ts : List Term) → length ts ≡ 0 → ts ≡ []
no-terms [] e = refl
no-terms (t ∷ ts) e = absurd (omega (arith, e))

-- rows of different lengths
pub terms_differ : (s : Part) (ts cs : List Term) → (length ts ≡ length cs → ⊥) → match_terms s ts cs ≡ None
unfolding match_terms
terms_differ s [] [] h = absurd (h refl)
terms_differ s [] (c ∷ cs) h = refl
terms_differ s (t ∷ ts) [] h = refl
terms_differ s (t ∷ ts) (c ∷ cs) h =
    elim (match_term s t c) as (λ o. and_then o (λ r. match_terms r ts cs) ≡ None) [ None ↦ refl | Some r ↦ terms_differ r ts cs (λ e. h (ap suc e)) ]

-- lines: the next one, and the end
pub lines_more : (ks ms : List Line) (l : Line) (ls : List Line) (s : Part) → ks ≡ l ∷ ls → read_lines ks ms s ≡ try_lines (read_lines ls ms) ms l s
unfolding read_lines
lines_more ks ms l ls s e = ap (λ (ks : List Line). read_lines ks ms s) e

pub lines_end : (ks ms : List Line) (s : Part) → ks ≡ [] → read_lines ks ms s ≡ Some s
unfolding read_lines
lines_end ks ms s e = ap (λ (ks : List Line). read_lines ks ms s) e

-- the line m that comes next of those that are tried: it can't be put, it leads nowhere, it leads to a reading; and none comes
pub try_past : (go : Part → Option Part) (ks : List Line) (l m : Line) (ms : List Line) (s : Part) → ks ≡ m ∷ ms → match_line s l m ≡ None → try_lines go ks l s ≡ try_lines go ms l s
unfolding try_lines
try_past go ks l m ms s e f = ap (λ (ks : List Line). try_lines go ks l s) e ∙ rw f

pub try_back : (go : Part → Option Part) (ks : List Line) (l m : Line) (ms : List Line) (s r : Part) → ks ≡ m ∷ ms → match_line s l m ≡ Some r → go r ≡ None → try_lines go ks l s ≡ try_lines go ms l s
unfolding try_lines
try_back go ks l m ms s r e f g = ap (λ (ks : List Line). try_lines go ks l s) e ∙ rw (f, g)

pub try_found : (go : Part → Option Part) (ks : List Line) (l m : Line) (ms : List Line) (s r d : Part) → ks ≡ m ∷ ms → match_line s l m ≡ Some r → go r ≡ Some d → try_lines go ks l s ≡ Some d
unfolding try_lines
try_found go ks l m ms s r d e f g = ap (λ (ks : List Line). try_lines go ks l s) e ∙ rw (f, g)

pub try_end : (go : Part → Option Part) (ks : List Line) (l : Line) (s : Part) → ks ≡ [] → try_lines go ks l s ≡ None
unfolding try_lines
try_end go ks l s e = ap (λ (ks : List Line). try_lines go ks l s) e

-- lines of different tables, of different widths, and alike in both
pub lines-apart : (s : Part) (l m : Line) → (l.table ≡ m.table → ⊥) → match_line s l m ≡ None
unfolding match_line
lines-apart s l m h = rw (ne_eqb l.table m.table h)

pub widths_apart : (s : Part) (l m : Line) → (length l.cells ≡ length m.cells → ⊥) → match_line s l m ≡ None
unfolding match_line
widths_apart s l m h = rw (terms_differ s l.cells m.cells h) (cond_same (eqb l.table m.table))
  where
    cond_same : (b : Bool) → ◌≡◌ {A = Option Part} (cond b None None) None
    cond_same true = refl
    cond_same false = refl

pub lines_alike : (s : Part) (l m : Line) → l.table ≡ m.table → match_line s l m ≡ match_terms s l.cells m.cells
unfolding match_line
lines_alike s l m e = rw (eq-eqb l.table m.table e)

-- the same where only whether there is something is told
isSome_none : (o : Option Part) → is_some o ≡ false → o ≡ None
isSome_none None e = refl
isSome_none (Some r) e = absurd (clash (sym e))

pub try_none : (go : Part → Option Part) (ks : List Line) (l m : Line) (ms : List Line) (s r : Part) → ks ≡ m ∷ ms → match_line s l m ≡ Some r → is_some (go r) ≡ false → try_lines go ks l s ≡ try_lines go ms l s
try_none go ks l m ms s r d e f = try_back go ks l m ms s r d e (isSome_none (go r) f)

pub try_some : (go : Part → Option Part) (ks : List Line) (l m : Line) (ms : List Line) (s r : Part) → ks ≡ m ∷ ms → match_line s l m ≡ Some r → is_some (go r) ≡ true → is_some (try_lines go ks l s) ≡ true
try_some go ks l m ms s r d e f = tried (go r) refl f
  where
    tried : (o : Option Part) → go r ≡ o → is_some o ≡ true → is_some (try_lines go ks l s) ≡ true
    tried (Some t) g h = ap is_some (try_found go ks l m ms s r t d e g)
    tried None g h = absurd (clash h)

-- the same where the line has only to be put
pub put_some : (ks : List Line) (l m : Line) (ms : List Line) (s : Part) → ks ≡ m ∷ ms → is_some (match_line s l m) ≡ true → is_some (try_lines Some ks l s) ≡ true
put_some ks l m ms s d e = tried (match_line s l m) refl e
  where
    tried : (o : Option Part) → match_line s l m ≡ o → is_some o ≡ true → is_some (try_lines Some ks l s) ≡ true
    tried (Some r) g h = ap is_some (try_found Some ks l m ms s r r d g refl)
    tried None g h = absurd (clash h)

pub put_none : (ks : List Line) (l m : Line) (ms : List Line) (s : Part) → ks ≡ m ∷ ms → is_some (match_line s l m) ≡ false → try_lines Some ks l s ≡ try_lines Some ms l s
put_none ks l m ms s d e = try_past Some ks l m ms s d (isSome_none (match_line s l m) e)

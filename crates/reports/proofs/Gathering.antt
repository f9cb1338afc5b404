-- All readings of a report, one after another: each step of going through the lines, and that what they put stays within the limits.
use Rattle.std.proofs.Common.{◌≡◌, ℕ, suc, ◌-◌, ◌<◌, ◌≤◌, Bool, true, false, cond, eqb, nat_lt, List, [], ◌∷◌, map, length, get_or, Some, None, Option, MatchOption, sym, refl, ap, ◌∙◌, subst, inl, inr, arith, lit<, ltb-true, ltb-false}
use Rattle.std.proofs.lemmas.List.{map-append}
use Rattle.std.specs.List.{list_all}
use Rattle.std.proofs.lemmas.Bool.{and_from, cases_lt}
use Rattle.std.proofs.lemmas.Bool.Decides.{nat_tests}
use Rattle.std.proofs.lemmas.List.{get_or_past}
use Rattle.std.proofs.lemmas.List.Sums.{AllPass-from_list_all}
use Rattle.question.specs.declared.terms.Term.{Term}
use Rattle.question.specs.declared.terms.Term.TheVariants.{Number, Variable}
use Rattle.question.specs.Question.{Line, In}
use Rattle.question.specs.Sound.{TermWithin}
use Rattle.containment.specs.Search.{term_eqb, Part, nothing, put_one, and_then, match_var, match_term, match_terms, match_line, fill, filling}
use Rattle.containment.specs.Coding.{decode, part_of}
use Rattle.containment.proofs.Coding.{decode-code}
use Rattle.containment.proofs.Codes.{decode_past}
use Rattle.question.specs.Layout.{code, Codes}
use Rattle.std.specs.Option.{unwrap_or}
use Rattle.reports.specs.Widest.{all_lines, all_readings, code_within, insert_line}
use Rattle.reports.specs.Uses.{insert_all}
use Rattle.reports.proofs.Inserting.{insert_all-append, insert_all_longer}

-- all lines are put: the use of the one reading is put in
pub keep_end : (f : Part → Line) (ls ms ks : List Line) (s : Part) → ls ≡ [] → insert_all (map f (all_readings ls ms s)) ks ≡ insert_line (f s) ks
unfolding all_readings insert_all
keep_end f ls ms ks s e = ap (λ (ns : List Line). insert_all (map f (all_readings ns ms s)) ks) e

-- the next line is to be put
pub keep_line : (f : Part → Line) (ls ms ks rest : List Line) (l : Line) (s : Part) → ls ≡ l ∷ rest → insert_all (map f (all_lines (all_readings rest ms) ms l s)) ks ≡ insert_all (map f (all_readings ls ms s)) ks
unfolding all_readings
keep_line f ls ms ks rest l s e = ap (λ (ns : List Line). insert_all (map f (all_readings ns ms s)) ks) (sym e)

-- a line that it cannot be put as, one that it can, and the end
pub keep_past : (f : Part → Line) (go : Part → List Part) (ms ns ks : List Line) (l m : Line) (s : Part) → ms ≡ m ∷ ns → match_line s l m ≡ None
    → insert_all (map f (all_lines go ms l s)) ks ≡ insert_all (map f (all_lines go ns l s)) ks
unfolding all_lines
keep_past f go ms ns ks l m s e g = ap (λ (os : List Line). insert_all (map f (all_lines go os l s)) ks) e ∙ rw g

pub keep-on : (f : Part → Line) (go : Part → List Part) (ms ns ks : List Line) (l m : Line) (s r : Part) → ms ≡ m ∷ ns → match_line s l m ≡ Some r
    → insert_all (map f (all_lines go ms l s)) ks ≡ insert_all (map f (all_lines go ns l s)) (insert_all (map f (go r)) ks)
unfolding all_lines
keep-on f go ms ns ks l m s r e g =
    ap (λ (os : List Line). insert_all (map f (all_lines go os l s)) ks) e
    ∙ rw (g, map-append f (go r) (all_lines go ns l s), insert_all-append (map f (go r)) (map f (all_lines go ns l s)) ks)

pub keep-over : (f : Part → Line) (go : Part → List Part) (ms ns ks : List Line) (l m : Line) (s r : Part) → ms ≡ m ∷ ns → match_line s l m ≡ Some r
    → 32 < length (insert_all (map f (go r)) ks) → 32 < length (insert_all (map f (all_lines go ms l s)) ks)
keep-over f go ms ns ks l m s r e g h = omega (arith, ap length (keep-on f go ms ns ks l m s r e g), insert_all_longer (map f (all_lines go ns l s)) (insert_all (map f (go r)) ks))

pub keep-none : (f : Part → Line) (go : Part → List Part) (ms ks : List Line) (l : Line) (s : Part) → ms ≡ [] → insert_all (map f (all_lines go ms l s)) ks ≡ ks
unfolding all_lines insert_all
keep-none f go ms ks l s e = ap (λ (ns : List Line). insert_all (map f (all_lines go ns l s)) ks) e

-- what is put is within the limits
abbrev pub Within : Part → Type 0
Within s = (x : ℕ) → TermWithin (filling s x)

pub nothing-within : Within nothing
unfolding fill
nothing-within x = lit< tt

one_within : (b : Bool) (o : Option Term) (c : Term) → TermWithin (fill o) → TermWithin c → TermWithin (fill (cond b (Some c) o))
unfolding fill
one_within true o c w v = v
one_within false o c w v = w

same-within : (b : Bool) (s r : Part) → cond b (Some s) None ≡ Some r → Within s → Within r
same-within true s r e w = subst Within (cc e) w
same-within false s r e w = let z : ◌≡◌ {A = ℕ} 0 1 = cc e in absurd (omega arith)

var_within : (o : Option Term) (s r : Part) (x : ℕ) (c : Term) → match_var o s x c ≡ Some r → Within s → TermWithin c → Within r
unfolding match_var
var_within None s r x c e w v = let p : put_one s x c ≡ r = cc e in subst Within p (λ y. one_within (eqb x y) (s y) c (w y) v)
var_within (Some d) s r x c e w v = same-within (term_eqb d c) s r e w

term-within : (s r : Part) (t c : Term) → match_term s t c ≡ Some r → Within s → TermWithin c → Within r
unfolding match_term
term-within s r (Number n) c e w v = same-within (term_eqb (Number n) c) s r e w
term-within s r (Variable x) c e w v = var_within (s x) s r x c e w v

terms_within : (s r : Part) (ts cs : List Term) → match_terms s ts cs ≡ Some r → Within s → ((c : Term) → In c cs → TermWithin c) → Within r
unfolding match_terms
terms_within s r [] [] e w v = subst Within (cc e) w
terms_within s r [] (c ∷ cs) e w v = let z : ◌≡◌ {A = ℕ} 0 1 = cc e in absurd (omega arith)
terms_within s r (t ∷ ts) [] e w v = let z : ◌≡◌ {A = ℕ} 0 1 = cc e in absurd (omega arith)
terms_within s r (t ∷ ts) (c ∷ cs) e w v = go (match_term s t c) refl e (λ q f u. terms_within q r ts cs f u (λ d i. v d (In.there i)))
  where
    go : (o : Option Part) → match_term s t c ≡ o → and_then o (λ q. match_terms q ts cs) ≡ Some r → ((q : Part) → match_terms q ts cs ≡ Some r → Within q → Within r) → Within r
    go None f g k = let z : ◌≡◌ {A = ℕ} 0 1 = cc g in absurd (omega arith)
    go (Some q) f g k = k q g (term-within s q t c f w (v c In.here))

pub line-within : (s r : Part) (l m : Line) → match_line s l m ≡ Some r → Within s → ((c : Term) → In c m.cells → TermWithin c) → Within r
unfolding match_line
line-within s r l m e w v = go (eqb l.table m.table) e
  where
    go : (b : Bool) → cond b (match_terms s l.cells m.cells) None ≡ Some r → Within r
    go true f = terms_within s r l.cells m.cells f w v
    go false f = let z : ◌≡◌ {A = ℕ} 0 1 = cc f in absurd (omega arith)

-- the same of the codes of a reading
code-number : (k : ℕ) → TermWithin (fill (decode k)) → code_within k ≡ true
unfolding decode fill
code-number k w = go (nat_lt k 4294967296) refl w (nat_lt k 8589934592) refl w
  where
    go : (b : Bool) → nat_lt k 4294967296 ≡ b → TermWithin (fill (cond b (Some (Number k)) (cond (nat_lt k 8589934592) (Some (Variable (k - 4294967296))) None))) → (c : Bool) → nat_lt k 8589934592 ≡ c
        → TermWithin (fill (cond (nat_lt k 4294967296) (Some (Number k)) (cond (nat_lt k 8589934592) (Some (Variable (k - 4294967296))) None))) → code_within k ≡ true
    go true e v c f u = let h : k < 4294967296 = ltb-true _ _ e in grind (arith, nat_tests)
    go false e v true f u = let h : k - 4294967296 < 16 = rw f at v in grind (arith, nat_tests)
    go false e v false f u = let h : 8589934592 ≤ k = ltb-false _ _ f in grind (arith, nat_tests)

number-code : (k : ℕ) → code_within k ≡ true → TermWithin (fill (decode k))
unfolding decode fill
number-code k w = go (nat_lt k 4294967296) refl (nat_lt k 8589934592) refl
  where
    go : (b : Bool) → nat_lt k 4294967296 ≡ b → (c : Bool) → nat_lt k 8589934592 ≡ c → TermWithin (fill (cond b (Some (Number k)) (cond c (Some (Variable (k - 4294967296))) None)))
    go true e c f = ltb-true _ _ e
    go false e true f = let h : k < 8589934592 = ltb-true _ _ f in let g : 4294967296 ≤ k = ltb-false _ _ e in let m : k < 4294967312 = grind (arith, nat_tests) in omega arith
    go false e false f = lit< tt

pub codes-within : (a : List ℕ) → list_all code_within a ≡ true → Within (part_of a)
unfolding decode fill
codes-within a e x = elim (cases_lt x (length a)) [
  | inl h ↦ number-code (get_or a x 8589934592) (AllPass-from_list_all code_within a e x 8589934592 h)
  | inr h ↦ rw (get_or_past a x 8589934592 h) (lit< tt)
]

pub within-codes : (a : List ℕ) → Within (part_of a) → list_all code_within a ≡ true
within-codes [] w = refl
within-codes (k ∷ a) w = and_from _ _ (code-number k (w 0)) (within-codes a (λ x. w (suc x)))

-- what a code stands for, as it is had again
pub code-put : (o : Option Term) (k : ℕ) → MatchOption o (4294967552 ≤ k) (λ t. (k ≡ code t) × Codes t) → code_within k ≡ true → unwrap_or o (Number 0) ≡ fill (decode k)
unfolding fill
code-put (Some t) k h w = rw (h.0, decode-code t h.1)
code-put None k h w = let g : 8589934592 ≤ k = grind (arith, nat_tests) in rw (decode_past k g)

pub code_at : (a : List ℕ) (x : ℕ) → list_all code_within a ≡ true → x < length a → code_within (get_or a x 0) ≡ true
code_at a x e h = AllPass-from_list_all code_within a e x 0 h

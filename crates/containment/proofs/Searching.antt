-- The search for a reading finds one exactly if there is one.
use Rattle.std.proofs.Common.{◌≡◌, ℕ, Bool, true, false, cond, eqb, List, [], ◌∷◌, is_some, Some, None, Option, sym, refl, ap, ◌∙◌, subst, ap₂, arith, eq-eqb, ne_eqb, eqb-true}
use borrow.Author.Tests.{eqb-false, clash}
use Rattle.std.specs.Option.{option_or}
use Rattle.question.specs.declared.terms.Term.{Term}
use Rattle.question.specs.declared.terms.Term.TheVariants.{Number, Variable}
use Rattle.question.specs.Question.{Line, Question, In}
use Rattle.question.proofs.Members.{in_cases}
use Rattle.question.proofs.Places.{line_path}
use Rattle.containment.specs.Reading.{put, all_put, line_put, Into, Reads}
use Rattle.containment.specs.Search.{term_eqb, Part, nothing, put_one, and_then, match_var, match_term, match_terms, match_line, try_lines, read_lines, first_reading, can_read, fill, filling}
use Rattle.containment.specs.Laws.{SearchExact}

pub term_eqb_true : (s t : Term) → term_eqb s t ≡ true → s ≡ t
unfolding term_eqb
term_eqb_true (Number m) (Number n) e = ap Number (eqb-true m n e)
term_eqb_true (Number m) (Variable y) e = absurd (clash e)
term_eqb_true (Variable x) (Number n) e = absurd (clash e)
term_eqb_true (Variable x) (Variable y) e = ap Variable (eqb-true x y e)

pub term_eqb_false : (s t : Term) → term_eqb s t ≡ false → s ≡ t → ⊥
unfolding term_eqb
term_eqb_false (Number m) (Number n) e p = eqb-false m n e (cc p)
term_eqb_false (Number m) (Variable y) e p = let z : ◌≡◌ {A = ℕ} 0 1 = cc p in omega arith
term_eqb_false (Variable x) (Number n) e p = let z : ◌≡◌ {A = ℕ} 0 1 = cc p in omega arith
term_eqb_false (Variable x) (Variable y) e p = eqb-false x y e (cc p)

-- a reading goes on from what is put
abbrev pub Ext : (ℕ → Term) → Part → Type 0
Ext h s = (x : ℕ) (t : Term) → s x ≡ Some t → h x ≡ t

-- what a match answers is exactly what is needed for Q, past s
abbrev pub Exact : Option Part → Part → ((ℕ → Term) → Type 0) → Type 0
Exact None s Q = (h : ℕ → Term) → Ext h s → Q h → ⊥
Exact (Some r) s Q = (h : ℕ → Term) → (Ext h r → Ext h s × Q h) × (Ext h s → Q h → Ext h r)

pub exact_then : (o : Option Part) (f : Part → Option Part) (s : Part) (Q R : (ℕ → Term) → Type 0) → Exact o s Q → ((r : Part) → Exact (f r) r R) → Exact (and_then o f) s (λ h. Q h × R h)
exact_then None f s Q R a b = λ h e q. a h e q.0
exact_then (Some r) f s Q R a b = go (f r) (b r)
  where
    go : (o : Option Part) → Exact o r R → Exact o s (λ h. Q h × R h)
    go None c = λ h e q. c h ((a h).1 e q.0) q.1
    go (Some t) c = λ h. (λ e. (((a h).0 ((c h).0 e).0).0, (((a h).0 ((c h).0 e).0).1, ((c h).0 e).1)), λ e q. (c h).1 ((a h).1 e q.0) q.1)

pub exact_map : (o : Option Part) (s : Part) (Q R : (ℕ → Term) → Type 0) → ((h : ℕ → Term) → Q h → R h) → ((h : ℕ → Term) → R h → Q h) → Exact o s Q → Exact o s R
exact_map None s Q R f g a = λ h e q. a h e (g h q)
exact_map (Some r) s Q R f g a = λ h. (λ e. (((a h).0 e).0, f h ((a h).0 e).1), λ e q. (a h).1 e (g h q))

exact_cond : (c : Bool) (s : Part) (Q : (ℕ → Term) → Type 0) → (c ≡ true → (h : ℕ → Term) → Ext h s → Q h) → (c ≡ false → (h : ℕ → Term) → Ext h s → Q h → ⊥) → Exact (cond c (Some s) None) s Q
exact_cond true s Q f g = λ h. (λ e. (e, f refl h e), λ e q. e)
exact_cond false s Q f g = g refl

pub none-some : {A : Type 0} {a : A} (o : Option A) → o ≡ None → o ≡ Some a → ⊥
none-some o p q = let z : ◌≡◌ {A = ℕ} 0 1 = cc in omega arith

put_back : (s : Part) (x : ℕ) (c : Term) (y : ℕ) (t : Term) → s x ≡ None → s y ≡ Some t → put_one s x c y ≡ Some t
put_back s x c y t e p = ap (λ (b : Bool). cond b (Some c) (s y)) (ne_eqb x y (λ q. none-some (s x) e (ap s q ∙ p))) ∙ p

put-new : (s : Part) (x : ℕ) (c : Term) → put_one s x c x ≡ Some c
put-new s x c = ap (λ (b : Bool). cond b (Some c) (s x)) (eq-eqb x x refl)

put_out : (b : Bool) (h : ℕ → Term) (s : Part) (x : ℕ) (c : Term) (y : ℕ) (t : Term) → eqb x y ≡ b → Ext h s → h x ≡ c → cond b (Some c) (s y) ≡ Some t → h y ≡ t
put_out true h s x c y t e es q p = let z : x ≡ y = eqb-true x y e in let w : c ≡ t = cc p in ap h (sym z) ∙ q ∙ w
put_out false h s x c y t e es q p = es y t p

exact_var : (o : Option Term) (s : Part) (x : ℕ) (c : Term) → s x ≡ o → Exact (match_var o s x c) s (λ h. h x ≡ c)
unfolding match_var
exact_var None s x c e = λ h. (λ er. (λ y t p. er y t (put_back s x c y t e p), er x c (put-new s x c)), λ es q y t p. put_out (eqb x y) h s x c y t refl es q p)
exact_var (Some d) s x c e = exact_cond (term_eqb d c) s (λ h. h x ≡ c) (λ k h es. es x d e ∙ term_eqb_true d c k) (λ k h es q. term_eqb_false d c k (sym (es x d e) ∙ q))

pub exact_term : (s : Part) (t c : Term) → Exact (match_term s t c) s (λ h. put h t ≡ c)
unfolding match_term
exact_term s (Number n) c = exact_cond (term_eqb (Number n) c) s (λ h. Number n ≡ c) (λ k h es. term_eqb_true (Number n) c k) (λ k h es q. term_eqb_false (Number n) c k q)
exact_term s (Variable x) c = exact_var (s x) s x c refl

pub exact_terms : (s : Part) (ts cs : List Term) → Exact (match_terms s ts cs) s (λ h. all_put h ts ≡ cs)
unfolding match_terms all_put
exact_terms s [] [] = λ h. (λ e. (e, refl), λ e q. e)
exact_terms s [] (c ∷ cs) = λ h e q. let z : ◌≡◌ {A = ℕ} 0 1 = cc q in omega arith
exact_terms s (t ∷ ts) [] = λ h e q. let z : ◌≡◌ {A = ℕ} 0 1 = cc q in omega arith
exact_terms s (t ∷ ts) (c ∷ cs) =
    exact_map (and_then (match_term s t c) (λ r. match_terms r ts cs)) s (λ h. (put h t ≡ c) × (all_put h ts ≡ cs)) (λ h. all_put h (t ∷ ts) ≡ (c ∷ cs))
    (λ h q. ap₂ {C = List Term} (λ a r. a ∷ r) q.0 q.1) (λ h q. (cc q, cc q))
    (exact_then (match_term s t c) (λ r. match_terms r ts cs) s (λ h. put h t ≡ c) (λ h. all_put h ts ≡ cs) (exact_term s t c) (λ r. exact_terms r ts cs))

pub exact_line : (s : Part) (l m : Line) → Exact (match_line s l m) s (λ h. line_put h l ≡ m)
unfolding match_line line_put
exact_line s l m = go (eqb l.table m.table) refl
  where
    go : (b : Bool) → eqb l.table m.table ≡ b → Exact (cond b (match_terms s l.cells m.cells) None) s (λ h. line_put h l ≡ m)
    go true e =
        exact_map (match_terms s l.cells m.cells) s (λ h. all_put h l.cells ≡ m.cells) (λ h. line_put h l ≡ m)
        (λ h q. line_path (line_put h l) m (eqb-true _ _ e) q) (λ h q. ap (λ (x : Line). x.cells) q) (exact_terms s l.cells m.cells)
    go false e = λ h es q. eqb-false _ _ e (ap (λ (x : Line). x.table) q)

-- what a search answers: none only if nothing past s has Q, and else a part past s after which Q holds
abbrev pub Finds : Option Part → Part → ((ℕ → Term) → Type 0) → Type 0
Finds None s Q = (h : ℕ → Term) → Ext h s → Q h → ⊥
Finds (Some r) s Q = (h : ℕ → Term) → Ext h r → Ext h s × Q h

finds-map : (o : Option Part) (s : Part) (Q R : (ℕ → Term) → Type 0) → ((h : ℕ → Term) → Q h → R h) → ((h : ℕ → Term) → R h → Q h) → Finds o s Q → Finds o s R
finds-map None s Q R f g a = λ h e q. a h e (g h q)
finds-map (Some r) s Q R f g a = λ h e. ((a h e).0, f h (a h e).1)

finds_then : (o : Option Part) (f : Part → Option Part) (s : Part) (Q R : (ℕ → Term) → Type 0) → Exact o s Q → ((r : Part) → Finds (f r) r R) → Finds (and_then o f) s (λ h. Q h × R h)
finds_then None f s Q R a b = λ h e q. a h e q.0
finds_then (Some r) f s Q R a b = go (f r) (b r)
  where
    go : (o : Option Part) → Finds o r R → Finds o s (λ h. Q h × R h)
    go None c = λ h e q. c h ((a h).1 e q.0) q.1
    go (Some t) c = λ h e. (((a h).0 (c h e).0).0, (((a h).0 (c h e).0).1, (c h e).1))

try_step : (o p : Option Part) (s : Part) (l m : Line) (ms : List Line) (R : (ℕ → Term) → Type 0) → Finds o s (λ h. (line_put h l ≡ m) × R h) → Finds p s (λ h. In (line_put h l) ms × R h)
    → Finds (option_or o p) s (λ h. In (line_put h l) (m ∷ ms) × R h)
try_step None None s l m ms R a b = λ h e q. in_cases ⊥ (λ z. a h e (sym z, q.1)) (λ i. b h e (i, q.1)) q.0
try_step None (Some r) s l m ms R a b = λ h e. let t = b h e in (t.0, (In.there t.1.0, t.1.1))
try_step (Some r) p s l m ms R a b = λ h e. let t = a h e in (t.0, (subst (λ (k : Line). In (line_put h l) (k ∷ ms)) t.1.0 In.here, t.1.1))

pub try_finds : (go : Part → Option Part) (ms : List Line) (l : Line) (s : Part) (R : (ℕ → Term) → Type 0) → ((r : Part) → Finds (go r) r R) → Finds (try_lines go ms l s) s (λ h. In (line_put h l) ms × R h)
unfolding try_lines
try_finds go [] l s R f = λ h e q. elim q.0 [ ]
try_finds go (m ∷ ms) l s R f =
    try_step (and_then (match_line s l m) go) (try_lines go ms l s) s l m ms R (finds_then (match_line s l m) go s (λ h. line_put h l ≡ m) R (exact_line s l m) f) (try_finds go ms l s R f)

into_head : {h : ℕ → Term} {ms : List Line} {l : Line} {ls : List Line} → Into h ms (l ∷ ls) → In (line_put h l) ms × Into h ms ls
into_head (Into.and_line a r) = (a, r)

pub read_finds : (ls ms : List Line) (s : Part) → Finds (read_lines ls ms s) s (λ h. Into h ms ls)
unfolding read_lines
read_finds [] ms s = λ h e. (e, Into.none_left)
read_finds (l ∷ ls) ms s =
    finds-map (try_lines (read_lines ls ms) ms l s) s (λ h. In (line_put h l) ms × Into h ms ls) (λ h. Into h ms (l ∷ ls)) (λ h q. Into.and_line q.0 q.1) (λ h i. into_head i)
    (try_finds (read_lines ls ms) ms l s (λ h. Into h ms ls) (λ r. read_finds ls ms r))

pub first_finds : (q p : Question) → Finds (first_reading q p) nothing (λ h. (all_put h q.row ≡ p.row) × Into h p.lines q.lines)
unfolding first_reading
first_finds q p =
    finds_then (match_terms nothing q.row p.row) (read_lines q.lines p.lines) nothing (λ h. all_put h q.row ≡ p.row) (λ h. Into h p.lines q.lines)
    (exact_terms nothing q.row p.row) (λ r. read_finds q.lines p.lines r)

-- whatever is put can be filled up
pub filled : (s : Part) → Ext (filling s) s
unfolding fill
filled s x t e = ap fill e

pub from_nothing : (h : ℕ → Term) → Ext h nothing
from_nothing h x t n = absurd (none-some None refl n)

-- the first reading is one
pub first_reads : (q p : Question) (s : Part) → first_reading q p ≡ Some s → Reads q p
first_reads q p s e =
    let f : Finds (Some s) nothing (λ h. (all_put h q.row ≡ p.row) × Into h p.lines q.lines)
    = subst (λ (o : Option Part). Finds o nothing (λ h. (all_put h q.row ≡ p.row) × Into h p.lines q.lines)) e (first_finds q p) in
    let r = f (filling s) (filled s) in
    record { how = filling s; lines = r.1.1; row = r.1.0 }

pub can_read-reads : (q p : Question) → can_read q p ≡ true → Reads q p
unfolding can_read
can_read-reads q p e = go (first_reading q p) refl e
  where
    go : (o : Option Part) → first_reading q p ≡ o → is_some o ≡ true → Reads q p
    go None e k = absurd (clash k)
    go (Some s) e k = first_reads q p s e

pub reads-can_read : (q p : Question) → Reads q p → can_read q p ≡ true
unfolding can_read
reads-can_read q p e = go (first_reading q p) (first_finds q p)
  where
    go : (o : Option Part) → Finds o nothing (λ h. (all_put h q.row ≡ p.row) × Into h p.lines q.lines) → is_some o ≡ true
    go None f = absurd (f e.how (from_nothing e.how) (e.row, e.lines))
    go (Some s) f = refl

pub search_exact : SearchExact
search_exact q p = (can_read-reads q p, reads-can_read q p)

pub reads_dec : (q p : Question) → Dec (Reads q p)
reads_dec q p = go (can_read q p) refl
  where
    go : (b : Bool) → can_read q p ≡ b → Dec (Reads q p)
    go true e = yes (can_read-reads q p e)
    go false e = no (λ r. clash (sym e ∙ reads-can_read q p r))

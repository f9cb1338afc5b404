-- The expansion answers what the reports tell.
use Rattle.std.proofs.Common.{◌≡◌, ℕ, zero, suc, ◌+◌, ◌-◌, ◌<◌, ◌≤◌, Bool, true, false, cond, eqb, ltb, ◌⊎◌, List, [], ◌∷◌, ◌++◌, get_or, drop, sym, refl, ap, ◌∙◌, subst, inl, inr, arith, le-ltb, lt-ltb, eq-eqb, eqb-true}
use borrow.Author.Tests.{clash}
use Rattle.question.specs.declared.terms.Term.{Term}
use Rattle.question.specs.declared.terms.Term.TheVariants.{Number, Variable}
use Rattle.question.specs.Question.{Line, Question, Row, Base, Value, at, all_at, In, Stand, Answers}
use Rattle.containment.specs.Reading.{all_put, line_put, put_lines}
use Rattle.containment.proofs.Readings.{after, all_at-put, all_at-same, all_put-same, stand-all, into_from, in_put_lines}
use Rattle.containment.proofs.Chosen.{chosen, chosen_in, every, chosen_every}
use Rattle.reports.specs.Reports.{no_question, Held, Told, Shaped}
use Rattle.reports.specs.Expand.{assign, use_put, use_lines, expand_lines, expand, Below, Narrow}
use Rattle.reports.proofs.Reporting.{held_same}

-- the expansion of some uses only, each with the variables that it had
unfoldable pub expand-some : (reports : List Question) (width base : ℕ) → List Bool → List Line → List Line
expand-some reports width base m [] = []
expand-some reports width base [] (l ∷ ls) = []
expand-some reports width base (true ∷ m) (l ∷ ls) = use_lines reports base l ++ expand-some reports width (base + width) m ls
expand-some reports width base (false ∷ m) (l ∷ ls) = expand-some reports width (base + width) m ls

pub stand_join : {b : Base} {v : Value} {ls ms : List Line} → Stand b v ls → Stand b v ms → Stand b v (ls ++ ms)
stand_join Stand.none_left t = t
stand_join (Stand.and_line i s) t = Stand.and_line i (stand_join s t)

pub stand_parts : {b : Base} {v : Value} (ls ms : List Line) → Stand b v (ls ++ ms) → Stand b v ls × Stand b v ms
stand_parts [] ms s = (Stand.none_left, s)
stand_parts (l ∷ ls) ms (Stand.and_line i s) = let p = stand_parts ls ms s in (Stand.and_line i p.0, p.1)

pub stand-put : {b : Base} {u : Value} (v : Value) (h : ℕ → Term) {ls : List Line} → ((l : Line) → In l ls → all_at u l.cells ≡ all_at v (all_put h l.cells)) → Stand b u ls → Stand b v (put_lines h ls)
unfolding put_lines line_put
stand-put v h f Stand.none_left = Stand.none_left
stand-put {b} v h f (Stand.and_line {l = l} i s) =
    Stand.and_line (subst (λ (r : Row). In r (b l.table)) (f l In.here) i) (stand-put v h (λ m a. f m (In.there a)) s)

-- what a use assigns
cond_same : (c : Bool) (x y : ℕ) (u v : Value) (t s : Term) → eqb y x ≡ c → u y ≡ at v t → at v s ≡ u x → at v (cond c t s) ≡ u x
cond_same true x y u v t s e p q = sym p ∙ ap u (eqb-true y x e)
cond_same false x y u v t s e p q = q

pub assign-at : (u v : Value) (row cells : List Term) (d : Term) (x : ℕ) → all_at u row ≡ all_at v cells → at v d ≡ u x → at v (assign row cells d x) ≡ u x
unfolding assign all_at
assign-at u v [] cs d x e h = h
assign-at u v (r ∷ rs) [] d x e h = h
assign-at u v (Number n ∷ rs) (c ∷ cs) d x e h = assign-at u v rs cs d x (ap (drop 1) e) h
assign-at u v (Variable y ∷ rs) (c ∷ cs) d x e h =
    cond_same (eqb y x) x y u v c (assign rs cs d x) refl (ap (λ (r : Row). get_or r 0 0) e) (assign-at u v rs cs d x (ap (drop 1) e) h)

cond_mem : (c : Bool) (t s d : Term) (cs : List Term) → (s ≡ d) ⊎ In s cs → (cond c t s ≡ d) ⊎ In (cond c t s) (t ∷ cs)
cond_mem true t s d cs h = inr In.here
cond_mem false t s d cs (inl e) = inl e
cond_mem false t s d cs (inr m) = inr (In.there m)

pub assign_in : (row cells : List Term) (d : Term) (x : ℕ) → (assign row cells d x ≡ d) ⊎ In (assign row cells d x) cells
unfolding assign
assign_in [] cs d x = inl refl
assign_in (r ∷ rs) [] d x = inl refl
assign_in (Number n ∷ rs) (c ∷ cs) d x = elim (assign_in rs cs d x) [ inl e ↦ inl e | inr m ↦ inr (In.there m) ]
assign_in (Variable y ∷ rs) (c ∷ cs) d x = cond_mem (eqb y x) c (assign rs cs d x) d cs (assign_in rs cs d x)

-- the row of the report becomes the cells of the use, where these are the row with its variables put as something
cond-how : (c : Bool) (x y : ℕ) (how : ℕ → Term) (t s : Term) → eqb y x ≡ c → how y ≡ t → (c ≡ false → s ≡ how x) → cond c t s ≡ how x
cond-how true x y how t s e p q = sym p ∙ ap how (eqb-true y x e)
cond-how false x y how t s e p q = q refl

pub assign-how : (row cells : List Term) (how : ℕ → Term) (d : Term) (x : ℕ) → all_put how row ≡ cells → In (Variable x) row → assign row cells d x ≡ how x
unfolding assign all_put
assign-how [] cs how d x e m = elim m [ ]
assign-how (r ∷ rs) [] how d x e m = let z : ◌≡◌ {A = ℕ} 0 1 = cc e in absurd (omega arith)
assign-how (Number n ∷ rs) (c ∷ cs) how d x e (In.there m) = assign-how rs cs how d x (cc e) m
assign-how (Variable y ∷ rs) (c ∷ cs) how d x e In.here = cond-how (eqb y y) y y how c (assign rs cs d y) refl (cc e) (λ f. absurd (clash (sym f ∙ eq-eqb y y refl)))
assign-how (Variable y ∷ rs) (c ∷ cs) how d x e (In.there m) = cond-how (eqb y x) x y how c (assign rs cs d x) refl (cc e) (λ f. assign-how rs cs how d x (cc e) m)

pub assign-row : (row cells : List Term) (how d : ℕ → Term) → all_put how row ≡ cells → all_put (λ x. assign row cells (d x) x) row ≡ cells
assign-row row cells how d e = all_put-same _ how row (λ x m. assign-how row cells how (d x) x e m) ∙ e

-- one use: what the expansion says of it is what the report answers
pub use_gather : {b : Base} {v : Value} (reports : List Question) (base : ℕ) (l : Line) → Shaped reports l → Stand b v (use_lines reports base l)
    → Answers b (get_or reports l.table no_question) (all_at v l.cells)
use_gather {b} {v} reports base l f s =
    let r : Question = get_or reports l.table no_question in
    let h : ℕ → Term = use_put reports base l in
    record {
      value = after v h;
      stand = stand-all (into_from r.lines (λ m i. in_put_lines h i)) s;
      is = sym (all_at-put v h r.row) ∙ ap (all_at v) (assign-row r.row l.cells f.1.0 (λ x. Variable (base + x)) f.1.1);
    }

pub gather : {b : Base} {v : Value} (reports : List Question) (width base : ℕ) (m : List Bool) (ls : List Line) → ((l : Line) → In l ls → Shaped reports l)
    → Stand b v (expand-some reports width base m ls) → Held b reports v (chosen m ls)
unfolding expand-some chosen
gather reports width base m [] f s = Held.none_left
gather reports width base [] (l ∷ ls) f s = Held.none_left
gather reports width base (true ∷ m) (l ∷ ls) f s =
    let p = stand_parts (use_lines reports base l) (expand-some reports width (base + width) m ls) s in
    Held.and_line (f l In.here).0 (use_gather reports base l (f l In.here) p.0) (gather reports width (base + width) m ls (λ k i. f k (In.there i)) p.1)
gather reports width base (false ∷ m) (l ∷ ls) f s = gather reports width (base + width) m ls (λ k i. f k (In.there i)) s

pub narrow_at : (width : ℕ) (reports : List Question) → Narrow width reports → (t : ℕ) → Below width (get_or reports t no_question).lines
narrow_at width [] na t = λ l a. elim a [ ]
narrow_at width (r ∷ rs) na zero = na r In.here
narrow_at width (r ∷ rs) na (suc t) = narrow_at width rs (λ s i. na s (In.there i)) t

-- a value that has another's numbers below base, and from base on those of a use
abbrev pub graft : ℕ → Value → Value → Value
graft base v u n = cond (ltb n base) (v n) (u (n - base))

graft_low : (base : ℕ) (v u : Value) (n : ℕ) → n < base → graft base v u n ≡ v n
graft_low base v u n h = rw (lt-ltb n base h)

graft_high : (base : ℕ) (v u : Value) (x : ℕ) → graft base v u (base + x) ≡ u x
graft_high base v u x =
    let h : base ≤ base + x = omega arith in
    let e : base + x - base ≡ x = omega arith in
    rw (le-ltb (base + x) base h, e)

pub record Spread (b : Base) (base : ℕ) (v : Value) (ls : List Line) : Type 0 where
  pub value : Value
  pub low : (n : ℕ) → n < base → value n ≡ v n
  pub stand : Stand b value ls

pub use_spread : {b : Base} (v : Value) (reports : List Question) (width base : ℕ) (l : Line) → Narrow width reports → ((x : ℕ) → In (Variable x) l.cells → x < base)
    → (a : Answers b (get_or reports l.table no_question) (all_at v l.cells)) (w : Value) → ((n : ℕ) → n < base + width → w n ≡ graft base v a.value n)
    → Stand b w (use_lines reports base l)
use_spread {b} v reports width base l na be a w f =
    stand-put w (use_put reports base l) (λ k i. all_at-same a.value (after w (use_put reports base l)) k.cells (λ x m. sym (each x (narrow_at width reports na l.table k i x m))) ∙ sym (all_at-put w (use_put reports base l) k.cells)) a.stand
  where
    row_is : all_at a.value (get_or reports l.table no_question).row ≡ all_at w l.cells
    row_is = a.is ∙ all_at-same v w l.cells (λ x m. sym (f x (let h : x < base = be x m in omega arith) ∙ graft_low base v a.value x (be x m)))

    each : (x : ℕ) → x < width → after w (use_put reports base l) x ≡ a.value x
    each x h = assign-at a.value w (get_or reports l.table no_question).row l.cells (Variable (base + x)) x row_is (f (base + x) (omega arith) ∙ graft_high base v a.value x)

pub spread : {b : Base} (reports : List Question) (width base : ℕ) (v : Value) (m : List Bool) (ls : List Line) → Narrow width reports → Below base ls
    → Held b reports v (chosen m ls) → Spread b base v (expand-some reports width base m ls)
unfolding expand-some chosen
spread reports width base v m [] na be h = record { value = v; low = λ n _. refl; stand = Stand.none_left }
spread reports width base v [] (l ∷ ls) na be h = record { value = v; low = λ n _. refl; stand = Stand.none_left }
spread {b} reports width base v (true ∷ m) (l ∷ ls) na be (Held.and_line t a s) =
    let v₁ : Value = graft base v a.value in
    let s₁ : Held b reports v₁ (chosen m ls) = held_same v₁ (λ k i. all_at-same v v₁ k.cells (λ x j. sym (graft_low base v a.value x (be k (In.there (chosen_in m ls k i)) x j)))) s in
    let r : Spread b (base + width) v₁ (expand-some reports width (base + width) m ls)
    = spread reports width (base + width) v₁ m ls na (λ k i x j. let y : x < base = be k (In.there i) x j in omega arith) s₁ in
    record {
      value = r.value;
      low = λ n k. r.low n (omega arith) ∙ graft_low base v a.value n k;
      stand = stand_join (use_spread v reports width base l na (be l In.here) a r.value r.low) r.stand;
    }
spread reports width base v (false ∷ m) (l ∷ ls) na be h =
    let r = spread reports width (base + width) v m ls na (λ k i x j. let y : x < base = be k (In.there i) x j in omega arith) h in
    record { value = r.value; low = λ n k. r.low n (omega arith); stand = r.stand }

-- all uses
pub expand_every : (reports : List Question) (width base : ℕ) (ls : List Line) → expand-some reports width base (every ls) ls ≡ expand_lines reports width base ls
unfolding expand-some every expand_lines
expand_every reports width base [] = refl
expand_every reports width base (l ∷ ls) = ap (λ (xs : List Line). use_lines reports base l ++ xs) (expand_every reports width (base + width) ls)

-- the expansion is correct
pub expand-told : (reports : List Question) (width base : ℕ) (p : Question) → ((l : Line) → In l p.lines → Shaped reports l)
    → (b : Base) (r : Row) → Answers b (expand reports width base p) r → Told b reports p r
unfolding expand
expand-told reports width base p f b r a =
    record {
      value = a.value;
      held = subst (λ (ls : List Line). Held b reports a.value ls) (chosen_every p.lines)
          (gather reports width base (every p.lines) p.lines f (subst (λ (ls : List Line). Stand b a.value ls) (sym (expand_every reports width base p.lines)) a.stand));
      is = a.is;
    }

pub told-expand : (reports : List Question) (width base : ℕ) (p : Question) → Narrow width reports → Below base p.lines → ((x : ℕ) → In (Variable x) p.row → x < base)
    → (b : Base) (r : Row) → Told b reports p r → Answers b (expand reports width base p) r
unfolding expand
told-expand reports width base p na be br b r a =
    let s : Spread b base a.value (expand-some reports width base (every p.lines) p.lines)
    = spread reports width base a.value (every p.lines) p.lines na be (subst (λ (ls : List Line). Held b reports a.value ls) (sym (chosen_every p.lines)) a.held) in
    record {
      value = s.value;
      stand = subst (λ (ls : List Line). Stand b s.value ls) (expand_every reports width base p.lines) s.stand;
      is = all_at-same s.value a.value p.row (λ x m. s.low x (br x m)) ∙ a.is;
    }

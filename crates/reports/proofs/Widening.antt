-- The widest question as it is made: all uses that the reports have on the question's own lines, and no others.
use Rattle.std.proofs.Common.{◌≡◌, ℕ, zero, suc, ◌+◌, ◌<◌, Bool, true, false, cond, List, [], ◌∷◌, map, length, get_or, Some, None, Option, sym, refl, ap, ◌∙◌, subst, inl, inr, le_of_suc-le-suc, not-suc-le-zero, arith}
use Rattle.question.specs.declared.terms.Term.{Term}
use Rattle.question.specs.declared.terms.Term.TheVariants.{Number, Variable}
use Rattle.question.specs.Question.{Line, Question, In}
use Rattle.question.specs.Sound.{sound}
use Rattle.question.proofs.Members.{in_left, in_right, in_split, Used, sound_parts}
use Rattle.question.proofs.Places.{line_path, in_head, in_map, map_each}
use Rattle.containment.specs.Reading.{put, all_put, line_put, Into, Reads}
use Rattle.containment.specs.Search.{Part, nothing, match_line, filling}
use Rattle.containment.proofs.Readings.{all_put-same, all_put-at, in_put, put_in, into_at}
use Rattle.containment.proofs.Searching.{Ext, Exact, exact_line, filled, from_nothing}
use Rattle.reports.specs.Reports.{no_question, all_sound}
use Rattle.reports.specs.Expand.{Below}
use Rattle.reports.specs.Widest.{OwnUse, Widest, on_each, all_lines, all_readings, use_of, all_uses, line_less, insert_line, sort_lines, widest}
use Rattle.reports.proofs.Reporting.{sound-at}
use Rattle.reports.proofs.Ordering.{line_same}

-- readings that are found among all
lines-some : (go : Part → List Part) (ms : List Line) (l : Line) (s t : Part) → In t (all_lines go ms l s) → (m : Line) × In m ms × In t (on_each (match_line s l m) go)
unfolding all_lines
lines-some go [] l s t k = elim k [ ]
lines-some go (m ∷ ms) l s t k =
    elim (in_split (on_each (match_line s l m) go) (all_lines go ms l s) k) [ inl a ↦ (m, In.here, a) | inr b ↦ (let r = lines-some go ms l s t b in (r.0, In.there r.1, r.2)) ]

some-lines : (go : Part → List Part) (l : Line) (s t : Part) {m : Line} {ms : List Line} → In m ms → In t (on_each (match_line s l m) go) → In t (all_lines go ms l s)
unfolding all_lines
some-lines go l s t (In.here {xs = ms}) k = in_left (all_lines go ms l s) k
some-lines go l s t (In.there {x = n} a) k = in_right (on_each (match_line s l n) go) (some-lines go l s t a k)

on_in : (o : Option Part) (f : Part → List Part) (s t : Part) (Q : (ℕ → Term) → Type 0) → Exact o s Q → In t (on_each o f) → (r : Part) × In t (f r) × ((h : ℕ → Term) → Ext h r → Ext h s × Q h)
on_in None f s t Q a k = elim k [ ]
on_in (Some r) f s t Q a k = (r, k, λ h e. (a h).0 e)

-- each is a reading
pub readings_right : (ls ms : List Line) (s t : Part) → In t (all_readings ls ms s) → (h : ℕ → Term) → Ext h t → Ext h s × Into h ms ls
unfolding all_readings
readings_right [] ms s t In.here h e = (e, Into.none_left)
readings_right [] ms s t (In.there k) h e = elim k [ ]
readings_right (l ∷ ls) ms s t k h e =
    let a = lines-some (all_readings ls ms) ms l s t k in
    let b = on_in (match_line s l a.0) (all_readings ls ms) s t (λ g. line_put g l ≡ a.0) (exact_line s l a.0) a.2 in
    let c = readings_right ls ms b.0 t b.1 h e in
    let d = b.2 h c.0 in
    (d.0, Into.and_line (subst (λ (m : Line). In m ms) (sym d.1) a.1) c.1)

-- each reading is there, as far as it matters
pub record Reached (h : ℕ → Term) (ls ms : List Line) (s : Part) : Type 0 where
  pub part : Part
  pub is_in : In part (all_readings ls ms s)
  pub same : (g : ℕ → Term) → Ext g part → Ext g s × ((l : Line) → In l ls → line_put g l ≡ line_put h l)

reached_on : (h : ℕ → Term) (ls ms : List Line) (s : Part) (l : Line) (o : Option Part) → In (line_put h l) ms → Exact o s (λ g. line_put g l ≡ line_put h l) → o ≡ match_line s l (line_put h l) → Ext h s
    → ((r : Part) → Ext h r → Reached h ls ms r) → Reached h (l ∷ ls) ms s
unfolding all_readings
reached_on h ls ms s l None a x e es f = absurd (x h es refl)
reached_on h ls ms s l (Some r) a x e es f =
    let t : Reached h ls ms r = f r ((x h).1 es refl) in
    record {
      part = t.part;
      is_in = some-lines (all_readings ls ms) l s t.part a (subst (λ (o : Option Part). In t.part (on_each o (all_readings ls ms))) e t.is_in);
      same = λ g eg. let u = t.same g eg in let v = (x g).0 u.0 in (v.0, λ k i. in_head (λ y. line_put g y ≡ line_put h y) v.1 (u.1 k) i);
    }

pub reached : (h : ℕ → Term) (ls ms : List Line) (s : Part) → Ext h s → Into h ms ls → Reached h ls ms s
unfolding all_readings
reached h [] ms s e Into.none_left = record { part = s; is_in = In.here; same = λ g eg. (eg, λ l i. elim i [ ]) }
reached h (l ∷ ls) ms s e (Into.and_line a r) = reached_on h ls ms s l (match_line s l (line_put h l)) a (exact_line s l (line_put h l)) refl e (λ t et. reached h ls ms t et r)

-- the uses of one report
pub use_right : (q r : Question) (s : Part) → In s (all_readings r.lines q.lines nothing) → Reads r (record { row = all_put (filling s) r.row; lines = q.lines })
use_right q r s m = record { how = filling s; lines = (readings_right r.lines q.lines nothing s m (filling s) (filled s)).1; row = refl }

pub use_there : (q r : Question) (cs : List Term) → sound r ≡ true → Reads r (record { row = cs; lines = q.lines }) → (s : Part) × In s (all_readings r.lines q.lines nothing) × (all_put (filling s) r.row ≡ cs)
unfolding line_put
use_there q r cs so e =
    let t : Reached e.how r.lines q.lines nothing = reached e.how r.lines q.lines nothing (from_nothing e.how) e.lines in
    let u = t.same (filling t.part) (filled t.part) in (
      t.part,
      t.is_in,
      all_put-same (filling t.part) e.how r.row (λ x m.
          let v : Used x r.lines = (sound_parts r so).row x m in
          all_put-at (filling t.part) e.how x v.line.cells (ap (λ (l : Line). l.cells) (u.1 v.line v.is_in)) v.stands) ∙ e.row,
    )

pub uses-right : (q : Question) (k : ℕ) (rs : List Question) (l : Line) → In l (all_uses q k rs)
    → (i : ℕ) × (l.table ≡ k + i) × (i < length rs) × Reads (get_or rs i no_question) (record { row = l.cells; lines = q.lines })
unfolding all_uses
uses-right q k [] l a = elim a [ ]
uses-right q k (r ∷ rs) l a =
    elim (in_split (map (use_of k r) (all_readings r.lines q.lines nothing)) (all_uses q (suc k) rs) a) [
      | inl b ↦ map_each (use_of k r) (λ m. (i : ℕ) × (m.table ≡ k + i) × (i < length (r ∷ rs)) × Reads (get_or (r ∷ rs) i no_question) (record { row = m.cells; lines = q.lines }))
          (all_readings r.lines q.lines nothing) (λ s n. (0, omega arith, omega arith, use_right q r s n)) l b
      | inr b ↦ (let t = uses-right q (suc k) rs l b in (suc t.0, (let e = t.1 in omega arith), (let h = t.2 in omega arith), t.3))
    ]

pub uses-there : (q : Question) (k : ℕ) (rs : List Question) (i : ℕ) (cs : List Term) → i < length rs → sound (get_or rs i no_question) ≡ true → Reads (get_or rs i no_question) (record { row = cs; lines = q.lines })
    → In (record { table = k + i; cells = cs }) (all_uses q k rs)
unfolding all_uses
uses-there q k [] i cs h so e = absurd (not-suc-le-zero h)
uses-there q k (r ∷ rs) zero cs h so e =
    let t = use_there q r cs so e in
    in_left (all_uses q (suc k) rs) (subst (λ (l : Line). In l (map (use_of k r) (all_readings r.lines q.lines nothing))) (line_path (use_of k r t.0) (record { table = k + 0; cells = cs }) (omega arith) t.2) (in_map (use_of k r) t.1))
uses-there q k (r ∷ rs) (suc i) cs h so e =
    in_right (map (use_of k r) (all_readings r.lines q.lines nothing)) (subst (λ (n : ℕ). In (record { table = n; cells = cs }) (all_uses q (suc k) rs)) (omega arith) (uses-there q (suc k) rs i cs (le_of_suc-le-suc h) so e))

-- putting in order
pub insert_new : (l : Line) (ms : List Line) → In l (insert_line l ms)
unfolding insert_line
insert_new l [] = In.here
insert_new l (m ∷ ms) = go (line_less l m) refl (line_less m l) refl (insert_new l ms)
  where
    go : (b : Bool) → line_less l m ≡ b → (c : Bool) → line_less m l ≡ c → In l (insert_line l ms) → In l (cond b (l ∷ m ∷ ms) (cond c (m ∷ insert_line l ms) (m ∷ ms)))
    go true e c f i = In.here
    go false e true f i = In.there i
    go false e false f i = subst (λ (x : Line). In l (x ∷ ms)) (line_same l m e f) In.here

pub insert_old : (l : Line) (ms : List Line) (k : Line) → In k ms → In k (insert_line l ms)
unfolding insert_line
insert_old l [] k a = elim a [ ]
insert_old l (m ∷ ms) k a = go (line_less l m) (line_less m l) a (λ b. insert_old l ms k b)
  where
    go : (b c : Bool) → In k (m ∷ ms) → (In k ms → In k (insert_line l ms)) → In k (cond b (l ∷ m ∷ ms) (cond c (m ∷ insert_line l ms) (m ∷ ms)))
    go true c a f = In.there a
    go false true a f = in_head (λ x. In x (m ∷ insert_line l ms)) In.here (λ b. In.there (f b)) a
    go false false a f = a

pub insert_from : (l : Line) (ms : List Line) (P : Line → Type 0) → P l → ((k : Line) → In k ms → P k) → (k : Line) → In k (insert_line l ms) → P k
unfolding insert_line
insert_from l [] P p f k a = in_head P p (f k) a
insert_from l (m ∷ ms) P p f k a = go (line_less l m) (line_less m l) a (insert_from l ms P p (λ j b. f j (In.there b)) k)
  where
    go : (b c : Bool) → In k (cond b (l ∷ m ∷ ms) (cond c (m ∷ insert_line l ms) (m ∷ ms))) → (In k (insert_line l ms) → P k) → P k
    go true c a g = in_head P p (f k) a
    go false true a g = in_head P (f m In.here) g a
    go false false a g = f k a

pub sort_in : (ls : List Line) (k : Line) → In k ls → In k (sort_lines ls)
unfolding sort_lines
sort_in [] k a = elim a [ ]
sort_in (l ∷ ls) k a = in_head (λ x. In x (insert_line l (sort_lines ls))) (insert_new l (sort_lines ls)) (λ b. insert_old l (sort_lines ls) k (sort_in ls k b)) a

pub sort_out : (ls : List Line) (k : Line) → In k (sort_lines ls) → In k ls
unfolding sort_lines
sort_out [] k a = elim a [ ]
sort_out (l ∷ ls) k a = insert_from l (sort_lines ls) (λ x. In x (l ∷ ls)) In.here (λ j b. In.there (sort_out ls j b)) k a

pub widest-is : (reports : List Question) (q : Question) → all_sound reports ≡ true → Widest reports q (widest reports q)
unfolding widest
widest-is reports q ok =
    record {
      row = refl;
      right = λ l a.
          let t = uses-right q 0 reports l (sort_out (all_uses q 0 reports) l a) in
          let e : t.0 ≡ l.table = (let p = t.1 in omega arith) in
          subst (λ (i : ℕ). (i < length reports) × Reads (get_or reports i no_question) (record { row = l.cells; lines = q.lines })) e (t.2, t.3);
      all = λ l u. sort_in (all_uses q 0 reports) l
          (subst (λ (n : ℕ). In (record { table = n; cells = l.cells }) (all_uses q 0 reports)) (omega arith)
          (uses-there q 0 reports l.table l.cells u.0 (sound-at reports l.table ok u.0) u.1));
    }

-- the variables of such uses are the question's
pub own_below : (n : ℕ) (reports : List Question) (q : Question) (l : Line) → all_sound reports ≡ true → Below n q.lines → OwnUse reports q l → (x : ℕ) → In (Variable x) l.cells → x < n
unfolding line_put
own_below n reports q l ok be t x m = go (put_in t.1.how (Variable x) r.row (subst (λ (ts : List Term). In (Variable x) ts) (sym t.1.row) m))
  where
    r : Question
    r = get_or reports l.table no_question

    go : (u : Term) × In u r.row × (put t.1.how u ≡ Variable x) → x < n
    go (Number k, j, e) = let z : ◌≡◌ {A = ℕ} 0 1 = cc e in absurd (omega arith)
    go (Variable y, j, e) =
        let u : Used y r.lines = (sound_parts r (sound-at reports l.table ok t.0)).row y j in
        be (line_put t.1.how u.line) (into_at u.is_in t.1.lines) x (subst (λ (w : Term). In w (all_put t.1.how u.line.cells)) e (in_put t.1.how u.stands))

-- As many uses as the question has lines are enough.
use Rattle.std.proofs.Common.{◌≡◌, ℕ, suc, ◌+◌, ◌<◌, ◌≤◌, Bool, true, false, ◌⊎◌, List, [], ◌∷◌, length, get_or, ◌∙◌, subst, inl, inr, arith}
use Rattle.std.proofs.lemmas.Bool.{and_from}
use Rattle.question.specs.declared.terms.Term.{Term}
use Rattle.question.specs.declared.terms.Term.TheVariants.{Number, Variable}
use Rattle.question.specs.Question.{Line, Question, In, Within}
use Rattle.question.specs.Sound.{sound}
use Rattle.question.proofs.Members.{in_left, in_right, in_split, Used, Sound, sound_parts, sound-from}
use Rattle.question.proofs.Places.{one_in}
use Rattle.containment.specs.Reading.{put, line_put, put_lines, Into, Reads}
use Rattle.containment.proofs.Readings.{all_at-same, reads-within, reads-sound, put_in, put_lines-each, into_more}
use Rattle.containment.proofs.Exactly.{within-reads}
use Rattle.containment.proofs.Chosen.{chosen, chosen_in, count, length_chosen}
use Rattle.reports.specs.Reports.{no_question, AnsweredBy}
use Rattle.reports.specs.Expand.{use_put, use_lines, expand_lines, expand, Below, Narrow}
use Rattle.reports.specs.Widest.{OwnUse}
use Rattle.reports.specs.Laws.{FewUses}
use Rattle.reports.proofs.Reporting.{fits-from}
use Rattle.reports.proofs.OwnUses.{use_fit, use_shaped, uses-held, OnOwn, on-own}
use Rattle.reports.proofs.Expanding.{expand-some, Spread, spread, expand-told, assign_in}

-- a number above all variables
unfoldable pub over_terms : List Term → ℕ
over_terms [] = 0
over_terms (Number n ∷ ts) = over_terms ts
over_terms (Variable x ∷ ts) = suc x + over_terms ts

unfoldable pub over_lines : List Line → ℕ
over_lines [] = 0
over_lines (l ∷ ls) = over_terms l.cells + over_lines ls

unfoldable pub over_reports : List Question → ℕ
over_reports [] = 0
over_reports (r ∷ rs) = over_lines r.lines + over_reports rs

pub over-term : (x : ℕ) (ts : List Term) → In (Variable x) ts → x < over_terms ts
unfolding over_terms
over-term x [] m = elim m [ ]
over-term x (Number n ∷ ts) (In.there m) = over-term x ts m
over-term x (Variable y ∷ ts) In.here = omega arith
over-term x (Variable y ∷ ts) (In.there m) = let h : x < over_terms ts = over-term x ts m in omega arith

pub over-line : (l : Line) (ls : List Line) → In l ls → over_terms l.cells ≤ over_lines ls
unfolding over_lines
over-line l [] a = elim a [ ]
over-line l (k ∷ ls) In.here = omega arith
over-line l (k ∷ ls) (In.there a) = let h : over_terms l.cells ≤ over_lines ls = over-line l ls a in omega arith

pub over_report : {r : Question} {rs : List Question} → In r rs → over_lines r.lines ≤ over_reports rs
unfolding over_reports
over_report (In.here {xs = rs}) = omega arith
over_report {r} (In.there {x = s} {xs = rs} i) = let h : over_lines r.lines ≤ over_reports rs = over_report i in omega arith

pub below-over : (n : ℕ) (ls : List Line) → over_lines ls ≤ n → Below n ls
below-over n ls h l a x m =
    let i : x < over_terms l.cells = over-term x l.cells m in
    let j : over_terms l.cells ≤ over_lines ls = over-line l ls a in
    omega arith

pub narrow-over : (reports : List Question) → Narrow (over_reports reports) reports
narrow-over reports r i = below-over (over_reports reports) r.lines (over_report i)

-- choosing the uses that are read into
module _ (reports : List Question) (width : ℕ) where
  pub record More (base : ℕ) (ls : List Line) (x : Line) (m : List Bool) : Type 0 where
    pub mask : List Bool
    pub few : count mask ≤ suc (count m)
    pub new : In x (expand-some reports width base mask ls)
    pub old : (y : Line) → In y (expand-some reports width base m ls) → In y (expand-some reports width base mask ls)

  none : (base : ℕ) (ls : List Line) (y : Line) → In y (expand-some reports width base [] ls) → ⊥
  unfolding expand-some
  none base [] y a = elim a [ ]
  none base (l ∷ ls) y a = elim a [ ]

  pub more : (base : ℕ) (ls : List Line) (x : Line) (m : List Bool) → In x (expand_lines reports width base ls) → More base ls x m
  unfolding expand-some expand_lines count
  more base [] x m a = elim a [ ]
  more base (l ∷ ls) x m a = go m (in_split (use_lines reports base l) (expand_lines reports width (base + width) ls) a) (λ n i. more (base + width) ls x n i)
    where
      us : List Line
      us = use_lines reports base l

      go : (m : List Bool) → In x us ⊎ In x (expand_lines reports width (base + width) ls) → ((n : List Bool) → In x (expand_lines reports width (base + width) ls) → More (base + width) ls x n) → More base (l ∷ ls) x m
      go [] (inl i) f = record { mask = true ∷ []; few = omega arith; new = in_left _ i; old = λ y j. absurd (none base (l ∷ ls) y j) }
      go (true ∷ m) (inl i) f = record { mask = true ∷ m; few = omega arith; new = in_left _ i; old = λ y j. j }
      go (false ∷ m) (inl i) f = record { mask = true ∷ m; few = omega arith; new = in_left _ i; old = λ y j. in_right us j }
      go [] (inr i) f = let r = f [] i in record { mask = false ∷ r.mask; few = r.few; new = r.new; old = λ y j. absurd (none base (l ∷ ls) y j) }
      go (true ∷ m) (inr i) f =
          let r = f m i in
          record {
            mask = true ∷ r.mask;
            few = let h = r.few in omega arith;
            new = in_right us r.new;
            old = λ y j. elim (in_split us (expand-some reports width (base + width) m ls) j) [ inl k ↦ in_left _ k | inr k ↦ in_right us (r.old y k) ];
          }
      go (false ∷ m) (inr i) f = let r = f m i in record { mask = false ∷ r.mask; few = r.few; new = r.new; old = r.old }

  pub record Enough (base : ℕ) (ls : List Line) (h : ℕ → Term) (qs : List Line) : Type 0 where
    pub mask : List Bool
    pub few : count mask ≤ length qs
    pub reads : Into h (expand-some reports width base mask ls) qs

  pub enough : (base : ℕ) (ls : List Line) {h : ℕ → Term} {qs : List Line} → Into h (expand_lines reports width base ls) qs → Enough base ls h qs
  unfolding count
  enough base ls Into.none_left = record { mask = []; few = omega arith; reads = Into.none_left }
  enough base ls (Into.and_line a r) =
      let e = enough base ls r in
      let n = more base ls _ e.mask a in
      record { mask = n.mask; few = let i = e.few in let j = n.few in omega arith; reads = Into.and_line n.new (into_more _ n.old e.reads) }

  -- a variable of the expansion below base stands in a chosen use
  use-back : (base : ℕ) (l : Line) (x : ℕ) → x < base → (ks : List Line) → (k : Line) → In k (put_lines (use_put reports base l) ks) → In (Variable x) k.cells → In (Variable x) l.cells
  unfolding line_put
  use-back base l x lt ks = put_lines-each (use_put reports base l) (λ k. In (Variable x) k.cells → In (Variable x) l.cells) ks (λ k i m. go k.cells (put_in (use_put reports base l) (Variable x) k.cells m))
    where
      cond_up : (y : ℕ) (t : Term) → t ≡ Variable x → (t ≡ Variable (base + y)) ⊎ In t l.cells → In (Variable x) l.cells
      cond_up y t e (inl p) = let z : x ≡ base + y = cc in absurd (omega arith)
      cond_up y t e (inr m) = subst (λ (s : Term). In s l.cells) e m

      go : (cs : List Term) → (t : Term) × In t cs × (put (use_put reports base l) t ≡ Variable x) → In (Variable x) l.cells
      go cs (Number n, m, e) = let z : ◌≡◌ {A = ℕ} 0 1 = cc e in absurd (omega arith)
      go cs (Variable y, m, e) = cond_up y _ e (assign_in (get_or reports l.table no_question).row l.cells (Variable (base + y)) y)

  pub some_back : (base : ℕ) (x : ℕ) → x < base → (m : List Bool) (ls : List Line) → (k : Line) → In k (expand-some reports width base m ls) → In (Variable x) k.cells → Used x (chosen m ls)
  unfolding expand-some chosen
  some_back base x lt m [] k a v = elim a [ ]
  some_back base x lt [] (l ∷ ls) k a v = elim a [ ]
  some_back base x lt (true ∷ m) (l ∷ ls) k a v =
      elim (in_split (use_lines reports base l) (expand-some reports width (base + width) m ls) a) [
        | inl i ↦ record { line = l; is_in = In.here; stands = use-back base l x lt _ k i v }
        | inr i ↦ let u = some_back (base + width) x (omega arith) m ls k i v in record { line = u.line; is_in = In.there u.is_in; stands = u.stands }
      ]
  some_back base x lt (false ∷ m) (l ∷ ls) k a v = some_back (base + width) x (omega arith) m ls k a v

  pub some-lines : (base : ℕ) (m : List Bool) (ls : List Line) → (k : Line) → In k (expand-some reports width base m ls) → 0 < length (chosen m ls)
  unfolding expand-some chosen
  some-lines base m [] k a = elim a [ ]
  some-lines base [] (l ∷ ls) k a = elim a [ ]
  some-lines base (true ∷ m) (l ∷ ls) k a = omega arith
  some-lines base (false ∷ m) (l ∷ ls) k a = some-lines (base + width) m ls k a

-- few uses, of those that the reports have on the question's own lines
pub few-on-own : (reports : List Question) (q : Question) (ls : List Line) → sound q ≡ true → ((l : Line) → In l ls → OwnUse reports q l)
    → AnsweredBy reports q (record { row = q.row; lines = ls })
    → (o : Question) × AnsweredBy reports q o × (length o.lines ≤ length q.lines) × ((l : Line) → In l o.lines → OwnUse reports q l)
unfolding Within expand
few-on-own reports q ls sq tu a =
    let o : Question = record { row = q.row; lines = ls } in
    let width : ℕ = over_reports reports in
    let base : ℕ = over_lines ls + over_terms q.row in
    let w : Within (expand reports width base o) q = λ b r s. a.no_more b r (expand-told reports width base o (λ l i. use_shaped reports q l (tu l i)) b r s) in
    let e : Reads q (expand reports width base o) = within-reads _ q w in
    let n : Enough reports width base ls e.how q.lines = enough reports width base ls e.lines in
    let m : List Bool = n.mask in
    let p : Question = record { row = q.row; lines = expand-some reports width base m ls } in
    let f : Reads q p = record { how = e.how; lines = n.reads; row = e.row } in
    let s : Sound p = sound_parts p (reads-sound q p f sq) in
    let c : (l : Line) → In l (chosen m ls) → OwnUse reports q l = λ l i. tu l (chosen_in m ls l i) in
    let low : (x : ℕ) → In (Variable x) q.row → x < base = λ x i. let h : x < over_terms q.row = over-term x q.row i in omega arith in (
      record { row = q.row; lines = chosen m ls },
      record {
        proper = and_from _ _
            (sound-from (record { row = q.row; lines = chosen m ls })
            (record {
              lines = some-lines reports width base m ls (one_in p.lines s.lines).0 (one_in p.lines s.lines).1;
              row = λ x i. let u : Used x p.lines = s.row x i in some_back reports width base x (low x i) m ls u.line u.is_in u.stands;
            }))
            (fits-from reports (chosen m ls) (λ l i. use_fit reports q l (c l i)));
        no_more = λ b r t.
            let sp : Spread b base t.value p.lines = spread reports width base t.value m ls (narrow-over reports) (below-over base ls (omega arith)) t.held in
            reads-within q p f b r (record { value = sp.value; stand = sp.stand; is = all_at-same sp.value t.value q.row (λ x i. sp.low x (low x i)) ∙ t.is });
        no_less = λ b r t. record { value = t.value; held = uses-held reports q (chosen m ls) c t.stand; is = t.is };
      },
      let k : length (chosen m ls) ≤ count m = length_chosen m ls in let j : count m ≤ length q.lines = n.few in omega arith,
      c,
    )

pub few-uses : FewUses
few-uses reports q p sq a = let t : OnOwn reports q p = on-own reports q p a in few-on-own reports q t.lines sq t.own t.right

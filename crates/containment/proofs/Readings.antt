-- Readings and values: what stands under one stands under the other, and what is where after a reading.
use Rattle.std.proofs.Common.{◌≡◌, ℕ, suc, true, List, [], ◌∷◌, length, sym, refl, ap, ◌∙◌, subst, ap₂, arith}
use Rattle.question.specs.declared.terms.Term.{Term}
use Rattle.question.specs.declared.terms.Term.TheVariants.{Number, Variable}
use Rattle.question.specs.Question.{Line, Question, Row, Base, Value, at, all_at, In, Stand, Within}
use Rattle.question.specs.Sound.{sound}
use Rattle.question.proofs.Members.{in_cases, in_length, Used, Sound, sound_parts, sound-from}
use Rattle.question.proofs.Places.{line_path, in_head, one_in}
use Rattle.containment.specs.Reading.{put, all_put, line_put, put_lines, Into, Reads}

-- a value after a reading
abbrev pub after : Value → (ℕ → Term) → Value
after v h x = at v (h x)

pub at-put : (v : Value) (h : ℕ → Term) (t : Term) → at v (put h t) ≡ at (after v h) t
at-put v h (Number n) = refl
at-put v h (Variable x) = refl

pub all_at-put : (v : Value) (h : ℕ → Term) (ts : List Term) → all_at v (all_put h ts) ≡ all_at (after v h) ts
unfolding all_at all_put
all_at-put v h [] = refl
all_at-put v h (t ∷ ts) = ap₂ {C = Row} (λ a bs. a ∷ bs) (at-put v h t) (all_at-put v h ts)

-- values and readings that agree where it matters
pub all_at-same : (u v : Value) (ts : List Term) → ((x : ℕ) → In (Variable x) ts → u x ≡ v x) → all_at u ts ≡ all_at v ts
unfolding all_at
all_at-same u v [] f = refl
all_at-same u v (Number n ∷ ts) f = ap {B = Row} (λ r. n ∷ r) (all_at-same u v ts (λ x m. f x (In.there m)))
all_at-same u v (Variable x ∷ ts) f = ap₂ {C = Row} (λ a r. a ∷ r) (f x In.here) (all_at-same u v ts (λ y m. f y (In.there m)))

pub all_put-same : (g h : ℕ → Term) (ts : List Term) → ((x : ℕ) → In (Variable x) ts → g x ≡ h x) → all_put g ts ≡ all_put h ts
unfolding all_put
all_put-same g h [] f = refl
all_put-same g h (Number n ∷ ts) f = ap {B = List Term} (λ r. Number n ∷ r) (all_put-same g h ts (λ x m. f x (In.there m)))
all_put-same g h (Variable x ∷ ts) f = ap₂ {C = List Term} (λ a r. a ∷ r) (f x In.here) (all_put-same g h ts (λ y m. f y (In.there m)))

pub all_put-at : (g h : ℕ → Term) (x : ℕ) (ts : List Term) → all_put g ts ≡ all_put h ts → In (Variable x) ts → g x ≡ h x
unfolding all_put
all_put-at g h x [] e m = elim m [ ]
all_put-at g h x (t ∷ ts) e In.here = cc e
all_put-at g h x (t ∷ ts) e (In.there m) = all_put-at g h x ts (cc e) m

-- what stands
pub stand-at : {b : Base} {v : Value} {l : Line} {ms : List Line} → In l ms → Stand b v ms → In (all_at v l.cells) (b l.table)
stand-at In.here (Stand.and_line i s) = i
stand-at (In.there a) (Stand.and_line i s) = stand-at a s

pub stand-some : {b : Base} {v : Value} {ms : List Line} (ls : List Line) → ((l : Line) → In l ls → In l ms) → Stand b v ms → Stand b v ls
stand-some [] f s = Stand.none_left
stand-some (l ∷ ls) f s = Stand.and_line (stand-at (f l In.here) s) (stand-some ls (λ m a. f m (In.there a)) s)

pub stand-all : {b : Base} {v : Value} {h : ℕ → Term} {ms ls : List Line} → Into h ms ls → Stand b v ms → Stand b (after v h) ls
unfolding line_put
stand-all Into.none_left s = Stand.none_left
stand-all {b} {v} {h} (Into.and_line {l = l} a xs) s =
    Stand.and_line (subst (λ (r : Row). In r (b l.table)) (all_at-put v h l.cells) (stand-at a s)) (stand-all xs s)

-- what is read into a question answers what the question answers
pub reads-within : (q p : Question) → Reads q p → Within p q
unfolding Within
reads-within q p e b r a =
    record { value = after a.value e.how; stand = stand-all e.lines a.stand; is = sym (all_at-put a.value e.how q.row) ∙ ap (all_at a.value) e.row ∙ a.is }

pub within_trans : (p q o : Question) → Within p q → Within q o → Within p o
unfolding Within
within_trans p q o f g b r a = g b r (f b r a)

-- fewer lines answer more
pub fewer_within : (p : Question) (ls : List Line) → ((l : Line) → In l ls → In l p.lines) → Within p (record { row = p.row; lines = ls })
unfolding Within
fewer_within p ls f b r a = record { value = a.value; stand = stand-some ls f a.stand; is = a.is }

-- where things are after a reading
pub length-put : (h : ℕ → Term) (ts : List Term) → length (all_put h ts) ≡ length ts
unfolding all_put
length-put h [] = refl
length-put h (t ∷ ts) = ap suc (length-put h ts)

pub in_put : (h : ℕ → Term) {t : Term} {ts : List Term} → In t ts → In (put h t) (all_put h ts)
unfolding all_put
in_put h In.here = In.here
in_put h (In.there m) = In.there (in_put h m)

pub put_in : (h : ℕ → Term) (s : Term) (ts : List Term) → In s (all_put h ts) → (t : Term) × In t ts × (put h t ≡ s)
unfolding all_put
put_in h s [] m = elim m [ ]
put_in h s (t ∷ ts) m =
    in_cases ((u : Term) × In u (t ∷ ts) × (put h u ≡ s)) (λ e. (t, In.here, e)) (λ k. let r = put_in h s ts k in (r.0, In.there r.1, r.2)) m

pub length-put_lines : (h : ℕ → Term) (ls : List Line) → length (put_lines h ls) ≡ length ls
unfolding put_lines
length-put_lines h [] = refl
length-put_lines h (l ∷ ls) = ap suc (length-put_lines h ls)

pub in_put_lines : (h : ℕ → Term) {l : Line} {ls : List Line} → In l ls → In (line_put h l) (put_lines h ls)
unfolding put_lines
in_put_lines h In.here = In.here
in_put_lines h (In.there a) = In.there (in_put_lines h a)

pub put_lines-each : (h : ℕ → Term) (P : Line → Type 0) (ls : List Line) → ((l : Line) → In l ls → P (line_put h l)) → (l : Line) → In l (put_lines h ls) → P l
unfolding put_lines
put_lines-each h P [] f l m = elim m [ ]
put_lines-each h P (k ∷ ls) f l m = in_head P (f k In.here) (λ n. put_lines-each h P ls (λ i a. f i (In.there a)) l n) m

pub into_at : {h : ℕ → Term} {l : Line} {ms ls : List Line} → In l ls → Into h ms ls → In (line_put h l) ms
into_at In.here (Into.and_line a xs) = a
into_at (In.there i) (Into.and_line a xs) = into_at i xs

pub into_from : {h : ℕ → Term} {ms : List Line} (ls : List Line) → ((l : Line) → In l ls → In (line_put h l) ms) → Into h ms ls
into_from [] f = Into.none_left
into_from (l ∷ ls) f = Into.and_line (f l In.here) (into_from ls (λ m a. f m (In.there a)))

pub into_more : {h : ℕ → Term} {xs : List Line} (ys : List Line) {qs : List Line} → ((y : Line) → In y xs → In y ys) → Into h xs qs → Into h ys qs
into_more ys f Into.none_left = Into.none_left
into_more ys f (Into.and_line a r) = Into.and_line (f _ a) (into_more ys f r)

put_variable : (ts : List Term) → all_put Variable ts ≡ ts
unfolding all_put
put_variable [] = refl
put_variable (Number n ∷ ts) = ap {B = List Term} (λ r. Number n ∷ r) (put_variable ts)
put_variable (Variable x ∷ ts) = ap {B = List Term} (λ r. Variable x ∷ r) (put_variable ts)

pub reads_itself : (q : Question) → Reads q q
unfolding line_put
reads_itself q =
    record { how = Variable; lines = into_from q.lines (λ l i. subst (λ (m : Line). In m q.lines) (line_path l (line_put Variable l) refl (sym (put_variable l.cells))) i); row = put_variable q.row }

-- what a sound question is read into is sound
pub reads-sound : (p o : Question) → Reads p o → sound p ≡ true → sound o ≡ true
unfolding line_put
reads-sound p o e sp =
    let s : Sound p = sound_parts p sp in
    let k = one_in p.lines s.lines in
    sound-from o (record { lines = in_length (into_at k.1 e.lines); row = λ x m. back s x (put_in e.how (Variable x) p.row (subst (λ (ts : List Term). In (Variable x) ts) (sym e.row) m)) })
  where
    back : Sound p → (x : ℕ) → (t : Term) × In t p.row × (put e.how t ≡ Variable x) → Used x o.lines
    back s x (Number n, m, g) = let z : ◌≡◌ {A = ℕ} 0 1 = cc g in absurd (omega arith)
    back s x (Variable y, m, g) =
        let u : Used y p.lines = s.row y m in
        record { line = line_put e.how u.line; is_in = into_at u.is_in e.lines; stands = subst (λ (t : Term). In t (all_put e.how u.line.cells)) g (in_put e.how u.stands) }

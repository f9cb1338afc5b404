-- Our names for variables are new and different, the least and in order.
use Rattle.std.proofs.Common.{◌≡◌, ℕ, zero, suc, ◌+◌, ◌<◌, ◌≤◌, Bool, true, false, cond, ◌⊎◌, List, [], ◌∷◌, ◌++◌, map, length, sym, refl, ap, ◌∙◌, subst, inl, inr, not-suc-le-zero, add-one, arith, length-append}
use lib.ListN.{length-map}
use borrow.Author.Tests.{clash}
use Rattle.std.proofs.lemmas.Bool.{cases_order, cases_eq}
use Rattle.question.specs.declared.terms.Term.{Term}
use Rattle.question.specs.declared.terms.Term.TheVariants.{Number, Variable}
use Rattle.question.specs.Question.{Line, Question, Value, In}
use Rattle.question.specs.Sound.{has, vars, line_vars, sound}
use Rattle.question.specs.Laws.{Names}
use Rattle.question.proofs.Members.{in_left, in_right, in_split, has_in, in_has, vars_in, vars-used, sound_parts}
use Rattle.question.proofs.Standing.{has-append}
use Rattle.question.proofs.Places.{in_map}
use Rattle.containment.specs.OwnTables.{question_vars, Avoids, LeastNames, numbers, line_numbers, question_numbers, over, free_within, free_from, name_past, rank, naming}
use Rattle.containment.proofs.Counting.{apart-length, rising-apart, from_on, length_from, from_in, in_from, from-rising}
use Rattle.containment.proofs.Ranking.{rank_counts, rank_passes, rank_rises, rank-apart, rank_misses_none}
use Rattle.containment.specs.Laws.{NamingNew, NamingLeast, NamingOnly}

-- the numbers that are named are in the list
in_numbers : {n : ℕ} {ts : List Term} → In (Number n) ts → In n (numbers ts)
unfolding numbers
in_numbers In.here = In.here
in_numbers (In.there {x = Number m} i) = In.there (in_numbers i)
in_numbers (In.there {x = Variable y} i) = in_numbers i

in_line-numbers : {n : ℕ} {l : Line} {ls : List Line} → In l ls → In (Number n) l.cells → In n (line_numbers ls)
unfolding line_numbers
in_line-numbers (In.here {xs = ls}) i = in_left (line_numbers ls) (in_numbers i)
in_line-numbers (In.there {x = k} a) i = in_right (numbers k.cells) (in_line-numbers a i)

pub names_in : (q : Question) (n : ℕ) → Names q n → In n (question_numbers q)
unfolding question_numbers
names_in q n (Names.in_row i) = in_left (line_numbers q.lines) (in_numbers i)
names_in q n (Names.in_line j i) = in_right (numbers q.row) (in_line-numbers j i)

numbers_in : (ts : List Term) (n : ℕ) → In n (numbers ts) → In (Number n) ts
unfolding numbers
numbers_in [] n i = elim i [ ]
numbers_in (Number m ∷ ts) n In.here = In.here
numbers_in (Number m ∷ ts) n (In.there i) = In.there (numbers_in ts n i)
numbers_in (Variable y ∷ ts) n i = In.there (numbers_in ts n i)

line_numbers_in : (ls : List Line) (n : ℕ) → In n (line_numbers ls) → (l : Line) × In l ls × In (Number n) l.cells
unfolding line_numbers
line_numbers_in [] n i = elim i [ ]
line_numbers_in (l ∷ ls) n i =
    elim (in_split (numbers l.cells) (line_numbers ls) i) [ inl a ↦ (l, In.here, numbers_in l.cells n a) | inr b ↦ (let r = line_numbers_in ls n b in (r.0, In.there r.1, r.2)) ]

pub in_names : (q : Question) (n : ℕ) → In n (question_numbers q) → Names q n
unfolding question_numbers
in_names q n i =
    elim (in_split (numbers q.row) (line_numbers q.lines) i) [ inl a ↦ Names.in_row (numbers_in q.row n a) | inr b ↦ (let r = line_numbers_in q.lines n b in Names.in_line r.1 r.2) ]

pub in_over : (ns : List ℕ) (n : ℕ) → In n ns → n < over ns
unfolding over
in_over [] n i = elim i [ ]
in_over (m ∷ ns) n In.here = omega arith
in_over (m ∷ ns) n (In.there i) = let h : n < over ns = in_over ns n i in omega arith

-- the least number from n on that is not in the list
pub record Free (ns : List ℕ) (n r : ℕ) : Type 0 where
  pub from : n ≤ r
  pub new : In r ns → ⊥
  pub least : (m : ℕ) → n ≤ m → m < r → In m ns

free_step : (b : Bool) (ns : List ℕ) (n r : ℕ) → has ns n ≡ b → (b ≡ true → Free ns (suc n) r) → Free ns n (cond b r n)
free_step true ns n r e f =
    let g : Free ns (suc n) r = f refl in
    record { from = (let h = g.from in omega arith); new = g.new; least = λ m h k. elim (cases_eq m n) [ inl p ↦ subst (λ (x : ℕ). In x ns) (sym p) (has_in ns n e) | inr p ↦ g.least m (omega arith) k ] }
free_step false ns n r e f = record { from = omega arith; new = λ i. clash (sym e ∙ in_has i); least = λ m h k. absurd (omega arith) }

free_within-is : (ns : List ℕ) (k n : ℕ) → over ns ≤ n + k → Free ns n (free_within ns k n)
unfolding free_within
free_within-is ns zero n h = record { from = omega arith; new = λ i. let j : n < over ns = in_over ns n i in omega arith; least = λ m a b. absurd (omega arith) }
free_within-is ns (suc k) n h = free_step (has ns n) ns n (free_within ns k (suc n)) refl (λ e. free_within-is ns k (suc n) (omega arith))

pub free_from-is : (ns : List ℕ) (n : ℕ) → Free ns n (free_from ns n)
unfolding free_from
free_from-is ns n = free_within-is ns (over ns) n (omega arith)

pub free_one : (ns : List ℕ) (n r s : ℕ) → Free ns n r → Free ns n s → r ≡ s
free_one ns n r s a b =
    elim (cases_order r s) [
      | inl e ↦ e
      | inr o ↦ elim o [ inl h ↦ absurd (a.new (b.least r a.from h)) | inr h ↦ absurd (b.new (a.least s b.from h)) ]
    ]

-- a program's steps: a number that is in the list is passed over, another one is the one
pub free_next : (ns : List ℕ) (n : ℕ) → has ns n ≡ true → free_from ns n ≡ free_from ns (suc n)
free_next ns n e = free_one ns n _ _ (free_from-is ns n) (free_step true ns n (free_from ns (suc n)) e (λ _. free_from-is ns (suc n)))

pub free_here : (ns : List ℕ) (n : ℕ) → has ns n ≡ false → free_from ns n ≡ n
free_here ns n e = free_one ns n _ _ (free_from-is ns n) (free_step false ns n 0 e (λ z. absurd (clash z)))

-- the names
pub name_new : (ns : List ℕ) (x : ℕ) → In (name_past ns x) ns → ⊥
unfolding name_past
name_new ns zero = (free_from-is ns 1).new
name_new ns (suc x) = (free_from-is ns (suc (name_past ns x))).new

pub name_rises : (ns : List ℕ) (x : ℕ) → name_past ns x < name_past ns (suc x)
unfolding name_past
name_rises ns x = (free_from-is ns (suc (name_past ns x))).from

pub name-less : (ns : List ℕ) (x y : ℕ) → x < y → name_past ns x < name_past ns y
name-less ns x zero h = absurd (not-suc-le-zero h)
name-less ns x (suc y) h =
    let r : name_past ns y < name_past ns (suc y) = name_rises ns y in
    elim (cases_eq x y) [
      | inl e ↦ subst (λ (z : ℕ). name_past ns z < name_past ns (suc y)) (sym e) r
      | inr d ↦ let i : name_past ns x < name_past ns y = name-less ns x y (omega arith) in omega arith
    ]

pub name-apart : (ns : List ℕ) (x y : ℕ) → name_past ns x ≡ name_past ns y → x ≡ y
name-apart ns x y e =
    elim (cases_order x y) [
      | inl p ↦ p
      | inr o ↦ elim o [ inl h ↦ absurd (let k = name-less ns x y h in omega arith) | inr h ↦ absurd (let k = name-less ns y x h in omega arith) ]
    ]

pub name_avoids : (ns : List ℕ) (q : Question) → ((n : ℕ) → In n (question_numbers q) → In n ns) → (x : ℕ) → Names q (name_past ns x) → ⊥
name_avoids ns q f x i = name_new ns x (f (name_past ns x) (names_in q (name_past ns x) i))

pub naming-new : NamingNew
unfolding naming
naming-new p q = (
  λ x y i j e. rank-apart (question_vars p) x y i j (name-apart _ _ _ e),
  λ x i. name_avoids _ p (λ n j. in_left (question_numbers q) j) (rank (question_vars p) x),
  λ x i. name_avoids _ q (λ n j. in_right (question_numbers p) j) (rank (question_vars p) x),
)

-- each number from 1 on below a name is in the list, or the name of a variable before
below-name : (ns : List ℕ) (x n : ℕ) → 1 ≤ n → n < name_past ns x → In n ns ⊎ ((y : ℕ) × (y < x) × (name_past ns y ≡ n))
unfolding name_past
below-name ns zero n h k = inl ((free_from-is ns 1).least n h k)
below-name ns (suc x) n h k = go (cases_order n (name_past ns x)) (λ j. below-name ns x n h j)
  where
    go : (n ≡ name_past ns x) ⊎ ((n < name_past ns x) ⊎ (name_past ns x < n)) → (n < name_past ns x → In n ns ⊎ ((y : ℕ) × (y < x) × (name_past ns y ≡ n))) → In n ns ⊎ ((y : ℕ) × (y < suc x) × (name_past ns y ≡ n))
    go (inl e) f = inr (x, omega arith, sym e)
    go (inr (inl j)) f = elim (f j) [ inl i ↦ inl i | inr r ↦ inr (r.0, (let a = r.1 in omega arith), r.2) ]
    go (inr (inr j)) f = inl ((free_from-is ns (suc (name_past ns x))).least n j k)

name-from_one : (ns : List ℕ) (x : ℕ) → 1 ≤ name_past ns x
unfolding name_past
name-from_one ns zero = (free_from-is ns 1).from
name-from_one ns (suc x) = let h = (free_from-is ns (suc (name_past ns x))).from in omega arith

pub naming-least : NamingLeast
unfolding naming
naming-least p q =
    record {
      from_one = λ x i. name-from_one _ (rank (question_vars p) x);
      rising = λ x y i j h. name-less _ _ _ (rank_rises (question_vars p) x y i h);
      least = λ x n i h k. elim (below-name (question_numbers p ++ question_numbers q) (rank (question_vars p) x) n h k) [
        | inl j ↦ inl (elim (in_split (question_numbers p) (question_numbers q) j) [ inl a ↦ inl (in_names p n a) | inr b ↦ inr (in_names q n b) ])
        | inr r ↦ (let t = rank_misses_none (question_vars p) x r.0 r.1 in inr (t.0, t.1, t.2, ap (name_past (question_numbers p ++ question_numbers q)) t.3 ∙ r.2))
      ];
    }

-- of two namings that are new and the least neither names a variable less
not-less : (p q : Question) (u v : Value) → LeastNames u p q → LeastNames v p q → Avoids v p p → Avoids v p q → (x : ℕ) → In x (question_vars p) → ((y : ℕ) → In y (question_vars p) → y < x → v y ≡ u y) → v x < u x → ⊥
not-less p q u v lu lv ap' aq x i f h =
    elim (lu.least x (v x) i (lv.from_one x i) h) [
      | inl n ↦ elim n [ inl a ↦ ap' x i a | inr b ↦ aq x i b ]
      | inr r ↦ (let a : v r.0 < v x = lv.rising r.0 x r.1 i r.2 in let b : v r.0 ≡ u r.0 = f r.0 r.1 r.2 in let c : u r.0 ≡ v x = r.3 in omega arith)
    ]

agree : (p q : Question) (u v : Value) → LeastNames u p q → LeastNames v p q → Avoids u p p → Avoids u p q → Avoids v p p → Avoids v p q → (k x : ℕ) → x < k → In x (question_vars p) → v x ≡ u x
agree p q u v lu lv up uq vp vq zero x h i = absurd (not-suc-le-zero h)
agree p q u v lu lv up uq vp vq (suc k) x h i =
    elim (cases_order (v x) (u x)) [
      | inl e ↦ e
      | inr o ↦ elim o [
        | inl j ↦ absurd (not-less p q u v lu lv vp vq x i (λ y m l. agree p q u v lu lv up uq vp vq k y (omega arith) m) j)
        | inr j ↦ absurd (not-less p q v u lv lu up uq x i (λ y m l. sym (agree p q u v lu lv up uq vp vq k y (omega arith) m)) j)
      ]
    ]

pub naming-only : NamingOnly
naming-only p q v vp vq l x i = let n = naming-new p q in agree p q (naming p q) v (naming-least p q) l n.1 n.2 vp vq (suc x) x (omega arith) i

-- a program's steps, variable after variable, with the number n from which the next name is looked for: the first,
-- a number that is named is passed over, another one is the name of a variable that p has, and other variables are passed over
pub naming-first : (p q : Question) → naming p q 0 ≡ free_from (question_numbers p ++ question_numbers q) 1
unfolding naming rank name_past
naming-first p q = refl

pub naming-on : (p q : Question) (x n : ℕ) → naming p q x ≡ free_from (question_numbers p ++ question_numbers q) n → has (question_numbers p ++ question_numbers q) n ≡ true
    → naming p q x ≡ free_from (question_numbers p ++ question_numbers q) (n + 1)
naming-on p q x n e h = rw add-one (e ∙ free_next _ n h)

pub naming-takes : (p q : Question) (x n : ℕ) → naming p q x ≡ free_from (question_numbers p ++ question_numbers q) n → has (question_numbers p ++ question_numbers q) n ≡ false → naming p q x ≡ n
naming-takes p q x n e h = e ∙ free_here _ n h

pub naming-next : (p q : Question) (x : ℕ) → has (question_vars p) x ≡ true → naming p q (x + 1) ≡ free_from (question_numbers p ++ question_numbers q) (naming p q x + 1)
unfolding naming name_past
naming-next p q x h = simp (add-one, rank_counts (question_vars p) x h)

pub naming_skips : (p q : Question) (x : ℕ) → has (question_vars p) x ≡ false → naming p q (x + 1) ≡ naming p q x
unfolding naming
naming_skips p q x h = rw (add-one, rank_passes (question_vars p) x h)

-- the variables of a sound question are those of its lines
pub sound-vars : (p : Question) → sound p ≡ true → (x : ℕ) → has (question_vars p) x ≡ has (line_vars p.lines) x
unfolding question_vars
sound-vars p s x = has-append (vars p.row) (line_vars p.lines) x ∙ go (has (vars p.row) x) refl
  where
    go : (b : Bool) → has (vars p.row) x ≡ b → cond b true (has (line_vars p.lines) x) ≡ has (line_vars p.lines) x
    go true e = let u = (sound_parts p s).row x (vars_in p.row x (has_in _ x e)) in sym (in_has (vars-used u.is_in u.stands))
    go false e = refl

-- names stay small: none is above the count of what is named and the count of names so far
pub name_small : (ns : List ℕ) (x : ℕ) → name_past ns x ≤ length ns + suc x
name_small ns x =
    let r : ℕ = name_past ns x in
    let ws : List ℕ = ns ++ map (name_past ns) (from_on 0 (suc x)) in
    let h : length (from_on 1 r) ≤ length ws = apart-length ws (rising-apart (λ a k. omega arith) (from-rising 1 r)) (λ n i. place n (from_in 1 r n i)) in
    let a : length (from_on 1 r) ≡ r = length_from 1 r in
    let b : length ws ≡ length ns + length (map (name_past ns) (from_on 0 (suc x))) = length-append ns (map (name_past ns) (from_on 0 (suc x))) in
    let c : length (map (name_past ns) (from_on 0 (suc x))) ≡ suc x = length-map (from_on 0 (suc x)) (name_past ns) ∙ length_from 0 (suc x) in
    omega arith
  where
    name_of : (y : ℕ) → y < suc x → In (name_past ns y) (ns ++ map (name_past ns) (from_on 0 (suc x)))
    name_of y h = in_right ns (in_map (name_past ns) (in_from 0 (suc x) y (omega arith) (omega arith)))

    place : (n : ℕ) → (1 ≤ n) × (n < 1 + name_past ns x) → In n (ns ++ map (name_past ns) (from_on 0 (suc x)))
    place n (h, k) =
        elim (cases_eq n (name_past ns x)) [
          | inl e ↦ subst (λ (m : ℕ). In m (ns ++ map (name_past ns) (from_on 0 (suc x)))) (sym e) (name_of x (omega arith))
          | inr d ↦ elim (below-name ns x n h (omega arith)) [
            | inl i ↦ in_left (map (name_past ns) (from_on 0 (suc x))) i
            | inr t ↦ subst (λ (m : ℕ). In m (ns ++ map (name_past ns) (from_on 0 (suc x)))) t.2 (name_of t.0 (let j = t.1 in omega arith))
          ]
        ]

-- a number that is in the list is below the free one, and none is past it
pub free_past : (ns : List ℕ) (n : ℕ) → n ≤ free_from ns n
free_past ns n = (free_from-is ns n).from

pub free_above : (ns : List ℕ) (n : ℕ) → has ns n ≡ true → n < free_from ns n
free_above ns n e = let h : free_from ns n ≡ free_from ns (suc n) = free_next ns n e in let g : suc n ≤ free_from ns (suc n) = free_past ns (suc n) in omega arith

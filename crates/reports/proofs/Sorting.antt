-- The lines of the widest question stand in order, each once; there are 33 different ones exactly if it has more than 32.
use Rattle.std.proofs.Common.{◌≡◌, ℕ, zero, suc, ◌<◌, ◌≤◌, Bool, true, false, cond, List, [], ◌∷◌, length, take, sym, refl, ap, ◌∙◌, subst, ap₂, inl, inr, le_of_suc-le-suc, not-suc-le-zero, arith}
use Rattle.std.proofs.lemmas.Bool.{cases_lt}
use Rattle.question.specs.Question.{Line, Question, In}
use Rattle.question.proofs.Members.{in_cases}
use Rattle.question.proofs.Places.{in_head}
use Rattle.containment.specs.Order.{Apart, Rising}
use Rattle.containment.proofs.Counting.{rising-apart, apart-length}
use Rattle.reports.specs.Reports.{all_sound}
use Rattle.reports.specs.Widest.{line_less, insert_line, sort_lines, Sorted, all_uses, widest, Widest, IsTooWide}
use Rattle.reports.specs.Laws.{WidestMade, TooWideExact}
use Rattle.reports.proofs.Ordering.{line_irr, line_trans}
use Rattle.reports.proofs.Widening.{insert_from, widest-is}

pub insert_sorted : (l : Line) {ms : List Line} → Sorted ms → Sorted (insert_line l ms)
unfolding insert_line
insert_sorted l Rising.none_left = Rising.and_one (λ k a. elim a [ ]) Rising.none_left
insert_sorted l (Rising.and_one {a = m} {xs = ms} o s) = go (line_less l m) refl (line_less m l) refl (insert_sorted l s)
  where
    go : (b : Bool) → line_less l m ≡ b → (c : Bool) → line_less m l ≡ c → Sorted (insert_line l ms) → Sorted (cond b (l ∷ m ∷ ms) (cond c (m ∷ insert_line l ms) (m ∷ ms)))
    go true e c f i = Rising.and_one (λ k a. in_head (λ x. line_less l x ≡ true) e (λ j. line_trans l m k e (o k j)) a) (Rising.and_one o s)
    go false e true f i = Rising.and_one (insert_from l ms (λ x. line_less m x ≡ true) f o) i
    go false e false f i = Rising.and_one o s

pub sort_sorted : (ls : List Line) → Sorted (sort_lines ls)
unfolding sort_lines
sort_sorted [] = Rising.none_left
sort_sorted (l ∷ ls) = insert_sorted l (sort_sorted ls)

take_in : (n : ℕ) (ls : List Line) (k : Line) → In k (take n ls) → In k ls
take_in zero ls k a = elim a [ ]
take_in (suc n) [] k a = elim a [ ]
take_in (suc n) (l ∷ ls) k a = in_head (λ x. In x (l ∷ ls)) In.here (λ b. In.there (take_in n ls k b)) a

take-apart : (n : ℕ) {ls : List Line} → Apart ls → Apart (take n ls)
take-apart zero s = Apart.none_left
take-apart (suc n) Apart.none_left = Apart.none_left
take-apart (suc n) (Apart.and_one {a = l} {xs = ls} f s) = Apart.and_one (λ a. f (take_in n ls l a)) (take-apart n s)

take-length : (n : ℕ) (ls : List Line) → n ≤ length ls → length (take n ls) ≡ n
take-length zero ls h = refl
take-length (suc n) [] h = absurd (not-suc-le-zero h)
take-length (suc n) (l ∷ ls) h = ap suc (take-length n ls (le_of_suc-le-suc h))

pub too_wide : (reports : List Question) (q : Question) → all_sound reports ≡ true → 32 < length (widest reports q).lines → IsTooWide reports q
unfolding widest
too_wide reports q ok h =
    record {
      lines = take 33 (widest reports q).lines;
      many = take-length 33 (widest reports q).lines h;
      apart = take-apart 33 (rising-apart line_irr (sort_sorted _));
      right = λ l a. (widest-is reports q ok).right l (take_in 33 (widest reports q).lines l a);
    }

pub not_too_wide : (reports : List Question) (q : Question) → all_sound reports ≡ true → length (widest reports q).lines ≤ 32 → IsTooWide reports q → ⊥
not_too_wide reports q ok h t =
    let w : Widest reports q (widest reports q) = widest-is reports q ok in
    let k : length t.lines ≤ length (widest reports q).lines = apart-length (widest reports q).lines t.apart (λ l a. w.all l (t.right l a)) in
    let e : length t.lines ≡ 33 = t.many in
    omega arith

pub widest_made : WidestMade
unfolding widest
widest_made reports q ok = (widest-is reports q ok, sort_sorted (all_uses q 0 reports))

pub too_wide_exact : TooWideExact
too_wide_exact reports q ok =
    (λ t. elim (cases_lt 32 (length (widest reports q).lines)) [ inl h ↦ h | inr h ↦ absurd (not_too_wide reports q ok h t) ], too_wide reports q ok)

-- lines in order, each once, are told by what is among them
pub sorted_one : {xs ys : List Line} → Sorted xs → Sorted ys → ((l : Line) → In l xs → In l ys) → ((l : Line) → In l ys → In l xs) → xs ≡ ys
sorted_one Rising.none_left Rising.none_left f g = refl
sorted_one Rising.none_left (Rising.and_one {a = m} p t) f g = elim (g m In.here) [ ]
sorted_one (Rising.and_one {a = l} o s) Rising.none_left f g = elim (f l In.here) [ ]
sorted_one (Rising.and_one {a = l} {xs = xs} o s) (Rising.and_one {a = m} {xs = ys} p t) f g =
    ap₂ {C = List Line} (λ a r. a ∷ r) e
    (sorted_one s t
    (λ k i. in_cases (In k ys) (λ z. absurd (line_irr k (subst (λ (a : Line). line_less a k ≡ true) (e ∙ z) (o k i)))) (λ j. j) (f k (In.there i)))
    (λ k i. in_cases (In k xs) (λ z. absurd (line_irr k (subst (λ (a : Line). line_less a k ≡ true) (sym e ∙ z) (p k i)))) (λ j. j) (g k (In.there i))))
  where
    e : l ≡ m
    e = in_cases (l ≡ m) (λ z. sym z) (λ j. in_cases (l ≡ m) (λ z. z) (λ i. absurd (line_irr l (line_trans l m l (o m i) (p l j)))) (g m In.here)) (f l In.here)

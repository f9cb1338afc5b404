-- Numbers put into a list one after the other, each unless it is there: the list begins as it was, has all of them, and each at one place.
use Rattle.std.specs.List.{list_any, position, position_or_len}
use Rattle.std.specs.Option.{unwrap_or}
use Rattle.std.proofs.Common.{◌≡◌, ℕ, zero, suc, ◌+◌, ◌<◌, ◌≤◌, Bool, true, false, cond, not, eqb, ltb, ◌||◌, Option, Some, None, List, [], ◌∷◌, ◌++◌, length, get_or, sym, refl, ap, ◌∙◌, inl, inr, arith, eq-eqb, eqb-true}
use Rattle.std.proofs.lemmas.Bool.Decides.{nat_tests}
use Rattle.std.proofs.lemmas.Bool.{cases_lt}
use Rattle.std.proofs.lemmas.List.{append_assoc, append-nil, get_or_append_left, get_or_push, length-append, length_push}
use Rattle.question.specs.Question.{In, here, there}
use Rattle.question.proofs.Members.{in_cases}
use Rattle.answer.specs.Terms.{first_place, put_in, all_put_in}

-- the first place of a number
first-is : (xs : List ℕ) (c j : ℕ) → j < length xs → get_or xs j 0 ≡ c → ((i : ℕ) → i < j → get_or xs i 0 ≡ c → ⊥) → first_place xs c ≡ j
unfolding first_place
first-is [] c j h e f = absurd (omega arith)
first-is (x ∷ xs) c zero h e f = rw (eq-eqb x c e)
first-is (x ∷ xs) c (suc j) h e f =
    let ne : x ≡ c → ⊥ = f 0 (omega arith) in
    let b : eqb x c ≡ false = grind (arith, nat_tests) in
    rw b (ap suc (first-is xs c j (omega arith) e (λ i g. f (suc i) (omega arith))))

pub first-none : (xs : List ℕ) (c : ℕ) → ((i : ℕ) → i < length xs → get_or xs i 0 ≡ c → ⊥) → first_place xs c ≡ length xs
unfolding first_place
first-none [] c f = refl
first-none (x ∷ xs) c f =
    let ne : x ≡ c → ⊥ = f 0 (omega arith) in
    let b : eqb x c ≡ false = grind (arith, nat_tests) in
    rw b (ap suc (first-none xs c (λ i g. f (suc i) (omega arith))))

later : (b : Bool) (r l : ℕ) → r < l → cond b 0 (suc r) < suc l
later true r l h = omega arith
later false r l h = omega arith

pub place-below : {c : ℕ} {xs : List ℕ} → In c xs → first_place xs c < length xs
unfolding first_place
place-below {c = c} (here {xs = xs}) = let e = eq-eqb c c refl in let h : 0 < suc (length xs) = omega arith in rw e h
place-below {c = c} (there {x = x} {xs = xs} m) = later (eqb x c) (first_place xs c) (length xs) (place-below m)

place_at : (b : Bool) (x c r : ℕ) (xs : List ℕ) → eqb x c ≡ b → (r < length xs → get_or xs r 0 ≡ c) → cond b 0 (suc r) < suc (length xs) → get_or (x ∷ xs) (cond b 0 (suc r)) 0 ≡ c
place_at true x c r xs e f h = eqb-true x c e
place_at false x c r xs e f h = f (omega arith)

pub place_holds : (xs : List ℕ) (c : ℕ) → first_place xs c < length xs → get_or xs (first_place xs c) 0 ≡ c
unfolding first_place
place_holds [] c h = absurd (omega arith)
place_holds (x ∷ xs) c h = place_at (eqb x c) x c (first_place xs c) xs refl (place_holds xs c) h

before-append : (b : Bool) (r s l : ℕ) → (r < l → s ≡ r) → cond b 0 (suc r) < suc l → cond b 0 (suc s) ≡ cond b 0 (suc r)
before-append true r s l f h = refl
before-append false r s l f h = ap suc (f (omega arith))

place-append : (xs ys : List ℕ) (c : ℕ) → first_place xs c < length xs → first_place (xs ++ ys) c ≡ first_place xs c
unfolding first_place
place-append [] ys c h = absurd (omega arith)
place-append (x ∷ xs) ys c h = before-append (eqb x c) (first_place xs c) (first_place (xs ++ ys) c) (length xs) (place-append xs ys c) h

after-all : (b : Bool) (r s l : ℕ) → ((r < l → ⊥) → s ≡ l) → (cond b 0 (suc r) < suc l → ⊥) → cond b 0 (suc s) ≡ suc l
after-all true r s l f h = absurd (h (omega arith))
after-all false r s l f h = ap suc (f (λ g. h (omega arith)))

place-new : (xs : List ℕ) (c : ℕ) → (first_place xs c < length xs → ⊥) → first_place (xs ++ c ∷ []) c ≡ length xs
unfolding first_place
place-new [] c h = rw (eq-eqb c c refl)
place-new (x ∷ xs) c h = after-all (eqb x c) (first_place xs c) (first_place (xs ++ c ∷ []) c) (length xs) (place-new xs c) h

-- a list that begins with another
pub record Begins (xs ys : List ℕ) : Type 0 where
  pub more : List ℕ
  pub is : ys ≡ xs ++ more

pub begins-same : (xs : List ℕ) → Begins xs xs
begins-same xs = record { more = []; is = sym (append-nil xs) }

pub begins-on : (xs ys zs : List ℕ) → Begins xs ys → Begins ys zs → Begins xs zs
begins-on xs ys zs a b = record { more = a.more ++ b.more; is = b.is ∙ ap (λ (l : List ℕ). l ++ b.more) a.is ∙ append_assoc xs a.more b.more }

pub begins-length : (xs ys : List ℕ) → Begins xs ys → length xs ≤ length ys
begins-length xs ys b = rw (b.is, length-append xs b.more) (omega arith)

pub begins-at : (xs ys : List ℕ) → Begins xs ys → (j : ℕ) → j < length xs → get_or ys j 0 ≡ get_or xs j 0
begins-at xs ys b j h = rw b.is (get_or_append_left xs b.more 0 j h)

pub begins-place : (xs ys : List ℕ) → Begins xs ys → (c : ℕ) → first_place xs c < length xs → first_place ys c ≡ first_place xs c
begins-place xs ys b c h = rw b.is (place-append xs b.more c h)

-- each number of the list stands at one place
abbrev pub Different : List ℕ → Type 0
Different xs = (j : ℕ) → j < length xs → first_place xs (get_or xs j 0) ≡ j

-- one number put in
pub record OneIn (xs : List ℕ) (c : ℕ) (ys : List ℕ) : Type 0 where
  pub begins : Begins xs ys
  pub stands : first_place ys c < length ys
  pub few : length ys ≤ length xs + 1
  pub new : (j : ℕ) → length xs ≤ j → j < length ys → (first_place ys c ≡ j) × (get_or ys j 0 ≡ c)

there_already : (xs : List ℕ) (c : ℕ) → first_place xs c < length xs → OneIn xs c xs
there_already xs c h = record { begins = begins-same xs; stands = h; few = omega arith; new = λ j a b. absurd (omega arith) }

put-behind : (xs : List ℕ) (c : ℕ) → (first_place xs c < length xs → ⊥) → OneIn xs c (xs ++ c ∷ [])
put-behind xs c h =
    let l : length (xs ++ c ∷ []) ≡ length xs + 1 = length_push xs c in
    let p : first_place (xs ++ c ∷ []) c ≡ length xs = place-new xs c h in
    record { begins = record { more = c ∷ []; is = refl }; stands = omega arith; few = omega arith; new = λ j a b. let e : j ≡ length xs = omega arith in (p ∙ sym e, get_or_push xs c 0 j (sym e)) }

pub one_in : (xs : List ℕ) (c : ℕ) → OneIn xs c (put_in xs c)
unfolding put_in
one_in xs c = go (ltb (first_place xs c) (length xs)) refl
  where
    go : (b : Bool) → ltb (first_place xs c) (length xs) ≡ b → OneIn xs c (cond b xs (xs ++ c ∷ []))
    go true e = there_already xs c (grind (arith, nat_tests))
    go false e = put-behind xs c (λ h. grind (arith, nat_tests))

one_different : (xs : List ℕ) (c : ℕ) (ys : List ℕ) → OneIn xs c ys → Different xs → Different ys
one_different xs c ys o d j h = elim (cases_lt j (length xs)) [
  | inl g ↦ (let e = begins-at xs ys o.begins j g in let p = d j g in rw e (begins-place xs ys o.begins (get_or xs j 0) (rw p g) ∙ p))
  | inr g ↦ (let n = o.new j g h in rw n.1 n.0)
]

-- all numbers put in
pub all-begin : (xs cs : List ℕ) → Begins xs (all_put_in xs cs)
unfolding all_put_in
all-begin xs [] = begins-same xs
all-begin xs (c ∷ cs) = begins-on xs (put_in xs c) (all_put_in (put_in xs c) cs) (one_in xs c).begins (all-begin (put_in xs c) cs)

pub all-different : (xs cs : List ℕ) → Different xs → Different (all_put_in xs cs)
unfolding all_put_in
all-different xs [] d = d
all-different xs (c ∷ cs) d = all-different (put_in xs c) cs (one_different xs c (put_in xs c) (one_in xs c) d)

-- what is there stays there, and at its place
pub still : (xs ys : List ℕ) → Begins xs ys → (c : ℕ) → first_place xs c < length xs → first_place ys c < length ys
still xs ys b c h = let e = begins-place xs ys b c h in let l = begins-length xs ys b in omega arith

pub all-stand_in : (xs cs : List ℕ) (c : ℕ) → In c cs → first_place (all_put_in xs cs) c < length (all_put_in xs cs)
unfolding all_put_in
all-stand_in xs [] c i = elim i [ ]
all-stand_in xs (d ∷ cs) c i =
    in_cases (first_place (all_put_in (put_in xs d) cs) c < length (all_put_in (put_in xs d) cs))
    (λ e. rw (sym e) (still (put_in xs d) (all_put_in (put_in xs d) cs) (all-begin (put_in xs d) cs) d (one_in xs d).stands))
    (λ m. all-stand_in (put_in xs d) cs c m) i

pub all_new : (xs cs : List ℕ) (j : ℕ) → length xs ≤ j → j < length (all_put_in xs cs) → In (get_or (all_put_in xs cs) j 0) cs
unfolding all_put_in
all_new xs [] j a h = absurd (omega arith)
all_new xs (c ∷ cs) j a h = elim (cases_lt j (length (put_in xs c))) [
  | inl g ↦ (let e = begins-at (put_in xs c) (all_put_in (put_in xs c) cs) (all-begin (put_in xs c) cs) j g in rw (e, ((one_in xs c).new j a g).1) here)
  | inr g ↦ there (all_new (put_in xs c) cs j g h)
]

pub all_append : (xs cs ds : List ℕ) → all_put_in xs (cs ++ ds) ≡ all_put_in (all_put_in xs cs) ds
unfolding all_put_in
all_append xs [] ds = refl
all_append xs (c ∷ cs) ds = all_append (put_in xs c) cs ds

-- how many there are then
pub one-length : (xs : List ℕ) (c : ℕ) → length (put_in xs c) ≤ length xs + 1
one-length xs c = (one_in xs c).few

pub put-length : (xs cs : List ℕ) → length (all_put_in xs cs) ≤ length xs + length cs
unfolding all_put_in
put-length xs [] = omega arith
put-length xs (c ∷ cs) = let a = one-length xs c in let b = put-length (put_in xs c) cs in omega arith

pub put-room : (xs cs ys : List ℕ) → ys ≡ all_put_in xs cs → length ys ≤ length xs + length cs
put-room xs cs ys e = rw e (put-length xs cs)

pub put-longer : (xs cs ys : List ℕ) → ys ≡ all_put_in xs cs → length xs ≤ length ys
put-longer xs cs ys e = rw e (begins-length xs (all_put_in xs cs) (all-begin xs cs))

-- whether a number is there, and its place
place-most : (xs : List ℕ) (c : ℕ) → first_place xs c ≤ length xs
unfolding first_place
place-most [] c = omega arith
place-most (x ∷ xs) c = go (eqb x c) (place-most xs c)
  where
    go : (b : Bool) → first_place xs c ≤ length xs → cond b 0 (suc (first_place xs c)) ≤ suc (length xs)
    go true h = omega arith
    go false h = omega arith

pub there-any : (xs : List ℕ) (c : ℕ) → list_any (λ y. eqb y c) xs ≡ ltb (first_place xs c) (length xs)
unfolding first_place
there-any [] c = refl
there-any (x ∷ xs) c = go (eqb x c) (there-any xs c)
  where
    go : (b : Bool) → list_any (λ y. eqb y c) xs ≡ ltb (first_place xs c) (length xs) → (b || list_any (λ y. eqb y c) xs) ≡ ltb (cond b 0 (suc (first_place xs c))) (suc (length xs))
    go true e = grind (arith, nat_tests)
    go false e = e ∙ grind (arith, nat_tests)

place-position : (xs : List ℕ) (c : ℕ) → position_or_len (λ y. eqb y c) xs ≡ first_place xs c
unfolding first_place
place-position [] c = refl
place-position (x ∷ xs) c = go (eqb x c) (place-position xs c)
  where
    go : (b : Bool) → position_or_len (λ z. eqb z c) xs ≡ first_place xs c → cond (not b) (1 + position_or_len (λ z. eqb z c) xs) 0 ≡ cond b 0 (suc (first_place xs c))
    go true i = refl
    go false i = omega (arith, i)

pub place-any : (xs : List ℕ) (c n : ℕ) (r : Option ℕ) → n ≡ length xs → r ≡ position (λ y. eqb y c) xs → unwrap_or r n ≡ first_place xs c
place-any xs c n r e h = rw (h, e, place-position xs c) (chosen (ltb (first_place xs c) (length xs)) (first_place xs c) (length xs) (λ f. let l = place-most xs c in grind (arith, nat_tests)))
  where
    chosen : (b : Bool) (m k : ℕ) → (b ≡ false → k ≡ m) → unwrap_or (cond b (Some m) None) k ≡ m
    chosen true m k f = refl
    chosen false m k f = f refl

-- The first choice that passes with some lines taken already: the steps of nested loops over the lines that come next.
use Rattle.std.proofs.Common.{◌≡◌, ℕ, suc, ◌+◌, ◌-◌, ◌<◌, ◌≤◌, Bool, cond, List, [], ◌∷◌, ◌++◌, map, Some, None, Option, sym, refl, ap, ◌∙◌, ap₂, arith}
use Rattle.std.specs.Option.{option_or}
use Rattle.std.proofs.lemmas.List.{append_assoc, append-nil, map-append, map-id}
use Rattle.minimization.specs.Choices.{choices, first_right, first_after, by_size}
use Rattle.minimization.proofs.Choosing.{first_join}

-- at first nothing is taken
pub after_none : {A : Type 0} (f : List A → Bool) (n : ℕ) (ws : List A) → first_after f [] n ws ≡ first_right f (choices n ws)
unfolding first_after
after_none f n ws = ap (first_right f) (map-id (choices n ws))

-- at last it is all taken
after_last : {A : Type 0} (f : List A → Bool) (p ws : List A) → first_after f p 0 ws ≡ cond (f p) (Some p) None
unfolding first_after choices first_right
after_last f p ws = rw append-nil

one_past : {A : Type 0} (p : List A) (w : A) (cs : List (List A)) → map (λ c. p ++ c) (map (λ c. w ∷ c) cs) ≡ map (λ c. (p ++ w ∷ []) ++ c) cs
one_past p w [] = refl
one_past {A} p w (c ∷ cs) = ap₂ {C = List (List A)} (λ (a : List A) (b : List (List A)). a ∷ b) (sym (append_assoc p (w ∷ []) c)) (one_past p w cs)

-- with the next line, or without it
after_more : {A : Type 0} (f : List A → Bool) (p : List A) (n : ℕ) (w : A) (ws : List A)
    → first_after f p (suc n) (w ∷ ws) ≡ option_or (first_after f (p ++ w ∷ []) n ws) (first_after f p (suc n) ws)
unfolding first_after choices
after_more {A} f p n w ws =
    ap (first_right f) (map-append (λ c. p ++ c) (map (λ c. w ∷ c) (choices n ws)) (choices (suc n) ws))
    ∙ first_join f (map (λ c. p ++ c) (map (λ c. w ∷ c) (choices n ws))) (map (λ c. p ++ c) (choices (suc n) ws))
    ∙ ap (λ (cs : List (List A)). option_or (first_right f cs) (first_right f (map (λ c. p ++ c) (choices (suc n) ws)))) (one_past p w (choices n ws))

-- no line is left
after_end : {A : Type 0} (f : List A → Bool) (p : List A) (n : ℕ) → first_after f p (suc n) [] ≡ None
unfolding first_after choices first_right
after_end f p n = refl

pub or-none : {B : Type 0} (o : Option B) → option_or o None ≡ o
or-none None = refl
or-none (Some c) = refl

or-or : {B : Type 0} (a b c : Option B) → option_or (option_or a b) c ≡ option_or a (option_or b c)
or-or None b c = refl
or-or (Some x) b c = refl

-- A loop over the lines that come next, behind p which are taken, at n more to take: what is found in it, or else in what comes after it.
module _ {A : Type 0} (f : List A → Bool) where
  abbrev pub left : List A → ℕ → List A → Option (List A) → Option (List A)
  left p n ws rest = option_or (first_after f p n ws) rest

  -- the first loop begins
  pub begin : (p : List A) (n : ℕ) (ws : List A) → p ≡ [] → left p n ws None ≡ first_right f (choices n ws)
  begin p n ws e = or-none (first_after f p n ws) ∙ ap (λ (q : List A). first_after f q n ws) e ∙ after_none f n ws

  -- the next line is taken, and the next loop begins behind it
  pub enter : (p q : List A) (n : ℕ) (before : List A) (w : A) (ws : List A) (rest whole : Option (List A)) → before ≡ w ∷ ws → q ≡ p ++ w ∷ [] → left p (suc n) before rest ≡ whole
      → left q n ws (left p (suc n) ws rest) ≡ whole
  enter p q n before w ws rest whole b e is =
      ap (λ (r : List A). left r n ws (left p (suc n) ws rest)) e
      ∙ sym (or-or (first_after f (p ++ w ∷ []) n ws) (first_after f p (suc n) ws) rest)
      ∙ ap (λ (o : Option (List A)). option_or o rest) (sym (after_more f p n w ws))
      ∙ ap (λ (xs : List A). left p (suc n) xs rest) (sym b)
      ∙ is

  -- a loop is over
  pub over : (p : List A) (n : ℕ) (none : List A) (rest whole : Option (List A)) → none ≡ [] → left p (suc n) none rest ≡ whole → rest ≡ whole
  over p n none rest whole e is = ap (λ (o : Option (List A)). option_or o rest) (sym (ap (first_after f p (suc n)) e ∙ after_end f p n)) ∙ is

  -- with the next line o is found, something or nothing
  pub tried : (p q : List A) (n : ℕ) (before : List A) (w : A) (ws : List A) (rest whole o : Option (List A)) → before ≡ w ∷ ws → q ≡ p ++ w ∷ [] → o ≡ first_after f q n ws → left p (suc n) before rest ≡ whole
      → option_or o (left p (suc n) ws rest) ≡ whole
  tried p q n before w ws rest whole o b e now is = ap (λ (r : Option (List A)). option_or r (left p (suc n) ws rest)) now ∙ enter p q n before w ws rest whole b e is

  -- all lines are taken with the next: they pass, or they don't
  pub tested : (p q : List A) (before : List A) (w : A) (ws : List A) (rest whole : Option (List A)) (t : Bool) → before ≡ w ∷ ws → q ≡ p ++ w ∷ [] → t ≡ f q → left p 1 before rest ≡ whole
      → option_or (cond t (Some q) None) (left p 1 ws rest) ≡ whole
  tested p q before w ws rest whole t b e now is = tried p q 0 before w ws rest whole (cond t (Some q) None) b e (ap (λ (y : Bool). cond y (Some q) None) now ∙ sym (after_last f q ws)) is

-- A loop over sizes: a choice of the next size is found or not, and the end.
size_more : {A : Type 0} (f : List A → Bool) (ws : List A) (most n : ℕ) → n < most + 1
    → by_size f ws (most + 1 - n) n ≡ option_or (first_right f (choices n ws)) (by_size f ws (most + 1 - (n + 1)) (n + 1))
unfolding by_size
size_more f ws most n h =
    let e : most + 1 - n ≡ suc (most + 1 - (n + 1)) = omega arith in
    let s : suc n ≡ n + 1 = omega arith in
    rw (e, s)

pub size_tried : {A : Type 0} (f : List A → Bool) (ws : List A) (most n : ℕ) (whole o : Option (List A)) → n < most + 1 → o ≡ first_right f (choices n ws) → by_size f ws (most + 1 - n) n ≡ whole
    → option_or o (by_size f ws (most + 1 - (n + 1)) (n + 1)) ≡ whole
size_tried f ws most n whole o h e inv = ap (λ (p : Option (List _)). option_or p (by_size f ws (most + 1 - (n + 1)) (n + 1))) e ∙ sym (size_more f ws most n h) ∙ inv

pub size_end : {A : Type 0} (f : List A → Bool) (ws : List A) (most n : ℕ) → most + 1 ≤ n → by_size f ws (most + 1 - n) n ≡ None
unfolding by_size
size_end f ws most n h = let e : most + 1 - n ≡ 0 = omega arith in rw e

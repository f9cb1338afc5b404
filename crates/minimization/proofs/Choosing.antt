-- Choices from a list are its parts, they stand in order, and the first that passes comes before all others that do.
use Rattle.std.proofs.Common.{◌≡◌, ℕ, zero, suc, ◌+◌, ◌<◌, Bool, true, false, cond, ◌⊎◌, List, [], ◌∷◌, ◌++◌, map, length, Some, None, Option, sym, refl, ap, ◌∙◌, subst, inl, inr, arith}
use borrow.Author.Tests.{clash}
use Rattle.std.specs.Option.{option_or, option_map}
use Rattle.std.proofs.lemmas.Bool.{cases_eq}
use Rattle.question.specs.Question.{Line, In}
use Rattle.question.proofs.Members.{in_left, in_right, in_split, in_cases}
use Rattle.question.proofs.Places.{in_head, in_map, map_each}
use Rattle.containment.specs.Order.{Rising, Earlier}
use Rattle.containment.proofs.Chosen.{chosen}
use Rattle.containment.proofs.Searching.{none-some}
use Rattle.minimization.specs.Choices.{choices, first_right, by_size}

-- a part of a list, in its order
pub data PartOf {A : Type 0} : List A → List A → Type 0 where
  none_left : PartOf [] []
  keep : {a : A} {xs ys : List A} → PartOf xs ys → PartOf (a ∷ xs) (a ∷ ys)
  skip : {a : A} {xs ys : List A} → PartOf xs ys → PartOf xs (a ∷ ys)

pub part_none : {A : Type 0} (ys : List A) → PartOf [] ys
part_none [] = PartOf.none_left
part_none (y ∷ ys) = PartOf.skip (part_none ys)

pub part-all : {A : Type 0} (ys : List A) → PartOf ys ys
part-all [] = PartOf.none_left
part-all (y ∷ ys) = PartOf.keep (part-all ys)

pub part_trans : {A : Type 0} {xs ys zs : List A} → PartOf xs ys → PartOf ys zs → PartOf xs zs
part_trans p PartOf.none_left = p
part_trans (PartOf.keep p) (PartOf.keep q) = PartOf.keep (part_trans p q)
part_trans (PartOf.skip p) (PartOf.keep q) = PartOf.skip (part_trans p q)
part_trans p (PartOf.skip q) = PartOf.skip (part_trans p q)

pub part_in : {A : Type 0} {xs ys : List A} → PartOf xs ys → (a : A) → In a xs → In a ys
part_in PartOf.none_left a i = i
part_in (PartOf.keep p) a In.here = In.here
part_in (PartOf.keep p) a (In.there i) = In.there (part_in p a i)
part_in (PartOf.skip p) a i = In.there (part_in p a i)

pub part-rising : {A : Type 0} {before : A → A → Type 0} {xs ys : List A} → PartOf xs ys → Rising before ys → Rising before xs
part-rising PartOf.none_left r = Rising.none_left
part-rising (PartOf.keep p) (Rising.and_one f r) = Rising.and_one (λ x i. f x (part_in p x i)) (part-rising p r)
part-rising (PartOf.skip p) (Rising.and_one f r) = part-rising p r

pub part_chosen : (m : List Bool) (ls : List Line) → PartOf (chosen m ls) ls
unfolding chosen
part_chosen m [] = PartOf.none_left
part_chosen [] (l ∷ ls) = part_none (l ∷ ls)
part_chosen (true ∷ m) (l ∷ ls) = PartOf.keep (part_chosen m ls)
part_chosen (false ∷ m) (l ∷ ls) = PartOf.skip (part_chosen m ls)

-- choices are parts, and parts are choices
pub choice-length : {A : Type 0} (n : ℕ) (ws c : List A) → In c (choices n ws) → length c ≡ n
unfolding choices
choice-length zero ws c m = in_head (λ d. length d ≡ 0) refl (λ k. elim k [ ]) m
choice-length (suc n) [] c m = elim m [ ]
choice-length (suc n) (w ∷ ws) c m =
    elim (in_split (map (λ d. w ∷ d) (choices n ws)) (choices (suc n) ws) m) [
      | inl k ↦ map_each (λ d. w ∷ d) (λ d. length d ≡ suc n) (choices n ws) (λ d j. ap suc (choice-length n ws d j)) c k
      | inr k ↦ choice-length (suc n) ws c k
    ]

pub choice-part : {A : Type 0} (n : ℕ) (ws c : List A) → In c (choices n ws) → PartOf c ws
unfolding choices
choice-part zero ws c m = in_head (λ d. PartOf d ws) (part_none ws) (λ k. elim k [ ]) m
choice-part (suc n) [] c m = elim m [ ]
choice-part (suc n) (w ∷ ws) c m =
    elim (in_split (map (λ d. w ∷ d) (choices n ws)) (choices (suc n) ws) m) [
      | inl k ↦ map_each (λ d. w ∷ d) (λ d. PartOf d (w ∷ ws)) (choices n ws) (λ d j. PartOf.keep (choice-part n ws d j)) c k
      | inr k ↦ PartOf.skip (choice-part (suc n) ws c k)
    ]

later : {A : Type 0} (c : List A) (w : A) (ws : List A) → In c (choices (length c) ws) → In c (choices (length c) (w ∷ ws))
unfolding choices
later [] w ws i = i
later (x ∷ c) w ws i = in_right (map (λ d. w ∷ d) (choices (length c) ws)) i

pub part-choice : {A : Type 0} {c ws : List A} → PartOf c ws → In c (choices (length c) ws)
unfolding choices
part-choice PartOf.none_left = In.here
part-choice (PartOf.keep {a = a} {xs = c} {ys = ws} p) = in_left (choices (suc (length c)) ws) (in_map (λ d. a ∷ d) (part-choice p))
part-choice (PartOf.skip {a = a} {xs = c} {ys = ws} p) = later c a ws (part-choice p)

-- what stands in order and is in a list that stands in order is a part of it
pub rising_part : {A : Type 0} {before : A → A → Type 0} → ((a : A) → before a a → ⊥) → ((a b c : A) → before a b → before b c → before a c)
    → {ws : List A} (xs : List A) → Rising before ws → Rising before xs → ((x : A) → In x xs → In x ws) → PartOf xs ws
rising_part irr tr [] Rising.none_left r f = PartOf.none_left
rising_part irr tr (x ∷ xs) Rising.none_left r f = elim (f x In.here) [ ]
rising_part irr tr [] (Rising.and_one {a = w} {xs = ws} o s) r f = part_none (w ∷ ws)
rising_part {before = before} irr tr (x ∷ xs) (Rising.and_one {a = w} {xs = ws} o s) (Rising.and_one p r) f =
    in_cases (PartOf (x ∷ xs) (w ∷ ws))
    (λ e. subst (λ (z : _). PartOf (z ∷ xs) (w ∷ ws)) e
    (PartOf.keep (rising_part irr tr xs s r (λ y i. in_cases (In y ws) (λ g. absurd (irr y (subst (λ (z : _). before z y) (sym e ∙ g) (p y i)))) (λ j. j) (f y (In.there i))))))
    (λ i. PartOf.skip (rising_part irr tr (x ∷ xs) s (Rising.and_one p r) (λ y j.
    in_cases (In y ws) (λ g. absurd (in_head (λ z. w ≡ z → ⊥) (λ h. irr x (subst (λ (z : _). before z x) h (o x i))) (λ k h. irr y (tr y x y (subst (λ (z : _). before z x) h (o x i)) (p y k))) j g)) (λ k. k) (f y j))))
    (f x In.here)

-- choices from what stands in order stand in order
rising_join : {A : Type 0} {before : A → A → Type 0} {xs ys : List A} → Rising before xs → Rising before ys → ((x y : A) → In x xs → In y ys → before x y) → Rising before (xs ++ ys)
rising_join Rising.none_left s f = s
rising_join {before = before} {ys = ys} (Rising.and_one {a = a} {xs = xs} o r) s f =
    Rising.and_one (λ x i. elim (in_split xs ys i) [ inl j ↦ o x j | inr j ↦ f a x In.here j ]) (rising_join r s (λ x y i j. f x y (In.there i) j))

rising_cons : {A : Type 0} {before : A → A → Type 0} (w : A) {cs : List (List A)} → Rising (Earlier before) cs → Rising (Earlier before) (map (λ c. w ∷ c) cs)
rising_cons w Rising.none_left = Rising.none_left
rising_cons {before = before} w (Rising.and_one {a = c} {xs = cs} o r) =
    Rising.and_one (λ x i. map_each (λ d. w ∷ d) (λ d. Earlier before (w ∷ c) d) cs (λ d j. Earlier.by_tail (o d j)) x i) (rising_cons w r)

pub choices-rising : {A : Type 0} {before : A → A → Type 0} (n : ℕ) {ws : List A} → Rising before ws → Rising (Earlier before) (choices n ws)
unfolding choices
choices-rising zero r = Rising.and_one (λ x i. elim i [ ]) Rising.none_left
choices-rising (suc n) Rising.none_left = Rising.none_left
choices-rising {before = before} (suc n) (Rising.and_one {a = w} {xs = ws} o r) =
    rising_join (rising_cons w (choices-rising n r)) (choices-rising (suc n) r)
    (λ x y i j. map_each (λ d. w ∷ d) (λ d. Earlier before d y) (choices n ws) (λ d k. head d y (choice-length (suc n) ws y j) (choice-part (suc n) ws y j)) x i)
  where
    head : (d y : List _) → length y ≡ suc n → PartOf y ws → Earlier before (w ∷ d) y
    head d [] e p = absurd (omega arith)
    head d (z ∷ y) e p = Earlier.by_head (o z (part_in p z In.here))

-- the first that passes
first_cases : {A : Type 0} (f : A → Bool) (c : A) (cs : List A) (P : Option A → Type 0) → (f c ≡ true → P (Some c)) → (f c ≡ false → P (first_right f cs)) → P (first_right f (c ∷ cs))
unfolding first_right
first_cases f c cs P g h = go (f c) refl
  where
    go : (b : Bool) → f c ≡ b → P (cond b (Some c) (first_right f cs))
    go true e = g e
    go false e = h e

pub first_in : {A : Type 0} (f : A → Bool) (cs : List A) (c : A) → first_right f cs ≡ Some c → In c cs × (f c ≡ true)
unfolding first_right
first_in f [] c e = absurd (none-some None refl e)
first_in f (d ∷ cs) c e =
    first_cases f d cs (λ o. o ≡ Some c → In c (d ∷ cs) × (f c ≡ true))
    (λ t e'. let z : d ≡ c = cc e' in (subst (λ (x : _). In c (x ∷ cs)) (sym z) In.here, ap f (sym z) ∙ t))
    (λ t e'. let r = first_in f cs c e' in (In.there r.0, r.1)) e

pub first-none : {A : Type 0} (f : A → Bool) (cs : List A) → first_right f cs ≡ None → (c : A) → In c cs → f c ≡ true → ⊥
unfolding first_right
first-none f [] e c i t = elim i [ ]
first-none f (d ∷ cs) e c i t =
    first_cases f d cs (λ o. o ≡ None → ⊥) (λ u e'. none-some (Some d) e' refl)
    (λ u e'. in_head (λ x. f x ≡ true → ⊥) (λ g. clash (sym u ∙ g)) (λ j. first-none f cs e' c j) i t) e

pub first-least : {A : Type 0} {before : A → A → Type 0} (f : A → Bool) {cs : List A} (c : A) → Rising before cs → first_right f cs ≡ Some c → (d : A) → In d cs → f d ≡ true → (c ≡ d) ⊎ before c d
first-least f c Rising.none_left e d i t = elim i [ ]
first-least {before = before} f c (Rising.and_one {a = b} {xs = cs} o r) e d i t =
    first_cases f b cs (λ p. p ≡ Some c → (c ≡ d) ⊎ before c d)
    (λ u e'. let z : b ≡ c = cc e' in subst (λ (x : _). (x ≡ d) ⊎ before x d) z (in_head (λ x. (b ≡ x) ⊎ before b x) (inl refl) (λ j. inr (o d j)) i))
    (λ u e'. in_head (λ x. f x ≡ true → (c ≡ x) ⊎ before c x) (λ g. absurd (clash (sym u ∙ g))) (λ j. first-least f c r e' d j) i t) e

-- the first that passes in two lists, and in a list that is made from another
pub first_join : {A : Type 0} (f : A → Bool) (cs ds : List A) → first_right f (cs ++ ds) ≡ option_or (first_right f cs) (first_right f ds)
unfolding first_right
first_join f [] ds = refl
first_join f (c ∷ cs) ds = go (f c) (first_join f cs ds)
  where
    go : (b : Bool) → first_right f (cs ++ ds) ≡ option_or (first_right f cs) (first_right f ds) → cond b (Some c) (first_right f (cs ++ ds)) ≡ option_or (cond b (Some c) (first_right f cs)) (first_right f ds)
    go true e = refl
    go false e = e

pub first-map : {A B : Type 0} (g : A → B) (f : B → Bool) (cs : List A) → first_right f (map g cs) ≡ option_map g (first_right (λ c. f (g c)) cs)
unfolding first_right
first-map g f [] = refl
first-map {A} {B} g f (c ∷ cs) = go (f (g c)) (first-map g f cs)
  where
    go : (b : Bool) → first_right f (map g cs) ≡ option_map g (first_right (λ c. f (g c)) cs) → cond b (Some (g c)) (first_right f (map g cs)) ≡ option_map g (cond b (Some c) (first_right (λ c. f (g c)) cs))
    go true e = refl
    go false e = e

-- choices by size
module _ {A : Type 0} (f : List A → Bool) (ws : List A) where
  abbrev pub None-at : ℕ → Type 0
  None-at j = (c : List A) → In c (choices j ws) → f c ≡ true → ⊥

  abbrev pub Result : ℕ → Option (List A) → Type 0
  Result top None = (j : ℕ) → j < top → None-at j
  Result top (Some c) = (first_right f (choices (length c) ws) ≡ Some c) × ((i : ℕ) → i < length c → None-at i)

  size_step : (k n : ℕ) (o p : Option (List A)) → ((j : ℕ) → j < n → None-at j) → first_right f (choices n ws) ≡ o → (((j : ℕ) → j < suc n → None-at j) → Result (suc n + k) p) → Result (n + suc k) (option_or o p)
  size_step k n (Some c) p z h g =
      let e : n ≡ length c = sym (choice-length n ws c (first_in f (choices n ws) c h).0) in
      (subst (λ (m : ℕ). first_right f (choices m ws) ≡ Some c) e h, λ i j. z i (omega arith))
  size_step k n None p z h g = move p (g (λ j i. elim (cases_eq j n) [ inl e ↦ subst None-at (sym e) (first-none f (choices n ws) h) | inr d ↦ z j (omega arith) ]))
    where
      move : (p : Option (List A)) → Result (suc n + k) p → Result (n + suc k) p
      move None r = λ j i. r j (omega arith)
      move (Some c) r = r

  pub size_is : (k n : ℕ) → ((j : ℕ) → j < n → None-at j) → Result (n + k) (by_size f ws k n)
  unfolding by_size
  size_is zero n z = λ j i. z j (omega arith)
  size_is (suc k) n z = size_step k n (first_right f (choices n ws)) (by_size f ws k (suc n)) z refl (λ y. size_is k (suc n) y)

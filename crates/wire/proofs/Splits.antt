-- Lines and cells one after the other: what stands first in a text, and what is left behind it.
use Rattle.std.proofs.Common.{◌≡◌, ℕ, zero, suc, ◌+◌, ◌-◌, ◌<◌, ◌≤◌, Bool, true, false, cond, eqb, min, List, [], ◌∷◌, ◌++◌, length, get_or, take, drop, Some, None, Option, Bor, MatchOption, nat_eq, sym, refl, ap, ◌∙◌, inl, inr, arith, eq-eqb, eqb-true}
use borrow.Author.Tests.{clash}
use Rattle.std.proofs.lemmas.List.{drop_more, drop_all, drop_at, take_at, take_all, take_more, length-take, get_or-drop, get_or-take}
use Rattle.std.proofs.lemmas.Bool.Decides.{nat_tests, eqb_tells, leb_tells}
use Rattle.std.proofs.lemmas.Fn.{always_returns_same}
use denote.Param.Members.{Mut}
use Rattle.std.specs.Fn.{Called, ComputesKey}
use Rattle.std.specs.Cmp.Lexicographic.{same_text, other_text}
use Rattle.std.specs.List.{IsFirstMatchOrLen, slice_split, onto_first}
use Rattle.std.specs.Option.{unwrap_or}
use lib.Pointwise.{pointwise}
use Rattle.wire.specs.Tables.{begin, lines, trimmed, pieces}
use Rattle.wire.specs.Texts.{until, before_end}

-- the byte stands first, or it doesn't
pub until-here : (b x : ℕ) (xs : List ℕ) → x ≡ b → until b (x ∷ xs) ≡ 0
unfolding until
until-here b x xs e = let t : eqb x b ≡ true = grind (arith, nat_tests) in rw t

pub until_past : (b x : ℕ) (xs : List ℕ) → (x ≡ b → ⊥) → until b (x ∷ xs) ≡ suc (until b xs)
unfolding until
until_past b x xs n = let t : eqb x b ≡ false = grind (arith, nat_tests) in rw t

pub until-within : (b : ℕ) (xs : List ℕ) → until b xs ≤ length xs
unfolding until
until-within b [] = omega arith
until-within b (x ∷ xs) = elim (eqb_tells x b) [ inl k ↦ rw (until-here b x xs k.1) (omega arith) | inr k ↦ rw (until_past b x xs k.1) (omega (arith, until-within b xs)) ]

-- it is the place that the library tells of
pub until_first : (b : ℕ) (xs : List ℕ) (i : ℕ) → IsFirstMatchOrLen (λ y. eqb y b) xs i → until b xs ≡ min i (length xs)
unfolding until
until_first b [] i h = omega arith
until_first b (x ∷ xs) zero h = until-here b x xs (eqb-true x b (h.1 (omega arith) 0)) ∙ omega arith
until_first b (x ∷ xs) (suc i) h =
    let past : x ≡ b → ⊥ = λ e. clash (sym (h.0 0 0 (omega arith) (omega arith)) ∙ eq-eqb x b e) in
    let on = until_first b xs i (λ k d l m. h.0 (suc k) d (omega arith) (omega arith), λ l d. h.1 (omega arith) d) in
    until_past b x xs past ∙ omega (arith, on)

-- the byte stands at that place, or nowhere
until_at : (b : ℕ) (xs : List ℕ) → until b xs < length xs → get_or xs (until b xs) 0 ≡ b
unfolding until
until_at b [] h = absurd (omega arith)
until_at b (x ∷ xs) h =
    elim (eqb_tells x b) [
      | inl k ↦ rw (until-here b x xs k.1) k.1
      | inr k ↦ rw (until_past b x xs k.1) (until_at b xs (omega (arith, until_past b x xs k.1)))
    ]

until_none : (b : ℕ) (xs : List ℕ) → until b xs ≡ length xs → (i : ℕ) → i < length xs → get_or xs i 0 ≡ b → ⊥
unfolding until
until_none b [] h i l e = absurd (omega arith)
until_none b (x ∷ xs) h zero l e = omega (arith, until-here b x xs e)
until_none b (x ∷ xs) h (suc i) l e =
    elim (eqb_tells x b) [ inl k ↦ omega (arith, until-here b x xs k.1) | inr k ↦ until_none b xs (omega (arith, until_past b x xs k.1)) i (omega arith) e ]

-- a line with the byte at its end, and any other
end_here : (b : ℕ) (xs : List ℕ) → get_or xs (length xs - 1) 0 ≡ b → before_end b xs ≡ take (length xs - 1) xs
unfolding before_end
end_here b xs h = let t : eqb (get_or xs (length xs - 1) 0) b ≡ true = grind (arith, nat_tests) in rw t

end_other : (b : ℕ) (xs : List ℕ) → (0 < length xs → get_or xs (length xs - 1) 0 ≡ b → ⊥) → before_end b xs ≡ xs
unfolding before_end
end_other b [] h = elim (eqb_tells (get_or {A = ℕ} [] (0 - 1) 0) b) [ inl k ↦ rw k.0 | inr k ↦ rw k.0 ]
end_other b (x ∷ xs) h =
    let n : get_or (x ∷ xs) (length (x ∷ xs) - 1) 0 ≡ b → ⊥ = h (omega arith) in
    let t : eqb (get_or (x ∷ xs) (length (x ∷ xs) - 1) 0) b ≡ false = grind (arith, nat_tests) in
    rw t

-- what the library strips off a line
pub stripped : (b : ℕ) (line : Bor (List ℕ)) (r : Option (Bor (List ℕ)))
    → MatchOption r (pointwise nat_eq (drop (length line.now - 1) line.now) (b ∷ []) ≡ false)
    (λ x. (pointwise nat_eq (drop (length line.now - 1) line.now) (b ∷ []) ≡ true) × (x.now ≡ take (length line.now - 1) line.now) × (length x.now + 1 ≡ length line.now))
    → (unwrap_or r line).now ≡ before_end b line.now
stripped b line (Some x) h =
    let last : drop (length line.now - 1) line.now ≡ b ∷ [] = same_text _ _ (sym h.0) in
    h.1 ∙ sym (end_here b line.now (sym (get_or-drop (length line.now - 1) line.now 0 0 ∙ ap (λ k. get_or line.now k 0) (omega arith)) ∙ ap (λ ys. get_or ys 0 0) last))
stripped b line None h =
    sym (end_other b line.now (λ l e.
    other_text _ _ (sym h) (drop_more line.now (length line.now - 1) 0 (omega arith) ∙ rw e (ap (λ ys. b ∷ ys) (drop_all (length line.now - 1 + 1) line.now (omega arith))))))

-- a line with the byte that ends it, as the library cuts it off a text
cut_line : (b : ℕ) (xs line others : List ℕ) (i : ℕ) → xs ≡ line ++ others → length line ≡ min (i + 1) (length xs) → IsFirstMatchOrLen (λ y. eqb y b) xs i
    → (before_end b line ≡ take (until b xs) xs) × (others ≡ drop (until b xs + 1) xs)
cut_line b xs line others i e l h = elim (leb_tells (length xs) (until b xs)) [ inl k ↦ whole k.1 | inr k ↦ part k.1 ]
  where
    u : until b xs ≡ min i (length xs)
    u = until_first b xs i h

    front : line ≡ take (length line) xs
    front = rw e (sym (take_at line others (length line) refl))

    back : others ≡ drop (length line) xs
    back = rw e (sym (drop_at line others (length line) refl))

    whole : length xs ≤ until b xs → (before_end b line ≡ take (until b xs) xs) × (others ≡ drop (until b xs + 1) xs)
    whole k =
        let same : line ≡ xs = front ∙ take_all (length line) xs (omega (arith, u, l, k)) in
        let n : until b xs ≡ length xs = omega (arith, until-within b xs, k) in (
          rw same (end_other b xs (λ m z. until_none b xs n (length xs - 1) (omega arith) z) ∙ sym (take_all (until b xs) xs k)),
          back ∙ drop_all (length line) xs (omega (arith, u, l, k)) ∙ sym (drop_all (until b xs + 1) xs (omega (arith, k))),
        )

    part : until b xs < length xs → (before_end b line ≡ take (until b xs) xs) × (others ≡ drop (until b xs + 1) xs)
    part k =
        let n : length line ≡ until b xs + 1 = omega (arith, u, l, k) in
        let m : length line - 1 ≡ until b xs = omega (arith, n) in
        let last : get_or line (length line - 1) 0 ≡ b = rw m (ap (λ (ys : List ℕ). get_or ys (until b xs) 0) (front ∙ ap (λ j. take j xs) n) ∙ get_or-take (until b xs + 1) xs (until b xs) 0 (omega arith) ∙ until_at b xs k) in (
          end_here b line last ∙ rw m (ap (take (until b xs)) (front ∙ ap (λ j. take j xs) n) ∙ ap (take (until b xs)) (take_more xs (until b xs) 0 k) ∙ take_at (take (until b xs) xs) _ (until b xs) (simp length-take (omega arith))),
          back ∙ ap (λ j. drop j xs) n,
        )

pub cut_next : {F : Type 0} (g : Mut F (Bor ℕ × Unit {0}) Bool) (b : ℕ) (xs line others : List ℕ) (f h : F)
    → (xs ≡ line ++ others) × ((i : ℕ) × (length line ≡ min (i + 1) (length xs)) × ((p : ℕ → Bool) → ComputesKey g p f → ComputesKey g p h × IsFirstMatchOrLen p xs i)) × (0 < length xs)
    → ((a : Bor ℕ × Unit {0}) (r : Bool) (q : F) → Called g f a r q → (r ≡ eqb a.0.now b) × (q ≡ f))
    → (before_end b line ≡ take (until b xs) xs) × (others ≡ drop (until b xs + 1) xs)
cut_next g b xs line others f h s tests =
    cut_line b xs line others s.1.0 s.0 s.1.1 (s.1.2 (λ y. eqb y b) (always_returns_same g (λ a r. r ≡ eqb a.0.now b) f tests)).1

-- the first line of a text, and the text behind it
pub lines_more : (xs : List ℕ) → 0 < length xs → lines xs ≡ take (until 10 xs) xs ∷ lines (drop (suc (until 10 xs)) xs)
unfolding lines until
lines_more [] h = absurd (omega arith)
lines_more (x ∷ []) h = elim (eqb_tells x 10) [ inl k ↦ rw k.0 | inr k ↦ rw k.0 ]
lines_more (x ∷ y ∷ ys) h = elim (eqb_tells x 10) [ inl k ↦ rw k.0 | inr k ↦ rw k.0 (ap (begin x) (lines_more (y ∷ ys) (omega arith))) ]

begins : (b : ℕ) (parts : List (List ℕ)) → begin b parts ≡ onto_first b parts
begins b [] = refl
begins b (part ∷ parts) = refl

-- a carriage return at the end of a line
trimmed_is : (xs : List ℕ) → trimmed xs ≡ before_end 13 xs
unfolding trimmed before_end
trimmed_is xs = refl

pub trimmed_line : (row mid line : List ℕ) → row ≡ before_end 13 mid → mid ≡ before_end 10 line → row ≡ trimmed (before_end 10 line)
trimmed_line row mid line e f = e ∙ sym (trimmed_is mid) ∙ ap trimmed f

pub trimmed-other : (xs : List ℕ) → (0 < length xs → get_or xs (length xs - 1) 0 ≡ 13 → ⊥) → trimmed xs ≡ xs
trimmed-other xs h = trimmed_is xs ∙ end_other 13 xs h

-- the cells of a line, as the library cuts it
pub pieces_split : (xs : List ℕ) → pieces xs ≡ slice_split (λ b. eqb b 44) xs
unfolding pieces
pieces_split [] = refl
pieces_split (x ∷ xs) = rw (pieces_split xs) (ap (cond (eqb x 44) ([] ∷ slice_split (λ b. eqb b 44) xs)) (begins x (slice_split (λ b. eqb b 44) xs)))

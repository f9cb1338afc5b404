-- The least question's lines are the first by places.
use Rattle.std.proofs.Common.{◌≡◌, ℕ, zero, suc, Bool, List, [], ◌∷◌, ◌++◌, map, length, get_or, Some, None, Option, sym, refl, ap, ◌∙◌, subst, ap₂, arith}
use Rattle.std.specs.Option.{option_map}
use Rattle.std.proofs.lemmas.List.{map-append}
use Rattle.question.specs.Question.{Line, In, Same}
use Rattle.containment.proofs.Counting.{from_on, from_in, in_from, from-rising}
use Rattle.containment.proofs.Exactly.{within-reads}
use Rattle.minimization.specs.Choices.{choices, first_right}
use Rattle.minimization.specs.Least.{says_same, at_places}
use Rattle.minimization.specs.Laws.{LeastFirst}
use Rattle.minimization.proofs.Choosing.{PartOf, part_in, part-rising, choice-part, choice-length, part-choice, rising_part, choices-rising, first_in, first-least, first-map}
use Rattle.minimization.proofs.Fewest.{with_lines, reads_same, Got, got}

-- choices and the first of them, from a list that is made from another
map_cons : {A B : Type 0} (f : A → B) (x : A) (cs : List (List A)) → map (λ c. f x ∷ c) (map (map f) cs) ≡ map (map f) (map (λ c. x ∷ c) cs)
map_cons f x [] = refl
map_cons {B = B} f x (c ∷ cs) = ap {B = List (List B)} (λ r. (f x ∷ map f c) ∷ r) (map_cons f x cs)

choices-map : {A B : Type 0} (f : A → B) (n : ℕ) (xs : List A) → choices n (map f xs) ≡ map (map f) (choices n xs)
unfolding choices
choices-map f zero xs = refl
choices-map f (suc n) [] = refl
choices-map {A} {B} f (suc n) (x ∷ xs) =
    ap₂ {C = List (List B)} (λ a b. map (λ c. f x ∷ c) a ++ b) (choices-map f n xs) (choices-map f (suc n) xs)
    ∙ ap (λ (a : List (List B)). a ++ map (map f) (choices (suc n) xs)) (map_cons f x (choices n xs))
    ∙ sym (map-append (map f) (map (λ c. x ∷ c) (choices n xs)) (choices (suc n) xs))

mapped_some : {A B : Type 0} (g : A → B) (o : Option A) (b : B) → option_map g o ≡ Some b → (a : A) × (o ≡ Some a) × (g a ≡ b)
mapped_some g None b e = absurd (let z : ◌≡◌ {A = ℕ} 0 1 = cc e in omega arith)
mapped_some g (Some a) b e = (a, refl, cc e)

abbrev no_line : Line
no_line = record { table = 0; cells = [] }

all-places : (ls : List Line) → map (λ i. get_or ls i no_line) (from_on 0 (length ls)) ≡ ls
unfolding from_on
all-places [] = refl
all-places (l ∷ ls) = ap {B = List Line} (λ r. l ∷ r) (shift 0 (length ls) ∙ all-places ls)
  where
    shift : (n k : ℕ) → map (λ i. get_or (l ∷ ls) i no_line) (from_on (suc n) k) ≡ map (λ i. get_or ls i no_line) (from_on n k)
    shift n zero = refl
    shift n (suc k) = ap {B = List Line} (λ r. get_or ls n no_line ∷ r) (shift (suc n) k)

length-places : (ls : List Line) (ps : List ℕ) → length (at_places ls ps) ≡ length ps
unfolding at_places
length-places ls [] = refl
length-places ls (p ∷ ps) = ap suc (length-places ls ps)

choices-at : (n : ℕ) (ls : List Line) → choices n ls ≡ map (at_places ls) (choices n (from_on 0 (length ls)))
unfolding at_places
choices-at n ls = ap (choices n) (sym (all-places ls)) ∙ choices-map (λ i. get_or ls i no_line) n (from_on 0 (length ls))

pub least_first : LeastFirst
unfolding Same
least_first q sq =
    let g : Got q = got q sq in
    let n : ℕ = length g.lines in
    let k : ℕ = length q.lines in
    let f : List ℕ → Bool = λ ps. says_same q (at_places q.lines ps) in
    let cs : List (List ℕ) = choices n (from_on 0 k) in
    let a : choices n q.lines ≡ map (at_places q.lines) cs = choices-at n q.lines in
    let b : option_map (at_places q.lines) (first_right f cs) ≡ Some g.lines
    = sym (first-map (at_places q.lines) (says_same q) cs) ∙ ap (first_right (says_same q)) (sym a) ∙ g.first in
    let m : (ps : List ℕ) × (first_right f cs ≡ Some ps) × (at_places q.lines ps ≡ g.lines) = mapped_some (at_places q.lines) (first_right f cs) g.lines b in
    let i : In m.0 cs = (first_in f cs m.0 m.1).0 in
    let p : PartOf m.0 (from_on 0 k) = choice-part n (from_on 0 k) m.0 i in
    let l : length m.0 ≡ n = choice-length n (from_on 0 k) m.0 i in
    record {
      places = m.0;
      proper = record { rising = part-rising p (from-rising 0 k); below = λ j h. let r = from_in 0 k j (part_in p j h) in let z = r.1 in omega arith };
      is = g.is ∙ sym m.2;
      first = λ ps pl e s.
          first-least f m.0 (choices-rising n (from-rising 0 k)) m.1 ps
          (subst (λ (z : ℕ). In ps (choices z (from_on 0 k))) (e ∙ l)
          (part-choice (rising_part (λ x h. omega arith) (λ x y z h j. omega arith) ps (from-rising 0 k) pl.rising (λ x h. in_from 0 k x (omega arith) (let z = pl.below x h in omega arith)))))
          (reads_same q (at_places q.lines ps) (within-reads (with_lines q (at_places q.lines ps)) q s.1));
    }

-- Some of the lines, by a row of marks, and how few are needed to read lines into them.
use Rattle.std.proofs.Common.{◌≡◌, ℕ, suc, ◌≤◌, Bool, true, false, List, [], ◌∷◌, length, refl, ap, arith}
use Rattle.question.specs.declared.terms.Term.{Term}
use Rattle.question.specs.Question.{Line, In}
use Rattle.question.proofs.Places.{in_head, in_cons}
use Rattle.containment.specs.Reading.{Into}
use Rattle.containment.proofs.Readings.{into_more}

unfoldable pub chosen : List Bool → List Line → List Line
chosen m [] = []
chosen [] (l ∷ ls) = []
chosen (true ∷ m) (l ∷ ls) = l ∷ chosen m ls
chosen (false ∷ m) (l ∷ ls) = chosen m ls

pub chosen_in : (m : List Bool) (ls : List Line) (k : Line) → In k (chosen m ls) → In k ls
unfolding chosen
chosen_in m [] k i = elim i [ ]
chosen_in [] (l ∷ ls) k i = elim i [ ]
chosen_in (true ∷ m) (l ∷ ls) k i = in_head (λ x. In x (l ∷ ls)) In.here (λ j. In.there (chosen_in m ls k j)) i
chosen_in (false ∷ m) (l ∷ ls) k i = In.there (chosen_in m ls k i)

-- all of them
unfoldable pub every : List Line → List Bool
every [] = []
every (l ∷ ls) = true ∷ every ls

pub chosen_every : (ls : List Line) → chosen (every ls) ls ≡ ls
unfolding chosen every
chosen_every [] = refl
chosen_every (l ∷ ls) = ap {B = List Line} (λ xs. l ∷ xs) (chosen_every ls)

-- how many
unfoldable pub count : List Bool → ℕ
count [] = 0
count (true ∷ m) = suc (count m)
count (false ∷ m) = count m

pub length_chosen : (m : List Bool) (ls : List Line) → length (chosen m ls) ≤ count m
unfolding chosen count
length_chosen m [] = omega arith
length_chosen [] (l ∷ ls) = omega arith
length_chosen (true ∷ m) (l ∷ ls) = let h : length (chosen m ls) ≤ count m = length_chosen m ls in omega arith
length_chosen (false ∷ m) (l ∷ ls) = length_chosen m ls

-- one more line is chosen
pub record OneMore (ws : List Line) (x : Line) (m : List Bool) : Type 0 where
  pub mask : List Bool
  pub few : count mask ≤ suc (count m)
  pub new : In x (chosen mask ws)
  pub old : (y : Line) → In y (chosen m ws) → In y (chosen mask ws)

pub one_more : {x : Line} {ws : List Line} → In x ws → (m : List Bool) → OneMore ws x m
unfolding chosen count
one_more (In.here {xs = ws}) [] = record { mask = true ∷ []; few = omega arith; new = In.here; old = λ y j. elim j [ ] }
one_more (In.here {xs = ws}) (true ∷ m) = record { mask = true ∷ m; few = omega arith; new = In.here; old = λ y j. j }
one_more (In.here {xs = ws}) (false ∷ m) = record { mask = true ∷ m; few = omega arith; new = In.here; old = λ y j. In.there j }
one_more (In.there {xs = ws} a) [] = let r = one_more a [] in record { mask = false ∷ r.mask; few = r.few; new = r.new; old = λ y j. elim j [ ] }
one_more (In.there {x = w} {xs = ws} a) (true ∷ m) = let r = one_more a m in record { mask = true ∷ r.mask; few = (let h = r.few in omega arith); new = In.there r.new; old = in_cons w _ _ r.old }
one_more (In.there {xs = ws} a) (false ∷ m) = let r = one_more a m in record { mask = false ∷ r.mask; few = r.few; new = r.new; old = r.old }

-- the lines that a reading needs: no more than are read
pub record ChosenFor (h : ℕ → Term) (ws qs : List Line) : Type 0 where
  pub mask : List Bool
  pub few : count mask ≤ length qs
  pub reads : Into h (chosen mask ws) qs

pub chosen_for : (ws : List Line) {h : ℕ → Term} {qs : List Line} → Into h ws qs → ChosenFor h ws qs
unfolding count
chosen_for ws Into.none_left = record { mask = []; few = omega arith; reads = Into.none_left }
chosen_for ws (Into.and_line a r) =
    let e = chosen_for ws r in
    let n = one_more a e.mask in
    record { mask = n.mask; few = (let i = e.few in let j = n.few in omega arith); reads = Into.and_line n.new (into_more _ n.old e.reads) }

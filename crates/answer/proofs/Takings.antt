-- What a line takes, cell by cell.
use Rattle.std.proofs.Common.{◌≡◌, ℕ, suc, true, false, cond, eqb, List, [], ◌∷◌, length, refl, ap, arith}
use Rattle.std.proofs.lemmas.Bool.Decides.{nat_tests}
use Rattle.std.proofs.lemmas.Bool.{and_parts}
use Rattle.question.specs.declared.terms.Term.{Term}
use Rattle.question.specs.declared.terms.Term.TheVariants.{Number, Variable}
use Rattle.question.specs.Question.{Row, Value, all_at}
use Rattle.answer.specs.Taking.{one_number, takes}

-- of the next term and the next cell
pub number_stop : (x m : ℕ) (us : List Term) (ts : List Term) (d : Row) (c : ℕ) (r : Row) → us ≡ Variable x ∷ ts → d ≡ c ∷ r → (c ≡ m → ⊥) → one_number x m us d ≡ false
unfolding one_number
number_stop x m us ts d c r e f g =
    let y : cond (eqb x x) (eqb c m) true ≡ false = grind (arith, nat_tests) in
    rw (e, f, y) refl

pub number_next : (x m : ℕ) (us : List Term) (t : Term) (ts : List Term) (d : Row) (c : ℕ) (r : Row) → us ≡ t ∷ ts → d ≡ c ∷ r → (t ≡ Variable x → c ≡ m) → one_number x m us d ≡ one_number x m ts r
unfolding one_number
number_next x m us (Number n) ts d c r e f g = rw (e, f) refl
number_next x m us (Variable y) ts d c r e f g =
    let h : y ≡ x → c ≡ m = λ z. g (ap (λ k. Variable k) z) in
    let z : cond (eqb y x) (eqb c m) true ≡ true = grind (arith, nat_tests) in
    rw (e, f, z) refl

pub number_end : (x m : ℕ) (us : List Term) (d : Row) → length us ≡ 0 → one_number x m us d ≡ true
unfolding one_number
number_end x m [] d e = refl
number_end x m (t ∷ ts) d e = absurd (omega arith)

pub number_no_cell : (x m : ℕ) (us : List Term) (d : Row) → length d ≡ 0 → one_number x m us d ≡ true
unfolding one_number
number_no_cell x m [] d e = refl
number_no_cell x m (t ∷ ts) [] e = refl
number_no_cell x m (t ∷ ts) (c ∷ r) e = absurd (omega arith)

-- where the cells or the terms end
pub takes_no_term : (us : List Term) (d : Row) (c : ℕ) (r : Row) → length us ≡ 0 → d ≡ c ∷ r → takes us d ≡ false
unfolding takes
takes_no_term [] d c r e f = rw f refl
takes_no_term (t ∷ ts) d c r e f = absurd (omega arith)

pub takes_no_cell : (us : List Term) (d : Row) → length d ≡ 0 → takes us d ≡ eqb (length us) 0
unfolding takes
takes_no_cell [] [] e = refl
takes_no_cell (t ∷ ts) [] e = grind (arith, nat_tests)
takes_no_cell us (c ∷ r) e = absurd (omega arith)

-- the terms take the row that they are under a value
value_one_number : (v : Value) (x : ℕ) (ts : List Term) → one_number x (v x) ts (all_at v ts) ≡ true
unfolding one_number all_at
value_one_number v x [] = refl
value_one_number v x (Number n ∷ ts) = value_one_number v x ts
value_one_number v x (Variable y ∷ ts) =
    let more = value_one_number v x ts in
    let same : y ≡ x → v y ≡ v x = λ e. ap v e in
    let t : cond (eqb y x) (eqb (v y) (v x)) true ≡ true = grind (arith, nat_tests) in
    rw (t, more)

pub value-takes : (v : Value) (ts : List Term) → takes ts (all_at v ts) ≡ true
unfolding takes all_at
value-takes v [] = refl
value-takes v (Number n ∷ ts) = let more = value-takes v ts in let t : eqb n n ≡ true = grind (arith, nat_tests) in rw (t, more)
value-takes v (Variable x ∷ ts) = let more = value-takes v ts in rw (value_one_number v x ts, more)

-- what the terms take is as wide as they are
pub takes-wide : (ts : List Term) (r : Row) → takes ts r ≡ true → length r ≡ length ts
unfolding takes
takes-wide [] [] e = refl
takes-wide [] (c ∷ r) e = let z : ◌≡◌ {A = ℕ} 0 1 = cc in absurd (omega arith)
takes-wide (t ∷ ts) [] e = let z : ◌≡◌ {A = ℕ} 0 1 = cc in absurd (omega arith)
takes-wide (Number n ∷ ts) (c ∷ r) e = ap suc (takes-wide ts r (and_parts (eqb c n) (takes ts r) e).1)
takes-wide (Variable x ∷ ts) (c ∷ r) e = ap suc (takes-wide ts r (and_parts (one_number x c ts r) (takes ts r) e).1)

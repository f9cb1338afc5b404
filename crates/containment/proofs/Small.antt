-- Our names for the variables of questions that may be asked are small.
use Rattle.std.proofs.Common.{◌≡◌, ℕ, zero, suc, ◌+◌, ◌*◌, ◌<◌, ◌≤◌, Bool, true, false, cond, List, [], ◌∷◌, ◌++◌, length, refl, arith, length-append}
use Rattle.question.specs.declared.terms.Term.{Term}
use Rattle.question.specs.declared.terms.Term.TheVariants.{Number, Variable}
use Rattle.question.specs.Question.{Line, Question, In}
use Rattle.question.specs.Sound.{has, vars, line_vars, Allowed}
use Rattle.containment.specs.OwnTables.{question_vars, numbers, line_numbers, question_numbers, rank, naming}
use Rattle.containment.specs.Laws.{NamingSmall}
use Rattle.containment.proofs.Ranking.{rank_small}
use Rattle.containment.proofs.Naming.{name_small}

-- each term is a number or a variable
terms_count : (ts : List Term) → length (numbers ts) + length (vars ts) ≡ length ts
unfolding numbers vars
terms_count [] = refl
terms_count (Number n ∷ ts) = let h = terms_count ts in omega arith
terms_count (Variable x ∷ ts) = let h = terms_count ts in omega arith

lines-count : (ls : List Line) → ((l : Line) → In l ls → length l.cells ≤ 4) → length (line_numbers ls) + length (line_vars ls) ≤ 4 * length ls
unfolding line_numbers line_vars
lines-count [] f = omega arith
lines-count (l ∷ ls) f =
    let h : length (line_numbers ls) + length (line_vars ls) ≤ 4 * length ls = lines-count ls (λ m i. f m (In.there i)) in
    let c : length (numbers l.cells) + length (vars l.cells) ≡ length l.cells = terms_count l.cells in
    let k : length l.cells ≤ 4 = f l In.here in
    let a : length (numbers l.cells ++ line_numbers ls) ≡ length (numbers l.cells) + length (line_numbers ls) = length-append (numbers l.cells) (line_numbers ls) in
    let b : length (vars l.cells ++ line_vars ls) ≡ length (vars l.cells) + length (line_vars ls) = length-append (vars l.cells) (line_vars ls) in
    omega arith

-- a question that may be asked has at most twenty terms
question-count : (q : Question) → Allowed q → length (question_numbers q) + length (question_vars q) ≤ 20
unfolding question_numbers question_vars
question-count q al =
    let h : length (line_numbers q.lines) + length (line_vars q.lines) ≤ 4 * length q.lines = lines-count q.lines (λ l i. (al.cells l i).few) in
    let c : length (numbers q.row) + length (vars q.row) ≡ length q.row = terms_count q.row in
    let k : length q.row ≤ 4 = al.row.few in
    let m : length q.lines ≤ 4 = al.few in
    let a : length (numbers q.row ++ line_numbers q.lines) ≡ length (numbers q.row) + length (line_numbers q.lines) = length-append (numbers q.row) (line_numbers q.lines) in
    let b : length (vars q.row ++ line_vars q.lines) ≡ length (vars q.row) + length (line_vars q.lines) = length-append (vars q.row) (line_vars q.lines) in
    omega arith

-- no name is above the count of what is named and of p's variables so far
pub naming_past : (p q : Question) (x : ℕ) → naming p q x ≤ length (question_numbers p ++ question_numbers q) + suc (rank (question_vars p) x)
unfolding naming
naming_past p q x = name_small (question_numbers p ++ question_numbers q) (rank (question_vars p) x)

pub naming_small : NamingSmall
naming_small p q lp lq x i =
    let h : naming p q x ≤ length (question_numbers p ++ question_numbers q) + suc (rank (question_vars p) x) = naming_past p q x in
    let r : rank (question_vars p) x < length (question_vars p) = rank_small (question_vars p) x i in
    let a : length (question_numbers p ++ question_numbers q) ≡ length (question_numbers p) + length (question_numbers q) = length-append (question_numbers p) (question_numbers q) in
    let b : length (question_numbers p) + length (question_vars p) ≤ 20 = question-count p lp in
    let c : length (question_numbers q) + length (question_vars q) ≤ 20 = question-count q lq in
    omega arith

-- also of those that p does not have
rank_most : (xs : List ℕ) (x : ℕ) → rank xs x ≤ x
unfolding rank
rank_most xs zero = omega arith
rank_most xs (suc x) = go (has xs x) (rank_most xs x)
  where
    go : (b : Bool) → rank xs x ≤ x → cond b (suc (rank xs x)) (rank xs x) ≤ suc x
    go true h = omega arith
    go false h = omega arith

pub naming-few : (p q : Question) → Allowed p → Allowed q → (x : ℕ) → x ≤ 16 → naming p q x ≤ 57
naming-few p q lp lq x few =
    let h : naming p q x ≤ length (question_numbers p ++ question_numbers q) + suc (rank (question_vars p) x) = naming_past p q x in
    let r : rank (question_vars p) x ≤ x = rank_most (question_vars p) x in
    let a : length (question_numbers p ++ question_numbers q) ≡ length (question_numbers p) + length (question_numbers q) = length-append (question_numbers p) (question_numbers q) in
    let b : length (question_numbers p) + length (question_vars p) ≤ 20 = question-count p lp in
    let c : length (question_numbers q) + length (question_vars q) ≤ 20 = question-count q lq in
    omega arith

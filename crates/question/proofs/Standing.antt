-- Whether a variable stands in terms and lines, turn by turn.
use Rattle.std.proofs.Common.{◌≡◌, ℕ, ◌+◌, ◌≤◌, Bool, true, false, cond, ◌||◌, eqb, List, [], ◌∷◌, ◌++◌, length, drop, refl, ap, ◌∙◌, arith, eq-eqb}
use Rattle.std.proofs.lemmas.Bool.Decides.{nat_tests}
use Rattle.std.proofs.lemmas.List.{drop_all}
use Rattle.std.specs.List.{list_any}
use Rattle.question.specs.declared.terms.Term.{Term}
use Rattle.question.specs.declared.terms.Term.TheVariants.{Number, Variable}
use Rattle.question.specs.Question.{Line}
use Rattle.question.specs.Sound.{has, vars, line_vars, all_in}

-- terms: a number, the variable, another variable, and the end
pub has-number : (x i : ℕ) (ts : List Term) (n : ℕ) → drop i ts ≡ Number n ∷ drop (i + 1) ts → has (vars (drop i ts)) x ≡ has (vars (drop (i + 1) ts)) x
unfolding vars
has-number x i ts n e = ap (λ (us : List Term). has (vars us) x) e

pub has-found : (x i : ℕ) (ts : List Term) → drop i ts ≡ Variable x ∷ drop (i + 1) ts → has (vars (drop i ts)) x ≡ true
unfolding vars has
has-found x i ts e = ap (λ (us : List Term). has (vars us) x) e ∙ rw (eq-eqb x x refl)

pub has_other : (x y i : ℕ) (ts : List Term) → drop i ts ≡ Variable y ∷ drop (i + 1) ts → (y ≡ x → ⊥) → has (vars (drop i ts)) x ≡ has (vars (drop (i + 1) ts)) x
unfolding vars has
has_other x y i ts e h = let f : eqb y x ≡ false = grind (arith, nat_tests) in ap (λ (us : List Term). has (vars us) x) e ∙ rw f

pub has_no_more : (x i : ℕ) (ts : List Term) → length ts ≤ i → has (vars (drop i ts)) x ≡ false
unfolding vars has
has_no_more x i ts h = ap (λ (us : List Term). has (vars us) x) (drop_all i ts h)

-- lines
cond-or : (b r s t : Bool) → r ≡ cond s true t → cond b true r ≡ cond (cond b true s) true t
cond-or true r s t e = refl
cond-or false r s t e = e

pub has-append : (xs ys : List ℕ) (x : ℕ) → has (xs ++ ys) x ≡ cond (has xs x) true (has ys x)
unfolding has
has-append [] ys x = refl
has-append (z ∷ xs) ys x = cond-or (eqb z x) (has (xs ++ ys) x) (has xs x) (has ys x) (has-append xs ys x)

has-line : (x i : ℕ) (ls : List Line) (l : Line) → drop i ls ≡ l ∷ drop (i + 1) ls
    → has (line_vars (drop i ls)) x ≡ cond (has (vars l.cells) x) true (has (line_vars (drop (i + 1) ls)) x)
unfolding line_vars
has-line x i ls l e = ap (λ (ms : List Line). has (line_vars ms) x) e ∙ has-append (vars l.cells) (line_vars (drop (i + 1) ls)) x

pub has-line-found : (x i : ℕ) (ls : List Line) (l : Line) → drop i ls ≡ l ∷ drop (i + 1) ls → has (vars l.cells) x ≡ true → has (line_vars (drop i ls)) x ≡ true
has-line-found x i ls l e f = has-line x i ls l e ∙ rw f

pub has-line-other : (x i : ℕ) (ls : List Line) (l : Line) → drop i ls ≡ l ∷ drop (i + 1) ls → has (vars l.cells) x ≡ false → has (line_vars (drop i ls)) x ≡ has (line_vars (drop (i + 1) ls)) x
has-line-other x i ls l e f = has-line x i ls l e ∙ rw f

pub has_no_line : (x i : ℕ) (ls : List Line) → length ls ≤ i → has (line_vars (drop i ls)) x ≡ false
unfolding line_vars has
has_no_line x i ls h = ap (λ (ms : List Line). has (line_vars ms) x) (drop_all i ls h)

-- terms that are still to come: a number, a variable that is in the list, one that is not, and the end
pub all_in-number : (ts : List Term) (ms : List ℕ) (n : ℕ) (us : List Term) → ts ≡ Number n ∷ us → all_in (vars ts) ms ≡ all_in (vars us) ms
unfolding vars
all_in-number ts ms n us e = ap (λ (vs : List Term). all_in (vars vs) ms) e

pub all_in-rest : (ts : List Term) (ms : List ℕ) (x : ℕ) (us : List Term) → ts ≡ Variable x ∷ us → has ms x ≡ true → all_in (vars ts) ms ≡ all_in (vars us) ms
unfolding vars all_in
all_in-rest ts ms x us e f = ap (λ (vs : List Term). all_in (vars vs) ms) e ∙ rw f

pub all_in-stop : (ts : List Term) (ms : List ℕ) (x : ℕ) (us : List Term) → ts ≡ Variable x ∷ us → has ms x ≡ false → all_in (vars ts) ms ≡ false
unfolding vars all_in
all_in-stop ts ms x us e f = ap (λ (vs : List Term). all_in (vars vs) ms) e ∙ rw f

pub all_in-none : (ts : List Term) (ms : List ℕ) → ts ≡ [] → all_in (vars ts) ms ≡ true
unfolding vars all_in
all_in-none ts ms e = ap (λ (vs : List Term). all_in (vars vs) ms) e

-- a variable stands in terms if one of them, alone, has it
pub has-any : (x : ℕ) (ts : List Term) → list_any (λ t. has (vars (t ∷ [])) x) ts ≡ has (vars ts) x
unfolding vars has
has-any x [] = refl
has-any x (Number n ∷ ts) = has-any x ts
has-any x (Variable y ∷ ts) = elim (eqb y x) as (λ b. (cond b true false || list_any (λ t. has (vars (t ∷ [])) x) ts) ≡ cond b true (has (vars ts) x)) [ true ↦ refl | false ↦ has-any x ts ]

-- lines that are still to come: the first has the variable, it has not, and there is none
pub has-line-first : (x : ℕ) (ls : List Line) (l : Line) (ms : List Line) → ls ≡ l ∷ ms → has (vars l.cells) x ≡ true → has (line_vars ls) x ≡ true
unfolding line_vars
has-line-first x ls l ms e f = ap (λ (ns : List Line). has (line_vars ns) x) e ∙ has-append (vars l.cells) (line_vars ms) x ∙ rw f

pub has-line-rest : (x : ℕ) (ls : List Line) (l : Line) (ms : List Line) → ls ≡ l ∷ ms → has (vars l.cells) x ≡ false → has (line_vars ls) x ≡ has (line_vars ms) x
unfolding line_vars
has-line-rest x ls l ms e f = ap (λ (ns : List Line). has (line_vars ns) x) e ∙ has-append (vars l.cells) (line_vars ms) x ∙ rw f

pub has-none : (x : ℕ) (ls : List Line) → ls ≡ [] → has (line_vars ls) x ≡ false
unfolding line_vars has
has-none x ls e = ap (λ (ns : List Line). has (line_vars ns) x) e

-- What a use puts in: a variable by the report's row, place by place.
use Rattle.std.proofs.Common.{◌≡◌, ℕ, ◌<◌, List, [], ◌∷◌, length, get_or, set, Option, Some, None, inl, inr, refl, sym, ap, ◌∙◌, subst, ne_eqb, eq-eqb}
use Rattle.std.proofs.lemmas.Bool.{cases_eq}
use Rattle.std.proofs.lemmas.List.{get_or-set_same, get_or-set_other, get_or_default}
use Rattle.std.specs.Option.{option_or, unwrap_or}
use Rattle.question.specs.declared.terms.Term.{Term}
use Rattle.question.specs.declared.terms.Term.TheVariants.{Number, Variable}
use Rattle.reports.specs.Expand.{assign}

pub assign-found : (x : ℕ) (row rs cells cs : List Term) (t c d : Term) → row ≡ t ∷ rs → cells ≡ c ∷ cs → t ≡ Variable x → assign row cells d x ≡ c
unfolding assign
assign-found x row rs cells cs t c d e f g = rw (e, f, g, eq-eqb x x refl)

pub assign_other : (x : ℕ) (row rs cells cs : List Term) (t c d : Term) → row ≡ t ∷ rs → cells ≡ c ∷ cs → (t ≡ Variable x → ⊥) → assign row cells d x ≡ assign rs cs d x
unfolding assign
assign_other x row rs cells cs (Number n) c d e f g = rw (e, f)
assign_other x row rs cells cs (Variable y) c d e f g = rw (e, f, ne_eqb y x (λ h. g (ap Variable h)))

pub assign_row : (x : ℕ) (row cells : List Term) (d : Term) → row ≡ [] → assign row cells d x ≡ d
unfolding assign
assign_row x row cells d e = rw e

pub assign_cells : (x : ℕ) (row cells : List Term) (d : Term) → cells ≡ [] → assign row cells d x ≡ d
unfolding assign
assign_cells x [] cells d e = refl
assign_cells x (r ∷ rs) cells d e = rw e

-- the first that says something
or-first : {A : Type 0} (o : Option A) (c d : A) → unwrap_or (option_or o (Some c)) d ≡ unwrap_or o c
or-first None c d = refl
or-first (Some a) c d = refl

-- one place more, where the row has a variable: its cell is what the variable is put as, unless an earlier one is
pub said-more : (y : ℕ) (said : List (Option Term)) (o : Option Term) (row rs cells cs : List Term) (t c : Term) (none : Option Term) → row ≡ t ∷ rs → cells ≡ c ∷ cs → t ≡ Variable y → y < length said → o ≡ option_or (get_or said y none) (Some c)
    → (x : ℕ) (d : Term) → unwrap_or (get_or (set said y o) x None) (assign rs cs d x) ≡ unwrap_or (get_or said x None) (assign row cells d x)
said-more y said o row rs cells cs t c none e f g h p x d =
    let kept : get_or (set said y o) y None ≡ option_or (get_or said y None) (Some c) = get_or-set_same said y o None h ∙ p ∙ ap (λ (q : Option Term). option_or q (Some c)) (get_or_default said y none None h) in
    let here : unwrap_or (get_or (set said y o) y None) (assign rs cs d y) ≡ unwrap_or (get_or said y None) (assign row cells d y) =
    ap (λ (q : Option Term). unwrap_or q (assign rs cs d y)) kept ∙ or-first (get_or said y None) c (assign rs cs d y)
    ∙ ap (λ (u : Term). unwrap_or (get_or said y None) u) (sym (assign-found y row rs cells cs t c d e f g)) in
    elim (cases_eq x y) [
      | inl i ↦ subst (λ (k : ℕ). unwrap_or (get_or (set said y o) k None) (assign rs cs d k) ≡ unwrap_or (get_or said k None) (assign row cells d k)) (sym i) here
      | inr n ↦ ap (λ (q : Option Term). unwrap_or q (assign rs cs d x)) (get_or-set_other said y x o None n)
          ∙ ap (λ (u : Term). unwrap_or (get_or said x None) u) (sym (assign_other x row rs cells cs t c d e f (λ q. n (cc (sym q ∙ g)))))
    ]

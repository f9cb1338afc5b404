-- Where one term can't be put, the terms can't.
use Rattle.std.proofs.Common.{◌≡◌, ℕ, zero, suc, List, [], ◌∷◌, drop, Some, None, Option, sym, refl, ap, ◌∙◌, subst}
use Rattle.question.specs.declared.terms.Term.{Term}
use Rattle.containment.specs.Reading.{put, all_put}
use Rattle.containment.specs.Search.{Part, match_term, match_terms, filling}
use Rattle.containment.proofs.Searching.{Exact, exact_term, exact_terms, filled}

put-behind : (h : ℕ → Term) (i : ℕ) (ts : List Term) → all_put h (drop i ts) ≡ drop i (all_put h ts)
unfolding all_put
put-behind h zero ts = refl
put-behind h (suc i) [] = refl
put-behind h (suc i) (t ∷ ts) = put-behind h i ts

first_of : (h : ℕ → Term) (t c : Term) (ts cs : List Term) → all_put h (t ∷ ts) ≡ c ∷ cs → put h t ≡ c
unfolding all_put
first_of h t c ts cs e = cc e

pub stuck : (s : Part) (i : ℕ) (ts cs : List Term) (t c : Term) (us ds : List Term) → drop i ts ≡ t ∷ us → drop i cs ≡ c ∷ ds → match_term s t c ≡ None → match_terms s ts cs ≡ None
stuck s i ts cs t c us ds d e n = go (match_terms s ts cs) (exact_terms s ts cs)
  where
    never : (h : ℕ → Term) → all_put h ts ≡ cs → put h t ≡ c
    never h a = first_of h t c us ds (ap (all_put h) (sym d) ∙ put-behind h i ts ∙ ap (λ (xs : List Term). drop i xs) a ∙ e)

    go : (o : Option Part) → Exact o s (λ h. all_put h ts ≡ cs) → o ≡ None
    go None f = refl
    go (Some r) f =
        let g = (f (filling r)).0 (filled r) in
        absurd (subst (λ (o : Option Part). Exact o s (λ h. put h t ≡ c)) n (exact_term s t c) (filling r) g.0 (never (filling r) g.1))

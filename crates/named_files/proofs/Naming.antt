-- No digit is an equals sign, so an argument names a table in one way at most.
use Rattle.std.proofs.Common.{◌≡◌, ℕ, zero, suc, ◌<◌, List, [], ◌∷◌, length, get_or, Some, None, Option, sym, refl, ap, ◌∙◌, subst, arith, Bor, MatchOption}
use Rattle.std.proofs.lemmas.Str.Pattern.{IsSplitOnceResult, split_after}
use Rattle.wire.specs.Tables.{◌>>=◌, digit_more, digits_more, cell_number}
use Rattle.named_files.specs.Arguments.{Names}

abbrev There : {A : Type 0} → Option A → Type 0
There (Some a) = Unit {0}
There None = ⊥

pub none-some : {A : Type 0} {a : A} → None ≡ Some a → ⊥
none-some e = subst There (sym e) tt

then_some : {A B : Type 0} (o : Option A) (next : A → Option B) (b : B) (P : Type 0) → ((a : A) → next a ≡ Some b → P) → ◌>>=◌ o next ≡ Some b → P
then_some (Some a) next b P h e = h a e
then_some None next b P h e = absurd (none-some e)

equals_none : (n : ℕ) → digit_more n 61 ≡ None
unfolding digit_more
equals_none n = refl

no_equals : (ds : List ℕ) (n m : ℕ) → digits_more n ds ≡ Some m → (i : ℕ) → i < length ds → get_or ds i 0 ≡ 61 → ⊥
unfolding digits_more
no_equals [] n m e i h z = absurd (omega arith)
no_equals (d ∷ ds) n m e zero h z = none-some (sym (ap (λ (o : Option ℕ). ◌>>=◌ o (λ k. digits_more k ds)) (ap (digit_more n) z ∙ equals_none n)) ∙ e)
no_equals (d ∷ ds) n m e (suc i) h z = then_some (digit_more n d) (λ k. digits_more k ds) m ⊥ (λ k f. no_equals ds k m f i (omega arith) z) e

no_equals_in : (ds : List ℕ) (m : ℕ) → cell_number ds ≡ Some m → (i : ℕ) → i < length ds → get_or ds i 0 ≡ 61 → ⊥
unfolding cell_number
no_equals_in [] m e i h z = absurd (omega arith)
no_equals_in (d ∷ ds) m e i h z = no_equals (d ∷ ds) 0 m e i h z

-- where it names one, the first equals sign parts the number from the path
pub parted : (arg : List ℕ) (r : Option (Bor (List ℕ) × Bor (List ℕ))) → IsSplitOnceResult 61 arg r → (n : ℕ) (path : List ℕ) → Names arg n path → MatchOption r ⊥ (λ x. cell_number x.0.now ≡ Some n)
parted arg r s n path named = by_parts r (split_after 61 arg named.digits path r s (omega arith) named.is (no_equals_in named.digits n named.number))
  where
    by_parts : (r : Option (Bor (List ℕ) × Bor (List ℕ))) → MatchOption r ⊥ (λ x. (x.0.now ≡ named.digits) × (x.1.now ≡ path)) → MatchOption r ⊥ (λ x. cell_number x.0.now ≡ Some n)
    by_parts (Some x) h = ap cell_number h.0 ∙ named.number
    by_parts None h = h

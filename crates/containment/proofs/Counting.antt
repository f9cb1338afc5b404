-- No more different ones than there are.
use Rattle.std.proofs.Common.{◌≡◌, ℕ, zero, suc, ◌+◌, ◌<◌, ◌≤◌, List, [], ◌∷◌, length, sym, refl, ap, subst, inl, inr, arith}
use Rattle.std.proofs.lemmas.Bool.{cases_eq}
use Rattle.question.specs.Question.{In}
use Rattle.question.proofs.Members.{in_cases}
use Rattle.question.proofs.Places.{in_head}
use Rattle.containment.specs.Order.{Apart, Rising}

-- the list without one of its places
out : {A : Type 0} {a : A} {xs : List A} → In a xs → List A
out (In.here {xs = xs}) = xs
out (In.there {x = x} i) = x ∷ out i

out_length : {A : Type 0} {a : A} {xs : List A} (i : In a xs) → length xs ≡ suc (length (out i))
unfolding out
out_length In.here = refl
out_length (In.there i) = ap suc (out_length i)

out_other : {A : Type 0} {a : A} {xs : List A} (i : In a xs) (b : A) → (a ≡ b → ⊥) → In b xs → In b (out i)
unfolding out
out_other In.here b n j = in_cases _ (λ e. absurd (n e)) (λ k. k) j
out_other (In.there {x = x} {xs = xs} i) b n j = in_head (λ y. (In y xs → In y (out i)) → In y (x ∷ out i)) (λ f. In.here) (λ k f. In.there (f k)) j (λ k. out_other i b n k)

pub apart-length : {A : Type 0} {us : List A} (ws : List A) → Apart us → ((a : A) → In a us → In a ws) → length us ≤ length ws
apart-length ws Apart.none_left f = omega arith
apart-length {A} ws (Apart.and_one {a = a} {xs = us} n s) f =
    let i : In a ws = f a In.here in
    let h : length us ≤ length (out i) = apart-length (out i) s (λ b j. out_other i b (λ e. n (subst (λ (x : A). In x us) (sym e) j)) (f b (In.there j))) in
    let e : length ws ≡ suc (length (out i)) = out_length i in
    omega arith

pub rising-apart : {A : Type 0} {before : A → A → Type 0} → ((a : A) → before a a → ⊥) → {xs : List A} → Rising before xs → Apart xs
rising-apart irr Rising.none_left = Apart.none_left
rising-apart irr (Rising.and_one {a = a} o r) = Apart.and_one (λ i. irr a (o a i)) (rising-apart irr r)

-- k numbers from n on
unfoldable pub from_on : (n k : ℕ) → List ℕ
from_on n zero = []
from_on n (suc k) = n ∷ from_on (suc n) k

pub length_from : (n k : ℕ) → length (from_on n k) ≡ k
unfolding from_on
length_from n zero = refl
length_from n (suc k) = ap suc (length_from (suc n) k)

pub from_in : (n k i : ℕ) → In i (from_on n k) → (n ≤ i) × (i < n + k)
unfolding from_on
from_in n zero i m = elim m [ ]
from_in n (suc k) i m =
    in_cases ((n ≤ i) × (i < n + suc k)) (λ e. (omega arith, omega arith)) (λ j. let r = from_in (suc n) k i j in (let a = r.0 in omega arith, let b = r.1 in omega arith)) m

pub in_from : (n k i : ℕ) → n ≤ i → i < n + k → In i (from_on n k)
unfolding from_on
in_from n zero i h j = absurd (omega arith)
in_from n (suc k) i h j =
    elim (cases_eq i n) [ inl e ↦ subst (λ (m : ℕ). In i (m ∷ from_on (suc n) k)) e In.here | inr d ↦ In.there (in_from (suc n) k i (omega arith) (omega arith)) ]

pub from-rising : (n k : ℕ) → Rising ◌<◌ (from_on n k)
unfolding from_on
from-rising n zero = Rising.none_left
from-rising n (suc k) = Rising.and_one (λ x i. let r = from_in (suc n) k x i in r.0) (from-rising (suc n) k)

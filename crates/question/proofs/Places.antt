-- What is where in lists, for proofs of the crates above.
use Rattle.std.proofs.Common.{◌≡◌, ◌<◌, List, [], ◌∷◌, map, length, not-suc-le-zero}
use Rattle.question.specs.Question.{Line, In}

-- lines with one table and the same cells are the same
pub line_path : (l m : Line) → l.table ≡ m.table → l.cells ≡ m.cells → l ≡ m
line_path l m p e = λ i. record { table = p i; cells = e i }

-- a fact of what is in a list: of its first, and of what is in the rest
pub in_head : {A : Type 0} {s x : A} {xs : List A} (P : A → Type 0) → P x → (In s xs → P s) → In s (x ∷ xs) → P s
in_head P f g In.here = f
in_head P f g (In.there m) = g m

pub in_cons : {A : Type 0} (w : A) (xs ys : List A) → ((y : A) → In y xs → In y ys) → (y : A) → In y (w ∷ xs) → In y (w ∷ ys)
in_cons w xs ys f y In.here = In.here
in_cons w xs ys f y (In.there a) = In.there (f y a)

pub one_in : {A : Type 0} (xs : List A) → 0 < length xs → (a : A) × In a xs
one_in [] h = absurd (not-suc-le-zero h)
one_in (x ∷ xs) h = (x, In.here)

pub in_map : {A B : Type 0} (f : A → B) {a : A} {xs : List A} → In a xs → In (f a) (map f xs)
in_map f In.here = In.here
in_map f (In.there m) = In.there (in_map f m)

pub map_each : {A B : Type 0} (f : A → B) (P : B → Type 0) (xs : List A) → ((a : A) → In a xs → P (f a)) → (b : B) → In b (map f xs) → P b
map_each f P [] g b m = elim m [ ]
map_each f P (x ∷ xs) g b m = in_head P (g x In.here) (λ k. map_each f P xs (λ a n. g a (In.there n)) b k) m

-- Lines put in one after another where they belong: there are never fewer, and the order in which they are put in does not matter.
use Rattle.std.proofs.Common.{◌≡◌, ◌≤◌, Bool, true, false, cond, List, [], ◌∷◌, ◌++◌, length, refl, arith}
use Rattle.question.specs.Question.{Line, In}
use Rattle.question.proofs.Places.{in_head}
use Rattle.reports.specs.Widest.{line_less, insert_line, sort_lines, Sorted}
use Rattle.reports.specs.Uses.{insert_all}
use Rattle.containment.specs.Order.{Rising}
use Rattle.reports.proofs.Widening.{insert_new, insert_old, insert_from, sort_in, sort_out}
use Rattle.reports.proofs.Sorting.{insert_sorted, sort_sorted, sorted_one}

-- there are never fewer
insert_longer : (l : Line) (ms : List Line) → length ms ≤ length (insert_line l ms)
unfolding insert_line
insert_longer l [] = omega arith
insert_longer l (m ∷ ms) = go (line_less l m) (line_less m l) (insert_longer l ms)
  where
    go : (b c : Bool) → length ms ≤ length (insert_line l ms) → length (m ∷ ms) ≤ length (cond b (l ∷ m ∷ ms) (cond c (m ∷ insert_line l ms) (m ∷ ms)))
    go true c h = omega arith
    go false true h = omega arith
    go false false h = omega arith

pub insert_all_longer : (ls ms : List Line) → length ms ≤ length (insert_all ls ms)
unfolding insert_all
insert_all_longer [] ms = omega arith
insert_all_longer (l ∷ ls) ms = let a = insert_longer l ms in let b = insert_all_longer ls (insert_line l ms) in omega arith

pub insert_all-append : (ks ls ms : List Line) → insert_all (ks ++ ls) ms ≡ insert_all ls (insert_all ks ms)
unfolding insert_all
insert_all-append [] ls ms = refl
insert_all-append (k ∷ ks) ls ms = insert_all-append ks ls (insert_line k ms)

-- put in from the first to the last or from the last to the first, the lines are the same
all-sorted : (ls : List Line) {ms : List Line} → Sorted ms → Sorted (insert_all ls ms)
unfolding insert_all
all-sorted [] s = s
all-sorted (l ∷ ls) s = all-sorted ls (insert_sorted l s)

all_old : (ls ms : List Line) (k : Line) → In k ms → In k (insert_all ls ms)
unfolding insert_all
all_old [] ms k a = a
all_old (l ∷ ls) ms k a = all_old ls (insert_line l ms) k (insert_old l ms k a)

all_new : (ls ms : List Line) (k : Line) → In k ls → In k (insert_all ls ms)
unfolding insert_all
all_new [] ms k a = elim a [ ]
all_new (l ∷ ls) ms k a = in_head (λ x. In x (insert_all ls (insert_line l ms))) (all_old ls (insert_line l ms) l (insert_new l ms)) (λ b. all_new ls (insert_line l ms) k b) a

all_from : (ls ms : List Line) (P : Line → Type 0) → ((k : Line) → In k ls → P k) → ((k : Line) → In k ms → P k) → (k : Line) → In k (insert_all ls ms) → P k
unfolding insert_all
all_from [] ms P f g k a = g k a
all_from (l ∷ ls) ms P f g k a = all_from ls (insert_line l ms) P (λ j b. f j (In.there b)) (λ j b. insert_from l ms P (f l In.here) g j b) k a

pub insert_all_sorts : (ls : List Line) → insert_all ls [] ≡ sort_lines ls
insert_all_sorts ls =
    sorted_one (all-sorted ls Rising.none_left) (sort_sorted ls)
    (λ k a. sort_in ls k (all_from ls [] (λ x. In x ls) (λ j b. b) (λ j b. elim b [ ]) k a))
    (λ k a. all_new ls [] k (sort_out ls k a))

-- The copies of all lines are what the plan asks of the rows.
use Rattle.std.proofs.Common.{◌≡◌, ℕ, zero, suc, ◌+◌, ◌<◌, ◌≤◌, Bool, true, false, cond, ltb, List, [], ◌∷◌, ◌++◌, length, get_or, drop, sym, refl, ap, ◌∙◌, subst, inl, inr, arith}
use Rattle.std.proofs.lemmas.Bool.Decides.{nat_tests}
use Rattle.std.proofs.lemmas.List.{get_or-drop, drop-drop}
use Rattle.std.specs.List.{ContainsAt as Has}
use Rattle.join.specs.Order.{cells, row_at}
use Rattle.question.specs.declared.terms.Term.{Term}
use Rattle.question.specs.Question.{Line, Question, Row, Base, Value, In, here, there, all_at}
use Rattle.question.proofs.Front.{length-all_at}
use Rattle.question.proofs.Members.{in_left, in_right, in_split, in_cases, in_at, in_length}
use Rattle.answer.specs.Plan.{Plan, no_line}
use Rattle.answer.specs.Copies.{CopyOf, Placed, Source}
use Rattle.answer.specs.Taking.{takes, copy_cell, copy_row, copies_of, all_copies}
use Rattle.answer.specs.Laws.{Copied}
use Rattle.answer.proofs.Takings.{value-takes, takes-wide}

-- the copies for the next line, and for those behind it
pub all_more : (b : Base) (i : ℕ) (ls : List Line) (cols : List (List ℕ)) (l : Line) (rest : List Line) → ls ≡ l ∷ rest
    → all_copies b i ls (drop i cols) ≡ copies_of i (get_or cols i []) l.cells (b l.table) ++ all_copies b (i + 1) rest (drop (i + 1) cols)
unfolding all_copies
all_more b i ls cols l rest e =
    let z : i + 0 ≡ i = omega arith in
    rw (e, get_or-drop i cols 0 [], z, drop-drop 1 i cols)

pub all_end : (b : Base) (i : ℕ) (ls : List Line) (cols : List (List ℕ)) → ls ≡ [] → all_copies b i ls cols ≡ []
unfolding all_copies
all_end b i ls cols e = rw e refl

-- a copy, cell by cell
copied_at : (id : ℕ) (cols : List ℕ) (r : Row) (c : ℕ) → c < 4 → get_or (copy_row id cols r) (c + 1) 0 ≡ copy_cell cols r c
copied_at id cols r zero h = refl
copied_at id cols r (suc zero) h = refl
copied_at id cols r (suc (suc zero)) h = refl
copied_at id cols r (suc (suc (suc zero))) h = refl
copied_at id cols r (suc (suc (suc (suc c)))) h = absurd (omega arith)

copy_is : (id : ℕ) (cols : List ℕ) (r : Row) → length r ≤ 4 → CopyOf id (length r) cols r (cells (copy_row id cols r))
copy_is id cols r few = record {
  first = refl;
  cell = λ c h. copied_at id cols r c (omega arith) ∙ (let t : ltb c (length r) ≡ true = grind (arith, nat_tests) in rw t);
  zero = λ c h g. copied_at id cols r c g ∙ (let t : ltb c (length r) ≡ false = grind (arith, nat_tests) in rw t);
}

as_copy : (id w : ℕ) (cols : List ℕ) (r : Row) (x : List ℕ) → x ≡ copy_row id cols r → length r ≡ w → w ≤ 4 → CopyOf id w cols r (cells x)
as_copy id w cols r x e wide few = rw (e, sym wide) (copy_is id cols r (omega arith))

-- where a row that is in a list stands
in_has-row : {x : List ℕ} {xs : List (List ℕ)} → In x xs → Has xs x
in_has-row here = (0, omega arith, λ d. refl)
in_has-row (there i) = let p = in_has-row i in (suc p.0, omega (arith, p.1), p.2)

next : (cols : List (List ℕ)) (i : ℕ) → get_or (drop 1 cols) i [] ≡ get_or cols (suc i) []
next cols i = let z : 1 + i ≡ suc i = omega arith in get_or-drop 1 cols i [] ∙ ap (λ k. get_or cols k []) z

-- each row that is taken is copied
copy_in : (id : ℕ) (cols : List ℕ) (ts : List Term) {r : Row} {rs : List Row} → In r rs → takes ts r ≡ true → In (copy_row id cols r) (copies_of id cols ts rs)
unfolding copies_of
copy_in id cols ts {r} here e = rw e here
copy_in id cols ts {r} (there {x} i) e = in_right (cond (takes ts x) (copy_row id cols x ∷ []) []) (copy_in id cols ts i e)

all_in : (b : Base) (id : ℕ) (ls : List Line) (cols : List (List ℕ)) (i : ℕ) → i < length ls → (r : Row)
    → In r (b (get_or ls i no_line).table) → takes (get_or ls i no_line).cells r ≡ true → In (copy_row (id + i) (get_or cols i []) r) (all_copies b id ls cols)
unfolding all_copies
all_in b id [] cols i h r o e = absurd (omega arith)
all_in b id (l ∷ ls) cols zero h r o e =
    let z : id + 0 ≡ id = omega arith in
    rw z (in_left (all_copies b (id + 1) ls (drop 1 cols)) (copy_in id (get_or cols 0 []) l.cells o e))
all_in b id (l ∷ ls) cols (suc i) h r o e =
    let z : id + 1 + i ≡ id + suc i = omega arith in
    let p = all_in b (id + 1) ls (drop 1 cols) i (omega arith) r o e in
    in_right (copies_of id (get_or cols 0 []) l.cells (b l.table)) (rw (z, next cols i) at p)

-- each copy comes of such a row
pub record Comes (id : ℕ) (cols : List ℕ) (ts : List Term) (rs : List Row) (x : List ℕ) : Type 0 where
  pub row : Row
  pub is_in : In row rs
  pub taken : takes ts row ≡ true
  pub is : x ≡ copy_row id cols row

copy-from : (id : ℕ) (cols : List ℕ) (ts : List Term) (rs : List Row) (x : List ℕ) → In x (copies_of id cols ts rs) → Comes id cols ts rs x
unfolding copies_of
copy-from id cols ts [] x i = let n : 0 < length {A = List ℕ} [] = in_length i in absurd (omega arith)
copy-from id cols ts (r ∷ rs) x i = go (takes ts r) refl i (λ o. copy-from id cols ts rs x o)
  where
    later : Comes id cols ts rs x → Comes id cols ts (r ∷ rs) x
    later p = record { row = p.row; is_in = there p.is_in; taken = p.taken; is = p.is }

    go : (t : Bool) → takes ts r ≡ t → In x (cond t (copy_row id cols r ∷ []) [] ++ copies_of id cols ts rs) → (In x (copies_of id cols ts rs) → Comes id cols ts rs x) → Comes id cols ts (r ∷ rs) x
    go true e o f = in_cases (Comes id cols ts (r ∷ rs) x) (λ s. record { row = r; is_in = here; taken = e; is = sym s }) (λ p. later (f p)) o
    go false e o f = later (f o)

pub record FromLine (b : Base) (id : ℕ) (ls : List Line) (cols : List (List ℕ)) (x : List ℕ) : Type 0 where
  pub line : ℕ
  pub inside : line < length ls
  pub number : ℕ
  pub number_is : number ≡ id + line
  pub comes : Comes number (get_or cols line []) (get_or ls line no_line).cells (b (get_or ls line no_line).table) x

all_from : (b : Base) (id : ℕ) (ls : List Line) (cols : List (List ℕ)) (x : List ℕ) → In x (all_copies b id ls cols) → FromLine b id ls cols x
unfolding all_copies
all_from b id [] cols x i = let n : 0 < length {A = List ℕ} [] = in_length i in absurd (omega arith)
all_from b id (l ∷ ls) cols x i = elim (in_split (copies_of id (get_or cols 0 []) l.cells (b l.table)) (all_copies b (id + 1) ls (drop 1 cols)) i) [
  | inl o ↦ record { line = 0; inside = omega arith; number = id; number_is = omega arith; comes = copy-from id (get_or cols 0 []) l.cells (b l.table) x o }
  | inr o ↦ (let p = all_from b (id + 1) ls (drop 1 cols) x o in
      let q = p.comes in
      record {
        line = suc p.line;
        inside = omega (arith, p.inside);
        number = p.number;
        number_is = omega (arith, p.number_is);
        comes = rw (next cols p.line) at q;
      })
]

-- the rows are copied as the plan asks
pub copied_by : (b : Base) (q : Question) (p : Plan) (rows : List (List ℕ)) → ((i : ℕ) → i < length q.lines → length (get_or q.lines i no_line).cells ≤ 4)
    → rows ≡ all_copies b 0 q.lines p.cols → Copied b q p rows
copied_by b q p rows few s i h = record { put = put; only = only }
  where
    l : Line
    l = get_or q.lines i no_line

    put : (v : Value) → In (all_at v l.cells) (b l.table) → Placed i (length l.cells) (get_or p.cols i []) rows (all_at v l.cells)
    put v o =
        let r = all_at v l.cells in
        let wide : length r ≡ length l.cells = length-all_at v l.cells in
        let z : 0 + i ≡ i = omega arith in
        let copied = all_in b 0 q.lines p.cols i h r o (value-takes v l.cells) in
        let k : Has rows (copy_row i (get_or p.cols i []) r) = subst (λ xs. Has xs (copy_row i (get_or p.cols i []) r)) (sym s) (in_has-row (rw z at copied)) in
        record { at = k.0; inside = k.1; copy = as_copy i (length l.cells) (get_or p.cols i []) r (get_or rows k.0 []) (k.2 []) wide (few i h) }

    only : (j : ℕ) → j < length rows → row_at rows j 0 ≡ i → Source i (length l.cells) (get_or p.cols i []) (b l.table) (row_at rows j)
    only j g e =
        let x = get_or rows j [] in
        let f = all_from b 0 q.lines p.cols x (subst (In x) s (in_at rows j [] g)) in
        let first : f.number ≡ i = sym (ap (λ xs. get_or xs 0 0) f.comes.is) ∙ e in
        let is-line : f.line ≡ i = omega (arith, f.number_is) in
        let c = rw (first, is-line) at f.comes in
        let wide : length c.row ≡ length l.cells = takes-wide l.cells c.row c.taken in
        record { row = c.row; here = c.is_in; wide = wide; copy = as_copy i (length l.cells) (get_or p.cols i []) c.row x c.is wide (few i h) }

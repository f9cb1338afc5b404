-- What the copying puts behind the rows, step by step.
use Rattle.std.proofs.Common.{◌≡◌, ℕ, zero, suc, ◌+◌, ◌-◌, ◌*◌, ◌<◌, ◌≤◌, Bool, true, false, cond, eqb, ltb, List, [], ◌∷◌, ◌++◌, length, get_or, take, drop, sym, refl, ap, ◌∙◌, add-mul, one-mul, arith}
use Rattle.std.proofs.lemmas.Bool.Decides.{nat_tests}
use Rattle.std.proofs.lemmas.List.{append_assoc, get_or-map, length-take, length-drop}
use Rattle.question.specs.declared.terms.Term.{Term}
use Rattle.question.specs.Question.{Row}
use Rattle.question.specs.Tables.{rows_in, table_size, table_rows}
use Rattle.answer.specs.Taking.{takes, copy_cell, copy_row, copies_of, first_rows}
use Rattle.answer.specs.declared.columns.Column.{Column}
use Rattle.answer.specs.Columns.{order_of}
use Rattle.answer.specs.Lent.{tables_from}
use Rattle.answer.proofs.Takings.{takes-wide}

module _ (id : ℕ) (cols : List ℕ) (ts : List Term) where
  pub copies-append : (rs ss : List Row) → copies_of id cols ts (rs ++ ss) ≡ copies_of id cols ts rs ++ copies_of id cols ts ss
  unfolding copies_of
  copies-append [] ss = refl
  copies-append (r ∷ rs) ss =
      let first = cond (takes ts r) (copy_row id cols r ∷ []) [] in
      ap (λ xs. first ++ xs) (copies-append rs ss) ∙ sym (append_assoc first (copies_of id cols ts rs) (copies_of id cols ts ss))

  -- the next row of a table
  pub row-taken : (rs : List Row) (r : Row) (ss : List Row) → rs ≡ r ∷ ss → takes ts r ≡ true → copies_of id cols ts rs ≡ copy_row id cols r ∷ copies_of id cols ts ss
  unfolding copies_of
  row-taken rs r ss e h = rw (e, h) refl

  pub row-left : (rs : List Row) (r : Row) (ss : List Row) → rs ≡ r ∷ ss → takes ts r ≡ false → copies_of id cols ts rs ≡ copies_of id cols ts ss
  unfolding copies_of
  row-left rs r ss e h = rw (e, h) refl

  pub no-copies : (rs : List Row) → rs ≡ [] → copies_of id cols ts rs ≡ []
  unfolding copies_of
  no-copies rs e = rw e refl

  not_taken : (r : Row) → (length r ≡ length ts → ⊥) → takes ts r ≡ false
  not_taken r f = go (takes ts r) refl
    where
      go : (b : Bool) → takes ts r ≡ b → b ≡ false
      go true e = absurd (f (takes-wide ts r e))
      go false e = refl

  -- a table of another width has no row that is taken
  pub other_width : (n w : ℕ) (xs : List ℕ) → (w ≡ length ts → ⊥) → n * w ≤ length xs → copies_of id cols ts (rows_in n w xs) ≡ []
  unfolding rows_in copies_of
  other_width zero w xs f h = refl
  other_width (suc n) w xs f h =
      let s : (n + 1) * w ≡ n * w + 1 * w = add-mul n 1 w in
      let room : n * w + w ≤ length xs = omega (arith, h, s, one-mul w) in
      let wide : length (take w xs) ≡ w = simp length-take (omega arith) in
      let here : takes ts (take w xs) ≡ false = not_taken (take w xs) (λ e. f (sym wide ∙ e)) in
      let left : length (drop w xs) ≡ length xs - w = simp length-drop in
      rw here (other_width n w (drop w xs) f (omega arith))

-- the rows of the tables with the number, of tables one by one
abbrev pub named_rows : ℕ → List (List ℕ) → List Row
named_rows t [] = []
named_rows t (x ∷ xs) = first_rows t x ++ named_rows t xs

pub rows-listed : (n t : ℕ) (xs : List ℕ) → table_rows n t xs ≡ named_rows t (tables_from n xs)
unfolding table_rows tables_from
rows-listed zero t xs = refl
rows-listed (suc n) t xs = ap (λ rs. first_rows t xs ++ rs) (rows-listed n t (drop (table_size xs) xs))

pub table-named : (t : ℕ) (xs : List (List ℕ)) (x : List ℕ) (ys : List (List ℕ)) → xs ≡ x ∷ ys → get_or x 0 0 ≡ t
    → named_rows t xs ≡ rows_in (get_or x 1 0) (get_or x 2 0) (drop 3 x) ++ named_rows t ys
table-named t xs x ys e h = let y : eqb (get_or x 0 0) t ≡ true = grind (arith, nat_tests) in rw (e, y) refl

pub table_other : (t : ℕ) (xs : List (List ℕ)) (x : List ℕ) (ys : List (List ℕ)) → xs ≡ x ∷ ys → (get_or x 0 0 ≡ t → ⊥) → named_rows t xs ≡ named_rows t ys
table_other t xs x ys e h = let y : eqb (get_or x 0 0) t ≡ false = grind (arith, nat_tests) in rw (e, y) refl

-- a cell of a copy, by the columns
module _ (cs : List Column) (r : Row) (wide : length r ≡ length cs) where
  pub copied-cell : (c : ℕ) (d : Column) → c < length cs → copy_cell (order_of cs) r c ≡ get_or r (get_or cs c d).place 0
  copied-cell c d h =
      let t : ltb c (length r) ≡ true = grind (arith, nat_tests) in
      rw (t, get_or-map (λ (k : Column). k.place) cs c d 0 h) refl

  pub copied_zero : (c : ℕ) → ltb c (length cs) ≡ false → copy_cell (order_of cs) r c ≡ 0
  copied_zero c h = rw (wide, h) refl

-- What the lent form holds: the rows of the tables.
use Rattle.std.proofs.Common.{◌≡◌, ℕ, zero, suc, ◌+◌, ◌*◌, ◌≤◌, cond, eqb, List, [], ◌∷◌, ◌++◌, length, drop, vec_items, refl, ap, ◌∙◌, subst, inl, inr, arith}
use Rattle.std.proofs.lemmas.List.{take-append-le, drop-append-le, drop_at, length-drop}
use Rattle.question.specs.Question.{Row, In}
use Rattle.question.proofs.Members.{in_split, in_cases}
use Rattle.question.specs.Tables.{rows_in, table_rows, tables_in}
use Rattle.named_files.specs.declared.lent.Numbered.{Numbered}
use Rattle.named_files.specs.Forms.{table_numbers, tables_numbers, lent_numbers, Full, numbered_rows}

-- what lies behind the cells of a table is not of its rows
rows-front : (n columns : ℕ) (cells rest : List ℕ) → n * columns ≤ length cells → rows_in n columns (cells ++ rest) ≡ rows_in n columns cells
unfolding rows_in
rows-front zero columns cells rest h = refl
rows-front (suc n) columns cells rest h =
    let one : suc n * columns ≡ n * columns + columns = omega arith in
    let left : n * columns ≤ length (drop columns cells) = rw (length-drop columns cells) (omega (arith, h, one)) in
    rw (take-append-le columns cells rest (omega (arith, h, one)), drop-append-le columns cells rest (omega (arith, h, one)), rows-front n columns (drop columns cells) rest left) refl

rows-held : (ts : List Numbered) → ((t : Numbered) → In t ts → Full t) → (n : ℕ) → table_rows (length ts) n (tables_numbers ts) ≡ numbered_rows ts n
unfolding table_rows tables_numbers numbered_rows
rows-held [] h n = refl
rows-held (t ∷ ts) h n =
    let rows = t.table.rows in
    let columns = t.table.columns in
    let cells = vec_items t.table.cells in
    let rest = tables_numbers ts in
    let full : length cells ≡ rows * columns = h t In.here in
    let behind : drop (3 + rows * columns) (table_numbers t ++ rest) ≡ rest = drop_at (table_numbers t) rest (3 + rows * columns) (omega (arith, full)) in
    let others : table_rows (length ts) n (tables_numbers ts) ≡ numbered_rows ts n = rows-held ts (λ s m. h s (In.there m)) n in
    ap (λ (rs : List Row). cond (eqb t.number n) rs [] ++ table_rows (length ts) n (drop (3 + rows * columns) (table_numbers t ++ rest))) (rows-front rows columns cells rest (omega (arith, full)))
    ∙ ap (λ (xs : List ℕ). cond (eqb t.number n) (rows_in rows columns cells) [] ++ table_rows (length ts) n xs) behind
    ∙ ap (λ (rs : List Row). cond (eqb t.number n) (rows_in rows columns cells) [] ++ rs) others

pub held : (ts : List Numbered) → ((t : Numbered) → In t ts → Full t) → (n : ℕ) → tables_in (lent_numbers ts) n ≡ numbered_rows ts n
unfolding tables_in
held ts h n = rows-held ts h n

-- one full table more
pub full_push : (ts after : List Numbered) (t : Numbered) → after ≡ ts ++ t ∷ [] → ((s : Numbered) → In s ts → Full s) → Full t
    → (s : Numbered) → In s after → Full s
full_push ts after t e h f s m =
    let n : In s (ts ++ t ∷ []) = subst (λ (us : List Numbered). In s us) e m in
    elim (in_split ts (t ∷ []) n) [ inl i ↦ h s i | inr i ↦ in_cases (Full s) (λ p. subst Full p f) (λ k. elim k [ ]) i ]

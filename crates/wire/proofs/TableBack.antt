-- A table that is written as text is read back.
use Rattle.std.proofs.Common.{◌≡◌, ℕ, zero, suc, ◌+◌, ◌-◌, ◌*◌, ◌/◌, ◌%◌, ◌^◌, ◌<◌, ◌≤◌, true, false, ◌&&◌, ◌||◌, eqb, ltb, leb, List, [], ◌∷◌, ◌++◌, length, get_or, Some, None, Ok, decimal, Option, sym, refl, ap, ◌∙◌, add-zero, arith}
use Rattle.std.proofs.lemmas.Fmt.{decimal_by_steps, decimal_nonempty}
use Rattle.std.proofs.lemmas.List.{append_assoc, append-nil, length-append, take_at, drop_at}
use Rattle.std.proofs.lemmas.Bool.Decides.{nat_tests}
use Rattle.question.specs.Question.{In}
use Rattle.question.specs.Question.In.{here, there}
use Rattle.wire.specs.Tables.{◌>>=◌, lines, trimmed, pieces, digit_more, digits_more, cell_number, cell_numbers, line_row, Grid, no_rows, row_more, next_row, rows_more, row_text, table_text, all_cells, rows_out, rows_of}
use Rattle.question.specs.Tables.{rows_in}
use Rattle.wire.specs.Laws.{EvenRows, TablesReadBack}
use Rattle.wire.proofs.CellText.{number-some}
use Rattle.wire.proofs.Splits.{trimmed-other}
use Rattle.wire.proofs.Rows.{row-cells}

-- each byte is at least so much
Above : ℕ → List ℕ → Type 0
Above m [] = Unit {0}
Above m (x ∷ xs) = (m ≤ x) × Above m xs

above_append : (m : ℕ) (xs ys : List ℕ) → Above m xs → Above m ys → Above m (xs ++ ys)
unfolding Above
above_append m [] ys f g = g
above_append m (x ∷ xs) ys f g = (f.0, above_append m xs ys f.1 g)

above_less : (m k : ℕ) (xs : List ℕ) → k ≤ m → Above m xs → Above k xs
unfolding Above
above_less m k [] h f = tt
above_less m k (x ∷ xs) h f = (omega (arith, f.0), above_less m k xs h f.1)

above_at : (m : ℕ) (xs : List ℕ) (i : ℕ) → Above m xs → i < length xs → m ≤ get_or xs i 0
unfolding Above
above_at m [] i f h = absurd (omega arith)
above_at m (x ∷ xs) zero f h = f.0
above_at m (x ∷ xs) (suc i) f h = above_at m xs i f.1 (omega arith)

-- the digits of a number
decimal_above : (n : ℕ) → n < 2 ^ 64 → Above 48 (decimal n)
unfolding Above
decimal_above =
    decimal_by_steps (λ n ds. Above 48 ds) (λ n h. (omega arith, tt)) (λ n ds h f. above_append 48 ds ((48 + n % 10) ∷ []) f (omega arith, tt))

-- a digit more at the end
bind_some : (o : Option ℕ) → ◌>>=◌ o Some ≡ o
bind_some (Some n) = refl
bind_some None = refl

digits_push : (ds : List ℕ) (n m d : ℕ) → digits_more n ds ≡ Some m → digits_more n (ds ++ d ∷ []) ≡ digit_more m d
unfolding digits_more
digits_push [] n m d e = let p : n ≡ m = cc e in rw p (bind_some (digit_more m d))
digits_push (x ∷ ds) n m d e = go (digit_more n x) (λ k. digits_push ds k m d) e
  where
    go : (o : Option ℕ) → ((k : ℕ) → digits_more k ds ≡ Some m → digits_more k (ds ++ d ∷ []) ≡ digit_more m d)
        → ◌>>=◌ o (λ k. digits_more k ds) ≡ Some m → ◌>>=◌ o (λ k. digits_more k (ds ++ d ∷ [])) ≡ digit_more m d
    go (Some k) f p = f k p
    go None f p = absurd (let z : ◌≡◌ {A = ℕ} 0 1 = cc p in omega arith)

digit_fine : (n m d : ℕ) → d < 10 → n * 10 + d ≡ m → m < 2 ^ 64 → digit_more n (48 + d) ≡ Some m
unfolding digit_more
digit_fine n m d h e l =
    let v : n * 10 + (48 + d - 48) ≡ m = omega arith in
    let t : (leb 48 (48 + d) && leb (48 + d) 57 && ltb m 18446744073709551616) ≡ true = grind (arith, nat_tests) in
    rw (v, t)

decimal_digits : (n : ℕ) → n < 2 ^ 64 → n < 2 ^ 64 → digits_more 0 (decimal n) ≡ Some n
unfolding digits_more
decimal_digits =
    decimal_by_steps (λ n ds. n < 2 ^ 64 → digits_more 0 ds ≡ Some n)
    (λ n h l. digits_push [] 0 0 (48 + n) refl ∙ digit_fine 0 n n h (omega arith) l)
    (λ n ds h f l. digits_push ds 0 (n / 10) (48 + n % 10) (f (omega arith)) ∙ digit_fine (n / 10) n (n % 10) (omega arith) (omega arith) l)

pub decimal_back : (n : ℕ) → n < 2 ^ 64 → cell_number (decimal n) ≡ Some n
decimal_back n h = number-some (decimal n) (decimal_nonempty n h) ∙ decimal_digits n h h

-- text without the byte that ends a piece is one piece
pieces_one : (xs : List ℕ) → Above 48 xs → pieces xs ≡ xs ∷ []
unfolding Above pieces
pieces_one [] f = refl
pieces_one (x ∷ xs) f = let t : eqb x 44 ≡ false = grind (arith, nat_tests) in rw (t, pieces_one xs f.1)

pieces-first : (xs ys : List ℕ) → Above 48 xs → pieces (xs ++ 44 ∷ ys) ≡ xs ∷ pieces ys
unfolding Above pieces
pieces-first [] ys f = refl
pieces-first (x ∷ xs) ys f = let t : eqb x 44 ≡ false = grind (arith, nat_tests) in rw (t, pieces-first xs ys f.1)

lines-first : (xs ys : List ℕ) → Above 44 xs → lines (xs ++ 10 ∷ ys) ≡ xs ∷ lines ys
unfolding Above lines
lines-first [] ys f = refl
lines-first (x ∷ xs) ys f = let t : eqb x 10 ≡ false = grind (arith, nat_tests) in rw (t, lines-first xs ys f.1)

-- a row that is written
abbrev SmallCells : List ℕ → Type 0
SmallCells row = (n : ℕ) → In n row → n < 2 ^ 64

row_above : (row : List ℕ) → SmallCells row → Above 44 (row_text row)
unfolding Above row_text
row_above [] h = tt
row_above (n ∷ []) h = above_less 48 44 (decimal n) (omega arith) (decimal_above n (h n here))
row_above (n ∷ m ∷ ns) h =
    above_append 44 (decimal n) (44 ∷ row_text (m ∷ ns)) (above_less 48 44 (decimal n) (omega arith) (decimal_above n (h n here)))
    (omega arith, row_above (m ∷ ns) (λ k i. h k (there i)))

cells-back : (n : ℕ) (ns : List ℕ) → SmallCells (n ∷ ns) → cell_numbers (pieces (row_text (n ∷ ns))) ≡ Some (n ∷ ns)
unfolding row_text cell_numbers
cells-back n [] h = rw (pieces_one (decimal n) (decimal_above n (h n here)), decimal_back n (h n here))
cells-back n (m ∷ ns) h =
    rw (pieces-first (decimal n) (row_text (m ∷ ns)) (decimal_above n (h n here)), decimal_back n (h n here), cells-back m ns (λ k i. h k (there i)))

row-some : (n : ℕ) (ns : List ℕ) → n < 2 ^ 64 → 0 < length (row_text (n ∷ ns))
unfolding row_text
row-some n [] h = decimal_nonempty n h
row-some n (m ∷ ns) h = rw (length-append (decimal n) (44 ∷ row_text (m ∷ ns))) (omega (arith, decimal_nonempty n h))

row-trimmed : (row : List ℕ) → SmallCells row → trimmed (row_text row) ≡ row_text row
row-trimmed row h =
    trimmed-other (row_text row) (λ l e. omega (arith, above_at 44 (row_text row) (length (row_text row) - 1) (row_above row h) (omega arith)))

row_back : (row : List ℕ) → SmallCells row → line_row (row_text row) ≡ Some row
unfolding row_text line_row
row_back [] h = refl
row_back (n ∷ ns) h = row-cells (row_text (n ∷ ns)) (row-some n ns (h n here)) ∙ cells-back n ns h

row_next : (row : List ℕ) (columns : ℕ) (g : Grid) → length row ≡ columns → SmallCells row → (0 < g.rows → g.columns ≡ columns)
    → next_row g (row_text row) ≡ Some row
unfolding next_row
row_next row columns g l h k =
    let t : (eqb g.rows 0 || eqb (length row) g.columns) ≡ true = grind (arith, nat_tests) in
    rw (row-trimmed row h, row_back row h, t)

-- the rows behind those that are read
rows_on : Grid → List (List ℕ) → Grid
rows_on g [] = g
rows_on g (row ∷ rows) = rows_on (row_more g row) rows

rows_back : (rows : List (List ℕ)) (columns : ℕ) (g : Grid) → EvenRows columns rows → (0 < g.rows → g.columns ≡ columns)
    → rows_more g (lines (table_text rows)) ≡ Ok (rows_on g rows)
unfolding table_text lines rows_more rows_on
rows_back [] columns g h k = refl
rows_back (row ∷ rows) columns g h k =
    let l = h row here in
    rw (lines-first (row_text row) (table_text rows) (row_above row l.1), row_next row columns g l.0 l.1 k)
    (rows_back rows columns (row_more g row) (λ r i. h r (there i)) (λ z. l.0))

rows-on-is : (rows : List (List ℕ)) (columns : ℕ) (g : Grid) → EvenRows columns rows → g.columns ≡ columns
    → rows_on g rows ≡ record { rows = g.rows + length rows; columns = g.columns; cells = g.cells ++ all_cells rows }
unfolding rows_on all_cells
rows-on-is [] columns g h k = rw (append-nil g.cells, add-zero g.rows)
rows-on-is (row ∷ rows) columns g h k =
    let l : length row ≡ g.columns = (h row here).0 ∙ sym k in
    let n : g.rows + 1 + length rows ≡ g.rows + suc (length rows) = omega arith in
    rows-on-is rows columns (row_more g row) (λ r i. h r (there i)) (h row here).0 ∙ rw (l, n, append_assoc g.cells row (all_cells rows))

table_rows : (rows : List (List ℕ)) (columns : ℕ) → EvenRows columns rows → rows_on no_rows rows ≡ rows_out rows
unfolding rows_on all_cells
table_rows [] columns h = refl
table_rows (row ∷ rows) columns h =
    let n : 1 + length rows ≡ suc (length rows) = omega arith in
    rows-on-is rows columns (row_more no_rows row) (λ r i. h r (there i)) (h row here).0 ∙ rw n

-- the cells are the rows again
cut_back : (rows : List (List ℕ)) (columns : ℕ) → EvenRows columns rows → rows_in (length rows) columns (all_cells rows) ≡ rows
unfolding rows_in all_cells
cut_back [] columns h = refl
cut_back (row ∷ rows) columns h =
    rw (take_at row (all_cells rows) columns (h row here).0, drop_at row (all_cells rows) columns (h row here).0)
    (ap (λ rs. row ∷ rs) (cut_back rows columns (λ r i. h r (there i))))

grid-back : (rows : List (List ℕ)) (columns : ℕ) → EvenRows columns rows → rows_of (rows_out rows) ≡ rows
unfolding rows_in
grid-back [] columns h = refl
grid-back (row ∷ rows) columns h = cut_back (row ∷ rows) (length row) (λ r i. ((h r i).0 ∙ sym (h row here).0, (h r i).1))

pub tables-back : TablesReadBack
tables-back rows columns h = (rows_back rows columns no_rows h (λ z. absurd (omega arith)) ∙ ap Ok (table_rows rows columns h), grid-back rows columns h)

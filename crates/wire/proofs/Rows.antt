-- Rows one after the other: what one cell or one line more makes of what is read so far.
use Rattle.std.proofs.Common.{◌≡◌, ℕ, ◌+◌, ◌-◌, ◌<◌, true, false, ◌||◌, eqb, List, [], ◌∷◌, ◌++◌, length, take, drop, Some, None, Ok, Err, Option, Result, Bor, sym, refl, ap, ◌∙◌, add-one, arith}
use Rattle.std.proofs.lemmas.List.{append_assoc, append-nil, length-append, nil_from_length}
use Rattle.std.proofs.lemmas.Bool.Decides.{nat_tests}
use Rattle.std.proofs.lemmas.Iterator.{YieldsList}
use Rattle.std.specs.Iterator.{AlwaysYields}
use Rattle.std.specs.List.{slice_split}
use Rattle.wire.specs.declared.tables.TableFault.{TableFault}
use Rattle.wire.specs.declared.tables.TableFault.TheVariants.{Line, NoMemory}
use Rattle.wire.specs.Tables.{lines, trimmed, pieces, cell_number, cell_numbers, line_row, Grid, row_more, next_row, rows_more, Told}
use Rattle.std.specs.Option.{option_map}
use Rattle.wire.specs.Texts.{until, cells_behind, Pushed, Grown}
use Rattle.wire.proofs.Splits.{lines_more, pieces_split}

-- a line with something in it is its cells
pub row-cells : (xs : List ℕ) → 0 < length xs → line_row xs ≡ cell_numbers (pieces xs)
unfolding line_row
row-cells [] h = absurd (omega arith)
row-cells (x ∷ xs) h = refl

pub row_empty : (xs before : List ℕ) → length xs ≡ 0 → cells_behind before (line_row xs) ≡ Some before
unfolding line_row
row_empty [] before h = ap Some (append-nil before)
row_empty (x ∷ xs) before h = absurd (omega arith)

-- one cell more
cells_step : (cell : List ℕ) (others : List (List ℕ)) (before : List ℕ) (n : ℕ) → cell_number cell ≡ Some n
    → cells_behind before (cell_numbers (cell ∷ others)) ≡ cells_behind (before ++ n ∷ []) (cell_numbers others)
unfolding cell_numbers
cells_step cell others before n e = go (cell_numbers others) refl
  where
    go : (o : Option (List ℕ)) → cell_numbers others ≡ o → cells_behind before (cell_numbers (cell ∷ others)) ≡ cells_behind (before ++ n ∷ []) (cell_numbers others)
    go (Some ns) p = rw (e, p, append_assoc before (n ∷ []) ns)
    go None p = rw (e, p)

cells_stop : (cell : List ℕ) (others : List (List ℕ)) → cell_number cell ≡ None → cell_numbers (cell ∷ others) ≡ None
unfolding cell_numbers
cells_stop cell others e = rw e

-- what stands behind the cells is known from them
pub behind-none : (before : List ℕ) (o : Option (List ℕ)) → cells_behind before o ≡ None → o ≡ None
behind-none before (Some row) e = absurd (let z : ◌≡◌ {A = ℕ} 0 1 = cc e in omega arith)
behind-none before None e = refl

pub record Behind (before after : List ℕ) (o : Option (List ℕ)) : Type 0 where
  pub row : List ℕ
  pub is : o ≡ Some row
  pub whole : after ≡ before ++ row
  pub long : length after ≡ length before + length row

pub behind-some : (before after : List ℕ) (o : Option (List ℕ)) → cells_behind before o ≡ Some after → Behind before after o
behind-some before after (Some row) e =
    let w : after ≡ before ++ row = cc e in
    record { row = row; is = refl; whole = w; long = ap length w ∙ length-append before row }
behind-some before after None e = absurd (let z : ◌≡◌ {A = ℕ} 0 1 = cc e in omega arith)

-- the row of the next line
row_fits : (g : Grid) (line row : List ℕ) → line_row (trimmed line) ≡ Some row → (0 < g.rows → length row ≡ g.columns) → next_row g line ≡ Some row
unfolding next_row
row_fits g line row e h = let t : (eqb g.rows 0 || eqb (length row) g.columns) ≡ true = grind (arith, nat_tests) in rw (e, t)

row_other : (g : Grid) (line row : List ℕ) → line_row (trimmed line) ≡ Some row → 0 < g.rows → (length row ≡ g.columns → ⊥) → next_row g line ≡ None
unfolding next_row
row_other g line row e h n = let t : (eqb g.rows 0 || eqb (length row) g.columns) ≡ false = grind (arith, nat_tests) in rw (e, t)

-- the next line has a row, with as many cells as those before
pub grown_row : (g after : Grid) (line : List ℕ) → cells_behind g.cells (line_row (trimmed line)) ≡ Some after.cells
    → after.columns ≡ length after.cells - length g.cells → after.rows ≡ g.rows + 1 → (0 < g.rows → after.columns ≡ g.columns)
    → option_map (row_more g) (next_row g line) ≡ Some after
grown_row g after line e w r k = go (behind-some g.cells after.cells (line_row (trimmed line)) e)
  where
    go : Behind g.cells after.cells (line_row (trimmed line)) → option_map (row_more g) (next_row g line) ≡ Some after
    go b =
        let l : after.columns ≡ length b.row = omega (arith, w, b.long) in
        ap (option_map (row_more g)) (row_fits g line b.row b.is (λ z. sym l ∙ k z)) ∙ rw (← b.whole, ← l, ← r) refl

-- it has another count of cells, or a cell that is none
pub grown_other : (g : Grid) (line after : List ℕ) (width : ℕ) → cells_behind g.cells (line_row (trimmed line)) ≡ Some after
    → width ≡ length after - length g.cells → 0 < g.rows → (width ≡ g.columns → ⊥) → next_row g line ≡ None
grown_other g line after width e w k n =
    let b = behind-some g.cells after (line_row (trimmed line)) e in
    let l : width ≡ length b.row = omega (arith, w, b.long) in
    row_other g line b.row b.is k (λ z. n (l ∙ z))

pub grown_fault : (g after : Grid) (line row cells : List ℕ) (r : Result (Unit {0}) TableFault) (fault : TableFault) → row ≡ trimmed line → r ≡ Err fault
    → Pushed (g.rows + 1) g.cells (line_row row) cells (Err fault) → Grown g (next_row g line) after r
unfolding next_row
grown_fault g after line row cells r (Line k) t e h = rw (e, ← t, h.0) (refl, h.1)
grown_fault g after line row cells r NoMemory t e h = rw e tt

-- a line more of a text, or one that has no row
pub lines_step : (g after : Grid) (xs line others : List ℕ) (found : Result Grid ℕ) → 0 < length xs → line ≡ take (until 10 xs) xs → others ≡ drop (until 10 xs + 1) xs
    → option_map (row_more g) (next_row g line) ≡ Some after → rows_more g (lines xs) ≡ found → rows_more after (lines others) ≡ found
unfolding rows_more
lines_step g after xs line others found h p q e inv = go (next_row g line) refl e
  where
    go : (o : Option (List ℕ)) → next_row g line ≡ o → option_map (row_more g) o ≡ Some after → rows_more after (lines others) ≡ found
    go (Some row) n f =
        let m : row_more g row ≡ after = cc f in
        rw (← m, q) (sym (rw (lines_more xs h, ← p, n, add-one (until 10 xs)) refl) ∙ inv)
    go None n f = absurd (let z : ◌≡◌ {A = ℕ} 0 1 = cc f in omega arith)

pub lines_fault : (g : Grid) (xs line : List ℕ) (found : Result Grid ℕ) → 0 < length xs → line ≡ take (until 10 xs) xs → next_row g line ≡ None
    → rows_more g (lines xs) ≡ found → found ≡ Err (g.rows + 1)
unfolding rows_more
lines_fault g xs line found h p e inv = sym inv ∙ rw (lines_more xs h, ← p, e) refl

pub grown_rows : (g after : Grid) (row : Option (List ℕ)) → option_map (row_more g) row ≡ Some after → after.rows ≡ g.rows + 1
grown_rows g after (Some row) e = let m : row_more g row ≡ after = cc e in rw (← m) refl
grown_rows g after None e = absurd (let z : ◌≡◌ {A = ℕ} 0 1 = cc e in omega arith)

pub told_fault : (g after : Grid) (xs line : List ℕ) (found : Result Grid ℕ) (fault : TableFault) → 0 < length xs → line ≡ take (until 10 xs) xs
    → Grown g (next_row g line) after (Err fault) → rows_more g (lines xs) ≡ found → Told found (Err fault)
told_fault g after xs line found (Line k) h p e inv = lines_fault g xs line found h p e.0 inv ∙ ap Err (sym e.1)
told_fault g after xs line found NoMemory h p e inv = tt

pub rows_end : (g : Grid) (xs : List ℕ) → length xs ≡ 0 → rows_more g (lines xs) ≡ Ok g
unfolding rows_more lines
rows_end g xs h = rw (nil_from_length xs h)

-- the cells of a line that are still to come from an iterator, and those that were read, give the whole
pub record CellsLeft {S : Type 0} (steps : S → Option (Bor (List ℕ)) → S → Type 0) (s : S) (cells : List ℕ) (whole : Option (List ℕ)) : Type 0 where
  pub parts : List (List ℕ)
  pub yields : YieldsList steps (λ x. x.now) s parts
  pub same : cells_behind cells (cell_numbers parts) ≡ whole

module _ {S : Type 0} {steps : S → Option (Bor (List ℕ)) → S → Type 0} {s : S} where
  pub cells_left : (line before : List ℕ) → 0 < length line → YieldsList steps (λ x. x.now) s (slice_split (λ b. eqb b 44) line)
      → CellsLeft steps s before (cells_behind before (line_row line))
  cells_left line before h y =
      record { parts = slice_split (λ b. eqb b 44) line; yields = y; same = ap (cells_behind before) (ap cell_numbers (sym (pieces_split line)) ∙ sym (row-cells line h)) }

  -- the next cell is a number, or none; and none is left
  pub cells_more : (t : S) (x : Bor (List ℕ)) (cells after : List ℕ) (whole : Option (List ℕ)) (n : ℕ) → CellsLeft steps s cells whole → steps s (Some x) t
      → cell_number x.now ≡ Some n → after ≡ cells ++ n ∷ [] → CellsLeft steps t after whole
  cells_more t x cells after whole n l k e a = go l.parts l.yields.runs l.same
    where
      go : (ps : List (List ℕ)) → AlwaysYields steps (λ y. y.now) s ps → cells_behind cells (cell_numbers ps) ≡ whole → CellsLeft steps t after whole
      go [] y q = absurd (y x t k)
      go (p ∷ ps) y q =
          let m = y.1 x t k in
          record { parts = ps; yields = record { runs = m.1 }; same = rw a (sym (cells_step p ps cells n (ap cell_number (sym m.0) ∙ e)) ∙ q) }

  pub cells_fault : (t : S) (x : Bor (List ℕ)) (cells before : List ℕ) (row : Option (List ℕ)) → CellsLeft steps s cells (cells_behind before row) → steps s (Some x) t
      → cell_number x.now ≡ None → row ≡ None
  cells_fault t x cells before row l k e = go l.parts l.yields.runs l.same
    where
      go : (ps : List (List ℕ)) → AlwaysYields steps (λ y. y.now) s ps → cells_behind cells (cell_numbers ps) ≡ cells_behind before row → row ≡ None
      go [] y q = absurd (y x t k)
      go (p ∷ ps) y q =
          let m = y.1 x t k in
          behind-none before row (sym q ∙ ap (cells_behind cells) (cells_stop p ps (ap cell_number (sym m.0) ∙ e)))

  pub cells_done : (t : S) (cells : List ℕ) (whole : Option (List ℕ)) → CellsLeft steps s cells whole → steps s None t → whole ≡ Some cells
  unfolding cell_numbers
  cells_done t cells whole l k = go l.parts l.yields.runs l.same
    where
      go : (ps : List (List ℕ)) → AlwaysYields steps (λ y. y.now) s ps → cells_behind cells (cell_numbers ps) ≡ whole → whole ≡ Some cells
      go [] y q = sym q ∙ ap Some (append-nil cells)
      go (p ∷ ps) y q = absurd (y.0 t k)

pub pushed_fault : (at : ℕ) (before : List ℕ) (row : Option (List ℕ)) (after : List ℕ) (r : Result (Unit {0}) TableFault) (e : TableFault) → r ≡ Err e → e ≡ Line at → row ≡ None
    → Pushed at before row after r
pushed_fault at before row after r e p q n = rw (p, q) (n, refl)

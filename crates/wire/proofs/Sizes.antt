-- A table that is read has as many cells as its rows and columns make.
use Rattle.std.proofs.Common.{◌≡◌, ℕ, ◌+◌, ◌*◌, cond, ◌||◌, eqb, ◌⊎◌, List, [], ◌∷◌, length, Some, None, Ok, Option, sym, refl, ap, ◌∙◌, inl, inr, add-mul, zero-mul, arith}
use Rattle.std.proofs.lemmas.List.{length-append}
use Rattle.std.proofs.lemmas.Bool.Decides.{eqb_tells}
use Rattle.wire.specs.Tables.{◌>>=◌, trimmed, line_row, Grid, no_rows, row_more, next_row, or_line, rows_more, lines, table_of}

-- all cells are there
abbrev pub Full : Grid → Type 0
Full g = length g.cells ≡ g.rows * g.columns

-- the next row is the first, or has as many cells as those before
row_alike : (g : Grid) (line row : List ℕ) → next_row g line ≡ Some row → (g.rows ≡ 0) ⊎ (length row ≡ g.columns)
unfolding next_row
row_alike g line row e = go (line_row (trimmed line)) e
  where
    go : (o : Option (List ℕ)) → ◌>>=◌ o (λ r. cond (eqb g.rows 0 || eqb (length r) g.columns) (Some r) None) ≡ Some row
        → (g.rows ≡ 0) ⊎ (length row ≡ g.columns)
    go (Some r) p =
        elim (eqb_tells g.rows 0) [
          | inl k ↦ inl k.1
          | inr k ↦
              elim (eqb_tells (length r) g.columns) [
                | inl m ↦ let q : Some r ≡ Some row = rw (k.0, m.0) at p in let s : r ≡ row = cc q in inr (ap length (sym s) ∙ m.1)
                | inr m ↦ let q : ◌≡◌ {A = Option (List ℕ)} None (Some row) = rw (k.0, m.0) at p in absurd (let z : ◌≡◌ {A = ℕ} 0 1 = cc q in omega arith)
              ]
        ]
    go None p = absurd (let z : ◌≡◌ {A = ℕ} 0 1 = cc p in omega arith)

full_more : (g : Grid) (row : List ℕ) → Full g → (g.rows ≡ 0) ⊎ (length row ≡ g.columns) → Full (row_more g row)
full_more g row f k =
    length-append g.cells row ∙ elim k [
      | inl z ↦ let a : length g.cells ≡ 0 = (rw z at f) ∙ zero-mul g.columns in rw z (omega (arith, a))
      | inr l ↦ rw l (omega (arith, f, add-mul g.rows 1 g.columns))
    ]

pub rows_full : (ls : List (List ℕ)) (g found : Grid) → Full g → rows_more g ls ≡ Ok found → Full found
unfolding rows_more
rows_full [] g found f e = let p : g ≡ found = cc e in rw (sym p) f
rows_full (l ∷ ls) g found f e = go (next_row g l) (λ row p. rows_full ls (row_more g row) found (full_more g row f (row_alike g l row p))) refl e
  where
    go : (o : Option (List ℕ)) → ((row : List ℕ) → next_row g l ≡ Some row → rows_more (row_more g row) ls ≡ Ok found → Full found) → next_row g l ≡ o
        → or_line (g.rows + 1) (λ row. rows_more (row_more g row) ls) o ≡ Ok found → Full found
    go (Some row) rec p q = rec row p q
    go None rec p q = absurd (let z : ◌≡◌ {A = ℕ} 0 1 = cc q in omega arith)

pub table_full : (text : List ℕ) (found : Grid) → table_of text ≡ Ok found → Full found
table_full text found e = rows_full (lines text) no_rows found refl e

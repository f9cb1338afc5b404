-- One table more in the lent form.
use Rattle.std.proofs.Common.{◌≡◌, ℕ, ◌+◌, ◌<◌, List, [], ◌∷◌, ◌++◌, length, get_or, take, vec_items, sym, ap, ◌∙◌}
use Rattle.std.proofs.lemmas.List.{append_assoc, append-nil, take_more}
use Rattle.named_files.specs.declared.lent.Numbered.{Numbered}
use Rattle.named_files.specs.Forms.{table_numbers, tables_numbers}

pub numbers_push : (ts : List Numbered) (t : Numbered) → tables_numbers (ts ++ t ∷ []) ≡ tables_numbers ts ++ table_numbers t
unfolding tables_numbers
numbers_push [] t = append-nil (table_numbers t)
numbers_push (s ∷ ts) t = ap (λ ns. table_numbers s ++ ns) (numbers_push ts t) ∙ sym (append_assoc (table_numbers s) (tables_numbers ts) (table_numbers t))

pub numbers_more : (ts : List Numbered) (i : ℕ) (t : Numbered) → i < length ts → t ≡ get_or ts i t
    → tables_numbers (take (i + 1) ts) ≡ tables_numbers (take i ts) ++ table_numbers t
numbers_more ts i t h e = rw (take_more ts i t h, ← e) (numbers_push (take i ts) t)

pub table_pushed : (t : Numbered) (before mid after cells : List ℕ) → mid ≡ before ++ (t.number ∷ t.table.rows ∷ t.table.columns ∷ [])
    → after ≡ mid ++ cells → cells ≡ vec_items t.table.cells → after ≡ before ++ table_numbers t
table_pushed t before mid after cells e f g = rw (f, e, g) (append_assoc before (t.number ∷ t.table.rows ∷ t.table.columns ∷ []) (vec_items t.table.cells))

pub lent_more : (ts : List Numbered) (i n : ℕ) (t : Numbered) (before after : List ℕ) → i < length ts → t ≡ get_or ts i t
    → before ≡ n ∷ tables_numbers (take i ts) → after ≡ before ++ table_numbers t → after ≡ n ∷ tables_numbers (take (i + 1) ts)
lent_more ts i n t before after h e p q = rw (q, p) (ap (λ ns. n ∷ ns) (sym (numbers_more ts i t h e)))

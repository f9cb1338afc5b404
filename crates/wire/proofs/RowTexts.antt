-- The text of rows, as it grows.
use Rattle.std.proofs.Common.{◌≡◌, ℕ, suc, ◌+◌, ◌-◌, ◌<◌, ◌≤◌, min, List, [], ◌∷◌, ◌++◌, length, get_or, take, drop, decimal, sym, ap, ◌∙◌, append_assoc, append-nil, arith}
use Rattle.std.proofs.lemmas.List.{drop_all, drop_more, take_min, drop_min}
use Rattle.std.specs.List.{IsFirstAndRest}
use Rattle.question.specs.Tables.{rows_in}
use Rattle.question.proofs.Adding.{added, joined}
use Rattle.wire.specs.Tables.{row_text, table_text}
use Rattle.wire.specs.Texts.{cells_text}

pub cells-more : (ns : List ℕ) (i : ℕ) (before after whole : List ℕ) → i < length ns → after ≡ before ++ (44 ∷ decimal (get_or ns i 0))
    → before ++ cells_text (drop i ns) ≡ whole → after ++ cells_text (drop (i + 1) ns) ≡ whole
unfolding cells_text
cells-more ns i before after whole l e h =
    added before after (44 ∷ decimal (get_or ns i 0)) (cells_text (drop (i + 1) ns)) whole e (ap (λ (x : List ℕ). before ++ cells_text x) (sym (drop_more ns i 0 l)) ∙ h)

pub cells_end : (ns : List ℕ) (i : ℕ) (before whole : List ℕ) → length ns ≤ i → before ++ cells_text (drop i ns) ≡ whole → before ≡ whole
unfolding cells_text
cells_end ns i before whole m h = sym (append-nil before) ∙ ap (λ (x : List ℕ). before ++ cells_text x) (sym (drop_all i ns m)) ∙ h

-- the first cell, and the others behind commas
pub row-by-cells : (n : ℕ) (ns : List ℕ) → row_text (n ∷ ns) ≡ decimal n ++ cells_text ns
unfolding row_text cells_text
row-by-cells n [] = sym (append-nil (decimal n))
row-by-cells n (m ∷ ns) = ap (λ (x : List ℕ). decimal n ++ (44 ∷ x)) (row-by-cells m ns)

pub row_from : (row : List ℕ) (first : ℕ) (others : List ℕ) → IsFirstAndRest row first others → decimal first ++ cells_text others ≡ row_text row
row_from row first others h = sym (ap row_text h.0 ∙ row-by-cells first others)

pub rows_more : (n i columns end : ℕ) (rest row others before between after whole : List ℕ) → i < n → end ≡ min columns (length rest)
    → row ≡ take end rest → others ≡ drop end rest → between ≡ before ++ row_text row → after ≡ between ++ (10 ∷ [])
    → before ++ table_text (rows_in (n - i) columns rest) ≡ whole → after ++ table_text (rows_in (n - (i + 1)) columns others) ≡ whole
unfolding table_text rows_in
rows_more n i columns end rest row others before between after whole l e r o f g h =
    let one : n - i ≡ suc (n - (i + 1)) = omega arith in
    let left = table_text (rows_in (n - (i + 1)) columns others) in
    let here : after ≡ before ++ (row_text row ++ (10 ∷ [])) = joined before between after (row_text row) (10 ∷ []) f g in
    let whole_is : before ++ ((row_text row ++ (10 ∷ [])) ++ left) ≡ whole = rw (append_assoc (row_text row) (10 ∷ []) left, r ∙ ap (λ k. take k rest) e ∙ take_min columns rest, o ∙ ap (λ k. drop k rest) e ∙ drop_min columns rest) (rw one at h) in
    added before after (row_text row ++ (10 ∷ [])) left whole here whole_is

pub rows_end : (n i columns : ℕ) (rest before whole : List ℕ) → n ≤ i → before ++ table_text (rows_in (n - i) columns rest) ≡ whole → before ≡ whole
unfolding table_text rows_in
rows_end n i columns rest before whole m h =
    let z : n - i ≡ 0 = omega arith in
    sym (append-nil before) ∙ ap (λ (k : ℕ). before ++ table_text (rows_in k columns rest)) (sym z) ∙ h

pub row-none : (row before : List ℕ) → length row ≡ 0 → before ≡ before ++ row_text row
unfolding row_text
row-none [] before h = sym (append-nil before)
row-none (n ∷ ns) before h = absurd (omega arith)

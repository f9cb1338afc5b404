-- The slots of a question's terms: numbers first, then the row's variables in order, then the other ones.
use Rattle.std.proofs.Common.{◌≡◌, ℕ, zero, suc, ◌+◌, ◌<◌, ◌≤◌, List, [], ◌∷◌, length, get_or, sym, refl, ap, ◌∙◌, inl, inr, arith}
use Rattle.std.proofs.lemmas.Bool.{cases_lt}
use Rattle.question.specs.declared.terms.Term.{Term}
use Rattle.question.specs.declared.terms.Term.TheVariants.{Number, Variable}
use Rattle.question.specs.Question.{Line, Question, In, here, there}
use Rattle.question.specs.Sound.{Allowed}
use Rattle.question.proofs.Members.{sound_parts}
use Rattle.question.specs.Layout.{code}
use Rattle.answer.specs.declared.codes.Kind.TheVariants.{Numbers, Variables}
use Rattle.answer.specs.Terms.{first_place, place_in, put_in, all_put_in, codes_of, line_codes}
use Rattle.answer.proofs.Listing.{Begins, begins-on, begins-length, begins-at, begins-place, Different, one_in, still, all-begin, all-different, all-stand_in, all_new, put-length, put-room, put-longer}
use Rattle.answer.proofs.Gathering.{codes_few, number-code, variable_code, code-number, code_variable, line_code, code-line}

-- a slot's first column in the row: those before have lower slots
pub record FirstShown (place : Term → ℕ) (ts : List Term) (j : ℕ) : Type 0 where
  pub column : ℕ
  pub narrow : column < length ts
  pub is : place (get_or ts column (Number 0)) ≡ j
  pub first : (c : ℕ) → c < column → place (get_or ts c (Number 0)) < j

shown_later : (place : Term → ℕ) (t : Term) (ts : List Term) (j : ℕ) → place t < j → FirstShown place ts j → FirstShown place (t ∷ ts) j
shown_later place t ts j h s = record { column = suc s.column; narrow = omega (arith, s.narrow); is = s.is; first = early }
  where
    early : (c : ℕ) → c < suc s.column → place (get_or (t ∷ ts) c (Number 0)) < j
    early zero g = h
    early (suc c) g = s.first c (omega arith)

all_shown : (ts : List Term) (xs ls : List ℕ) → Begins (all_put_in xs (codes_of Variables ts)) ls → ((n : ℕ) → In (Number n) ts → first_place xs n < length xs)
    → (j : ℕ) → length xs ≤ j → j < length (all_put_in xs (codes_of Variables ts)) → FirstShown (place_in ls) ts j
unfolding codes_of all_put_in code
all_shown [] xs ls b f j a h = absurd (omega arith)
all_shown (Number n ∷ ts) xs ls b f j a h =
    let i : first_place xs n < length xs = f n here in
    let o : Begins xs ls = begins-on xs (all_put_in xs (codes_of Variables ts)) ls (all-begin xs (codes_of Variables ts)) b in
    let e : place_in ls (Number n) ≡ first_place xs n = begins-place xs ls o n i in
    shown_later (place_in ls) (Number n) ts j (omega (arith, e, i)) (all_shown ts xs ls b (λ m k. f m (there k)) j a h)
all_shown (Variable x ∷ ts) xs ls b f j a h =
    let v = 4294967296 + x in
    let ys = put_in xs v in
    let o = one_in xs v in
    let p : first_place ys v < length ys = o.stands in
    let s : Begins ys ls = begins-on ys (all_put_in ys (codes_of Variables ts)) ls (all-begin ys (codes_of Variables ts)) b in
    let e : place_in ls (Variable x) ≡ first_place ys v = begins-place ys ls s v p in
    elim (cases_lt j (length ys)) [
      | inl g ↦ record { column = 0; narrow = omega arith; is = e ∙ (o.new j a g).0; first = λ c k. absurd (omega arith) }
      | inr g ↦ shown_later (place_in ls) (Variable x) ts j (omega (arith, e, p, g)) (all_shown ts ys ls b (λ m k. still xs ys o.begins m (f m (there k))) j g h)
    ]

-- the lists of terms after the numbers, the row's variables and the lines' variables were put in
pub record Listed (q : Question) (known shown all : List ℕ) : Type 0 where
  pub numbers : known ≡ all_put_in (all_put_in (0 ∷ 1 ∷ 2 ∷ 3 ∷ []) (codes_of Numbers q.row)) (line_codes Numbers q.lines)
  pub row : shown ≡ all_put_in known (codes_of Variables q.row)
  pub lines : all ≡ all_put_in shown (line_codes Variables q.lines)

pub listed-few : (q : Question) → Allowed q → (known shown all : List ℕ) → Listed q known shown all → (length known ≤ length shown) × (length all ≤ 24)
listed-few q a known shown all l =
    let f = codes_few q a in
    let start : List ℕ = 0 ∷ 1 ∷ 2 ∷ 3 ∷ [] in
    let one = put-length start (codes_of Numbers q.row) in
    let two = put-room (all_put_in start (codes_of Numbers q.row)) (line_codes Numbers q.lines) known l.numbers in
    let three = put-room known (codes_of Variables q.row) shown l.row in
    let four = put-room shown (line_codes Variables q.lines) all l.lines in
    (put-longer known (codes_of Variables q.row) shown l.row, omega (arith, f, one, two, three, four))

-- the line numbers as they are
same_place : (c : ℕ) → c < 4 → get_or (0 ∷ 1 ∷ 2 ∷ 3 ∷ []) c 0 ≡ c
same_place zero h = refl
same_place (suc zero) h = refl
same_place (suc (suc zero)) h = refl
same_place (suc (suc (suc zero))) h = refl
same_place (suc (suc (suc (suc c)))) h = absurd (omega arith)

first_four : Different (0 ∷ 1 ∷ 2 ∷ 3 ∷ [])
unfolding first_place
first_four zero h = refl
first_four (suc zero) h = refl
first_four (suc (suc zero)) h = refl
first_four (suc (suc (suc zero))) h = refl
first_four (suc (suc (suc (suc j)))) h = absurd (omega arith)

-- a slot is that of a variable of a line
pub record OfLine (q : Question) (all : List ℕ) (j : ℕ) : Type 0 where
  pub line : Line
  pub is_in : In line q.lines
  pub x : ℕ
  pub stands : In (Variable x) line.cells
  pub is : first_place all (4294967296 + x) ≡ j

module _ (q : Question) (a : Allowed q) (known shown all : List ℕ) (l : Listed q known shown all) where
  rows : List ℕ
  rows = all_put_in (0 ∷ 1 ∷ 2 ∷ 3 ∷ []) (codes_of Numbers q.row)

  pub begin-four : Begins (0 ∷ 1 ∷ 2 ∷ 3 ∷ []) known
  unfolding rows
  begin-four = rw l.numbers (begins-on (0 ∷ 1 ∷ 2 ∷ 3 ∷ []) rows (all_put_in rows (line_codes Numbers q.lines)) (all-begin (0 ∷ 1 ∷ 2 ∷ 3 ∷ []) (codes_of Numbers q.row)) (all-begin rows (line_codes Numbers q.lines)))

  pub known-shown : Begins known shown
  known-shown = rw l.row (all-begin known (codes_of Variables q.row))

  pub shown-all : Begins shown all
  shown-all = rw l.lines (all-begin shown (line_codes Variables q.lines))

  pub known-all : Begins known all
  known-all = begins-on known shown all known-shown shown-all

  pub different : Different all
  unfolding rows
  different =
      let d : Different known = rw l.numbers (all-different rows (line_codes Numbers q.lines) (all-different (0 ∷ 1 ∷ 2 ∷ 3 ∷ []) (codes_of Numbers q.row) first_four)) in
      let s : Different shown = rw l.row (all-different known (codes_of Variables q.row) d) in
      rw l.lines (all-different shown (line_codes Variables q.lines) s)

  -- the first four slots
  pub four-known : 4 ≤ length known
  four-known = begins-length (0 ∷ 1 ∷ 2 ∷ 3 ∷ []) known begin-four

  pub line-number-at : (i : ℕ) → i < 4 → get_or known i 0 ≡ i
  line-number-at i h = begins-at (0 ∷ 1 ∷ 2 ∷ 3 ∷ []) known begin-four i h ∙ same_place i h

  -- each term has a slot
  pub row_number : (n : ℕ) → In (Number n) q.row → first_place known n < length known
  unfolding rows
  row_number n i = rw l.numbers (still rows (all_put_in rows (line_codes Numbers q.lines)) (all-begin rows (line_codes Numbers q.lines)) n (all-stand_in (0 ∷ 1 ∷ 2 ∷ 3 ∷ []) (codes_of Numbers q.row) n (number-code q.row n i)))

  pub line-number : (k : Line) → In k q.lines → (n : ℕ) → In (Number n) k.cells → first_place known n < length known
  unfolding rows
  line-number k j n i = rw l.numbers (all-stand_in rows (line_codes Numbers q.lines) n (line_code Numbers n j (number-code k.cells n i)))

  pub row-variable : (x : ℕ) → In (Variable x) q.row → first_place shown (4294967296 + x) < length shown
  row-variable x i = rw l.row (all-stand_in known (codes_of Variables q.row) (4294967296 + x) (variable_code q.row x i))

  pub line-variable : (k : Line) → In k q.lines → (x : ℕ) → In (Variable x) k.cells → first_place all (4294967296 + x) < length all
  line-variable k j x i = rw l.lines (all-stand_in shown (line_codes Variables q.lines) (4294967296 + x) (line_code Variables (4294967296 + x) j (variable_code k.cells x i)))

  -- the first ones are numbers below 2^32
  pub small : (j : ℕ) → j < length known → get_or known j 0 < 4294967296
  unfolding rows
  small j h = elim (cases_lt j (length rows)) [
    | inl g ↦ (let e = begins-at rows known (rw l.numbers (all-begin rows (line_codes Numbers q.lines))) j g in
        elim (cases_lt j 4) [
          | inl f ↦ (let s = line-number-at j f in omega arith)
          | inr f ↦ (let m = a.row.each (Number (get_or rows j 0)) (code-number q.row (get_or rows j 0) (all_new (0 ∷ 1 ∷ 2 ∷ 3 ∷ []) (codes_of Numbers q.row) j f g)) in omega arith)
        ])
    | inr g ↦ (let v = code-line Numbers q.lines (get_or known j 0) (rw l.numbers (all_new rows (line_codes Numbers q.lines) j g (rw l.numbers at h))) in
        (a.cells v.line v.is_in).each (Number (get_or known j 0)) (code-number v.line.cells (get_or known j 0) v.stands))
  ]

  -- the slots of the row's variables
  pub shown-first : (j : ℕ) → length known ≤ j → j < length shown → FirstShown (place_in all) q.row j
  shown-first j m h = all_shown q.row known all (rw l.row at shown-all) row_number j m (rw l.row at h)

  -- each slot behind the numbers is that of a variable of a line
  pub of-line : (j : ℕ) → length known ≤ j → j < length all → OfLine q all j
  of-line j m h = elim (cases_lt j (length shown)) [
    | inl g ↦
        (let e : get_or all j 0 ≡ get_or shown j 0 = begins-at shown all shown-all j g in
        let v = code_variable q.row (get_or shown j 0) (rw l.row (all_new known (codes_of Variables q.row) j m (rw l.row at g))) in
        let u = (sound_parts q a.is_sound).row v.x v.stands in
        record { line = u.line; is_in = u.is_in; x = v.x; stands = u.stands; is = ap (first_place all) (sym (e ∙ v.is)) ∙ different j h })
    | inr g ↦
        (let w = code-line Variables q.lines (get_or all j 0) (rw l.lines (all_new shown (line_codes Variables q.lines) j g (rw l.lines at h))) in
        let v = code_variable w.line.cells (get_or all j 0) w.stands in
        record { line = w.line; is_in = w.is_in; x = v.x; stands = v.stands; is = ap (first_place all) (sym v.is) ∙ different j h })
  ]

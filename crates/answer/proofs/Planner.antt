-- The plan that the code makes is one for the question, and the join takes it.
use Rattle.std.proofs.Common.{◌≡◌, ℕ, zero, suc, ◌+◌, ◌-◌, ◌<◌, ◌≤◌, List, [], ◌∷◌, map, length, get_or, take, sym, refl, ap, ◌∙◌, inl, inr, arith}
use Rattle.std.proofs.lemmas.Bool.{cases_lt}
use Rattle.std.proofs.lemmas.List.{get_or-map, get_or-take, length-map}
use Rattle.join.specs.Slots.{Blank, slot}
use Rattle.join.specs.FirstValues.{HasSlot}
use Rattle.join.specs.RowsOut.{Shows}
use Rattle.question.specs.declared.terms.Term.{Term}
use Rattle.question.specs.declared.terms.Term.TheVariants.{Number, Variable}
use Rattle.question.specs.Question.{Line, Question, In, here, there}
use Rattle.question.specs.Sound.{Allowed}
use Rattle.question.proofs.Members.{in_at}
use Rattle.question.specs.Layout.{code}
use Rattle.answer.specs.Terms.{first_place, place_in}
use Rattle.answer.specs.Plan.{Kept, AllKept, places, LinePlanned, Plan, Planned, Joinable, no_line}
use Rattle.answer.specs.Columns.{Ascending, LineInOrder, LineSlots, IsPlannedLine, order_of}
use Rattle.answer.specs.declared.columns.PlannedLine.{PlannedLine}
use Rattle.answer.proofs.Listing.{begins-length, begins-at, begins-place, place_holds, still}
use Rattle.answer.proofs.Placing.{Listed, FirstShown, OfLine, known-shown, shown-all, known-all, four-known, line-number-at, row_number, line-number, row-variable, line-variable, small, shown-first, of-line}

-- the place of what is in a list
record FoundAt {A : Type 0} (xs : List A) (d a : A) : Type 0 where
  pub at : ℕ
  pub inside : at < length xs
  pub is : get_or xs at d ≡ a

found_at : {A : Type 0} (d : A) {a : A} {xs : List A} → In a xs → FoundAt xs d a
found_at d (here {xs = xs}) = record { at = 0; inside = omega arith; is = refl }
found_at d (there i) = let f = found_at d i in record { at = suc f.at; inside = omega (arith, f.inside); is = f.is }

-- the slots of terms as a list
length-places : (place : Term → ℕ) (ts : List Term) → length (places place ts) ≡ length ts
unfolding places
length-places place [] = refl
length-places place (t ∷ ts) = ap suc (length-places place ts)

places-at : (place : Term → ℕ) (ts : List Term) (c : ℕ) → c < length ts → get_or (places place ts) c 0 ≡ place (get_or ts c (Number 0))
unfolding places
places-at place [] c h = absurd (omega arith)
places-at place (t ∷ ts) zero h = refl
places-at place (t ∷ ts) (suc c) h = places-at place ts c (omega arith)

-- what the code has made
pub record Made (q : Question) (p : Plan) (known shown all : List ℕ) (lines : List PlannedLine) : Type 0 where
  pub listed : Listed q known shown all
  pub k_is : length known ≡ p.k
  pub shown_is : length shown ≡ p.shown
  pub n_is : length all ≡ p.n
  pub room : p.n ≤ 24
  pub values : take p.k p.env ≡ known
  pub blank : Blank p.k p.env
  pub row_is : p.row ≡ places (place_in all) q.row
  pub many : length lines ≡ length q.lines
  pub lines_are : p.lines ≡ map (λ l. l.slots) lines
  pub cols_are : p.cols ≡ map (λ l. order_of l.columns.items) lines
  pub each : (i : ℕ) (d : PlannedLine) → i < length q.lines → IsPlannedLine (place_in all) (get_or q.lines i no_line).cells i (get_or lines i d)

module _ (q : Question) (a : Allowed q) (p : Plan) (known shown all : List ℕ) (lines : List PlannedLine) (m : Made q p known shown all lines) where
  no_slots : PlannedLine
  no_slots = record { slots = []; columns = record { items = [] } }

  ordered : (i : ℕ) → i < length q.lines → LineInOrder (place_in all) (get_or q.lines i no_line).cells (get_or p.cols i [])
  ordered i h =
      let l = m.many in
      let j : i < length lines = omega arith in
      rw (m.cols_are, get_or-map (λ (l : PlannedLine). order_of l.columns.items) lines i no_slots [] j) (m.each i no_slots h).order

  line-slots : (i : ℕ) → i < length q.lines → LineSlots (place_in all) (get_or q.lines i no_line).cells (get_or p.cols i []) (get_or p.lines i []) i
  line-slots i h =
      let l = m.many in
      let j : i < length lines = omega arith in
      rw (m.cols_are, m.lines_are, get_or-map (λ (l : PlannedLine). order_of l.columns.items) lines i no_slots [] j, get_or-map (λ (l : PlannedLine). l.slots) lines i no_slots [] j) (m.each i no_slots h).line

  name : ℕ → ℕ
  name s = get_or all s 0 - 4294967296

  -- the values of the first slots
  value-at : (j : ℕ) → j < p.k → get_or p.env j 0 ≡ get_or known j 0
  value-at j h = sym (get_or-take p.k p.env j 0 h) ∙ ap (λ (xs : List ℕ). get_or xs j 0) m.values

  kept-number : (n : ℕ) → first_place known n < length known → Kept (place_in all) name p.k p.env (Number n)
  unfolding code
  kept-number n h =
      let e : first_place all n ≡ first_place known n = begins-place known all (known-all q a known shown all m.listed) n h in
      let g : first_place known n < p.k = rw m.k_is at h in
      (rw e g, rw e (value-at (first_place known n) g ∙ place_holds known n h))

  kept-variable : (x : ℕ) → first_place all (4294967296 + x) < length all → Kept (place_in all) name p.k p.env (Variable x)
  unfolding name code
  kept-variable x h =
      let f = first_place all (4294967296 + x) in
      let e : get_or all f 0 ≡ 4294967296 + x = place_holds all (4294967296 + x) h in (
        elim (cases_lt f (length known)) [
          | inl g ↦
              (let s = small q a known shown all m.listed f g in
              let b : get_or all f 0 ≡ get_or known f 0 = begins-at known all (known-all q a known shown all m.listed) f g in
              absurd (omega arith))
          | inr g ↦ rw m.k_is at g
        ],
        omega arith,
      )

  kept_row : AllKept (place_in all) name p.k p.env q.row
  kept_row (Number n) i = kept-number n (row_number q a known shown all m.listed n i)
  kept_row (Variable x) i = kept-variable x (still shown all (shown-all q a known shown all m.listed) (4294967296 + x) (row-variable q a known shown all m.listed x i))

  kept_line : (l : Line) → In l q.lines → AllKept (place_in all) name p.k p.env l.cells
  kept_line l j (Number n) i = kept-number n (line-number q a known shown all m.listed l j n i)
  kept_line l j (Variable x) i = kept-variable x (line-variable q a known shown all m.listed l j x i)

  -- each term's slot is below n
  slot-below : (l : Line) → In l q.lines → (t : Term) → In t l.cells → place_in all t < p.n
  unfolding code
  slot-below l j (Number n) i = rw m.n_is at (still known all (known-all q a known shown all m.listed) n (line-number q a known shown all m.listed l j n i))
  slot-below l j (Variable x) i = rw m.n_is at (line-variable q a known shown all m.listed l j x i)

  row_below : (t : Term) → In t q.row → place_in all t < p.shown
  unfolding code
  row_below (Number n) i =
      let h = row_number q a known shown all m.listed n i in
      let e = begins-place known all (known-all q a known shown all m.listed) n h in
      let o = begins-length known shown (known-shown q a known shown all m.listed) in
      omega (arith, m.shown_is)
  row_below (Variable x) i =
      let h = row-variable q a known shown all m.listed x i in
      let e = begins-place shown all (shown-all q a known shown all m.listed) (4294967296 + x) h in
      omega (arith, m.shown_is)

  four-k : 4 ≤ p.k
  four-k = let f = four-known q a known shown all m.listed in omega (arith, m.k_is)

  k-n : p.k ≤ p.n
  k-n = let f = begins-length known all (known-all q a known shown all m.listed) in omega (arith, m.k_is, m.n_is)

  few-lines : (i : ℕ) → i < length q.lines → i < 4
  few-lines i h = omega (arith, a.few)

  -- the lines
  lines-count : length p.lines ≡ length q.lines
  lines-count = ap length m.lines_are ∙ length-map lines (λ (l : PlannedLine). l.slots) ∙ m.many

  cells-few : (i : ℕ) → i < length q.lines → length (get_or q.lines i no_line).cells ≤ 4
  cells-few i h = (a.cells (get_or q.lines i no_line) (in_at q.lines i no_line h)).few

  planned-line : (i : ℕ) → i < length q.lines → LinePlanned (place_in all) p.k p.env (get_or q.lines i no_line) (get_or p.lines i []) (get_or p.cols i []) i
  planned-line i h =
      let s = line-slots i h in
      let k = four-k in
      let o = few-lines i h in
      let v : (j : ℕ) → j < 4 → (j < p.k) × (get_or p.env j 0 ≡ j) = λ j g. (omega arith, value-at j (omega arith) ∙ line-number-at q a known shown all m.listed j g) in
      record {
        few = cells-few i h;
        id_slot = rw s.first (v i o);
        slots = s.slots;
        zeros = λ c g b. rw (s.zeros c g b) (v 0 (omega arith));
        inside = (ordered i h).columns.inside;
        each = (ordered i h).columns.each;
      }

  pub planned : Planned q p
  planned = record {
    place = place_in all;
    name = name;
    row_kept = kept_row;
    row_is = m.row_is;
    many = lines-count;
    kept = λ i h. kept_line (get_or q.lines i no_line) (in_at q.lines i no_line h);
    line = planned-line;
  }

  -- the join takes it
  below-line : (i : ℕ) → i < length q.lines → (c : ℕ) → c < 5 → slot (get_or p.lines i []) c < p.n
  below-line i h zero b =
      let s = (line-slots i h).first in
      let k = four-k in
      let n = k-n in
      let o = few-lines i h in
      omega arith
  below-line i h (suc c) b = elim (cases_lt c (length (get_or q.lines i no_line).cells)) [
    | inl g ↦
        (let ts = (get_or q.lines i no_line).cells in
        let d = get_or (get_or p.cols i []) c 0 in
        let e : slot (get_or p.lines i []) (c + 1) ≡ place_in all (get_or ts d (Number 0)) = (line-slots i h).slots c g in
        let f : place_in all (get_or ts d (Number 0)) < p.n = slot-below (get_or q.lines i no_line) (in_at q.lines i no_line h) (get_or ts d (Number 0)) (in_at ts d (Number 0) ((ordered i h).columns.inside c g)) in
        let n : c + 1 ≡ suc c = omega arith in
        rw n at (rw (sym e) at f))
    | inr g ↦
        (let e : slot (get_or p.lines i []) (c + 1) ≡ 0 = (line-slots i h).zeros c g (omega arith) in
        let k = four-k in
        let o = k-n in
        let f : slot (get_or p.lines i []) (c + 1) < p.n = omega arith in
        let n : c + 1 ≡ suc c = omega arith in
        rw n at f)
  ]

  -- the slot of the d-th term of the i-th line is named there
  term-slot : (i : ℕ) → i < length q.lines → (d : ℕ) → d < length (get_or q.lines i no_line).cells → (j : ℕ) → place_in all (get_or (get_or q.lines i no_line).cells d (Number 0)) ≡ j → HasSlot p.lines j
  term-slot i h d g j e =
      let r = (ordered i h).columns.each d g in
      let few = cells-few i h in
      let s = (line-slots i h).slots r.from r.narrow in
      record { line = i; inside = rw lines-count h; column = r.from + 1; narrow = omega (arith, r.narrow); is = rw (s, r.is) e }

  covered-at : (j : ℕ) → p.k ≤ j → j < p.n → HasSlot p.lines j
  unfolding code
  covered-at j b h =
      let o : OfLine q all j = of-line q a known shown all m.listed j (rw m.k_is b) (rw m.n_is h) in
      let f = found_at no_line o.is_in in
      let g = found_at (Number 0) o.stands in
      let c : (get_or q.lines f.at no_line).cells ≡ o.line.cells = ap (λ (l : Line). l.cells) f.is in
      term-slot f.at f.inside g.at (rw c g.inside) j (rw (c, g.is) o.is)

  row-slot : (c : ℕ) → c < length q.row → slot p.row c ≡ place_in all (get_or q.row c (Number 0))
  row-slot c h = rw m.row_is (places-at (place_in all) q.row c h)

  row-length : length p.row ≡ length q.row
  row-length = ap length m.row_is ∙ length-places (place_in all) q.row

  shows-at : (j : ℕ) → p.k ≤ j → j < p.shown → Shows p.row j
  shows-at j b h =
      let f : FirstShown (place_in all) q.row j = shown-first q a known shown all m.listed j (rw m.k_is b) (rw m.shown_is h) in
      record {
        column = f.column;
        narrow = rw row-length f.narrow;
        is = row-slot f.column f.narrow ∙ f.is;
        first = λ c g. (let n : c < length q.row = omega (arith, f.narrow) in rw (row-slot c n) (f.first c g));
      }

  shown-within : p.shown ≤ p.n
  shown-within = let f = begins-length shown all (shown-all q a known shown all m.listed) in omega (arith, m.shown_is, m.n_is)

  pub joinable : Joinable p
  joinable = record {
    below = λ i h c g. (let i-in : i < length q.lines = rw lines-count at h in below-line i i-in c g);
    covered = λ j b h. covered-at j b (omega (arith, shown-within));
    k_shown = (let f = begins-length known shown (known-shown q a known shown all m.listed) in omega (arith, m.k_is, m.shown_is));
    shown_n = shown-within;
    room = m.room;
    blank = m.blank;
    shows = shows-at;
    row_shown = λ c h. (let n : c < length q.row = rw row-length at h in rw (row-slot c n) (row_below (get_or q.row c (Number 0)) (in_at q.row c (Number 0) n)));
  }

  pub ascending : Ascending q p
  ascending i c d h o g =
      let s = line-slots i h in
      rw (s.slots c (omega arith), s.slots d g) ((ordered i h).rising c d o g)

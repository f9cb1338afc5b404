-- What the join answers by a plan is what the question answers.
use Rattle.std.proofs.Common.{◌≡◌, ℕ, zero, suc, ◌<◌, ◌≤◌, true, false, cond, ltb, List, [], ◌∷◌, length, get_or, sym, refl, ap, ◌∙◌, arith}
use Rattle.std.proofs.lemmas.Bool.Decides.{nat_tests}
use Rattle.join.specs.Order.{cells}
use Rattle.join.specs.Slots.{Agree, Stands, slot}
use Rattle.join.specs.RowsOut.{Answered}
use Rattle.join.proofs.Bounds.{line_of, all-stand}
use Rattle.question.specs.declared.terms.Term.{Term}
use Rattle.question.specs.declared.terms.Term.TheVariants.{Number, Variable}
use Rattle.question.specs.Question.{Line, Question, Base, Row, Value, In, here, there, Stand, none_left, and_line, Answers, at, all_at}
use Rattle.answer.specs.Plan.{Kept, AllKept, places, Plan, Planned, no_line}
use Rattle.answer.specs.Laws.{asked_by, Copied}
use Rattle.answer.proofs.ByLine.{Matches, stands-there, stands-back}

-- the slots' values for the variables' values
abbrev to_slots : ℕ → List ℕ → (ℕ → ℕ) → Value → Value
to_slots k env name v j = cond (ltb j k) (get_or env j 0) (v (name j))

abbrev to_names : (Term → ℕ) → Value → Value
to_names place u x = u (place (Variable x))

ltb_yes : (j k : ℕ) → j < k → ltb j k ≡ true
ltb_yes j k h = grind (arith, nat_tests)

ltb_no : (j k : ℕ) → k ≤ j → ltb j k ≡ false
ltb_no j k h = grind (arith, nat_tests)

module _ (place : Term → ℕ) (name : ℕ → ℕ) (k : ℕ) (env : List ℕ) where
  slots-agree : (v : Value) → Agree k env (to_slots k env name v)
  slots-agree v j h = rw (ltb_yes j k h)

  slots_at : (v : Value) (t : Term) → Kept place name k env t → to_slots k env name v (place t) ≡ at v t
  slots_at v (Number n) h = rw (ltb_yes (place (Number n)) k h.0) h.1
  slots_at v (Variable x) h = rw (ltb_no (place (Variable x)) k h.0) (ap v h.1)

  names_at : (u : Value) → Agree k env u → (t : Term) → Kept place name k env t → u (place t) ≡ at (to_names place u) t
  names_at u a (Number n) h = a (place (Number n)) h.0 ∙ h.1
  names_at u a (Variable x) h = refl

  slots-match : (v : Value) (ts : List Term) → AllKept place name k env ts → Matches place (to_slots k env name v) v ts
  slots-match v ts h t o = slots_at v t (h t o)

  names-match : (u : Value) → Agree k env u → (ts : List Term) → AllKept place name k env ts → Matches place u (to_names place u) ts
  names-match u a ts h t o = names_at u a t (h t o)

-- lines that stand, one by one
stand-at : (b : Base) (v : Value) (ls : List Line) → Stand b v ls → (i : ℕ) → i < length ls → In (all_at v (get_or ls i no_line).cells) (b (get_or ls i no_line).table)
stand-at b v [] s i h = absurd (omega arith)
stand-at b v (l ∷ ls) (and_line x s) zero h = x
stand-at b v (l ∷ ls) (and_line x s) (suc i) h = stand-at b v ls s i (omega arith)

stand-by : (b : Base) (v : Value) (ls : List Line) → ((i : ℕ) → i < length ls → In (all_at v (get_or ls i no_line).cells) (b (get_or ls i no_line).table)) → Stand b v ls
stand-by b v [] f = none_left
stand-by b v (l ∷ ls) f = and_line (f 0 (omega arith)) (stand-by b v ls (λ i h. f (suc i) (omega arith)))

-- a row under the variables' values is that of its slots
row-there : (place : Term → ℕ) (u v : Value) (ts : List Term) → Matches place u v ts → (c : ℕ) → c < length (places place ts) → get_or (all_at v ts) c 0 ≡ u (slot (places place ts) c)
unfolding places all_at
row-there place u v [] m c h = absurd (omega arith)
row-there place u v (t ∷ ts) m zero h = sym (m t here)
row-there place u v (t ∷ ts) m (suc c) h = row-there place u v ts (λ s o. m s (there o)) c (omega arith)

row_back : (place : Term → ℕ) (u v : Value) (ts : List Term) (r : List ℕ) → Matches place u v ts → length r ≡ length ts
    → ((c : ℕ) → c < length (places place ts) → get_or r c 0 ≡ u (slot (places place ts) c)) → all_at v ts ≡ r
unfolding places all_at
row_back place u v [] [] m e f = refl
row_back place u v [] (x ∷ r) m e f = absurd (omega arith)
row_back place u v (t ∷ ts) [] m e f = absurd (omega arith)
row_back place u v (t ∷ ts) (x ∷ r) m e f =
    let p : at v t ≡ x = sym (m t here) ∙ sym (f 0 (omega arith)) in
    let s : all_at v ts ≡ r = row_back place u v ts r (λ s o. m s (there o)) (omega arith) (λ c h. f (suc c) (omega arith)) in
    cc

module _ (b : Base) (q : Question) (p : Plan) (rows : List (List ℕ)) (y : Planned q p) (c : Copied b q p rows) where
  all_there : (v : Value) → Stand b v q.lines → (i : ℕ) → i < length p.lines → Stands rows (get_or p.lines i []) (to_slots p.k p.env y.name v)
  all_there v s i h =
      let g : i < length q.lines = omega (arith, y.many) in
      stands-there b y.place p.k p.env rows (get_or q.lines i no_line) (get_or p.lines i []) (get_or p.cols i []) i (y.line i g) (c i g)
      (to_slots p.k p.env y.name v) v (slots-agree y.place y.name p.k p.env v)
      (slots-match y.place y.name p.k p.env v (get_or q.lines i no_line).cells (y.kept i g)) (stand-at b v q.lines s i g)

  all_back : (u : Value) → Agree p.k p.env u → ((i : ℕ) → i < length p.lines → Stands rows (get_or p.lines i []) u) → Stand b (to_names y.place u) q.lines
  all_back u a f = stand-by b (to_names y.place u) q.lines (λ i h.
      stands-back b y.place p.k p.env rows (get_or q.lines i no_line) (get_or p.lines i []) (get_or p.cols i []) i (y.line i h) (c i h)
      u (to_names y.place u) a (names-match y.place y.name p.k p.env u a (get_or q.lines i no_line).cells (y.kept i h)) (f i (omega (arith, y.many))))

pub plan_answers : (b : Base) (q : Question) (p : Plan) (rows : List (List ℕ)) → Planned q p → Copied b q p rows →
    (r : Row) → length r ≡ length q.row → (Answers b q r → Answered (asked_by p rows) (cells r)) × (Answered (asked_by p rows) (cells r) → Answers b q r)
plan_answers b q p rows y c r len = (
  λ x.
      let u : Value = to_slots p.k p.env y.name x.value in
      record {
        value = u;
        agree = slots-agree y.place y.name p.k p.env x.value;
        stand = all-stand rows p.lines u (all_there b q p rows y c x.value x.stand);
        is = rw (sym x.is, y.row_is) (row-there y.place u x.value q.row (slots-match y.place y.name p.k p.env x.value q.row y.row_kept));
      },
  λ z.
      let v : Value = to_names y.place z.value in
      record {
        value = v;
        stand = all_back b q p rows y c z.value z.agree (line_of rows p.lines z.value z.stand);
        is = row_back y.place z.value v q.row r (names-match y.place y.name p.k p.env z.value z.agree q.row y.row_kept) len (rw y.row_is at z.is);
      },
)

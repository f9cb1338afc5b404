-- A line stands under values of the slots exactly if its row stands in the table.
use Rattle.std.proofs.Common.{◌≡◌, ℕ, zero, suc, ◌+◌, ◌<◌, List, [], ◌∷◌, length, get_or, sym, ap, ◌∙◌, inl, inr, add-one, arith}
use Rattle.std.proofs.lemmas.List.{ext_get_or}
use Rattle.std.proofs.lemmas.Bool.{cases_lt}
use Rattle.join.specs.Order.{row_at}
use Rattle.join.specs.Slots.{Agree, Stands, slot}
use Rattle.question.specs.declared.terms.Term.{Term}
use Rattle.question.specs.declared.terms.Term.TheVariants.{Number}
use Rattle.question.specs.Question.{Line, Base, Value, In, here, there, at, all_at}
use Rattle.question.proofs.Front.{length-all_at}
use Rattle.answer.specs.Plan.{LinePlanned}
use Rattle.answer.specs.Copies.{CopyOf, LineCopied}

-- the values of the slots and of the variables are the same
abbrev pub Matches : (Term → ℕ) → Value → Value → List Term → Type 0
Matches place u v ts = (t : Term) → In t ts → u (place t) ≡ at v t

-- the d-th number of the row under v is the value of its slot
cell_at : (place : Term → ℕ) (u v : Value) (ts : List Term) → Matches place u v ts → (d : ℕ) → d < length ts → get_or (all_at v ts) d 0 ≡ u (place (get_or ts d (Number 0)))
unfolding all_at
cell_at place u v [] m d h = absurd (omega arith)
cell_at place u v (t ∷ ts) m zero h = sym (m t here)
cell_at place u v (t ∷ ts) m (suc d) h = cell_at place u v ts (λ s o. m s (there o)) d (omega arith)

module _ (b : Base) (place : Term → ℕ) (k : ℕ) (env : List ℕ) (rows : List (List ℕ)) (l : Line) (line cols : List ℕ) (id : ℕ)
    (p : LinePlanned place k env l line cols id) (y : LineCopied b l cols id rows) (u v : Value) (a : Agree k env u) (m : Matches place u v l.cells) where
  -- the copy of the row under v has the values of the line's slots
  cells_of : (x : ℕ → ℕ) → CopyOf id (length l.cells) cols (all_at v l.cells) x → (c : ℕ) → c < 5 → x c ≡ u (slot line c)
  cells_of x z zero h = z.first ∙ sym p.id_slot.1 ∙ sym (a (slot line 0) p.id_slot.0)
  cells_of x z (suc c) h = elim (cases_lt c (length l.cells)) [
    | inl g ↦
        (let e : x (c + 1) ≡ u (slot line (c + 1)) = z.cell c g ∙ cell_at place u v l.cells m (get_or cols c 0) (p.inside c g) ∙ ap u (sym (p.slots c g)) in
        rw add-one at e)
    | inr g ↦
        (let o = p.zeros c g (omega arith) in
        let e : x (c + 1) ≡ u (slot line (c + 1)) = z.zero c g (omega arith) ∙ sym o.1 ∙ sym (a (slot line (c + 1)) o.0) in
        rw add-one at e)
  ]

  pub stands-there : In (all_at v l.cells) (b l.table) → Stands rows line u
  stands-there i =
      let q = y.put v i in
      record { place = q.at; inside = q.inside; is = cells_of (row_at rows q.at) q.copy }

  pub stands-back : Stands rows line u → In (all_at v l.cells) (b l.table)
  stands-back f =
      let is-id : row_at rows f.place 0 ≡ id = f.is 0 (omega arith) ∙ a (slot line 0) p.id_slot.0 ∙ p.id_slot.1 in
      let s = y.only f.place f.inside is-id in
      let e : s.row ≡ all_at v l.cells = ext_get_or 0 s.row (all_at v l.cells) (s.wide ∙ sym (length-all_at v l.cells))
      (λ d h.
      let n : d < length l.cells = omega (arith, s.wide) in
      let r = p.each d n in
      let c1 : row_at rows f.place (r.from + 1) ≡ get_or s.row d 0 = s.copy.cell r.from r.narrow ∙ ap (λ x. get_or s.row x 0) r.is in
      let few = p.few in
      let c2 : row_at rows f.place (r.from + 1) ≡ u (slot line (r.from + 1)) = f.is (r.from + 1) (omega (arith, r.narrow)) in
      let c3 : slot line (r.from + 1) ≡ place (get_or l.cells d (Number 0)) = p.slots r.from r.narrow ∙ ap (λ x. place (get_or l.cells x (Number 0))) r.is in
      sym c1 ∙ c2 ∙ ap u c3 ∙ sym (cell_at place u v l.cells m d n)) in
      rw e at s.here

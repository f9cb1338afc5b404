-- Room that is filled from its front, part by part: what stands in it so far, and what is left to read, give the whole.
use Rattle.std.proofs.Common.{◌≡◌, ℕ, suc, ◌+◌, ◌-◌, ◌*◌, ◌<◌, ◌≤◌, true, false, leb, List, [], ◌∷◌, ◌++◌, length, take, drop, set, replicate, Some, None, Option, sym, refl, ap, ◌∙◌, inl, inr, arith}
use Rattle.std.proofs.lemmas.List.{append_assoc, append-nil, set_at, take_at, take_all, drop_at, drop_all, drop-drop, drop-replicate, take-append-drop, length-append, length-take, length-drop, length-replicate}
use Rattle.std.proofs.Math.Nat.{mul-le-mul_left, mul-add, mul_comm}
use Rattle.std.proofs.lemmas.Bool.Decides.{nat_tests, leb_tells}
use Rattle.wire.specs.Bytes.{Reads, gives, ◌>>=◌, times, in_room, read_byte, read_term, read_row, read_line, read_question, read_reports}
use denote.Ref.{MutBor}
use Rattle.wire.specs.declared.reader.Reader.{Reader}
use Rattle.wire.specs.Reading.{left, kept, behind, ReadsBy, HasSize}
use Rattle.wire.proofs.Steps.{then_read}
use Rattle.wire.proofs.Fronts.{take_past}

pub behind-is : (room : ℕ) (front : List ℕ) (read : Reads (List ℕ)) (made : List ℕ → List ℕ) (bytes : List ℕ)
    → ((xs : List ℕ) → made xs ≡ in_room room (front ++ xs)) → ◌>>=◌ read (λ xs. gives (made xs)) bytes ≡ behind room front (read bytes)
unfolding ◌>>=◌
behind-is room front read made bytes h = go (read bytes) refl
  where
    go : (o : Option (List ℕ × List ℕ)) → read bytes ≡ o → ◌>>=◌ read (λ xs. gives (made xs)) bytes ≡ behind room front (read bytes)
    go (Some found) e = rw (e, h found.0)
    go None e = rw e

-- one part more
pub times_more : (room n i : ℕ) (front part : List ℕ) (read : Reads (List ℕ)) (bytes rest : List ℕ) → i < n → read bytes ≡ Some (part, rest)
    → behind room front (times (n - i) read bytes) ≡ behind room (front ++ part) (times (n - (i + 1)) read rest)
unfolding times ◌>>=◌
times_more room n i front part read bytes rest h e =
    let s : n - i ≡ suc (n - (i + 1)) = omega arith in
    rw (s, e) (go (times (n - (i + 1)) read rest) refl)
  where
    go : (o : Option (List ℕ × List ℕ)) → times (n - (i + 1)) read rest ≡ o
        → behind room front (◌>>=◌ (times (n - (i + 1)) read) (λ others. gives (part ++ others)) rest) ≡ behind room (front ++ part) (times (n - (i + 1)) read rest)
    go (Some found) p = rw (p, append_assoc front part found.0)
    go None p = rw p

pub times-short : (room n i : ℕ) (front : List ℕ) (read : Reads (List ℕ)) (bytes : List ℕ) → i < n → read bytes ≡ None
    → behind room front (times (n - i) read bytes) ≡ None
unfolding times ◌>>=◌
times-short room n i front read bytes h e = let s : n - i ≡ suc (n - (i + 1)) = omega arith in rw (s, e)

pub times_end : (room n i : ℕ) (front : List ℕ) (read : Reads (List ℕ)) (bytes : List ℕ) → n ≤ i
    → behind room front (times (n - i) read bytes) ≡ Some (in_room room front, bytes)
unfolding times
times_end room n i front read bytes h = let s : n - i ≡ 0 = omega arith in rw (s, append-nil front)

-- the room is filled up to a place, and what is left to read stands behind it
pub record Filling (size at : ℕ) (room : List ℕ) (todo whole : Option (List ℕ × List ℕ)) : Type 0 where
  pub long : length room ≡ size
  pub zeros : drop at room ≡ replicate (size - at) 0
  pub same : behind size (take at room) todo ≡ whole

-- a part that has its place, and one that has none
pub kept-fits : (at : ℕ) (part room : List ℕ) → at + length part ≤ length room
    → kept at part room ≡ take at room ++ (part ++ drop (at + length part) room)
kept-fits at part room h = let e : leb (at + length part) (length room) ≡ true = grind (arith, nat_tests) in rw e

pub kept_past : (at : ℕ) (part room : List ℕ) → length room < at + length part → kept at part room ≡ room
kept_past at part room h = let e : leb (at + length part) (length room) ≡ false = grind (arith, nat_tests) in rw e

-- the room with a part put at the place up to which it is filled
pub take-kept : (at : ℕ) (part room : List ℕ) → at + length part ≤ length room → take (at + length part) (kept at part room) ≡ take at room ++ part
take-kept at part room h =
    let l : length (take at room ++ part) ≡ at + length part = simp (length-append, length-take) (omega arith) in
    rw (kept-fits at part room h, ← append_assoc (take at room) part (drop (at + length part) room)) (take_at (take at room ++ part) (drop (at + length part) room) (at + length part) l)

pub drop-kept : (at : ℕ) (part room : List ℕ) → at + length part ≤ length room
    → drop (at + length part) (kept at part room) ≡ drop (length part) (drop at room)
drop-kept at part room h =
    let l : length (take at room ++ part) ≡ at + length part = simp (length-append, length-take) (omega arith) in
    rw (kept-fits at part room h, ← append_assoc (take at room) part (drop (at + length part) room), drop-drop (length part) at room) (drop_at (take at room ++ part) (drop (at + length part) room) (at + length part) l)

pub length-kept : (at : ℕ) (part room : List ℕ) → at + length part ≤ length room → length (kept at part room) ≡ length room
length-kept at part room h = rw (kept-fits at part room h) (simp (length-append, length-take, length-drop) (omega arith))

-- what stands behind a full room has no place
pub behind_full : (size : ℕ) (room part : List ℕ) (o : Option (List ℕ × List ℕ)) → length room ≡ size → behind size (room ++ part) o ≡ behind size room o
behind_full size room part (Some found) h =
    rw (append_assoc room part found.0, take_at room (part ++ found.0) size h, take_at room found.0 size h)
behind_full size room part None h = refl

pub filling-more : (size at next n i : ℕ) (room part : List ℕ) (read : Reads (List ℕ)) (bytes rest : List ℕ) (whole : Option (List ℕ × List ℕ))
    → Filling size at room (times (n - i) read bytes) whole → i < n → read bytes ≡ Some (part, rest) → at + length part ≡ next → at < next
    → (at < size → next ≤ size) → Filling size next (kept at part room) (times (n - (i + 1)) read rest) whole
filling-more size at next n i room part read bytes rest whole f h e p z fits = elim (leb_tells size at) [ inl k ↦ past k.1 | inr k ↦ within (fits k.1) ]
  where
    within : next ≤ size → Filling size next (kept at part room) (times (n - (i + 1)) read rest) whole
    within k =
        let g : at + length part ≤ length room = omega (arith, f.long, p) in
        record {
          long = length-kept at part room g ∙ f.long;
          zeros = rw (← p, drop-kept at part room g, f.zeros, drop-replicate {X = ℕ} (length part) (size - at) 0) (ap (λ m. replicate m 0) (omega arith));
          same = rw (← p, take-kept at part room g) (sym (times_more size n i (take at room) part read bytes rest h e) ∙ f.same);
        }

    past : size ≤ at → Filling size next (kept at part room) (times (n - (i + 1)) read rest) whole
    past k =
        let g : length room < at + length part = omega (arith, f.long, p) in
        let s : size - next ≡ 0 = omega arith in
        let t : take at room ≡ room = take_all at room (omega (arith, f.long)) in
        record {
          long = rw (kept_past at part room g) f.long;
          zeros = rw (kept_past at part room g, s) (drop_all next room (omega (arith, f.long)));
          same =
              rw (kept_past at part room g, take_all next room (omega (arith, f.long)))
              (sym (behind_full size room part (times (n - (i + 1)) read rest) f.long) ∙ sym (times_more size n i room part read bytes rest h e)
              ∙ ap (λ x. behind size x (times (n - i) read bytes)) (sym t) ∙ f.same);
        }

pub filling-short : (size at n i : ℕ) (room : List ℕ) (read : Reads (List ℕ)) (bytes : List ℕ) (whole : Option (List ℕ × List ℕ))
    → Filling size at room (times (n - i) read bytes) whole → i < n → read bytes ≡ None → whole ≡ None
filling-short size at n i room read bytes whole f h e = sym f.same ∙ times-short size n i (take at room) read bytes h e

pub filling_end : (size at n i : ℕ) (room : List ℕ) (read : Reads (List ℕ)) (bytes : List ℕ) (whole : Option (List ℕ × List ℕ))
    → Filling size at room (times (n - i) read bytes) whole → n ≤ i → whole ≡ Some (room, bytes)
filling_end size at n i room read bytes whole f h =
    let l : length (take at room) ≤ size = simp length-take (omega (arith, f.long)) in
    let s : size - length (take at room) ≡ size - at = simp length-take (omega (arith, f.long)) in
    sym f.same ∙ times_end size n i (take at room) read bytes h
    ∙ rw (take_all size (take at room) l, s, ← f.zeros, take-append-drop at room)

-- the parts of a request that have room of their own
pub row-behind : (bytes rest : List ℕ) (count n : ℕ) → read_byte bytes ≡ Some (count, rest) → n ≡ count → read_row bytes ≡ behind 9 (n ∷ []) (times count read_term rest)
unfolding read_row
row-behind bytes rest count n e p =
    rw p (then_read read_byte _ _ _ _ e ∙ behind-is 9 (count ∷ []) (times count read_term) (λ xs. in_room 9 (count ∷ xs)) rest (λ xs. refl))

pub reports_behind : (bytes rest : List ℕ) (count n : ℕ) → read_byte bytes ≡ Some (count, rest) → n ≡ count → n ≤ 8
    → read_reports bytes ≡ behind 401 (n ∷ []) (times count read_question rest)
unfolding read_reports
reports_behind bytes rest count n e p h =
    let few : leb count 8 ≡ true = grind (arith, nat_tests) in
    rw p
    (then_read read_byte _ _ _ _ e ∙ rw few (behind-is 401 (count ∷ []) (times count read_question) (λ xs. in_room 401 (count ∷ xs)) rest (λ xs. refl)))

-- more than eight reports are none
pub reports_many : (bytes rest : List ℕ) (count n : ℕ) → read_byte bytes ≡ Some (count, rest) → n ≡ count → 8 < n → read_reports bytes ≡ None
unfolding read_reports ◌>>=◌
reports_many bytes rest count n e p h = let many : leb count 8 ≡ false = grind (arith, nat_tests) in rw (e, many)

-- a room with its front written, and 0 behind
pub filling_start : (size at : ℕ) (front room : List ℕ) (todo : Option (List ℕ × List ℕ)) → length front ≡ at → at ≤ size
    → room ≡ front ++ replicate (size - at) 0 → Filling size at room todo (behind size front todo)
filling_start size at front room todo l h e =
    record {
      long = rw (e, length-append front (replicate (size - at) 0), length-replicate {A = ℕ} (size - at) 0) (omega arith);
      zeros = rw e (drop_at front (replicate (size - at) 0) at l);
      same = rw (e, take_at front (replicate (size - at) 0) at l);
    }

-- what is read of a question, behind its row and the count of its lines
pub question-behind : (bytes mid rest row front : List ℕ) (count : ℕ) → read_row bytes ≡ Some (row, mid) → read_byte mid ≡ Some (count, rest) → front ≡ row ++ count ∷ []
    → read_question bytes ≡ behind 50 front (times count read_line rest)
unfolding read_question
question-behind bytes mid rest row front count r e f =
    rw f
    (then_read read_row _ _ _ _ r ∙ then_read read_byte _ _ _ _ e
    ∙ behind-is 50 (row ++ count ∷ []) (times count read_line) (λ xs. in_room 50 (row ++ count ∷ xs)) rest (λ xs. rw (append_assoc row (count ∷ []) xs)))

-- a room of parts of one size, filled part by part
module _ {P : Type 0} (post : MutBor Reader → Option P → MutBor Reader → Type 0) (items : P → List ℕ) where
  -- so many parts are in the room, and the others are left to read
  abbrev pub PartsLeft : ℕ → ℕ → ℕ → List ℕ → List ℕ → List ℕ → Type 0
  PartsLeft size count i room bytes all =
      (n k : ℕ) → 0 < n → size ≡ n * k → HasSize post items n → (reads : Reads (List ℕ)) → ReadsBy post items reads
      → Filling size (n * i) room (times (count - i) reads bytes) (behind size [] (times count reads all))

  pub parts_short : (size count i : ℕ) (room all : List ℕ) (m m2 : MutBor Reader) (n k : ℕ) → PartsLeft size count i room (left m.now) all → i < count → post m None m2
      → 0 < n → size ≡ n * k → HasSize post items n → (reads : Reads (List ℕ)) → ReadsBy post items reads → behind size [] (times count reads all) ≡ None
  parts_short size count i room all m m2 n k f h p z e s reads r =
      filling-short size (n * i) count i room reads (left m.now) _ (f n k z e s reads r) h (r m m2 None p)

  pub parts_more : (size count i : ℕ) (room all : List ℕ) (m m2 : MutBor Reader) (p : P) → PartsLeft size count i room (left m.now) all → i < count → post m (Some p) m2
      → PartsLeft size count (i + 1) (kept (i * length (items p)) (items p) room) (left m2.now) all
  parts_more size count i room all m m2 p f h q n k z e s reads r =
      let l : length (items p) ≡ n = s m m2 (Some p) q in
      let at : i * length (items p) ≡ n * i = ap (λ j. i * j) l ∙ mul_comm i n in
      let next : n * i + n ≡ n * (i + 1) = omega (arith, mul-add n i 1) in
      rw at
      (filling-more size (n * i) (n * (i + 1)) count i room (items p) reads (left m.now) (left m2.now) _ (f n k z e s reads r) h (r m m2 (Some p) q) (omega (arith, l, next))
      (omega (arith, next)) (fits next))
    where
      fits : n * i + n ≡ n * (i + 1) → n * i < size → n * (i + 1) ≤ size
      fits next less = elim (leb_tells k i) [
        | inl a ↦ absurd (omega (arith, mul-le-mul_left n a.1, e))
        | inr a ↦ let b : i + 1 ≤ k = omega (arith, a.1) in omega (arith, mul-le-mul_left n b, e)
      ]

  pub parts_done : (size count i : ℕ) (room bytes all : List ℕ) (n k : ℕ) → PartsLeft size count i room bytes all → count ≤ i
      → 0 < n → size ≡ n * k → HasSize post items n → (reads : Reads (List ℕ)) → ReadsBy post items reads → behind size [] (times count reads all) ≡ Some (room, bytes)
  parts_done size count i room bytes all n k f h z e s reads r = filling_end size (n * i) count i room reads bytes _ (f n k z e s reads r) h

-- parts in a room of their own stand behind what is in front of it
in_front : (size total : ℕ) (front xs : List ℕ) → length front + size ≡ total → in_room total (front ++ xs) ≡ front ++ in_room size xs
in_front size total front xs e =
    let t : take total (front ++ xs) ≡ front ++ take size xs = rw (← e) (take_past (length front + size) front xs (omega arith) ∙ ap (λ k. front ++ take k xs) (omega arith)) in
    let l : total - length (front ++ take size xs) ≡ size - length (take size xs) = simp length-append (omega (arith, e)) in
    rw (t, l, append_assoc front (take size xs) (replicate (size - length (take size xs)) 0)) refl

pub front_whole : (size total : ℕ) (front room rest : List ℕ) (todo : Option (List ℕ × List ℕ)) → length front + size ≡ total
    → behind size [] todo ≡ Some (room, rest) → behind total front todo ≡ Some (front ++ room, rest)
front_whole size total front room rest (Some found) l e =
    let p : ◌≡◌ {A = List ℕ × List ℕ} (in_room size found.0, found.1) (room, rest) = cc e in
    ap Some (rw (in_front size total front found.0 l) (ap (λ (q : List ℕ × List ℕ). (front ++ q.0, q.1)) p))
front_whole size total front room rest None l e = absurd (let z : ◌≡◌ {A = ℕ} 0 1 = cc e in omega arith)

pub front-short : (size total : ℕ) (front : List ℕ) (todo : Option (List ℕ × List ℕ)) → behind size [] todo ≡ None → behind total front todo ≡ None
front-short size total front None e = refl
front-short size total front (Some found) e = absurd (let z : ◌≡◌ {A = ℕ} 0 1 = cc e in omega arith)

-- a question whose row and whose count of lines are written in front of its lines
pub question-whole : (row copy room rest : List ℕ) (count n : ℕ) (todo : Option (List ℕ × List ℕ)) → copy ≡ row → length copy ≡ 9 → n ≡ count
    → behind 40 [] todo ≡ Some (room, rest) → behind 50 (row ++ count ∷ []) todo ≡ Some (set (copy ++ 0 ∷ (room ++ [])) 9 n, rest)
question-whole row copy room rest count n todo e l p h =
    rw (append-nil room, set_at copy 0 room n 9 l, ← e, ← p)
    (front_whole 40 50 (copy ++ n ∷ []) room rest todo (omega (arith, l, length-append copy (n ∷ []))) h ∙ rw (append_assoc copy (n ∷ []) room) refl)

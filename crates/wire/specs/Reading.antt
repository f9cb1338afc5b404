-- What a call of a reader has read, and what it leaves. Assumes nothing: these are definitions.
use Rattle.std.specs.Prelude.{◌≡◌, ℕ, ◌+◌, cond, MatchOption, List, ◌++◌, length, take, drop, Some, None, Option, nat_le}
use denote.Ref.{MutBor}
use Rattle.std.specs.Option.{option_map}
use Rattle.wire.specs.Bytes.{Reads, in_room}
use Rattle.wire.specs.declared.reader.Reader.{Reader}

-- the bytes that are left to read
abbrev pub left : Reader → List ℕ
left r = r.rest.now

-- the value that was read, with the bytes behind it
abbrev pub reading : {A : Type 0} → Option A → List ℕ → Option (A × List ℕ)
reading (Some a) bytes = Some (a, bytes)
reading None bytes = None

-- a part at its place in the room, where it has one
abbrev pub kept : ℕ → List ℕ → List ℕ → List ℕ
kept at part room = cond (nat_le (at + length part) (length room)) (take at room ++ (part ++ drop (at + length part) room)) room

-- what is read stands behind the front, in room for so many
abbrev pub behind : ℕ → List ℕ → Option (List ℕ × List ℕ) → Option (List ℕ × List ℕ)
behind room front (Some found) = Some (in_room room (front ++ found.0), found.1)
behind room front None = None

-- each call of a reader's part reads so, and what it gives has so many numbers
abbrev pub ReadsBy : {P : Type 0} → (MutBor Reader → Option P → MutBor Reader → Type 0) → (P → List ℕ) → Reads (List ℕ) → Type 0
ReadsBy {P} post items reads = (r r2 : MutBor Reader) (o : Option P) → post r o r2 → reads (left r.now) ≡ reading (option_map items o) (left r2.now)

abbrev pub HasSize : {P : Type 0} → (MutBor Reader → Option P → MutBor Reader → Type 0) → (P → List ℕ) → ℕ → Type 0
HasSize {P} post items n = (r r2 : MutBor Reader) (o : Option P) → post r o r2 → MatchOption o (Unit {0}) (λ p. length (items p) ≡ n)

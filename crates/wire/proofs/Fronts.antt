-- A reader looks at no byte behind what it reads, and misses every byte that is cut off.
use Rattle.std.proofs.Common.{◌≡◌, ℕ, zero, suc, ◌-◌, ◌<◌, ◌≤◌, Bool, true, false, cond, leb, List, [], ◌∷◌, ◌++◌, length, take, Some, None, Option, sym, refl, ap, ◌∙◌, inl, inr, arith}
use Rattle.std.proofs.lemmas.List.{append_assoc, append-nil, take-append-le, length-append}
use Rattle.std.proofs.lemmas.Bool.Decides.{leb_tells}
use Rattle.wire.specs.Bytes.{Reads, gives, refuses, ◌>>=◌, times, read_byte, read_number, read_term, read_row, read_line, read_question, read_reports, read_request}
use Rattle.wire.specs.Laws.{OwnBytes, ReadsOwn}
use Rattle.wire.proofs.Steps.{then_read, then_short}

pub take_past : (k : ℕ) (xs ys : List ℕ) → length xs ≤ k → take k (xs ++ ys) ≡ xs ++ take (k - length xs) ys
take_past k [] ys h = let e : k - 0 ≡ k = omega arith in rw e
take_past zero (x ∷ xs) ys h = absurd (omega arith)
take_past (suc k) (x ∷ xs) ys h = let e : suc k - suc (length xs) ≡ k - length xs = omega arith in rw (e, take_past k xs ys (omega arith))

-- what was found, part by part
pub found-same : {A : Type 0} (a b : A) (xs ys : List ℕ) → ◌≡◌ {A = Option (A × List ℕ)} (Some (a, xs)) (Some (b, ys)) → (a ≡ b) × (xs ≡ ys)
found-same {A} a b xs ys e =
    let p : ◌≡◌ {A = A × List ℕ} (a, xs) (b, ys) = cc in
    (ap (λ (q : A × List ℕ). q.0) p, ap (λ (q : A × List ℕ). q.1) p)

pub not_none : {A : Type 0} (a : A) (xs : List ℕ) → ◌≡◌ {A = Option (A × List ℕ)} None (Some (a, xs)) → ⊥
not_none a xs e = let z : ◌≡◌ {A = ℕ} 0 1 = cc in omega arith

pub own-gives : {A : Type 0} (a : A) → ReadsOwn (gives a)
own-gives a bytes rest b e =
    let same = found-same a b bytes rest e in
    record { used = []; front = same.1; alone = λ more. rw same.0; short = λ k h. absurd (omega arith) }

pub own-refuses : {A : Type 0} → ReadsOwn (refuses {A = A})
own-refuses bytes rest a e = absurd (not_none a rest e)

pub own_byte : ReadsOwn read_byte
own_byte [] rest a e = absurd (not_none a rest e)
own_byte (b ∷ bytes) rest a e =
    let same = found-same b a bytes rest e in
    record { used = b ∷ []; front = rw same.1; alone = λ more. rw same.0; short = go }
  where
    go : (k : ℕ) → k < 1 → read_byte (take k (b ∷ [])) ≡ None
    go zero h = refl
    go (suc k) h = absurd (omega arith)

pub own_then : {A B : Type 0} (read : Reads A) (next : A → Reads B) → ReadsOwn read → ((a : A) → ReadsOwn (next a)) → ReadsOwn (◌>>=◌ read next)
unfolding ◌>>=◌
own_then {A} {B} read next f g bytes rest b e = go (read bytes) refl
  where
    after : (a : A) (mid : List ℕ) → OwnBytes read bytes mid a → OwnBytes (next a) mid rest b → OwnBytes (◌>>=◌ read next) bytes rest b
    after a mid u v =
        record {
          used = u.used ++ v.used;
          front = u.front ∙ ap (λ x. u.used ++ x) v.front ∙ sym (append_assoc u.used v.used rest);
          alone = λ more. rw (append_assoc u.used v.used more) (then_read read next _ _ a (u.alone (v.used ++ more)) ∙ v.alone more);
          short =
              λ k h.
              elim (leb_tells (length u.used) k) [
                | inl p ↦
                    rw (take_past k u.used v.used p.1)
                    (then_read read next _ _ a (u.alone (take (k - length u.used) v.used))
                    ∙ v.short (k - length u.used) (omega (arith, p.1, length-append u.used v.used)))
                | inr p ↦ rw (take-append-le k u.used v.used (omega (arith, p.1))) (then_short read next _ (u.short k p.1))
              ];
        }

    go : (o : Option (A × List ℕ)) → read bytes ≡ o → OwnBytes (◌>>=◌ read next) bytes rest b
    go (Some found) p = after found.0 found.1 (f bytes found.1 found.0 p) (g found.0 found.1 rest b (sym (then_read read next _ _ found.0 p) ∙ e))
    go None p = absurd (not_none b rest (sym (then_short read next bytes p) ∙ e))

pub own-times : (n : ℕ) (read : Reads (List ℕ)) → ReadsOwn read → ReadsOwn (times n read)
unfolding times
own-times zero read f = own-gives []
own-times (suc n) read f = own_then read _ f (λ first. own_then (times n read) _ (own-times n read f) (λ others. own-gives (first ++ others)))

-- each part of a request
pub own-number : ReadsOwn read_number
unfolding read_number
own-number = own_then read_byte _ own_byte (λ a. own_then read_byte _ own_byte (λ b. own_then read_byte _ own_byte (λ c. own_then read_byte _ own_byte (λ d. own-gives _))))

pub own-term : ReadsOwn read_term
unfolding read_term
own-term = own_then read_byte _ own_byte (λ kind. own_then read_number _ own-number (λ n. own-gives _))

pub own_row : ReadsOwn read_row
unfolding read_row
own_row = own_then read_byte _ own_byte (λ count. own_then (times count read_term) _ (own-times count read_term own-term) (λ terms. own-gives _))

pub own_line : ReadsOwn read_line
unfolding read_line
own_line = own_then read_number _ own-number (λ table. own_then read_row _ own_row (λ cells. own-gives _))

pub own-question : ReadsOwn read_question
unfolding read_question
own-question =
    own_then read_row _ own_row
    (λ row. own_then read_byte _ own_byte (λ count. own_then (times count read_line) _ (own-times count read_line own_line) (λ lines. own-gives _)))

-- a reader that refuses at once, or reads
pub own_either : {A : Type 0} (test : Bool) (read : Reads A) → ReadsOwn read → ReadsOwn (cond test read refuses)
own_either true read f = f
own_either false read f = own-refuses

pub own_reports : ReadsOwn read_reports
unfolding read_reports
own_reports =
    own_then read_byte _ own_byte
    (λ count. own_then (cond (leb count 8) (times count read_question) refuses) _
    (own_either (leb count 8) (times count read_question) (own-times count read_question own-question)) (λ all. own-gives _))

pub own_request : ReadsOwn read_request
unfolding read_request
own_request = own_then read_reports _ own_reports (λ given. own_then read_question _ own-question (λ asked. own-gives _))

-- a whole that was read, cut short
pub front-none : {A : Type 0} (read : Reads A) (bytes : List ℕ) (a : A) (k : ℕ) → ReadsOwn read → read bytes ≡ Some (a, []) → k < length bytes
    → read (take k bytes) ≡ None
front-none read bytes a k f e h =
    let own = f bytes [] a e in
    let all : bytes ≡ own.used = own.front ∙ append-nil own.used in
    rw all (own.short k (omega (arith, ap length all)))

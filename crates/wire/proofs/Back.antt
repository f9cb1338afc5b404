-- What is written in bytes is read back as the lent numbers have it.
use Rattle.std.proofs.Common.{◌≡◌, ℕ, suc, ◌+◌, ◌-◌, ◌*◌, ◌/◌, ◌%◌, ◌<◌, ◌≤◌, true, leb, List, [], ◌∷◌, ◌++◌, length, replicate, Some, refl, ap, ◌∙◌, mod-eq_of_lt, arith}
use native.Mathlib.Nat.{div-div-eq-div-mul, mod-add-div'}
use Rattle.std.proofs.lemmas.List.{append_assoc, take_all, length-append}
use Rattle.std.proofs.lemmas.Bool.Decides.{nat_tests}
use Rattle.question.specs.declared.terms.Term.{Term}
use Rattle.question.specs.declared.terms.Term.TheVariants.{Number, Variable}
use Rattle.question.specs.Question.{Line, Question, In}
use Rattle.question.specs.Question.In.{here, there}
use Rattle.question.specs.Layout.{padded, terms_out, line_out, lines_out, question_out}
use Rattle.question.specs.Reports.{questions_out, reports_out}
use Rattle.question.specs.Laws.{HasRoom}
use Rattle.question.proofs.Writing.{length-padded, length-terms_out}
use Rattle.question.proofs.Back.{length-lines, length-questions_out}
use Rattle.wire.specs.Bytes.{Reads, ◌>>=◌, times, in_room, read_byte, read_number, read_term, read_row, read_line, read_question, read_reports, read_request}
use Rattle.wire.specs.Written.{number_bytes, term_bytes, terms_bytes, row_bytes, line_bytes, lines_bytes, question_bytes, questions_bytes, request_bytes, SmallTerm, SmallRow, SmallLine, Small}
use Rattle.wire.specs.Laws.{ReadsBack}
use Rattle.wire.proofs.Steps.{then_read}

-- a number from its four digits
sum_of : (n a b c d e f : ℕ) → d + a * 256 ≡ n → e + b * 256 ≡ a → f + c * 256 ≡ b → d + e * 256 + f * 65536 + c * 16777216 ≡ n
sum_of n a b c d e f p q r = omega arith

pub digits : (n : ℕ) → n < 4294967296 → n % 256 + n / 256 % 256 * 256 + n / 65536 % 256 * 65536 + n / 16777216 % 256 * 16777216 ≡ n
digits n h =
    let second : n / 256 / 256 ≡ n / 65536 = div-div-eq-div-mul n 256 256 in
    let third : n / 65536 / 256 ≡ n / 16777216 = div-div-eq-div-mul n 65536 256 in
    let last : n / 16777216 % 256 ≡ n / 16777216 = mod-eq_of_lt (omega arith) in
    rw last
    (sum_of n (n / 256) (n / 65536) (n / 16777216) (n % 256) (n / 256 % 256) (n / 65536 % 256) (mod-add-div' n 256) (rw (← second) (mod-add-div' (n / 256) 256))
    (rw (← third) (mod-add-div' (n / 65536) 256)))

pub number-back : (n : ℕ) (more : List ℕ) → n < 4294967296 → read_number (number_bytes n ++ more) ≡ Some (n, more)
unfolding read_number number_bytes ◌>>=◌
number-back n more h = rw (digits n h)

-- numbers that fit their room
pub room_fits : (n : ℕ) (xs : List ℕ) → length xs ≤ n → in_room n xs ≡ padded n xs
room_fits n xs h = rw (take_all n xs h)

-- one part, and the others after it
pub times_suc : (n : ℕ) (read : Reads (List ℕ)) (bytes mid rest first others : List ℕ) → read bytes ≡ Some (first, mid) → times n read mid ≡ Some (others, rest)
    → times (suc n) read bytes ≡ Some (first ++ others, rest)
unfolding times
times_suc n read bytes mid rest first others e f = then_read read _ _ _ _ e ∙ then_read (times n read) _ _ _ _ f

pub term-back : (t : Term) (more : List ℕ) → SmallTerm t → (first : List ℕ) × ((ts : List Term) → terms_out (t ∷ ts) ≡ first ++ terms_out ts) × (read_term (term_bytes t ++ more) ≡ Some (first, more))
unfolding read_term term_bytes terms_out
term-back (Number n) more h = (0 ∷ n ∷ [], (λ ts. refl), then_read read_byte _ (0 ∷ number_bytes n ++ more) _ 0 refl ∙ then_read read_number _ _ _ _ (number-back n more h))
term-back (Variable x) more h = (1 ∷ x ∷ [], (λ ts. refl), then_read read_byte _ (1 ∷ number_bytes x ++ more) _ 1 refl ∙ then_read read_number _ _ _ _ (number-back x more h))

pub terms_back : (ts : List Term) (more : List ℕ) → ((t : Term) → In t ts → SmallTerm t) → times (length ts) read_term (terms_bytes ts ++ more) ≡ Some (terms_out ts, more)
unfolding times terms_bytes terms_out
terms_back [] more h = refl
terms_back (t ∷ ts) more h =
    let b = term-back t (terms_bytes ts ++ more) (h t here) in
    rw (b.1 ts, append_assoc (term_bytes t) (terms_bytes ts) more)
    (times_suc (length ts) read_term _ _ _ _ _ b.2 (terms_back ts more (λ s m. h s (there m))))

-- a row of at most four terms
pub row_back : (ts : List Term) (more : List ℕ) → SmallRow ts → read_row (row_bytes ts ++ more) ≡ Some (length ts ∷ padded 8 (terms_out ts), more)
unfolding read_row row_bytes
row_back ts more h =
    let e = length-terms_out ts in
    let r : in_room 9 (length ts ∷ terms_out ts) ≡ length ts ∷ padded 8 (terms_out ts) =
    room_fits 9 (length ts ∷ terms_out ts) (omega (arith, h.few)) ∙ ap (λ n. length ts ∷ (terms_out ts ++ replicate n 0)) (omega arith) in
    then_read read_byte _ (length ts ∷ (terms_bytes ts ++ more)) _ (length ts) refl ∙ then_read (times (length ts) read_term) _ _ _ _ (terms_back ts more h.each) ∙ rw r

pub line-back : (l : Line) (more : List ℕ) → SmallLine l → read_line (line_bytes l ++ more) ≡ Some (line_out l, more)
unfolding read_line line_bytes line_out
line-back l more h =
    rw (append_assoc (number_bytes l.table) (row_bytes l.cells) more)
    (then_read read_number _ _ _ _ (number-back l.table (row_bytes l.cells ++ more) h.table) ∙ then_read read_row _ _ _ _ (row_back l.cells more h.cells))

pub lines-back : (ls : List Line) (more : List ℕ) → ((l : Line) → In l ls → SmallLine l) → times (length ls) read_line (lines_bytes ls ++ more) ≡ Some (lines_out ls, more)
unfolding times lines_bytes lines_out
lines-back [] more h = refl
lines-back (l ∷ ls) more h =
    rw (append_assoc (line_bytes l) (lines_bytes ls) more)
    (times_suc (length ls) read_line _ _ _ _ _ (line-back l (lines_bytes ls ++ more) (h l here)) (lines-back ls more (λ s m. h s (there m))))

-- a question of at most four lines
pub length-row : (ts : List Term) → length ts ≤ 4 → length (length ts ∷ padded 8 (terms_out ts)) ≡ 9
length-row ts h = let e = length-padded 8 (terms_out ts) (omega (arith, length-terms_out ts)) in omega arith

pub question-room : (row lines : List ℕ) (n : ℕ) → length row ≡ 9 → length lines ≤ 40 → in_room 50 (row ++ n ∷ lines) ≡ row ++ n ∷ padded 40 lines
question-room row lines n r h =
    let e : length (row ++ n ∷ lines) ≡ 10 + length lines = length-append row (n ∷ lines) ∙ omega arith in
    let z : 50 - (10 + length lines) ≡ 40 - length lines = omega arith in
    room_fits 50 (row ++ n ∷ lines) (omega arith) ∙ rw (e, z, append_assoc row (n ∷ lines) (replicate (40 - length lines) 0))

pub question-back : (q : Question) (more : List ℕ) → Small q → read_question (question_bytes q ++ more) ≡ Some (question_out q, more)
unfolding read_question question_bytes question_out
question-back q more h =
    let e = length-lines q.lines (λ l i. (h.each l i).cells.few) in
    let r = question-room (length q.row ∷ padded 8 (terms_out q.row)) (lines_out q.lines) (length q.lines) (length-row q.row h.row.few) (omega (arith, h.few)) in
    rw (append_assoc (row_bytes q.row) (length q.lines ∷ lines_bytes q.lines) more)
    (then_read read_row _ _ _ _ (row_back q.row (length q.lines ∷ (lines_bytes q.lines ++ more)) h.row)
    ∙ then_read read_byte _ (length q.lines ∷ (lines_bytes q.lines ++ more)) _ (length q.lines) refl
    ∙ then_read (times (length q.lines) read_line) _ _ _ _ (lines-back q.lines more h.each) ∙ ap (λ xs. Some (xs, more)) r)

pub questions_back : (qs : List Question) (more : List ℕ) → ((q : Question) → In q qs → Small q)
    → times (length qs) read_question (questions_bytes qs ++ more) ≡ Some (questions_out qs, more)
unfolding times questions_bytes questions_out
questions_back [] more h = refl
questions_back (q ∷ qs) more h =
    rw (append_assoc (question_bytes q) (questions_bytes qs) more)
    (times_suc (length qs) read_question _ _ _ _ _ (question-back q (questions_bytes qs ++ more) (h q here)) (questions_back qs more (λ s m. h s (there m))))

-- what is small has room
pub has_room : (q : Question) → Small q → HasRoom q
has_room q h = record { row = h.row.few; lines = h.few; cells = λ l i. (h.each l i).cells.few }

-- the reports of a request, at most eight, and its question
pub reports_back : (rs : List Question) (more : List ℕ) → length rs ≤ 8 → ((r : Question) → In r rs → Small r)
    → read_reports (length rs ∷ (questions_bytes rs ++ more)) ≡ Some (reports_out rs, more)
unfolding read_reports reports_out
reports_back rs more few h =
    let e = length-questions_out rs (λ r i. has_room r (h r i)) in
    let test : leb (length rs) 8 ≡ true = grind (arith, nat_tests) in
    let r : in_room 401 (length rs ∷ questions_out rs) ≡ padded 401 (length rs ∷ questions_out rs) = room_fits 401 (length rs ∷ questions_out rs) (omega arith) in
    then_read read_byte _ (length rs ∷ (questions_bytes rs ++ more)) _ (length rs) refl
    ∙ rw test (then_read (times (length rs) read_question) _ _ _ _ (questions_back rs more h) ∙ ap (λ xs. Some (xs, more)) r)

pub request_back : ReadsBack
unfolding read_request request_bytes
request_back rs q more few h k =
    rw (append_assoc (questions_bytes rs) (question_bytes q) more)
    (then_read read_reports _ _ _ _ (reports_back rs (question_bytes q ++ more) few h) ∙ then_read read_question _ _ _ _ (question-back q more k))

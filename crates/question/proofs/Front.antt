-- A list that is written from its front: what is written so far, and the rest as it was.
use Rattle.std.proofs.Common.{◌≡◌, ℕ, suc, ◌+◌, ◌<◌, List, [], ◌∷◌, ◌++◌, length, get_or, take, drop, set, sym, refl, ap, ◌∙◌, arith}
use borrow.Rule.Slice.PartMut.{put_mid}
use Rattle.std.proofs.lemmas.List.{append_assoc, take_at, drop_at, drop-drop, set_at, drop_more, take_more, length-take-le}
use Rattle.question.specs.declared.terms.Term.{Term}
use Rattle.question.specs.Question.{Value, Row, at, all_at}

pub front-put : (n k m : ℕ) (f out ys : List ℕ) → length f ≡ n → n + k ≡ m → put_mid n k (f ++ drop n out) ys ≡ (f ++ ys) ++ drop m out
front-put n k m f out ys e p = rw (take_at f (drop n out) n e, drop_at f (drop n out) n e, drop-drop k n out, p, append_assoc f ys (drop m out))

pub front_set : (n : ℕ) (f out : List ℕ) (v : ℕ) → length f ≡ n → n < length out → set (f ++ drop n out) n v ≡ (f ++ v ∷ []) ++ drop (n + 1) out
front_set n f out v e h = rw (drop_more out n 0 h, set_at f (get_or out n 0) (drop (n + 1) out) v n e, append_assoc f (v ∷ []) (drop (n + 1) out))

-- the row that terms are, one term more
pub length-all_at : (v : Value) (ts : List Term) → length (all_at v ts) ≡ length ts
unfolding all_at
length-all_at v [] = refl
length-all_at v (t ∷ ts) = ap suc (length-all_at v ts)

pub all_at-append : (v : Value) (ts us : List Term) → all_at v (ts ++ us) ≡ all_at v ts ++ all_at v us
unfolding all_at
all_at-append v [] us = refl
all_at-append v (t ∷ ts) us = ap {B = Row} (λ r. at v t ∷ r) (all_at-append v ts us)

pub row_more : (v : Value) (i : ℕ) (ts : List Term) (t : Term) (out : List ℕ) → drop i ts ≡ t ∷ drop (i + 1) ts → i < length ts → i < length out
    → set (all_at v (take i ts) ++ drop i out) i (at v t) ≡ all_at v (take (i + 1) ts) ++ drop (i + 1) out
unfolding all_at
row_more v i ts t out e h k =
    let l : length (all_at v (take i ts)) ≡ i = length-all_at v (take i ts) ∙ length-take-le i ts (omega arith) in
    let g : get_or ts i t ≡ t = cc (drop_more ts i t h, e) in
    let m : all_at v (take (i + 1) ts) ≡ all_at v (take i ts) ++ at v t ∷ [] = ap (all_at v) (take_more ts i t h ∙ ap (λ (u : Term). take i ts ++ u ∷ []) g) ∙ all_at-append v (take i ts) (t ∷ []) in
    front_set i (all_at v (take i ts)) out (at v t) l k ∙ ap (λ (r : List ℕ). r ++ drop (i + 1) out) (sym m)

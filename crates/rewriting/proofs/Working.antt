-- The questions worked out, computed.
use Rattle.std.proofs.Common.{◌≡◌, ℕ, zero, suc, ◌<◌, Bool, true, cond, ◌&&◌, ltb, List, [], ◌∷◌, Option, refl, ap, subst, arith, ltb-true, ne_eqb}
use Rattle.std.proofs.lemmas.Bool.{and_parts}
use Rattle.question.specs.declared.terms.Term.TheVariants.{Variable}
use Rattle.question.specs.Question.{Line, Question, Row, Base, all_at, In, Stand, Answers, Within}
use Rattle.question.specs.Sound.{has, vars, line_vars, all_in, sound}
use Rattle.question.specs.Layout.{terms_out}
use Rattle.question.proofs.Members.{vars-used}
use Rattle.containment.specs.Reading.{all_put, line_put, put_lines}
use Rattle.containment.specs.Search.{term_eqb, match_var, match_term, match_terms, match_line, try_lines, read_lines, first_reading, can_read, fill}
use Rattle.containment.specs.Order.{nums_less}
use Rattle.containment.specs.OwnTables.{rows_of, own_tables, question_vars, numbers, line_numbers, question_numbers, over, free_within, free_from, name_past, rank, naming}
use Rattle.containment.proofs.Readings.{reads-within}
use Rattle.containment.proofs.Searching.{can_read-reads}
use Rattle.containment.proofs.Exactly.{within_exact}
use Rattle.minimization.specs.Choices.{choices, first_right, by_size}
use Rattle.minimization.specs.Least.{says_same, least}
use Rattle.reports.specs.Reports.{all_sound}
use Rattle.reports.specs.Expand.{assign, expand_lines, expand, Below, Narrow}
use Rattle.reports.specs.Widest.{all_lines, all_readings, all_uses, line_nums, line_less, insert_line, sort_lines, widest}
use Rattle.rewriting.specs.Found.{Found, will_do, choose, find}
use Rattle.rewriting.specs.Examples.{line, ask, three, Worked, fourth, found_of, Holds, AllHold, holders, one_holder, Fourth}
use Rattle.rewriting.proofs.Finding.{find-right}

-- opens all that computes
unfoldable makes : Question → List Line × Option Question
unfolding all_put line_put put_lines assign expand_lines expand term_eqb match_var match_term match_terms match_line try_lines read_lines first_reading can_read choices first_right by_size will_do choose find fill all_lines all_readings all_uses terms_out line_nums nums_less line_less insert_line sort_lines widest
makes q = ((widest three q).lines, find three 16 16 q)

-- every variable is below n, as a test
unfoldable low : ℕ → List ℕ → Bool
low n [] = true
low n (x ∷ xs) = ltb x n && low n xs

low_in : (n : ℕ) (xs : List ℕ) → low n xs ≡ true → (x : ℕ) → In x xs → x < n
unfolding low
low_in n [] e x m = elim m [ ]
low_in n (y ∷ xs) e x In.here = ltb-true _ _ (and_parts _ _ e).0
low_in n (y ∷ xs) e x (In.there m) = low_in n xs (and_parts _ _ e).1 x m

low_below : (n : ℕ) (ls : List Line) → low n (line_vars ls) ≡ true → Below n ls
low_below n ls e l a x m = low_in n (line_vars ls) e x (vars-used a m)

three-narrow : Narrow 16 three
unfolding low line_vars vars
three-narrow r In.here = low_below 16 r.lines refl
three-narrow r (In.there In.here) = low_below 16 r.lines refl
three-narrow r (In.there (In.there In.here)) = low_below 16 r.lines refl
three-narrow r (In.there (In.there (In.there i))) = elim i [ ]

holds : (w : Worked) → sound w.question ≡ true → low 16 (line_vars w.question.lines) ≡ true → (widest three w.question).lines ≡ w.wide → find three 16 16 w.question ≡ found_of w.question w.uses → Holds w
unfolding all_sound sound has all_in vars line_vars
holds w sq lo e f =
    record { wide = e; finds = f; right = subst (λ (o : Option Question). Found three w.question o) f (find-right three w.question 16 16 refl sq three-narrow (low_below 16 w.question.lines lo)) }

pub all_hold : AllHold
unfolding makes low sound has all_in vars line_vars
all_hold w In.here = holds w refl refl refl refl
all_hold w (In.there In.here) = holds w refl refl refl refl
all_hold w (In.there (In.there In.here)) = holds w refl refl refl refl
all_hold w (In.there (In.there (In.there In.here))) = holds w refl refl refl refl
all_hold w (In.there (In.there (In.there (In.there In.here)))) = holds w refl refl refl refl
all_hold w (In.there (In.there (In.there (In.there (In.there In.here))))) = holds w refl refl refl refl
all_hold w (In.there (In.there (In.there (In.there (In.there (In.there i)))))) = elim i [ ]

-- the fourth
first-stand : {b : Base} {v : ℕ → ℕ} {l : Line} {ls : List Line} → Stand b v (l ∷ ls) → In (all_at v l.cells) (b l.table)
first-stand (Stand.and_line i s) = i

no_berth : Answers one_holder fourth (1 ∷ []) → ⊥
no_berth a = elim (first-stand a.stand) [ ]

holder : Answers one_holder holders (1 ∷ [])
unfolding all_at
holder = record { value = λ x. cond (ltb 0 x) 2 1; stand = Stand.and_line In.here Stand.none_left; is = refl }

own : (t : ℕ) → own_tables (naming holders fourth) holders t ≡ one_holder t
unfolding own_tables rows_of all_at naming name_past rank question_vars question_numbers numbers line_numbers over free_within free_from vars line_vars has
own zero = refl
own (suc zero) = refl
own (suc (suc t)) = ap (λ (b : Bool). cond {A = List Row} b ((1 ∷ 2 ∷ []) ∷ []) []) (ne_eqb 1 (suc (suc t)) (λ e. omega arith))

own_named : all_at (naming holders fourth) holders.row ≡ 1 ∷ []
unfolding all_at naming name_past rank question_vars question_numbers numbers line_numbers over free_within free_from vars line_vars has
own_named = refl

fourth-least : least fourth ≡ ask (Variable 0 ∷ []) (line 0 (Variable 0 ∷ Variable 1 ∷ []) ∷ line 1 (Variable 0 ∷ Variable 3 ∷ []) ∷ [])
unfolding makes least says_same
fourth-least = refl

fourth-reads : can_read holders fourth ≡ true
unfolding makes
fourth-reads = refl

not_in_fourth : Within holders fourth → ⊥
unfolding Within
not_in_fourth w = no_berth (w one_holder (1 ∷ []) holder)

pub the_fourth : Fourth
the_fourth =
    record {
      least_form = fourth-least;
      lies_within = reads-within holders fourth (can_read-reads holders fourth fourth-reads);
      own_rows = own;
      own_row = own_named;
      holder_answers = holder;
      fourth_does_not = no_berth;
      shown = (within_exact holders fourth).1 (λ r. not_in_fourth (reads-within fourth holders r));
      not_within = not_in_fourth;
    }

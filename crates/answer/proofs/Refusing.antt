-- How the question and the tables are turned away: which refusals there are.
use Rattle.std.proofs.Common.{◌≡◌, ℕ, Bool, true, false, cond, ltb, List, length, get_or, drop, Some, None, Option, refl, subst}
use Rattle.std.specs.Option.{option_or, option_map}
use Rattle.question.specs.declared.refusals.Refusal.{Refusal}
use Rattle.question.specs.declared.refusals.Refusal.TheVariants.{CutShort, NoQuestion, NoReport, NoRoomForQuestion, TooWide, NoRoomForRow, TableTooLarge, NoRoomForTables, NoMemory}
use Rattle.question.specs.Check.{fault, cut_short, question_refusal}
use Rattle.answer.specs.TableCheck.{tables_whole, table_fault, tables_short, tables_refusal}
use Rattle.answer.specs.Answered.{answer_refusal, RefusedFor}

-- refusals that are told before anything is answered
abbrev Early : Refusal → Type 0
Early (CutShort n) = Unit {0}
Early (NoQuestion n) = Unit {0}
Early (TableTooLarge n) = Unit {0}
Early (NoReport n) = ⊥
Early (NoRoomForQuestion n) = ⊥
Early TooWide = ⊥
Early (NoRoomForRow n) = ⊥
Early (NoRoomForTables n) = ⊥
Early NoMemory = ⊥

abbrev EarlyIf : Option Refusal → Type 0
EarlyIf None = Unit {0}
EarlyIf (Some e) = Early e

early_all : (short : Bool) (n : ℕ) (whole : Bool) (m : ℕ) (line table : Option ℕ)
    → EarlyIf (option_or (cond short (Some (CutShort n)) None) (option_or (cond whole None (Some (CutShort m)))
    (option_or (cond short (Some (CutShort n)) (option_map NoQuestion line)) (option_or (cond whole None (Some (CutShort m))) (option_map TableTooLarge table)))))
early_all true n whole m line table = tt
early_all false n false m line table = tt
early_all false n true m (Some i) table = tt
early_all false n true m None (Some i) = tt
early_all false n true m None None = tt

early : (question tables : List ℕ) → EarlyIf (answer_refusal question tables)
unfolding answer_refusal question_refusal tables_refusal
early question tables = early_all (ltb (length question) 50) (length question) (tables_whole tables) (length tables) (fault question) (table_fault (get_or tables 0 0) 0 (drop 1 tables))

turned_away : (question tables before : List ℕ) (e : Refusal) → Early e → answer_refusal question tables ≡ Some e → RefusedFor question tables before before e
turned_away question tables before (CutShort n) x h = (h, refl)
turned_away question tables before (NoQuestion n) x h = (h, refl)
turned_away question tables before (TableTooLarge n) x h = (h, refl)
turned_away question tables before (NoReport n) x h = absurd x
turned_away question tables before (NoRoomForQuestion n) x h = absurd x
turned_away question tables before TooWide x h = absurd x
turned_away question tables before (NoRoomForRow n) x h = absurd x
turned_away question tables before (NoRoomForTables n) x h = absurd x
turned_away question tables before NoMemory x h = absurd x

-- what the check tells is what is meant by it
pub refused : (question tables before : List ℕ) (e : Refusal) → answer_refusal question tables ≡ Some e → RefusedFor question tables before before e
refused question tables before e h = turned_away question tables before e (subst EarlyIf h (early question tables)) h

-- which check turns away, of those that are made one after another
module _ (question tables : List ℕ) (long : cut_short question ≡ None) where
  pub by_short : (e : Refusal) → tables_short tables ≡ Some e → answer_refusal question tables ≡ Some e
  unfolding answer_refusal
  by_short e h = rw (long, h) refl

  pub by_question : (e : Refusal) → tables_short tables ≡ None → question_refusal question ≡ Some e → answer_refusal question tables ≡ Some e
  unfolding answer_refusal
  by_question e s h = rw (long, s, h) refl

  pub by_tables : (r : Option Refusal) → tables_short tables ≡ None → question_refusal question ≡ None → tables_refusal tables ≡ r → answer_refusal question tables ≡ r
  unfolding answer_refusal
  by_tables r s q h = rw (long, s, q) h

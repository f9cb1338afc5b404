-- An answer told as two numbers. Assumes nothing: these are definitions.
use Rattle.std.specs.Prelude.{◌≡◌, ℕ, List, [], ◌∷◌, Result}
use Rattle.question.specs.declared.refusals.Refusal.{Refusal}
use Rattle.answer.specs.Answered.{number_of, values_of, Meant}

-- the two numbers tell an answer that is meant
pub record ToldOf (question tables before out : List ℕ) (number value : ℕ) : Type 0 where
  pub said : Result ℕ Refusal
  pub meant : Meant question tables before out said
  pub as_number : number ≡ number_of said
  pub as_value : (value ∷ []) ≡ values_of said

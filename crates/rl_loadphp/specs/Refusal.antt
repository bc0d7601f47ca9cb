-- Why there is no answer to a query. Want of memory is none of these.
use Rattle.std.specs.Prelude.{ℕ, Option, Some, None}
use Rattle.rl_loadphp.specs.declared.answers.AnswerError.{AnswerError}
use Rattle.rl_loadphp.specs.declared.answers.AnswerError.TheVariants as errors

pub data Refusal : Type 0 where
  QueryTooLong : (len : ℕ) → Refusal
  TooManyNames : (count : ℕ) → Refusal
  AnswerTooLong : (len : ℕ) → Refusal

-- the refusal that an error tells
abbrev pub refusal_told : AnswerError → Option Refusal
refusal_told (errors.QueryTooLong len) = Some (QueryTooLong len)
refusal_told (errors.TooManyNames count) = Some (TooManyNames count)
refusal_told (errors.AnswerTooLong len) = Some (AnswerTooLong len)
refusal_told errors.NoMemory = None

-- How a step is spelt: the line of a script that says it, without its end.
use Rattle.std.specs.Prelude.{◌≡◌, ℕ, ◌<◌, ◌^◌, ◌∷◌, [], List, IsUtf8, false, codes, map, Some, Ok, ⊤}
use Rattle.serde_json.specs.Data.{Data, unsigned, boolean, number, string}
use Rattle.serde_json.specs.Written.{compact_text}
use Rattle.rl_view_spec.specs.Closure.{Text}
use Rattle.rl_wire.specs.Payload.{array_of}
use Rattle.rl_steps.specs.Grammar.{user_of}
use Rattle.rl_steps.specs.Script.{is_embedded, script_of}
use Rattle.rl_steps.specs.declared.script.Kinds.TheVariants.{All}
use Rattle.rl_steps.specs.declared.step.Step.{Step}
use Rattle.rl_steps.specs.declared.step.Step.TheVariants.{Edit, Choice, Clock, View, Using, Load, Take, Serve, Deliver, Lose, Close, Embed}
use Rattle.rl_steps.specs.declared.step.TheConstants as limits

abbrev pub texts_value : List Text → Data
texts_value texts = array_of (map string texts)

abbrev pub whole_value : ℕ → Data
whole_value whole = number (unsigned whole)

-- the word of a step and its members
abbrev pub values_of : Step → List Data
values_of (Edit by title base text) = string (codes "edit") ∷ string by ∷ string title ∷ whole_value base ∷ string text ∷ []
values_of (Choice user key value) = string (codes "option") ∷ string user ∷ string key ∷ string value ∷ []
values_of (Clock now) = string (codes "clock") ∷ whole_value now ∷ []
values_of (View user lang skin debug features) =
    string (codes "view") ∷ string user ∷ string lang ∷ string skin ∷ boolean debug ∷ texts_value features ∷ []
values_of (Using names) = string (codes "using") ∷ texts_value names ∷ []
values_of (Load names) = string (codes "load") ∷ texts_value names ∷ []
values_of Take = string (codes "take") ∷ []
values_of (Serve ask) = string (codes "serve") ∷ whole_value ask ∷ []
values_of (Deliver wire) = string (codes "deliver") ∷ whole_value wire ∷ []
values_of (Lose ask) = string (codes "lose") ∷ whole_value ask ∷ []
values_of Close = string (codes "close") ∷ []
values_of (Embed text) = string (codes "embed") ∷ string text ∷ []

-- JSON without blanks
abbrev pub step_text : Step → Text
step_text step = compact_text (array_of (values_of step))

-- ---- what is written is read

-- a user as the rule of user names spells the name, or nobody
abbrev pub IsUser : Text → Type 0
IsUser user = user_of user ≡ Some user

-- its users are as the rule of user names spells them, and a clock is below its end
abbrev pub IsSpelt : Step → Type 0
IsSpelt (Edit by title base text) = IsUser by
IsSpelt (Choice user key value) = IsUser user
IsSpelt (Clock now) = now < limits.CLOCK_END
IsSpelt (View user lang skin debug features) = IsUser user
IsSpelt other = ⊤

-- its numbers are as large as a step has room for
abbrev pub IsSized : Step → Type 0
IsSized (Edit by title base text) = base < 2 ^ 64
IsSized (Serve ask) = ask < 2 ^ 32
IsSized (Deliver wire) = wire < 2 ^ 32
IsSized (Lose ask) = ask < 2 ^ 32
IsSized other = ⊤

-- the line of a step which is no embedded text is read as that step alone
abbrev pub StepsReadBack : Type 0
StepsReadBack =
    (step : Step) → is_embedded step ≡ false → IsSpelt step → IsSized step → IsUtf8 (step_text step)
    → script_of All (step_text step) ≡ Ok (step ∷ [])

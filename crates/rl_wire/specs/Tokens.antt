-- JSON values as the tokens that a writer is given, for clauses of private functions.
use Rattle.std.specs.Prelude.{◌≡◌, List, [], ◌∷◌, ◌++◌, flat_map, Bool, if◌then◌else◌, Option, Some, None, Result, OnOk}
use Rattle.json.specs.Token.{Token}
use Rattle.json.specs.Tree.{json_tokens}
use Rattle.json.specs.Written.{Written}
use Rattle.serde_json.specs.Data.{Data}
use Rattle.serde_json.specs.Written.{outline}

abbrev pub value_tokens : Data → List Token
value_tokens d = json_tokens (outline d)

abbrev pub values_tokens : List Data → List Token
values_tokens ds = flat_map value_tokens ds

-- where it succeeds, the writer goes on by these tokens
abbrev pub Adds : {E : Type 0} → Result (Unit {0}) E → Written → Written → List Token → Type 0
Adds result old new tokens = OnOk result ((new.before ≡ old.before) × (new.tokens ≡ old.tokens ++ tokens))

-- what stands for a field before others: itself, and where it is empty a blank if others follow
abbrev pub field_before : Data → Option Data → Bool → List Data
field_before blank (Some field) follows = field ∷ []
field_before blank None follows = if follows then blank ∷ [] else []

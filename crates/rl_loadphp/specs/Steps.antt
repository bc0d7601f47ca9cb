-- What one name adds to a body and to the versions, for clauses of private functions.
use Rattle.std.specs.Prelude.{ℕ, List, [], ◌∷◌}
use Rattle.std.specs.Option.{option_map_or}
use Rattle.rl_wire.specs.Line.{line, part_text}
use Rattle.rl_build.specs.declared.context.Context.{Context}
use Rattle.rl_build.specs.declared.payloads.Payload.{Payload}
use Rattle.rl_build.specs.Sight.{Sight}
use Rattle.rl_build.specs.Payload.{payload_of, version_of}
use Rattle.rl_loadphp.specs.Body.{built}

-- what is made of a name's payload, and nothing where it has none
abbrev pub made_of : {X : Type 0} → (Payload → List X) → Sight → Context → List ℕ → List X
made_of make s ctx name = option_map_or make (payload_of s ctx name) []

abbrev pub line_of : Sight → Context → List ℕ → List ℕ
line_of s ctx name = made_of (λ (p : Payload). line (part_text (built name p))) s ctx name

abbrev pub version_in : Sight → Context → List ℕ → List (List ℕ)
version_in s ctx name = made_of (λ (p : Payload). version_of p ∷ []) s ctx name

abbrev pub script_of : Sight → Context → List ℕ → List ℕ
script_of s ctx name = made_of (λ (p : Payload). p.script) s ctx name

abbrev pub styles_of : Sight → Context → List ℕ → List ℕ
styles_of s ctx name = made_of (λ (p : Payload). p.styles) s ctx name

-- The text that goes with a viewer's page itself: what the private modules bring, which no query is answered with.
use Rattle.std.specs.Prelude.{◌≡◌, ℕ, Bool, false, List, filter, bytes_eq, codes, Ok}
use Rattle.std.specs.List.{AllByRecursion}
use Rattle.std.specs.Option.{option_map_or}
use Rattle.rl_wire.specs.declared.part.Part.{Part}
use Rattle.rl_wire.specs.Line.{wire_text, IsPart}
use Rattle.rl_wire.specs.Reading.{answer_of as parts_said}
use Rattle.rl_build.specs.declared.context.Context.{Context}
use Rattle.rl_build.specs.declared.sheets.Sheet.{Sheet}
use Rattle.rl_build.specs.Sight.{Sight}
use Rattle.rl_build.specs.Sheet.{all_names, sheet_of}
use Rattle.rl_loadphp.specs.Body.{implementations}

abbrev pub is_private : Sight → Context → List ℕ → Bool
is_private s ctx name = option_map_or (λ (sheet : Sheet). bytes_eq sheet.group (codes "private")) (sheet_of s ctx name) false

-- in byte order
abbrev pub private_names : Sight → Context → List (List ℕ)
private_names s ctx = filter (is_private s ctx) (all_names s)

abbrev pub embed_of : Sight → Context → List ℕ
embed_of s ctx = wire_text (implementations s ctx (private_names s ctx))

-- a reader gets lawful parts of it: it is their text, and no other parts have it
abbrev pub IsOfParts : List ℕ → Type 0
IsOfParts text = (parts : List Part) × AllByRecursion IsPart parts × (text ≡ wire_text parts) × (parts_said text ≡ Ok parts)

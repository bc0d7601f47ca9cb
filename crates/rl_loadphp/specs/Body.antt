-- What is sent for served names and for missing ones.
use Rattle.std.specs.Prelude.{ℕ, List, ◌++◌, map, flat_map, Option, option_map, codes}
use Rattle.std.specs.List.{filter_map}
use Rattle.rl_names.specs.declared.kind.StateKind.TheVariants.{Missing}
use Rattle.rl_names.specs.declared.query.Only.{Only}
use Rattle.rl_names.specs.declared.query.Only.TheVariants.{All, Scripts, Styles}
use Rattle.rl_wire.specs.declared.part.Part.{Part}
use Rattle.rl_wire.specs.declared.part.Part.TheVariants.{Impl, State}
use Rattle.rl_wire.specs.Line.{line, state_text, wire_text}
use Rattle.rl_build.specs.declared.context.Context.{Context}
use Rattle.rl_build.specs.declared.payloads.Payload.{Payload}
use Rattle.rl_build.specs.Sight.{Sight}
use Rattle.rl_build.specs.Payload.{payload_of, version_of}
use Rattle.rl_loadphp.specs.Served.{payloads}

-- the implementation of a name by what it brings
abbrev pub built : List ℕ → Payload → Part
built name p = Impl name (version_of p) p.script p.styles p.messages

abbrev pub implementation_of : Sight → Context → List ℕ → Option Part
implementation_of s ctx name = option_map (built name) (payload_of s ctx name)

abbrev pub implementations : Sight → Context → List (List ℕ) → List Part
implementations s ctx names = filter_map (implementation_of s ctx) names

abbrev pub missing_part : List ℕ → Part
missing_part name = State name Missing

-- the lines that give each name the state of this word
abbrev pub states_text : List ℕ → List (List ℕ) → List ℕ
states_text word names = flat_map (λ name. line (state_text name word)) names

abbrev pub scripts_text : Sight → Context → List (List ℕ) → List ℕ
scripts_text s ctx names = flat_map (λ (p : Payload). p.script) (payloads s ctx names)

abbrev pub styles_text : Sight → Context → List (List ℕ) → List ℕ
styles_text s ctx names = flat_map (λ (p : Payload). p.styles) (payloads s ctx names)

-- what is said of each name: implementations of those served, and the state of all others
abbrev pub parts_of : Sight → Context → List (List ℕ) → List (List ℕ) → List Part
parts_of s ctx served missing = implementations s ctx served ++ map missing_part missing

-- Implementations stand before states, each in the order asked. Scripts alone are followed by the line `ready` of each
-- module that is served; styles alone by nothing.
abbrev pub body_of : Sight → Context → Only → List (List ℕ) → List (List ℕ) → List ℕ
body_of s ctx All served missing = wire_text (parts_of s ctx served missing)
body_of s ctx Scripts served missing = scripts_text s ctx served ++ (states_text (codes "ready") served ++ states_text (codes "missing") missing)
body_of s ctx Styles served missing = styles_text s ctx served

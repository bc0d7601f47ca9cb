-- Answers, computed on the definitions.
use Rattle.std.proofs.Common.{◌≡◌, [], ◌∷◌, ◌++◌, refl, Some, None}
use Rattle.std.specs.Prelude.{codes, Ok, Err}
use Rattle.std.specs.Str.{is_utf8, chars}
use lib.Utf8.{encode}
use Rattle.serde_json.proofs.OnLiterals.{serde_json_on_literals}
use Rattle.rl_names.specs.declared.kind.StateKind.TheVariants.{Missing}
use Rattle.rl_wire.specs.Line.{line}
use Rattle.rl_wire.specs.Reading.{part_in, answer_of}
use Rattle.rl_wire.specs.declared.part.Part.TheVariants.{Impl, State}

nothing : answer_of [] ≡ Ok []
nothing = refl

good : part_in (codes "mw.loader.state({\"zz\":\"missing\"});") ≡ Some (State (codes "zz") Missing)
unfolding is_utf8 chars encode serde_json_on_literals
good = refl

blank : part_in (codes "mw.loader.state({\"zz\": \"missing\"});") ≡ None
unfolding is_utf8 chars encode serde_json_on_literals
blank = refl

blank_line : answer_of (line (codes "mw.loader.state({\"zz\": \"missing\"});")) ≡ Err 1
unfolding is_utf8 chars encode serde_json_on_literals
blank_line = refl

no_end : answer_of (line (codes "mw.loader.state({\"zz\":\"missing\"});") ++ codes "mw.loader.implement(\"a@aaaaa\",\"a()\",{},{});") ≡ Err 2
unfolding is_utf8 chars encode serde_json_on_literals
no_end = refl

two : answer_of (line (codes "mw.loader.state({\"zz\":\"missing\"});") ++ line (codes "mw.loader.implement(\"a@aaaaa\",\"a()\",{},{});"))
    ≡ Ok (State (codes "zz") Missing ∷ Impl (codes "a") (codes "aaaaa") (codes "a()") [] [] ∷ [])
unfolding is_utf8 chars encode serde_json_on_literals
two = refl

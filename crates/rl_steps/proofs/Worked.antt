-- Lines and scripts of steps, computed on the definitions.
use Rattle.std.proofs.Common.{◌≡◌, [], ◌∷◌, ◌++◌, refl, false, true, Some, None, Ok, Err}
use Rattle.std.specs.Prelude.{codes}
use Rattle.std.specs.Fmt.{digits}
use Rattle.std.specs.Str.{is_utf8, chars}
use Rattle.serde_json.proofs.OnLiterals.{serde_json_on_literals}
use lib.Utf8.{encode}
use Rattle.json.specs.Print.{escape_byte}
use Rattle.rl_view_spec.specs.Closure.{Text}
use Rattle.rl_script_spec.specs.Output.{line}
use Rattle.rl_script.specs.declared.script.ScriptError.TheVariants.{BadLine}
use Rattle.rl_steps.specs.Grammar.{step_of}
use Rattle.rl_steps.specs.Script.{script_of}
use Rattle.rl_steps.specs.Spelling.{step_text}
use Rattle.rl_steps.specs.declared.script.Kinds.TheVariants.{All, Race, Pages, Page}
use Rattle.rl_steps.specs.declared.step.Step.TheVariants.{Edit, Choice, Clock, View, Using, Lose, Embed}

-- ---- lines

-- a user is kept as the rule of user names spells the name
an_edit : step_of (codes "[\"edit\",\"_Ann__Lee\",\"User:Ann Lee/common.js\",2,\"f()\"]")
    ≡ Some (Edit (codes "Ann Lee") (codes "User:Ann Lee/common.js") 2 (codes "f()"))
unfolding serde_json_on_literals is_utf8 chars encode
an_edit = refl

nobody : step_of (codes "[ \"option\", \"\", \"skin\", \"x\" ]") ≡ Some (Choice [] (codes "skin") (codes "x"))
unfolding serde_json_on_literals
nobody = refl

no_user : step_of (codes "[\"option\",\"a/b\",\"skin\",\"x\"]") ≡ None
unfolding serde_json_on_literals is_utf8 chars encode
no_user = refl

last_moment : step_of (codes "[\"clock\",999999999999999999]") ≡ Some (Clock 999999999999999999)
unfolding serde_json_on_literals
last_moment = refl

no_moment : step_of (codes "[\"clock\",1000000000000000000]") ≡ None
unfolding serde_json_on_literals
no_moment = refl

no_ask : step_of (codes "[\"serve\",4294967296]") ≡ None
unfolding serde_json_on_literals
no_ask = refl

-- ---- scripts

abbrev a_view : Text
a_view = line (codes "[\"view\",\"\",\"en\",\"vector\",false,[]]")

abbrev an_embed : Text
an_embed = line (codes "[\"embed\",\"x\"]")

abbrev a_request : Text
a_request = line (codes "[\"using\",[\"a\"]]")

a_plan : script_of Page (a_view ++ an_embed ++ a_request)
    ≡ Ok (View [] (codes "en") (codes "vector") false [] ∷ Embed (codes "x") ∷ Using (codes "a" ∷ []) ∷ [])
unfolding serde_json_on_literals is_utf8 chars encode
a_plan = refl

embedded_late : script_of Page (a_view ++ a_request ++ an_embed) ≡ Err (BadLine 3 3)
unfolding serde_json_on_literals is_utf8 chars encode
embedded_late = refl

no_plan : script_of Page (line (codes "# nothing")) ≡ Err (BadLine 0 3)
unfolding is_utf8 chars encode
no_plan = refl

embedded_in_a_session : script_of All (a_view ++ an_embed) ≡ Err (BadLine 2 2)
unfolding serde_json_on_literals is_utf8 chars encode
embedded_in_a_session = refl

a_view_of_pages : script_of Pages a_view ≡ Err (BadLine 1 2)
unfolding serde_json_on_literals is_utf8 chars encode
a_view_of_pages = refl

not_text : script_of Race (91 ∷ 255 ∷ []) ≡ Err (BadLine 0 4)
unfolding is_utf8 chars encode
not_text = refl

-- ---- spelling

spelt_view : step_text (View (codes "Ann") (codes "en") (codes "vector") true (codes "es6" ∷ []))
    ≡ codes "[\"view\",\"Ann\",\"en\",\"vector\",true,[\"es6\"]]"
unfolding escape_byte
spelt_view = refl

spelt_loss : step_text (Lose 10) ≡ codes "[\"lose\",10]"
unfolding digits escape_byte
spelt_loss = refl

-- A session, computed on the definitions.
use Rattle.std.proofs.Common.{◌≡◌, List, [], ◌∷◌, ◌++◌, true, false, refl, None}
use Rattle.std.specs.Prelude.{codes, reverse}
use Rattle.std.specs.Fmt.{digits}
use Rattle.std.specs.Str.{is_utf8, chars}
use lib.Utf8.{encode}
use Rattle.form_urlencoded.specs.Form.{byte_serialize}
use Rattle.percent_encoding.specs.Percent.{percent_encode_byte}
use Rattle.serde_json.proofs.OnLiterals.{serde_json_on_literals}
use Rattle.form_urlencoded.proofs.OnLiterals.{form_urlencoded_on_literals}
use Rattle.std.specs.Str.Lossy.{utf8_lossy, utf8_valid_len}
use Rattle.rl_names.specs.Hash.{hash_5, version_of_hash}
use Rattle.rl_defs.specs.Catalogue.{Catalogue}
use Rattle.rl_defs.specs.declared.language.Language.{Language}
use Rattle.rl_defs.specs.declared.module_def.ModuleDef.{ModuleDef}
use Rattle.rl_build.specs.BuiltIn.{built_ins}
use Rattle.rl_startup.specs.Registry.{all_rows, start_of}
use Rattle.rl_view_spec.specs.Closure.{Text}
use Rattle.rl_view_spec.specs.Keys.{never}
use Rattle.rl_script_spec.specs.Output.{line}
use Rattle.rl_steps.specs.declared.step.Step.{Step}
use Rattle.rl_steps.specs.declared.step.Step.TheVariants.{Edit, Choice, Clock, View, Using, Load, Take, Serve, Deliver, Lose, Close, Embed}
use Rattle.rl_stage_spec.specs.Replay.{all_ready, output_of, printed_of}

abbrev language : Text → List Text → Language
language code fallback = record { code = code; fallback = fallback; rtl = false }

abbrev a_module : Text → Text → List Text → ModuleDef
a_module name group scripts = record {
  name = name;
  scripts = scripts;
  debug_scripts = [];
  styles = [];
  language_scripts = [];
  skin_scripts = [];
  skin_styles = [];
  rtl = [];
  dependencies = [];
  messages = [];
  group = group;
  source = codes "local";
  skip = None;
}

abbrev tiny : Catalogue
tiny = record {
  admins = codes "Root" ∷ [];
  skins = codes "vector" ∷ [];
  languages = language (codes "de") [] ∷ language (codes "de-at") (codes "de" ∷ []) ∷ language (codes "en") [] ∷ [];
  limit = 2000;
  store_version = 1;
  files = record { name = codes "a.js"; text = codes "a()" } ∷ record { name = codes "b.js"; text = codes "b()" } ∷ [];
  modules =
      a_module (codes "a") [] (codes "a.js" ∷ []) ∷ a_module (codes "b") (codes "late") (codes "b.js" ∷ [])
      ∷ a_module (codes "m") [] [] ∷ a_module (codes "p") (codes "private") (codes "a.js" ∷ []) ∷ [];
}

-- ---- a page is edited between take and serve: what was served runs and is stored, under the version that was served

abbrev version_one : Text
version_one = hash_5 (codes "[\"one()\\n\",{},{}]")

abbrev version_two : Text
version_two = hash_5 (codes "[\"two()\\n\",{},{}]")

abbrev version_none : Text
version_none = hash_5 (codes "[\"\",{},{}]")

abbrev edited_between : List Step
edited_between = reverse (
    Edit (codes "Root") (codes "MediaWiki:Common.js") 0 (codes "one()")
    ∷ View (codes "Ann") (codes "en") (codes "vector") false []
    ∷ Using (codes "site" ∷ []) ∷ Take ∷ Take
    ∷ Edit (codes "Root") (codes "MediaWiki:Common.js") 1 (codes "two()")
    ∷ Serve 0 ∷ Serve 1 ∷ Deliver 0 ∷ Deliver 1 ∷ Close ∷ [])

edit_between_take_and_serve :
    output_of never tiny edited_between
    ≡ line (codes "revision 1") ++ line (codes "view 0 rows 9") ++ line (codes "using ok")
    ++ line (codes "ask 0 local lang=en&modules=site&skin=vector&version=" ++ hash_5 version_one)
    ++ line (codes "ask 1 local lang=en&modules=site.styles&skin=vector&version=" ++ hash_5 version_none)
    ++ line (codes "revision 2") ++ line (codes "wire 0") ++ line (codes "wire 1")
    ++ line (codes "took 1 passed 0") ++ line (codes "took 1 passed 0")
    ++ line (codes "ran site.styles@" ++ version_none ++ codes " 0") ++ line (codes "ran site@" ++ version_two ++ codes " 6")
    ++ line (codes "closed") ++ line (codes "summary") ++ line (codes "view 0")
    ++ line (codes "ready site@" ++ version_two) ++ line (codes "ready site.styles@" ++ version_none)
    ++ line (codes "executed site@" ++ version_two ++ codes " 6") ++ line (codes "executed site.styles@" ++ version_none ++ codes " 0")
    ++ line (codes "store site.styles@" ++ version_none) ++ line (codes "store site@" ++ version_two)
unfolding version_of_hash digits byte_serialize percent_encode_byte is_utf8 chars encode serde_json_on_literals
    form_urlencoded_on_literals utf8_lossy utf8_valid_len start_of all_rows built_ins
edit_between_take_and_serve = refl

-- ---- an answer that comes twice counts once, and an ask that is lost three times is given up

abbrev version_a : Text
version_a = hash_5 (codes "[\"a()\\n\",{},{}]")

abbrev version_b : Text
version_b = hash_5 (codes "[\"b()\\n\",{},{}]")

abbrev ask_b : Text → Text
ask_b number = line (codes "ask " ++ number ++ codes " local lang=en&modules=b&skin=vector&version=" ++ hash_5 version_b)

abbrev lost : List Step
lost = reverse (
    View [] (codes "en") (codes "vector") false [] ∷ Using (codes "a" ∷ codes "b" ∷ []) ∷ Take ∷ Serve 0 ∷ Deliver 0 ∷ Deliver 0
    ∷ Take ∷ Serve 1 ∷ Lose 1 ∷ Take ∷ Lose 2 ∷ Take ∷ Lose 3 ∷ Deliver 1 ∷ [])

repeat_and_give_up :
    output_of never tiny lost
    ≡ line (codes "view 0 rows 9") ++ line (codes "using ok")
    ++ line (codes "ask 0 local lang=en&modules=a&skin=vector&version=" ++ hash_5 version_a) ++ line (codes "wire 0")
    ++ line (codes "took 1 passed 0") ++ line (codes "ran a@" ++ version_a ++ codes " 4") ++ line (codes "took 0 passed 1")
    ++ ask_b (codes "1") ++ line (codes "wire 1") ++ line (codes "again 1") ++ ask_b (codes "2") ++ line (codes "again 2") ++ ask_b (codes "3")
    ++ line (codes "given up") ++ line (codes "took 0 passed 1")
    ++ line (codes "summary") ++ line (codes "view 0") ++ line (codes "ready a@" ++ version_a) ++ line (codes "error b@" ++ version_b)
    ++ line (codes "executed a@" ++ version_a ++ codes " 4") ++ line (codes "store a@" ++ version_a)
unfolding version_of_hash digits byte_serialize percent_encode_byte is_utf8 chars encode serde_json_on_literals
    form_urlencoded_on_literals utf8_lossy utf8_valid_len start_of all_rows built_ins
repeat_and_give_up = refl

not_all_ready : all_ready never tiny lost ≡ false
unfolding version_of_hash digits byte_serialize percent_encode_byte is_utf8 chars encode serde_json_on_literals
    form_urlencoded_on_literals utf8_lossy utf8_valid_len start_of all_rows built_ins
not_all_ready = refl

-- ---- two users, one store: what is everybody's is taken from the store, and what is a user's own is asked for

abbrev site_version : Text
site_version = hash_5 (codes "[\"s()\\n\",{},{}]")

abbrev version_of_ann : Text
version_of_ann = hash_5 (codes "[\"ann()\\n\",{},{}]")

abbrev version_of_ben : Text
version_of_ben = hash_5 (codes "[\"ben()\\n\",{},{}]")

abbrev uses : Text → List Step
uses user = View user (codes "en") (codes "vector") false [] ∷ Using (codes "site" ∷ codes "user" ∷ []) ∷ []

abbrev two_users : List Step
two_users = reverse (
    Edit (codes "Root") (codes "MediaWiki:Common.js") 0 (codes "s()") ∷ Edit (codes "Ann") (codes "User:Ann/common.js") 0 (codes "ann()")
    ∷ Edit (codes "Ben") (codes "User:Ben/common.js") 0 (codes "ben()") ∷ []
    ++ uses (codes "Ann") ++ Take ∷ Take ∷ Take ∷ Serve 0 ∷ Serve 1 ∷ Serve 2 ∷ Deliver 0 ∷ Deliver 1 ∷ Deliver 2 ∷ []
    ++ uses (codes "Ben") ++ Take ∷ Take ∷ Serve 3 ∷ Deliver 3 ∷ Deliver 0 ∷ [])

abbrev told_of : Text → Text → Text
told_of number version =
    line (codes "view " ++ number) ++ line (codes "ready site@" ++ site_version) ++ line (codes "ready site.styles@" ++ version_none)
    ++ line (codes "ready user@" ++ version) ++ line (codes "executed site@" ++ site_version ++ codes " 4")
    ++ line (codes "executed site.styles@" ++ version_none ++ codes " 0") ++ line (codes "executed user@" ++ version ++ codes " 6")
    ++ line (codes "store site.styles@" ++ version_none) ++ line (codes "store site@" ++ site_version)

two_users_one_store :
    output_of never tiny two_users
    ≡ line (codes "revision 1") ++ line (codes "revision 2") ++ line (codes "revision 3") ++ line (codes "view 0 rows 9") ++ line (codes "using ok")
    ++ line (codes "ask 0 local lang=en&modules=site&skin=vector&version=" ++ hash_5 site_version)
    ++ line (codes "ask 1 local lang=en&modules=user&skin=vector&user=Ann&version=" ++ hash_5 version_of_ann)
    ++ line (codes "ask 2 local lang=en&modules=site.styles&skin=vector&version=" ++ hash_5 version_none)
    ++ line (codes "wire 0") ++ line (codes "wire 1") ++ line (codes "wire 2") ++ line (codes "took 1 passed 0")
    ++ line (codes "took 1 passed 0") ++ line (codes "ran user@" ++ version_of_ann ++ codes " 6") ++ line (codes "took 1 passed 0")
    ++ line (codes "ran site.styles@" ++ version_none ++ codes " 0") ++ line (codes "ran site@" ++ site_version ++ codes " 4")
    ++ line (codes "view 1 rows 9") ++ line (codes "using ok")
    ++ line (codes "ran site.styles@" ++ version_none ++ codes " 0") ++ line (codes "ran site@" ++ site_version ++ codes " 4")
    ++ line (codes "ask 3 local lang=en&modules=user&skin=vector&user=Ben&version=" ++ hash_5 version_of_ben) ++ line (codes "take none")
    ++ line (codes "wire 3") ++ line (codes "took 1 passed 0") ++ line (codes "ran user@" ++ version_of_ben ++ codes " 6")
    ++ line (codes "took 0 passed 1")
    ++ line (codes "summary") ++ told_of (codes "0") version_of_ann ++ told_of (codes "1") version_of_ben
unfolding version_of_hash digits byte_serialize percent_encode_byte is_utf8 chars encode serde_json_on_literals
    form_urlencoded_on_literals utf8_lossy utf8_valid_len start_of all_rows built_ins
two_users_one_store = refl

two_users_ready : all_ready never tiny two_users ≡ true
unfolding version_of_hash digits byte_serialize percent_encode_byte is_utf8 chars encode serde_json_on_literals
    form_urlencoded_on_literals utf8_lossy utf8_valid_len start_of all_rows built_ins
two_users_ready = refl

-- ---- steps without what they speak of, and steps of a view that was closed

abbrev missing_things : List Step
missing_things = reverse (
    Take ∷ Close ∷ Using (codes "a" ∷ []) ∷ Lose 0 ∷ Serve 0 ∷ Deliver 0 ∷ Embed [] ∷ Clock 10
    ∷ Edit [] (codes "Talk") 0 [] ∷ Edit (codes "Ann") (codes "a|b") 0 [] ∷ Edit (codes "Root") (codes "Talk") 5 []
    ∷ Choice [] (codes "key") [] ∷ Choice (codes "Ann") [] [] ∷ Choice (codes "Ann") (codes "key") (codes "value")
    ∷ View (codes "Ann") (codes "en") (codes "vector") false [] ∷ Load (codes "a" ∷ codes "zz" ∷ codes "a" ∷ []) ∷ Using (codes "zz" ∷ []) ∷ Take ∷ Serve 0
    ∷ Close ∷ Lose 0 ∷ Deliver 0
    ∷ View (codes "Ann") (codes "en") (codes "vector") false [] ∷ Lose 0 ∷ Using (codes "a" ∷ []) ∷ Take ∷ Lose 1 ∷ Lose 1 ∷ Take ∷ Serve 2 ∷ Deliver 1
    ∷ Lose 2 ∷ Lose 1 ∷ Serve 1 ∷ [])

abbrev ask_a : Text → Text
ask_a number = line (codes "ask " ++ number ++ codes " local lang=en&modules=a&skin=vector&version=" ++ hash_5 version_a)

what_is_missing_is_told :
    printed_of never tiny missing_things
    ≡ line (codes "no view") ++ line (codes "no view") ++ line (codes "no view") ++ line (codes "no ask") ++ line (codes "no ask")
    ++ line (codes "no wire") ++ line (codes "no view") ++ line (codes "clock 10")
    ++ line (codes "refused policy") ++ line (codes "refused title") ++ line (codes "refused conflict 0")
    ++ line (codes "refused policy") ++ line (codes "refused key") ++ line (codes "revision 1")
    ++ line (codes "view 0 rows 9") ++ line (codes "load dropped 1") ++ line (codes "using unknown zz") ++ ask_a (codes "0") ++ line (codes "wire 0")
    ++ line (codes "closed") ++ line (codes "no view") ++ line (codes "took 0 passed 1")
    ++ line (codes "view 1 rows 9") ++ line (codes "settled") ++ line (codes "using ok") ++ ask_a (codes "1") ++ line (codes "again 1")
    ++ line (codes "lost before") ++ ask_a (codes "2") ++ line (codes "wire 1") ++ line (codes "took 1 passed 0")
    ++ line (codes "ran a@" ++ version_a ++ codes " 4") ++ line (codes "settled") ++ line (codes "settled") ++ line (codes "wire 2")
unfolding version_of_hash digits byte_serialize percent_encode_byte is_utf8 chars encode serde_json_on_literals
    form_urlencoded_on_literals utf8_lossy utf8_valid_len start_of all_rows built_ins
what_is_missing_is_told = refl

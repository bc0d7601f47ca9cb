-- What a module brings to a page: a script, styles and messages.
use Rattle.std.specs.Prelude.{ℕ, List, [], ◌++◌, flat_map, codes, Option, option_map, IsTrue, IsUtf8}
use Rattle.std.specs.Option.{option_map_or, option_or}
use Rattle.serde_json.specs.Written.{compact_text}
use Rattle.rl_names.specs.declared.part.Message.{Message}
use Rattle.rl_names.specs.Hash.{hash_5}
use Rattle.rl_names.specs.Name.{is_name}
use Rattle.rl_names.specs.Packing.{distinct}
use Rattle.rl_wire.specs.Line.{line, AreTexts}
use Rattle.rl_wire.specs.Message.{AreAscending, messages_value}
use Rattle.rl_wire.specs.Payload.{payload_text}
use Rattle.rl_defs.specs.Catalogue.{Catalogue, file_of, module_named}
use Rattle.rl_defs.specs.declared.module_def.ModuleDef.{ModuleDef}
use Rattle.rl_pages.specs.Seen.{Shown, options_in}
use Rattle.rl_build.specs.declared.built_in.BuiltIn.{BuiltIn}
use Rattle.rl_build.specs.declared.built_in.BuiltIn.TheVariants.{Site, SiteStyles, User, UserOptions, UserStyles}
use Rattle.rl_build.specs.declared.context.Context.{Context}
use Rattle.rl_build.specs.declared.payloads.Payload.{Payload}
use Rattle.rl_build.specs.BuiltIn.{built_in_named}
use Rattle.rl_build.specs.Page.{own_pages, pages_joined, site_pages}
use Rattle.rl_build.specs.Sight.{Sight}

-- the text of a file and a line end behind it; a file that is not there gives nothing
abbrev pub file_lines : Catalogue → List ℕ → List ℕ
file_lines c file = option_map_or line (file_of c file) []

-- the texts of these files in order, each file once, at its first place
abbrev pub joined : Catalogue → List (List ℕ) → List ℕ
joined c files = flat_map (file_lines c) (distinct files)

-- definitions say nothing of styles and messages yet
abbrev pub payload_of_module : Catalogue → ModuleDef → Payload
payload_of_module c m = record { script = joined c m.scripts; styles = []; messages = [] }

-- the call that sets these options, which are a JSON object
abbrev pub options_script : List Message → List ℕ
options_script options = codes "mw.user.options.set(" ++ (compact_text (messages_value options) ++ codes ");\n")

-- the script of a built-in module, made of what is shown to the viewer
abbrev pub built_in_script : Shown → Context → BuiltIn → List ℕ
built_in_script s ctx Site = pages_joined s (site_pages ctx.skin)
built_in_script s ctx SiteStyles = []
built_in_script s ctx User = pages_joined s (own_pages s.viewer ctx.skin)
built_in_script s ctx UserOptions = options_script (options_in s)
built_in_script s ctx UserStyles = []

-- no styles are taken of pages yet, and built-in modules have no messages
abbrev pub payload_of_built_in : Shown → Context → BuiltIn → Payload
payload_of_built_in s ctx b = record { script = built_in_script s ctx b; styles = []; messages = [] }

-- what a name brings, where it has a sheet
abbrev pub payload_of : Sight → Context → List ℕ → Option Payload
payload_of s ctx name =
    option_or (option_map (payload_of_built_in s.history ctx) (built_in_named name))
    (option_map (payload_of_module s.catalogue) (module_named s.catalogue name))

-- what holds of a name and of what it brings: the name is one, the texts are UTF-8, and the messages are in order
abbrev pub IsBrought : List ℕ → Payload → Type 0
IsBrought name p = IsTrue (is_name name) × IsUtf8 p.script × IsUtf8 p.styles × AreTexts p.messages × AreAscending p.messages

-- all that a module brings, as one text
abbrev pub text_of : Payload → List ℕ
text_of p = payload_text p.script p.styles p.messages

-- the hash of that text
abbrev pub version_of : Payload → List ℕ
version_of p = hash_5 (text_of p)

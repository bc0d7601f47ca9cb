-- Lines and their faults, computed on the definitions.
use Rattle.std.proofs.Common.{◌≡◌, ℕ, List, [], ◌∷◌, ◌++◌, refl, Option, Some, None, replicate}
use Rattle.std.specs.Prelude.{codes, filter_map}
use Rattle.serde_json.proofs.OnLiterals.{serde_json_on_literals}
use Rattle.serde_json.specs.Data.{Data}
use Rattle.serde_json.specs.Find.{as_array}
use Rattle.serde_json.specs.Read.{read}
use Rattle.rl_names.specs.declared.kind.StateKind.TheVariants as kinds
use Rattle.rl_names.specs.declared.row.Dep.TheVariants.{Named}
use Rattle.rl_names.specs.declared.row.Group.TheVariants.{Plain, User, Private, Other}
use Rattle.rl_names.specs.declared.rule.Rule.TheVariants as rules
use Rattle.rl_view_spec.specs.Closure.{Text}
use Rattle.rl_script_spec.specs.Grammar.{◌>>=◌, members_of, row_line, features_line, state_line, line_of}
use Rattle.rl_script_spec.specs.Output.{line}
use Rattle.rl_script_spec.specs.Script.{Bad, TooManySteps, cut, trimmed, lines_of, first_fault}
use Rattle.rl_script_spec.specs.declared.Line.{Line}
use Rattle.rl_script_spec.specs.declared.Line.TheVariants.{Registers, HasFeatures, Does, Faulty}
use Rattle.rl_script_spec.specs.declared.Step.TheVariants.{Using, Load, Impl, State}

-- ---- lines

cut_at_line_feeds : cut (codes "a\nb\n\nc") ≡ codes "a" ∷ codes "b" ∷ [] ∷ codes "c" ∷ []
cut_at_line_feeds = refl

one_return : trimmed (codes "a" ++ 13 ∷ 13 ∷ []) ≡ codes "a" ++ 13 ∷ []
one_return = refl

abbrev good : Text
good = codes "[\"using\",[\"A\"]]"

-- empty lines, a lone carriage return and comments say nothing, and are counted
ignored_lines :
    lines_of (line [] ++ line (13 ∷ []) ++ line (codes "# [\"take\"]") ++ line (good ++ 13 ∷ []) ++ codes "[ \"using\" , [\t\"A\" ] ]") ≡
    (4, Does (Using (codes "A" ∷ []))) ∷ (5, Does (Using (codes "A" ∷ []))) ∷ []
unfolding serde_json_on_literals
ignored_lines = refl

-- blanks alone, a '#' after a blank, and a carriage return inside a text
faulty_lines : lines_of (line (codes " ") ++ line (codes " # x") ++ line (codes "[\"us" ++ 13 ∷ codes "ing\",[]]")) ≡ (1, Faulty) ∷ (2, Faulty)
    ∷ (3, Faulty) ∷ []
unfolding serde_json_on_literals
faulty_lines = refl

-- ---- the words that are taken

two_members : line_of (codes "[\"row\",\"p\",\"aaaaa\"]") ≡ Registers
    (record { name = codes "p"; version = Some (codes "aaaaa"); deps = []; group = Plain; source = []; skip = None })
unfolding serde_json_on_literals
two_members = refl

three_members :
    line_of (codes "[\"row\",\"p\",\"aaaaa\",[\"q\",\"a b\"]]") ≡
    Registers (record {
      name = codes "p";
      version = Some (codes "aaaaa");
      deps = Named (codes "q") ∷ Named (codes "a b")
          ∷ [];
      group = Plain;
      source = [];
      skip = None;
    })
unfolding serde_json_on_literals
three_members = refl

null_dependencies : line_of (codes "[\"row\",\"p\",\"aaaaa\",null]") ≡ Faulty
unfolding serde_json_on_literals
null_dependencies = refl

other_word : line_of (codes "[\"take\"]") ≡ Faulty
unfolding serde_json_on_literals
other_word = refl

key_at_last : line_of (codes "[\"impl\",\"a@b@ccccc\",\"x\"]") ≡ Does (Impl (record { name = codes "a@b"; version = codes "ccccc" }) (codes "x"))
unfolding serde_json_on_literals
key_at_last = refl

bad_key : line_of (codes "[\"impl\",\"a@cccc\",\"x\"]") ≡ Faulty
unfolding serde_json_on_literals
bad_key = refl

-- ---- the members of rows, features and states

-- what the members of a JSON array say by one of the readings
abbrev by : (List Data → Option Line) → Text → Option Line
by reading text = read text >>= as_array >>= λ items. reading (members_of items)

private_row :
    by row_line (codes "[\"p\",null,[],1,null,\"f\"]") ≡
    Some (Registers (record { name = codes "p"; version = None; deps = []; group = Private; source = []; skip = Some (codes "f") }))
unfolding serde_json_on_literals
private_row = refl

grouped_row :
    by row_line (codes "[\"p\",\"aaaaa\",[],4294967295,\"\",\"\"]") ≡
    Some (Registers (record { name = codes "p"; version = Some (codes "aaaaa"); deps = []; group = Other 4294967295; source = []; skip = Some [] }))
unfolding serde_json_on_literals
grouped_row = refl

user_row :
    by row_line (codes "[\"p\",\"aaaaa\",[],0,\"sister\"]") ≡
    Some (Registers (record { name = codes "p"; version = Some (codes "aaaaa"); deps = []; group = User; source = codes "sister"; skip = None }))
unfolding serde_json_on_literals
user_row = refl

-- a version in the private group, none in another, a group that is no whole number below 2^32, and a member too many
bad_rows :
    filter_map (by row_line)
    (codes "[\"p\",\"aaaaa\",[],1]" ∷ codes "[\"p\",null,[],2]" ∷ codes "[\"p\"]" ∷ codes "[\"p\",\"aaaaa\",[],2.0]"
    ∷ codes "[\"p\",\"aaaaa\",[],4294967296]"
    ∷ codes "[\"p\",\"aaaaa\",[],-1]" ∷ codes "[\"p\",\"aaaaa\",[],null,null,null,null]" ∷ []) ≡ []
unfolding serde_json_on_literals
bad_rows = refl

features_said : by features_line (codes "[[\"promise\",\"es6\"]]") ≡ Some (HasFeatures (codes "promise" ∷ codes "es6" ∷ []))
unfolding serde_json_on_literals
features_said = refl

states_said : filter_map (by state_line) (codes "[\"p\",\"missing\"]" ∷ codes "[\"\",\"error\"]" ∷ codes "[\"p\",\"ready\"]" ∷ [])
    ≡ Does (State (codes "p") kinds.Missing) ∷ Does (State [] kinds.Error) ∷ []
unfolding serde_json_on_literals
states_said = refl

-- ---- faults

row_after_step : first_fault 0 (lines_of (line good ++ line (codes "[\"row\",\"p\",\"aaaaa\"]"))) ≡ Some (2, Bad rules.OutOfPlace)
unfolding serde_json_on_literals
row_after_step = refl

bad_row_after_step : first_fault 0 (lines_of (line good ++ line (codes "[\"row\",\"p\",\"aaa\"]") ++ line (codes "[]"))) ≡ Some (2, Bad rules.Grammar)
unfolding serde_json_on_literals
bad_row_after_step = refl

abbrev steps : ℕ → List (ℕ × Line)
steps count = replicate count (7, Does (Using []))

steps_at_limit : first_fault 0 (steps 65536) ≡ None
steps_at_limit = refl

step_too_many : first_fault 0 (steps 65536 ++ (8, Does (Load [])) ∷ (9, Faulty) ∷ []) ≡ Some (8, TooManySteps)
step_too_many = refl

fault_before_step_too_many : first_fault 0 (steps 65536 ++ (8, HasFeatures []) ∷ (9, Does (Using [])) ∷ []) ≡ Some (8, Bad rules.OutOfPlace)
fault_before_step_too_many = refl

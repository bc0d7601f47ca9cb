-- Scripts, and what is printed for them, computed on the definitions.
use Rattle.std.proofs.Common.{◌≡◌, List, [], ◌∷◌, ◌++◌, refl, false, true, map, Some, None, replicate}
use Rattle.std.specs.Prelude.{codes, bytes_eq}
use Rattle.std.specs.Fmt.{digits}
use Rattle.std.specs.Str.{is_utf8, chars}
use Rattle.serde_json.proofs.OnLiterals.{serde_json_on_literals}
use lib.Utf8.{encode}
use Rattle.rl_names.specs.Rules.{number_of}
use Rattle.rl_names.specs.declared.counted.Counted.TheVariants as counted
use Rattle.rl_names.specs.declared.row.Dep.TheVariants.{Named}
use Rattle.rl_names.specs.declared.row.Group.TheVariants.{Plain}
use Rattle.rl_names.specs.declared.row.Row.{Row}
use Rattle.rl_names.specs.declared.rule.Rule.TheVariants as rules
use Rattle.rl_view_spec.specs.Breach.{breach_of, TooMany, Duplicate}
use Rattle.rl_view_spec.specs.Closure.{Text}
use Rattle.rl_view_spec.specs.View.{Throws, log_of}
use Rattle.rl_view_spec.specs.declared.Phase.TheVariants as phase
use Rattle.rl_script_spec.specs.Output.{line}
use Rattle.rl_script_spec.specs.Script.{verdict_of, view_of, history_of, Prints, BadLine}
use Rattle.rl_script_spec.specs.Unready.{unready_in}
use Rattle.rl_script_spec.specs.declared.Blame.TheVariants as blames
use Rattle.rl_script_spec.specs.declared.Unready.TheVariants.{Refused, NotReady}
use Rattle.rl_script_spec.specs.declared.Unresolved.TheVariants as unresolved

abbrev never : Throws
never name version script = false

-- ---- a chain of three rows

abbrev three_rows : Text
three_rows = line (codes "[\"row\",\"A\",\"aaaaa\",[\"B\"]]") ++ line (codes "[\"row\",\"B\",\"bbbbb\",[\"C\"]]") ++ line (codes "[\"row\",\"C\",\"ccccc\"]")

abbrev three : Text
three =
    three_rows ++ line (codes "[\"using\",[\"A\"]]")
    ++ line (codes "[\"impl\",\"A@aaaaa\",\"a()\"]") ++ line (codes "[\"impl\",\"B@bbbbb\",\"b()\"]") ++ line (codes "[\"impl\",\"C@ccccc\",\"c()\"]")

abbrev four_replies : Text
four_replies = line (codes "using ok") ++ line (codes "used") ++ line (codes "used") ++ line (codes "used")

chain_of_three :
    verdict_of never three ≡ Prints
    (four_replies ++ line (codes "ran C@ccccc 3") ++ line (codes "ran B@bbbbb 3") ++ line (codes "ran A@aaaaa 3")
    ++ line (codes "summary") ++ line (codes "view 0")
    ++ line (codes "ready A@aaaaa") ++ line (codes "ready B@bbbbb") ++ line (codes "ready C@ccccc")
    ++ line (codes "executed A@aaaaa 3") ++ line (codes "executed B@bbbbb 3") ++ line (codes "executed C@ccccc 3"))
    true
unfolding digits serde_json_on_literals is_utf8 chars encode
chain_of_three = refl

log_of_three : log_of (view_of never three) (history_of never three) ≡ 2 ∷ 1 ∷ 0 ∷ []
unfolding serde_json_on_literals
log_of_three = refl

-- an observer that throws for B
throwing_observer :
    verdict_of (λ name version script. bytes_eq name (codes "B")) three ≡ Prints
    (four_replies ++ line (codes "ran C@ccccc 3") ++ line (codes "threw B@bbbbb 3")
    ++ line (codes "summary") ++ line (codes "view 0")
    ++ line (codes "error A@aaaaa") ++ line (codes "error B@bbbbb") ++ line (codes "ready C@ccccc")
    ++ line (codes "executed B@bbbbb 3") ++ line (codes "executed C@ccccc 3"))
    false
unfolding digits serde_json_on_literals is_utf8 chars encode
throwing_observer = refl

-- a part that comes before it is requested, and one that comes twice, are passed over
passed_parts :
    verdict_of never
    (line (codes "[\"row\",\"C\",\"ccccc\"]") ++ line (codes "[\"impl\",\"C@ccccc\",\"c()\"]") ++ line (codes "[\"using\",[\"C\"]]")
    ++ line (codes "[\"impl\",\"C@ddddd\",\"c(1)\"]") ++ line (codes "[\"impl\",\"C@ccccc\",\"c()\"]")) ≡ Prints
    (line (codes "passed") ++ line (codes "using ok") ++ line (codes "used") ++ line (codes "ran C@ddddd 4") ++ line (codes "passed")
    ++ line (codes "summary") ++ line (codes "view 0") ++ line (codes "ready C@ddddd") ++ line (codes "executed C@ddddd 4"))
    true
unfolding digits serde_json_on_literals is_utf8 chars encode
passed_parts = refl

-- ---- an unknown name and a cycle

abbrev nothing_touched : Text → Text
nothing_touched reply = line reply ++ line (codes "summary") ++ line (codes "view 0")

abbrev two : Text → Text
two deps = line (codes "[\"row\",\"A\",\"aaaaa\",[\"B\"]]") ++ line (codes "[\"row\",\"B\",\"bbbbb\"," ++ deps ++ codes "]")

unknown_name : verdict_of never (two (codes "[\"A\",\"zz\",\"nn\"]") ++ line (codes "[\"using\",[\"A\"]]"))
    ≡ Prints (nothing_touched (codes "using unknown nn")) false
unfolding digits serde_json_on_literals is_utf8 chars encode
unknown_name = refl

cycle : verdict_of never (two (codes "[\"A\"]") ++ line (codes "[\"using\",[\"A\"]]")) ≡ Prints (nothing_touched (codes "using cycle A")) false
unfolding digits serde_json_on_literals is_utf8 chars encode
cycle = refl

load_of_cycle : verdict_of never (two (codes "[\"A\"]") ++ line (codes "[\"load\",[\"A\"]]")) ≡ Prints (nothing_touched (codes "load dropped 1")) false
unfolding digits serde_json_on_literals is_utf8 chars encode
load_of_cycle = refl

-- ---- a skipped dependency brings nothing, and is ready

abbrev with_skip : Text
with_skip =
    line (codes "[\"row\",\"A\",\"aaaaa\",[\"B\"]]") ++ line (codes "[\"row\",\"B\",\"bbbbb\",[\"C\"],null,null,\"promise\"]")
    ++ line (codes "[\"row\",\"C\",\"ccccc\"]") ++ line (codes "[\"features\",[\"promise\"]]")

skipped_dependency :
    verdict_of never (with_skip ++ line (codes "[\"using\",[\"A\"]]") ++ line (codes "[\"impl\",\"A@aaaaa\",\"a()\"]")) ≡ Prints
    (line (codes "using ok") ++ line (codes "used") ++ line (codes "ran A@aaaaa 3") ++ line (codes "summary") ++ line (codes "view 0")
    ++ line (codes "ready A@aaaaa") ++ line (codes "ready B@bbbbb") ++ line (codes "executed A@aaaaa 3"))
    true
unfolding digits serde_json_on_literals is_utf8 chars encode
skipped_dependency = refl

-- ---- a private row is in error as soon as it is touched, and its part is passed over

private_row :
    verdict_of never
    (line (codes "[\"row\",\"A\",\"aaaaa\",[\"P\"]]") ++ line (codes "[\"row\",\"P\",null,[],1]") ++ line (codes "[\"load\",[\"A\"]]")
    ++ line (codes "[\"impl\",\"P@ppppp\",\"p()\"]") ++ line (codes "[\"impl\",\"A@aaaaa\",\"a()\"]")) ≡ Prints
    (line (codes "load dropped 0") ++ line (codes "passed") ++ line (codes "used") ++ line (codes "summary") ++ line (codes "view 0")
    ++ line (codes "error A@aaaaa") ++ line (codes "error P"))
    false
unfolding digits serde_json_on_literals is_utf8 chars encode
private_row = refl

-- ---- why not everything was served

-- the last dependency is not answered
why_waiting :
    unready_in never (three_rows ++ line (codes "[\"using\",[\"A\"]]") ++ line (codes "[\"impl\",\"A@aaaaa\",\"a()\"]")
    ++ line (codes "[\"impl\",\"B@bbbbb\",\"b()\"]"))
    ≡ Some (NotReady (codes "A") phase.Loaded (codes "C") blames.Unanswered)
unfolding serde_json_on_literals
why_waiting = refl

why_thrown : unready_in (λ name version script. bytes_eq name (codes "B")) three ≡ Some (NotReady (codes "A") phase.Error (codes "B") blames.Threw)
unfolding serde_json_on_literals
why_thrown = refl

-- of two the least name is blamed, and not the row that waits for both
why_least :
    unready_in never
    (line (codes "[\"row\",\"A\",\"aaaaa\",[\"d\",\"c\"]]") ++ line (codes "[\"row\",\"d\",\"ddddd\"]") ++ line (codes "[\"row\",\"c\",\"ccccc\"]")
    ++ line (codes "[\"load\",[\"A\"]]") ++ line (codes "[\"impl\",\"A@aaaaa\",\"a()\"]") ++ line (codes "[\"state\",\"d\",\"error\"]")
    ++ line (codes "[\"state\",\"c\",\"missing\"]"))
    ≡ Some (NotReady (codes "A") phase.Error (codes "c") blames.Missing)
unfolding serde_json_on_literals
why_least = refl

-- a refusal is told before a name that is not ready, by the number of its step
why_refused :
    unready_in never (two (codes "[\"A\",\"zz\",\"nn\"]") ++ line (codes "[\"impl\",\"A@aaaaa\",\"a()\"]") ++ line (codes "[\"load\",[\"A\"]]"))
    ≡ Some (Refused 2 (codes "nn") unresolved.Unknown)
unfolding serde_json_on_literals
why_refused = refl

why_cyclic : unready_in never (two (codes "[\"A\"]") ++ line (codes "[\"using\",[\"B\"]]")) ≡ Some (Refused 1 (codes "A") unresolved.Cycle)
unfolding serde_json_on_literals
why_cyclic = refl

nothing_told : unready_in never (with_skip ++ line (codes "[\"using\",[\"A\"]]") ++ line (codes "[\"impl\",\"A@aaaaa\",\"a()\"]")) ≡ None
unfolding serde_json_on_literals
nothing_told = refl

-- ---- limits of a registry

abbrev row : Text → Text → List Text → Row
row name version deps = record { name = name; version = Some version; deps = map Named deps; group = Plain; source = []; skip = None }

rows_at_limit : breach_of (replicate 4097 (row (codes "a") (codes "aaaaa") [])) ≡ Some (TooMany counted.Rows 4097)
rows_at_limit = refl

deps_at_limit : breach_of (row (codes "a") (codes "aaaaa") (replicate 256 (codes "b")) ∷ row (codes "b") (codes "bbbbb") (replicate 257 (codes "c")) ∷ [])
    ≡ Some (TooMany counted.Dependencies 257)
deps_at_limit = refl

least_repeated :
    breach_of (row (codes "b") (codes "bbbbb") [] ∷ row (codes "a") (codes "aaaaa") [] ∷ row (codes "b") (codes "bbbbb") []
    ∷ row (codes "a") (codes "aaaaa") [] ∷ []) ≡
    Some (Duplicate (codes "a"))
least_repeated = refl

repeated_row : verdict_of never (three_rows ++ three_rows) ≡ BadLine 0 (number_of rules.Duplicate)
unfolding serde_json_on_literals is_utf8 chars encode
repeated_row = refl

-- ---- bytes that are no text

no_text : verdict_of never (line (codes "[]") ++ 195 ∷ []) ≡ BadLine 0 (number_of rules.NotUtf8)
unfolding is_utf8 chars encode
no_text = refl

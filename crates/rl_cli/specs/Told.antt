-- The line that tells a person how a call ended.
use Rattle.std.specs.Prelude.{ℕ, ◌++◌, ◌==◌, if◌then◌else◌, List, Option, Some, None, bytes_eq, codes, decimal}
use Rattle.std.specs.Option.{option_map_or}
use Rattle.rl_names.specs.Limits.{limit_of, unit_of}
use Rattle.rl_names.specs.Rules.{rule_of, sentence_of}
use Rattle.rl_names.specs.declared.counted.Counted.{Counted}
use Rattle.rl_base.specs.Reason.{words_of}
use Rattle.rl_base.specs.declared.fault.Reason.{Reason}
use Rattle.rl_view_spec.specs.Closure.{Text}
use Rattle.rl_view_spec.specs.declared.Phase.{Phase}
use Rattle.rl_script_spec.specs.Output.{state_word}
use Rattle.rl_script_spec.specs.declared.Blame.{Blame}
use Rattle.rl_script_spec.specs.declared.Blame.TheVariants as blames
use Rattle.rl_script_spec.specs.declared.Unready.{Unready}
use Rattle.rl_script_spec.specs.declared.Unready.TheVariants.{Refused, NotReady}
use Rattle.rl_script_spec.specs.declared.Unresolved.{Unresolved}
use Rattle.rl_script_spec.specs.declared.Unresolved.TheVariants as unresolved
use Rattle.rl_defs.specs.declared.error.CatalogError.{CatalogError}
use Rattle.rl_defs.specs.declared.error.CatalogError.TheVariants as breaches
use Rattle.rl_defs.specs.declared.error.FieldKind.{FieldKind}
use Rattle.rl_defs.specs.declared.error.FieldKind.TheVariants.{OfFile, IsModule, OfModule}
use Rattle.rl_cli.specs.Spelt.{spelt}
use Rattle.rl_cli.specs.Words.{word_at}
use Rattle.rl_cli.specs.declared.status.Status.{Status}
use Rattle.rl_cli.specs.declared.status.Status.TheVariants as statuses

-- what breaks the rule of a number
abbrev pub rule_text : ℕ → Text
rule_text why = option_map_or sentence_of (rule_of why) (codes "against the rules")

-- a file, and a line where one is told
abbrev pub place_text : Text → ℕ → Text
place_text file line = if line == 0 then spelt file ++ codes ": " else spelt file ++ codes ", line " ++ decimal line ++ codes ": "

-- a file at fault, with the rule and its number
abbrev pub rule_line : Text → ℕ → ℕ → Text
rule_line file line why = place_text file line ++ (rule_text why ++ codes " (" ++ decimal why ++ codes ")")

-- what is wrong, and the number of the rule
abbrev pub fault_text : Text → ℕ → Text
fault_text fault why = codes " " ++ fault ++ codes " (" ++ decimal why ++ codes ")"

-- something of definitions at fault, by its name
abbrev pub named_line : Text → Text → Text → Text → ℕ → Text
named_line file kind name fault why = (spelt file ++ codes ": " ++ kind ++ codes " " ++ spelt name) ++ fault_text fault why

-- something that a module has and that is at fault
abbrev pub had_line : Text → Text → Text → Text → Text → ℕ → Text
had_line file owner has name fault why =
    (spelt file ++ codes ": module " ++ spelt owner) ++ (codes " " ++ has ++ codes " " ++ spelt name ++ codes ", which") ++ fault_text fault why

-- a field that definitions do not have: of no module, or a module that is no table, or of a module
abbrev pub field_line : Text → FieldKind → Text → Text → ℕ → Text
field_line file OfFile owner field why = named_line file (codes "the field") field (codes "is unknown or has a bad value") why
field_line file IsModule owner field why = named_line file (codes "module") owner (codes "is no table") why
field_line file OfModule owner field why = had_line file owner (codes "has the field") field (codes "is unknown or has a bad value") why

-- definitions at fault, with the module and the field
abbrev pub breach_line : Text → CatalogError → ℕ → Text
breach_line file (breaches.UnknownField kind owner field) why = field_line file kind owner field why
breach_line file (breaches.BadName text) why = named_line file (codes "the name") text (codes "breaks its rule") why
breach_line file (breaches.BadDependency owner name) why = had_line file owner (codes "depends on") name (codes "is no module") why
breach_line file (breaches.NoFile owner listed) why = had_line file owner (codes "lists the file") listed (codes "is not there") why
breach_line file (breaches.BadChain language) why = named_line file (codes "the language") language (codes "has bad fallbacks") why
breach_line file (breaches.BadSource owner) why = named_line file (codes "module") owner (codes "has an unknown source") why
breach_line file other why = rule_line file 0 why

abbrev pub input_line : Text → Option CatalogError → ℕ → ℕ → Text
input_line file None line why = rule_line file line why
input_line file (Some breach) line why = breach_line file breach why

-- how many there are, and how many there may be
abbrev pub limit_line : Text → ℕ → Text → ℕ → Text
limit_line word count unit limit = (spelt word ++ codes ": " ++ decimal count ++ codes " " ++ unit) ++ (codes ", and there may be " ++ decimal limit)

abbrev pub count_line : Text → Counted → ℕ → Text
count_line word what count = limit_line word count (unit_of what) (limit_of what)

-- a fault of the outside, and the system's reason where it is known
abbrev pub reason_text : Option Reason → Text
reason_text None = codes ""
reason_text (Some reason) = codes ": " ++ words_of reason

abbrev pub unread_line : Text → Option Reason → Text
unread_line file reason = (spelt file ++ codes ": could not be read") ++ reason_text reason

abbrev pub unwritten_line : Option Reason → Text
unwritten_line reason = codes "the output could not be written" ++ reason_text reason

-- ---- why not everything was served

abbrev pub unresolved_words : Unresolved → Text
unresolved_words unresolved.Unknown = codes "is unknown"
unresolved_words unresolved.Cycle = codes "depends on itself"

abbrev pub blame_words : Blame → Text
blame_words blames.Unanswered = codes "was not answered"
blame_words blames.Missing = codes "is missing"
blame_words blames.Error = codes "is in error"
blame_words blames.Threw = codes "threw"

abbrev pub cause_text : Text → Text → Text
cause_text name fault = codes " needs module " ++ spelt name ++ codes ", which " ++ fault

-- the step that was refused, or dropped a name, and the name to blame
abbrev pub refused_line : Text → ℕ → Text → Unresolved → Text
refused_line file step name why = (spelt file ++ (codes ": step " ++ decimal step)) ++ cause_text name (unresolved_words why)

abbrev pub needed_text : Text → Text → Text
needed_text member done = spelt member ++ codes ", which it needs, " ++ done

-- a module itself is to blame, or one that it needs
abbrev pub blamed_text : Text → Text → Blame → Text
blamed_text name member blame = if bytes_eq member name then codes "it " ++ blame_words blame else needed_text member (blame_words blame)

abbrev pub state_text : Text → Text → Text → Text
state_text file name state = (spelt file ++ (codes ": module " ++ spelt name)) ++ (codes " is not ready (" ++ (state ++ codes "): "))

abbrev pub held_line : Text → Text → Phase → Text → Blame → Text
held_line file name state member blame = state_text file name (state_word state) ++ blamed_text name member blame

abbrev pub unready_line : Text → Option Unready → Text
unready_line file None = codes "a request was refused, or a requested module is not ready"
unready_line file (Some (Refused step name why)) = refused_line file step name why
unready_line file (Some (NotReady name state member blame)) = held_line file name state member blame

-- ---- the line

abbrev pub told_line : List Text → Status → ℕ → Option CatalogError → Option Unready → Option Reason → Text
told_line words statuses.Done word breach unready reason = codes "done"
told_line words statuses.BadWords word breach unready reason = codes "no command has these words; `loader --help` lists them"
told_line words (statuses.BadInput place line why) word breach unready reason = input_line (word_at words place) breach line why
told_line words (statuses.TooLarge what count) word breach unready reason = count_line (word_at words word) what count
told_line words statuses.NotReady word breach unready reason = unready_line (word_at words word) unready
told_line words statuses.ReadFault word breach unready reason = unread_line (word_at words word) reason
told_line words statuses.WriteFault word breach unready reason = unwritten_line reason
told_line words statuses.NoMemory word breach unready reason = codes "out of memory"

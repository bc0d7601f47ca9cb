-- What a verdict counts is never the size of a file.
use Rattle.std.proofs.Common.{◌≡◌, ◌≢◌, ℕ, Bool, true, false, List, length, Option, Some, None, refl, ap, sym, subst, ◌∙◌}
use Rattle.std.specs.Prelude.{if◌then◌else◌, nat_lt, option_map, slice_get, Result, Ok, Err}
use Rattle.std.specs.Option.{option_map_or}
use Rattle.std.specs.Str.{is_utf8}
use Rattle.rl_names.specs.declared.counted.Counted.TheVariants as counted
use Rattle.rl_names.specs.declared.row.Row.{Row}
use Rattle.rl_view_spec.specs.Breach as breach
use Rattle.rl_view_spec.specs.Closure.{Text, least}
use Rattle.rl_view_spec.specs.View.{Throws}
use Rattle.rl_script_spec.specs.Script as script
use Rattle.rl_script_spec.specs.Unready.{unready_in}
use Rattle.rl_script_spec.specs.declared.Unready.{Unready}
use Rattle.rl_script_spec.specs.Script.{BadLine, TooMany, Fault, Bad, TooManySteps, verdict_of, fault_verdict, breach_verdict, first_fault, lines_of, rows_in}
use Rattle.rl_script_spec.specs.Script.{printed}
use Rattle.rl_defs.specs.Breach.{reading}
use Rattle.rl_defs.specs.Catalogue.{Catalogue}
use Rattle.rl_defs.specs.Refusal as definitions
use Rattle.rl_defs.proofs.CountingLemmas.{IsOfDefinitions, IsOfReading, reading_is_of_definitions}
use Rattle.rl_pages.specs.declared.viewer.Viewer.{Viewer}
use Rattle.rl_script.specs.declared.script.ScriptError.{ScriptError}
use Rattle.rl_script.specs.declared.script.ScriptError.TheVariants as pages
use Rattle.rl_steps.specs.declared.step.Step.{Step}
use Rattle.rl_wiki.specs.Front.{wiki_answer}
use Rattle.rl_wiki.specs.Wiki.{WikiState}
use Rattle.rl_loadphp.specs.Refusal as query
use Rattle.rl_loadphp.specs.declared.answers.Answer.{Answer}
use Rattle.rl_cli.specs.Verdict.{Verdict, of_query, Fault as Refused, Exceeds, of_script, of_breach, of_answer, of_lines, file_at, verdict_on}
use Rattle.rl_cli.specs.Verdict.{of_check, of_load, of_start, steps_in, wiki_in, wiki_with}
use Rattle.rl_cli.specs.Words.{Command, Drive, Load, Startup, Check}

abbrev IsOfContent : script.Verdict → Type 0
IsOfContent (TooMany what count) = what ≢ counted.FileBytes
IsOfContent other = Unit {0}

of_text : (b : Bool) (v : script.Verdict) → IsOfContent v → IsOfContent (if b then v else BadLine 0 4)
of_text true v h = h
of_text false v h = tt

of_fault : (o : Option (ℕ × Fault)) (v : script.Verdict) → IsOfContent v → IsOfContent (option_map_or fault_verdict o v)
of_fault None v h = h
of_fault (Some (number, Bad why)) v h = tt
of_fault (Some (number, TooManySteps)) v h = λ e. cc

of_rows :
    (many : Bool) (rows : ℕ) (wide : Option Row) (twice : Option Text) (index : Option (ℕ × ℕ)) (v : script.Verdict) → IsOfContent v
    → IsOfContent (option_map_or breach_verdict (if many then Some (breach.TooMany counted.Rows rows)
    else option_map_or (λ row. Some (breach.TooMany counted.Dependencies (length row.deps))) wide
    (option_map_or (λ name. Some (breach.Duplicate name)) twice (option_map (λ bad. breach.BadIndex bad.0 bad.1) index))) v)
of_rows true rows wide twice index v h = λ e. cc
of_rows false rows (Some row) twice index v h = λ e. cc
of_rows false rows None (Some name) index v h = tt
of_rows false rows None None (Some bad) v h = tt
of_rows false rows None None None v h = h

is_of_content : (throws : Throws) (bytes : Text) → IsOfContent (verdict_of throws bytes)
is_of_content throws bytes =
    let rows = rows_in (lines_of bytes) in
    of_text (is_utf8 bytes) (option_map_or fault_verdict (first_fault 0 (lines_of bytes))
    (option_map_or breach_verdict (breach.breach_of rows) (printed throws bytes)))
    (of_fault (first_fault 0 (lines_of bytes)) (option_map_or breach_verdict (breach.breach_of rows) (printed throws bytes))
    (of_rows (nat_lt 4096 (length rows)) (length rows) (breach.wide_row rows) (least (breach.repeated rows)) (slice_get (breach.bad_indexes rows) 0)
    (printed throws bytes) tt))

-- ---- a command

abbrev pub IsOfWork : Verdict → Type 0
IsOfWork (Err (Exceeds word what count)) = what ≢ counted.FileBytes
IsOfWork other = Unit {0}

script_of_work : (place : ℕ) (unready : Option Unready) (v : script.Verdict) → IsOfContent v → IsOfWork (of_script place unready v)
script_of_work place unready (script.Prints text ready) h = tt
script_of_work place unready (BadLine line why) h = tt
script_of_work place unready (TooMany what count) h = h

breach_of_work : (place : ℕ) (refusal : definitions.Refusal) → IsOfDefinitions refusal → IsOfWork (Err (of_breach place refusal))
breach_of_work place (definitions.TooMany what count) h = h
breach_of_work place definitions.NotToml h = tt
breach_of_work place (definitions.UnknownField kind owner field) h = tt
breach_of_work place (definitions.BadName text) h = tt
breach_of_work place (definitions.BadDependency owner name) h = tt
breach_of_work place (definitions.NoFile owner file) h = tt
breach_of_work place (definitions.BadChain language) h = tt
breach_of_work place (definitions.BadSource owner) h = tt

answer_of_work : (place : ℕ) (r : Result Answer query.Refusal) → IsOfWork (of_answer place r)
answer_of_work place (Ok answer) = tt
answer_of_work place (Err (query.QueryTooLong len)) = λ e. cc
answer_of_work place (Err (query.TooManyNames count)) = λ e. cc
answer_of_work place (Err (query.AnswerTooLong len)) = λ e. cc

lines_of_work : (place : ℕ) (why : ScriptError) → IsOfWork (Err (of_lines place why))
lines_of_work place (pages.BadLine line why) = tt
lines_of_work place (pages.TooMany count) = λ e. cc
lines_of_work place pages.NoMemory = tt

-- why there is no wiki is of work
abbrev IsOfWiki : Result WikiState Refused → Type 0
IsOfWiki (Ok wiki) = Unit {0}
IsOfWiki (Err fault) = IsOfWork (Err fault)

wiki_of_work : (read : Result Catalogue definitions.Refusal) (steps : Result (List Step) ScriptError) → IsOfReading read → IsOfWiki (wiki_with read steps)
wiki_of_work (Ok catalogue) (Ok steps) h = tt
wiki_of_work (Ok catalogue) (Err why) h = lines_of_work 2 why
wiki_of_work (Err refusal) steps h = breach_of_work 1 refusal h

load_of_work : (viewer : Viewer) (asked : Text) (wiki : Result WikiState Refused) → IsOfWiki wiki → IsOfWork (of_load viewer asked wiki)
load_of_work viewer asked (Ok wiki) h = answer_of_work 4 (wiki_answer wiki.catalogue wiki.entries viewer asked)
load_of_work viewer asked (Err fault) h = h

start_of_work : (viewer : Viewer) (lang skin : Text) (wiki : Result WikiState Refused) → IsOfWiki wiki → IsOfWork (of_start viewer lang skin wiki)
start_of_work viewer lang skin (Ok wiki) h = tt
start_of_work viewer lang skin (Err fault) h = h

check_of_work : (wiki : Result WikiState Refused) → IsOfWiki wiki → IsOfWork (of_check wiki)
check_of_work (Ok wiki) h = tt
check_of_work (Err fault) h = h

files_of_work : (paged : Bool) (files : List Text) → IsOfWiki (wiki_in paged files)
files_of_work paged files = wiki_of_work (reading (file_at files 0)) (steps_in paged files) (reading_is_of_definitions (file_at files 0))

pub is_of_work : (throws : Throws) (command : Command) (files : List Text) → IsOfWork (verdict_on throws command files)
is_of_work throws Drive files = script_of_work 1 (unready_in throws (file_at files 0)) (verdict_of throws (file_at files 0)) (is_of_content throws (file_at files 0))
is_of_work throws (Load paged viewer asked) files = load_of_work viewer asked (wiki_in paged files) (files_of_work paged files)
is_of_work throws (Startup paged viewer lang skin) files = start_of_work viewer lang skin (wiki_in paged files) (files_of_work paged files)
is_of_work throws (Check paged) files = check_of_work (wiki_in paged files) (files_of_work paged files)

-- ---- a refusal that is told

same_fault : (one other : Refused) → Some one ≡ Some other → one ≡ other
same_fault one other e = cc

-- the verdict of a script, told at the place of its word
pub script_refused : (place : ℕ) (unready : Option Unready) (v told : script.Verdict) (fault : Refused) → v ≡ told →
    of_script place unready told ≡ Err fault
    → (refusal : Refused) → Some fault ≡ Some refusal → of_script place unready v ≡ Err refusal
script_refused place unready v told fault e f refusal is =
    subst (λ (x : Refused). of_script place unready v ≡ Err x) (same_fault fault refusal is) (ap (of_script place unready) e ∙ f)

-- what it prints, and why not everything was served
pub script_printed : (place : ℕ) (unready told : Option Unready) (v : script.Verdict) (text shown : Text) (ready : Bool) →
    v ≡ script.Prints text ready → told ≡ unready → shown ≡ text
    → of_script place unready v ≡ Ok record { text = shown; ready = ready; word = place; unready = told }
script_printed place unready told v text shown ready e same whole =
    ap (of_script place unready) e ∙ ap (λ (u : Option Unready). of_script place u (script.Prints text ready)) (sym same)
    ∙ ap (λ (t : Text). of_script place told (script.Prints t ready)) (sym whole)

-- the refusal of a query, told as a fault of its word
pub query_refused :
    (viewer : Viewer) (asked : Text) (made : Result WikiState Refused) (wiki : WikiState) (told : Option query.Refusal)
    (fault : Option Refused) → made ≡ Ok wiki
    → ((refusal : query.Refusal) → told ≡ Some refusal → wiki_answer wiki.catalogue wiki.entries viewer asked ≡ Err refusal)
    → fault ≡ option_map (of_query 4) told → (refusal : Refused) → fault ≡ Some refusal → of_load viewer asked made ≡ Err refusal
query_refused viewer asked made wiki None fault e h f refusal is =
    let none : None ≡ Some refusal = sym f ∙ is in absurd (cc)
query_refused viewer asked made wiki (Some r) fault e h f refusal is =
    let answer : wiki_answer wiki.catalogue wiki.entries viewer asked ≡ Err r = h r refl in
    subst (λ (x : Refused). of_load viewer asked made ≡ Err x) (same_fault (of_query 4 r) refusal (sym f ∙ is))
    (ap (of_load viewer asked) e ∙ ap (of_answer 4) answer)

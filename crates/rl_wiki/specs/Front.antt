-- What a wiki answers to a query: its startup text where that is all that the query asks for, and else what its modules
-- bring.
use Rattle.std.specs.Prelude.{ℕ, Bool, true, false, ◌&&◌, nat_lt, if◌then◌else◌, List, [], ◌∷◌, length, bytes_eq, codes, Result, Ok, Err}
use Rattle.rl_names.specs.declared.query.Query.{Query}
use Rattle.rl_names.specs.declared.query.Only.{Only}
use Rattle.rl_names.specs.declared.query.Only.TheVariants.{All, Scripts, Styles}
use Rattle.rl_defs.specs.Catalogue.{Catalogue}
use Rattle.rl_pages.specs.declared.entry.Entry.{Entry}
use Rattle.rl_pages.specs.declared.viewer.Viewer.{Viewer}
use Rattle.rl_pages.specs.declared.viewer.Viewer.TheVariants.{Anon}
use Rattle.rl_build.specs.Sight.{sight}
use Rattle.rl_loadphp.specs.declared.answers.Answer.{Answer}
use Rattle.rl_loadphp.specs.declared.answers.Kind.TheVariants.{Script}
use Rattle.rl_loadphp.specs.Answer.{answer_to, asked, sent}
use Rattle.rl_loadphp.specs.Refusal.{Refusal}
use Rattle.rl_loadphp.specs.Served.{names_of, names_viewer, query_context}
use Rattle.rl_startup.specs.Registry.{startup_text_of}

abbrev pub is_alone : List ℕ → List (List ℕ) → Bool
is_alone name (other ∷ []) = bytes_eq other name
is_alone name others = false

abbrev pub wants_scripts : Only → Bool
wants_scripts Scripts = true
wants_scripts All = false
wants_scripts Styles = false

-- A query asks for the startup text where it wants scripts alone, and `startup` is all that it names. In any other query
-- `startup` is a name like those that no module has.
abbrev pub asks_startup : Query → Bool
asks_startup q = wants_scripts q.only && is_alone (codes "startup") (names_of q)

-- The startup text is the viewer's own where the query names the viewer as its user, and else nobody's.
abbrev pub reader_of : Viewer → Query → Viewer
reader_of viewer q = if names_viewer viewer q.user then viewer else Anon

-- It may be kept for 5 minutes, by its reader alone where the query names a user.
abbrev pub startup_answer : Catalogue → List Entry → Viewer → Query → Answer
startup_answer c entries viewer q = record {
  body = startup_text_of (sight c entries (reader_of viewer q)) (query_context c q);
  kind = Script;
  max_age = 300;
  private = nat_lt 0 (length q.user);
}

abbrev pub answer_by : Catalogue → List Entry → Viewer → Query → Result Answer Refusal
answer_by c entries viewer q = if asks_startup q then Ok (startup_answer c entries viewer q) else sent (answer_to (sight c entries viewer) q)

abbrev pub answered_by : Catalogue → List Entry → Viewer → Result Query Refusal → Result Answer Refusal
answered_by c entries viewer (Ok q) = answer_by c entries viewer q
answered_by c entries viewer (Err refusal) = Err refusal

-- the answer of a wiki of these definitions and this history to a viewer's query, by its bytes, or why there is none
abbrev pub wiki_answer : Catalogue → List Entry → Viewer → List ℕ → Result Answer Refusal
wiki_answer c entries viewer bytes = answered_by c entries viewer (asked bytes)

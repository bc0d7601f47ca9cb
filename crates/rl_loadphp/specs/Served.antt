-- Which of the names that a query asks for are served, and what they bring.
use Rattle.std.specs.Prelude.{ℕ, Bool, true, false, ◌&&◌, ◌||◌, not, List, filter, bytes_eq, codes}
use Rattle.std.specs.List.{filter_map}
use Rattle.std.specs.Option.{option_map_or}
use Rattle.rl_names.specs.declared.query.Query.{Query}
use Rattle.rl_names.specs.Packing.{distinct, expand}
use Rattle.rl_defs.specs.Catalogue.{Catalogue}
use Rattle.rl_pages.specs.declared.viewer.Viewer.{Viewer}
use Rattle.rl_pages.specs.declared.viewer.Viewer.TheVariants.{Anon, User}
use Rattle.rl_pages.specs.Viewer.{is_user, viewer_of}
use Rattle.rl_build.specs.declared.context.Context.{Context}
use Rattle.rl_build.specs.declared.sheets.Sheet.{Sheet}
use Rattle.rl_build.specs.declared.payloads.Payload.{Payload}
use Rattle.rl_build.specs.Sight.{Sight}
use Rattle.rl_build.specs.Context.{context_of}
use Rattle.rl_build.specs.Sheet.{sheet_of}
use Rattle.rl_build.specs.Payload.{payload_of}

-- the names that are asked for, each once and in the order in which they first stand
abbrev pub names_of : Query → List (List ℕ)
names_of q = distinct (expand q.modules)

abbrev pub query_context : Catalogue → Query → Context
query_context c q = context_of c q.lang q.skin q.debug

abbrev pub is_nobody : Viewer → Bool
is_nobody Anon = true
is_nobody (User name) = false

-- both are the same viewer
abbrev pub is_viewer : Viewer → Viewer → Bool
is_viewer viewer Anon = is_nobody viewer
is_viewer viewer (User name) = is_user viewer name

-- Whether a query's `user` names this viewer: an empty one names nobody, and what is no user's name names no viewer.
abbrev pub names_viewer : Viewer → List ℕ → Bool
names_viewer viewer user = option_map_or (is_viewer viewer) (viewer_of user) false

-- Whether a module with this sheet is served: none that is private, none that another wiki serves, and one of the group
-- `user` where the query names the viewer as its user alone.
abbrev pub may_serve : Bool → Sheet → Bool
may_serve own sheet =
    not (bytes_eq sheet.group (codes "private")) && bytes_eq sheet.source (codes "local")
    && (not (bytes_eq sheet.group (codes "user")) || own)

abbrev pub is_served : Sight → Context → Bool → List ℕ → Bool
is_served s ctx own name = option_map_or (may_serve own) (sheet_of s ctx name) false

-- whether the query names the viewer as its user
abbrev pub is_own : Sight → Query → Bool
is_own s q = names_viewer s.history.viewer q.user

abbrev pub served : Sight → Query → List (List ℕ)
served s q = filter (is_served s (query_context s.catalogue q) (is_own s q)) (names_of q)

-- all others
abbrev pub missing : Sight → Query → List (List ℕ)
missing s q = filter (λ name. not (is_served s (query_context s.catalogue q) (is_own s q) name)) (names_of q)

-- what these names bring
abbrev pub payloads : Sight → Context → List (List ℕ) → List Payload
payloads s ctx names = filter_map (payload_of s ctx) names

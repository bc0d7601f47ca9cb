-- Which call a method and a path ask for.
use Rattle.std.specs.Prelude.{◌≡◌, ℕ, ◌+◌, ◌==◌, List, [], take, drop, if◌then◌else◌, bytes_eq, codes, Option, Some, None}
use Rattle.std.specs.Prelude.{option_map}
use Rattle.std.specs.Str.{is_utf8}
use Rattle.percent_encoding.specs.Percent.{percent_decode}
use Rattle.std.specs.List.{position}
use Rattle.matchit.specs.Rows.{RowsOf}
use Rattle.matchit.specs.Seek.{first}
use Rattle.matchit.specs.Router.{RouteOf}
use Rattle.rl_http.specs.declared.routes.Call.{Call}
use Rattle.rl_http.specs.declared.routes.Call.TheVariants as calls
use Rattle.rl_http.specs.declared.routes.Route.{Route}
use Rattle.rl_http.specs.declared.routes.Route.TheVariants.{Load, Edit, Choice, Revision, NotFound, NotAllowed}

-- the path and the query of a target, on the two sides of the first `?`
abbrev pub cut_at : Option ℕ → List ℕ → List ℕ × List ℕ
cut_at None target = (target, [])
cut_at (Some at) target = (take at target, drop (at + 1) target)

abbrev pub target_parts : List ℕ → List ℕ × List ℕ
target_parts target = cut_at (position (λ b. b == 63) target) target

-- the call of a path that is decoded
abbrev pub call_of : List ℕ → Option Call
call_of path =
    if bytes_eq (codes "/edit") path then Some calls.Edit
    else (if bytes_eq (codes "/load.php") path then Some calls.Load
    else (if bytes_eq (codes "/option") path then Some calls.Choice
    else (if bytes_eq (codes "/revision") path then Some calls.Revision
    else None)))

-- a call, where the method is the one that it takes
abbrev pub by_method : List ℕ → List ℕ → Route → Route
by_method wanted method route = if bytes_eq method wanted then route else NotAllowed

abbrev pub routed : List ℕ → Option Call → Route
routed method None = NotFound
routed method (Some calls.Load) = by_method (codes "GET") method Load
routed method (Some calls.Edit) = by_method (codes "POST") method Edit
routed method (Some calls.Choice) = by_method (codes "POST") method Choice
routed method (Some calls.Revision) = by_method (codes "GET") method Revision

-- the call of a path that is decoded: another path is not found, whatever the method
abbrev pub route_of : List ℕ → List ℕ → Route
route_of method path = routed method (call_of path)

-- the call of a decoded path; one that is no UTF-8 is not found
abbrev pub route_decoded : List ℕ → List ℕ → Route
route_decoded method path = if is_utf8 path then route_of method path else NotFound

-- the call of a method and a target, whose path is decoded
abbrev pub route_to : List ℕ → List ℕ → Route
route_to method target = route_decoded method (percent_decode (target_parts target).0)

-- what the router of a wiki says of every path
abbrev pub FindsCalls : RowsOf (RouteOf Call) → Type 0
FindsCalls rows = (path : List ℕ) → option_map (λ (r : RouteOf Call). r.value) (first rows path) ≡ call_of path

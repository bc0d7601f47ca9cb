-- What a view is opened over, and what a row is answered with at once.
use Rattle.std.specs.Prelude.{ℕ, List, if◌then◌else◌, bytes_eq, find, option_and_then, option_map, Option, Some, None}
use Rattle.rl_names.specs.Name.{key_text}
use Rattle.rl_names.specs.declared.kind.StateKind.TheVariants as kinds
use Rattle.rl_names.specs.declared.query.Query.{Query}
use Rattle.rl_names.specs.declared.row.Row.{Row}
use Rattle.rl_view_spec.specs.Closure.{Text, Registered}
use Rattle.rl_view_spec.specs.Rows.{is_private}
use Rattle.rl_view_spec.specs.View.{View, Throws, Answer, Implementation, Missing, Failed, or_else}
use Rattle.rl_wire.specs.declared.part.Part.{Part}
use Rattle.rl_wire.specs.declared.part.Part.TheVariants.{Impl, State}
use Rattle.rl_book_spec.specs.declared.Stored.{Stored}

-- The rows and features, the parts that came with the page, what every query begins with and how long one may be, and
-- what is stored.
pub record Opening : Type 0 where
  pub registered : Registered
  pub embedded : List Part
  pub base : Query
  pub limit : ℕ
  pub stored : List Stored

abbrev pub view_of : Throws → Opening → View
view_of throws o = record { registered = o.registered; throws = throws }

-- ---- parts

abbrev pub part_name : Part → Text
part_name (Impl name version script styles messages) = name
part_name (State name kind) = name

-- what a part answers its name with
abbrev pub answer_of : Part → Answer
answer_of (Impl name version script styles messages) = Implementation version script
answer_of (State name kinds.Missing) = Missing
answer_of (State name kinds.Error) = Failed

-- the first part of a name
abbrev pub part_of : List Part → Text → Option Part
part_of parts name = find (λ part. bytes_eq (part_name part) name) parts

-- ---- at the first touch

-- what is stored under the key of the row; in debug nothing is
abbrev pub stored_of : Opening → Row → Option Stored
stored_of o row =
    if o.base.debug then None
    else option_and_then (λ version. find (λ stored. bytes_eq (key_text stored.key.name stored.key.version) (key_text row.name version)) o.stored) row.version

-- What a row is answered with as soon as it is touched, if it is: by the first embedded part of its name; by an error
-- where it is private; by what is stored under its key.
abbrev pub answer_at_touch : Opening → Row → Option Answer
answer_at_touch o row =
    or_else (option_map answer_of (part_of o.embedded row.name))
    (if is_private row.group then Some Failed else option_map (λ stored. answer_of stored.part) (stored_of o row))

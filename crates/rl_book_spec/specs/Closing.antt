-- What the store becomes when a view is closed.
use Rattle.std.specs.Prelude.{ℕ, ◌^◌, ◌+◌, ◌/◌, ◌&&◌, ◌++◌, List, Bool, true, false, not, if◌then◌else◌, bytes_eq, filter}
use Rattle.std.specs.Prelude.{length, nat_le, nat_lt, option_and_then, option_map, Option, Some, None}
use Rattle.std.specs.List.{filter_map, list_any}
use Rattle.std.specs.Option.{option_map_or}
use Rattle.std.specs.Ordering.{nat_cmp, is_lt}
use Rattle.std.specs.Cmp.Lexicographic.{slice_cmp}
use Rattle.rl_names.specs.Name.{key_text}
use Rattle.rl_names.specs.declared.name.Key.{Key}
use Rattle.rl_names.specs.declared.row.Group.{Group}
use Rattle.rl_names.specs.declared.row.Group.TheVariants.{User, Private}
use Rattle.rl_names.specs.declared.row.Row.{Row}
use Rattle.rl_view_spec.specs.Closure.{Text, Registered}
use Rattle.rl_view_spec.specs.View.{Throws, state_of}
use Rattle.rl_view_spec.specs.declared.Phase.{Phase}
use Rattle.rl_view_spec.specs.declared.Phase.TheVariants as phase
use Rattle.rl_wire.specs.Line.{part_text}
use Rattle.rl_wire.specs.declared.part.Part.{Part}
use Rattle.rl_wire.specs.declared.part.Part.TheVariants.{Impl}
use Rattle.rl_book_spec.specs.Batches.{sorted_by}
use Rattle.rl_book_spec.specs.Book.{events_of}
use Rattle.rl_book_spec.specs.Given.{given_to, registered_after}
use Rattle.rl_book_spec.specs.Opening.{Opening, view_of}
use Rattle.rl_book_spec.specs.declared.Call.{Call}
use Rattle.rl_book_spec.specs.declared.Mark.{Mark}
use Rattle.rl_book_spec.specs.declared.Origin.{Origin}
use Rattle.rl_book_spec.specs.declared.Origin.TheVariants as origin
use Rattle.rl_book_spec.specs.declared.Stored.{Stored}

abbrev pub key_bytes : Key → Text
key_bytes key = key_text key.name key.version

abbrev pub stored_before : Stored → Stored → Bool
stored_before a b = is_lt (slice_cmp nat_cmp (key_bytes a.key) (key_bytes b.key))

-- other viewers could not use it, or it is not to be kept
abbrev pub is_kept_group : Group → Bool
is_kept_group User = false
is_kept_group Private = false
is_kept_group other = true

abbrev pub is_ready : Phase → Bool
is_ready phase.Ready = true
is_ready other = false

-- the answer that a part came with, where its number has 32 bits
abbrev pub wire_of : Mark → Option ℕ
wire_of mark = if nat_lt mark.answer (2 ^ 32) then Some mark.answer else None

-- a part that came by a delivery, where its line is short enough
abbrev pub stored_from : Part × Origin → Option Stored
stored_from (Impl name version script styles messages, origin.Wire mark) =
    if nat_le (length (part_text (Impl name version script styles messages))) 100000
    then Some (record { key = record { name = name; version = version }; part = Impl name version script styles messages; wire = wire_of mark })
    else None
stored_from other = None

-- what a row adds to the store: it is ready, and its part came by a delivery
abbrev pub fresh_of : Throws → Opening → List Call → Row → Option Stored
fresh_of throws o past row =
    if is_kept_group row.group && is_ready (state_of (view_of throws o) (events_of o past) row.name)
    then option_and_then stored_from (given_to o past row.name) else None

abbrev pub fresh_pairs : Throws → Opening → List Call → List Stored
fresh_pairs throws o past = filter_map (fresh_of throws o past) o.registered.rows

abbrev pub has_key : List Stored → Key → Bool
has_key pairs key = list_any (λ stored. bytes_eq (key_bytes stored.key) (key_bytes key)) pairs

-- the key of a row, where it has a version
abbrev pub row_key : Row → Option Key
row_key row = option_map (λ version. record { name = row.name; version = version }) row.version

abbrev pub is_key_of : Registered → Key → Bool
is_key_of r key = list_any (λ row. option_map_or (λ other. bytes_eq (key_bytes other) (key_bytes key)) (row_key row) false) r.rows

-- new pairs, and of the older ones those under the key of a row that no new one replaces; all by key
abbrev pub pairs_after : Registered → List Stored → List Stored → List Stored
pairs_after r fresh older = sorted_by stored_before (fresh ++ filter (λ stored. is_key_of r stored.key && not (has_key fresh stored.key)) older)

-- what is stored after the view; in debug nothing changes
abbrev pub stored_after : Throws → Opening → List Call → List Stored
stored_after throws o past = if o.base.debug then o.stored else pairs_after (registered_after o past) (fresh_pairs throws o past) o.stored

-- the age of a store that is written at a moment, in steps of 10,000,000 milliseconds, rounded up
abbrev pub age_at : ℕ → ℕ
age_at now = (now + 9999999) / 10000000

-- What rows are given when they are touched: parts that came with the page, and parts that were stored under their keys.
use Rattle.std.specs.Prelude.{◌≡◌, ◌<◌, ℕ, List, Bool, if◌then◌else◌, map, option_and_then, option_map, slice_get, Option, Some, None}
use Rattle.std.specs.Option.{option_or}
use Rattle.rl_names.specs.Name.{key_text}
use Rattle.rl_names.specs.declared.row.Row.{Row}
use Rattle.rl_view_spec.specs.Closure.{Registered}
use Rattle.rl_view_spec.specs.Rows.{is_private}
use Rattle.rl_wire.specs.declared.part.Part.{Part}
use Rattle.rl_book_spec.specs.Given.{given_at_touch}
use Rattle.rl_book_spec.specs.Opening.{Opening, part_name, part_of}
use Rattle.rl_book_spec.specs.declared.Origin.{Origin}
use Rattle.rl_book_spec.specs.declared.Origin.TheVariants as origin
use Rattle.rl_book_spec.specs.declared.Stored.{Stored}
use Rattle.rl_store.specs.Stock.{Stock, pair_under}
use Rattle.rl_book.specs.declared.held.Place.{Place}
use Rattle.rl_book.specs.declared.held.Place.TheVariants as place

-- ---- the parts that came with the page

-- for each row the first of these parts that has its name
abbrev pub firsts_of : Registered → List Part → List (Option Part)
firsts_of r parts = map (λ row. part_of parts row.name) r.rows

-- what stands at the places that rows have
abbrev pub parts_at : List Part → List (Option ℕ) → List (Option Part)
parts_at parts places = map (option_and_then (slice_get parts)) places

-- each row has the place of its first part
abbrev pub ArePlaces : Registered → List Part → List (Option ℕ) → Type 0
ArePlaces r parts places = parts_at parts places ≡ firsts_of r parts

-- ---- with those that were stored

-- a part that a row is given, and where it is from
abbrev pub Gift : Type 0
Gift = Option (Part × Origin)

-- what stands at a place
abbrev pub gift_at : List Part → List Stored → Place → Gift
gift_at parts pairs (place.Embedded at) = option_map (λ part. (part, origin.Embedded)) (slice_get parts at)
gift_at parts pairs (place.Stored at) = option_map (λ stored. (stored.part, origin.Stored stored.wire)) (slice_get pairs at)

abbrev pub gifts_at : List Part → List Stored → List (Option Place) → List Gift
gifts_at parts pairs places = map (option_and_then (gift_at parts pairs)) places

-- what each row is given when it is touched
abbrev pub gifts_of : Opening → List Gift
gifts_of o = map (given_at_touch o) o.registered.rows

-- what one row is given
abbrev pub gift_for : List Gift → ℕ → Gift
gift_for gifts row = option_and_then (λ gift. gift) (slice_get gifts row)

-- each is a part of the row's name
abbrev pub AreNamed : Opening → Type 0
AreNamed o =
    (k : ℕ) (row : Row) (given : Part × Origin) → slice_get o.registered.rows k ≡ Some row → given_at_touch o row ≡ Some given
    → part_name given.0 ≡ row.name

-- the pair that a row is given, where no part came for it with the page: in debug none is
abbrev pub stored_for : Bool → List Stored → Row → Option Stored
stored_for debug pairs row =
    if is_private row.group then None
    else (if debug then None else option_and_then (λ version. pair_under (key_text row.name version) pairs) row.version)

-- a row is given the first part that came for it with the page, or else what is stored for it
abbrev pub gift_by : Option Part → Option Stored → Gift
gift_by part stored =
    option_or (option_map (λ part. (part, origin.Embedded)) part) (option_map (λ stored. (stored.part, origin.Stored stored.wire)) stored)

abbrev pub gift_in : List Part → Bool → List Stored → Row → Gift
gift_in parts debug pairs row = gift_by (part_of parts row.name) (stored_for debug pairs row)

-- what is stored for one of the first rows is a part of its name, where no part came for it with the page
abbrev pub NamesBelow : ℕ → List Part → Bool → List Stored → List Row → Type 0
NamesBelow n parts debug pairs rows =
    (k : ℕ) (row : Row) (stored : Stored) → k < n → slice_get rows k ≡ Some row → part_of parts row.name ≡ None
    → stored_for debug pairs row ≡ Some stored → part_name stored.part ≡ row.name

-- so for all rows
abbrev pub NamesStored : List Part → Bool → List Stored → List Row → Type 0
NamesStored parts debug pairs rows =
    (k : ℕ) (row : Row) (stored : Stored) → slice_get rows k ≡ Some row → part_of parts row.name ≡ None → stored_for debug pairs row ≡ Some stored
    → part_name stored.part ≡ row.name

-- the parts that came with the page, what is stored, and what each row is given
pub record Gifts : Type 0 where
  pub embedded : List Part
  pub store : Stock
  pub gifts : List Gift

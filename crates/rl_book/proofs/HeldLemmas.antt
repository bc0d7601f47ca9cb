-- What rows are given when they are touched.
use Rattle.std.proofs.Common.{◌≡◌, ℕ, ◌+◌, ◌<◌, List, [], ◌∷◌, ◌++◌, Bool, true, false, cond, length, map, take, drop, get_or, replicate}
use Rattle.std.proofs.Common.{Option, Some, None, refl, ap, ap₂, sym, subst, ◌∙◌, inl, inr, arith, add-one, drop-cons}
use Rattle.std.specs.Prelude.{bytes_eq, find, if◌then◌else◌, is_some, option_and_then, option_map, slice_get, slice_set}
use Rattle.std.specs.Option.{option_or}
use Rattle.std.proofs.lemmas.Bool.{cases_lt, false_from_ne_true}
use Rattle.std.proofs.Math.Seq.{drop-length, take-length, take-suc}
use Rattle.std.proofs.lemmas.List.{map-append, map-set}
use Rattle.std.proofs.lemmas.Option.{get_or_from_slice_get, slice_get_within, slice_get-get_or, slice_get-map}
use Rattle.rl_names.specs.declared.row.Row.{Row}
use Rattle.rl_view_spec.specs.Closure.{Text, Registered}
use Rattle.rl_view_spec.specs.Numbers.{number_of}
use Rattle.rl_view_spec.specs.Progress.{HasDistinctNames}
use Rattle.rl_view_spec.specs.Rows.{is_private}
use Rattle.rl_view_spec.proofs.ChainsLemmas.{same}
use Rattle.rl_view_spec.proofs.PlacesLemmas.{apart, bytes_eq-from, name_there, row_named}
use Rattle.rl_view_spec.proofs.StepsLemmas.{map_alike}
use Rattle.rl_view_spec.proofs.ToolsLemmas.{found_place, place_there}
use Rattle.rl_rows.proofs.EdgesLemmas.{number_found, number_named}
use Rattle.rl_view.proofs.ListsLemmas.{set_placed}
use Rattle.rl_wire.specs.declared.part.Part.{Part}
use Rattle.rl_book_spec.specs.Given.{given_at_touch}
use Rattle.rl_book_spec.specs.Opening.{Opening, part_name, part_of, stored_of}
use Rattle.rl_book_spec.specs.declared.Origin.{Origin}
use Rattle.rl_book_spec.specs.declared.Origin.TheVariants as origin
use Rattle.rl_book_spec.specs.declared.Plan.{Plan}
use Rattle.rl_book_spec.specs.declared.Stored.{Stored}
use Rattle.rl_book.specs.Held.{ArePlaces, AreNamed, Gift, NamesBelow, NamesStored, firsts_of, gift_at, gift_by, gift_for, gift_in, gifts_at, gifts_of, parts_at, stored_for}
use Rattle.rl_book.specs.Opens.{opening_of}
use Rattle.rl_book.specs.declared.held.Place.{Place}

-- ---- the places of parts

module _ (r : Registered) (x : Part) (rest : List Part) where
  abbrev before : Row → Option Part
  before row = part_of rest row.name

  abbrev behind : Row → Option Part
  behind row = part_of (x ∷ rest) row.name

  here : (row : Row) → part_name x ≡ row.name → behind row ≡ Some x
  here row e = ap (λ (b : Bool). cond b (Some x) (before row)) (bytes_eq-from (part_name x) row.name e)

  elsewhere : (row : Row) → (part_name x ≡ row.name → ⊥) → before row ≡ behind row
  elsewhere row ne = sym (ap (λ (b : Bool). cond b (Some x) (before row))
      (false_from_ne_true (bytes_eq (part_name x) row.name) (λ e. ne (same (part_name x) row.name e))))

  -- the row of its name has it now,
  pub first_put : HasDistinctNames r → (k : ℕ) → number_of r (part_name x) ≡ Some k
      → slice_set (firsts_of r rest) k (Some x) ≡ firsts_of r (x ∷ rest)
  first_put distinct k e =
      let n = number_named r (part_name x) k e in
      let m = place_there r.rows k n.0 in
      ap (slice_set (firsts_of r rest) k) (sym (here m.0 (sym n.1 ∙ name_there r k m.0 m.1)))
      ∙ set_placed before behind r.rows k m.0 m.1
      (λ j row there ne. elsewhere row (λ q. ne (apart r distinct j k (slice_get_within r.rows j row there) n.0
      (name_there r j row there ∙ sym q ∙ sym n.1))))

  -- and where there is none nothing changes
  pub first_nowhere : number_of r (part_name x) ≡ None → firsts_of r rest ≡ firsts_of r (x ∷ rest)
  first_nowhere e = map_alike before behind r.rows (λ row c. elsewhere row (λ q.
      let f = number_found r (part_name x) (subst (λ (name : Text). is_some (find (λ (row : Row). bytes_eq row.name name) r.rows) ≡ true) (sym q)
      (row_named r row c)) in
      let g : None ≡ Some f.0 = sym e ∙ f.1 in absurd (cc)))

module _ (r : Registered) (parts : List Part) (places : List (Option ℕ)) (at : ℕ) (d : Part) (low : at < length parts)
    (so_far : parts_at parts places ≡ firsts_of r (drop (at + 1) parts)) where
  opened : drop at parts ≡ get_or parts at d ∷ drop (at + 1) parts
  opened = drop-cons parts at d low ∙ ap (λ (n : ℕ). get_or parts at d ∷ drop n parts) (sym (add-one at))

  pub place_put : HasDistinctNames r → (k : ℕ) → number_of r (part_name (get_or parts at d)) ≡ Some k
      → parts_at parts (slice_set places k (Some at)) ≡ firsts_of r (drop at parts)
  place_put distinct k e =
      map-set (option_and_then (slice_get parts)) places k (Some at)
      ∙ ap (λ (found : Option Part). slice_set (parts_at parts places) k found) (slice_get-get_or parts at d low)
      ∙ ap (λ (firsts : List (Option Part)). slice_set firsts k (Some (get_or parts at d))) so_far
      ∙ first_put r (get_or parts at d) (drop (at + 1) parts) distinct k e
      ∙ ap (firsts_of r) (sym opened)

  pub place_nowhere : number_of r (part_name (get_or parts at d)) ≡ None → parts_at parts places ≡ firsts_of r (drop at parts)
  place_nowhere e = so_far ∙ first_nowhere r (get_or parts at d) (drop (at + 1) parts) e ∙ ap (firsts_of r) (sym opened)

-- no row has a place, and there are no parts
pub places_begin : (parts : List Part) (rows : List Row) → map (option_and_then (slice_get parts)) (replicate (length rows) None)
    ≡ map {B = Option Part} (λ row. None) rows
places_begin parts [] = refl
places_begin parts (row ∷ rows) = ap (λ (firsts : List (Option Part)). None ∷ firsts) (places_begin parts rows)

pub places_first : (r : Registered) (parts : List Part) (places : List (Option ℕ)) (count : ℕ) → places ≡ replicate count None → count ≡ length r.rows
    → parts_at parts places ≡ firsts_of r (drop (length parts) parts)
places_first r parts places count e few =
    ap (parts_at parts) (e ∙ ap (λ (n : ℕ). replicate n None) few) ∙ places_begin parts r.rows ∙ sym (ap (firsts_of r) (drop-length parts))

-- ---- with those that were stored

-- what stands at the place of one row
then_is : {X Y : Type 0} (g : X → Option Y) (o : Option X) (y : Option Y) → option_map g o ≡ Some y → option_and_then g o ≡ y
then_is g None y e = cc
then_is g (Some x) y e = cc

pub first_there : (r : Registered) (parts : List Part) (places : List (Option ℕ)) (k : ℕ) (row : Row) → ArePlaces r parts places
    → slice_get r.rows k ≡ Some row → option_and_then (option_and_then (slice_get parts)) (slice_get places k) ≡ part_of parts row.name
first_there r parts places k row are there =
    then_is (option_and_then (slice_get parts)) (slice_get places k) (part_of parts row.name)
    (sym (slice_get-map (option_and_then (slice_get parts)) places k)
    ∙ ap (λ (firsts : List (Option Part)). slice_get firsts k) are
    ∙ slice_get-map (λ (row : Row). part_of parts row.name) r.rows k
    ∙ ap (option_map (λ (row : Row). part_of parts row.name)) there)

joined : {X Y : Type 0} (g : X → Option Y) (o : Option (Option X)) → option_and_then (λ (gift : Option Y). gift) (option_map (option_and_then g) o)
    ≡ option_and_then g (option_and_then (λ (x : Option X). x) o)
joined g None = refl
joined g (Some None) = refl
joined g (Some (Some x)) = refl

-- what a row is given stands at its place
pub gift_placed : (parts : List Part) (pairs : List Stored) (places : List (Option Place)) (row : ℕ)
    → gift_for (gifts_at parts pairs places) row ≡ option_and_then (gift_at parts pairs) (option_and_then (λ (place : Option Place). place) (slice_get places row))
gift_placed parts pairs places row =
    ap (option_and_then (λ (gift : Gift). gift)) (slice_get-map (option_and_then (gift_at parts pairs)) places row)
    ∙ joined (gift_at parts pairs) (slice_get places row)

-- of a row of the opening
pub gift_there : (o : Opening) (gifts : List Gift) (k : ℕ) (row : Row) → gifts ≡ gifts_of o → slice_get o.registered.rows k ≡ Some row
    → gift_for gifts k ≡ given_at_touch o row
gift_there o gifts k row are there =
    ap (λ (gifts : List Gift). gift_for gifts k) are
    ∙ ap (option_and_then (λ (gift : Gift). gift)) (slice_get-map (given_at_touch o) o.registered.rows k)
    ∙ ap (λ (found : Option Row). option_and_then (λ (gift : Gift). gift) (option_map (given_at_touch o) found)) there

-- what is stored is not for private rows
abbrev from_stored : Stored → Part × Origin
from_stored stored = (stored.part, origin.Stored stored.wire)

outside : (private : Bool) (stored : Option Stored) → option_map from_stored (if private then None else stored)
    ≡ (if private then None else option_map from_stored stored)
outside true stored = refl
outside false stored = refl

pub gift_alike : (plan : Plan) (rows : List Row) (parts : List Part) (pairs : List Stored) (row : Row) → gift_in parts plan.base.debug pairs row
    ≡ given_at_touch (opening_of plan rows parts pairs) row
gift_alike plan rows parts pairs row =
    ap (option_or (option_map (λ (part : Part). (part, origin.Embedded)) (part_of parts row.name)))
    (outside (is_private row.group) (stored_of (opening_of plan rows parts pairs) row))

pub gifts_alike : (plan : Plan) (registered all : List Row) (parts : List Part) (pairs : List Stored)
    → map (gift_in parts plan.base.debug pairs) registered ≡ map (given_at_touch (opening_of plan all parts pairs)) registered
gifts_alike plan [] all parts pairs = refl
gifts_alike plan (row ∷ rows) all parts pairs =
    ap₂ (λ (gift : Gift) (gifts : List Gift). gift ∷ gifts) (gift_alike plan all parts pairs row) (gifts_alike plan rows all parts pairs)

part_named : (parts : List Part) (name : Text) (part : Part) → part_of parts name ≡ Some part → part_name part ≡ name
part_named parts name part e =
    same (part_name part) name (found_place (λ (part : Part). bytes_eq (part_name part) name) parts part e).2

-- each row is given a part of its name
pub named_alike : (plan : Plan) (rows : List Row) (parts : List Part) (pairs : List Stored) → NamesStored parts plan.base.debug pairs rows
    → AreNamed (opening_of plan rows parts pairs)
named_alike plan rows parts pairs names k row given there is =
    step (part_of parts row.name) (stored_for plan.base.debug pairs row) refl refl (gift_alike plan rows parts pairs row ∙ is)
  where
    step : (part : Option Part) (stored : Option Stored) → part_of parts row.name ≡ part → stored_for plan.base.debug pairs row ≡ stored
        → gift_by part stored ≡ Some given → part_name given.0 ≡ row.name
    step (Some part) stored p s e =
        let here : (part, origin.Embedded) ≡ given = cc in
        ap (λ (g : Part × Origin). part_name g.0) (sym here) ∙ part_named parts row.name part p
    step None (Some stored) p s e =
        let here : (stored.part, origin.Stored stored.wire) ≡ given = cc in
        ap (λ (g : Part × Origin). part_name g.0) (sym here) ∙ names k row stored there p s
    step None None p s e = cc

-- ---- row by row

flat : {X Y : Type 0} (g : X → Option Y) (o : Option (Option X)) → option_and_then g (option_and_then (λ (x : Option X). x) o)
    ≡ option_and_then (option_and_then g) o
flat g None = refl
flat g (Some x) = refl

module _ (parts : List Part) (debug : Bool) (pairs : List Stored) (rows : List Row) (k : ℕ) (row : Row) (there : slice_get rows k ≡ Some row) where
  more : take (k + 1) rows ≡ take k rows ++ row ∷ []
  more =
      ap (λ (n : ℕ). take n rows) (add-one k)
      ∙ take-suc rows k row (slice_get_within rows k row there)
      ∙ ap (λ (x : Row). take k rows ++ x ∷ []) (get_or_from_slice_get rows k row row there)

  -- one row more has its place,
  pub gifts_more : (r : Registered) (firsts : List (Option ℕ)) (first : Option ℕ) (places : List (Option Place)) (place : Option Place) → r.rows ≡ rows
      → ArePlaces r parts firsts → first ≡ option_and_then (λ (first : Option ℕ). first) (slice_get firsts k)
      → option_and_then (gift_at parts pairs) place ≡ gift_by (option_and_then (slice_get parts) first) (stored_for debug pairs row)
      → gifts_at parts pairs places ≡ map (gift_in parts debug pairs) (take k rows)
      → gifts_at parts pairs (places ++ place ∷ []) ≡ map (gift_in parts debug pairs) (take (k + 1) rows)
  gifts_more r firsts first places place same_rows are is given so_far =
      let there_r : slice_get r.rows k ≡ Some row = ap (λ (rows : List Row). slice_get rows k) same_rows ∙ there in
      let named : option_and_then (slice_get parts) first ≡ part_of parts row.name =
      ap (option_and_then (slice_get parts)) is ∙ flat (slice_get parts) (slice_get firsts k) ∙ first_there r parts firsts k row are there_r in
      let here : option_and_then (gift_at parts pairs) place ≡ gift_in parts debug pairs row =
      given ∙ ap (λ (part : Option Part). gift_by part (stored_for debug pairs row)) named in
      map-append (option_and_then (gift_at parts pairs)) places (place ∷ [])
      ∙ ap₂ (λ (gifts : List Gift) (gift : Gift). gifts ++ gift ∷ []) so_far here
      ∙ sym (ap (map (gift_in parts debug pairs)) more ∙ map-append (gift_in parts debug pairs) (take k rows) (row ∷ []))

  -- and what is stored for it has its name
  pub named_more : (r : Registered) (firsts : List (Option ℕ)) (first : Option ℕ) → r.rows ≡ rows
      → ArePlaces r parts firsts → first ≡ option_and_then (λ (first : Option ℕ). first) (slice_get firsts k)
      → ((stored : Stored) → option_and_then (slice_get parts) first ≡ None → stored_for debug pairs row ≡ Some stored → part_name stored.part ≡ row.name)
      → NamesBelow k parts debug pairs rows → NamesBelow (k + 1) parts debug pairs rows
  named_more r firsts first same_rows are is named before j other stored low here none some =
      elim (cases_lt j k) [
        | inl below ↦ before j other stored below here none some
        | inr above ↦
            let there_r : slice_get r.rows k ≡ Some row = ap (λ (rows : List Row). slice_get rows k) same_rows ∙ there in
            let at : option_and_then (slice_get parts) first ≡ part_of parts row.name =
            ap (option_and_then (slice_get parts)) is ∙ flat (slice_get parts) (slice_get firsts k) ∙ first_there r parts firsts k row are there_r in
            let place : j ≡ k = omega (arith, low, above) in
            let s : Some row ≡ Some other = sym there ∙ ap (λ (n : ℕ). slice_get rows n) (sym place) ∙ here in
            let same_row : row ≡ other = cc in
            subst (λ (x : Row). part_name stored.part ≡ x.name) same_row
            (named stored (at ∙ ap (λ (x : Row). part_of parts x.name) same_row ∙ none) (ap (stored_for debug pairs) same_row ∙ some))
      ]

-- all rows have their places
pub gifts_whole : (parts : List Part) (debug : Bool) (pairs : List Stored) (rows : List Row) (n : ℕ) → n ≡ length rows
    → map (gift_in parts debug pairs) (take n rows) ≡ map (gift_in parts debug pairs) rows
gifts_whole parts debug pairs rows n e = ap (λ (n : ℕ). map (gift_in parts debug pairs) (take n rows)) e ∙ ap (map (gift_in parts debug pairs)) (take-length rows)

pub named_whole : (parts : List Part) (debug : Bool) (pairs : List Stored) (rows : List Row) (n : ℕ) → n ≡ length rows
    → NamesBelow n parts debug pairs rows → NamesStored parts debug pairs rows
named_whole parts debug pairs rows n e below k row stored there =
    below k row stored (subst (λ (m : ℕ). k < m) (sym e) (slice_get_within rows k row there)) there

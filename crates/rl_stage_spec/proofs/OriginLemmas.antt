-- Where the parts of a view came from, and that embedded ones were built.
use Rattle.std.proofs.Common.{◌≡◌, ℕ, suc, Bool, true, false, cond, List, [], ◌∷◌, Option, Some, None, refl, sym, ap, subst, arith}
use Rattle.std.specs.Prelude.{if◌then◌else◌, Contains, Result, Ok, Err, bytes_eq, is_none, is_some, option_and_then, option_map, ◌&&◌}
use Rattle.std.specs.List.{AllByRecursion, cons_option}
use Rattle.std.specs.Option.{option_or}
use Rattle.rl_names.specs.declared.row.Row.{Row}
use Rattle.rl_build.specs.Sight.{Sight}
use Rattle.rl_build.specs.declared.context.Context.{Context}
use Rattle.rl_loadphp.specs.Body.{implementation_of, implementations}
use Rattle.rl_loadphp.specs.Embed.{private_names}
use Rattle.rl_view_spec.specs.Closure.{Text, row_of}
use Rattle.rl_view_spec.specs.Rows.{is_private}
use Rattle.rl_wire.specs.Reading as wire
use Rattle.rl_wire.specs.declared.part.Part.{Part}
use Rattle.rl_book_spec.specs.Given.{given_at_touch, given_by, given_in, given_to, outcome_of}
use Rattle.rl_book_spec.specs.Opening.{Opening, part_name, part_of, stored_of}
use Rattle.rl_book_spec.specs.declared.Call.{Call}
use Rattle.rl_book_spec.specs.declared.Call.TheVariants.{Using, Load, Take, Deliver, Lose}
use Rattle.rl_book_spec.specs.declared.Origin.{Origin}
use Rattle.rl_book_spec.specs.declared.Origin.TheVariants as origin
use Rattle.rl_book_spec.specs.declared.Stored.{Stored}
use Rattle.rl_stage_spec.specs.Headline.{EmbeddedIsBuilt, IsBuilt, seen_at_view}
use Rattle.rl_stage_spec.proofs.ViewsLemmas.{views_over}

-- ---- the call that gave a part

module _ (o : Opening) (name : Text) where
  abbrev ByCall : List Call → Part × Origin → Type 0
  ByCall past given = (call : Call) × Contains past call × (given_by o call name ≡ Some given)

  earlier : (call : Call) (past : List Call) (given : Part × Origin) → ByCall past given → ByCall (call ∷ past) given
  earlier call past given (by, (at, within, same), is) = (by, (suc at, omega arith, same), is)

  pub given_by_call : (past : List Call) (given : Part × Origin) → given_to o past name ≡ Some given → ByCall past given
  given_by_call [] given is = absurd (cc)
  given_by_call (call ∷ past) given is =
      step (is_none (outcome_of o past name) && is_some (outcome_of o (call ∷ past) name)) (λ e. given_by_call past given e) is
    where
      step : (b : Bool) → (given_to o past name ≡ Some given → ByCall past given)
          → (if b then given_by o call name else given_to o past name) ≡ Some given → ByCall (call ∷ past) given
      step true rest e = (call, (0, omega arith, refl), e)
      step false rest e = earlier call past given (rest e)

-- ---- embedded parts

abbrev the_part : Option (Part × Origin) → Option Part
the_part given = option_map (λ (g : Part × Origin). g.0) given

abbrev is_embedded : Option (Part × Origin) → Bool
is_embedded None = true
is_embedded (Some (part, origin.Embedded)) = true
is_embedded (Some (part, origin.Stored wire)) = false
is_embedded (Some (part, origin.Wire mark)) = false

abbrev pub from_embedded : Part → Part × Origin
from_embedded part = (part, origin.Embedded)

abbrev pub from_store : Stored → Part × Origin
from_store s = (s.part, origin.Stored s.wire)

abbrev pub from_there : Origin → Part → Part × Origin
from_there from part = (part, from)

embedded_at_touch : (part : Part) (found : Option Part) (b : Bool) (stored : Option Stored)
    → option_or (option_map from_embedded found)
    (if b then None else option_map from_store stored) ≡ Some (part, origin.Embedded)
    → found ≡ Some part
embedded_at_touch part (Some p) b stored is = ap the_part is
embedded_at_touch part None true stored is = absurd (cc)
embedded_at_touch part None false None is = absurd (cc)
embedded_at_touch part None false (Some s) is = let no_way : false ≡ true = ap is_embedded is in absurd (cc)

module _ (o : Opening) (part : Part) where
  abbrev WasEmbedded : Type 0
  WasEmbedded = (name : Text) × (part_of o.embedded name ≡ Some part)

  touched : (found : Option Row) → option_and_then (given_at_touch o) found ≡ Some (part, origin.Embedded) → WasEmbedded
  touched None is = absurd (cc)
  touched (Some row) is = (row.name, embedded_at_touch part (part_of o.embedded row.name) (is_private row.group) (stored_of o row) is)

  delivered : (name : Text) (read : Result (List Part) ℕ) (from : Origin) → is_embedded (Some (part, from)) ≡ false
      → given_in name read from ≡ Some (part, origin.Embedded) → WasEmbedded
  delivered name (Err line) from other is = absurd (cc)
  delivered name (Ok parts) from other is = step (part_of parts name) is
    where
      step : (found : Option Part) → option_map (from_there from) found ≡ Some (part, origin.Embedded) → WasEmbedded
      step None is = absurd (cc)
      step (Some p) is =
          let froms : Some from ≡ Some origin.Embedded = ap (option_map (λ (g : Part × Origin). g.1)) is in
          let no_way : is_embedded (Some (part, from)) ≡ true =
          ap (λ (f : Option Origin). is_embedded (option_map (λ (from : Origin). from_there from part) f)) froms in
          absurd (cc)

  embedded_call : (call : Call) (name : Text) → given_by o call name ≡ Some (part, origin.Embedded) → WasEmbedded
  embedded_call (Using names) name is = touched (row_of o.registered name) is
  embedded_call (Load names) name is = touched (row_of o.registered name) is
  embedded_call Take name is = absurd (cc)
  embedded_call (Deliver ask bytes mark) name is = delivered name (wire.answer_of bytes) (origin.Wire mark) refl is
  embedded_call (Lose ask mark) name is = absurd (cc)

-- ---- what is found among parts

pub found_part : (P : Part → Type 0) (parts : List Part) (name : Text) (part : Part) → AllByRecursion P parts → part_of parts name ≡ Some part → P part
found_part P [] name part all is = absurd (cc)
found_part P (p ∷ ps) name part all is = step (bytes_eq (part_name p) name) (λ e. found_part P ps name part all.1 e) is
  where
    step : (b : Bool) → (part_of ps name ≡ Some part → P part) → cond b (Some p) (part_of ps name) ≡ Some part → P part
    step true rest e = let same : p ≡ part = cc in subst P same all.0
    step false rest e = rest e

module _ (seen : Sight) (ctx : Context) where
  abbrev pub Made : Part → Type 0
  Made part = (name : Text) × (implementation_of seen ctx name ≡ Some part)

  pub all_made : (names : List Text) → AllByRecursion Made (implementations seen ctx names)
  all_made [] = tt
  all_made (name ∷ names) = step (implementation_of seen ctx name) refl (all_made names)
    where
      step : (made : Option Part) → implementation_of seen ctx name ≡ made → AllByRecursion Made (implementations seen ctx names)
          → AllByRecursion Made (cons_option made (implementations seen ctx names))
      step None is rest = rest
      step (Some part) is rest = ((name, is), rest)

pub embedded_is_built : EmbeddedIsBuilt
embedded_is_built throws c past v there name part is =
    let over = views_over throws c past v there in
    let by = given_by_call v.opening name v.past (part, origin.Embedded) is in
    let was = embedded_call v.opening part by.0 name by.2 in
    found_part (IsBuilt c v.entries v.viewer v.context) v.opening.embedded was.0 part
    (subst (λ (parts : List Part). AllByRecursion (IsBuilt c v.entries v.viewer v.context) parts) (sym over.embedded)
    (all_made (seen_at_view c v) v.context (private_names (seen_at_view c v) v.context)))
    was.1

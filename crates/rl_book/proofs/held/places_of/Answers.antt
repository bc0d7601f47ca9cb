use Rattle.std.proofs.Common.{◌≡◌, ◌+◌, ◌-◌, ℕ, List, Option, Some, None, length, drop, get_or, refl, ap, sym, ◌∙◌, arith}
use Rattle.std.proofs.lemmas.List.{length-replicate, length-set}
use Rattle.rl_view_spec.specs.Numbers.{number_of}
use Rattle.rl_wire.specs.declared.part.Part.{Part}
use Rattle.rl_book_spec.specs.Opening.{part_name}
use Rattle.rl_book.specs.Held.{firsts_of}
use Rattle.rl_book.proofs.HeldLemmas.{place_nowhere, place_put, places_first}
use Rattle.rl_book.proofs.held.places_of.Goals as goal

none_from : (P : Option ℕ → Type 0) → ((x : ℕ) → P (Some x) → ⊥) → (y : Option ℕ) → P y → y ≡ None
none_from P some None h = refl
none_from P some (Some x) h = absurd (some x h)

pub parts-init : goal.parts-init
parts-init c =
    let empty = c.in_ok-places.ensures.items_if_clones_equal (none_from _ (λ x e. e)) in
    record {
      low = omega arith;
      long = ap length empty ∙ length-replicate c.count.result None ∙ c.count.ensures.value;
      places = places_first c.args.registry.now c.args.parts.now c.in_ok-places.places.items c.count.result empty c.count.ensures.value;
    }

pub parts-preserved-in-Some : goal.parts-preserved-in-Some
parts-preserved-in-Some c =
    let parts : List Part = c.args.parts.now in
    let at : ℕ = c.parts.at - 1 in
    let next : c.parts.at ≡ at + 1 = omega (arith, c.parts-test.true) in
    let found : number_of c.args.registry.now (part_name (get_or parts at c.index-parts-at.result)) ≡ Some c.in-Some.row =
    sym (ap (number_of c.args.registry.now) (c.name_of.ensures ∙ ap part_name c.index-parts-at.is)) ∙ sym c.find.ensures.value ∙ c.in-Some.is in
    record {
      low = omega (arith, c.parts.invariant.low);
      long = length-set c.parts.places.items c.in-Some.row (Some at) ∙ c.parts.invariant.long;
      places =
          place_put c.args.registry.now parts c.parts.places.items at c.index-parts-at.result (omega (arith, c.parts-test.true, c.parts.invariant.low))
          (c.parts.invariant.places ∙ ap (λ (n : ℕ). firsts_of c.args.registry.now (drop n parts)) next)
          c.count.ensures.distinct c.in-Some.row found;
    }

pub parts-preserved : goal.parts-preserved
parts-preserved c =
    let parts : List Part = c.args.parts.now in
    let at : ℕ = c.parts.at - 1 in
    let next : c.parts.at ≡ at + 1 = omega (arith, c.parts-test.true) in
    let found : number_of c.args.registry.now (part_name (get_or parts at c.index-parts-at.result)) ≡ None =
    sym (ap (number_of c.args.registry.now) (c.name_of.ensures ∙ ap part_name c.index-parts-at.is)) ∙ sym c.find.ensures.value ∙ c.in_default.is in
    record {
      low = omega (arith, c.parts.invariant.low);
      long = c.parts.invariant.long;
      places =
          place_nowhere c.args.registry.now parts c.parts.places.items at c.index-parts-at.result (omega (arith, c.parts-test.true, c.parts.invariant.low))
          (c.parts.invariant.places ∙ ap (λ (n : ℕ). firsts_of c.args.registry.now (drop n parts)) next) found;
    }

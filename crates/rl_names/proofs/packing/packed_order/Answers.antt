use Rattle.std.proofs.Common.{◌≡◌, ◌+◌, ◌++◌, [], ◌∷◌, take, map, flat_map, ap, sym, ◌∙◌, append-nil}
use Rattle.std.proofs.lemmas.List.{take_more}
use Rattle.std.proofs.lemmas.Grind.{flat_map-append}
use Rattle.std.proofs.lemmas.List.{take_all}
use Rattle.rl_names.proofs.GroupingLemmas.{groups_order}
use Rattle.rl_names.proofs.packing.packed_order.Goals as goal

pub groups-preserved : goal.groups-preserved
groups-preserved c =
    let xs = c.deref-group-items.result.now in
    let i = c.groups.group-index in
    let y = c.group-item.result in
    let grown : take (i + 1) xs ≡ take i xs ++ y ∷ [] = take_more xs i y c.groups-test.true ∙ ap (λ z. take i xs ++ z ∷ []) (sym c.group-item.is) in
    c.in_ok-push_copies.ensures
    ∙ ap (λ l. l ++ map (λ n. n.now) c.deref.result.now) c.groups.invariant
    ∙ ap (λ g. flat_map (λ group. map (λ n. n.now) group.items) (take i xs) ++ map (λ n. n.now) g) c.deref.ensures.value
    ∙ ap (λ l. flat_map (λ group. map (λ n. n.now) group.items) (take i xs) ++ l) (sym (append-nil (map (λ n. n.now) y.items)))
    ∙ sym (flat_map-append (λ group. map (λ n. n.now) group.items) (take i xs) (y ∷ []))
    ∙ ap (flat_map (λ group. map (λ n. n.now) group.items)) (sym grown)

pub returns : goal.returns
returns c =
    c.groups.invariant
    ∙ ap (flat_map (λ group. map (λ n. n.now) group.items))
    (take_all c.groups.group-index c.deref-group-items.result.now c.groups-test.false ∙ c.deref-group-items.ensures.value)
    ∙ groups_order (λ group. map (λ n. n.now) group.items) c.in_ok-groups.groups.items c.args.names.now c.in_ok-groups.ensures.grouped

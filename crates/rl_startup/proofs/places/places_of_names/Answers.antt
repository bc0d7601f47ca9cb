use Rattle.std.proofs.Common.{◌≡◌, ◌+◌, ◌<◌, [], ◌∷◌, ◌++◌, length, take, sym, ap, ◌∙◌, arith}
use Rattle.std.proofs.lemmas.List.{length-map, length-take-le, map-append, take_more}
use Rattle.rl_startup.specs.declared.modules.Module.{Module}
use Rattle.rl_startup.specs.Places.{place_by}
use Rattle.rl_startup.specs.Rows.{names_of}
use Rattle.rl_startup.proofs.PlacesLemmas.{place_more}
use Rattle.rl_startup.proofs.places.places_of_names.Goals as goal

pub modules-preserved : goal.modules-preserved
modules-preserved c =
    let xs = c.args.modules.now in
    let i = c.modules.at in
    let y = c.index-modules-at.result in
    let within : i < length xs = omega arith in
    let more : take (i + 1) xs ≡ take i xs ++ y ∷ [] = take_more xs i y within ∙ ap (λ z. take i xs ++ z ∷ []) (sym c.index-modules-at.is) in
    let grown : names_of (take (i + 1) xs) ≡ names_of (take i xs) ++ c.as_str.result.now ∷ [] =
    ap names_of more ∙ map-append (λ (m : Module). m.name) (take i xs) (y ∷ []) ∙ ap (λ n. names_of (take i xs) ++ n ∷ []) (sym c.as_str.ensures) in
    let count : i ≡ length (names_of (take i xs)) = sym (length-map (take i xs) (λ (m : Module). m.name) ∙ length-take-le i xs (omega arith)) in
    λ q. c.in_ok-note.ensures q
    ∙ place_more (names_of (take i xs)) (names_of (take (i + 1) xs)) c.as_str.result.now q i (place_by c.modules.places q) grown count (c.modules.invariant q)

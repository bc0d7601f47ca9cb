use Rattle.std.proofs.Common.{◌≡◌, ◌+◌, ◌<◌, [], ◌∷◌, ◌++◌, length, take, sym, ap, ◌∙◌, arith}
use Rattle.std.proofs.lemmas.List.{length-take-le, take_more}
use Rattle.rl_startup.specs.Places.{place_by}
use Rattle.rl_startup.proofs.PlacesLemmas.{place_more}
use Rattle.rl_startup.proofs.places.places_of_texts.Goals as goal

pub texts-preserved : goal.texts-preserved
texts-preserved c =
    let xs = c.args.texts.now in
    let i = c.texts.at in
    let y = c.index-texts-at.result in
    let within : i < length xs = omega arith in
    let grown : take (i + 1) xs ≡ take i xs ++ c.as_str.result.now ∷ [] =
    take_more xs i y within ∙ ap (λ z. take i xs ++ z ∷ []) (sym c.index-texts-at.is) ∙ ap (λ z. take i xs ++ z ∷ []) (sym c.as_str.ensures) in
    let count : i ≡ length (take i xs) = sym (length-take-le i xs (omega arith)) in
    λ q. c.in_ok-note.ensures q ∙ place_more (take i xs) (take (i + 1) xs) c.as_str.result.now q i (place_by c.texts.places q) grown count
    (c.texts.invariant q)

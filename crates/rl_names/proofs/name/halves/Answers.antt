use Rattle.std.proofs.Common.{◌≡◌, ◌+◌, ◌-◌, get_or, drop, length-drop, true, arith, sym, ap, ◌∙◌, eq-eqb}
use Rattle.std.proofs.lemmas.List.{get_or-drop, take_rest}
use Rattle.rl_names.specs.Key.{is_at}
use Rattle.rl_names.proofs.CutLemmas.{cut_at, none_from_places, any_at}
use Rattle.rl_names.proofs.name.halves.Goals as goal

pub returns-then-bytes-at-eq64-clause-found : goal.returns-then-bytes-at-eq64-clause-found
returns-then-bytes-at-eq64-clause-found c =
    let bytes = c.args.bytes.now in
    let k = c.places.at - 1 in
    let here : is_at (get_or bytes k 0) ≡ true = eq-eqb (get_or bytes k 0) 64 c.if-bytes-at-eq64.true in
    let parts = cut_at is_at bytes k (omega arith) here (λ i later within. c.places.invariant i (omega arith) within) in
    let past : is_at (get_or (drop 1 bytes) (k - 1) 0) ≡ true = ap is_at (get_or-drop 1 bytes (k - 1) 0 ∙ ap (λ i. get_or bytes i 0) (omega arith))
    ∙ here in (
      any_at is_at (drop 1 bytes) (k - 1) (omega (arith, length-drop 1 bytes)) past,
      sym parts.2,
      take_rest bytes (k + 1) ∙ sym parts.1,
    )

pub returns-clause-none : goal.returns-clause-none
returns-clause-none c =
    none_from_places is_at (drop 1 c.args.bytes.now) (λ i within. ap is_at (get_or-drop 1 c.args.bytes.now i 0)
    ∙ c.places.invariant (1 + i) (omega arith) (omega (arith, length-drop 1 c.args.bytes.now)))

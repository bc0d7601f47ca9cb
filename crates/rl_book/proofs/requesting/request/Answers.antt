use Rattle.std.proofs.Common.{◌≡◌, ◌≢◌, ◌<◌, ℕ, List, length, ap, sym, subst, ◌∙◌}
use Rattle.std.specs.Prelude.{All, AllPairs}
use Rattle.rl_view_spec.specs.Closure.{Registered}
use Rattle.rl_view_spec.specs.Numbers.{closure_numbers}
use Rattle.rl_view.proofs.TouchesLemmas.{closure_within}
use Rattle.rl_book.proofs.AskedLemmas.{closure_once}
use Rattle.rl_book.proofs.requesting.request.Goals as goal

pub request_rows-requires-clause-within : goal.request_rows-requires-clause-within
request_rows-requires-clause-within c =
    let r : Registered = c.args.table.now.registered in
    let rows : c.as_slice.result.now ≡ closure_numbers r c.args.names.now =
    c.as_slice.ensures.value ∙ c.in_ok-rows.ensures.1 ∙ ap (λ (r : Registered). closure_numbers r c.args.names.now) c.registry.ensures in
    subst (λ (rows : List ℕ). All (λ row. row < length r.rows) rows) (sym rows) (closure_within r c.args.names.now)

pub request_rows-requires-clause-once : goal.request_rows-requires-clause-once
request_rows-requires-clause-once c =
    let r : Registered = c.args.table.now.registered in
    let rows : c.as_slice.result.now ≡ closure_numbers r c.args.names.now =
    c.as_slice.ensures.value ∙ c.in_ok-rows.ensures.1 ∙ ap (λ (r : Registered). closure_numbers r c.args.names.now) c.registry.ensures in
    subst (λ (rows : List ℕ). AllPairs (λ (a b : ℕ). a ≢ b) rows) (sym rows) (closure_once r c.args.names.now)

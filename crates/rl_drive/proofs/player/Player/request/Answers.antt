use Rattle.std.proofs.Common.{◌≡◌, ◌<◌, List, ℕ, None, length, refl, ap, sym, subst, ◌∙◌}
use Rattle.std.specs.Prelude.{All}
use Rattle.rl_view_spec.specs.Closure.{Registered, refusal_of}
use Rattle.rl_view_spec.specs.Numbers.{closure_numbers}
use Rattle.rl_view_spec.specs.Progress.{Progress}
use Rattle.rl_view_spec.specs.View.{log_of}
use Rattle.rl_states.specs.Changes.{after_touch}
use Rattle.rl_view.proofs.TouchesLemmas.{closure_within}
use Rattle.rl_drive.proofs.RefusingLemmas.{closures_same, due_touched}
use Rattle.rl_drive.proofs.player.Player.request.Goals as goal

pub touch-requires-clause-within : goal.touch-requires-clause-within
touch-requires-clause-within c =
    let r : Registered = c.args.self.now.table.registered in
    let rows : c.as_slice.result.now ≡ closure_numbers r c.args.names.now =
    c.as_slice.ensures.value ∙ c.in_ok-rows.ensures.1 ∙ ap (λ (r : Registered). closure_numbers r c.args.names.now) c.registry.ensures in
    subst (λ (rows : List ℕ). All (λ row. row < length r.rows) rows) (sym rows) (closure_within r c.args.names.now)

pub refuse_all-requires : goal.refuse_all-requires
refuse_all-requires c =
    let r : Registered = c.args.self.now.table.registered in
    let rows : c.as_slice-2.result.now ≡ closure_numbers r c.args.names.now =
    c.as_slice-2.ensures.value ∙ c.in_ok-rows.ensures.1 ∙ ap (λ (r : Registered). closure_numbers r c.args.names.now) c.registry.ensures in
    let same : c.touch.new.table.registered ≡ r = ap (λ (t : Progress). t.registered) c.touch.ensures in
    subst (λ (s : Registered). All (λ row. row < length s.rows) c.as_slice-2.result.now) (sym same)
    (subst (λ (rows : List ℕ). All (λ row. row < length r.rows) rows) (sym rows) (closure_within r c.args.names.now))

pub returns : goal.returns
returns c =
    let r : Registered = c.args.self.now.table.registered in
    let rows : c.as_slice.result.now ≡ closure_numbers r c.args.names.now =
    c.as_slice.ensures.value ∙ c.in_ok-rows.ensures.1 ∙ ap (λ (r : Registered). closure_numbers r c.args.names.now) c.registry.ensures in
    record {
      accepted = subst (λ (r : Registered). refusal_of r c.args.names.now ≡ None) c.registry.ensures c.in_ok-rows.ensures.0;
      event = λ v past s.
          c.refuse_all.ensures v c.args.names.now past
          (due_touched v c.args.names.now past c.args.self.now _ s (c.touch.ensures ∙ ap (λ (rows : List ℕ). after_touch rows c.args.self.now.table) rows)
          refl)
          (c.as_slice-2.ensures.value ∙ sym c.as_slice.ensures.value ∙ rows
          ∙ closures_same v c.args.names.now past (log_of v past) c.args.self.now s);
    }

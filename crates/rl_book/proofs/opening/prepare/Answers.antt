use Rattle.std.proofs.Common.{◌≡◌, ◌≤◌, ℕ, List, None, length, ap, subst, sym, ◌∙◌, arith, replicate}
use Rattle.std.specs.Prelude.{vec_capacity}
use Rattle.rl_view_spec.specs.Closure.{Text}
use Rattle.rl_wire.specs.Reading.{answer_of}
use Rattle.rl_wire.specs.declared.part.Part.{Part}
use Rattle.rl_book_spec.specs.declared.Plan.{Plan}
use Rattle.rl_book_spec.specs.declared.Stored.{Stored}
use Rattle.rl_book.specs.Held.{AreNamed, gifts_at, gifts_of}
use Rattle.rl_book.specs.Opens.{opening_of}
use Rattle.rl_book.specs.declared.opening.Ready.{Ready}
use Rattle.rl_book.proofs.OpenedLemmas.{made_ready}
use Rattle.rl_book.proofs.opening.prepare.Goals as goal

pub returns-clause-ready : goal.returns-clause-ready
returns-clause-ready c =
    let plan : Plan = c.args.plan.now in
    let stored : List Stored = c.args.store.now.pairs in
    let r : Ready = record {
      startup = c.in_ok-startup.startup;
      embedded = c.in_ok-embedded.embedded;
      places = c.in_ok-places.places;
      table = c.in_ok-table.table;
      delivered = c.in_ok-delivered.delivered;
      runs = c.in_ok-runs.runs;
    } in
    let says = c.in_ok-rows.ensures.rows in
    let made : c.in_ok-registry.registry ≡ record { rows = c.in_ok-rows.rows.items; features = plan.features } =
    c.in_ok-registry.ensures.1 ∙ ap (λ (features : List Text). record { rows = c.in_ok-rows.rows.items; features = features }) c.as_slice.ensures in
    let delivered : c.in_ok-delivered.delivered.items ≡ replicate (length c.in_ok-registry.registry.rows) None =
    c.in_ok-delivered.ensures ∙ ap (λ (n : ℕ). replicate n None) c.count-count.ensures.value in
    let room : length c.in_ok-registry.registry.rows ≤ vec_capacity c.in_ok-runs.runs =
    omega (arith, c.in_ok-runs.ensures.capacity, c.count-count.ensures.value) in
    made_ready r says.0 plan c.in_ok-registry.registry c.in_ok-rows.rows.items c.args.startup.now stored says.1 says.2 made
    (ap answer_of (sym c.as_bytes.ensures) ∙ c.in_ok-embedded.ensures)
    c.in_ok-registry.ensures.0 c.in_ok-startup.ensures c.count-count.ensures.few c.count-count.ensures.distinct c.in_ok-table.ensures.value
    (subst (λ (parts : List Part). gifts_at parts stored c.in_ok-places.places.items
    ≡ gifts_of (opening_of plan c.in_ok-registry.registry.rows parts stored)) c.as_slice-2.ensures.value c.in_ok-places.ensures.gifts)
    (subst (λ (parts : List Part). AreNamed (opening_of plan c.in_ok-registry.registry.rows parts stored)) c.as_slice-2.ensures.value
    c.in_ok-places.ensures.named)
    delivered c.in_ok-runs.ensures.items room

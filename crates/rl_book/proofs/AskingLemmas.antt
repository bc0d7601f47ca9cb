-- A request that is taken in is what the history says of its call.
use mathlib.Core.Path.{fun_ext}
use Rattle.std.proofs.Common.{◌≡◌, ◌-◌, List, [], ◌∷◌, Bool, not, length, Option, Some, None, refl, ap, sym, subst, ◌∙◌, arith}
use Rattle.std.specs.Prelude.{count_by, filter, if◌then◌else◌, is_none}
use Rattle.std.proofs.lemmas.List.Filters.{length-filter_both}
use Rattle.std.proofs.lemmas.List.Sums.{length-filter}
use Rattle.rl_names.specs.declared.row.Row.{Row}
use Rattle.rl_view_spec.specs.Closure.{Text, Registered, Refusal, refusal_of, resolves}
use Rattle.rl_view_spec.specs.Numbers.{closure_numbers}
use Rattle.rl_view_spec.specs.Progress.{Progress}
use Rattle.rl_view_spec.specs.Requests.{accepted, accepted_each}
use Rattle.rl_view_spec.specs.View.{View, Throws, log_of}
use Rattle.rl_view_spec.proofs.ResolveLemmas.{resolves_accepted, resolves_itself}
use Rattle.rl_view_spec.proofs.ToolsLemmas.{filter_contains}
use Rattle.rl_view.specs.Seen.{HasSeen, IsDue}
use Rattle.rl_view.proofs.ReadingsLemmas.{refusal_seen}
use Rattle.rl_wire.specs.declared.part.Part.{Part}
use Rattle.rl_book_spec.specs.Batches.{batches_of}
use Rattle.rl_book_spec.specs.Book.{event_of, events_of, request}
use Rattle.rl_book_spec.specs.Opening.{Opening, view_of}
use Rattle.rl_book_spec.specs.Traffic.{Traffic, batches_for, traffic_of, with_batches}
use Rattle.rl_book_spec.specs.declared.Batch.{Batch}
use Rattle.rl_book_spec.specs.declared.Call.{Call}
use Rattle.rl_book_spec.specs.declared.Call.TheVariants.{Using, Load}
use Rattle.rl_book_spec.specs.declared.Plan.{Plan}
use Rattle.rl_book_spec.specs.declared.Stored.{Stored}
use Rattle.rl_book.specs.Asking.{Touched, batches_left}
use Rattle.rl_book.specs.Held.{Gift, gifts_of}
use Rattle.rl_book.specs.Opens.{opening_of}
use Rattle.rl_book.proofs.AskedLemmas.{asked_due, left_rows}

-- what a call leads to: its event came, nothing ran for it yet, and what it asks for waits
pub record Follows (throws : Throws) (o : Opening) (past : List Call) (call : Call) (t : Progress) (q : Traffic) : Type 0 where
  pub due : IsDue (view_of throws o) (event_of o past call) (events_of o past) t
  pub traffic : q ≡ traffic_of o (call ∷ past)

module _ (throws : Throws) (plan : Plan) (rows : List Row) (parts : List Part) (stored : List Stored) (gifts : List Gift)
    (are : gifts ≡ gifts_of (opening_of plan rows parts stored)) (past : List Call) (t t' : Progress) (q q' : Traffic) where
  abbrev o : Opening
  o = opening_of plan rows parts stored

  abbrev v : View
  v = view_of throws o

  module _ (seen : HasSeen v (events_of o past) (log_of v (events_of o past)) t) (traffic : q ≡ traffic_of o past) where
    refused_alike : (names : List Text) → refusal_of t.registered names ≡ refusal_of o.registered names
    refused_alike names = refusal_seen v (events_of o past) (log_of v (events_of o past)) t seen names

    batches_alike : (names : List Text) → batches_left plan gifts t (closure_numbers t.registered names) ≡ batches_for o past names
    batches_alike names = ap (batches_of plan.base plan.limit) (left_rows throws o past (log_of v (events_of o past)) t names gifts are seen)

    -- names that are accepted
    came : (names : List Text) → Touched plan gifts (closure_numbers t.registered names) t t' q q'
        → IsDue v (request o names) (events_of o past) t' × (q' ≡ with_batches (batches_for o past names) (traffic_of o past))
    came names touched = (
      subst (λ (p : Progress). IsDue v (request o names) (events_of o past) p) (sym touched.table) (asked_due throws o past t names gifts are seen),
      touched.requests ∙ ap (λ (batches : List Batch). with_batches batches q) (batches_alike names)
          ∙ ap (with_batches (batches_for o past names)) traffic,
    )

    pub using_follows : (names : List Text) → refusal_of t.registered names ≡ None
        → Touched plan gifts (closure_numbers t.registered names) t t' q q' → Follows throws o past (Using names) t' q'
    using_follows names fine touched =
        let done = came names touched in
        let all : names ≡ accepted o.registered names =
        ap (λ (refusal : Option Refusal). if is_none refusal then names else []) (sym fine ∙ refused_alike names) in
        record {
          due = subst (λ (names : List Text). IsDue v (request o names) (events_of o past) t') all done.0;
          traffic = done.1 ∙ ap (λ (names : List Text). with_batches (batches_for o past names) (traffic_of o past)) all;
        }

    pub load_follows : (names asked : List Text) → asked ≡ accepted_each t.registered names
        → Touched plan gifts (closure_numbers t.registered asked) t t' q q' → Follows throws o past (Load names) t' q'
    load_follows names asked are touched =
        let done = came asked touched in
        let all : asked ≡ accepted_each o.registered names =
        are ∙ ap (λ (p : Text → Bool). filter p names) (fun_ext (λ name. ap is_none (refused_alike (name ∷ [])))) in
        record {
          due = subst (λ (names : List Text). IsDue v (request o names) (events_of o past) t') all done.0;
          traffic = done.1 ∙ ap (λ (names : List Text). with_batches (batches_for o past names) (traffic_of o past)) all;
        }

-- ---- load

-- what resolves is accepted
pub none_refused : (r : Registered) (names : List Text) (why : Refusal) → refusal_of r (accepted_each r names) ≡ Some why → ⊥
none_refused r names why e =
    let none : refusal_of r (accepted_each r names) ≡ None =
    resolves_accepted r (accepted_each r names) (λ name c. resolves_itself r name (filter_contains (resolves r) names name c).1) in
    let wrong : None ≡ Some why = sym none ∙ e in
    absurd (cc)

-- the places of the others
pub dropped_are : (r : Registered) (names : List Text) → length names - length (accepted_each r names) ≡ count_by (λ name. not (resolves r name)) names
dropped_are r names =
    let both = length-filter_both (resolves r) (λ name. not (resolves r name)) (λ name. refl) names in
    let others = length-filter (λ name. not (resolves r name)) names in
    omega (arith, both, others)

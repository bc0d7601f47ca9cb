-- How a request is taken in: what it changes, and what is asked for.
use Rattle.std.specs.Prelude.{◌≡◌, ℕ, List, count_by, not, None, Some, Result}
use Rattle.rl_names.specs.Meant.{ButForMemory}
use Rattle.rl_view_spec.specs.Closure.{Text, refusal_of, resolves}
use Rattle.rl_view_spec.specs.Numbers.{closure_numbers}
use Rattle.rl_view_spec.specs.Progress.{Progress}
use Rattle.rl_view_spec.specs.Requests.{accepted_each}
use Rattle.rl_registry.specs.Answered.{refusal_told}
use Rattle.rl_registry.specs.declared.error.ResolveError.{ResolveError}
use Rattle.rl_batch.specs.Given.{numbered_rows}
use Rattle.rl_book_spec.specs.Batches.{batches_of}
use Rattle.rl_book_spec.specs.Traffic.{Traffic, with_batches}
use Rattle.rl_book_spec.specs.declared.Batch.{Batch}
use Rattle.rl_book_spec.specs.declared.Plan.{Plan}
use Rattle.rl_book.specs.Held.{Gift}
use Rattle.rl_book.specs.Requesting.{after_request, left_of}

-- the batches that ask for those of these rows that are left
abbrev pub batches_left : Plan → List Gift → Progress → List ℕ → List Batch
batches_left plan gifts t rows = batches_of plan.base plan.limit (numbered_rows t.registered (left_of gifts t rows))

-- these rows are touched and answered, and those that are left are asked for
pub record Touched (plan : Plan) (gifts : List Gift) (rows : List ℕ) (t t' : Progress) (q q' : Traffic) : Type 0 where
  pub table : t' ≡ after_request gifts rows t
  pub requests : q' ≡ with_batches (batches_left plan gifts t rows) q

-- nothing changed
pub record Untouched (t t' : Progress) (q q' : Traffic) : Type 0 where
  pub table : t' ≡ t
  pub requests : q' ≡ q

-- the names are accepted, and the rows of their closures touched; or the request is refused as a whole
abbrev pub Asks : Result (Unit {0}) ResolveError → Plan → List Gift → List Text → Progress → Progress → Traffic → Traffic → Type 0
Asks result plan gifts names t t' q q' =
    ButForMemory refusal_told
    (λ _. (refusal_of t.registered names ≡ None) × Touched plan gifts (closure_numbers t.registered names) t t' q q')
    (λ refusal. refusal_of t.registered names ≡ Some refusal) result

-- each name that resolves is requested, and the places of the others are counted
pub record Loads (plan : Plan) (gifts : List Gift) (names : List Text) (dropped : ℕ) (t t' : Progress) (q q' : Traffic) : Type 0 where
  pub dropped_are : dropped ≡ count_by (λ name. not (resolves t.registered name)) names
  pub touched : Touched plan gifts (closure_numbers t.registered (accepted_each t.registered names)) t t' q q'

-- What a request changes of what a view keeps.
use Rattle.std.specs.Prelude.{◌&&◌, ℕ, List, Bool, filter, fold, if◌then◌else◌, is_none, not, option_and_then, option_map, slice_get}
use Rattle.std.specs.Prelude.{Option, Some, None}
use Rattle.rl_names.specs.declared.row.Group.{Group}
use Rattle.rl_view_spec.specs.Closure.{Registered}
use Rattle.rl_view_spec.specs.Progress.{Progress, is_skipped_at, is_touched_at}
use Rattle.rl_view_spec.specs.Rows.{is_private}
use Rattle.rl_view_spec.specs.View.{Answer, Failed, or_else}
use Rattle.rl_states.specs.Changes.{after_touch}
use Rattle.rl_view.specs.Seen.{given_to}
use Rattle.rl_book_spec.specs.Opening.{answer_of}
use Rattle.rl_book.specs.Held.{Gift, gift_for}

-- ---- the rows that a request touches

-- a row is answered by what it is given, or by an error where it is private
abbrev pub answer_by : Gift → Group → Option Answer
answer_by gift group = or_else (option_map (λ given. answer_of given.0) gift) (if is_private group then Some Failed else None)

-- what a row is answered with as soon as it is touched
abbrev pub answer_held_at : List Gift → Registered → ℕ → Option Answer
answer_held_at gifts r row = option_and_then (λ found. answer_by (gift_for gifts row) found.group) (slice_get r.rows row)

-- a row is given that answer, where it counts
abbrev pub after_held : List Gift → Progress → ℕ → Progress
after_held gifts t row = given_to row (answer_held_at gifts t.registered row) t

-- rows are touched, and then each is given its answer
abbrev pub after_request : List Gift → List ℕ → Progress → Progress
after_request gifts rows t = fold (after_held gifts) (after_touch rows t) rows

-- ---- what is asked for

-- a row waits where it was not touched before, is not skipped, and is not answered at once
abbrev pub is_left_at : List Gift → Progress → ℕ → Bool
is_left_at gifts t row = not (is_touched_at t row) && not (is_skipped_at t.registered row) && is_none (answer_held_at gifts t.registered row)

abbrev pub left_of : List Gift → Progress → List ℕ → List ℕ
left_of gifts t rows = filter (is_left_at gifts t) rows

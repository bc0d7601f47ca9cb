-- Why not everything that a script requests was served.
use Rattle.std.specs.Prelude.{ℕ, ◌+◌, ◌&&◌, ◌||◌, List, [], ◌∷◌, Bool, not, filter, find, flat_map, is_none, map, option_and_then}
use Rattle.std.specs.Prelude.{option_map, reverse, Option, Some, None}
use Rattle.std.specs.Option.{option_map_or, option_or}
use Rattle.rl_view_spec.specs.Closure.{Text, Registered, Refusal, Unknown, Cycle, closure_rows, is_skipped, least, refusal_of}
use Rattle.rl_view_spec.specs.View.{View, Event, Answer, Implementation, Missing, Throws, first_of, is_broken, state_of}
use Rattle.rl_script_spec.specs.Output.{events_of, is_ready}
use Rattle.rl_script_spec.specs.Script.{view_of, steps_of}
use Rattle.rl_script_spec.specs.declared.Blame.{Blame}
use Rattle.rl_script_spec.specs.declared.Blame.TheVariants as blames
use Rattle.rl_script_spec.specs.declared.Step.{Step}
use Rattle.rl_script_spec.specs.declared.Step.TheVariants.{Using, Load, Impl, State}
use Rattle.rl_script_spec.specs.declared.Unready.{Unready}
use Rattle.rl_script_spec.specs.declared.Unready.TheVariants.{Refused, NotReady}
use Rattle.rl_script_spec.specs.declared.Unresolved.TheVariants as unresolved

-- ---- a name that is not ready

-- it needs an answer and has none
abbrev pub is_awaited : View → List Event → Text → Bool
is_awaited v past name = not (is_skipped v.registered name) && is_none (first_of v past name)

-- A name is to blame by itself: nothing answered it, or it is missing, in error or given up, or it ran and threw. What only
-- waits for others, or is in error through them alone, is not.
abbrev pub is_to_blame : View → List Event → Text → Bool
is_to_blame v past name = is_awaited v past name || is_broken v past name

-- what a name that is to blame has done, by its first answer
abbrev pub blame_for : Option Answer → Blame
blame_for None = blames.Unanswered
blame_for (Some (Implementation version script)) = blames.Threw
blame_for (Some Missing) = blames.Missing
blame_for (Some other) = blames.Error

-- the names of the closure that are to blame, in row order
abbrev pub blamed : View → List Event → Text → List Text
blamed v past name = filter (is_to_blame v past) (map (λ row. row.name) (closure_rows v.registered (name ∷ [])))

-- the state of a name, and the least name in byte order that is to blame for it, if there is one
abbrev pub held_up : View → List Event → Text → Option Unready
held_up v past name = option_map (λ member. NotReady name (state_of v past name) member (blame_for (first_of v past member))) (least (blamed v past name))

-- ---- a request that was refused

-- the names that a step requests
abbrev pub names_of : Step → List Text
names_of (Using names) = names
names_of (Load names) = names
names_of (Impl key script) = []
names_of (State name kind) = []

abbrev pub refused : ℕ → Refusal → Unready
refused step (Unknown name) = Refused step name unresolved.Unknown
refused step (Cycle name) = Refused step name unresolved.Cycle

-- The first of these steps that was refused, or of which a name was dropped, by its number, with the least name to blame:
-- one that no row has, or else one that leads back to itself.
abbrev pub first_refused : Registered → ℕ → List Step → Option Unready
first_refused r number [] = None
first_refused r number (step ∷ steps) =
    option_map_or (λ refusal. Some (refused number refusal)) (refusal_of r (names_of step)) (first_refused r (number + 1) steps)

-- ---- a script

-- Of steps, the newest first, the first that was refused, and if none was, the first requested name that is not ready in
-- the end.
abbrev pub unready_of : View → List Step → Option Unready
unready_of v past =
    option_or (first_refused v.registered 1 (reverse past))
    (option_and_then (held_up v (events_of v.registered past))
    (find (λ name. not (is_ready (state_of v (events_of v.registered past) name))) (flat_map names_of (reverse past))))

-- of a script's bytes
abbrev pub unready_in : Throws → Text → Option Unready
unready_in throws bytes = unready_of (view_of throws bytes) (reverse (steps_of bytes))

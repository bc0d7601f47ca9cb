-- What `play` prints of a script over definitions, and whether everything was served.
use Rattle.std.specs.Prelude.{◌==◌, ◌&&◌, ◌++◌, ◌∷◌, [], List, Bool, true, false, codes}
use Rattle.std.specs.List.{list_all}
use Rattle.rl_defs.specs.Catalogue.{Catalogue}
use Rattle.rl_view_spec.specs.Closure.{Text}
use Rattle.rl_view_spec.specs.View.{Throws}
use Rattle.rl_script_spec.specs.Output.{are_ready, line}
use Rattle.rl_book_spec.specs.Traffic.{requested_by}
use Rattle.rl_reply.specs.declared.reply.Reply.{Reply}
use Rattle.rl_reply.specs.declared.reply.Reply.TheVariants as reply
use Rattle.rl_steps.specs.declared.step.Step.{Step}
use Rattle.rl_steps.specs.declared.step.Step.TheVariants.{Using, Load}
use Rattle.rl_stage_spec.specs.Replies.{events_in, printed_for, reply_to, view_in}
use Rattle.rl_stage_spec.specs.Session.{Session, Viewed, closed, session_of}
use Rattle.rl_stage_spec.specs.Summary.{all_told}

-- ---- steps, of which the newest stands first

-- the replies to all of them, each with the executions that it added
abbrev pub printed_of : Throws → Catalogue → List Step → Text
printed_of throws c [] = []
printed_of throws c (step ∷ past) = printed_of throws c past ++ printed_for throws (session_of throws c past) step

-- a request was refused, dropped names, or found no view
abbrev pub is_accepted : Step → Reply → Bool
is_accepted (Using names) reply.UsingOk = true
is_accepted (Using names) other = false
is_accepted (Load names) (reply.Dropped count) = count == 0
is_accepted (Load names) other = false
is_accepted step other = true

-- each request was accepted whole
abbrev pub all_accepted : Throws → Catalogue → List Step → Bool
all_accepted throws c [] = true
all_accepted throws c (step ∷ past) = all_accepted throws c past && is_accepted step (reply_to throws (session_of throws c past) step)

-- ---- the end

-- a view that is still open ends
abbrev pub finished : Throws → Catalogue → List Step → Session
finished throws c past = closed throws (session_of throws c past)

-- the replies to all steps, and then the summary of all views
abbrev pub output_of : Throws → Catalogue → List Step → Text
output_of throws c past = printed_of throws c past ++ line (codes "summary") ++ all_told throws 0 (finished throws c past).ended

-- each name that a view accepted is ready at its end
abbrev pub is_served : Throws → Viewed → Bool
is_served throws v = list_all (λ call. are_ready (view_in throws v) (events_in v) (requested_by v.opening.registered call)) v.past

-- each request was accepted whole, and each requested name is ready at the end of its view
abbrev pub all_ready : Throws → Catalogue → List Step → Bool
all_ready throws c past = all_accepted throws c past && list_all (λ e. is_served throws e.view) (finished throws c past).ended

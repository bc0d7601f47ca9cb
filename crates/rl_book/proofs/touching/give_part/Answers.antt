use Rattle.std.proofs.Common.{◌∙◌, ap, sym}
use Rattle.rl_view_spec.specs.declared.Outcome.{Outcome}
use Rattle.rl_states.specs.Changes.{after_outcome}
use Rattle.rl_view.specs.Seen.{after_answer}
use Rattle.rl_wire.specs.declared.part.Part.{Part}
use Rattle.rl_book_spec.specs.Opening.{answer_of}
use Rattle.rl_book.proofs.RequestingLemmas.{state_given}
use Rattle.rl_book.proofs.touching.give_part.Goals as goal

pub returns-in-State : goal.returns-in-State
returns-in-State g c =
    c.outcome-in-State.ensures.value
    ∙ ap (λ (outcome : Outcome). after_outcome c.args.row outcome c.args.table.now) (c.outcome_of.ensures c.in-State.name)
    ∙ state_given c.in-State.name c.in-State.kind c.args.row c.args.table.now
    ∙ ap (λ (part : Part). after_answer c.args.row (answer_of part) c.args.table.now) (sym c.in-State.is)

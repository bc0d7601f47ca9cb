use Rattle.std.proofs.Common.{◌≡◌, List, sym, subst, rules}
use Rattle.serde_json.specs.View.{members_view}
use Rattle.rl_names.specs.declared.part.Message.{Message}
use Rattle.rl_wire.specs.Message.{AreAscending}
use Rattle.rl_wire.specs.Reading.{messages_among}
use Rattle.rl_wire.proofs.JsonReadLemmas.{messages_ascend}
use Rattle.rl_wire.proofs.read.messages_in.Goals as goal

pub returns-clause-ascending : goal.returns-clause-ascending
returns-clause-ascending c =
    let value : c.members.messages.items ≡ messages_among (members_view c.args.members.entries) = search rules in
    subst (λ (ms : List Message). AreAscending ms) (sym value) (messages_ascend c.args.members.entries c.len.ensures.ordered)

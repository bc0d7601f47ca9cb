use Rattle.std.proofs.Common.{◌≡◌, List, sym, subst, rules}
use Rattle.serde_json.specs.View.{members_view}
use Rattle.rl_names.specs.declared.part.Source.{Source}
use Rattle.rl_wire.specs.Startup.{AreOrdered}
use Rattle.rl_wire.specs.StartupReading.{sources_among}
use Rattle.rl_wire.proofs.JsonReadLemmas.{sources_ordered}
use Rattle.rl_wire.proofs.sources.sources_among.Goals as goal

pub returns-clause-ordered : goal.returns-clause-ordered
returns-clause-ordered c =
    let value : c.members.sources.items ≡ sources_among (members_view c.args.members.entries) = search rules in
    subst (λ (ss : List Source). AreOrdered ss) (sym value) (sources_ordered c.args.members.entries c.len.ensures.ordered)

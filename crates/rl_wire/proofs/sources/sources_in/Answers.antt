use Rattle.std.proofs.Common.{◌≡◌, List, Option, option_map, subst, Vec, Global}
use Rattle.std.specs.Prelude.{IfOk}
use Rattle.rl_names.specs.declared.part.Source.{Source}
use Rattle.serde_json.specs.View.{view, members_view}
use Rattle.rl_wire.specs.StartupReading.{if_sources, sources_in}
use Rattle.rl_wire.proofs.StartupLoopingLemmas.{sources_made}
use Rattle.rl_wire.proofs.sources.sources_in.Goals as goal

pub returns-clause-value : goal.returns-clause-value
returns-clause-value c =
    let given = rw c.in-Some.is at c.in_ok-argument.ensures in
    let object = rw c.in-Some-object_in.is at c.object_in.ensures in
    let same : if_sources c.args.line.now c.in_ok-sources.sources.items ≡ sources_in c.args.line.now =
    sources_made c.args.line.now (view c.in-Some.argument) (members_view c.in-Some-object_in.members.entries) c.in_ok-sources.sources.items given object
    c.in_ok-sources.ensures.value in
    subst (λ (t : Option (List Source)). IfOk c.if_sources.result (λ found. option_map (λ (v : Vec Source Global). v.items) found ≡ t)) same
    c.if_sources.ensures.value

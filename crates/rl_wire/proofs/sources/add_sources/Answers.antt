use Rattle.std.proofs.Common.{codes}
use Rattle.rl_wire.specs.Line.{arguments_text}
use Rattle.rl_wire.specs.Startup.{sources_arguments}
use Rattle.rl_wire.proofs.AppendingLemmas.{append_then}
use Rattle.rl_wire.proofs.sources.add_sources.Goals as goal

pub returns-clause-text : goal.returns-clause-text
returns-clause-text c =
    append_then _ (codes "mw.loader.addSource(") _ _ _ c.in_ok-push_str.ensures.bytes
    (append_then _ (arguments_text (sources_arguments c.args.sources.now)) (codes ");") _ _ c.in_ok-add_arguments.ensures.text c.in_ok-push_str-2.ensures.bytes)

use Rattle.std.proofs.Common.{◌≡◌, List, sym, ◌∙◌, subst}
use Rattle.rl_names.specs.declared.row.Row.{Row}
use Rattle.rl_wire.specs.Startup.{AreOrdered}
use Rattle.rl_compact.specs.Compact.{compacted}
use Rattle.rl_startup.specs.Fine.{Fine}
use Rattle.rl_startup.specs.Registry.{this_wiki}
use Rattle.rl_startup.proofs.FineLemmas.{fine_compacted, fine_distinct, fine_lawful, fine_within}
use Rattle.rl_startup.proofs.registry.start_of.Goals as goal

pub compact-requires-clause-distinct : goal.compact-requires-clause-distinct
compact-requires-clause-distinct c = fine_distinct c.args.rows.items c.requires

pub compact-requires-clause-within : goal.compact-requires-clause-within
compact-requires-clause-within c = fine_within c.args.rows.items c.requires

left : (rows rest : List Row) → rest ≡ compacted rows → Fine rows → Fine rest
left rows rest is fine = subst Fine (sym is) (fine_compacted rows fine)

pub returns-clause-writable : goal.returns-clause-writable
returns-clause-writable c =
    let sources : c.of.result ≡ this_wiki = c.of.ensures ∙ c.in_ok-this_wiki.ensures in
    record {
      sources = subst AreOrdered (sym sources) (tt, tt);
      rows = (left c.args.rows.items c.of-2.result (c.of-2.ensures ∙ c.in_ok-rows.ensures) c.requires).writable;
    }

pub returns-clause-lawful : goal.returns-clause-lawful
returns-clause-lawful c = fine_lawful c.of-2.result (left c.args.rows.items c.of-2.result (c.of-2.ensures ∙ c.in_ok-rows.ensures) c.requires)

use Rattle.std.proofs.Common.{List, ◌++◌, subst, string_bytes, ap, ◌∙◌}
use Rattle.std.specs.List.{AllByRecursion}
use Rattle.rl_names.specs.declared.part.Source.{Source}
use Rattle.rl_names.specs.declared.row.Row.{Row}
use Rattle.rl_wire.specs.Startup.{sources_text, rows_text, AreSources, IsRow, IsStartup}
use Rattle.rl_wire.specs.StartupReading.{startup_of}
use Rattle.rl_wire.proofs.AppendingLemmas.{two_lines}
use Rattle.rl_wire.proofs.StartupAloneLemmas.{texts_say_startups}
use Rattle.rl_wire.proofs.startup.write_startup.Goals as goal

text : goal.returns-clause-text
text c =
    c.from_string.ensures
    ∙ two_lines (sources_text c.args.startup.now.sources) (rows_text c.args.startup.now.rows) _ _ _ _ _ c.new-out.ensures.bytes
    (c.in_ok-add_sources.ensures.text ∙ ap (λ ss. string_bytes c.new-out.result ++ sources_text ss) c.as_slice.ensures) c.in_ok-push_str.ensures.bytes
    (c.in_ok-add_rows.ensures.text ∙ ap (λ rows. string_bytes c.push_str.new.self ++ rows_text rows) c.as_slice-2.ensures) c.in_ok-push_str-2.ensures.bytes

pub returns-clause-text : goal.returns-clause-text
returns-clause-text c = text c

pub returns-clause-again : goal.returns-clause-again
returns-clause-again c =
    let is : IsStartup c.args.startup.now = record {
      sources = subst (λ (ss : List Source). AreSources ss) c.as_slice.ensures c.in_ok-add_sources.ensures.sources;
      rows = subst (λ (rows : List Row). AllByRecursion IsRow rows) c.as_slice-2.ensures c.in_ok-add_rows.ensures.rows;
    } in
    ap startup_of (text c) ∙ texts_say_startups.written c.args.startup.now is c.requires

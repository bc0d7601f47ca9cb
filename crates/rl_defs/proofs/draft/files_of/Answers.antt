use Rattle.std.proofs.Common.{◌≡◌, List, map, sym, subst, rules}
use Rattle.toml.specs.View.{table_view}
use Rattle.rl_defs.specs.declared.file.File.{File}
use Rattle.rl_defs.specs.Named.{AreNames}
use Rattle.rl_defs.specs.Draft.{files_of}
use Rattle.rl_defs.proofs.DraftsLemmas.{file_names}
use Rattle.rl_defs.proofs.draft.files_of.Goals as goal

pub returns-clause-names : goal.returns-clause-names
returns-clause-names c =
    let value : c.of.result ≡ files_of (table_view c.args.table) = search rules in
    subst (λ (xs : List File). AreNames (map (λ x. x.name) xs)) (sym value) (file_names c.args.table.entries c.len.ensures.ordered)

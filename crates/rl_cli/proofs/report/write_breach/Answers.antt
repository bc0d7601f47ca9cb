use Rattle.std.proofs.Common.{Some, sym, subst}
use Rattle.std.specs.Prelude.{codes}
use Rattle.std.specs.Fmt.{DisplaysOnOk}
use Rattle.rl_view_spec.specs.Closure.{Text}
use Rattle.rl_defs.specs.declared.error.CatalogError.{CatalogError}
use Rattle.rl_cli.specs.Told.{breach_line, had_line, named_line}
use Rattle.rl_cli.proofs.report.write_breach.Goals as goal

pub returns-in-BadDependency : goal.returns-in-BadDependency
returns-in-BadDependency g c =
    let Of : CatalogError → Type 0 = λ breach. DisplaysOnOk g.W.Write.write_str_gives c.args.f.now c.write_had.result
    (Some (breach_line c.args.file.now breach c.args.why)) c.write_had.new.f in
    let Owned : Text → Type 0 = λ owner. DisplaysOnOk g.W.Write.write_str_gives c.args.f.now c.write_had.result
    (Some (had_line c.args.file.now owner (codes "depends on") c.as_str-in-BadDependency-2.result.now (codes "is no module") c.args.why)) c.write_had.new.f
    in
    let Named : Text → Type 0 = λ name. DisplaysOnOk g.W.Write.write_str_gives c.args.f.now c.write_had.result
    (Some (had_line c.args.file.now c.in-BadDependency.owner (codes "depends on") name (codes "is no module") c.args.why)) c.write_had.new.f in
    subst Of (sym c.in-BadDependency.is) (subst Named c.as_str-in-BadDependency-2.ensures (subst Owned c.as_str-in-BadDependency.ensures c.write_had.ensures))

pub returns-in-NoFile : goal.returns-in-NoFile
returns-in-NoFile g c =
    let Of : CatalogError → Type 0 = λ breach. DisplaysOnOk g.W.Write.write_str_gives c.args.f.now c.write_had-in-NoFile.result
    (Some (breach_line c.args.file.now breach c.args.why)) c.write_had-in-NoFile.new.f in
    let Owned : Text → Type 0 = λ owner. DisplaysOnOk g.W.Write.write_str_gives c.args.f.now c.write_had-in-NoFile.result
    (Some (had_line c.args.file.now owner (codes "lists the file") c.as_str-in-NoFile-2.result.now (codes "is not there") c.args.why))
    c.write_had-in-NoFile.new.f in
    let Named : Text → Type 0 = λ name. DisplaysOnOk g.W.Write.write_str_gives c.args.f.now c.write_had-in-NoFile.result
    (Some (had_line c.args.file.now c.in-NoFile.owner (codes "lists the file") name (codes "is not there") c.args.why)) c.write_had-in-NoFile.new.f in
    subst Of (sym c.in-NoFile.is) (subst Named c.as_str-in-NoFile-2.ensures (subst Owned c.as_str-in-NoFile.ensures c.write_had-in-NoFile.ensures))

pub returns-in-BadChain : goal.returns-in-BadChain
returns-in-BadChain g c =
    let Of : CatalogError → Type 0 = λ breach. DisplaysOnOk g.W.Write.write_str_gives c.args.f.now c.write_named-in-BadChain.result
    (Some (breach_line c.args.file.now breach c.args.why)) c.write_named-in-BadChain.new.f in
    let Named : Text → Type 0 = λ name. DisplaysOnOk g.W.Write.write_str_gives c.args.f.now c.write_named-in-BadChain.result
    (Some (named_line c.args.file.now (codes "the language") name (codes "has bad fallbacks") c.args.why)) c.write_named-in-BadChain.new.f in
    subst Of (sym c.in-BadChain.is) (subst Named c.as_str-in-BadChain.ensures c.write_named-in-BadChain.ensures)

pub returns-in-BadSource : goal.returns-in-BadSource
returns-in-BadSource g c =
    let Of : CatalogError → Type 0 = λ breach. DisplaysOnOk g.W.Write.write_str_gives c.args.f.now c.write_named-in-BadSource.result
    (Some (breach_line c.args.file.now breach c.args.why)) c.write_named-in-BadSource.new.f in
    let Named : Text → Type 0 = λ name. DisplaysOnOk g.W.Write.write_str_gives c.args.f.now c.write_named-in-BadSource.result
    (Some (named_line c.args.file.now (codes "module") name (codes "has an unknown source") c.args.why)) c.write_named-in-BadSource.new.f in
    subst Of (sym c.in-BadSource.is) (subst Named c.as_str-in-BadSource.ensures c.write_named-in-BadSource.ensures)

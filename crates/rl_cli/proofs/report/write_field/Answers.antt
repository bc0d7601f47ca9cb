use Rattle.std.proofs.Common.{Some, sym, subst}
use Rattle.std.specs.Prelude.{codes}
use Rattle.std.specs.Fmt.{DisplaysOnOk}
use Rattle.rl_view_spec.specs.Closure.{Text}
use Rattle.rl_defs.specs.declared.error.FieldKind.{FieldKind}
use Rattle.rl_cli.specs.Told.{field_line, had_line}
use Rattle.rl_cli.proofs.report.write_field.Goals as goal

pub returns-in-OfModule : goal.returns-in-OfModule
returns-in-OfModule g c =
    let Of : FieldKind → Type 0 = λ kind. DisplaysOnOk g.W.Write.write_str_gives c.args.f.now c.write_had.result
    (Some (field_line c.args.file.now kind c.args.owner.now c.args.field.now c.args.why)) c.write_had.new.f in
    let Owned : Text → Type 0 = λ owner. DisplaysOnOk g.W.Write.write_str_gives c.args.f.now c.write_had.result
    (Some (had_line c.args.file.now owner (codes "has the field") c.as_str-field.result.now (codes "is unknown or has a bad value") c.args.why))
    c.write_had.new.f in
    let Named : Text → Type 0 = λ field. DisplaysOnOk g.W.Write.write_str_gives c.args.f.now c.write_had.result
    (Some (had_line c.args.file.now c.args.owner.now (codes "has the field") field (codes "is unknown or has a bad value") c.args.why))
    c.write_had.new.f in
    subst Of (sym c.in-OfModule.is) (subst Named c.as_str-field.ensures (subst Owned c.as_str-owner.ensures c.write_had.ensures))

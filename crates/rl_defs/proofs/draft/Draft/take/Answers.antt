use Rattle.std.proofs.lemmas.Result.{err_from_is_err_and}
use Rattle.rl_defs.proofs.TakenLemmas.{files_refused}
use Rattle.rl_defs.proofs.draft.Draft.take.Goals as goal

pub returns-in_err-self-in-files-clause-told : goal.returns-in_err-self-in-files-clause-told
returns-in_err-self-in-files-clause-told c =
    let p = err_from_is_err_and c.from_residual-in_err-self-in-files.result c.from_residual-in_err-self-in-files.ensures.1 in
    rw (p.1, p.2) (files_refused c.args.key.now c.args.value c.in-Table.table c.in_err-self-in-files.field-0.0 c.in-files.is c.in-Table.is
    c.in_err-self-in-files.ensures.value)

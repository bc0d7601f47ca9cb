use Rattle.std.proofs.Common.{◌≡◌, subst, rules, string_bytes}
use Rattle.std.specs.Str.{IsUtf8}
use Rattle.std.proofs.lemmas.Str.{IsUtf8-string_bytes}
use Rattle.rl_wire.proofs.values.take_out.Goals as goal

pub returns-clause-utf8 : goal.returns-clause-utf8
returns-clause-utf8 c =
    let same : string_bytes c.replace-held.result ≡ c.new-2.result.before = search rules in
    subst IsUtf8 same (IsUtf8-string_bytes c.replace-held.result)

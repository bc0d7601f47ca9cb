use Rattle.std.proofs.Common.{◌≡◌, take, string_bytes}
use Rattle.std.specs.List.{flat_map}
use Rattle.rl_build.specs.Payload.{file_lines}
use Rattle.rl_build.proofs.texts.joined.Given as goal

abbrev pub invariant-files : goal.invariant-files
invariant-files l = string_bytes l.out ≡ flat_map (file_lines l.catalog) (take l.file-index l.file-items)

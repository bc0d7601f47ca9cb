use Rattle.std.proofs.Common.{ap, ◌∙◌}
use Rattle.rl_names.specs.Hash.{hash_5}
use Rattle.rl_build.proofs.payloads.version.Goals as goal

-- The hash is compared by its text: computed on a text that is not there yet, it has no end.
pub returns : goal.returns
returns c = c.hash5.ensures ∙ ap hash_5 (c.as_bytes.ensures ∙ c.in_ok-text.ensures)

use Rattle.std.proofs.lemmas.Str.{IsUtf8-append}
use Rattle.rl_wire.proofs.values.text_of.Goals as goal

pub from_utf8_unchecked-requires : goal.from_utf8_unchecked-requires
from_utf8_unchecked-requires c = rw c.into_inner.ensures.items (IsUtf8-append _ _ c.requires c.into_inner.ensures.utf8)

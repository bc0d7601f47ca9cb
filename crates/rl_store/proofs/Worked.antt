-- Stores, computed on the definitions.
use Rattle.std.proofs.Common.{◌≡◌, refl}
use Rattle.std.specs.Prelude.{codes}
use Rattle.std.specs.Fmt.{digits}
use Rattle.serde_json.proofs.OnLiterals.{serde_json_on_literals}
use Rattle.rl_store.specs.Stock.{Stock, nothing_for, note_of, stock_text}
use Rattle.rl_store.specs.declared.note.Note.TheVariants.{Fresh, OtherVary, Expired}

abbrev nothing : Stock
nothing = record (nothing_for (codes "vector|1|en")) { as_of = 170000 }

text : stock_text nothing ≡ codes "{\"asOf\":170000,\"items\":{},\"vary\":\"vector|1|en\"}"
unfolding digits serde_json_on_literals
text = refl

fresh : note_of nothing (codes "vector|1|en") 1702589999999 ≡ Fresh
fresh = refl

expired : note_of nothing (codes "vector|1|en") 1702590000000 ≡ Expired 170000
expired = refl

other : note_of nothing (codes "vector|1|de") 0 ≡ OtherVary
other = refl

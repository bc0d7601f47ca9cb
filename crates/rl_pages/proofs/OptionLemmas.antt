-- A map of borrowed texts, shown as options.
use Rattle.std.proofs.Common.{◌≡◌, ℕ, List, [], ◌∷◌, map, refl, ap, Bor}
use Rattle.std.specs.BTreeMap.{insert_entry}
use Rattle.std.specs.Cmp.Lexicographic.{slice_cmp}
use Rattle.std.specs.Ordering.{nat_cmp, match_ordering}
use Rattle.std.specs.declared.cmp.Ordering.{Ordering}
use Rattle.std.specs.declared.cmp.Ordering.TheVariants.{Less, Equal, Greater}
use Rattle.rl_names.specs.declared.part.Message.{Message}
use Rattle.rl_pages.specs.History.{put_option}

abbrev Pair : Type 0
Pair = Bor (List ℕ) × Bor (List ℕ)

abbrev pub shown : Pair → Message
shown option = record { key = option.0.now; text = option.1.now }

abbrev key_cmp : Bor (List ℕ) → Bor (List ℕ) → Ordering
key_cmp x y = slice_cmp nat_cmp x.now y.now

step : (o : Ordering) (k v : Bor (List ℕ)) (e : Pair) (more es : List Pair) (put : List Message) → map shown more ≡ put
    → map shown (match_ordering o ((k, v) ∷ e ∷ es) ((e.0, v) ∷ es) (e ∷ more))
    ≡ match_ordering o (record { key = k.now; text = v.now } ∷ shown e ∷ map shown es)
    (record (shown e) { text = v.now } ∷ map shown es) (shown e ∷ put)
step Less k v e more es put later = refl
step Equal k v e more es put later = refl
step Greater k v e more es put later = ap (λ ms. shown e ∷ ms) later

pub shown-insert : (es : List Pair) (k v : Bor (List ℕ)) → map shown (insert_entry key_cmp es k v) ≡ put_option k.now v.now (map shown es)
shown-insert [] k v = refl
shown-insert (e ∷ es) k v = step (key_cmp k e.0) k v e (insert_entry key_cmp es k v) es (put_option k.now v.now (map shown es)) (shown-insert es k v)

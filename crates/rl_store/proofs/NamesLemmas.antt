-- A name can be told from a key text.
use Rattle.std.proofs.Common.{◌≡◌, ◌<◌, length, get_or, Result, Ok, ap, sym, ◌∙◌, arith, inl, inr}
use Rattle.std.specs.Prelude.{IsTrue}
use Rattle.std.proofs.lemmas.List.{get_or-map, length-map}
use Rattle.std.proofs.lemmas.List.Elements.{All-from_recursion}
use Rattle.std.proofs.lemmas.Option.{slice_get_cases}
use Rattle.rl_names.specs.Key.{key_of, KeyFault}
use Rattle.rl_names.specs.Name.{is_name, is_version}
use Rattle.rl_names.specs.declared.name.Key.{Key}
use Rattle.rl_names.proofs.KeyLemmas.{key_texts}
use Rattle.rl_view_spec.specs.Closure.{Text}
use Rattle.rl_book_spec.specs.Closing.{key_bytes}
use Rattle.rl_book_spec.specs.declared.Stored.{Stored}
use Rattle.rl_store.specs.Merging.{NamesTellKeys}

abbrev IsKey : Stored → Type 0
IsKey stored = IsTrue (is_name stored.key.name) × IsTrue (is_version stored.key.version)

name_in : Result Key KeyFault → Text → Text
name_in (Ok key) other = key.name
name_in other text = text

one_name : (a b : Stored) → IsKey a → IsKey b → key_bytes a.key ≡ key_bytes b.key → a.key.name ≡ b.key.name
unfolding name_in
one_name a b p q e = ap (λ (r : Result Key KeyFault). name_in r a.key.name)
    (sym (key_texts.written a.key p.0 p.1) ∙ ap key_of e ∙ key_texts.written b.key q.0 q.1)

pub names_tell : NamesTellKeys
names_tell pairs keys names i j d before within = λ same.
    let n = length-map pairs (λ (s : Stored). key_bytes s.key) in
    let low : j < length pairs = omega (arith, n, within) in
    let first : i < length pairs = omega (arith, low, before) in
    elim (slice_get_cases pairs j).1 [
      | inl at ↦
          let a = get_or pairs i at.0 in
          let b = get_or pairs j at.0 in
          let one = get_or-map (λ (s : Stored). key_bytes s.key) pairs i at.0 d first in
          let other = get_or-map (λ (s : Stored). key_bytes s.key) pairs j at.0 d low in
          names i j at.0 before low
          (one_name a b (All-from_recursion IsKey pairs keys i at.0 first) (All-from_recursion IsKey pairs keys j at.0 low) (sym one ∙ same ∙ other))
      | inr past ↦ absurd (omega arith)
    ]

-- A record that was written is read as the entry.
use Rattle.std.proofs.Common.{◌≡◌, ℕ, List, bytes_eq, true, refl, sym, ap, ◌∙◌, Some, None}
use Rattle.std.specs.Prelude.{if◌then◌else◌}
use Rattle.std.specs.Str.{IsUtf8, is_utf8}
use Rattle.std.proofs.lemmas.Bool.{false_from_ne_true}
use Rattle.std.proofs.lemmas.Slice.Eq.{bytes_eq-Decides}
use Rattle.std.proofs.lemmas.Str.{IsUtf8-from_is_utf8, is_utf8-from_IsUtf8}
use Rattle.rl_names.specs.Title.{title_of}
use Rattle.rl_pages.specs.declared.entry.Entry.TheVariants.{Edit, Choice}
use Rattle.rl_keeper.specs.Record.{is_spelt_title, RecordsAreReadAgain}

same_bytes : (xs : List ℕ) → bytes_eq xs xs ≡ true
same_bytes xs = (bytes_eq-Decides xs xs).1 refl

pub spelt_title : (title : List ℕ) → title_of title ≡ Some title → is_spelt_title title ≡ true
spelt_title title is = rw is (same_bytes title)

pub read_again : RecordsAreReadAgain
read_again number (Edit by title text) h = rw (is_utf8-from_IsUtf8 by h.0, spelt_title title h.1, is_utf8-from_IsUtf8 text h.2) refl
read_again number (Choice user key value) h = rw (is_utf8-from_IsUtf8 user h.0, is_utf8-from_IsUtf8 key h.1, is_utf8-from_IsUtf8 value h.2) refl

pub text_of : (bytes text : List ℕ) → IsUtf8 bytes → text ≡ bytes → Some text ≡ (if is_utf8 bytes then Some bytes else None)
text_of bytes text u is = ap Some is ∙ sym (ap (λ b. if b then Some bytes else None) (is_utf8-from_IsUtf8 bytes u))

pub no_text : (bytes : List ℕ) → ¬ (IsUtf8 bytes) → None ≡ (if is_utf8 bytes then Some bytes else None)
no_text bytes bad = sym (ap (λ b. if b then Some bytes else None) (false_from_ne_true (is_utf8 bytes) (λ e. bad (IsUtf8-from_is_utf8 bytes e))))

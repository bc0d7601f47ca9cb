-- What was taken is taken again.
use Rattle.std.proofs.Common.{◌≡◌, ◌+◌, true, false, List, [], ◌∷◌, ◌++◌, length, nat_le}
use Rattle.std.proofs.Common.{nat_lt, None, Ok, refl, sym, ◌∙◌, subst, arith, length-append, append_assoc}
use Rattle.std.specs.List.{list_all}
use Rattle.std.proofs.lemmas.Bool.{and_parts, le-ltb, lt-leb}
use Rattle.std.proofs.lemmas.List.Folds.{list_all-append}
use Rattle.std.proofs.lemmas.List.Sums.{sum_by-append}
use Rattle.rl_pages.specs.declared.limits.TheConstants as limits
use Rattle.rl_pages.specs.declared.entry.Entry.{Entry}
use Rattle.rl_pages.specs.History.{bytes_of, size_of}
use Rattle.rl_pages.specs.Refusals.{checked_kept, is_full, is_kept, IsAccepted}
use Rattle.rl_wiki.specs.Opening.{first_bad_after, HistoriesOpenAgain}

module _ (done : List Entry) (e : Entry) (es : List Entry) (a : IsAccepted (done ++ e ∷ es)) where
  keeps : is_kept e ≡ true
  keeps =
      let parts = and_parts (list_all is_kept done) (list_all is_kept (e ∷ es)) (sym (list_all-append is_kept done (e ∷ es)) ∙ a.kept) in
      (and_parts (is_kept e) (list_all is_kept es) parts.1).0

  has_room : is_full done (size_of e) ≡ false
  has_room =
      let longer : length (done ++ e ∷ es) ≡ length done + length (e ∷ es) = length-append done (e ∷ es) in
      let larger : bytes_of (done ++ e ∷ es) ≡ bytes_of done + bytes_of (e ∷ es) = sum_by-append size_of done (e ∷ es) in
      let first : bytes_of (e ∷ es) ≡ (0 + size_of e) + bytes_of es = sum_by-append size_of (e ∷ []) es in
      let few : nat_le limits.MAX_ENTRIES (length done) ≡ false = lt-leb limits.MAX_ENTRIES (length done) (omega (arith, longer, a.few)) in
      let small : nat_lt limits.MAX_ENTRY_BYTES (bytes_of done + size_of e) ≡ false =
      le-ltb limits.MAX_ENTRY_BYTES (bytes_of done + size_of e) (omega (arith, larger, first, a.small)) in
      rw (few, small) refl

  taken : checked_kept done e ≡ Ok e
  taken = rw (keeps, has_room) refl

none_bad_after : (done es : List Entry) → IsAccepted (done ++ es) → first_bad_after done es ≡ None
none_bad_after done [] a = refl
none_bad_after done (e ∷ es) a = rw (taken done e es a) (none_bad_after (done ++ e ∷ []) es (subst IsAccepted (sym (append_assoc done (e ∷ []) es)) a))

pub none_bad : HistoriesOpenAgain
none_bad entries a = none_bad_after [] entries a

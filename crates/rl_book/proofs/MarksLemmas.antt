-- Marks of numbers.
use Rattle.std.proofs.Common.{◌≡◌, ℕ, ◌+◌, ◌<◌, List, [], ◌∷◌, ◌++◌, Bool, true, false, ◌||◌, length, get_or, take, replicate}
use Rattle.std.proofs.Common.{Some, refl, ap, sym, subst, ◌∙◌, ⊎_elim, nat_eq}
use Rattle.std.specs.Prelude.{slice_get, slice_set}
use Rattle.std.specs.List.{list_any}
use Rattle.std.proofs.lemmas.Bool.{cases_Bool, eq-eqb, eqb-true}
use Rattle.std.proofs.lemmas.List.{get_or-replicate, length-replicate, length-set, take_more}
use Rattle.std.proofs.lemmas.List.Folds.{list_any-append}
use Rattle.std.proofs.lemmas.Option.{slice_get-get_or}
use Rattle.rl_view.proofs.ListsLemmas.{set_here, set_other}
use Rattle.rl_book.specs.Delivering.{AreMarks}

pub marks_begin : (count : ℕ) (marks : List Bool) → marks ≡ replicate count false → AreMarks [] count marks
marks_begin count marks e = subst (AreMarks [] count) (sym e) (record {
  long = length-replicate count false;
  each = λ row low.
      slice_get-get_or (replicate count false) row false (subst (λ (n : ℕ). row < n) (sym (length-replicate count false)) low)
      ∙ ap (λ (mark : Bool). Some mark) (get_or-replicate count row false false low);
})

or_none : (b : Bool) → (b || (false || false)) ≡ b
or_none true = refl
or_none false = refl

or_last : (b : Bool) → (b || (true || false)) ≡ true
or_last true = refl
or_last false = refl

mark_one : (rows : List ℕ) (new count : ℕ) (marks : List Bool) → AreMarks rows count marks → new < count
    → AreMarks (rows ++ new ∷ []) count (slice_set marks new true)
mark_one rows new count marks are low = record {
  long = length-set marks new true ∙ are.long;
  each = λ row within. ⊎_elim
      (λ e. let same : row ≡ new = eqb-true row new e in
      ap (slice_get (slice_set marks new true)) same
      ∙ set_here marks new (list_any (nat_eq new) rows) true (are.each new low)
      ∙ ap (λ (mark : Bool). Some mark) (sym (list_any-append (nat_eq row) rows (new ∷ [])
      ∙ ap (λ (b : Bool). list_any (nat_eq row) rows || (b || false)) e ∙ or_last (list_any (nat_eq row) rows))))
      (λ e. set_other marks new row true (λ same. absurd (apart row new e same))
      ∙ are.each row within
      ∙ ap (λ (mark : Bool). Some mark) (sym (list_any-append (nat_eq row) rows (new ∷ [])
      ∙ ap (λ (b : Bool). list_any (nat_eq row) rows || (b || false)) e ∙ or_none (list_any (nat_eq row) rows))))
      (cases_Bool (nat_eq row new));
}
  where
    apart : (row new : ℕ) → nat_eq row new ≡ false → row ≡ new → ⊥
    apart row new e same = let there : nat_eq row new ≡ true = eq-eqb row new same in cc

pub marks_more : (rows : List ℕ) (at d count : ℕ) (marks : List Bool) → at < length rows → AreMarks (take at rows) count marks
    → get_or rows at d < count → AreMarks (take (at + 1) rows) count (slice_set marks (get_or rows at d) true)
marks_more rows at d count marks within are low =
    subst (λ (xs : List ℕ). AreMarks xs count (slice_set marks (get_or rows at d) true)) (sym (take_more rows at d within))
    (mark_one (take at rows) (get_or rows at d) count marks are low)

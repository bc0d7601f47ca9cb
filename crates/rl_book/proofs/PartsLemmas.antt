-- What is kept of the parts that rows were given.
use Rattle.std.proofs.Common.{◌≡◌, ℕ, ◌<◌, List, [], ◌∷◌, Bool, true, false, ◌&&◌, length, Option, Some, None, ap, sym, subst, ◌∙◌, replicate}
use Rattle.std.specs.Prelude.{if◌then◌else◌, is_none, is_some, option_and_then, slice_get}
use Rattle.std.proofs.lemmas.List.{get_or-replicate, length-replicate}
use Rattle.std.proofs.lemmas.Option.{get_or_from_slice_get, slice_get_within}
use Rattle.rl_view_spec.specs.Closure.{Text, row_of}
use Rattle.rl_view_spec.specs.Progress.{name_at}
use Rattle.rl_wire.specs.declared.part.Part.{Part}
use Rattle.rl_book_spec.specs.Given.{given_at_touch, given_by, given_to, outcome_of}
use Rattle.rl_book_spec.specs.Opening.{Opening}
use Rattle.rl_book_spec.specs.declared.Call.{Call}
use Rattle.rl_book_spec.specs.declared.Call.TheVariants.{Using, Load, Take, Lose}
use Rattle.rl_book_spec.specs.declared.Origin.{Origin}
use Rattle.rl_book_spec.specs.declared.Origin.TheVariants as origin
use Rattle.rl_book_spec.proofs.LaterLemmas.{given_stays}
use Rattle.rl_book.specs.Kept.{KeepsPart, KeepsParts}
use Rattle.rl_book.specs.declared.given.Delivered.{Delivered}

-- nothing was given yet
none_kept : (n row : ℕ) (kept : Option Delivered) → slice_get (replicate n None) row ≡ Some kept → kept ≡ None
none_kept n row kept there =
    let xs : List (Option Delivered) = replicate n None in
    let low = slice_get_within xs row kept there in
    sym (get_or_from_slice_get xs row kept None there) ∙ get_or-replicate n row None None (subst (λ (m : ℕ). row < m) (length-replicate n None) low)

pub fresh_parts : (o : Opening) (delivered : List (Option Delivered)) → delivered ≡ replicate (length o.registered.rows) None → KeepsParts o [] delivered
fresh_parts o delivered e = record {
  long = ap length e ∙ length-replicate (length o.registered.rows) None;
  each = λ row kept there. first row kept (none_kept (length o.registered.rows) row kept
      (ap (λ (xs : List (Option Delivered)). slice_get xs row) (sym e) ∙ there));
}
  where
    first : (row : ℕ) (kept : Option Delivered) → kept ≡ None → KeepsPart o [] (name_at o.registered row) kept
    first row None e = λ given g. cc
    first row (Some kept) e = cc

-- a call gives a name nothing but what it has from its first touch
abbrev pub GivesAtTouch : Opening → Call → Type 0
GivesAtTouch o call =
    (name : Text) (given : Part × Origin) → given_by o call name ≡ Some given → option_and_then (given_at_touch o) (row_of o.registered name) ≡ Some given

part_stays : (o : Opening) (past : List Call) (call : Call) (name : Text) (kept : Option Delivered) → GivesAtTouch o call
    → KeepsPart o past name kept → KeepsPart o (call ∷ past) name kept
part_stays o past call name (Some kept) gives k = given_stays o past call name (kept.part, origin.Wire kept.mark) k
part_stays o past call name None gives k = λ given g.
    step (is_none (outcome_of o past name) && is_some (outcome_of o (call ∷ past) name)) given g
  where
    step : (fresh : Bool) (given : Part × Origin) → (if fresh then given_by o call name else given_to o past name) ≡ Some given
        → option_and_then (given_at_touch o) (row_of o.registered name) ≡ Some given
    step true given g = gives name given g
    step false given g = k given g

-- so what is kept stays as it is
pub parts_stay : (o : Opening) (past : List Call) (call : Call) (delivered : List (Option Delivered)) → GivesAtTouch o call
    → KeepsParts o past delivered → KeepsParts o (call ∷ past) delivered
parts_stay o past call delivered gives k = record {
  long = k.long;
  each = λ row kept there. part_stays o past call (name_at o.registered row) kept gives (k.each row kept there);
}

-- ---- calls that give nothing else

pub take_gives : (o : Opening) → GivesAtTouch o Take
take_gives o name given g = cc

pub lose_gives : (o : Opening) (ask : ℕ) (mark : _) → GivesAtTouch o (Lose ask mark)
lose_gives o ask mark name given g = cc

pub using_gives : (o : Opening) (names : List Text) → GivesAtTouch o (Using names)
using_gives o names name given g = g

pub load_gives : (o : Opening) (names : List Text) → GivesAtTouch o (Load names)
load_gives o names name given g = g

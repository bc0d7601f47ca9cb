-- Names that are requested each by itself.
use mathlib.Core.Path.{fun_ext}
use Rattle.std.proofs.Common.{◌≡◌, ℕ, ◌+◌, ◌<◌, ◌≤◌, ◌^◌, List, [], ◌∷◌, ◌++◌, Bool, true, not, Global, Option, length, refl, ap, subst, ◌∙◌, inl, inr}
use Rattle.std.specs.declared.vec.Vec.{Vec}
use Rattle.std.specs.Prelude.{IsErr, count_by, is_none, vec_capacity, Result, Ok, Err}
use Rattle.rl_names.specs.declared.name.Key.{Key}
use Rattle.rl_names.specs.declared.text.NoMemory.{NoMemory}
use Rattle.rl_view_spec.specs.Closure.{Text, Refusal}
use Rattle.rl_view_spec.specs.Progress.{Progress}
use Rattle.rl_view_spec.specs.Requests.{accepted_each}
use Rattle.rl_batch.specs.Requests.{open_count}
use Rattle.rl_book_spec.specs.Kept.{Booked, is_due, threw_in}
use Rattle.rl_book_spec.specs.Traffic.{Traffic}
use Rattle.rl_book_spec.specs.declared.Call.{Call}
use Rattle.rl_book_spec.specs.declared.Call.TheVariants.{Load}
use Rattle.rl_book.specs.Asking.{Loads}
use Rattle.rl_book.specs.Calls.{HasExecuted, Rests, Told}
use Rattle.rl_book.specs.Kept.{IsKept, booked, rows_said}
use Rattle.rl_book.specs.Serving.{LoadsEach, NotesLoad, Serves, dropped_of}
use Rattle.rl_book.specs.declared.visit.Visit.TheInside.{Inside}
use Rattle.rl_book.proofs.AskingLemmas.{load_follows}
use Rattle.rl_book.proofs.PartsLemmas.{load_gives}
use Rattle.rl_book.proofs.ServingLemmas.{refusal_here, seen_all, served_kept}

module _ (i : Inside) (b : Booked) (k : IsKept i) (view : booked i ≡ b) (rests : Rests b) (names : List Text) (dropped : ℕ) (table : Progress)
    (requests : Traffic) (loads : Loads i.plan i.held.gifts names dropped i.table table i.requests requests) where
  pub load_kept : (calls : Vec Call Global) → calls.items ≡ i.calls.items ++ Load names ∷ [] → length i.calls.items + length i.requests.asks + 2 < 2 ^ 32
      → length i.calls.items + length i.requests.asks + 2 ≤ vec_capacity calls
      → IsKept (record i { table = table; requests = requests; calls = calls })
  load_kept calls grown few room =
      let follows = load_follows (threw_in (booked i).opening.registered (booked i).ran) i.plan (rows_said i.startup) i.held.embedded i.held.store.pairs i.held.gifts k.gifts
      (booked i).past
      i.table table i.requests requests (seen_all i b k view rests) k.requests names (accepted_each i.table.registered names) refl loads.touched in
      let asks = ap (λ (t : Traffic). open_count t.asks) loads.touched.requests in
      served_kept i b k view rests (Load names) table requests calls follows (load_gives (booked i).opening names) asks grown few room

  pub dropped_here : dropped ≡ dropped_of b names
  dropped_here =
      loads.dropped_are
      ∙ ap (λ (p : Text → Bool). count_by p names)
      (fun_ext (λ name. ap (λ (refusal : Option Refusal). not (is_none refusal)) (refusal_here i b k view rests (name ∷ []))))

-- ---- the call is served

module _ (says : Key → Text → Bool) (names : List Text) (old mid mid' : Booked) (told told1 : Told)
    (first : HasExecuted says old mid told told1) (rests : Rests mid) where
  pub load_stops : (r : Result ℕ NoMemory) → IsErr r → mid' ≡ mid → LoadsEach says r names old mid' told told1
  load_stops (Ok dropped) err same = cc
  load_stops (Err error) err same = inl (first.0, record { ran = same ∙ first.1.ran; heard = first.1.heard })

  module _ (new : Booked) (told' : Told) (dropped : ℕ) (notes : NotesLoad (Ok dropped) names mid mid') (later : HasExecuted says mid' new told1 told') where
    serves : Serves says (Load names) old new told told'
    serves = record {
      between = mid;
      heard = told1;
      first = first;
      rests = rests;
      later = subst (λ (b : Booked). HasExecuted says b new told1 told') notes.1 later;
    }

    pub load_serves : Rests new → LoadsEach says (Ok dropped) names old new told told'
    load_serves end = (notes.0 ∙ ap (λ (b : Booked). dropped_of b names) first.1.ran, serves, end)

    pub load_short : (r : Result ℕ NoMemory) → IsErr r → is_due new ≡ true → LoadsEach says r names old new told told'
    load_short (Ok other) err due = cc
    load_short (Err error) err due = inr (tt, serves, due)

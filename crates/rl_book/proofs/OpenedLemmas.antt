-- A view that was opened just now.
use Rattle.std.proofs.Common.{◌≡◌, ◌≤◌, ℕ, List, [], Global, Option, Some, None, length, map, refl, ap, ap₂, sym, subst, ◌∙◌, arith, replicate}
use Rattle.std.specs.declared.vec.Vec.{Vec}
use Rattle.std.specs.Prelude.{reverse, slice_get, vec_capacity, Ok}
use Rattle.rl_names.specs.declared.counted.TheConstants as limits
use Rattle.rl_names.specs.declared.row.Row.{Row}
use Rattle.rl_view_spec.specs.Breach.{breach_of}
use Rattle.rl_view_spec.specs.Closure.{Text, Registered}
use Rattle.rl_view_spec.specs.Progress.{HasDistinctNames}
use Rattle.rl_states.specs.Changes.{fresh_progress}
use Rattle.rl_view.specs.Seen.{HasSeen}
use Rattle.rl_view.proofs.NowLemmas.{seen_fresh}
use Rattle.rl_wire.specs.Reading.{answer_of}
use Rattle.rl_wire.specs.StartupReading.{startup_of}
use Rattle.rl_wire.specs.declared.part.Part.{Part}
use Rattle.rl_wire.specs.declared.startup.Startup.{Startup}
use Rattle.rl_batch.specs.Given.{IsBase}
use Rattle.rl_batch.specs.Requests.{open_count}
use Rattle.rl_book_spec.specs.Kept.{Booked, IsBook, events_in, rows_run, traffic_in, view_in}
use Rattle.rl_book_spec.specs.Traffic.{Traffic}
use Rattle.rl_book_spec.specs.declared.Call.{Call}
use Rattle.rl_book_spec.specs.declared.Plan.{Plan}
use Rattle.rl_book_spec.specs.declared.Stored.{Stored}
use Rattle.rl_book.specs.Held.{AreNamed, Gifts, gifts_at, gifts_of}
use Rattle.rl_book.specs.Kept.{IsKept, KeepsParts, booked, rows_in, rows_said}
use Rattle.rl_book.specs.Opens.{IsOpened, IsReady, opened, opening_of}
use Rattle.rl_book.specs.declared.answer.Run.{Run}
use Rattle.rl_book.specs.declared.given.Delivered.{Delivered}
use Rattle.rl_book.specs.declared.opening.Ready.{Ready}
use Rattle.rl_book.specs.declared.visit.Visit.TheInside.{Inside}
use Rattle.rl_book.proofs.PartsLemmas.{fresh_parts}

-- nothing was done with a view yet that was opened over this
pub record IsFresh (i : Inside) (said : Startup) : Type 0 where
  pub startup : startup_of i.startup ≡ Ok said
  pub base : IsBase i.plan.base
  pub few : length said.rows ≤ limits.MAX_ROWS
  pub distinct : HasDistinctNames (record { rows = said.rows; features = i.plan.features })
  pub table : i.table ≡ fresh_progress (record { rows = said.rows; features = i.plan.features })
  pub gifts : i.held.gifts ≡ gifts_of (opening_of i.plan said.rows i.held.embedded i.held.store.pairs)
  pub named : AreNamed (opening_of i.plan said.rows i.held.embedded i.held.store.pairs)
  pub delivered : i.delivered.items ≡ replicate (length said.rows) None
  pub requests : i.requests ≡ record { batches = []; waiting = []; asks = [] }
  pub calls : i.calls.items ≡ []
  pub runs : i.runs.items ≡ []
  pub room : length said.rows ≤ vec_capacity i.runs

said_rows : (startup : Text) (said : Startup) → startup_of startup ≡ Ok said → rows_said startup ≡ said.rows
unfolding rows_said
said_rows startup said e = ap rows_in e

abbrev fresh_book : Inside → Startup → Booked
fresh_book i said = opened i.startup i.plan said.rows i.held.embedded i.held.store.pairs

pub fresh_booked : (i : Inside) (said : Startup) → IsFresh i said → booked i ≡ fresh_book i said
fresh_booked i said f =
    ap (λ (rows : List Row). record (opened i.startup i.plan rows i.held.embedded i.held.store.pairs) {
      past = reverse i.calls.items;
      ran = map (λ (run : Run). (run.row, run.threw)) i.runs.items;
    }) (said_rows i.startup said f.startup)
    ∙ ap₂ (λ (calls : List Call) (runs : List Run). record (fresh_book i said) {
      past = reverse calls;
      ran = map (λ (run : Run). (run.row, run.threw)) runs;
    }) f.calls f.runs

none_there : (at : ℕ) (run : Run) (runs : List Run) → runs ≡ [] → slice_get runs at ≡ Some run → ⊥
none_there at run runs e there = let s : None ≡ Some run = ap (λ (xs : List Run). slice_get xs at) (sym e) ∙ there in cc

pub fresh_kept : (i : Inside) (said : Startup) → IsFresh i said → IsKept i
fresh_kept i said f =
    let b : Booked = fresh_book i said in
    let same : b ≡ booked i = sym (fresh_booked i said f) in
    let no_calls = ap length f.calls in
    let no_runs = ap length f.runs in
    let no_asks = ap (λ (t : Traffic). open_count t.asks) f.requests in
    record {
      book = subst IsBook same (record { few = f.few; distinct = f.distinct; stage = refl });
      base = f.base;
      seen =
          subst (λ (b : Booked). HasSeen (view_in b) (events_in b) (rows_run b) i.table) same (seen_fresh (view_in b) i.table f.distinct f.table);
      gifts = subst (λ (b : Booked). i.held.gifts ≡ gifts_of b.opening) same f.gifts;
      named = subst (λ (b : Booked). AreNamed b.opening) same f.named;
      parts = subst (λ (b : Booked). KeepsParts b.opening b.past i.delivered.items) same (fresh_parts b.opening i.delivered.items f.delivered);
      requests = subst (λ (b : Booked). i.requests ≡ traffic_in b) same f.requests;
      runs = λ at run there. absurd (none_there at run i.runs.items f.runs there);
      few_runs = omega (arith, no_runs);
      room_to_run = subst (λ (rows : List Row). length rows ≤ vec_capacity i.runs) (sym (said_rows i.startup said f.startup)) f.room;
      few_calls = omega (arith, no_calls, no_asks);
      room = omega (arith, no_calls, no_asks);
    }

-- what was made ready is such a view
pub ready_fresh : (i : Inside) (r : Ready) (startup : Text) → (is : IsReady r startup i.plan i.held.store.pairs) → IsBase i.plan.base
    → i.startup ≡ r.startup → i.held ≡ record { embedded = r.embedded.items; store = i.held.store; gifts = gifts_at r.embedded.items i.held.store.pairs r.places.items }
    → i.table ≡ r.table → i.delivered ≡ r.delivered → i.runs ≡ r.runs
    → i.requests ≡ record { batches = []; waiting = []; asks = [] } → i.calls.items ≡ [] → IsFresh i is.said
ready_fresh i r startup is base same held table delivered runs requests calls =
    let parts : r.embedded.items ≡ i.held.embedded = sym (ap (λ (g : Gifts). g.embedded) held) in
    let opening : opening_of i.plan is.said.rows r.embedded.items i.held.store.pairs ≡ opening_of i.plan is.said.rows i.held.embedded i.held.store.pairs =
    ap (λ (parts : List Part). opening_of i.plan is.said.rows parts i.held.store.pairs) parts in
    record {
      startup = ap startup_of (same ∙ is.kept) ∙ is.startup_is;
      base = base;
      few = is.few;
      distinct = is.distinct;
      table = table ∙ is.table;
      gifts = ap (λ (g : Gifts). g.gifts) held ∙ is.gifts ∙ ap gifts_of opening;
      named = subst AreNamed opening is.named;
      delivered = ap (λ (v : Vec (Option Delivered) Global). v.items) delivered ∙ is.delivered;
      requests = requests;
      calls = calls;
      runs = ap (λ (v : Vec Run Global). v.items) runs ∙ is.runs;
      room = subst (λ (v : Vec Run Global). length is.said.rows ≤ vec_capacity v) (sym runs) is.room;
    }

pub is_opened : (i : Inside) (r : Ready) (startup : Text) → (is : IsReady r startup i.plan i.held.store.pairs) → IsFresh i is.said
    → i.startup ≡ r.startup → r.embedded.items ≡ i.held.embedded → IsOpened startup i.plan i.held.store.pairs (booked i)
is_opened i r startup is f same parts = record {
  said = is.said;
  parts = r.embedded.items;
  startup_is = is.startup_is;
  parts_are = is.parts_are;
  fine = is.fine;
  book_is =
      fresh_booked i is.said f
      ∙ ap₂ (λ (text : Text) (parts : List Part). opened text i.plan is.said.rows parts i.held.store.pairs) (same ∙ is.kept) (sym parts);
}

-- ---- what was read and registered is ready

pub made_ready : (r : Ready) (said : Startup) (plan : Plan) (registry : Registered) (rows : List Row) (startup : Text) (stored : List Stored)
    → startup_of startup ≡ Ok said → rows ≡ said.rows → registry ≡ record { rows = rows; features = plan.features }
    → answer_of plan.embedded ≡ Ok r.embedded.items → breach_of rows ≡ None → r.startup ≡ startup → length registry.rows ≤ limits.MAX_ROWS
    → HasDistinctNames registry → r.table ≡ fresh_progress registry
    → gifts_at r.embedded.items stored r.places.items ≡ gifts_of (opening_of plan registry.rows r.embedded.items stored)
    → AreNamed (opening_of plan registry.rows r.embedded.items stored) → r.delivered.items ≡ replicate (length registry.rows) None
    → r.runs.items ≡ [] → length registry.rows ≤ vec_capacity r.runs → IsReady r startup plan stored
made_ready r said plan registry rows startup stored says are made parts fine kept few distinct table gifts named delivered runs room =
    let is : registry ≡ record { rows = said.rows; features = plan.features } =
    made ∙ ap (λ (rows : List Row). record { rows = rows; features = plan.features }) are in
    let same_rows : registry.rows ≡ said.rows = ap (λ (r : Registered). r.rows) is in
    record {
      said = said;
      startup_is = says;
      parts_are = parts;
      fine = ap breach_of (sym are) ∙ fine;
      kept = kept;
      few = subst (λ (r : Registered). length r.rows ≤ limits.MAX_ROWS) is few;
      distinct = subst HasDistinctNames is distinct;
      table = table ∙ ap fresh_progress is;
      gifts = gifts ∙ ap (λ (rows : List Row). gifts_of (opening_of plan rows r.embedded.items stored)) same_rows;
      named = subst (λ (rows : List Row). AreNamed (opening_of plan rows r.embedded.items stored)) same_rows named;
      delivered = delivered ∙ ap (λ (rows : List Row). replicate (length rows) None) same_rows;
      runs = runs;
      room = subst (λ (rows : List Row). length rows ≤ vec_capacity r.runs) same_rows room;
    }

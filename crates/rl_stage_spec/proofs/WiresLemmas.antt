-- The answers that came to a view are those to its own asks.
use Rattle.std.proofs.Common.{◌≡◌, ℕ, zero, suc, ◌+◌, ◌<◌, ◌≤◌, Bool, true, false, List, [], ◌∷◌, ◌++◌, map, length, Option, Some, None}
use Rattle.std.proofs.Common.{refl, sym, subst, arith, length-append, append-nil}
use Rattle.std.specs.Prelude.{⊤, if◌then◌else◌, Contains, IfSome, Result, Ok, Err, is_none, is_some, option_and_then, option_map, option_to_list, slice_get}
use Rattle.std.specs.Prelude.{◌&&◌, ◌==◌}
use Rattle.std.specs.List.{AllByRecursion}
use Rattle.std.specs.Option.{option_map_or}
use Rattle.std.proofs.lemmas.Bool.Decides.{nat_tests}
use Rattle.rl_defs.specs.Catalogue.{Catalogue}
use Rattle.rl_build.specs.declared.context.Context.{Context}
use Rattle.rl_pages.specs.declared.entry.Entry.{Entry}
use Rattle.rl_pages.specs.declared.viewer.Viewer.{Viewer}
use Rattle.rl_view_spec.specs.Closure.{Text, refusal_of}
use Rattle.rl_view_spec.specs.View.{Throws}
use Rattle.rl_wiki.specs.Front.{wiki_answer}
use Rattle.rl_book_spec.specs.Opening.{Opening}
use Rattle.rl_book_spec.specs.Traffic.{traffic_of}
use Rattle.rl_book_spec.specs.declared.Call.{Call}
use Rattle.rl_book_spec.specs.declared.Call.TheVariants as calls
use Rattle.rl_book_spec.specs.declared.Sent.{Sent}
use Rattle.rl_steps.specs.declared.step.Step.{Step}
use Rattle.rl_steps.specs.declared.step.Step.TheVariants.{Edit, Choice, Clock, View, Using, Load, Take, Serve, Deliver, Lose, Close, Embed}
use Rattle.rl_stage_spec.specs.Headline.{views_of}
use Rattle.rl_stage_spec.specs.Session.{Asking, Ended, Session, Viewed, Wired, asking_by, body_of, choice_by, closed, delivering, delivery_of, edit_by, ending}
use Rattle.rl_stage_spec.specs.Session.{first_waiting, is_current, losing, losing_by, may_lose, opened, serving, session_after, session_of, taking}
use Rattle.rl_stage_spec.specs.Session.{using_by, view_over, wire_for, with_call, with_entry}

-- ---- lists

one_more : {X : Type 0} (P : X → Type 0) (xs : List X) (x : X) → AllByRecursion P xs → P x → AllByRecursion P (xs ++ x ∷ [])
one_more P [] x h p = (p, tt)
one_more P (y ∷ ys) x h p = (h.0, one_more P ys x h.1 p)

all_other : {X : Type 0} (P Q : X → Type 0) (xs : List X) → ((x : X) → P x → Q x) → AllByRecursion P xs → AllByRecursion Q xs
all_other P Q [] to h = tt
all_other P Q (x ∷ xs) to h = (to x h.0, all_other P Q xs to h.1)

pub all_at : {X : Type 0} (P : X → Type 0) (xs : List X) (at : ℕ) (x : X) → AllByRecursion P xs → slice_get xs at ≡ Some x → P x
all_at P [] at x h is = absurd (cc)
all_at P (y ∷ ys) zero x h is = let same : y ≡ x = cc in subst P same h.0
all_at P (y ∷ ys) (suc at) x h is = all_at P ys at x h.1 is

pub all_among : {X : Type 0} (P : X → Type 0) (xs : List X) (x : X) → AllByRecursion P xs → Contains xs x → P x
all_among P [] x h (at, within, is) = absurd (omega arith)
all_among P (y ∷ ys) x h (zero, within, is) = subst P is h.0
all_among P (y ∷ ys) x h (suc at, within, is) = all_among P ys x h.1 (at, omega arith, is)

pub get_more : {X : Type 0} (xs : List X) (y : X) (at : ℕ) (x : X) → slice_get xs at ≡ Some x → slice_get (xs ++ y ∷ []) at ≡ Some x
get_more [] y at x is = absurd (cc)
get_more (z ∷ zs) y zero x is = is
get_more (z ∷ zs) y (suc at) x is = get_more zs y at x is

-- ---- what is kept of asks, answers and calls

-- an ask of a view: of its viewer, for the query of one of its batches
pub record IsAsk (viewer : Viewer) (o : Opening) (ask : Asking) : Type 0 where
  pub viewer_is : ask.viewer ≡ viewer
  pub past : List Call
  pub batch : ℕ
  pub sent : Sent
  pub there : slice_get (traffic_of o past).batches batch ≡ Some sent
  pub query_is : ask.query ≡ sent.batch.query

-- after so many views, and with this one open, an ask is of one of them
abbrev AskOk : ℕ → Option Viewed → Asking → Type 0
AskOk count None ask = ask.view < count
AskOk count (Some v) ask = (ask.view ≤ count) × (ask.view ≡ count → IsAsk v.viewer v.opening ask)

-- an answer is what the wiki said then
abbrev WireOk : Catalogue → ℕ → Option Viewed → Wired → Type 0
WireOk c count current w = AskOk count current w.ask × (w.text ≡ body_of (wiki_answer c w.entries w.ask.viewer w.ask.query))

-- a delivery to a view of this number is that of an answer to one of its asks
pub record Brought (c : Catalogue) (wires : List Wired) (number : ℕ) (v : Viewed) (bytes : Text) (answer : ℕ) : Type 0 where
  pub wire : Wired
  pub kept : slice_get wires answer ≡ Some wire
  pub bytes_are : wire.text ≡ bytes
  pub own : wire.ask.view ≡ number
  pub asked : IsAsk v.viewer v.opening wire.ask
  pub said : wire.text ≡ body_of (wiki_answer c wire.entries wire.ask.viewer wire.ask.query)

abbrev pub CallOk : Catalogue → List Wired → ℕ → Viewed → Call → Type 0
CallOk c wires number v (calls.Deliver ask bytes mark) = Brought c wires number v bytes mark.answer
CallOk c wires number v other = ⊤

abbrev pub CallsOk : Catalogue → List Wired → ℕ → Viewed → Type 0
CallsOk c wires number v = AllByRecursion (CallOk c wires number v) v.past

abbrev EndedOk : Catalogue → List Wired → ℕ → List Ended → Type 0
EndedOk c wires number [] = ⊤
EndedOk c wires number (e ∷ es) = CallsOk c wires number e.view × EndedOk c wires (number + 1) es

record Now (c : Catalogue) (count : ℕ) (current : Option Viewed) (asks : List Asking) (wires : List Wired) : Type 0 where
  asked : AllByRecursion (AskOk count current) asks
  wired : AllByRecursion (WireOk c count current) wires
  called : IfSome current (CallsOk c wires count)

record Sound (s : Session) : Type 0 where
  now : Now s.catalogue (length s.ended) s.current s.asks s.wires
  past : EndedOk s.catalogue s.wires 0 s.ended

-- ---- a call more

with_past : Call → Viewed → Viewed
with_past call v = record v { past = call ∷ v.past }

brought_later : (c : Catalogue) (wires : List Wired) (number : ℕ) (v : Viewed) (past : List Call) (call : Call) → CallOk c wires number v call
    → CallOk c wires number (record v { past = past }) call
brought_later c wires number v past (calls.Using names) h = tt
brought_later c wires number v past (calls.Load names) h = tt
brought_later c wires number v past calls.Take h = tt
brought_later c wires number v past (calls.Deliver ask bytes mark) h =
    record { wire = h.wire; kept = h.kept; bytes_are = h.bytes_are; own = h.own; asked = h.asked; said = h.said }
brought_later c wires number v past (calls.Lose ask mark) h = tt

now_called : (c : Catalogue) (count : ℕ) (current : Option Viewed) (asks : List Asking) (wires : List Wired) (call : Call)
    → Now c count current asks wires → IfSome current (λ (v : Viewed). CallOk c wires count v call)
    → Now c count (option_map (λ (v : Viewed). record v { past = call ∷ v.past }) current) asks wires
now_called c count None asks wires call h k = h
now_called c count (Some v) asks wires call h k = record {
  asked = h.asked;
  wired = h.wired;
  called = (
    brought_later c wires count v (call ∷ v.past) call k,
    all_other (CallOk c wires count v) (CallOk c wires count (record v { past = call ∷ v.past })) v.past
        (λ (other : Call). brought_later c wires count v (call ∷ v.past) other) h.called,
  );
}

sound_call : (call : Call) (s : Session) → Sound s → IfSome s.current (λ (v : Viewed). CallOk s.catalogue s.wires (length s.ended) v call)
    → Sound (with_call call s)
sound_call call s h k = record { now = now_called s.catalogue (length s.ended) s.current s.asks s.wires call h.now k; past = h.past }

if_any : {X : Type 0} (P : X → Type 0) (o : Option X) → ((x : X) → P x) → IfSome o P
if_any P None all = tt
if_any P (Some x) all = all x

sound_if : (b : Bool) (call : Call) (s : Session) → Sound s
    → (b ≡ true → IfSome s.current (λ (v : Viewed). CallOk s.catalogue s.wires (length s.ended) v call))
    → Sound (if b then with_call call s else s)
sound_if true call s h k = sound_call call s h (k refl)
sound_if false call s h k = h

-- ---- the end of a view, and a new one

ask_before : (count : ℕ) (v : Viewed) (ask : Asking) → AskOk count (Some v) ask → AskOk (count + 1) None ask
ask_before count v ask h = let low : ask.view ≤ count = h.0 in omega (arith, low)

ended_more : (c : Catalogue) (wires : List Wired) (number : ℕ) (es : List Ended) (e : Ended) → EndedOk c wires number es
    → CallsOk c wires (number + length es) e.view → EndedOk c wires number (es ++ e ∷ [])
ended_more c wires number [] e h k =
    let same : number + length {A = Ended} [] ≡ number = omega arith in (subst (λ n. CallsOk c wires n e.view) same k, tt)
ended_more c wires number (d ∷ ds) e h k =
    let same : number + length (d ∷ ds) ≡ number + 1 + length ds = omega arith in
    (h.0, ended_more c wires (number + 1) ds e h.1 (subst (λ n. CallsOk c wires n e.view) same k))

sound_ending : (throws : Throws) (s : Session) (v : Viewed) → Sound s → s.current ≡ Some v → Sound (ending throws s v)
sound_ending throws s v h is =
    let count : length (s.ended ++ (record { view = v; left = (ending throws s v).store }) ∷ []) ≡ length s.ended + 1 =
    length-append s.ended ((record { view = v; left = (ending throws s v).store }) ∷ []) in
    let now : Now s.catalogue (length s.ended) (Some v) s.asks s.wires =
    subst (λ (current : Option Viewed). Now s.catalogue (length s.ended) current s.asks s.wires) is h.now in
    let same : 0 + length s.ended ≡ length s.ended = omega arith in
    record {
      now =
          subst (λ (n : ℕ). Now s.catalogue n None s.asks s.wires) (sym count) (record {
            asked = all_other (AskOk (length s.ended) (Some v)) (AskOk (length s.ended + 1) None) s.asks (ask_before (length s.ended) v) now.asked;
            wired =
                all_other (WireOk s.catalogue (length s.ended) (Some v)) (WireOk s.catalogue (length s.ended + 1) None) s.wires
                (λ (w : Wired) k. (ask_before (length s.ended) v w.ask k.0, k.1)) now.wired;
            called = tt;
          });
      past = ended_more s.catalogue s.wires 0 s.ended _ h.past (subst (λ n. CallsOk s.catalogue s.wires n v) (sym same) now.called);
    }

sound_closing : (throws : Throws) (s : Session) (o : Option Viewed) → s.current ≡ o → Sound s → Sound (option_map_or (ending throws s) o s)
sound_closing throws s None is h = h
sound_closing throws s (Some v) is h = sound_ending throws s v h is

sound_closed : (throws : Throws) (s : Session) → Sound s → Sound (closed throws s)
sound_closed throws s h = sound_closing throws s s.current refl h

pub none_closing : (throws : Throws) (s : Session) (o : Option Viewed) → s.current ≡ o → (option_map_or (ending throws s) o s).current ≡ None
none_closing throws s None is = is
none_closing throws s (Some v) is = refl

ask_again : (count : ℕ) (v : Viewed) (ask : Asking) → AskOk count None ask → AskOk count (Some v) ask
ask_again count v ask h = let low : ask.view < count = h in (omega (arith, low), λ same. absurd (omega (arith, low, same)))

sound_opened : (viewer : Viewer) (ctx : Context) (features : List Text) (s : Session) → s.current ≡ None → Sound s → Sound (opened viewer ctx features s)
sound_opened viewer ctx features s is h =
    let now : Now s.catalogue (length s.ended) None s.asks s.wires =
    subst (λ (current : Option Viewed). Now s.catalogue (length s.ended) current s.asks s.wires) is h.now in
    record {
      now = record {
        asked =
            all_other (AskOk (length s.ended) None) (AskOk (length s.ended) (opened viewer ctx features s).current) s.asks
            (ask_again (length s.ended) (view_over s viewer ctx features)) now.asked;
        wired =
            all_other (WireOk s.catalogue (length s.ended) None) (WireOk s.catalogue (length s.ended) (opened viewer ctx features s).current) s.wires
            (λ (w : Wired) k. (ask_again (length s.ended) (view_over s viewer ctx features) w.ask k.0, k.1)) now.wired;
        called = tt;
      };
      past = h.past;
    }

-- ---- a batch is taken

waiting_there : (batches : List Sent) (waiting : List ℕ) (sent : Sent)
    → option_and_then (λ (o : Option Sent). o) (slice_get (map (slice_get batches) waiting) 0) ≡ Some sent
    → (batch : ℕ) × (slice_get batches batch ≡ Some sent)
waiting_there batches [] sent is = absurd (cc)
waiting_there batches (batch ∷ later) sent is = (batch, is)

asks_more : (s : Session) (v : Viewed) (waiting : Option Sent) → first_waiting v ≡ waiting → AllByRecursion (AskOk (length s.ended) (Some v)) s.asks
    → AllByRecursion (AskOk (length s.ended) (Some v)) (s.asks ++ option_to_list (option_map (asking_by s v) waiting))
asks_more s v None is h = subst (λ asks. AllByRecursion (AskOk (length s.ended) (Some v)) asks) (sym (append-nil s.asks)) h
asks_more s v (Some sent) is h =
    let at = waiting_there (traffic_of v.opening v.past).batches (traffic_of v.opening v.past).waiting sent is in
    one_more (AskOk (length s.ended) (Some v)) s.asks (asking_by s v sent) h
    (omega arith, λ same. record { viewer_is = refl; past = v.past; batch = at.0; sent = sent; there = at.1; query_is = refl })

sound_taking : (s : Session) (v : Viewed) → s.current ≡ Some v → Sound s → Sound (taking s v)
sound_taking s v is h =
    let now : Now s.catalogue (length s.ended) (Some v) s.asks s.wires =
    subst (λ (current : Option Viewed). Now s.catalogue (length s.ended) current s.asks s.wires) is h.now in
    let asks = s.asks ++ option_to_list (option_map (asking_by s v) (first_waiting v)) in
    let more : Now s.catalogue (length s.ended) (Some v) asks s.wires =
    record { asked = asks_more s v (first_waiting v) refl now.asked; wired = now.wired; called = now.called } in
    let before : Sound (record s { asks = asks }) = record {
      now = subst (λ (current : Option Viewed). Now s.catalogue (length s.ended) current asks s.wires) (sym is) more;
      past = h.past;
    } in
    sound_call calls.Take (record s { asks = asks }) before
    (if_any (λ (v : Viewed). CallOk s.catalogue s.wires (length s.ended) v calls.Take) s.current (λ (v : Viewed). tt))

-- ---- an ask is answered

call_more : (c : Catalogue) (wires : List Wired) (w : Wired) (number : ℕ) (v : Viewed) (call : Call) → CallOk c wires number v call
    → CallOk c (wires ++ w ∷ []) number v call
call_more c wires w number v (calls.Using names) h = tt
call_more c wires w number v (calls.Load names) h = tt
call_more c wires w number v calls.Take h = tt
call_more c wires w number v (calls.Deliver ask bytes mark) h = record {
  wire = h.wire;
  kept = get_more wires w mark.answer h.wire h.kept;
  bytes_are = h.bytes_are;
  own = h.own;
  asked = h.asked;
  said = h.said;
}
call_more c wires w number v (calls.Lose ask mark) h = tt

calls_more : (c : Catalogue) (wires : List Wired) (w : Wired) (number : ℕ) (v : Viewed) → CallsOk c wires number v
    → CallsOk c (wires ++ w ∷ []) number v
calls_more c wires w number v h =
    all_other (CallOk c wires number v) (CallOk c (wires ++ w ∷ []) number v) v.past (call_more c wires w number v) h

past_more : (c : Catalogue) (wires : List Wired) (w : Wired) (number : ℕ) (es : List Ended) → EndedOk c wires number es
    → EndedOk c (wires ++ w ∷ []) number es
past_more c wires w number [] h = tt
past_more c wires w number (e ∷ es) h = (calls_more c wires w number e.view h.0, past_more c wires w (number + 1) es h.1)

current_more : (c : Catalogue) (wires : List Wired) (w : Wired) (number : ℕ) (o : Option Viewed) → IfSome o (CallsOk c wires number)
    → IfSome o (CallsOk c (wires ++ w ∷ []) number)
current_more c wires w number None h = tt
current_more c wires w number (Some v) h = calls_more c wires w number v h

sound_serving : (s : Session) (number : ℕ) (ask : Asking) → slice_get s.asks number ≡ Some ask → Sound s → Sound (serving s ask)
sound_serving s number ask is h = record {
  now = record {
    asked = h.now.asked;
    wired =
        one_more (WireOk s.catalogue (length s.ended) s.current) s.wires (wire_for s ask) h.now.wired
        (all_at (AskOk (length s.ended) s.current) s.asks number ask h.now.asked is, refl);
    called = current_more s.catalogue s.wires (wire_for s ask) (length s.ended) s.current h.now.called;
  };
  past = past_more s.catalogue s.wires (wire_for s ask) 0 s.ended h.past;
}

-- ---- an answer comes

came_to : (s : Session) (number : ℕ) (w : Wired) (o : Option Viewed) → slice_get s.wires number ≡ Some w
    → WireOk s.catalogue (length s.ended) o w → (is_some o && (w.ask.view == length s.ended)) ≡ true
    → IfSome o (λ (v : Viewed). CallOk s.catalogue s.wires (length s.ended) v (delivery_of number w))
came_to s number w None kept ok is = tt
came_to s number w (Some v) kept ok is =
    let own : w.ask.view ≡ length s.ended = grind (arith, nat_tests, is) in
    record { wire = w; kept = kept; bytes_are = refl; own = own; asked = ok.0.1 own; said = ok.1 }

sound_delivering : (s : Session) (number : ℕ) (w : Wired) → slice_get s.wires number ≡ Some w → Sound s → Sound (delivering number s w)
sound_delivering s number w kept h =
    sound_if (is_current s w.ask) (delivery_of number w) s h
    (λ is. came_to s number w s.current kept
    (all_at (WireOk s.catalogue (length s.ended) s.current) s.wires number w h.now.wired kept) is)

-- ---- steps

chosen : {X : Type 0} (f : X → Session) (s : Session) (from o : Option X) → from ≡ o → Sound s → ((x : X) → from ≡ Some x → Sound (f x))
    → Sound (option_map_or f o s)
chosen f s from None is h k = h
chosen f s from (Some x) is h k = k x is

any_call : (call : Call) (s : Session) → ((v : Viewed) → CallOk s.catalogue s.wires (length s.ended) v call)
    → IfSome s.current (λ (v : Viewed). CallOk s.catalogue s.wires (length s.ended) v call)
any_call call s all = if_any (λ (v : Viewed). CallOk s.catalogue s.wires (length s.ended) v call) s.current all

sound_entry : {E : Type 0} (r : Result Entry E) (s : Session) → Sound s → Sound (with_entry r s)
sound_entry (Ok entry) s h = record { now = h.now; past = h.past }
sound_entry (Err refusal) s h = h

sound_after : (throws : Throws) (s : Session) (step : Step) → Sound s → Sound (session_after throws s step)
sound_after throws s (Edit by title base text) h = sound_entry (edit_by s by title base text) s h
sound_after throws s (Choice user key value) h = sound_entry (choice_by s user key value) s h
sound_after throws s (Clock now) h = record { now = h.now; past = h.past }
sound_after throws s (View user lang skin debug features) h =
    sound_opened _ _ features (closed throws s) (none_closing throws s s.current refl) (sound_closed throws s h)
sound_after throws s (Using names) h =
    chosen (using_by names s) s s.current s.current refl h
    (λ (v : Viewed) is. sound_if (is_none (refusal_of v.opening.registered names)) (calls.Using names) s h
    (λ yes_it. any_call (calls.Using names) s (λ (v : Viewed). tt)))
sound_after throws s (Load names) h = sound_call (calls.Load names) s h (any_call (calls.Load names) s (λ (v : Viewed). tt))
sound_after throws s Take h = chosen (taking s) s s.current s.current refl h (λ (v : Viewed) is. sound_taking s v is h)
sound_after throws s (Serve ask) h =
    chosen (serving s) s (slice_get s.asks ask) (slice_get s.asks ask) refl h (λ (a : Asking) is. sound_serving s ask a is h)
sound_after throws s (Deliver wire) h =
    chosen (delivering wire s) s (slice_get s.wires wire) (slice_get s.wires wire) refl h (λ (w : Wired) is. sound_delivering s wire w is h)
sound_after throws s (Lose ask) h =
    chosen (losing s) s (slice_get s.asks ask) (slice_get s.asks ask) refl h
    (λ (a : Asking) there. chosen (losing_by s a) s s.current s.current refl h
    (λ (v : Viewed) is. sound_if (is_current s a && may_lose v a) (calls.Lose a.number None) s h
    (λ yes_it. any_call (calls.Lose a.number None) s (λ (v : Viewed). tt))))
sound_after throws s Close h = sound_closed throws s h
sound_after throws s (Embed text) h = h

sound_session : (throws : Throws) (c : Catalogue) (past : List Step) → Sound (session_of throws c past)
sound_session throws c [] = record { now = record { asked = tt; wired = tt; called = tt }; past = tt }
sound_session throws c (step ∷ past) = sound_after throws (session_of throws c past) step (sound_session throws c past)

-- ---- of each view

calls_at : (c : Catalogue) (wires : List Wired) (from : ℕ) (es : List Ended) (o : Option Viewed) (number : ℕ) (v : Viewed)
    → EndedOk c wires from es → IfSome o (CallsOk c wires (from + length es))
    → slice_get (map (λ (e : Ended). e.view) es ++ option_to_list o) number ≡ Some v → CallsOk c wires (from + number) v
calls_at c wires from [] None number v h k is = absurd (cc)
calls_at c wires from [] (Some w) zero v h k is = let same : w ≡ v = cc in subst (λ (v : Viewed). CallsOk c wires (from + 0) v) same k
calls_at c wires from [] (Some w) (suc number) v h k is = absurd (cc)
calls_at c wires from (e ∷ es) o zero v h k is =
    let same : e.view ≡ v = cc in
    let here : from ≡ from + 0 = omega arith in
    subst (λ (n : ℕ). CallsOk c wires n v) here (subst (λ (v : Viewed). CallsOk c wires from v) same h.0)
calls_at c wires from (e ∷ es) o (suc number) v h k is =
    let long : from + length (e ∷ es) ≡ from + 1 + length es = omega arith in
    let here : from + 1 + number ≡ from + suc number = omega arith in
    subst (λ (n : ℕ). CallsOk c wires n v) here
    (calls_at c wires (from + 1) es o number v h.1 (subst (λ (n : ℕ). IfSome o (CallsOk c wires n)) long k) is)

pub calls_of_view : (throws : Throws) (c : Catalogue) (past : List Step) (number : ℕ) (v : Viewed)
    → slice_get (views_of (session_of throws c past)) number ≡ Some v
    → CallsOk (session_of throws c past).catalogue (session_of throws c past).wires number v
calls_of_view throws c past number v is =
    let s = session_of throws c past in
    let h = sound_session throws c past in
    let long : length s.ended ≡ 0 + length s.ended = omega arith in
    let here : 0 + number ≡ number = omega arith in
    subst (λ (n : ℕ). CallsOk s.catalogue s.wires n v) here
    (calls_at s.catalogue s.wires 0 s.ended s.current number v h.past
    (subst (λ (n : ℕ). IfSome s.current (CallsOk s.catalogue s.wires n)) long h.now.called) is)

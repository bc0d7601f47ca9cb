-- What the queries of a view tell.
use Rattle.std.proofs.Common.{◌≡◌, ℕ, zero, suc, ◌+◌, Bool, true, false, cond, List, [], ◌∷◌, ◌++◌, map, Option, Some, None, refl, sym, ap, subst, ◌∙◌, IsUtf8}
use Rattle.std.specs.Prelude.{if◌then◌else◌, Result, Ok, Err, filter, flat_map, slice_get, slice_set}
use Rattle.std.specs.List.{AllByRecursion, enumerate_from, fold}
use Rattle.std.specs.Option.{option_map_or}
use Rattle.std.proofs.lemmas.Str.{IsUtf8-nil}
use Rattle.rl_names.specs.Hash.{combined, fnv}
use Rattle.rl_names.specs.Packing.{pack, packed_order}
use Rattle.rl_names.specs.Query.{IsText, query_of, query_text}
use Rattle.rl_names.specs.declared.query.Query.{Query}
use Rattle.rl_names.specs.declared.row.Group.{Group}
use Rattle.rl_names.specs.declared.row.Group.TheVariants.{Plain, User, Private, Other}
use Rattle.rl_names.specs.declared.row.Row.{Row}
use Rattle.rl_names.proofs.QueryAgainLemmas.{query_is_read_again}
use Rattle.rl_view_spec.specs.Closure.{Text}
use Rattle.rl_view_spec.specs.Requests.{accepted, accepted_each}
use Rattle.rl_wire.specs.Reading as wire
use Rattle.rl_wire.specs.declared.part.Part.{Part}
use Rattle.rl_book_spec.specs.Batches.{Numbered, base_in, batch_of, collect, goes_on, insert_by, is_before, names_in, query_for, rows_of_batches}
use Rattle.rl_book_spec.specs.Batches.{sorted_by, versions_in}
use Rattle.rl_book_spec.specs.Opening.{Opening}
use Rattle.rl_book_spec.specs.Traffic.{Traffic, after_answer, after_delivery, after_loss, asked_of, batches_for, fresh, is_left, may_be_lost, traffic_of}
use Rattle.rl_book_spec.specs.Traffic.{with_loss}
use Rattle.rl_book_spec.specs.declared.Asked.{Asked}
use Rattle.rl_book_spec.specs.declared.Batch.{Batch}
use Rattle.rl_book_spec.specs.declared.Call.{Call}
use Rattle.rl_book_spec.specs.declared.Call.TheVariants.{Using, Load, Take, Deliver, Lose}
use Rattle.rl_book_spec.specs.declared.Sent.{Sent}
use Rattle.rl_stage_spec.proofs.TextsLemmas.{AreLow, IsLow, low_pack, low_utf8, low_version}
use Rattle.rl_stage_spec.proofs.WiresLemmas.{all_at}

-- ---- lists

some_same : {X : Type 0} (x y : X) → Some x ≡ Some y → x ≡ y
some_same x y is = ap (λ (o : Option _). option_map_or (λ z. z) o x) is

module _ {X : Type 0} (P : X → Type 0) where
  pub all_append : (xs ys : List X) → AllByRecursion P xs → AllByRecursion P ys → AllByRecursion P (xs ++ ys)
  all_append [] ys h k = k
  all_append (x ∷ xs) ys h k = (h.0, all_append xs ys h.1 k)

  all_set : (xs : List X) (at : ℕ) (x : X) → AllByRecursion P xs → P x → AllByRecursion P (slice_set xs at x)
  all_set [] at x h p = tt
  all_set (y ∷ ys) zero x h p = (p, h.1)
  all_set (y ∷ ys) (suc at) x h p = (h.0, all_set ys at x h.1 p)

  pub all_filter : (f : X → Bool) (xs : List X) → AllByRecursion P xs → AllByRecursion P (filter f xs)
  all_filter f [] h = tt
  all_filter f (x ∷ xs) h = step (all_filter f xs h.1) (f x)
    where
      step : AllByRecursion P (filter f xs) → (b : Bool) → AllByRecursion P (cond b (x ∷ filter f xs) (filter f xs))
      step rest true = (h.0, rest)
      step rest false = rest

  all_inserted : (before : X → X → Bool) (x : X) (xs : List X) → P x → AllByRecursion P xs → AllByRecursion P (insert_by before x xs)
  all_inserted before x [] p h = (p, tt)
  all_inserted before x (y ∷ ys) p h = step (all_inserted before x ys p h.1) (before x y)
    where
      step : AllByRecursion P (insert_by before x ys) → (b : Bool) → AllByRecursion P (if b then x ∷ y ∷ ys else y ∷ insert_by before x ys)
      step rest true = (p, h)
      step rest false = (h.0, rest)

  pub all_sorted : (before : X → X → Bool) (xs : List X) → AllByRecursion P xs → AllByRecursion P (sorted_by before xs)
  all_sorted before [] h = tt
  all_sorted before (x ∷ xs) h = all_inserted before x (sorted_by before xs) h.0 (all_sorted before xs h.1)

  abbrev EachAll : List (List X) → Type 0
  EachAll xss = AllByRecursion (λ xs. AllByRecursion P xs) xss

  all_collected : (joins : List X → X → Bool) (batches : List (List X)) (x : X) → EachAll batches → P x → EachAll (collect joins batches x)
  all_collected joins [] x h p = ((p, tt), tt)
  all_collected joins (batch ∷ []) x h p = step (joins batch x)
    where
      step : (b : Bool) → EachAll (if b then (batch ++ x ∷ []) ∷ [] else batch ∷ (x ∷ []) ∷ [])
      step true = (all_append batch (x ∷ []) h.0 (p, tt), tt)
      step false = (h.0, ((p, tt), tt))
  all_collected joins (batch ∷ next ∷ batches) x h p = (h.0, all_collected joins (next ∷ batches) x h.1 p)

  all_folded : (joins : List X → X → Bool) (batches : List (List X)) (xs : List X) → EachAll batches → AllByRecursion P xs
      → EachAll (fold (collect joins) batches xs)
  all_folded joins batches [] h k = h
  all_folded joins batches (x ∷ xs) h k = all_folded joins (collect joins batches x) xs (all_collected joins batches x h k.0) k.1

-- ---- the queries of a view

abbrev HasLowName : Numbered → Type 0
HasLowName numbered = IsLow numbered.1.name

abbrev pub HaveLowNames : List Row → Type 0
HaveLowNames rows = AllByRecursion (λ (row : Row). IsLow row.name) rows

-- a query asks for rows, in what every query of some group begins with
pub record IsQuery (base : Query) (query : Text) : Type 0 where
  pub group : Group
  pub rows : List Numbered
  pub low : AllByRecursion HasLowName rows
  pub text : query ≡ query_text (query_for (base_in base group) rows)

low_numbered : (from : ℕ) (rows : List Row) → HaveLowNames rows → AllByRecursion HasLowName (enumerate_from from rows)
low_numbered from [] h = tt
low_numbered from (row ∷ rows) h = (h.0, low_numbered (from + 1) rows h.1)

abbrev Asks : Query → Sent → Type 0
Asks base sent = IsQuery base sent.batch.query

of_batch : (base : Query) (rows : List Numbered) → AllByRecursion HasLowName rows → Asks base (fresh (batch_of base rows))
of_batch base [] h = record { group = User; rows = []; low = tt; text = refl }
of_batch base (row ∷ rows) h = record { group = row.1.group; rows = row ∷ rows; low = h; text = refl }

of_batches : (base : Query) (batches : List (List Numbered)) → EachAll HasLowName batches
    → AllByRecursion (Asks base) (map fresh (map (batch_of base) batches))
of_batches base [] h = tt
of_batches base (batch ∷ batches) h = (of_batch base batch h.0, of_batches base batches h.1)

module _ (o : Opening) (low : HaveLowNames o.registered.rows) where
  new_queries : (past : List Call) (names : List Text) → AllByRecursion (Asks o.base) (map fresh (batches_for o past names))
  new_queries past names =
      let rows = filter (is_left o past names) (enumerate_from 0 o.registered.rows) in
      of_batches o.base (rows_of_batches o.base o.limit rows)
      (all_folded HasLowName (goes_on o.base o.limit) [] (sorted_by is_before rows) tt
      (all_sorted HasLowName is_before rows (all_filter HasLowName (is_left o past names) (enumerate_from 0 o.registered.rows)
      (low_numbered 0 o.registered.rows low))))

  abbrev AllAsk : Traffic → Type 0
  AllAsk t = AllByRecursion (Asks o.base) t.batches

  asked_there : (t : Traffic) (found : Option Asked) (pair : Asked × Sent)
      → option_map_or (λ (asked : Asked). option_map_or (λ (sent : Sent). Some (asked, sent)) (slice_get t.batches asked.batch) None) found None ≡ Some pair
      → slice_get t.batches pair.0.batch ≡ Some pair.1
  asked_there t None pair is = absurd (cc)
  asked_there t (Some asked) pair is = step (slice_get t.batches asked.batch) refl is
    where
      step : (s : Option Sent) → slice_get t.batches asked.batch ≡ s → option_map_or (λ (sent : Sent). Some (asked, sent)) s None ≡ Some pair
          → slice_get t.batches pair.0.batch ≡ Some pair.1
      step None found e = absurd (cc)
      step (Some sent) found e =
          let same : (asked, sent) ≡ pair = some_same (asked, sent) pair e in
          subst (λ (p : Asked × Sent). slice_get t.batches p.0.batch ≡ Some p.1) same found

  asks_after : (t : Traffic) (f : Asked × Sent → Traffic) (from found : Option (Asked × Sent)) → from ≡ found → AllAsk t
      → ((pair : Asked × Sent) → from ≡ Some pair → AllAsk (f pair)) → AllAsk (option_map_or f found t)
  asks_after t f from None is h k = h
  asks_after t f from (Some pair) is h k = k pair is

  asked_ask : (t : Traffic) (ask : ℕ) (pair : Asked × Sent) → AllAsk t → asked_of t ask ≡ Some pair → Asks o.base pair.1
  asked_ask t ask pair h is = all_at (Asks o.base) t.batches pair.0.batch pair.1 h (asked_there t (slice_get t.asks ask) pair is)

  again : (sent other : Sent) → other.batch ≡ sent.batch → Asks o.base sent → Asks o.base other
  again sent other same h = subst (λ (b : Batch). IsQuery o.base b.query) (sym same) h

  after_lost : (t : Traffic) (ask : ℕ) → AllAsk t → AllAsk (after_loss t ask)
  after_lost t ask h = asks_after t _ (asked_of t ask) (asked_of t ask) refl h
      (λ (pair : Asked × Sent) is. step pair (asked_ask t ask pair h is) (may_be_lost pair))
    where
      step : (pair : Asked × Sent) → Asks o.base pair.1 → (b : Bool) → AllAsk (if b then with_loss ask pair.0 pair.1 t else t)
      step pair k true =
          all_set (Asks o.base) t.batches pair.0.batch (record pair.1 { losses = pair.1.losses + 1 }) h
          (again pair.1 (record pair.1 { losses = pair.1.losses + 1 }) refl k)
      step pair k false = h

  after_delivered : (t : Traffic) (ask : ℕ) → AllAsk t → AllAsk (after_delivery t ask)
  after_delivered t ask h =
      asks_after t _ (asked_of t ask) (asked_of t ask) refl h
      (λ (pair : Asked × Sent) is. all_set (Asks o.base) t.batches pair.0.batch (record pair.1 { delivered = true }) h
      (again pair.1 (record pair.1 { delivered = true }) refl (asked_ask t ask pair h is)))

  after_answered : (t : Traffic) (ask : ℕ) (read : Result (List Part) ℕ) → AllAsk t → AllAsk (after_answer t ask read)
  after_answered t ask (Ok parts) h = after_delivered t ask h
  after_answered t ask (Err line) h = after_lost t ask h

  pub queries_of : (past : List Call) → AllAsk (traffic_of o past)
  queries_of [] = tt
  queries_of (Using names ∷ past) =
      all_append (Asks o.base) (traffic_of o past).batches _ (queries_of past) (new_queries past (accepted o.registered names))
  queries_of (Load names ∷ past) =
      all_append (Asks o.base) (traffic_of o past).batches _ (queries_of past) (new_queries past (accepted_each o.registered names))
  queries_of (Take ∷ past) = queries_of past
  queries_of (Deliver ask bytes mark ∷ past) = after_answered (traffic_of o past) ask (wire.answer_of bytes) (queries_of past)
  queries_of (Lose ask mark ∷ past) = after_lost (traffic_of o past) ask (queries_of past)

-- ---- they are read again

low_names : (rows : List Numbered) → AllByRecursion HasLowName rows → AreLow (names_in rows)
low_names [] h = tt
low_names (row ∷ rows) h = (h.0, low_names rows h.1)

user_in : (base : Query) (group : Group) → IsUtf8 base.user → IsUtf8 (base_in base group).user
user_in base Plain h = IsUtf8-nil
user_in base User h = h
user_in base Private h = IsUtf8-nil
user_in base (Other n) h = IsUtf8-nil

-- what is the same in every group
pub record SameBase (base q : Query) : Type 0 where
  pub lang : q.lang ≡ base.lang
  pub skin : q.skin ≡ base.skin
  pub debug : q.debug ≡ base.debug
  pub only : q.only ≡ base.only

same_in : (base : Query) (group : Group) (rows : List Numbered) → SameBase base (query_for (base_in base group) rows)
same_in base Plain rows = record { lang = refl; skin = refl; debug = refl; only = refl }
same_in base User rows = record { lang = refl; skin = refl; debug = refl; only = refl }
same_in base Private rows = record { lang = refl; skin = refl; debug = refl; only = refl }
same_in base (Other n) rows = record { lang = refl; skin = refl; debug = refl; only = refl }

pub query_tells : (base : Query) (query : Text) → IsUtf8 base.lang → IsUtf8 base.skin → IsUtf8 base.user → IsQuery base query → SameBase base (query_of query)
query_tells base query lang skin user h =
    let q = query_for (base_in base h.group) h.rows in
    let same = same_in base h.group h.rows in
    let texts : IsText q = record {
      modules = low_utf8 (pack (names_in h.rows)) (low_pack (names_in h.rows) (low_names h.rows h.low));
      lang = subst IsUtf8 (sym same.lang) lang;
      skin = subst IsUtf8 (sym same.skin) skin;
      user = user_in base h.group user;
      version =
          low_utf8 (combined (versions_in h.rows (packed_order (names_in h.rows))))
          (low_version (fnv (flat_map (λ (version : Text). version) (versions_in h.rows (packed_order (names_in h.rows))))));
    } in
    subst (SameBase base) (sym (ap query_of h.text ∙ query_is_read_again q texts)) same

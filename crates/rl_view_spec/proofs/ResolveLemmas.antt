-- What resolves, and what a refusal says.
use Rattle.std.proofs.Common.{◌≡◌, List, [], ◌∷◌, ◌++◌, Bool, true, ◌&&◌, not, map, Option, Some, None, refl, ap, sym, subst, ◌∙◌}
use Rattle.std.proofs.Common.{⊎_elim}
use Rattle.std.specs.Prelude.{bytes_eq, Contains, filter, flat_map, if◌then◌else◌, is_none}
use Rattle.std.specs.List.{list_all, list_any, AllByRecursion}
use Rattle.std.proofs.lemmas.Bool.{and_from, and_parts, or_cases, or_left, or_right, both_ways, true_from_ne_false, not_from_false, not-true}
use Rattle.std.proofs.lemmas.List.Elements.{Contains-append_left, Contains-append_right}
use Rattle.rl_names.specs.declared.row.Row.{Row}
use Rattle.rl_view_spec.specs.Closure.{Text, Registered, row_of, has_row, deps_of, deps_of_row, Leads, InClosure, IsCyclic, Resolves, in_closure, in_closures}
use Rattle.rl_view_spec.specs.Closure.{Refusal, leads_back, mentioned, least, or_cycle, refusal_of, resolves}
use Rattle.rl_view_spec.specs.Requests.{accepted}
use Rattle.rl_view_spec.specs.View.{View, Event, touches, is_touched}
use Rattle.rl_view_spec.specs.Headline.{IsLawful}
use Rattle.rl_view_spec.proofs.ChainsLemmas.{reaches_from_led, led_in_closure}
use Rattle.rl_view_spec.proofs.ToolsLemmas.{any_one, one_any, all_each, each_all, contains_cases, contains_flat_map, found_in, filter_none}
use Rattle.rl_view_spec.proofs.ToolsLemmas.{filter_contains, contains_head, contains_none}

-- one chain after another
pub leads_on : (r : Registered) (a : Text) (chain : List Text) (b : Text) (more : List Text) (c : Text) → Leads r a chain b → Leads r b more c →
    Leads r a (chain ++ more) c
leads_on r a [] b more c l m = subst (λ (x : Text). Leads r x more c) (sym l) m
leads_on r a (next ∷ chain) b more c l m = (l.0, leads_on r next chain b more c l.1 m)

pub closure_on : (r : Registered) (a b c : Text) → InClosure r a b → InClosure r b c → InClosure r a c
closure_on r a b c x y = (x.0 ++ y.0, leads_on r a x.0 b y.0 c x.1 y.1)

pub closure_itself : (r : Registered) (a : Text) → InClosure r a a
closure_itself r a = ([], refl)

pub within_on : (r : Registered) (a b c : Text) → in_closure r a b ≡ true → in_closure r b c ≡ true → in_closure r a c ≡ true
within_on r a b c x y = reaches_from_led r a c (closure_on r a b c (led_in_closure r a b x) (led_in_closure r b c y))

pub within_itself : (r : Registered) (a : Text) → in_closure r a a ≡ true
within_itself r a = reaches_from_led r a a (closure_itself r a)

-- the last name of a chain with a step is a dependency
last_dep : (r : Registered) (name next : Text) (chain : List Text) (last : Text) → Contains (deps_of r name) next → Leads r next chain last →
    (x : Text) × Contains (deps_of r x) last
last_dep r name next [] last c l = (name, subst (λ (y : Text). Contains (deps_of r name) y) l c)
last_dep r name next (other ∷ chain) last c l = last_dep r next other chain last l.0 l.1

-- what is a dependency is mentioned
dep_mentioned : (r : Registered) (names : List Text) (x last : Text) → Contains (deps_of r x) last → Contains (mentioned r names) last
dep_mentioned r names x last c = step (row_of r x) refl c
  where
    step : (o : Option Row) → row_of r x ≡ o → Contains (deps_of_row r o) last → Contains (mentioned r names) last
    step None e d = absurd (contains_none last d)
    step (Some row) e d =
        Contains-append_right (names ++ map (λ (row : Row). row.name) r.rows) (flat_map (λ (row : Row). deps_of_row r (Some row)) r.rows) last
        (contains_flat_map (λ (row : Row). deps_of_row r (Some row)) r.rows row last (found_in (λ (row : Row). bytes_eq row.name x) r.rows row e) d)

pub member_mentioned : (r : Registered) (names : List Text) (name last : Text) → Contains names name → InClosure r name last →
    Contains (mentioned r names) last
member_mentioned r names name last c ([], l) = Contains-append_left (names ++ map (λ (row : Row). row.name) r.rows)
    (flat_map (λ (row : Row). deps_of_row r (Some row)) r.rows) last
    (Contains-append_left names (map (λ (row : Row). row.name) r.rows) last (subst (λ (y : Text). Contains names y) l c))
member_mentioned r names name last c (next ∷ chain, l) = let d = last_dep r name next chain last l.0 l.1 in dep_mentioned r names d.0 last d.1

-- leading back, computed and by chains
pub back_from_cyclic : (r : Registered) (name : Text) → IsCyclic r name → leads_back r name ≡ true
back_from_cyclic r name c = one_any (λ (next : Text). in_closure r next name) (deps_of r name) c.0 c.2.0 (reaches_from_led r c.0 name (c.1, c.2.1))

pub cyclic_from_back : (r : Registered) (name : Text) → leads_back r name ≡ true → IsCyclic r name
cyclic_from_back r name h =
    let m = any_one (λ (next : Text). in_closure r next name) (deps_of r name) h in
    let led : InClosure r m.0 name = led_in_closure r m.0 name m.2 in
    (m.0, led.0, (m.1, led.1))

-- a member of one of the closures
pub in_one : (r : Registered) (names : List Text) (name member : Text) → Contains names name → InClosure r name member →
    in_closures r names member ≡ true
in_one r names name member c m = one_any (λ (name : Text). in_closure r name member) names name c (reaches_from_led r name member m)

pub of_one : (r : Registered) (names : List Text) (member : Text) → in_closures r names member ≡ true →
    (name : Text) × Contains names name × InClosure r name member
of_one r names member h = let m = any_one (λ (name : Text). in_closure r name member) names h in (m.0, m.1, led_in_closure r m.0 member m.2)

no_parts : (a b : Option Text) → is_none (or_cycle a b) ≡ true → (a ≡ None) × (b ≡ None)
no_parts None None h = (refl, refl)
no_parts None (Some y) h = cc
no_parts (Some x) b h = cc

pub least_none : (xs : List Text) → least xs ≡ None → xs ≡ []
least_none [] h = refl
least_none (x ∷ xs) h = cc

pub least_some : (xs : List Text) (x : Text) → Contains xs x → least xs ≡ None → ⊥
least_some [] x c h = contains_none x c
least_some (y ∷ xs) x c h = cc

abbrev pub is_unknown : Registered → List Text → Text → Bool
is_unknown r names name = in_closures r names name && not (has_row r name)

abbrev pub is_looped : Registered → List Text → Text → Bool
is_looped r names name = in_closures r names name && leads_back r name

-- where a request is not refused each of its names resolves
pub accepted_resolves : (r : Registered) (names : List Text) → is_none (refusal_of r names) ≡ true → (name : Text) → Contains names name →
    Resolves r name
accepted_resolves r names h name c =
    let parts = no_parts (least (filter (is_unknown r names) (mentioned r names))) (least (filter (is_looped r names) (mentioned r names))) h in
    record {
      known = λ member m. true_from_ne_false (has_row r member) (λ e.
          both_ways (is_unknown r names member)
          (filter_none (is_unknown r names) (mentioned r names) member (least_none _ parts.0) (member_mentioned r names name member c m))
          (and_from (in_closures r names member) (not (has_row r member)) (in_one r names name member c m) (not_from_false (has_row r member) e)));
      acyclic = λ member m loop.
          both_ways (is_looped r names member)
          (filter_none (is_looped r names) (mentioned r names) member (least_none _ parts.1) (member_mentioned r names name member c m))
          (and_from (in_closures r names member) (leads_back r member) (in_one r names name member c m) (back_from_cyclic r member loop));
    }

nothing_left : (p : Text → Bool) (xs : List Text) → ((x : Text) → p x ≡ true → ⊥) → least (filter p xs) ≡ None
nothing_left p xs fails = step (filter p xs) refl
  where
    step : (ys : List Text) → filter p xs ≡ ys → least (filter p xs) ≡ None
    step [] e = ap least e
    step (y ∷ ys) e = absurd (fails y (filter_contains p xs y (subst (λ (zs : List Text). Contains zs y) (sym e) (contains_head y ys))).1)

-- where each name resolves a request is not refused
pub resolves_accepted : (r : Registered) (names : List Text) → ((name : Text) → Contains names name → Resolves r name) → refusal_of r names ≡ None
resolves_accepted r names each =
    let first : least (filter (is_unknown r names) (mentioned r names)) ≡ None = nothing_left (is_unknown r names) (mentioned r names) (λ x h.
    let parts = and_parts (in_closures r names x) (not (has_row r x)) h in
    let m = of_one r names x parts.0 in
    both_ways (has_row r x) (not-true (has_row r x) parts.1) ((each m.0 m.1).known x m.2)) in
    let second : least (filter (is_looped r names) (mentioned r names)) ≡ None = nothing_left (is_looped r names) (mentioned r names) (λ x h.
    let parts = and_parts (in_closures r names x) (leads_back r x) h in
    let m = of_one r names x parts.0 in
    (each m.0 m.1).acyclic x m.2 (cyclic_from_back r x parts.1)) in
    ap (λ (a : Option Text). or_cycle a (least (filter (is_looped r names) (mentioned r names)))) first ∙ ap (λ (b : Option Text). or_cycle None b) second

pub resolves_itself : (r : Registered) (name : Text) → resolves r name ≡ true → Resolves r name
resolves_itself r name h = accepted_resolves r (name ∷ []) h name (contains_head name [])

-- what a request that is not refused names, resolves by itself
pub accepted_each_resolves : (r : Registered) (names : List Text) → list_all (resolves r) (accepted r names) ≡ true
accepted_each_resolves r names = step (refusal_of r names) refl
  where
    one : refusal_of r names ≡ None → (name : Text) → Contains names name → resolves r name ≡ true
    one e name c = ap is_none (resolves_accepted r (name ∷ []) (λ other d. ⊎_elim
        (λ s. subst (λ (x : Text). Resolves r x) s (accepted_resolves r names (ap is_none e) name c)) (λ t. absurd (contains_none other t))
        (contains_cases name [] other d)))

    step : (o : Option Refusal) → refusal_of r names ≡ o → list_all (resolves r) (if is_none o then names else []) ≡ true
    step None e = each_all (resolves r) names (one e)
    step (Some refused) e = refl

-- what resolves has members that resolve
pub member_resolves : (r : Registered) (name member : Text) → Resolves r name → InClosure r name member → Resolves r member
member_resolves r name member res m = record {
  known = λ x c. res.known x (closure_on r name member x m c);
  acyclic = λ x c loop. res.acyclic x (closure_on r name member x m c) loop;
}

-- what was touched resolves
pub touched_resolves : (v : View) (past : List Event) (name : Text) → AllByRecursion (IsLawful v.registered) past → is_touched v past name ≡ true →
    Resolves v.registered name
touched_resolves v [] name lawful h = cc
touched_resolves v (event ∷ past) name lawful h = ⊎_elim
    (λ e. let m = of_one v.registered event.requested name e in
    member_resolves v.registered m.0 name (resolves_itself v.registered m.0 (all_each (resolves v.registered) event.requested m.0 lawful.0 m.1)) m.2)
    (λ e. touched_resolves v past name lawful.1 e)
    (or_cases (touches v.registered name event) (list_any (touches v.registered name) past) h)

-- what a touched name needs was touched
pub touched_on : (v : View) (past : List Event) (name member : Text) → is_touched v past name ≡ true → InClosure v.registered name member →
    is_touched v past member ≡ true
touched_on v [] name member h m = cc
touched_on v (event ∷ past) name member h m = ⊎_elim
    (λ e. let o = of_one v.registered event.requested name e in
    or_left (touches v.registered member event) _ (in_one v.registered event.requested o.0 member o.1 (closure_on v.registered o.0 name member o.2 m)))
    (λ e. or_right (touches v.registered member event) _ (touched_on v past name member e m))
    (or_cases (touches v.registered name event) (list_any (touches v.registered name) past) h)

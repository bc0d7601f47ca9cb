-- A refusal names the least name.
use Rattle.std.proofs.Common.{◌≡◌, List, Bool, true, not, Option, Some, None, refl, ap, ◌∙◌}
use Rattle.std.specs.Prelude.{Contains, filter, is_none}
use Rattle.std.proofs.lemmas.Bool.{and_from, and_parts, not_from_false, not-true}
use Rattle.rl_view_spec.specs.Closure.{Text, Registered, Resolves, has_row, in_closures, leads_back, mentioned, least, Unknown, Cycle, or_cycle}
use Rattle.rl_view_spec.specs.Closure.{refusal_of}
use Rattle.rl_view_spec.specs.Laws.{IsUnknown, IsLooped, IsLeast}
use Rattle.rl_view_spec.proofs.LeastLemmas.{least_of, none_of, one_least}
use Rattle.rl_view_spec.proofs.ToolsLemmas.{contains_filter, filter_contains}
use Rattle.rl_view_spec.proofs.ResolveLemmas.{is_unknown, is_looped, in_one, of_one, member_mentioned, back_from_cyclic, cyclic_from_back, accepted_resolves}

-- ---- the two searches

unknown_means : (r : Registered) (names : List Text) (m : Text) → is_unknown r names m ≡ true → IsUnknown r names m
unknown_means r names m h = let parts = and_parts (in_closures r names m) (not (has_row r m)) h in (of_one r names m parts.0, not-true (has_row r m) parts.1)

means_unknown : (r : Registered) (names : List Text) (m : Text) → IsUnknown r names m → is_unknown r names m ≡ true
means_unknown r names m u = and_from (in_closures r names m) (not (has_row r m)) (in_one r names u.0.0 m u.0.1 u.0.2) (not_from_false (has_row r m) u.1)

looped_means : (r : Registered) (names : List Text) (m : Text) → is_looped r names m ≡ true → IsLooped r names m
looped_means r names m h = let parts = and_parts (in_closures r names m) (leads_back r m) h in (of_one r names m parts.0, cyclic_from_back r m parts.1)

means_looped : (r : Registered) (names : List Text) (m : Text) → IsLooped r names m → is_looped r names m ≡ true
means_looped r names m u = and_from (in_closures r names m) (leads_back r m) (in_one r names u.0.0 m u.0.1 u.0.2) (back_from_cyclic r m u.1)

abbrev pub first_unknown : Registered → List Text → Option Text
first_unknown r names = least (filter (is_unknown r names) (mentioned r names))

abbrev pub first_looped : Registered → List Text → Option Text
first_looped r names = least (filter (is_looped r names) (mentioned r names))

-- the least of what is mentioned, where a test tells what is looked for
module _ (r : Registered) (names : List Text) (P : Text → Type 0) (test : Text → Bool) (means : (m : Text) → test m ≡ true → P m)
    (tells : (m : Text) → P m → test m ≡ true) (there : (m : Text) → P m → Contains (mentioned r names) m) where
  among : (m : Text) → P m → Contains (filter test (mentioned r names)) m
  among m p = contains_filter test (mentioned r names) m (there m p) (tells m p)

  least_found : (n : Text) → least (filter test (mentioned r names)) ≡ Some n → IsLeast P n
  least_found n h = least_of P (filter test (mentioned r names)) n (λ m c. means m (filter_contains test (mentioned r names) m c).1) among h

  none_found : least (filter test (mentioned r names)) ≡ None → (m : Text) → P m → ⊥
  none_found h = none_of P (filter test (mentioned r names)) among h

unknown_there : (r : Registered) (names : List Text) (m : Text) → IsUnknown r names m → Contains (mentioned r names) m
unknown_there r names m u = member_mentioned r names u.0.0 m u.0.1 u.0.2

looped_there : (r : Registered) (names : List Text) (m : Text) → IsLooped r names m → Contains (mentioned r names) m
looped_there r names m u = member_mentioned r names u.0.0 m u.0.1 u.0.2

unknown_least : (r : Registered) (names : List Text) (n : Text) → first_unknown r names ≡ Some n → IsLeast (IsUnknown r names) n
unknown_least r names n h =
    least_found r names (IsUnknown r names) (is_unknown r names) (unknown_means r names) (means_unknown r names) (unknown_there r names) n h

looped_least : (r : Registered) (names : List Text) (n : Text) → first_looped r names ≡ Some n → IsLeast (IsLooped r names) n
looped_least r names n h =
    least_found r names (IsLooped r names) (is_looped r names) (looped_means r names) (means_looped r names) (looped_there r names) n h

none_unknown : (r : Registered) (names : List Text) → first_unknown r names ≡ None → (m : Text) → IsUnknown r names m → ⊥
none_unknown r names h =
    none_found r names (IsUnknown r names) (is_unknown r names) (unknown_means r names) (means_unknown r names) (unknown_there r names) h

none_looped : (r : Registered) (names : List Text) → first_looped r names ≡ None → (m : Text) → IsLooped r names m → ⊥
none_looped r names h =
    none_found r names (IsLooped r names) (is_looped r names) (looped_means r names) (means_looped r names) (looped_there r names) h

-- ---- what a refusal says

either_unknown : (a b : Option Text) (n : Text) → or_cycle a b ≡ Some (Unknown n) → a ≡ Some n
either_unknown (Some x) b n h = cc
either_unknown None (Some y) n h = cc
either_unknown None None n h = cc

either_cycle : (a b : Option Text) (n : Text) → or_cycle a b ≡ Some (Cycle n) → (a ≡ None) × (b ≡ Some n)
either_cycle (Some x) b n h = cc
either_cycle None (Some y) n h = (refl, cc)
either_cycle None None n h = cc

pub refused_unknown : (r : Registered) (names : List Text) (n : Text) → refusal_of r names ≡ Some (Unknown n) → IsLeast (IsUnknown r names) n
refused_unknown r names n h = unknown_least r names n (either_unknown (first_unknown r names) (first_looped r names) n h)

pub unknown_refused : (r : Registered) (names : List Text) (n : Text) → IsLeast (IsUnknown r names) n → refusal_of r names ≡ Some (Unknown n)
unknown_refused r names n l = step (first_unknown r names) refl
  where
    step : (o : Option Text) → first_unknown r names ≡ o → refusal_of r names ≡ Some (Unknown n)
    step None e = absurd (none_unknown r names e n l.holds)
    step (Some m) e = ap (λ (o : Option Text). or_cycle o (first_looped r names)) e
        ∙ ap (λ (x : Text). Some (Unknown x)) (one_least (IsUnknown r names) m n (unknown_least r names m e) l)

pub refused_cycle : (r : Registered) (names : List Text) (n : Text) → refusal_of r names ≡ Some (Cycle n) →
    ((m : Text) → IsUnknown r names m → ⊥) × IsLeast (IsLooped r names) n
refused_cycle r names n h = let parts = either_cycle (first_unknown r names) (first_looped r names) n h in
    (none_unknown r names parts.0, looped_least r names n parts.1)

pub cycle_refused : (r : Registered) (names : List Text) (n : Text) → ((m : Text) → IsUnknown r names m → ⊥) → IsLeast (IsLooped r names) n →
    refusal_of r names ≡ Some (Cycle n)
cycle_refused r names n known l = first (first_unknown r names) refl (first_looped r names) refl
  where
    first : (a : Option Text) → first_unknown r names ≡ a → (b : Option Text) → first_looped r names ≡ b → refusal_of r names ≡ Some (Cycle n)
    first (Some m) e b f = absurd (known m (unknown_least r names m e).holds)
    first None e None f = absurd (none_looped r names f n l.holds)
    first None e (Some m) f = ap (λ (o : Option Text). or_cycle o (first_looped r names)) e ∙ ap (λ (o : Option Text). or_cycle None o) f
        ∙ ap (λ (x : Text). Some (Cycle x)) (one_least (IsLooped r names) m n (looped_least r names m f) l)

-- refused nowhere where each name resolves
pub refused_nowhere : (r : Registered) (names : List Text) → refusal_of r names ≡ None → (name : Text) → Contains names name → Resolves r name
refused_nowhere r names h = accepted_resolves r names (ap is_none h)

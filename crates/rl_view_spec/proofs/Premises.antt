-- That the premises of the laws are needed.
use Rattle.std.proofs.Common.{◌≡◌, ℕ, List, [], ◌∷◌, true, false, refl, ap, ⊎_elim, arith, None, get_or}
use Rattle.std.specs.Prelude.{codes, ◌||◌, nat_eq}
use Rattle.std.specs.List.{list_all}
use Rattle.rl_names.specs.declared.row.Row.{Row}
use Rattle.rl_names.specs.declared.row.Dep.{Dep}
use Rattle.rl_names.specs.declared.row.Dep.TheVariants.{At, Named}
use Rattle.rl_names.specs.declared.row.Group.TheVariants.{Plain}
use Rattle.rl_view_spec.specs.Closure.{Text, refusal_of}
use Rattle.rl_view_spec.specs.Progress.{phase_of, all_needed, is_done}
use Rattle.rl_view_spec.specs.View.{View, Event, Implementation, log_of, state_of, progress_of}
use Rattle.rl_view_spec.specs.Headline.{RunsOnceAndAfter, ReadyWhereGood}
use Rattle.rl_view_spec.specs.Laws.{AreLawful}
use Rattle.rl_view_spec.specs.Direct.{all_direct, dep_passes}
use Rattle.rl_view_spec.specs.declared.Phase.TheVariants as phase
use Rattle.rl_view_spec.proofs.ToolsLemmas.{contains_none}

abbrev a : Text
a = codes "A"

abbrev b : Text
b = codes "B"

abbrev row : Text → List Dep → Row
row name deps = record { name = name; version = None; deps = deps; group = Plain; source = []; skip = None }

abbrev view : List Row → View
view rows = record { registered = record { rows = rows; features = [] }; throws = λ name version script. false }

abbrev asked : Text → Event
asked name = record { requested = name ∷ []; came = [] }

abbrev came : Text → Event
came name = record { requested = []; came = (name, Implementation [] []) ∷ [] }

-- ---- two rows of one name: each waits for the other, and the name is good

abbrev twins : View
twins = view (row a [] ∷ row a [] ∷ [])

abbrev twins_past : List Event
twins_past = came a ∷ asked a ∷ []

twins_lawful : AreLawful twins twins_past
twins_lawful = (refl, (refl, tt))

twins_log : log_of twins twins_past ≡ []
twins_log = refl

twins_ready : state_of twins twins_past a ≡ phase.Ready
twins_ready = refl

twins_loaded : phase_of (progress_of twins twins_past (log_of twins twins_past)) 0 ≡ phase.Loaded
twins_loaded = refl

twins_no_headline : ReadyWhereGood twins twins_past a → ⊥
twins_no_headline h = ⊎_elim (λ s. let e : false ≡ true = s in cc) (λ c. contains_none 0 c)
    (h.ran refl 0 (omega arith) ([], refl))

twins_direct : all_direct twins.registered 0 (λ other. nat_eq other 0 || is_done (progress_of twins twins_past []) other) ≡ true
twins_direct = refl

twins_needed : all_needed twins.registered 0 (λ other. nat_eq other 0 || is_done (progress_of twins twins_past []) other) ≡ false
twins_needed = refl

-- ---- a cycle that was not refused: all is good and nothing runs

abbrev ring : View
ring = view (row a (Named b ∷ []) ∷ row b (Named a ∷ []) ∷ [])

abbrev ring_past : List Event
ring_past = came a ∷ came b ∷ asked a ∷ []

ring_not_ready_where_good : ReadyWhereGood ring ring_past a → ⊥
ring_not_ready_where_good h = ⊎_elim (λ s. let e : false ≡ true = s in cc) (λ c. contains_none 0 c) (h.ran refl 0 (omega arith) ([], refl))

-- ---- an unknown dependency that was not refused: the row runs, and what it needs did not

abbrev gap : View
gap = view (row a (Named b ∷ []) ∷ [])

abbrev gap_past : List Event
gap_past = came a ∷ asked a ∷ []

gap_not_after : RunsOnceAndAfter gap gap_past → ⊥
gap_not_after h = ⊎_elim (λ s. let e : false ≡ true = s in cc) (λ m. contains_none m.0 m.1)
    (h.after [] [] 0 refl b (b ∷ [], ((0, omega arith, refl), refl))
    (λ e. let f : get_or b 0 0 ≡ get_or a 0 0 = ap (λ (xs : List ℕ). get_or xs 0 0) e in absurd (omega (arith, f))))

-- ---- a dependency by a number without a row is none, and does not pass

abbrev beyond : View
beyond = view (row a (At 7 ∷ []) ∷ [])

beyond_accepted : refusal_of beyond.registered (a ∷ []) ≡ None
beyond_accepted = refl

beyond_direct : all_direct beyond.registered 0 (is_done (progress_of beyond [] [])) ≡ true
beyond_direct = refl

beyond_deps : list_all (dep_passes beyond.registered (is_done (progress_of beyond [] []))) (At 7 ∷ []) ≡ false
beyond_deps = refl

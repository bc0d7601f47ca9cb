-- How a walk over the rows finds a closure.
use Rattle.std.specs.Prelude.{◌≡◌, ◌<◌, ◌↔◌, ℕ, List, [], ◌∷◌, Bool, Contains, IsTrue, length}
use Rattle.rl_view_spec.specs.Closure.{Text, Registered, deps_of, InClosure, IsCyclic}
use Rattle.rl_view_spec.specs.Progress.{name_at, HasDistinctNames}

-- a chain of row numbers along these edges
abbrev pub LeadsAt : (ℕ → List ℕ) → ℕ → List ℕ → ℕ → Type 0
LeadsAt edges row [] last = row ≡ last
LeadsAt edges row (next ∷ rows) last = Contains (edges row) next × LeadsAt edges next rows last

-- the edges of each row go to the rows that it depends on
pub record AreEdges (r : Registered) (edges : ℕ → List ℕ) : Type 0 where
  pub inside : (row next : ℕ) → row < length r.rows → Contains (edges row) next → next < length r.rows
  pub means : (row next : ℕ) → row < length r.rows → next < length r.rows →
      Contains (edges row) next ↔ Contains (deps_of r (name_at r row)) (name_at r next)

-- so chains of numbers lead to the rows of the closure
abbrev pub EdgesLead : Type 0
EdgesLead =
    (r : Registered) (edges : ℕ → List ℕ) → HasDistinctNames r → AreEdges r edges → (row last : ℕ) → row < length r.rows →
    last < length r.rows
    → ((rows : List ℕ) × LeadsAt edges row rows last) ↔ InClosure r (name_at r row) (name_at r last)

-- a set of names that has a name, and with each what it depends on, has the closure
abbrev pub ClosedHasClosure : Type 0
ClosedHasClosure =
    (r : Registered) (name : Text) (set : Text → Bool) → IsTrue (set name) →
    ((one next : Text) → IsTrue (set one) → Contains (deps_of r one) next → IsTrue (set next))
    → (member : Text) → InClosure r name member → IsTrue (set member)

-- where each dependency in a closure ranks lower nothing there leads back to itself
abbrev pub RankedIsAcyclic : Type 0
RankedIsAcyclic =
    (r : Registered) (name : Text) (rank : Text → ℕ) →
    ((one next : Text) → InClosure r name one → Contains (deps_of r one) next → rank next < rank one)
    → (member : Text) → InClosure r name member → IsCyclic r member → ⊥

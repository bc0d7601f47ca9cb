-- What an answer is made of: texts of modules that may be sent for its query, and lines that tell whether a name that
-- it asks for is served; and what a reader gets of it.
use Rattle.std.specs.Prelude.{◌≡◌, ◌≢◌, ℕ, List, [], ◌∷◌, flat_map, Some, Ok, Contains, codes}
use Rattle.std.specs.List.{AllByRecursion}
use Rattle.rl_names.specs.declared.query.Query.{Query}
use Rattle.rl_names.specs.declared.query.Only.TheVariants.{All}
use Rattle.rl_wire.specs.declared.part.Part.{Part}
use Rattle.rl_wire.specs.Line.{line, implement_text, state_text, wire_text, IsPart}
use Rattle.rl_wire.specs.Reading.{answer_of as parts_said}
use Rattle.rl_pages.specs.Viewer.{viewer_of}
use Rattle.rl_build.specs.declared.sheets.Sheet.{Sheet}
use Rattle.rl_build.specs.declared.payloads.Payload.{Payload}
use Rattle.rl_build.specs.Sight.{Sight}
use Rattle.rl_build.specs.Sheet.{sheet_of}
use Rattle.rl_build.specs.Payload.{payload_of, version_of}
use Rattle.rl_loadphp.specs.Served.{names_of, query_context}

-- The query asks for this module, which brings this. It is not private, this wiki serves it, and where it is of the
-- group `user` the query names the viewer as its user.
pub record MaySend (s : Sight) (q : Query) (name : List ℕ) (p : Payload) : Type 0 where
  pub asked : Contains (names_of q) name
  pub sheet : Sheet
  pub known : sheet_of s (query_context s.catalogue q) name ≡ Some sheet
  pub public : sheet.group ≢ codes "private"
  pub here : sheet.source ≡ codes "local"
  pub own : sheet.group ≡ codes "user" → viewer_of q.user ≡ Some s.history.viewer
  pub brings : payload_of s (query_context s.catalogue q) name ≡ Some p

-- a text that may stand in the answer to a query
pub data Piece (s : Sight) (q : Query) : List ℕ → Type 0 where
  implementation : (name : List ℕ) (p : Payload) → MaySend s q name p → Piece s q (line (implement_text name (version_of p) p.script p.styles p.messages))
  script : (name : List ℕ) (p : Payload) → MaySend s q name p → Piece s q p.script
  styles : (name : List ℕ) (p : Payload) → MaySend s q name p → Piece s q p.styles
  state : (name word : List ℕ) → Contains (names_of q) name → Contains (codes "ready" ∷ codes "missing" ∷ []) word →
      Piece s q (line (state_text name word))

abbrev pub IsMadeOfPieces : Sight → Query → List ℕ → Type 0
IsMadeOfPieces s q body = (pieces : List (List ℕ)) × (body ≡ flat_map (λ piece. piece) pieces) × AllByRecursion (Piece s q) pieces

-- Of a body for everything that modules bring a reader gets lawful parts: the body is their text, and no other parts have it.
abbrev pub SaysParts : Query → List ℕ → Type 0
SaysParts q body =
    q.only ≡ All → (parts : List Part) × AllByRecursion IsPart parts × (body ≡ wire_text parts) × (parts_said body ≡ Ok parts)

-- The parameters of a request for modules, read from a web form and written as one.
use Rattle.std.specs.Prelude.{◌≡◌, ℕ, ◌+◌, Bool, ◌||◌, nat_lt, if◌then◌else◌, List, [], ◌∷◌, length, map, filter, None, unwrap_or}
use Rattle.std.specs.Prelude.{bytes_eq, codes, IsUtf8}
use Rattle.std.specs.List.{last_or}
use Rattle.std.specs.Str.Lossy.{utf8_lossy}
use Rattle.form_urlencoded.specs.Form as form
use Rattle.rl_names.specs.declared.query.Only.{Only}
use Rattle.rl_names.specs.declared.query.Only.TheVariants.{All, Scripts, Styles}
use Rattle.rl_names.specs.declared.query.Query.{Query}

-- ---- reading

-- the text that an encoded name or value stands for; bytes that are no UTF-8 become U+FFFD
abbrev pub decoded : List ℕ → List ℕ
decoded bytes = utf8_lossy (form.decode bytes)

-- the values under a name, in the order of the form
abbrev pub values_of : List ℕ → List ℕ → List (List ℕ)
values_of input name = map (λ pair. decoded pair.1) (filter (λ pair. bytes_eq (decoded pair.0) name) (form.raw_pairs input))

-- the last value under a name; without one, the empty text
abbrev pub last_value : List ℕ → List ℕ → List ℕ
last_value input name = unwrap_or (last_or None (values_of input name)) []

abbrev pub is_on : List ℕ → Bool
is_on value = bytes_eq value (codes "true") || bytes_eq value (codes "1") || bytes_eq value (codes "2")

abbrev pub only_of : List ℕ → Only
only_of value =
    if bytes_eq value (codes "scripts") then Scripts
    else (if bytes_eq value (codes "styles") then Styles else All)

-- the query that a form spells; what else the form has is ignored
abbrev pub query_of : List ℕ → Query
query_of input = record {
  modules = last_value input (codes "modules");
  lang = last_value input (codes "lang");
  skin = last_value input (codes "skin");
  debug = is_on (last_value input (codes "debug"));
  only = only_of (last_value input (codes "only"));
  user = last_value input (codes "user");
  version = last_value input (codes "version");
}

-- ---- writing

abbrev pub debug_text : Bool → List ℕ
debug_text debug = if debug then codes "true" else []

abbrev pub only_text : Only → List ℕ
only_text All = []
only_text Scripts = codes "scripts"
only_text Styles = codes "styles"

-- the parameters that are not empty, by name
abbrev pub parameters : Query → List (List ℕ × List ℕ)
parameters q = filter (λ pair. nat_lt 0 (length pair.1)) (
    (codes "debug", debug_text q.debug) ∷ (codes "lang", q.lang) ∷ (codes "modules", q.modules)
    ∷ (codes "only", only_text q.only) ∷ (codes "skin", q.skin) ∷ (codes "user", q.user) ∷ (codes "version", q.version) ∷ [])

abbrev pub query_text : Query → List ℕ
query_text q = form.extend_pairs [] (parameters q)

-- how many bytes the query's texts have together
abbrev pub size_of : Query → ℕ
size_of q = length q.modules + length q.lang + length q.skin + length q.user + length q.version

-- the texts of a query are UTF-8
pub record IsText (q : Query) : Type 0 where
  pub modules : IsUtf8 q.modules
  pub lang : IsUtf8 q.lang
  pub skin : IsUtf8 q.skin
  pub user : IsUtf8 q.user
  pub version : IsUtf8 q.version

-- a query that was written is read again
abbrev pub QueryIsReadAgain : Type 0
QueryIsReadAgain = (q : Query) → IsText q → query_of (query_text q) ≡ q

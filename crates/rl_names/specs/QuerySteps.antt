-- A query read pair by pair and written parameter by parameter.
use Rattle.std.specs.Prelude.{ℕ, nat_lt, false, if◌then◌else◌, List, [], length, bytes_eq, codes}
use Rattle.form_urlencoded.specs.Form as form
use Rattle.rl_names.specs.declared.query.Only.TheVariants.{All}
use Rattle.rl_names.specs.declared.query.Query.{Query}
use Rattle.rl_names.specs.Query.{decoded, is_on, only_of}

-- the value of this pair where it has the name, else what was found before
abbrev pub later_value : List ℕ → List ℕ → List ℕ × List ℕ → List ℕ
later_value name found pair = if bytes_eq (decoded pair.0) name then decoded pair.1 else found

abbrev pub no_query : Query
no_query = record { modules = []; lang = []; skin = []; debug = false; only = All; user = []; version = [] }

-- the query after a parameter, whose value takes the place of an earlier one
abbrev pub noted : Query → List ℕ → List ℕ → Query
noted q name value = record {
  modules = if bytes_eq name (codes "modules") then value else q.modules;
  lang = if bytes_eq name (codes "lang") then value else q.lang;
  skin = if bytes_eq name (codes "skin") then value else q.skin;
  debug = if bytes_eq name (codes "debug") then is_on value else q.debug;
  only = if bytes_eq name (codes "only") then only_of value else q.only;
  user = if bytes_eq name (codes "user") then value else q.user;
  version = if bytes_eq name (codes "version") then value else q.version;
}

abbrev pub noted_pair : Query → List ℕ × List ℕ → Query
noted_pair q pair = noted q (decoded pair.0) (decoded pair.1)

-- the form with one more parameter, unless its value is empty
abbrev pub with_parameter : List ℕ → List ℕ → List ℕ → List ℕ
with_parameter text name value = if nat_lt 0 (length value) then form.append_pair text name value else text

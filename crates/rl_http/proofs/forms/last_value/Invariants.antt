use Rattle.std.proofs.Common.{◌≡◌, []}
use Rattle.std.specs.Prelude.{fold}
use Rattle.form_urlencoded.specs.Parse.{raw_pairs_left}
use Rattle.form_urlencoded.specs.Form.{raw_pairs}
use Rattle.rl_http.specs.Forms.{later_value}
use Rattle.rl_http.proofs.forms.last_value.Given as goal

-- what is left, from the value so far, gives the whole
abbrev pub invariant-pairs : goal.invariant-pairs
invariant-pairs l = fold (later_value l.name) l.found (raw_pairs_left l.other-iterator) ≡ fold (later_value l.name) [] (raw_pairs l.form)

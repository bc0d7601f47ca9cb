-- The grammar of a line of a script of steps: a JSON array of a word and the members that belong to it.
use Rattle.std.specs.Prelude.{ℕ, ◌^◌, ◌∷◌, [], List, if◌then◌else◌, bytes_eq, codes, nat_lt, Option, Some, None, option_map}
use Rattle.serde_json.specs.Data.{Data}
use Rattle.serde_json.specs.Read.{read}
use Rattle.serde_json.specs.Find.{as_array, as_bool, as_number, as_str, as_u64}
use Rattle.rl_names.specs.Title.{user_name_of}
use Rattle.rl_view_spec.specs.Closure.{Text}
use Rattle.rl_script_spec.specs.Grammar.{◌>>=◌, members_of, only_texts, texts_in}
use Rattle.rl_steps.specs.declared.step.Step.{Step}
use Rattle.rl_steps.specs.declared.step.Step.TheVariants.{Edit, Choice, Clock, View, Using, Load, Take, Serve, Deliver, Lose, Close, Embed}
use Rattle.rl_steps.specs.declared.step.TheConstants as limits

-- ---- what one member says

-- a user as the rule of user names spells the name; no bytes at all are nobody
abbrev pub user_of : Text → Option Text
user_of [] = Some []
user_of (b ∷ bs) = user_name_of (b ∷ bs)

abbrev pub user_in : Data → Option Text
user_in member = as_str member >>= user_of

-- a whole number that is not negative
abbrev pub whole_in : Data → Option ℕ
whole_in member = as_number member >>= as_u64

-- the number, where it is below the bound
abbrev pub if_below : ℕ → ℕ → Option ℕ
if_below bound number = if nat_lt number bound then Some number else None

-- the number of an ask or of an answer
abbrev pub number_in : Data → Option ℕ
number_in member = whole_in member >>= if_below (2 ^ 32)

-- a moment of a clock
abbrev pub moment_in : Data → Option ℕ
moment_in member = whole_in member >>= if_below limits.CLOCK_END

-- ---- what the members after a word say: nothing where they are not of the grammar

-- who edits, the title, the revision that it goes over, and the text
abbrev pub edit_step : List Data → Option Step
edit_step (by ∷ title ∷ base ∷ text ∷ []) = do
  by ← user_in by
  title ← as_str title
  base ← whole_in base
  text ← as_str text
  Some (Edit by title base text)
edit_step other = None

-- a user, the key of an option, and its value
abbrev pub choice_step : List Data → Option Step
choice_step (user ∷ key ∷ value ∷ []) = do
  user ← user_in user
  key ← as_str key
  value ← as_str value
  Some (Choice user key value)
choice_step other = None

abbrev pub clock_step : List Data → Option Step
clock_step (now ∷ []) = option_map Clock (moment_in now)
clock_step other = None

-- who views, in which language, with which skin, whether in debug, and the features of the page
abbrev pub view_step : List Data → Option Step
view_step (user ∷ lang ∷ skin ∷ debug ∷ features ∷ []) = do
  user ← user_in user
  lang ← as_str lang
  skin ← as_str skin
  debug ← as_bool debug
  features ← texts_in features
  Some (View user lang skin debug features)
view_step other = None

abbrev pub using_step : List Data → Option Step
using_step members = option_map Using (only_texts members)

abbrev pub load_step : List Data → Option Step
load_step members = option_map Load (only_texts members)

-- a step that is its word alone
abbrev pub bare_step : Step → List Data → Option Step
bare_step step [] = Some step
bare_step step other = None

-- the number that stands alone
abbrev pub only_number : List Data → Option ℕ
only_number (member ∷ []) = number_in member
only_number other = None

abbrev pub serve_step : List Data → Option Step
serve_step members = option_map Serve (only_number members)

abbrev pub deliver_step : List Data → Option Step
deliver_step members = option_map Deliver (only_number members)

abbrev pub lose_step : List Data → Option Step
lose_step members = option_map Lose (only_number members)

abbrev pub embed_step : List Data → Option Step
embed_step (text ∷ []) = option_map Embed (as_str text)
embed_step other = None

-- the words of what happens to the wiki, between it and a page, and to a page
abbrev pub wiki_step : Text → List Data → Option Step
wiki_step word members =
    if bytes_eq word (codes "edit") then edit_step members
    else if bytes_eq word (codes "option") then choice_step members
    else if bytes_eq word (codes "clock") then clock_step members
    else None

abbrev pub answer_step : Text → List Data → Option Step
answer_step word members =
    if bytes_eq word (codes "take") then bare_step Take members
    else if bytes_eq word (codes "serve") then serve_step members
    else if bytes_eq word (codes "deliver") then deliver_step members
    else if bytes_eq word (codes "lose") then lose_step members
    else wiki_step word members

abbrev pub word_step : Text → List Data → Option Step
word_step word members =
    if bytes_eq word (codes "view") then view_step members
    else if bytes_eq word (codes "using") then using_step members
    else if bytes_eq word (codes "load") then load_step members
    else if bytes_eq word (codes "embed") then embed_step members
    else if bytes_eq word (codes "close") then bare_step Close members
    else answer_step word members

-- the word, and what it says with the other members
abbrev pub members_step : List Data → Option Step
members_step [] = None
members_step (word ∷ members) = as_str word >>= λ text. word_step text members

-- the step that a line says which is not ignored: none where the line is not of the grammar
abbrev pub step_of : Text → Option Step
step_of text = read text >>= as_array >>= λ items. members_step (members_of items)

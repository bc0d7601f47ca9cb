-- Worked examples, computed.
use Rattle.std.proofs.Common.{◌≡◌, ℕ, List, [], ◌∷◌, false, codes, Some, None, Ok, Err, refl}
use Rattle.std.specs.Str.{is_utf8, chars}
use lib.Utf8.{encode}
use Rattle.rl_pages.specs.declared.viewer.Viewer.TheVariants.{Anon, User}
use Rattle.rl_pages.specs.declared.entry.Entry.{Entry}
use Rattle.rl_pages.specs.declared.entry.Entry.TheVariants.{Edit, Choice}
use Rattle.rl_pages.specs.declared.refusals.EditError.TheVariants as edit
use Rattle.rl_pages.specs.declared.refusals.ChoiceError.TheVariants as choice
use Rattle.rl_pages.specs.Viewer.{owner_of}
use Rattle.rl_pages.specs.Policy.{may_edit}
use Rattle.rl_pages.specs.Refusals.{checked_edit, checked_choice, is_kept}
use Rattle.rl_pages.specs.History.{page_of, revision_of}

root : List (List ℕ)
root = codes "Root" ∷ []

bad_title : checked_edit root [] (User (codes "Root")) (codes "a|b") 0 [] ≡ Err edit.BadTitle
unfolding root is_utf8 chars encode
bad_title = refl

nobody : checked_edit root [] Anon (codes "Talk") 0 [] ≡ Err edit.NotAllowed
unfolding root is_utf8 chars encode
nobody = refl

interface_page : checked_edit root [] (User (codes "Ann")) (codes "MediaWiki:Common.js") 0 [] ≡ Err edit.NotAllowed
unfolding root is_utf8 chars encode
interface_page = refl

conflict : checked_edit root [] (User (codes "Root")) (codes "Talk") 5 [] ≡ Err (edit.Conflict 0)
unfolding root is_utf8 chars encode
conflict = refl

own_page : checked_edit root [] (User (codes "Ann")) (codes "User:Ann/common.js") 0 (codes "x")
    ≡ Ok (Edit (codes "Ann") (codes "User:Ann/common.js") (codes "x"))
unfolding root is_utf8 chars encode
own_page = refl

nobodys_option : checked_choice [] Anon (codes "k") (codes "v") ≡ Err choice.NotAllowed
nobodys_option = refl

-- a name that is empty is for admins, and a page of another prefix is an ordinary one
empty_owner : may_edit root (User (codes "Ann")) (codes "User:/x") ≡ false
unfolding root
empty_owner = refl

no_owner : owner_of (codes "user:Ann/x") ≡ None
no_owner = refl

empty_key : is_kept (Choice (codes "Ann") [] (codes "v")) ≡ false
unfolding is_utf8 chars encode
empty_key = refl

two : List Entry
two = Edit (codes "Root") (codes "Talk") (codes "one") ∷ Choice (codes "Ann") (codes "k") (codes "v") ∷ Edit (codes "Ann") (codes "Talk")
    (codes "two") ∷ []

last_text : page_of two (codes "Talk") ≡ Some (codes "two")
unfolding two
last_text = refl

last_number : revision_of two (codes "Talk") ≡ 3
unfolding two
last_number = refl

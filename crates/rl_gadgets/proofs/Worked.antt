-- Worked examples, computed on the definitions.
use Rattle.std.proofs.Common.{◌≡◌, List, ℕ, [], ◌∷◌, true, codes, Err, refl}
use Rattle.std.specs.Str.{is_utf8, chars}
use lib.Utf8.{encode}
use Rattle.rl_gadgets.specs.Line.{NotClosed, NotMeant, NoPage, gadget_in}
use Rattle.rl_gadgets.specs.List.{gadgets_of}

-- a heading, a gadget, one without the option `ResourceLoader`, and one whose name is no module's
tools : List ℕ
tools = codes "== Tools ==\n* Hot Cat [ResourceLoader|default|dependencies=a,m] | HotCat.js | HotCat.css\n* Old | Old.js\n* Été [ResourceLoader] | E.js"

gadget_lines : gadgets_of tools ≡ record {
  rows = record {
    name = codes "ext.gadget.Hot_Cat";
    line = 2;
    scripts = codes "MediaWiki:Gadget-HotCat.js" ∷ [];
    styles = codes "MediaWiki:Gadget-HotCat.css" ∷ [];
    deps = codes "a" ∷ codes "m" ∷ [];
    skins = [];
    for_all = true;
  } ∷ [];
  passed = 3 ∷ 4 ∷ [];
}
unfolding tools is_utf8 chars encode
gadget_lines = refl

-- why lines define nothing
not_closed : gadget_in 1 (codes "A [ResourceLoader | A.js") ≡ Err NotClosed
not_closed = refl

without_options : gadget_in 1 (codes "A | A.js") ≡ Err NotMeant
unfolding is_utf8 chars encode
without_options = refl

without_pages : gadget_in 1 (codes "A [ResourceLoader] | A.png") ≡ Err NoPage
without_pages = refl

-- What becomes of a gadget behind rows.
use Rattle.std.proofs.Common.{◌≡◌, ℕ, Bool, true, false, cond, not, List, [], ◌∷◌, ◌++◌}
use Rattle.std.proofs.Common.{Option, Some, None, Result, Ok, Err, refl, ap, sym}
use Rattle.std.specs.Prelude.{is_some, unwrap_or}
use Rattle.std.specs.Option.{option_map_or}
use Rattle.std.specs.Result.{result_ok}
use Rattle.rl_gadgets.specs.declared.gadget.Gadget.{Gadget}
use Rattle.rl_gadgets.specs.declared.list.GadgetList.{GadgetList}
use Rattle.rl_gadgets.specs.Line.{Reason}
use Rattle.rl_gadgets.specs.List.{fault_behind, row_behind, with_row}

abbrev so : List Gadget → List ℕ → GadgetList
so rows passed = record { rows = rows; passed = passed }

pub row_given : (rows : List Gadget) (passed : List ℕ) (n : ℕ) (g : Gadget) (fault : Option Reason) (taken : Bool) → taken ≡ not (is_some fault)
    → with_row (so rows passed) n (option_map_or Err fault (Ok g))
    ≡ so (cond taken (rows ++ g ∷ []) rows) (cond taken passed (passed ++ n ∷ []))
row_given rows passed n g None taken h = rw h refl
row_given rows passed n g (Some why) taken h = rw h refl

pub found_ok : (found : Result Gadget Reason) (g : Gadget) → Some g ≡ result_ok found → found ≡ Ok g
found_ok (Ok x) g e = ap (λ o. Ok (unwrap_or o x)) (sym e)
found_ok (Err why) g e = absurd (let clash : true ≡ false = ap is_some e in cc)

pub none_found : (rows : List Gadget) (passed : List ℕ) (n : ℕ) (found : Result Gadget Reason) → None ≡ result_ok found
    → with_row (so rows passed) n (row_behind rows found) ≡ so rows (passed ++ n ∷ [])
none_found rows passed n (Ok x) e = absurd (let clash : false ≡ true = ap is_some e in cc)
none_found rows passed n (Err why) e = refl

-- The objects that are seen, against the entries that are kept.
use Rattle.std.proofs.Common.{◌≡◌, Option, None, Some, option_copied, is_some, Result, Ok, Err, IsOk, OnOk, Bor, ap}
use Rattle.doc_tree.specs.Doc.{Doc}

-- an object is found where there is one
pub is_found : (found : Option (Bor Doc)) (object : Option Doc) → option_copied found ≡ object → is_some found ≡ is_some object
is_found None object same = ap is_some same
is_found (Some t) object same = ap is_some same

-- what holds after a success, where the call succeeds
pub of_ok : {T E P : Type 0} (r : Result T E) → IsOk r → OnOk r P → P
of_ok (Ok x) is p = p
of_ok (Err e) is p = cc

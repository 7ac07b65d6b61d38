-- An object that was read has its name.
use Rattle.std.proofs.Common.{◌≡◌, ℕ, List, [], ◌∷◌, Bool, true, false, cond, not, ◌&&◌, IsTrue, IfSome, IfOk, Option, Some, None, is_some, unwrap_or, option_and_then, Result, Ok, Err, bytes_eq, refl, sym, ap, subst, ◌∙◌}
use Rattle.std.proofs.lemmas.Option.{same_Some}
use Rattle.std.proofs.lemmas.Slice.Eq.{bytes_eq-Decides}
use Rattle.std.specs.List.{list_all}
use Rattle.doc_tree.specs.Doc.{Doc, null, boolean, whole, words, list, dict, Pairs, pairs_of}
use Rattle.doc_tree.specs.Name.{is_name}
use Rattle.doc_tree.specs.Part.{pair_at}
use Rattle.doc_tree.specs.Tree.{doc_of}
use Rattle.doc_tree.specs.declared.kind.Kind.{Kind}
use Rattle.doc_tree.specs.declared.kind.Kind.TheVariants.{Org, Node, Role, Environment, Bag, Client, User, Group, Container, Item, Cookbook, Artifact, Policy, PolicyGroup, Acl, Sandbox, File}
use Rattle.doc_tree.specs.declared.tree.Tree.{Tree}
use Rattle.object_forms.specs.Fields.{Row, Absent, fault, nothing, stands, unsent, sent, taken, then_do, fields_of}
use Rattle.object_forms.specs.Forms as forms
use Rattle.object_forms.specs.Forms.{stored, is_text, is_id, name_from}
use Rattle.object_forms.specs.Kinds.{table, is_item}
use Rattle.object_forms.specs.Objects.{key_of, name_row, name_form, rows, beside, made_of, object_in, NamedBy, HasName}
use Rattle.object_forms.specs.Outcomes.{Gives}
use Rattle.object_forms.specs.declared.fault.FormFault.{FormFault}
use Rattle.object_forms.proofs.PairLemmas.{pair_at-own, pair_at-other}
use Rattle.object_forms.proofs.SettledLemmas.{kept_test}

abbrev pub from_ok : {A : Type 0} → A → Result A (List ℕ) → A
from_ok other (Ok x) = x
from_ok other (Err name) = other

abbrev pub result_of : {A : Type 0} → A → Result A (List ℕ)
result_of x = Ok x

pub same_Ok : {A : Type 0} (x y : A) → result_of x ≡ result_of y → x ≡ y
same_Ok x y e = ap (from_ok x) e

-- ---- a field leaves what is at another key

kept-sent : (key name : List ℕ) (d : Option Doc) (made out : List (List ℕ × Doc)) → bytes_eq name key ≡ false → sent name d made ≡ Ok out → pair_at key (pairs_of out) ≡ pair_at key (pairs_of made)
kept-sent key name None made out other is = cc
kept-sent key name (Some d) made out other is = ap (λ ps. pair_at key (pairs_of ps)) (same_Ok _ _ (sym is)) ∙ pair_at-other key name d made other

kept-unsent : (key name : List ℕ) (absent : Absent) (made out : List (List ℕ × Doc)) → bytes_eq name key ≡ false → unsent name absent made ≡ Ok out → pair_at key (pairs_of out) ≡ pair_at key (pairs_of made)
kept-unsent key name fault made out other is = cc
kept-unsent key name nothing made out other is = ap (λ ps. pair_at key (pairs_of ps)) (same_Ok _ _ (sym is))
kept-unsent key name (stands d) made out other is = ap (λ ps. pair_at key (pairs_of ps)) (same_Ok _ _ (sym is)) ∙ pair_at-other key name d made other

pub kept-taken : (key : List ℕ) (row : Row) (found : Option Doc) (made out : List (List ℕ × Doc)) → bytes_eq row.name key ≡ false → taken row found made ≡ Ok out → pair_at key (pairs_of out) ≡ pair_at key (pairs_of made)
kept-taken key row None made out other is = kept-unsent key row.name row.absent made out other is
kept-taken key row (Some d) made out other is = kept-sent key row.name (stored row.form d) made out other is

-- whether no row has this name
abbrev pub none_named : List ℕ → List Row → Bool
none_named key rows = list_all (λ row. not (bytes_eq row.name key)) rows

pub and_first : (a b : Bool) → IsTrue (a && b) → IsTrue a
and_first true b h = refl
and_first false b h = h

pub and_second : (a b : Bool) → IsTrue (a && b) → IsTrue b
and_second true b h = h
and_second false b h = cc

pub not_true : (a : Bool) → IsTrue (not a) → a ≡ false
not_true true h = cc
not_true false h = refl

kept-step : (key : List ℕ) (row : Row) (rest : List Row) (body : Pairs) (made out : List (List ℕ × Doc)) (step : Result (List (List ℕ × Doc)) (List ℕ)) → bytes_eq row.name key ≡ false
    → ((next : List (List ℕ × Doc)) → fields_of rest body next ≡ Ok out → pair_at key (pairs_of out) ≡ pair_at key (pairs_of next))
    → taken row (pair_at row.name body) made ≡ step → then_do step (fields_of rest body) ≡ Ok out → pair_at key (pairs_of out) ≡ pair_at key (pairs_of made)
kept-step key row rest body made out (Err name) other later here is = cc
kept-step key row rest body made out (Ok next) other later here is = later next is ∙ kept-taken key row (pair_at row.name body) made next other here

pub kept-fields : (key : List ℕ) (rest : List Row) (body : Pairs) (made out : List (List ℕ × Doc)) → IsTrue (none_named key rest) → fields_of rest body made ≡ Ok out
    → pair_at key (pairs_of out) ≡ pair_at key (pairs_of made)
kept-fields key [] body made out others is = ap (λ ps. pair_at key (pairs_of ps)) (same_Ok _ _ (sym is))
kept-fields key (row ∷ rest) body made out others is =
    let later = λ (next : List (List ℕ × Doc)). kept-fields key rest body next out (and_second _ _ others) in
    kept-step key row rest body made out _ (not_true _ (and_first _ _ others)) later refl is

-- ---- the row of the name gives the name

has_name : (d : Doc) → IsTrue (is_text is_name d) → IsTrue (is_some (name_from d))
has_name null h = cc
has_name (boolean b) h = cc
has_name (whole z) h = cc
has_name (words text) h = rw h refl
has_name (list ds) h = cc
has_name (dict ps) h = cc

id_is_name : (d : Doc) → IsTrue (is_text is_id d) → IsTrue (is_text is_name d)
id_is_name null h = h
id_is_name (boolean b) h = h
id_is_name (whole z) h = h
id_is_name (words text) h = and_first _ _ h
id_is_name (list ds) h = h
id_is_name (dict ps) h = h

has_this_name : (name : List ℕ) (d : Doc) → IsTrue (is_name name) → IsTrue (is_text (bytes_eq name) d) → name_from d ≡ Some name
has_this_name name null form h = cc
has_this_name name (boolean b) form h = cc
has_this_name name (whole z) form h = cc
has_this_name name (words text) form h =
    let same : name ≡ text = (bytes_eq-Decides name text).0 h in
    subst (λ (t : List ℕ). name_from (words t) ≡ Some name) same (rw form refl)
has_this_name name (list ds) form h = cc
has_this_name name (dict ps) form h = cc

-- the form of a name, of an item and of anything else
name_has_form : (item : Bool) (d e : Doc) → stored (cond item forms.an_id forms.a_name) d ≡ Some e → IsTrue (is_some (name_from e))
name_has_form true d e is =
    let taken = kept_test _ d e is in
    subst (λ (f : Doc). IsTrue (is_some (name_from f))) taken.1 (has_name d (id_is_name d taken.0))
name_has_form false d e is =
    let taken = kept_test _ d e is in
    subst (λ (f : Doc). IsTrue (is_some (name_from f))) taken.1 (has_name d taken.0)

this_has_form : (name : List ℕ) (d e : Doc) → IsTrue (is_name name) → stored (forms.exactly name) d ≡ Some e → name_from e ≡ Some name
this_has_form name d e known is =
    let taken = kept_test _ d e is in
    subst (λ (f : Doc). name_from f ≡ Some name) taken.1 (has_this_name name d known taken.0)

-- what stands at the key of the name, behind its row
row_put : (kind : Kind) (name : Option (List ℕ)) (stored_one : Option Doc) (made out : List (List ℕ × Doc)) → ((e : Doc) → stored_one ≡ Some e → NamedBy name (name_from e))
    → sent (key_of kind) stored_one made ≡ Ok out → NamedBy name (option_and_then name_from (pair_at (key_of kind) (pairs_of out)))
row_put kind name None made out gives is = cc
row_put kind name (Some e) made out gives is =
    let there : pair_at (key_of kind) (pairs_of out) ≡ Some e = ap (λ ps. pair_at (key_of kind) (pairs_of ps)) (sym (same_Ok _ _ is)) ∙ pair_at-own (key_of kind) e made in
    subst (λ (found : Option Doc). NamedBy name (option_and_then name_from found)) (sym there) (gives e refl)

row_named : (kind : Kind) (name : Option (List ℕ)) (found : Option Doc) (made out : List (List ℕ × Doc)) → IfSome name (λ n. IsTrue (is_name n)) → taken (name_row kind name) found made ≡ Ok out
    → NamedBy name (option_and_then name_from (pair_at (key_of kind) (pairs_of out)))
row_named kind None None made out known is = cc
row_named kind None (Some d) made out known is = row_put kind None (stored (name_form kind) d) made out (λ e stands. name_has_form (is_item kind) d e stands) is
row_named kind (Some name) None made out known is = row_put kind (Some name) (Some (words name)) made out (λ e same. subst (λ (f : Doc). name_from f ≡ Some name) (same_Some (words name) e same) (rw known refl)) is
row_named kind (Some name) (Some d) made out known is = row_put kind (Some name) (stored (forms.exactly name) d) made out (λ e stands. this_has_form name d e known stands) is

-- ---- no other row has the key of the name

pub apart : (kind : Kind) → IsTrue (none_named (key_of kind) (unwrap_or (table kind) []))
apart Org = refl
apart Node = refl
apart Role = refl
apart Environment = refl
apart Bag = refl
apart Client = refl
apart User = refl
apart Group = refl
apart Container = refl
apart Item = refl
apart Cookbook = refl
apart Artifact = refl
apart Policy = refl
apart PolicyGroup = refl
apart Acl = refl
apart Sandbox = refl
apart File = refl

named_fields : (kind : Kind) (name : Option (List ℕ)) (body : Pairs) (start out : List (List ℕ × Doc)) (step : Result (List (List ℕ × Doc)) (List ℕ)) → IfSome name (λ n. IsTrue (is_name n))
    → taken (name_row kind name) (pair_at (name_row kind name).name body) start ≡ step → then_do step (fields_of (unwrap_or (table kind) []) body) ≡ Ok out → HasName kind name (dict (pairs_of out))
named_fields kind name body start out (Err field) known here is = cc
named_fields kind name body start out (Ok made) known here is =
    subst (λ (found : Option Doc). NamedBy name (option_and_then name_from found)) (sym (kept-fields (key_of kind) _ body made out (apart kind) is))
    (row_named kind name (pair_at (name_row kind name).name body) start made known here)

pub named_made : (kind : Kind) (name : Option (List ℕ)) (body : Pairs) (made : Result (List (List ℕ × Doc)) (List ℕ)) (d : Doc) → IfSome name (λ n. IsTrue (is_name n))
    → fields_of (rows kind name) body (beside kind body) ≡ made → made_of made ≡ Ok d → HasName kind name d
named_made kind name body (Err field) d known here is = cc
named_made kind name body (Ok out) d known here is = subst (HasName kind name) (same_Ok _ _ is) (named_fields kind name body (beside kind body) out _ known refl here)

-- an object that was read has its name
pub named_object : (kind : Kind) (name : Option (List ℕ)) (body : Pairs) (result : Result Tree FormFault) → IfSome name (λ n. IsTrue (is_name n)) → Gives result (object_in kind name body)
    → IfOk result (λ t. HasName kind name (doc_of t))
named_object kind name body (Ok tree) known gives = named_made kind name body _ (doc_of tree) known refl gives
named_object kind name body (Err cause) known gives = tt

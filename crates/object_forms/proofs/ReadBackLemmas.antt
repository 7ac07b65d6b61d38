-- What a body gave is read as itself under its name.
use Rattle.std.proofs.Common.{◌≡◌, ℕ, List, [], ◌∷◌, Bool, true, false, cond, ◌&&◌, IsTrue, IsFalse, Option, Some, None, unwrap_or, option_and_then, Result, Ok, Err, bytes_eq, refl, sym, ap, subst, ◌∙◌}
use Rattle.std.proofs.lemmas.Option.{same_Some}
use Rattle.std.specs.Cmp.Lexicographic.{nat_list_eq_equiv}
use Rattle.std.specs.List.{AllByRecursion}
use Rattle.doc_tree.specs.Doc.{Doc, null, boolean, whole, words, list, dict, Pairs, pairs_of, pairs_list}
use Rattle.doc_tree.specs.Name.{is_name}
use Rattle.doc_tree.specs.Part.{pair_at, with_pair}
use Rattle.doc_tree.specs.declared.kind.Kind.{Kind}
use Rattle.doc_tree.specs.declared.kind.Kind.TheVariants.{Org, Node, Role, Environment, Bag, Client, User, Group, Container, Item, Cookbook, Artifact, Policy, PolicyGroup, Acl, Sandbox, File}
use Rattle.object_forms.specs.Fields.{Row, Absent, field, fault, nothing, stands, unsent, sent, taken, then_do, fields_of}
use Rattle.object_forms.specs.Forms as forms
use Rattle.object_forms.specs.Forms.{Form, stored, name_from}
use Rattle.object_forms.specs.Kinds.{table, is_item}
use Rattle.object_forms.specs.Objects.{key_of, name_row, name_form, rows, beside, made_of, object_of, object_from, by_table, is_no_id, body_of, item_in, name_in}
use Rattle.object_forms.proofs.GroupBodiesLemmas.{group_again}
use Rattle.object_forms.proofs.NamedLemmas.{same_Ok, none_named, apart, and_first, and_second, not_true, kept-fields, kept-taken}
use Rattle.object_forms.proofs.PairLemmas.{pair_at-own}
use Rattle.object_forms.proofs.SettledLemmas.{settled}

-- ---- a field that was stored is read as it is

-- a default has its form
abbrev Stands : Form → Absent → Type 0
Stands form fault = Unit {0}
Stands form nothing = Unit {0}
Stands form (stands d) = stored form d ≡ Some d

put_again : (name : List ℕ) (form : Form) (absent : Absent) (d : Doc) (made next : List (List ℕ × Doc)) → stored form d ≡ Some d → with_pair name d made ≡ next
    → taken (field name form absent) (pair_at name (pairs_of next)) made ≡ Ok next
put_again name form absent d made next same is =
    let again : taken (field name form absent) (pair_at name (pairs_of (with_pair name d made))) made ≡ Ok (with_pair name d made) = rw (pair_at-own name d made, same) refl in
    subst (λ (out : List (List ℕ × Doc)). taken (field name form absent) (pair_at name (pairs_of out)) made ≡ Ok out) is again

unsent_again : (name : List ℕ) (form : Form) (absent : Absent) (made next : List (List ℕ × Doc)) → Stands form absent → pair_at name (pairs_of made) ≡ None → unsent name absent made ≡ Ok next
    → taken (field name form absent) (pair_at name (pairs_of next)) made ≡ Ok next
unsent_again name form fault made next default none is = cc
unsent_again name form nothing made next default none is =
    let again : taken (field name form nothing) (pair_at name (pairs_of made)) made ≡ Ok made = rw none refl in
    subst (λ (out : List (List ℕ × Doc)). taken (field name form nothing) (pair_at name (pairs_of out)) made ≡ Ok out) (same_Ok _ _ is) again
unsent_again name form (stands d) made next default none is = put_again name form (stands d) d made next default (same_Ok _ _ is)

sent_again : (name : List ℕ) (form : Form) (absent : Absent) (found : Option Doc) (made next : List (List ℕ × Doc)) → ((d : Doc) → found ≡ Some d → stored form d ≡ Some d) → sent name found made ≡ Ok next
    → taken (field name form absent) (pair_at name (pairs_of next)) made ≡ Ok next
sent_again name form absent None made next same is = cc
sent_again name form absent (Some d) made next same is = put_again name form absent d made next (same d refl) (same_Ok _ _ is)

taken_again : (row : Row) (found : Option Doc) (made next : List (List ℕ × Doc)) → Stands row.form row.absent → pair_at row.name (pairs_of made) ≡ None → taken row found made ≡ Ok next
    → taken row (pair_at row.name (pairs_of next)) made ≡ Ok next
taken_again row None made next default none is = unsent_again row.name row.form row.absent made next default none is
taken_again row (Some d) made next default none is = sent_again row.name row.form row.absent (stored row.form d) made next (λ e. settled row.form d e) is

-- ---- all fields

abbrev AllStand : List Row → Type 0
AllStand rest = AllByRecursion (λ (row : Row). Stands row.form row.absent) rest

abbrev AreMissing : List Row → List (List ℕ × Doc) → Type 0
AreMissing rest made = AllByRecursion (λ (row : Row). pair_at row.name (pairs_of made) ≡ None) rest

-- each row has a name of its own
abbrev are_apart : List Row → Bool
are_apart [] = true
are_apart (row ∷ rest) = none_named row.name rest && are_apart rest

still_missing : (row : Row) (found : Option Doc) (rest : List Row) (made next : List (List ℕ × Doc)) → IsTrue (none_named row.name rest) → taken row found made ≡ Ok next → AreMissing rest made → AreMissing rest next
still_missing row found [] made next others is missing = tt
still_missing row found (other ∷ rest) made next others is missing =
    let differs = nat_list_eq_equiv.symm row.name other.name ∙ not_true _ (and_first _ _ others) in
    (kept-taken other.name row found made next differs is ∙ missing.0, still_missing row found rest made next (and_second _ _ others) is missing.1)

fields_step : (row : Row) (rest : List Row) (body : Pairs) (made out : List (List ℕ × Doc)) (step : Result (List (List ℕ × Doc)) (List ℕ)) → AllStand (row ∷ rest) → IsTrue (are_apart (row ∷ rest)) → AreMissing (row ∷ rest) made
    → ((next : List (List ℕ × Doc)) → AreMissing rest next → fields_of rest body next ≡ Ok out → fields_of rest (pairs_of out) next ≡ Ok out)
    → taken row (pair_at row.name body) made ≡ step → then_do step (fields_of rest body) ≡ Ok out → fields_of (row ∷ rest) (pairs_of out) made ≡ Ok out
fields_step row rest body made out (Err name) default apart_all missing later here is = cc
fields_step row rest body made out (Ok next) default apart_all missing later here is =
    let others = and_first (none_named row.name rest) (are_apart rest) apart_all in
    let same : pair_at row.name (pairs_of out) ≡ pair_at row.name (pairs_of next) = kept-fields row.name rest body next out others is in
    let first : taken row (pair_at row.name (pairs_of out)) made ≡ Ok next = ap (λ found. taken row found made) same ∙ taken_again row (pair_at row.name body) made next default.0 missing.0 here in
    ap (λ (step : Result (List (List ℕ × Doc)) (List ℕ)). then_do step (fields_of rest (pairs_of out))) first ∙ later next (still_missing row (pair_at row.name body) rest made next others here missing.1) is

fields_again : (rest : List Row) (body : Pairs) (made out : List (List ℕ × Doc)) → AllStand rest → IsTrue (are_apart rest) → AreMissing rest made → fields_of rest body made ≡ Ok out → fields_of rest (pairs_of out) made ≡ Ok out
fields_again [] body made out default apart_all missing is = is
fields_again (row ∷ rest) body made out default apart_all missing is =
    let later = λ (next : List (List ℕ × Doc)) (left : AreMissing rest next). fields_again rest body next out default.1 (and_second (none_named row.name rest) (are_apart rest) apart_all) left in
    fields_step row rest body made out _ default apart_all missing later refl is

-- ---- the tables

defaults : (kind : Kind) → AllStand (unwrap_or (table kind) [])
defaults Org = tt
defaults Node = (refl, (refl, (refl, (refl, (refl, (refl, (refl, (refl, (tt, (tt, tt))))))))))
defaults Role = (refl, (refl, (refl, (refl, (refl, (refl, (refl, tt)))))))
defaults Environment = (refl, (refl, (refl, (refl, (refl, (refl, tt))))))
defaults Bag = tt
defaults Client = (refl, tt)
defaults User = tt
defaults Group = tt
defaults Container = tt
defaults Item = tt
defaults Cookbook = tt
defaults Artifact = tt
defaults Policy = tt
defaults PolicyGroup = tt
defaults Acl = tt
defaults Sandbox = tt
defaults File = tt

tables_apart : (kind : Kind) → IsTrue (are_apart (unwrap_or (table kind) []))
tables_apart Org = refl
tables_apart Node = refl
tables_apart Role = refl
tables_apart Environment = refl
tables_apart Bag = refl
tables_apart Client = refl
tables_apart User = refl
tables_apart Group = refl
tables_apart Container = refl
tables_apart Item = refl
tables_apart Cookbook = refl
tables_apart Artifact = refl
tables_apart Policy = refl
tables_apart PolicyGroup = refl
tables_apart Acl = refl
tables_apart Sandbox = refl
tables_apart File = refl

-- where a dict has the name alone, no other field is there
missing_at : (kind : Kind) (d : Doc) (rest : List Row) → IsTrue (none_named (key_of kind) rest) → AreMissing rest ((key_of kind, d) ∷ [])
missing_at kind d [] others = tt
missing_at kind d (row ∷ rest) others =
    let differs : bytes_eq (key_of kind) row.name ≡ false = nat_list_eq_equiv.symm (key_of kind) row.name ∙ not_true _ (and_first _ _ others) in
    (rw differs refl, missing_at kind d rest (and_second _ _ others))

-- ---- the name

named_words_at : (text name : List ℕ) (b : Bool) → cond b (Some text) None ≡ Some name → Some (words text) ≡ Some (words name)
named_words_at text name true is = ap (λ t. Some (words t)) (same_Some _ _ is)
named_words_at text name false is = cc

-- where a name was found, it is the text
named_words : (found : Option Doc) (name : List ℕ) → option_and_then name_from found ≡ Some name → found ≡ Some (words name)
named_words None name is = cc
named_words (Some null) name is = cc
named_words (Some (boolean b)) name is = cc
named_words (Some (whole z)) name is = cc
named_words (Some (words text)) name is = named_words_at text name (is_name text) is
named_words (Some (list ds)) name is = cc
named_words (Some (dict ps)) name is = cc

sent_put : (key : List ℕ) (found : Option Doc) (d : Doc) (made next : List (List ℕ × Doc)) → sent key found made ≡ Ok next → pair_at key (pairs_of next) ≡ Some d → next ≡ with_pair key d made
sent_put key None d made next is there = cc
sent_put key (Some e) d made next is there =
    let same : e ≡ d = same_Some _ _ (sym (pair_at-own key e made) ∙ ap (λ ps. pair_at key (pairs_of ps)) (same_Ok _ _ is) ∙ there) in
    sym (same_Ok _ _ is) ∙ ap (λ f. with_pair key f made) same

-- behind its row the name is put
name_put : (kind : Kind) (path : Option (List ℕ)) (found : Option Doc) (d : Doc) (made next : List (List ℕ × Doc)) → taken (name_row kind path) found made ≡ Ok next → pair_at (key_of kind) (pairs_of next) ≡ Some d
    → next ≡ with_pair (key_of kind) d made
name_put kind None None d made next is there = cc
name_put kind None (Some e) d made next is there = sent_put (key_of kind) (stored (name_form kind) e) d made next is there
name_put kind (Some name) None d made next is there = sent_put (key_of kind) (Some (words name)) d made next is there
name_put kind (Some name) (Some e) d made next is there = sent_put (key_of kind) (stored (forms.exactly name) e) d made next is there

-- under its name it is put again
name_again : (kind : Kind) (name : List ℕ) (found : Option Doc) (made : List (List ℕ × Doc)) → found ≡ Some (words name) → taken (name_row kind (Some name)) found made ≡ Ok (with_pair (key_of kind) (words name) made)
name_again kind name found made is = rw (is, nat_list_eq_equiv.refl name) refl

-- ---- the object

object_step : (kind : Kind) (path : Option (List ℕ)) (name : List ℕ) (body : Pairs) (out : List (List ℕ × Doc)) (step : Result (List (List ℕ × Doc)) (List ℕ))
    → taken (name_row kind path) (pair_at (name_row kind path).name body) [] ≡ step → then_do step (fields_of (unwrap_or (table kind) []) body) ≡ Ok out → name_in kind (dict (pairs_of out)) ≡ Some name
    → fields_of (rows kind (Some name)) (pairs_of out) [] ≡ Ok out
object_step kind path name body out (Err bad) here is named = cc
object_step kind path name body out (Ok next) here is named =
    let key = key_of kind in
    let rest = unwrap_or (table kind) [] in
    let same : pair_at key (pairs_of out) ≡ pair_at key (pairs_of next) = kept-fields key rest body next out (apart kind) is in
    let there : pair_at key (pairs_of out) ≡ Some (words name) = named_words _ name named in
    let put : next ≡ with_pair key (words name) [] = name_put kind path (pair_at (name_row kind path).name body) (words name) [] next here (sym same ∙ there) in
    let later : fields_of rest (pairs_of out) next ≡ Ok out =
    fields_again rest body next out (defaults kind) (tables_apart kind) (subst (AreMissing rest) (sym put) (missing_at kind (words name) rest (apart kind))) is in
    ap (λ (step : Result (List (List ℕ × Doc)) (List ℕ)). then_do step (fields_of rest (pairs_of out))) (name_again kind name _ [] there)
    ∙ ap (fields_of rest (pairs_of out)) (sym put) ∙ later

none_beside : (kind : Kind) (body : Pairs) → IsFalse (is_item kind) → beside kind body ≡ []
none_beside kind body plain = ap (λ b. cond b (pairs_list body) []) plain

object_made : (kind : Kind) (path : Option (List ℕ)) (name : List ℕ) (body : Pairs) (stored : Doc) (made : Result (List (List ℕ × Doc)) (List ℕ)) → fields_of (rows kind path) body [] ≡ made → made_of made ≡ Ok stored
    → name_in kind stored ≡ Some name → IsFalse (is_item kind) → object_of kind (Some name) stored ≡ Ok stored
object_made kind path name body stored (Err bad) here is named plain = cc
object_made kind path name body stored (Ok out) here is named plain =
    let whole_is : dict (pairs_of out) ≡ stored = same_Ok _ _ is in
    let again : fields_of (rows kind (Some name)) (pairs_of out) [] ≡ Ok out = object_step kind path name body out _ refl here (subst (λ (d : Doc). name_in kind d ≡ Some name) (sym whole_is) named) in
    let start : beside kind (pairs_of out) ≡ [] = none_beside kind (pairs_of out) plain in
    let object : object_of kind (Some name) (dict (pairs_of out)) ≡ Ok (dict (pairs_of out)) =
    ap (λ made. made_of (fields_of (rows kind (Some name)) (pairs_of out) made)) start ∙ ap made_of again in
    subst (λ (d : Doc). object_of kind (Some name) d ≡ Ok d) whole_is object

and_false : (a b : Bool) → IsFalse b → IsFalse (a && b)
and_false true b h = h
and_false false b h = refl

no_item : (kind : Kind) (path : Option (List ℕ)) → IsFalse (is_item kind) → is_no_id kind path ≡ false
no_item kind None plain = refl
no_item kind (Some name) plain = and_false _ (is_item kind) plain

-- of any kind but an item, a body stands for itself
as_sent : (kind : Kind) (path : Option (List ℕ)) (d : Doc) → IsFalse (is_item kind) → by_table kind path d ≡ object_of kind path d
as_sent kind path d plain = ap (λ b. cond b (Err (key_of kind)) (object_of kind path (body_of kind d))) (no_item kind path plain) ∙ ap (λ b. object_of kind path (cond b (item_in d) d)) plain

reads_dict : (kind : Kind) (path : Option (List ℕ)) (body stored : Doc) (name : List ℕ) → IsFalse (is_item kind) → object_of kind path body ≡ Ok stored → name_in kind stored ≡ Some name → object_of kind (Some name) stored ≡ Ok stored
reads_dict kind path null stored name plain is named = cc
reads_dict kind path (boolean b) stored name plain is named = cc
reads_dict kind path (whole z) stored name plain is named = cc
reads_dict kind path (words text) stored name plain is named = cc
reads_dict kind path (list ds) stored name plain is named = cc
reads_dict kind path (dict ps) stored name plain is named =
    object_made kind path name ps stored _ refl (ap (λ made. made_of (fields_of (rows kind path) ps made)) (sym (none_beside kind ps plain)) ∙ is) named plain

reads_table : (kind : Kind) (path : Option (List ℕ)) (body stored : Doc) (name : List ℕ) → IsFalse (is_item kind) → by_table kind path body ≡ Ok stored → name_in kind stored ≡ Some name
    → by_table kind (Some name) stored ≡ Ok stored
reads_table kind path body stored name plain is named = as_sent kind (Some name) stored plain ∙ reads_dict kind path body stored name plain (sym (as_sent kind path body plain) ∙ is) named

pub reads_back : (kind : Kind) (path : Option (List ℕ)) (body stored : Doc) (name : List ℕ) → IsFalse (is_item kind) → object_from kind path body ≡ Ok stored → name_in kind stored ≡ Some name
    → object_from kind (Some name) stored ≡ Ok stored
reads_back Org path body stored name plain is named = reads_table Org path body stored name plain is named
reads_back Node path body stored name plain is named = reads_table Node path body stored name plain is named
reads_back Role path body stored name plain is named = reads_table Role path body stored name plain is named
reads_back Environment path body stored name plain is named = reads_table Environment path body stored name plain is named
reads_back Bag path body stored name plain is named = reads_table Bag path body stored name plain is named
reads_back Client path body stored name plain is named = reads_table Client path body stored name plain is named
reads_back User path body stored name plain is named = reads_table User path body stored name plain is named
reads_back Group path body stored name plain is named = group_again path body stored name is named
reads_back Container path body stored name plain is named = reads_table Container path body stored name plain is named
reads_back Item path body stored name plain is named = reads_table Item path body stored name plain is named
reads_back Cookbook path body stored name plain is named = reads_table Cookbook path body stored name plain is named
reads_back Artifact path body stored name plain is named = reads_table Artifact path body stored name plain is named
reads_back Policy path body stored name plain is named = reads_table Policy path body stored name plain is named
reads_back PolicyGroup path body stored name plain is named = reads_table PolicyGroup path body stored name plain is named
reads_back Acl path body stored name plain is named = reads_table Acl path body stored name plain is named
reads_back Sandbox path body stored name plain is named = reads_table Sandbox path body stored name plain is named
reads_back File path body stored name plain is named = reads_table File path body stored name plain is named

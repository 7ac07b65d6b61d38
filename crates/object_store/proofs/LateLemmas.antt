-- Objects that came since room was last made, and a copy of them.
use Rattle.std.proofs.Common.{◌≡◌, ◌&&◌, ℕ, Option, Some, None, IfSome, IfNone, bytes_eq, option_copied, true, false, cond, ◌++◌, List, [], ◌∷◌, sym, ap, subst, refl, ◌∙◌, append_assoc}
use Rattle.std.specs.Cmp.{eq_by_cmp_equiv}
use Rattle.std.specs.List.{AllByRecursion, IsDistinct}
use Rattle.std.specs.Map.{keys_of}
use Rattle.indexmap.specs.IndexMap.{insert_entry}
use Rattle.std.specs.Borrow.{Bor}
use Rattle.std.specs.Cmp.Lexicographic.{nat_list_eq_equiv}
use Rattle.doc_tree.specs.declared.kind.Kind.{Kind}
use Rattle.doc_tree.specs.declared.kind.Kind.TheVariants as kind
use Rattle.object_store.specs.declared.key.Key.{Key}
use Rattle.object_store.specs.Keys.{key, key_cmp_total, same_key, is_of}
use Rattle.object_store.specs.Items.{behind_front, item_front, item_name}
use Rattle.object_store.proofs.ItemsLemmas.{names_item, names_no_item}
use Rattle.object_store.proofs.KeysLemmas.{same_key-key}

module _ {X : Type 0} where
  -- no key before this one is equal to it
  apart : (done rest : List (Key × X)) (key earlier : Key) (object : X) → AllByRecursion (λ k. same_key earlier k ≡ false) (keys_of (done ++ (key, object) ∷ rest))
      → same_key key earlier ≡ false
  apart [] rest key earlier object all = (eq_by_cmp_equiv key_cmp_total).symm key earlier ∙ all.0
  apart (e ∷ done) rest key earlier object all = apart done rest key earlier object all.1

  -- where keys are distinct, the next entry goes last
  pub insert_entry-next : (done rest : List (Key × X)) (key : Key) (object : X) → IsDistinct same_key (keys_of (done ++ (key, object) ∷ rest))
      → insert_entry same_key done key object ≡ done ++ (key, object) ∷ []
  unfolding IsDistinct
  insert_entry-next [] rest key object distinct = refl
  insert_entry-next (e ∷ done) rest key object distinct =
      ap (λ same. cond same ((e.0, object) ∷ done) (e ∷ insert_entry same_key done key object)) (apart done rest key e.0 object distinct.0)
      ∙ ap (λ more. e ∷ more) (insert_entry-next done rest key object distinct.1)

  -- a copy has these entries so far, and these are left
  pub record Copying (whole done left : List (Key × X)) : Type 0 where
    pub all : done ++ left ≡ whole
    pub distinct : IsDistinct same_key (keys_of (done ++ left))

  -- one entry more is copied
  pub Copying-more : (entries done rest now : List (Key × X)) (key copied : Key) (object same : X) → Copying entries done ((key, object) ∷ rest)
      → copied ≡ key → same ≡ object → now ≡ insert_entry same_key done copied same → Copying entries now rest
  Copying-more entries done rest now key copied object same before equal_key equal_tree inserted =
      let last : now ≡ done ++ (key, object) ∷ [] =
      inserted ∙ (λ i. insert_entry same_key done (equal_key i) (equal_tree i)) ∙ insert_entry-next done rest key object before.distinct in
      let whole : now ++ rest ≡ done ++ (key, object) ∷ rest = ap (λ es. es ++ rest) last ∙ append_assoc done ((key, object) ∷ []) rest in
      record {
        all = whole ∙ before.all;
        distinct = subst (λ es. IsDistinct same_key (keys_of es)) (sym whole) before.distinct;
      }

-- where it is of the kind, a key is named by the bytes of its name
pub same_key-of : (kind : Kind) (name : List ℕ) (k : Key) → is_of kind k ≡ true → bytes_eq name k.name ≡ same_key (key kind name) k
same_key-of kind name k of = ap (λ b. b && bytes_eq name k.name) (sym of) ∙ sym (same_key-key kind name k)

-- an item's key by the id that was found in its name
pub id_found : (bag : List ℕ) (its : Key) (r : Option (Bor (List ℕ))) → is_of kind.Item its ≡ true → option_copied r ≡ behind_front (item_front bag) its.name
    → IfSome r (λ found. (id : List ℕ) → bytes_eq id found.now ≡ same_key (key kind.Item (item_name bag id)) its)
id_found bag its None of is = tt
id_found bag its (Some found) of is = λ id.
    nat_list_eq_equiv.symm id found.now ∙ names_item bag its.name id found.now (sym is) ∙ same_key-of kind.Item (item_name bag id) its of

pub id_absent : (bag : List ℕ) (its : Key) (r : Option (Bor (List ℕ))) → is_of kind.Item its ≡ true → option_copied r ≡ behind_front (item_front bag) its.name
    → IfNone r ((id : List ℕ) → same_key (key kind.Item (item_name bag id)) its ≡ false)
id_absent bag its None of is = λ id. sym (same_key-of kind.Item (item_name bag id) its of) ∙ names_no_item bag its.name id (sym is)
id_absent bag its (Some found) of is = tt

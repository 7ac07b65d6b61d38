-- The objects of an organisation and their access lists, by their keys.
pub use Rattle.object_store.specs.Keys.{key, key_cmp}
use Rattle.std.specs.Prelude.{ℕ, nat_le, if◌then◌else◌, List, refl}
use Rattle.std.specs.Coded.{Coded, code_by, coded_ℕ, coded_list, coded×}
use Rattle.std.specs.FinMap as finite
use Rattle.access_lists.specs.declared.acl.Acl.{Acl}
use Rattle.access_lists.specs.declared.acl.Entry.{Entry}
use Rattle.doc_tree.specs.Doc.{Doc}
use Rattle.doc_tree.specs.DocCode.{doc_code}
use Rattle.doc_tree.specs.declared.kind.Kind.{Kind}
use Rattle.object_store.specs.Keys.{names_of, key_code}

-- documents by their keys
abbrev pub Objects : Type 0
Objects = finite.FinMap key_cmp Doc

-- access lists by the keys of their objects
abbrev pub Lists : Type 0
Lists = finite.FinMap key_cmp Acl

-- access lists, and how many more fit without memory
pub record KeptLists : Type 0 where
  pub lists : Lists
  pub spare : ℕ

-- objects, access lists, and how many more of each fit without memory
pub record Store : Type 0 where
  pub objects : Objects
  pub lists : Lists
  pub spare : ℕ

-- the smaller of two numbers
abbrev pub smaller : ℕ → ℕ → ℕ
smaller a b = if nat_le a b then a else b

-- the names of the objects of a kind, in the order of their bytes
abbrev pub names_in : Kind → Objects → List (List ℕ)
names_in kind objects = names_of kind (finite.keys objects)

-- how the logic stores texts, an entry and an access list
abbrev pub texts_code : Coded (List (List ℕ))
texts_code = coded_list (coded_list coded_ℕ)

abbrev pub entry_code : Coded Entry
entry_code = code_by (List (List ℕ) × List (List ℕ)) (coded× texts_code texts_code) (λ e. (e.actors, e.groups)) (λ p. record { actors = p.0; groups = p.1 }) (λ _. refl)

abbrev pub acl_code : Coded Acl
acl_code =
    code_by (Entry × (Entry × (Entry × (Entry × Entry)))) (coded× entry_code (coded× entry_code (coded× entry_code (coded× entry_code entry_code))))
    (λ a. (a.create, (a.read, (a.update, (a.delete, a.grant))))) (λ p. record { create = p.0; read = p.1.0; update = p.1.1.0; delete = p.1.1.1.0; grant = p.1.1.1.1 }) (λ _. refl)

abbrev pub lists_code : Coded Lists
lists_code = finite.code key_code acl_code

abbrev pub kept_lists_code : Coded KeptLists
kept_lists_code = code_by (Lists × ℕ) (coded× lists_code coded_ℕ) (λ k. (k.lists, k.spare)) (λ p. record { lists = p.0; spare = p.1 }) (λ _. refl)

-- what is kept as the objects, the lists and the room
abbrev pub store_code : Coded Store
store_code =
    code_by (Objects × (Lists × ℕ)) (coded× (finite.code key_code doc_code) (coded× lists_code coded_ℕ)) (λ s. (s.objects, (s.lists, s.spare))) (λ p. record { objects = p.0; lists = p.1.0; spare = p.1.1 }) (λ _. refl)

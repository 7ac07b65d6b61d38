-- What a stored object is read as, and what it is named.
use Rattle.std.specs.Prelude.{◌≡◌, true, ℕ, List, Option, Some, Ok, IsTrue, IfSome}
use Rattle.doc_tree.specs.Doc.{Doc}
use Rattle.doc_tree.specs.declared.kind.Kind.{Kind}
use Rattle.doc_tree.specs.Name.{is_name}
use Rattle.doc_tree.specs.declared.kind.Kind.TheVariants.{Item}
use Rattle.object_forms.specs.Forms.{is_id}
use Rattle.object_forms.specs.Objects.{object_from, name_in, HasName}

-- what a body gave is read as itself under its name
abbrev pub ReadsAsItself : Kind → Option (List ℕ) → Doc → Doc → Type 0
ReadsAsItself kind path body stored = (name : List ℕ) → object_from kind path body ≡ Ok stored → name_in kind stored ≡ Some name → object_from kind (Some name) stored ≡ Ok stored

-- what a body gave under a path's name, or without one, has that name, or else a Name
abbrev pub GivesNamed : Kind → Option (List ℕ) → Doc → Doc → Type 0
GivesNamed kind path body stored = IfSome path (λ name. IsTrue (is_name name)) → object_from kind path body ≡ Ok stored → HasName kind path stored

-- the id of an item that a body gave has the form of an id
abbrev pub GivesId : Option (List ℕ) → Doc → Doc → List ℕ → Type 0
GivesId path body item id = IfSome path (λ name. IsTrue (is_name name)) → object_from Item path body ≡ Ok item → name_in Item item ≡ Some id → is_id id ≡ true

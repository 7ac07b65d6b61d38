-- What becomes of the shelves where one of them changes.
use Rattle.std.proofs.Common.{◌≡◌, ◌&&◌, ℕ, Bool, true, false, cond, List, Option, None, Some, is_some, bytes_eq, string_bytes, sym, ap, refl, ◌∙◌}
use mathlib.Core.Bool.{true≢false}
use Rattle.std.specs.Cmp.Lexicographic.{bytes_decides}
use Rattle.std.specs.Map.{lookup}
use Rattle.indexmap.specs.IndexMap.{get_by_text}
use Rattle.doc_tree.specs.Doc.{Doc}
use Rattle.object_store.specs.Kept.{Shelf, Shelves, object_on, on_shelf}

-- after a change under a word, what stands under each
abbrev pub Written : Shelves → Shelves → List ℕ → Option Shelf → Type 0
Written old new word shelf = (other : List ℕ) → get_by_text new other ≡ cond (bytes_eq word other) shelf (get_by_text old other)

-- under one word: a name changes on the shelf, or nothing does
name-changed : (own : Bool) (before : Option Shelf) (was now : Shelf) (name its : List ℕ) (object : Option Doc) → (own ≡ true → before ≡ Some was)
    → get_by_text now its ≡ cond (bytes_eq name its) object (get_by_text was its)
    → object_on (cond own (Some now) before) its ≡ cond (own && bytes_eq name its) object (object_on before its)
name-changed true before was now name its object had change = change ∙ ap (λ s. cond (bytes_eq name its) object (object_on s its)) (sym (had refl))
name-changed false before was now name its object had change = refl

-- a name changes on one shelf
pub on_shelf-changed : (old new : Shelves) (word : List ℕ) (was now : Shelf) (name : List ℕ) (object : Option Doc) → Written old new word (Some now)
    → get_by_text old word ≡ Some was
    → ((its : List ℕ) → get_by_text now its ≡ cond (bytes_eq name its) object (get_by_text was its))
    → (other its : List ℕ) → on_shelf new other its ≡ cond (bytes_eq word other && bytes_eq name its) object (on_shelf old other its)
on_shelf-changed old new word was now name object written had change other its =
    ap (λ s. object_on s its) (written other)
    ∙ name-changed (bytes_eq word other) (get_by_text old other) was now name its object (λ own. ap (get_by_text old) (sym ((bytes_decides word other).0 own)) ∙ had) (change its)

-- under one word: the shelf has what it had
none-changed : (own : Bool) (before after : Option Shelf) (its : List ℕ) → (own ≡ true → object_on after its ≡ object_on before its)
    → object_on (cond own after before) its ≡ object_on before its
none-changed true before after its same = same refl
none-changed false before after its same = refl

-- a shelf is replaced by one with the same names, if it was there
pub on_shelf-kept : (old new : Shelves) (word : List ℕ) (before after : Option Shelf) → Written old new word after → get_by_text old word ≡ before
    → ((its : List ℕ) → object_on after its ≡ object_on before its)
    → (other its : List ℕ) → on_shelf new other its ≡ on_shelf old other its
on_shelf-kept old new word before after written had same other its =
    ap (λ s. object_on s its) (written other)
    ∙ none-changed (bytes_eq word other) (get_by_text old other) after its
    (λ own. same its ∙ ap (λ s. object_on s its) (sym had ∙ ap (get_by_text old) ((bytes_decides word other).0 own)))

-- equal entries have equal names
pub same_entries : (was now : Shelf) → now.entries ≡ was.entries → (its : List ℕ) → get_by_text now its ≡ get_by_text was its
same_entries was now same its = ap (lookup (λ k. bytes_eq its (string_bytes k))) same

-- nothing is there
pub nothing_there : (shelf : Option Shelf) → is_some shelf ≡ false → shelf ≡ None
nothing_there None none = refl
nothing_there (Some shelf) none = absurd (true≢false none)

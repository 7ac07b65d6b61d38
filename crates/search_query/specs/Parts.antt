-- Where the value of a path stands in an object.
use Rattle.std.specs.Prelude.{ℕ, List, [], ◌∷◌, map, Option, Some, None, unwrap_or, codes}
use Rattle.std.specs.Option.{option_or}
use Rattle.doc_tree.specs.Doc.{Doc, null}
use Rattle.doc_tree.specs.Part.{at}
use Rattle.doc_tree.specs.declared.kind.Kind.{Kind}
use Rattle.doc_tree.specs.declared.kind.Kind.TheVariants.{Node}

-- the parts of an object in which a path is looked up before the object itself, in this order: a node's four levels of attributes
abbrev pub levels : Kind → List (List ℕ)
levels Node = codes "automatic" ∷ codes "override" ∷ codes "normal" ∷ codes "default" ∷ []
levels kind = []

-- what was found, if it isn't null
abbrev pub unless_null : Option Doc → Option Doc
unless_null (Some null) = None
unless_null found = found

-- the first of these that was found and isn't null
abbrev pub first_value : List (Option Doc) → Option Doc
first_value [] = None
first_value (found ∷ others) = option_or (unless_null found) (first_value others)

-- the first value at a path of these levels of an object that isn't null
abbrev pub in_levels : List (List ℕ) → List (List ℕ) → Doc → Option Doc
in_levels names path object = first_value (map (λ level. at (level ∷ path) object) names)

-- what an object of a kind has at a path: in its levels, or else in itself
abbrev pub found_at : Kind → List (List ℕ) → Doc → Option Doc
found_at kind path object = option_or (in_levels (levels kind) path object) (at path object)

-- the value that an object of a kind shows at a path: what isn't found is null
abbrev pub value_at : Kind → List (List ℕ) → Doc → Doc
value_at kind path object = unwrap_or (found_at kind path object) null

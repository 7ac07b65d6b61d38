-- What is found of a part, for the private clauses of finding.
use Rattle.std.specs.Prelude.{◌≡◌, List, Bool, true, false, Option, Some, None}
use Rattle.json.specs.Token.{Token}
use Rattle.doc_tree.specs.Doc.{Doc}
use Rattle.compact_json.specs.Compact.{first_doc}
use Rattle.compact_json.specs.Next.{AtDoc}

-- the part that there is is next, or there is none
abbrev pub FindsPart : Bool → Option Doc → List Token → Type 0
FindsPart true part ts = AtDoc ts × (part ≡ Some (first_doc ts))
FindsPart false part ts = part ≡ None

-- The metadata of a cookbook's version, and how they are stored.
use Rattle.std.specs.Prelude.{ℕ, List, [], ◌∷◌, Option, Some, None, Result, Ok, Err, codes, is_none, cond}
use Rattle.doc_tree.specs.Doc.{Doc, dict, Pairs, no_pairs, then_pair, pairs_list}
use Rattle.doc_tree.specs.Part.{pair_at, with_pair}
use Rattle.version_rules.specs.declared.needs.Need.{Need}
use Rattle.cookbook_meta.specs.Faults.{then_do, in_field}
use Rattle.cookbook_meta.specs.Parts.{needed, as_name, name_of, version_of, constraint_of}
use Rattle.cookbook_meta.specs.declared.fault.Flaw.{Flaw}
use Rattle.cookbook_meta.specs.declared.fault.Flaw.TheVariants.{WrongKind}
use Rattle.cookbook_meta.specs.declared.fault.MetaFault.{MetaFault}
use Rattle.cookbook_meta.specs.declared.fault.MetaFault.TheVariants as fault
use Rattle.cookbook_meta.specs.declared.metadata.Metadata.{Metadata}

-- a dependency: a Name, and a constraint on its version
abbrev pub need_of : List ℕ → Doc → Result Need Flaw
need_of key d = then_do (as_name key) (λ name. then_do (constraint_of d) (λ constraint. Ok (record { name = name; constraint = constraint })))

-- each pair as a dependency, or the first flaw
abbrev pub needs_in : Pairs → Result (List Need) Flaw
needs_in no_pairs = Ok []
needs_in (then_pair key d ps) = then_do (need_of key d) (λ need. then_do (needs_in ps) (λ later. Ok (need ∷ later)))

-- the dependencies that a document holds
abbrev pub needs_from : Doc → Result (List Need) Flaw
needs_from (dict ps) = needs_in ps
needs_from d = Err WrongKind

-- the dependencies that a document holds, and none where there is no document
abbrev pub needs_of : Option Doc → Result (List Need) Flaw
needs_of None = Ok []
needs_of (Some d) = needs_from d

-- the metadata that a Dict gives: name, version and dependencies, looked at in this order
abbrev pub metadata_in : Pairs → Result Metadata MetaFault
metadata_in body =
    then_do (in_field (codes "name") (then_do (needed (codes "name") body) name_of)) (λ name.
    then_do (in_field (codes "version") (then_do (needed (codes "version") body) version_of)) (λ version.
    then_do (in_field (codes "dependencies") (needs_of (pair_at (codes "dependencies") body))) (λ needs.
    Ok (record { name = name; version = version; needs = needs }))))

-- the metadata that a document gives, where what is no Dict fails as its first field
abbrev pub metadata_from : Doc → Result Metadata MetaFault
metadata_from (dict body) = metadata_in body
metadata_from d = Err (fault.WrongKind (codes "name"))

-- metadata as they are stored: as they were sent, with no dependencies where none were sent
abbrev pub stored_metadata : Pairs → List (List ℕ × Doc)
stored_metadata body = cond (is_none (pair_at (codes "dependencies") body)) (with_pair (codes "dependencies") (dict no_pairs) (pairs_list body)) (pairs_list body)

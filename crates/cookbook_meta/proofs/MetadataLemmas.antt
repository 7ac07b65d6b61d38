-- Metadata are read again from what is stored of them.
use Rattle.std.proofs.Common.{◌≡◌, ℕ, cond, List, Option, Some, None, is_none, Result, Ok, ok_or, codes, refl, sym, ap, ◌∙◌}
use Rattle.doc_tree.proofs.Docs.{pairs_list-pairs_of, pairs_of-pairs_list}
use Rattle.doc_tree.specs.Doc.{Doc, null, boolean, whole, words, list, dict, Pairs, no_pairs, pairs_of, pairs_list}
use Rattle.doc_tree.specs.Part.{pair_at, with_pair}
use Rattle.version_rules.specs.declared.versions.Version.{Version}
use Rattle.cookbook_meta.specs.Faults.{then_do, in_field, inside}
use Rattle.cookbook_meta.specs.Manifests.{metadata_of, of_release}
use Rattle.cookbook_meta.specs.Metadata.{metadata_in, needs_of, stored_metadata}
use Rattle.cookbook_meta.specs.Parts.{name_of, version_of}
use Rattle.cookbook_meta.specs.Stored.{metadata_sent}
use Rattle.cookbook_meta.specs.declared.fault.Flaw.TheVariants.{MissingField}
use Rattle.cookbook_meta.specs.declared.fault.MetaFault.{MetaFault}
use Rattle.cookbook_meta.specs.declared.metadata.Metadata.{Metadata}
use Rattle.cookbook_meta.proofs.PairLemmas.{pair_at-own, pair_at-other}

abbrev dependencies : List ℕ
dependencies = codes "dependencies"

-- the metadata of these three fields
abbrev metadata_by : Option Doc → Option Doc → Option Doc → Result Metadata MetaFault
metadata_by name version needs =
    then_do (in_field (codes "name") (then_do (ok_or name MissingField) name_of)) (λ own.
    then_do (in_field (codes "version") (then_do (ok_or version MissingField) version_of)) (λ release.
    then_do (in_field dependencies (needs_of needs)) (λ all.
    Ok (record { name = own; version = release; needs = all }))))

-- sent without dependencies
with_none : (sent : Pairs) → pair_at dependencies sent ≡ None → metadata_in (pairs_of (with_pair dependencies (dict no_pairs) (pairs_list sent))) ≡ metadata_in sent
with_none sent none =
    let made = with_pair dependencies (dict no_pairs) (pairs_list sent) in
    let name : pair_at (codes "name") (pairs_of made) ≡ pair_at (codes "name") sent =
    pair_at-other (codes "name") dependencies (dict no_pairs) (pairs_list sent) refl ∙ ap (pair_at (codes "name")) (pairs_of-pairs_list sent) in
    let version : pair_at (codes "version") (pairs_of made) ≡ pair_at (codes "version") sent =
    pair_at-other (codes "version") dependencies (dict no_pairs) (pairs_list sent) refl ∙ ap (pair_at (codes "version")) (pairs_of-pairs_list sent) in
    let needs : pair_at dependencies (pairs_of made) ≡ Some (dict no_pairs) = pair_at-own dependencies (dict no_pairs) (pairs_list sent) in
    (λ i. metadata_by (name i) (version i) (needs i)) ∙ sym (ap (metadata_by (pair_at (codes "name") sent) (pair_at (codes "version") sent)) none)

metadata_settled : (sent : Pairs) → metadata_in (pairs_of (stored_metadata sent)) ≡ metadata_in sent
metadata_settled sent =
    elim (pair_at dependencies sent) as (λ found. pair_at dependencies sent ≡ found → metadata_in (pairs_of (cond (is_none found) (with_pair dependencies (dict no_pairs) (pairs_list sent)) (pairs_list sent))) ≡ metadata_in sent) [
      | None ↦ λ none. with_none sent none
      | Some d ↦ λ some. ap metadata_in (pairs_of-pairs_list sent)
    ] refl

-- what is stored of metadata is stored of itself
pub stored_metadata-twice : (sent : Pairs) → stored_metadata (pairs_of (stored_metadata sent)) ≡ stored_metadata sent
stored_metadata-twice sent =
    elim (pair_at dependencies sent) as (λ found. pair_at dependencies sent ≡ found
    → stored_metadata (pairs_of (cond (is_none found) (with_pair dependencies (dict no_pairs) (pairs_list sent)) (pairs_list sent))) ≡ cond (is_none found) (with_pair dependencies (dict no_pairs) (pairs_list sent)) (pairs_list sent)) [
      | None ↦ λ none.
          let made = with_pair dependencies (dict no_pairs) (pairs_list sent) in
          ap (λ found. cond (is_none found) (with_pair dependencies (dict no_pairs) (pairs_list (pairs_of made))) (pairs_list (pairs_of made))) (pair_at-own dependencies (dict no_pairs) (pairs_list sent))
          ∙ pairs_list-pairs_of made
      | Some d ↦ λ some.
          ap stored_metadata (pairs_of-pairs_list sent)
          ∙ ap (λ found. cond (is_none found) (with_pair dependencies (dict no_pairs) (pairs_list sent)) (pairs_list sent)) some
    ] refl

-- metadata that fit a manifest do so as they are stored
pub metadata_again : (name : List ℕ) (version : Version) (found : Option Doc) (m : Metadata) → then_do (ok_or found MissingField) (metadata_of name version) ≡ Ok m
    → metadata_of name version (dict (pairs_of (stored_metadata (metadata_sent found)))) ≡ Ok m
metadata_again name version None m is = cc
metadata_again name version (Some null) m is = cc
metadata_again name version (Some (boolean b)) m is = cc
metadata_again name version (Some (whole z)) m is = cc
metadata_again name version (Some (words text)) m is = cc
metadata_again name version (Some (list ds)) m is = cc
metadata_again name version (Some (dict sent)) m is = ap (λ r. then_do (inside r) (of_release name version)) (metadata_settled sent) ∙ is

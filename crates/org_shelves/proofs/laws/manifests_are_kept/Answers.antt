use Rattle.std.proofs.Common.{◌≡◌, ℕ, List, Ok, sym, subst}
use Rattle.doc_tree.specs.Tree.{doc_of}
use Rattle.version_rules.specs.declared.versions.Version.{Version}
use Rattle.cookbook_meta.specs.Manifests.{manifest_from}
use Rattle.org_shelves.proofs.SaysLemmas.{own_known}
use Rattle.org_shelves.proofs.laws.manifests_are_kept.Goals as goal

pub returns : goal.returns
returns c = λ name version body m fits is.
    let own = own_known name version body m is in
    subst (λ (n : List ℕ). manifest_from n m.version (doc_of m.whole) ≡ Ok m) (sym own.name_is)
    (subst (λ (v : Version). manifest_from name v (doc_of m.whole) ≡ Ok m) (sym own.version_is) (c.manifests_read_back.ensures name version body m fits is))

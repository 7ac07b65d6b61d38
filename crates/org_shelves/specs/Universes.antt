-- The universe of stored versions: what the solver sees of them.
use Rattle.std.specs.Prelude.{ℕ, List, map}
use Rattle.std.proofs.Common.{sym, subst}
use Rattle.std.proofs.lemmas.Simd.{map-map}
use Rattle.std.specs.FinMap as finite
use Rattle.std.specs.FinMap.Entries.{where_key}
use Rattle.std.specs.List.Sorted.{IsStrictlySortedBy}
use Rattle.doc_tree.specs.Text.{text_cmp}
use Rattle.doc_tree.specs.Doc.{Doc}
use Rattle.doc_tree.specs.Name.{is_name}
use Rattle.version_rules.specs.Order.{version_cmp}
use Rattle.version_rules.specs.Terms.{Terms}
use Rattle.version_rules.specs.declared.needs.Need.{Need}
use Rattle.version_rules.specs.declared.versions.Version.{Version}
use Rattle.dep_solver.specs.declared.universe.Cookbook.{Cookbook}
use Rattle.dep_solver.specs.declared.universe.Release.{Release}
use Rattle.dep_solver.specs.declared.universe.Universe.{Universe}
use Rattle.shelves.specs.Shelves.{Store}
use Rattle.org_shelves.specs.Editions.{needs_in}
use Rattle.org_shelves.specs.Rising.{keys_rise}

-- a need as an entry: the cookbook's name, and what its version has to meet
abbrev pub entry_of : Need → List ℕ × Terms
entry_of need = (need.name, need.constraint)

abbrev pub need_of : List ℕ × Terms → Need
need_of entry = record { name = entry.0; constraint = entry.1 }

-- what a version needs, by the cookbooks' names, which come in order in a document that is stored
abbrev pub needs_by_name : Doc → finite.FinMap text_cmp Terms
needs_by_name manifest = finite.from_sorted {R = text_cmp} (map entry_of (needs_in manifest))

-- a version, with what it needs
abbrev pub release_of : Version × Doc → Release
release_of entry = record {
  version = entry.0;
  needs = map need_of (finite.entries (needs_by_name entry.1));
  in_order = subst (IsStrictlySortedBy text_cmp) (sym (map-map (λ (need : Need). need.name) need_of (finite.entries (needs_by_name entry.1)))) (keys_rise text_cmp (needs_by_name entry.1));
}

-- a cookbook, with its versions
abbrev pub cookbook_of : List ℕ × finite.FinMap version_cmp Doc → Cookbook
cookbook_of entry = record {
  name = entry.0;
  releases = map release_of (finite.entries entry.1);
  rising = subst (IsStrictlySortedBy version_cmp) (sym (map-map (λ (release : Release). release.version) release_of (finite.entries entry.1))) (keys_rise version_cmp entry.1);
}

-- the shelves whose name has the form of a Name, as each has that is stored
abbrev pub named : Store version_cmp Doc → Store version_cmp Doc
named stored = finite.from_sorted {R = text_cmp} (where_key text_cmp is_name (finite.entries stored))

-- all cookbooks, with their versions
abbrev pub universe_of : Store version_cmp Doc → Universe
universe_of stored = record {
  cookbooks = map cookbook_of (finite.entries (named stored));
  in_order = subst (IsStrictlySortedBy text_cmp) (sym (map-map (λ (cookbook : Cookbook). cookbook.name) cookbook_of (finite.entries (named stored)))) (keys_rise text_cmp (named stored));
}

-- What is made of stored versions is their universe.
use Rattle.std.proofs.Common.{◌≡◌, ◌<◌, ◌+◌, ℕ, T, Bool, true, false, cond, ◌&&◌, List, [], ◌∷◌, ◌++◌, map, filter, length, drop, get_or, refl, sym, ap, subst, ◌∙◌}
use Rattle.std.proofs.Props.{props}
use Rattle.std.proofs.lemmas.List.{append-nil, append_assoc, drop_more, map-append}
use Rattle.std.specs.declared.cmp.Ordering.{Ordering}
use Rattle.std.specs.declared.cmp.Ordering.TheVariants.{Less, Equal, Greater}
use Rattle.std.specs.FinMap as finite
use Rattle.std.specs.FinMap.Entries.{below_all, is_sorted, is_sorted-where_key}
use Rattle.std.specs.List.{AllByRecursion}
use Rattle.std.specs.List.Sorted.{IsStrictlySortedBy}
use Rattle.std.specs.Ordering.{is_lt}
use Rattle.doc_tree.specs.Text.{text_cmp}
use mathlib.Core.HLevel.{Σ_prop_path}
use Rattle.doc_tree.specs.Doc.{Doc}
use Rattle.doc_tree.specs.Name.{is_name}
use Rattle.version_rules.specs.Order.{version_cmp}
use Rattle.version_rules.specs.declared.needs.Need.{Need}
use Rattle.version_rules.specs.declared.versions.Version.{Version}
use Rattle.dep_solver.proofs.SameLemmas.{same_cookbook}
use Rattle.dep_solver.specs.declared.universe.Cookbook.{Cookbook}
use Rattle.dep_solver.specs.declared.universe.Release.{Release}
use Rattle.dep_solver.specs.declared.universe.Universe.{Universe}
use Rattle.shelves.specs.Shelves.{Store}
use Rattle.shelves.specs.SortedMap.{Sorted, map_of}
use Rattle.org_shelves.specs.Editions.{needs_in}
use Rattle.org_shelves.specs.Universes.{cookbook_of, entry_of, named, need_of, needs_by_name, release_of, universe_of}

-- ---- needs in order are the entries of a map

abbrev names_of : List Need → List (List ℕ)
names_of needs = map (λ (need : Need). need.name) needs

both : (a b : Bool) → T a → T b → T (a && b)
both true b p q = q
both false b p q = absurd p

below : (k : List ℕ) (needs : List Need) → AllByRecursion (λ other. text_cmp k other ≡ Less) (names_of needs) → T (below_all text_cmp k (map entry_of needs))
below k [] all = tt
below k (need ∷ needs) all = both _ _ (subst (λ (o : Ordering). T (is_lt o)) (sym all.0) tt) (below k needs all.1)

sorted : (needs : List Need) → IsStrictlySortedBy text_cmp (names_of needs) → T (is_sorted text_cmp (map entry_of needs))
unfolding IsStrictlySortedBy
sorted [] rise = tt
sorted (need ∷ needs) rise = both _ _ (below need.name needs rise.0) (sorted needs rise.1)

again : (needs : List Need) → map need_of (map entry_of needs) ≡ needs
again [] = refl
again (need ∷ needs) = ap (λ rest. need ∷ rest) (again needs)

needs_same : (manifest : Doc) → IsStrictlySortedBy text_cmp (names_of (needs_in manifest)) → map need_of (finite.entries (needs_by_name manifest)) ≡ needs_in manifest
needs_same manifest rise = ap (map need_of) (finite.entries-from_sorted text_cmp (map entry_of (needs_in manifest)) (sorted (needs_in manifest) rise)) ∙ again (needs_in manifest)

-- ---- releases and universes are told by their parts

same_release : (a b : Release) → a.version ≡ b.version → a.needs ≡ b.needs → a ≡ b
same_release a b version needs =
    let once : (ns : List Need) → IsProp (IsStrictlySortedBy text_cmp (names_of ns)) = λ ns. hlevel props in
    let pairs : ◌≡◌ {A = (ns : List Need) × IsStrictlySortedBy text_cmp (names_of ns)} (a.needs, a.in_order) (b.needs, b.in_order) = Σ_prop_path once needs in
    λ i. record { version = version i; needs = (pairs i).0; in_order = (pairs i).1 }

pub same_universe : (a b : Universe) → a.cookbooks ≡ b.cookbooks → a ≡ b
same_universe a b cookbooks =
    let once : (cs : List Cookbook) → IsProp (IsStrictlySortedBy text_cmp (map (λ (c : Cookbook). c.name) cs)) = λ cs. hlevel props in
    let pairs : ◌≡◌ {A = (cs : List Cookbook) × IsStrictlySortedBy text_cmp (map (λ (c : Cookbook). c.name) cs)} (a.cookbooks, a.in_order) (b.cookbooks, b.in_order) = Σ_prop_path once cookbooks in
    λ i. record { cookbooks = (pairs i).0; in_order = (pairs i).1 }

-- a release with the needs of a manifest is that of the manifest
pub release_is : (release : Release) (version : Version) (manifest : Doc) → release.version ≡ version → release.needs ≡ needs_in manifest → release ≡ release_of (version, manifest)
release_is release version manifest is needs =
    same_release release (release_of (version, manifest)) is
    (needs ∙ sym (needs_same manifest (subst (λ (ns : List Need). IsStrictlySortedBy text_cmp (names_of ns)) needs release.in_order)))

pub cookbook_is : (cookbook : Cookbook) (entry : List ℕ × finite.FinMap version_cmp Doc) → cookbook.name ≡ entry.0 → cookbook.releases ≡ map release_of (finite.entries entry.1) → cookbook ≡ cookbook_of entry
cookbook_is cookbook entry name releases = same_cookbook cookbook (cookbook_of entry) name releases

pub releases_rise : (releases : List Release) (entry : List ℕ × finite.FinMap version_cmp Doc) → releases ≡ map release_of (finite.entries entry.1) → IsStrictlySortedBy version_cmp (map (λ (release : Release). release.version) releases)
releases_rise releases entry is =
    subst (λ (rs : List Release). IsStrictlySortedBy version_cmp (map (λ (release : Release). release.version) rs)) (sym is) (cookbook_of entry).rising

-- one more release
pub releases_more : (entries : List (Version × Doc)) (i : ℕ) (entry : Version × Doc) (made after : List Release) (release : Release) → i < length entries → entry ≡ get_or entries i entry → release ≡ release_of entry → after ≡ made ++ release ∷ []
    → map release_of entries ≡ made ++ map release_of (drop i entries) → map release_of entries ≡ after ++ map release_of (drop (i + 1) entries)
releases_more entries i entry made after release within is this pushed before =
    before
    ∙ ap (λ es. made ++ map release_of es) (drop_more entries i entry within)
    ∙ ap (λ e. made ++ release_of e ∷ map release_of (drop (i + 1) entries)) (sym is)
    ∙ ap (λ r. made ++ r ∷ map release_of (drop (i + 1) entries)) (sym this)
    ∙ sym (append_assoc made (release ∷ []) (map release_of (drop (i + 1) entries)))
    ∙ ap (λ rs. rs ++ map release_of (drop (i + 1) entries)) (sym pushed)

-- ---- shelves, one by one

abbrev Shelf : Type 0
Shelf = List ℕ × Sorted Version Doc

abbrev pub seen : Shelf → List ℕ × finite.FinMap version_cmp Doc
seen shelf = (shelf.0, map_of version_cmp shelf.1)

-- the cookbooks of shelves whose name has a Name's form
abbrev pub cookbooks_of : List (List ℕ × finite.FinMap version_cmp Doc) → List Cookbook
cookbooks_of shelves = map cookbook_of (filter (λ shelf. is_name shelf.0) shelves)

one_more : (shelf : List ℕ × finite.FinMap version_cmp Doc) (rest : List (List ℕ × finite.FinMap version_cmp Doc)) (b : Bool) → is_name shelf.0 ≡ b → cookbooks_of (shelf ∷ rest) ≡ cond b (cookbook_of shelf ∷ cookbooks_of rest) (cookbooks_of rest)
one_more shelf rest true is = ap (λ b. map cookbook_of (cond b (shelf ∷ filter (λ s. is_name s.0) rest) (filter (λ s. is_name s.0) rest))) is
one_more shelf rest false is = ap (λ b. map cookbook_of (cond b (shelf ∷ filter (λ s. is_name s.0) rest) (filter (λ s. is_name s.0) rest))) is

module _ (shelves : List Shelf) (i : ℕ) (shelf : Shelf) (within : i < length shelves) (is : shelf ≡ get_or shelves i shelf) (made : List Cookbook) where
  left : map seen (drop i shelves) ≡ seen shelf ∷ map seen (drop (i + 1) shelves)
  left = ap (map seen) (drop_more shelves i shelf within) ∙ ap (λ s. seen s ∷ map seen (drop (i + 1) shelves)) (sym is)

  -- what is made so far, and of the shelves that are left, stays with one more that has a Name
  pub named_more : (all : List Cookbook) (after : List Cookbook) (cookbook : Cookbook) → is_name shelf.0 ≡ true → cookbook ≡ cookbook_of (seen shelf) → after ≡ made ++ cookbook ∷ []
      → made ++ cookbooks_of (map seen (drop i shelves)) ≡ all → after ++ cookbooks_of (map seen (drop (i + 1) shelves)) ≡ all
  named_more all after cookbook name this pushed before =
      ap (λ cs. cs ++ cookbooks_of (map seen (drop (i + 1) shelves))) pushed
      ∙ append_assoc made (cookbook ∷ []) (cookbooks_of (map seen (drop (i + 1) shelves)))
      ∙ ap (λ c. made ++ c ∷ cookbooks_of (map seen (drop (i + 1) shelves))) this
      ∙ ap (λ cs. made ++ cs) (sym (ap cookbooks_of left ∙ one_more (seen shelf) (map seen (drop (i + 1) shelves)) true name))
      ∙ before

  -- and with one that has none
  pub unnamed_more : (all : List Cookbook) (after : List Cookbook) → is_name shelf.0 ≡ false → after ≡ made
      → made ++ cookbooks_of (map seen (drop i shelves)) ≡ all → after ++ cookbooks_of (map seen (drop (i + 1) shelves)) ≡ all
  unnamed_more all after name same before =
      ap (λ cs. cs ++ cookbooks_of (map seen (drop (i + 1) shelves))) same
      ∙ ap (λ cs. made ++ cs) (sym (ap cookbooks_of left ∙ one_more (seen shelf) (map seen (drop (i + 1) shelves)) false name))
      ∙ before

-- ---- the whole universe

entries_named : (stored : Store version_cmp Doc) → finite.entries (named stored) ≡ filter (λ shelf. is_name shelf.0) (finite.entries stored)
entries_named stored = finite.entries-from_sorted text_cmp _ (is_sorted-where_key text_cmp is_name (finite.entries stored) (finite.entries_sorted stored))

-- in the end all are made
pub all_made : (stored : Store version_cmp Doc) (shelves : List Shelf) (made : List Cookbook) (rest : List Shelf) → map seen shelves ≡ finite.entries stored → rest ≡ [] → made ++ cookbooks_of (map seen rest) ≡ cookbooks_of (map seen shelves)
    → made ≡ (universe_of stored).cookbooks
all_made stored shelves made rest same none before =
    sym (append-nil made) ∙ ap (λ ls. made ++ cookbooks_of (map seen ls)) (sym none) ∙ before ∙ ap cookbooks_of same ∙ ap (map cookbook_of) (sym (entries_named stored))

pub universe_rises : (stored : Store version_cmp Doc) (made : List Cookbook) → made ≡ (universe_of stored).cookbooks → IsStrictlySortedBy text_cmp (map (λ (cookbook : Cookbook). cookbook.name) made)
universe_rises stored made is = subst (λ (cs : List Cookbook). IsStrictlySortedBy text_cmp (map (λ (cookbook : Cookbook). cookbook.name) cs)) (sym is) (universe_of stored).in_order

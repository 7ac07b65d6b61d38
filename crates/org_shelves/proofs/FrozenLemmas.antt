-- A stored manifest that is frozen.
use Rattle.std.proofs.Common.{◌≡◌, ℕ, Bool, true, false, not, IsTrue, List, [], ◌∷◌, ◌++◌, map, Option, Some, Ok, ok_or, codes, bytes_eq, Ordering, Less, Equal, Greater, nat_cmp, is_eq, refl, sym, ap, subst, ◌∙◌}
use Rattle.std.proofs.lemmas.Map.Text.{is_eq-slice_cmp}
use Rattle.std.specs.Cmp.Lexicographic.{slice_cmp, nat_list_cmp_total}
use Rattle.std.specs.List.{flat_map, list_all}
use Rattle.std.specs.Map.{keys_of}
use Rattle.std.specs.Option.{option_and_then}
use Rattle.std.specs.Ordering.{match_ordering, ordering_reverse}
use Rattle.doc_tree.proofs.Docs.{pairs_list-pairs_of, pairs_of-pairs_list}
use Rattle.doc_tree.specs.Doc.{Doc, null, boolean, whole, words, list, dict, Pairs, no_pairs, pairs_of, pairs_list}
use Rattle.doc_tree.specs.Part.{pair_at, part_at, with_pair}
use Rattle.doc_tree.specs.Tree.{doc_of}
use Rattle.doc_tree.specs.declared.tree.Tree.{Tree}
use Rattle.doc_tree.specs.declared.tree.Tree.TheVariants as tree
use Rattle.version_rules.specs.declared.needs.Need.{Need}
use Rattle.version_rules.specs.declared.versions.Version.{Version}
use Rattle.sandboxes.specs.Sums.{lists}
use Rattle.cookbook_meta.specs.Faults.{then_do, in_field}
use Rattle.cookbook_meta.specs.Fields.{Row, are_as_asked, is_as_asked, told_by}
use Rattle.cookbook_meta.specs.Manifests.{manifest_in, manifest_from, metadata_of}
use Rattle.cookbook_meta.specs.Metadata.{needs_of, stored_metadata}
use Rattle.cookbook_meta.specs.Parts.{needed, truth_of}
use Rattle.cookbook_meta.specs.Segments.{segments, with_segment, with_segments}
use Rattle.cookbook_meta.specs.Stored.{head_keys, is_field, metadata_key, metadata_sent, told_fields, segment_fields, stored_fields, unlisted, with_pairs, whole_of}
use Rattle.cookbook_meta.specs.declared.entries.Entry.{Entry}
use Rattle.cookbook_meta.specs.declared.manifests.Manifest.{Manifest}
use Rattle.cookbook_meta.proofs.DoneLemmas.{then_done}
use Rattle.cookbook_meta.proofs.PairLemmas.{pair_at-own, pair_at-other}
use Rattle.cookbook_meta.proofs.PutLemmas.{and_first, and_second, not_true, beside-puts}
use Rattle.cookbook_meta.proofs.ReadBackLemmas.{by_steps, steps_done, made_of}
use Rattle.org_shelves.specs.Editions.{ArePartsOf, read_or, needs_in, is_frozen, docs_in, sum_in, entries_at}
use Rattle.org_shelves.specs.Frozen.{freeze}
use Rattle.org_shelves.specs.StoredManifests.{IsStored}
use Rattle.org_shelves.specs.Laws.{StaysStored}

-- the key of freezing
abbrev key_of_freezing : List ℕ
key_of_freezing = codes "frozen?"

-- the pairs with `frozen?` true among them
abbrev frozen_pairs : List (List ℕ × Doc) → List (List ℕ × Doc)
frozen_pairs ps = with_pair key_of_freezing (boolean true) ps

-- none of these keys is that of freezing
abbrev none_freezes : List (List ℕ) → Bool
none_freezes keys = list_all (λ key. not (bytes_eq key_of_freezing key)) keys

needed_by : {F : Type 0} (one another : Option Doc) (flaw : F) → one ≡ another → ok_or one flaw ≡ ok_or another flaw
needed_by one another flaw same = ap (λ found. ok_or found flaw) same

-- ---- what stands in a frozen dict

module _ (ps : Pairs) where
  abbrev frozen : Pairs
  frozen = pairs_of (frozen_pairs (pairs_list ps))

  own : pair_at key_of_freezing frozen ≡ Some (boolean true)
  own = pair_at-own key_of_freezing (boolean true) (pairs_list ps)

  other : (key : List ℕ) → bytes_eq key_of_freezing key ≡ false → pair_at key frozen ≡ pair_at key ps
  other key differs = pair_at-other key key_of_freezing (boolean true) (pairs_list ps) differs ∙ ap (pair_at key) (pairs_of-pairs_list ps)

  entries_same : (names : List (List ℕ)) → IsTrue (none_freezes names) → flat_map (entries_at (dict frozen)) names ≡ flat_map (entries_at (dict ps)) names
  entries_same [] none = refl
  entries_same (name ∷ names) none =
      let here : entries_at (dict frozen) name ≡ entries_at (dict ps) name = ap docs_in (other name (not_true _ (and_first _ _ none))) in
      λ i. here i ++ entries_same names (and_second _ _ none) i

  rows_same : (rows : List Row) → IsTrue (none_freezes (map (λ (row : Row). row.key) rows)) → are_as_asked rows frozen ≡ are_as_asked rows ps
  rows_same [] none = refl
  rows_same (row ∷ rows) none =
      λ i. then_do (in_field row.key (is_as_asked row (other row.key (not_true _ (and_first _ _ none)) i))) (λ done. rows_same rows (and_second _ _ none) i)

  segments_same : (names : List (List ℕ)) → IsTrue (none_freezes names) → (before : List Entry) → with_segments names frozen before ≡ with_segments names ps before
  segments_same [] none before = refl
  segments_same (name ∷ names) none before =
      λ i. then_do (in_field name (with_segment name (other name (not_true _ (and_first _ _ none)) i) before)) (λ next. segments_same names (and_second _ _ none) next i)

  needed_same : needed metadata_key frozen ≡ needed metadata_key ps
  needed_same = needed_by (pair_at metadata_key frozen) (pair_at metadata_key ps) _ (other metadata_key refl)

  metadata_same : (name : List ℕ) (version : Version) → in_field metadata_key (then_do (needed metadata_key frozen) (metadata_of name version)) ≡ in_field metadata_key (then_do (needed metadata_key ps) (metadata_of name version))
  metadata_same name version = ap (λ sent. in_field metadata_key (then_do sent (metadata_of name version))) needed_same

  needs_same : needs_in (dict frozen) ≡ needs_in (dict ps)
  needs_same = ap (λ found. read_or [] (needs_of (option_and_then (part_at (codes "dependencies")) found))) (other metadata_key refl)

  frozen_now : is_frozen (dict frozen) ≡ true
  frozen_now = ap (λ found. read_or false (truth_of found)) own

-- the parts of a frozen dict are those before, but that it is frozen
pub parts_frozen : (ps : Pairs) (needs : List Need) (before : Bool) (sums : List (List ℕ)) → ArePartsOf (dict ps) needs before sums → ArePartsOf (freeze (dict ps)) needs true sums
parts_frozen ps needs before sums parts = record {
  needs_are = parts.needs_are ∙ sym (needs_same ps);
  frozen_is = sym (frozen_now ps);
  sums_are = λ sum. parts.sums_are sum ∙ sym (ap (λ es. lists (map sum_in es) sum) (entries_same ps segments refl));
}

-- of a tree that is a dict, as code puts `frozen?` in
pub parts_put : (t : Tree) (fields made : List (List ℕ × Doc)) (needs : List Need) (before : Bool) (sums : List (List ℕ)) → t ≡ tree.Dict fields → made ≡ frozen_pairs fields
    → ArePartsOf (doc_of t) needs before sums → ArePartsOf (dict (pairs_of made)) needs true sums
parts_put t fields made needs before sums is put parts =
    subst (λ (d : Doc). ArePartsOf d needs true sums) (ap (λ ps. dict (pairs_of (frozen_pairs ps))) (pairs_list-pairs_of fields) ∙ ap (λ ps. dict (pairs_of ps)) (sym put))
    (parts_frozen (pairs_of fields) needs before sums (subst (λ (u : Tree). ArePartsOf (doc_of u) needs before sums) is parts))

-- ---- fields put in twice and in another order

put_less : (k : List ℕ) (d : Doc) (e : List ℕ × Doc) (es : List (List ℕ × Doc)) → slice_cmp nat_cmp k e.0 ≡ Less → with_pair k d (e ∷ es) ≡ (k, d) ∷ e ∷ es
put_less k d e es is = ap (λ o. match_ordering o ((k, d) ∷ e ∷ es) ((e.0, d) ∷ es) (e ∷ with_pair k d es)) is

put_equal : (k : List ℕ) (d : Doc) (e : List ℕ × Doc) (es : List (List ℕ × Doc)) → slice_cmp nat_cmp k e.0 ≡ Equal → with_pair k d (e ∷ es) ≡ (e.0, d) ∷ es
put_equal k d e es is = ap (λ o. match_ordering o ((k, d) ∷ e ∷ es) ((e.0, d) ∷ es) (e ∷ with_pair k d es)) is

put_greater : (k : List ℕ) (d : Doc) (e : List ℕ × Doc) (es : List (List ℕ × Doc)) → slice_cmp nat_cmp k e.0 ≡ Greater → with_pair k d (e ∷ es) ≡ e ∷ with_pair k d es
put_greater k d e es is = ap (λ o. match_ordering o ((k, d) ∷ e ∷ es) ((e.0, d) ∷ es) (e ∷ with_pair k d es)) is

-- the order of two keys, seen from the other
turned : (k l : List ℕ) (o : Ordering) → slice_cmp nat_cmp k l ≡ o → slice_cmp nat_cmp l k ≡ ordering_reverse o
turned k l o is = nat_list_cmp_total.antisymm l k ∙ ap ordering_reverse is

itself-at : (o : Ordering) → o ≡ ordering_reverse o → o ≡ Equal
itself-at Less back = cc
itself-at Equal back = refl
itself-at Greater back = cc

-- a key is the same as itself
itself : (k : List ℕ) → slice_cmp nat_cmp k k ≡ Equal
itself k = itself-at (slice_cmp nat_cmp k k) (nat_list_cmp_total.antisymm k k)

twice-at : (o : Ordering) (k : List ℕ) (d before : Doc) (e : List ℕ × Doc) (es : List (List ℕ × Doc)) → slice_cmp nat_cmp k e.0 ≡ o → with_pair k d (with_pair k before es) ≡ with_pair k d es
    → with_pair k d (match_ordering o ((k, before) ∷ e ∷ es) ((e.0, before) ∷ es) (e ∷ with_pair k before es)) ≡ match_ordering o ((k, d) ∷ e ∷ es) ((e.0, d) ∷ es) (e ∷ with_pair k d es)
twice-at Less k d before e es is later = put_equal k d (k, before) (e ∷ es) (itself k)
twice-at Equal k d before e es is later = put_equal k d (e.0, before) es is
twice-at Greater k d before e es is later = put_greater k d e (with_pair k before es) is ∙ ap (λ ps. e ∷ ps) later

-- what is put at a key takes the place of what was put there
twice : (k : List ℕ) (d before : Doc) (ps : List (List ℕ × Doc)) → with_pair k d (with_pair k before ps) ≡ with_pair k d ps
twice k d before [] = put_equal k d (k, before) [] (itself k)
twice k d before (e ∷ es) = twice-at _ k d before e es refl (twice k d before es)

swap-at : (ok ol : Ordering) (k l : List ℕ) (d b : Doc) (e : List ℕ × Doc) (es : List (List ℕ × Doc)) → slice_cmp nat_cmp k l ≡ Less → slice_cmp nat_cmp k e.0 ≡ ok → slice_cmp nat_cmp l e.0 ≡ ol
    → with_pair k d (with_pair l b es) ≡ with_pair l b (with_pair k d es)
    → with_pair k d (match_ordering ol ((l, b) ∷ e ∷ es) ((e.0, b) ∷ es) (e ∷ with_pair l b es)) ≡ with_pair l b (match_ordering ok ((k, d) ∷ e ∷ es) ((e.0, d) ∷ es) (e ∷ with_pair k d es))
swap-at Less Less k l d b e es kl ke le later =
    put_less k d (l, b) (e ∷ es) kl ∙ ap (λ ps. (k, d) ∷ ps) (sym (put_less l b e es le)) ∙ sym (put_greater l b (k, d) (e ∷ es) (turned k l Less kl))
swap-at Less Equal k l d b e es kl ke le later =
    put_less k d (e.0, b) es ke ∙ ap (λ ps. (k, d) ∷ ps) (sym (put_equal l b e es le)) ∙ sym (put_greater l b (k, d) (e ∷ es) (turned k l Less kl))
swap-at Less Greater k l d b e es kl ke le later =
    put_less k d e (with_pair l b es) ke ∙ ap (λ ps. (k, d) ∷ ps) (sym (put_greater l b e es le)) ∙ sym (put_greater l b (k, d) (e ∷ es) (turned k l Less kl))
swap-at Equal Less k l d b e es kl ke le later =
    let far = sym (nat_list_cmp_total.congr k e.0 l ke) ∙ kl in
    let near = turned l e.0 Less le in
    cc
swap-at Equal Equal k l d b e es kl ke le later =
    let far = sym (nat_list_cmp_total.congr k e.0 l ke) ∙ kl in
    let near = turned l e.0 Equal le in
    cc
swap-at Equal Greater k l d b e es kl ke le later = put_equal k d e (with_pair l b es) ke ∙ sym (put_greater l b (e.0, d) es le)
swap-at Greater Less k l d b e es kl ke le later =
    let far = nat_list_cmp_total.trans e.0 k l (turned k e.0 Greater ke) kl in
    let near = turned l e.0 Less le in
    cc
swap-at Greater Equal k l d b e es kl ke le later =
    let far = nat_list_cmp_total.trans e.0 k l (turned k e.0 Greater ke) kl in
    let near = turned l e.0 Equal le in
    cc
swap-at Greater Greater k l d b e es kl ke le later =
    put_greater k d e (with_pair l b es) ke ∙ ap (λ ps. e ∷ ps) later ∙ sym (put_greater l b e (with_pair k d es) le)

swap_less : (k l : List ℕ) (d b : Doc) (ps : List (List ℕ × Doc)) → slice_cmp nat_cmp k l ≡ Less → with_pair k d (with_pair l b ps) ≡ with_pair l b (with_pair k d ps)
swap_less k l d b [] kl = put_less k d (l, b) [] kl ∙ sym (put_greater l b (k, d) [] (turned k l Less kl))
swap_less k l d b (e ∷ es) kl = swap-at _ _ k l d b e es kl refl refl (swap_less k l d b es kl)

swap-by : (o : Ordering) (k l : List ℕ) (d b : Doc) (ps : List (List ℕ × Doc)) → is_eq o ≡ false → slice_cmp nat_cmp k l ≡ o → with_pair k d (with_pair l b ps) ≡ with_pair l b (with_pair k d ps)
swap-by Less k l d b ps differs is = swap_less k l d b ps is
swap-by Equal k l d b ps differs is = cc
swap-by Greater k l d b ps differs is = sym (swap_less l k b d ps (turned k l Greater is))

-- two keys are put in in either order
swap : (k l : List ℕ) (d b : Doc) (ps : List (List ℕ × Doc)) → bytes_eq k l ≡ false → with_pair k d (with_pair l b ps) ≡ with_pair l b (with_pair k d ps)
swap k l d b ps differs = swap-by _ k l d b ps (is_eq-slice_cmp k l ∙ differs) refl

-- a key is put in before or behind others
puts_swap : (k : List ℕ) (d : Doc) (fields made : List (List ℕ × Doc)) → IsTrue (list_all (λ key. not (bytes_eq k key)) (keys_of fields)) → with_pair k d (with_pairs fields made) ≡ with_pairs fields (with_pair k d made)
puts_swap k d [] made none = refl
puts_swap k d (p ∷ fields) made none =
    puts_swap k d fields (with_pair p.0 p.1 made) (and_second _ _ none) ∙ ap (with_pairs fields) (swap k p.0 d p.1 made (not_true _ (and_first _ _ none)))

freeze_puts : (fields made : List (List ℕ × Doc)) (before : Bool) → IsTrue (none_freezes (keys_of fields)) → with_pairs fields (frozen_pairs made) ≡ frozen_pairs (with_pairs fields (with_pair key_of_freezing (boolean before) made))
freeze_puts fields made before none =
    sym (puts_swap key_of_freezing (boolean true) fields (with_pair key_of_freezing (boolean before) made) none ∙ ap (with_pairs fields) (twice key_of_freezing (boolean true) (boolean before) made))

-- ---- the frozen manifest

abbrev pairs_in : Doc → Pairs
pairs_in null = no_pairs
pairs_in (boolean b) = no_pairs
pairs_in (whole z) = no_pairs
pairs_in (words text) = no_pairs
pairs_in (list ds) = no_pairs
pairs_in (dict ps) = ps

-- the stored object of the frozen manifest is the frozen one
whole_frozen : (name : List ℕ) (version : Version) (ps : Pairs) (before : Bool) (files : List Entry) → whole_of name version before files ps ≡ pairs_list ps
    → whole_of name version true files (frozen ps) ≡ frozen_pairs (pairs_list ps)
whole_frozen name version ps before files is =
    let beside : unlisted (pairs_list (frozen ps)) ≡ unlisted (pairs_list ps) =
    ap unlisted (pairs_list-pairs_of (frozen_pairs (pairs_list ps))) ∙ beside-puts (is_field head_keys) ((key_of_freezing, boolean true) ∷ []) (pairs_list ps) refl in
    let metadata = stored_metadata (metadata_sent (pair_at metadata_key ps)) in
    let same : whole_of name version true files (frozen ps) ≡ with_pairs (stored_fields name version true metadata files) (unlisted (pairs_list ps)) =
    λ i. with_pairs (stored_fields name version true (stored_metadata (metadata_sent (other ps metadata_key refl i))) files) (beside i) in
    same
    ∙ freeze_puts ((metadata_key, dict (pairs_of metadata)) ∷ segment_fields segments files) (with_pairs (told_fields name version) (unlisted (pairs_list ps))) before refl
    ∙ ap frozen_pairs is

frozen_stored : (name : List ℕ) (version : Version) (ps : Pairs) (m : Manifest) → manifest_in name version ps ≡ Ok m → doc_of m.whole ≡ dict ps → IsStored name version (dict (frozen ps))
frozen_stored name version ps m is whole_is =
    let told = then_done (are_as_asked (told_by name version) ps) _ m is in
    let done = steps_done (are_as_asked (told_by name version) ps) (in_field (codes "frozen?") (truth_of (pair_at (codes "frozen?") ps)))
    (in_field metadata_key (then_do (needed metadata_key ps) (metadata_of name version))) (with_segments segments ps []) (made_of name version ps) m is in
    let told_again : are_as_asked (told_by name version) (frozen ps) ≡ Ok tt = rows_same ps (told_by name version) refl ∙ told.1 in
    let frozen_again : in_field (codes "frozen?") (truth_of (pair_at (codes "frozen?") (frozen ps))) ≡ Ok true = ap (λ found. in_field (codes "frozen?") (truth_of found)) (own ps) in
    let own_again : in_field metadata_key (then_do (needed metadata_key (frozen ps)) (metadata_of name version)) ≡ Ok done.own = metadata_same ps name version ∙ done.metadata_is in
    let files_again : with_segments segments (frozen ps) [] ≡ Ok done.entries = segments_same ps segments refl [] ∙ done.files_is in
    let kept = whole_of name version done.is_frozen done.entries ps in
    let same : pairs_of kept ≡ ps = ap pairs_in (ap (λ (n : Manifest). doc_of n.whole) done.made ∙ whole_is) in
    record {
      manifest = made_of name version (frozen ps) true done.own done.entries;
      read = λ i. by_steps (told_again i) (frozen_again i) (own_again i) (files_again i) (made_of name version (frozen ps));
      whole = ap (λ w. dict (pairs_of w)) (whole_frozen name version ps done.is_frozen done.entries (sym (pairs_list-pairs_of kept) ∙ ap pairs_list same));
    }

-- a stored manifest that is frozen is one of the same name and version
frozen_from : (name : List ℕ) (version : Version) (d : Doc) (m : Manifest) → manifest_from name version d ≡ Ok m → doc_of m.whole ≡ d → StaysStored name version d
frozen_from name version null m is whole_is = cc
frozen_from name version (boolean b) m is whole_is = cc
frozen_from name version (whole z) m is whole_is = cc
frozen_from name version (words text) m is whole_is = cc
frozen_from name version (list ds) m is whole_is = cc
frozen_from name version (dict ps) m is whole_is = record { stored = frozen_stored name version ps m is whole_is; frozen = frozen_now ps }

pub frozen_stays : (name : List ℕ) (version : Version) (d : Doc) → IsStored name version d → StaysStored name version d
frozen_stays name version d stored = frozen_from name version d stored.manifest stored.read stored.whole

-- The finite map that is seen, against the entries that are kept by texts.
use Rattle.std.proofs.Common.{◌≡◌, ◌||◌, Bool, true, false, cond, ℕ, List, [], ◌∷◌, ◌++◌, map, None, Some, is_some, bytes_eq, sym, ap, subst, refl, ◌∙◌, append_assoc, length, arith, Result, Ok, Err, IsOk, OnOk}
use mathlib.Core.Bool.{true≢false}
use Rattle.std.specs.declared.cmp.Ordering.TheVariants.{Less, Equal, Greater}
use Rattle.std.specs.Ordering.{is_eq, eq_by_cmp}
use Rattle.std.specs.Cmp.Lexicographic.{nat_list_cmp_total, nat_list_eq_equiv, texts_ties}
use Rattle.std.specs.FinMap as finite
use Rattle.std.specs.FinMap.Entries.{put, by_order}
use Rattle.std.specs.List.{AllByRecursion, IsDistinct, list_any}
use Rattle.std.specs.Map.{lookup, keys_of}
use Rattle.doc_tree.specs.Text.{text_cmp}
use Rattle.indexmap.specs.IndexMap.{insert_entry}
use Rattle.sandboxes.proofs.SearchLemmas.{text_cmp_ties}

-- what holds after a success, where the call succeeds
pub of_ok : {T E P : Type 0} (r : Result T E) → IsOk r → OnOk r P → P
of_ok (Ok x) is p = p
of_ok (Err e) is p = absurd (cc)

-- texts tie where they are equal
pub tied : (x y : List ℕ) → eq_by_cmp text_cmp x y ≡ bytes_eq x y
tied x y = sym (texts_ties x y)

-- entries as they are kept
abbrev pub Entries : Type 0 → Type 0
Entries X = List (List ℕ × X)

or_swap : (a b c : Bool) → (a || (b || c)) ≡ (b || (a || c))
or_swap true true c = refl
or_swap true false c = refl
or_swap false b c = refl

module _ {X : Type 0} where
  -- the map that is seen
  abbrev pub seen : Entries X → finite.FinMap text_cmp X
  seen entries = finite.from_entries entries

  -- a scan by order finds what a scan by equal keys finds
  find-lookup : (entries : Entries X) (key : List ℕ) → finite.find text_cmp key entries ≡ lookup (bytes_eq key) entries
  find-lookup [] key = refl
  find-lookup (e ∷ rest) key = λ i. cond (tied key e.0 i) (Some e.1) (find-lookup rest key i)

  -- what is seen at a key is what is kept there
  pub get-seen : (entries : Entries X) (key : List ℕ) → finite.get (seen entries) key ≡ lookup (bytes_eq key) entries
  get-seen entries key = finite.get-from_entries nat_list_cmp_total entries key ∙ find-lookup entries key

  -- maps that have the same at each key are the same
  pub same_seen : (m n : finite.FinMap text_cmp X) → ((q : List ℕ) → finite.get m q ≡ finite.get n q) → m ≡ n
  same_seen m n same = finite.same_map nat_list_cmp_total text_cmp_ties m n same

  -- what is kept at one key is new, so it is inserted
  pub seen-insert : (old new : Entries X) (key : List ℕ) (value : X) → ((q : List ℕ) → lookup (bytes_eq q) new ≡ cond (bytes_eq key q) (Some value) (lookup (bytes_eq q) old))
      → seen new ≡ finite.insert (seen old) key value
  seen-insert old new key value puts =
      same_seen (seen new) (finite.insert (seen old) key value) (λ q.
      get-seen new q
      ∙ puts q
      ∙ ap (λ b. cond b (Some value) (lookup (bytes_eq q) old)) (nat_list_eq_equiv.symm key q ∙ sym (tied q key))
      ∙ ap (cond (eq_by_cmp text_cmp q key) (Some value)) (sym (get-seen old q))
      ∙ sym (finite.get-insert nat_list_cmp_total (seen old) key value q))

  -- nothing is kept at one key any more, so it is removed
  pub seen-remove : (old new : Entries X) (key : List ℕ) → ((q : List ℕ) → lookup (bytes_eq q) new ≡ cond (bytes_eq key q) None (lookup (bytes_eq q) old))
      → seen new ≡ finite.remove (seen old) key
  seen-remove old new key taken =
      same_seen (seen new) (finite.remove (seen old) key) (λ q.
      get-seen new q
      ∙ taken q
      ∙ ap (λ b. cond b None (lookup (bytes_eq q) old)) (nat_list_eq_equiv.symm key q ∙ sym (tied q key))
      ∙ ap (cond (eq_by_cmp text_cmp q key) None) (sym (get-seen old q))
      ∙ sym (finite.get-remove nat_list_cmp_total (seen old) key q))

  -- a list of no length
  empty_list : (es : Entries X) → length es ≡ 0 → es ≡ []
  empty_list [] none = refl
  empty_list (e ∷ es) none = absurd (omega (arith, none))

  -- one more value, at a key that isn't there
  list_any-put : (p : X → Bool) (key : List ℕ) (value : X) (es : Entries X) → finite.find text_cmp key es ≡ None
      → list_any p (map (λ e. e.1) (put text_cmp key value es)) ≡ (p value || list_any p (map (λ e. e.1) es))
  list_any-put p key value [] none = refl
  list_any-put p key value (e ∷ es) none =
      elim (text_cmp key e.0) as (λ r. cond (is_eq r) (Some e.1) (finite.find text_cmp key es) ≡ None → list_any p (map (λ e. e.1) (by_order r ((key, value) ∷ e ∷ es) ((e.0, value) ∷ es) (e ∷ put text_cmp key value es))) ≡ (p value || (p e.1 || list_any p (map (λ e. e.1) es)))) [
        | Less ↦ λ absent. refl
        | Equal ↦ λ absent. absurd (true≢false (ap is_some absent))
        | Greater ↦ λ absent. ap (λ b. p e.1 || b) (list_any-put p key value es absent) ∙ or_swap (p e.1) (p value) (list_any p (map (λ e. e.1) es))
      ] none

  -- a key that is equal to none of the keys isn't found
  lookup-absent : (key : List ℕ) (es : Entries X) → AllByRecursion (λ k. bytes_eq key k ≡ false) (keys_of es) → lookup (bytes_eq key) es ≡ None
  lookup-absent key [] absent = refl
  lookup-absent key (e ∷ es) absent = ap (λ b. cond b (Some e.1) (lookup (bytes_eq key) es)) absent.0 ∙ lookup-absent key es absent.1

  -- one of the values that are seen passes where one that is kept does
  pub list_any-seen : (p : X → Bool) (es : Entries X) → IsDistinct bytes_eq (keys_of es) → list_any p (finite.values (seen es)) ≡ list_any p (map (λ e. e.1) es)
  unfolding IsDistinct
  list_any-seen p [] distinct = ap (λ (fs : Entries X). list_any p (map (λ e. e.1) fs)) none where
    none : finite.entries (finite.empty {X = X} {R = text_cmp}) ≡ []
    none = empty_list (finite.entries (finite.empty {X = X} {R = text_cmp})) (sym (finite.len-entries (finite.empty {X = X} {R = text_cmp})) ∙ finite.len-empty text_cmp X)
  list_any-seen p (e ∷ es) distinct =
      let absent : finite.find text_cmp e.0 (finite.entries (seen es)) ≡ None =
      sym (finite.get-entries (seen es) e.0) ∙ get-seen es e.0 ∙ lookup-absent e.0 es distinct.0 in
      ap (λ (fs : Entries X). list_any p (map (λ e. e.1) fs)) (finite.entries-insert nat_list_cmp_total (seen es) e.0 e.1)
      ∙ list_any-put p e.0 e.1 (finite.entries (seen es)) absent
      ∙ ap (λ b. p e.1 || b) (list_any-seen p es distinct.1)

  -- no key before this one is equal to it
  apart : (done rest : Entries X) (key earlier : List ℕ) (value : X) → AllByRecursion (λ k. bytes_eq earlier k ≡ false) (keys_of (done ++ (key, value) ∷ rest)) → bytes_eq key earlier ≡ false
  apart [] rest key earlier value all = nat_list_eq_equiv.symm key earlier ∙ all.0
  apart (e ∷ done) rest key earlier value all = apart done rest key earlier value all.1

  -- where keys are distinct, the next entry goes last
  insert_entry-next : (done rest : Entries X) (key : List ℕ) (value : X) → IsDistinct bytes_eq (keys_of (done ++ (key, value) ∷ rest))
      → insert_entry bytes_eq done key value ≡ done ++ (key, value) ∷ []
  unfolding IsDistinct
  insert_entry-next [] rest key value distinct = refl
  insert_entry-next (e ∷ done) rest key value distinct =
      ap (λ same. cond same ((e.0, value) ∷ done) (e ∷ insert_entry bytes_eq done key value)) (apart done rest key e.0 value distinct.0)
      ∙ ap (λ more. e ∷ more) (insert_entry-next done rest key value distinct.1)

  -- a copy has these entries so far, and these are left
  pub record Copying (all done left : Entries X) : Type 0 where
    pub whole : done ++ left ≡ all
    pub distinct : IsDistinct bytes_eq (keys_of (done ++ left))

  -- one entry more is copied
  pub Copying-more : (all done rest now : Entries X) (key copied : List ℕ) (value same : X) → Copying all done ((key, value) ∷ rest)
      → copied ≡ key → same ≡ value → now ≡ insert_entry bytes_eq done copied same → Copying all now rest
  Copying-more all done rest now key copied value same before equal_key equal_value inserted =
      let last : now ≡ done ++ (key, value) ∷ [] =
      inserted ∙ (λ i. insert_entry bytes_eq done (equal_key i) (equal_value i)) ∙ insert_entry-next done rest key value before.distinct in
      let together : now ++ rest ≡ done ++ (key, value) ∷ rest = ap (λ es. es ++ rest) last ∙ append_assoc done ((key, value) ∷ []) rest in
      record {
        whole = together ∙ before.whole;
        distinct = subst (λ es. IsDistinct bytes_eq (keys_of es)) (sym together) before.distinct;
      }

-- A link that is created has `to`.
use Rattle.std.proofs.Common.{◌≡◌, ◌⊎◌, inl, inr, ℕ, suc, Bool, true, false, cond, not, ◌||◌, ◌&&◌, List, [], ◌∷◌, ◌++◌, map, length, slice_get, Option, Some, None, option_map, option_and_then, unwrap_or, is_some, Result, Ok, refl, sym, ap, subst, ◌∙◌, bytes_eq, codes, append_assoc}
use Rattle.std.specs.Cmp.Lexicographic.{bytes_decides, nat_list_eq_equiv}
use Rattle.std.specs.List.{AllByRecursion, find, filter, filter_map, list_all, list_any}
use Rattle.std.specs.Option.{option_or}
use Rattle.std.proofs.lemmas.Bool.{and_from, false≢true}
use Rattle.std.proofs.lemmas.List.{append-nil, map-append}
use Rattle.std.proofs.lemmas.List.Folds.{list_any-append}
use Rattle.doc_tree.specs.Doc.{Doc, null, boolean, whole, words, list, dict, docs_list, Pairs}
use Rattle.doc_tree.specs.Part.{pair_at}
use Rattle.resource_core.specs.Drafts.{Given, acting, attributed, creates, draft, drafts, is_notified, place_of, placed, titles, typed, unless, valued}
use Rattle.resource_core.specs.Entries.{created, created_by, entries_of, entry_of, is_to_create, stated_in}
use Rattle.resource_core.specs.Links.{action_on, fired, fires_of, heard, meant}
use Rattle.resource_core.specs.Outcomes.{each_of, or_fault, then_do}
use Rattle.host_tree.specs.Paths.{is_normal}
use Rattle.resource_core.specs.Plans.{all_resources, given, has_own_to, is_linked, needs_to}
use Rattle.resource_core.specs.Plans as plans
use Rattle.resource_core.specs.Resources.{actions_in, are_known, entries_at, name_at, path_of, resource, title, title_of, type_in, words_at}
use Rattle.resource_core.specs.Settling.{IsResolved}
use Rattle.resource_core.specs.Templates.{attribute_first, attribute_text, filled, filled_if, is_formed, missing_of, pieces_of, stated, stated_of, text_first, words_of}
use Rattle.resource_core.specs.Types.{Property, action_in, is_create, optional, properties, row, word_of}
use Rattle.resource_core.specs.declared.types.Form.TheVariants as form
use Rattle.resource_core.specs.declared.types.Presence.TheVariants.{Needed, NeededToCreate}
use Rattle.resource_core.specs.Values.{first_bad, first_missing, fits, is_needed, missing_in}
use Rattle.resource_core.specs.declared.entries.Entry.{Entry}
use Rattle.resource_core.specs.declared.fault.CompileFault.{CompileFault}
use Rattle.resource_core.specs.declared.fault.CompileFault.TheVariants as fault
use Rattle.resource_core.specs.declared.resources.Resource.{Resource}
use Rattle.resource_core.specs.declared.templates.Piece.{Piece}
use Rattle.resource_core.specs.declared.templates.Piece.TheVariants.{Plain, Attribute}
use Rattle.resource_core.specs.declared.templates.Stated.{Stated}
use Rattle.resource_core.specs.declared.templates.Stated.TheVariants as said
use Rattle.resource_core.specs.declared.types.Action.{Action}
use Rattle.resource_core.specs.declared.types.Action.TheVariants.{Create, CreateIfMissing, Delete, Nothing}
use Rattle.resource_core.specs.declared.links.Heard.{Heard}
use Rattle.resource_core.specs.declared.links.Notification.{Notification}
use Rattle.resource_core.specs.declared.types.ResourceType.{ResourceType}
use Rattle.resource_core.specs.declared.types.ResourceType.TheVariants.{File, Directory, Link}
use Rattle.resource_core.proofs.PlanLemmas.{EachSo, fires_all, resolved_fires, same_ok, then_ok}
use Rattle.resource_core.proofs.SoundLemmas.{if_ok}

-- properties of the table
abbrev the_name : Property
the_name = record { name = codes "name"; form = form.Words; presence = Needed }

abbrev the_notifies : Property
the_notifies = optional (codes "notifies") form.Entries

abbrev the_subscribes : Property
the_subscribes = optional (codes "subscribes") form.Entries

abbrev the_target : Property
the_target = optional (codes "target_file") form.Words

abbrev the_to : Property
the_to = record { name = codes "to"; form = form.Words; presence = NeededToCreate }

abbrev the_link_type : Property
the_link_type = optional (codes "link_type") form.Symbolic

-- something is stated
is_there : Stated → Bool
is_there said.NotThere = false
is_there said.Malformed = true
is_there (said.Missing path) = true
is_there (said.Words text) = true

there_first : (text : List ℕ) (s : Stated) → is_there s ≡ true → is_there (text_first text s) ≡ true
unfolding is_there
there_first text said.NotThere h = h
there_first text said.Malformed h = refl
there_first text (said.Missing path) h = refl
there_first text (said.Words more) h = refl

filled_there : (attributes : Doc) (pieces : List Piece) → is_there (filled attributes pieces) ≡ true
unfolding is_there
filled_there attributes [] = refl
filled_there attributes (Plain text ∷ pieces) = there_first text (filled attributes pieces) (filled_there attributes pieces)
filled_there attributes (Attribute path ∷ pieces) = at (attribute_text attributes path) (filled_there attributes pieces)
  where
    at : (found : Option (List ℕ)) → is_there (filled attributes pieces) ≡ true → is_there (attribute_first path found (filled attributes pieces)) ≡ true
    at None h = refl
    at (Some text) h = there_first text (filled attributes pieces) h

stated_there : (attributes d : Doc) → is_there (stated_of attributes d) ≡ true
unfolding is_there
stated_there attributes null = refl
stated_there attributes (boolean b) = refl
stated_there attributes (whole z) = refl
stated_there attributes (words text) = pieces (pieces_of text)
  where
    pieces : (found : Option (List Piece)) → is_there (filled_if attributes found) ≡ true
    pieces None = refl
    pieces (Some ps) = filled_there attributes ps
stated_there attributes (list ds) = refl
stated_there attributes (dict ps) = refl

-- what is there, has its form and lacks nothing is a text
is_text : (s : Stated) → is_there s ≡ true → is_formed s ≡ true → missing_of s ≡ None → is_some (words_of s) ≡ true
unfolding is_there
is_text said.NotThere there formed complete = absurd (false≢true there)
is_text said.Malformed there formed complete = absurd (false≢true formed)
is_text (said.Missing path) there formed complete = cc complete
is_text (said.Words text) there formed complete = refl

module _ (attributes : Doc) where
  -- what is needed, fits and lacks nothing is a text
  needed_text : (c : Bool) (p : Property) (found : Option Doc) → is_needed c p.presence ≡ true → (fits attributes c p found ≡ true) → ((d : Doc) → fits attributes c p (Some d) ≡ is_formed (stated_of attributes d)) → missing_of (stated attributes found) ≡ None
      → is_some (words_of (stated attributes found)) ≡ true
  needed_text c p None needed fit shape complete = absurd (false≢true (ap not (sym needed) ∙ fit))
  needed_text c p (Some d) needed fit shape complete = is_text (stated_of attributes d) (stated_there attributes d) (sym (shape d) ∙ fit) complete

  bad_next : (c : Bool) (ps : Pairs) (p : Property) (more : List Property) → first_bad attributes c ps (p ∷ more) ≡ None → (fits attributes c p (pair_at p.name ps) ≡ true) × (first_bad attributes c ps more ≡ None)
  bad_next c ps p more h = by_fit (fits attributes c p (pair_at p.name ps)) refl h
    where
      by_fit : (b : Bool) → fits attributes c p (pair_at p.name ps) ≡ b → cond b (first_bad attributes c ps more) (Some p.name) ≡ None → (fits attributes c p (pair_at p.name ps) ≡ true) × (first_bad attributes c ps more ≡ None)
      by_fit true is k = (is, k)
      by_fit false is k = cc k

  missing_next : (ps : Pairs) (p : Property) (more : List Property) → first_missing attributes ps (p ∷ more) ≡ None → (missing_in attributes p.form (pair_at p.name ps) ≡ None) × (first_missing attributes ps more ≡ None)
  missing_next ps p more h = parts (missing_in attributes p.form (pair_at p.name ps)) (first_missing attributes ps more) h
    where
      parts : (a b : Option (List (List ℕ))) → option_or a b ≡ None → (a ≡ None) × (b ≡ None)
      parts None b k = (refl, k)
      parts (Some x) b k = cc k

  -- a resource whose values fit and lack nothing has a name
  has_name : (kind : ResourceType) (c : Bool) (ps : Pairs) → first_bad attributes c ps (properties kind) ≡ None → first_missing attributes ps (properties kind) ≡ None → is_some (words_at attributes (codes "name") ps) ≡ true
  has_name kind c ps bad missing =
      let rest = the_notifies ∷ the_subscribes ∷ (row kind).properties in
      needed_text c the_name (pair_at (codes "name") ps) refl (bad_next c ps the_name rest bad).0 (λ d. refl) (missing_next ps the_name rest missing).0

  -- and `to` where it creates
  has_to : (kind : ResourceType) (c : Bool) (ps : Pairs) → first_bad attributes c ps (properties kind) ≡ None → first_missing attributes ps (properties kind) ≡ None → c ≡ true → needs_to kind ≡ true
      → is_some (words_at attributes (codes "to") ps) ≡ true
  has_to File c ps bad missing creates needs = absurd (false≢true needs)
  has_to Directory c ps bad missing creates needs = absurd (false≢true needs)
  has_to Link c ps bad missing creates needs =
      let l4 = the_link_type ∷ [] in
      let l3 = the_to ∷ l4 in
      let l2 = the_target ∷ l3 in
      let l1 = the_subscribes ∷ l2 in
      let l0 = the_notifies ∷ l1 in
      let b = bad_next c ps the_to l4 (bad_next c ps the_target l3 (bad_next c ps the_subscribes l2 (bad_next c ps the_notifies l1 (bad_next c ps the_name l0 bad).1).1).1).1 in
      let m = missing_next ps the_to l4 (missing_next ps the_target l3 (missing_next ps the_subscribes l2 (missing_next ps the_notifies l1 (missing_next ps the_name l0 missing).1).1).1).1 in
      needed_text c the_to (pair_at (codes "to") ps) creates b.0 (λ d. refl) m.0

or_left : (b c : Bool) → b ≡ true → (b || c) ≡ true
or_left b c h = rw h refl

or_right : (b c : Bool) → c ≡ true → (b || c) ≡ true
or_right true c h = refl
or_right false c h = h

some_is : {A : Type 0} {x y : A} → Some x ≡ Some y → x ≡ y
some_is h = cc h

-- what is made of each is what is made of those of which something is
each_listed : (ds : List Doc) (es : List Entry) → each_of entry_of ds ≡ Some es → filter_map entry_of ds ≡ es
each_listed [] es h = some_is h
each_listed (d ∷ ds) es h = first (λ xs k. each_listed ds xs k) (entry_of d) refl h
  where
    rest : (e : Entry) → entry_of d ≡ Some e → (later : Option (List Entry)) → ((xs : List Entry) → later ≡ Some xs → filter_map entry_of ds ≡ xs) → option_map (λ xs. e ∷ xs) later ≡ Some es → filter_map entry_of (d ∷ ds) ≡ es
    rest e is None so k = cc k
    rest e is (Some xs) so k = let same = so xs refl in rw is (ap (λ ys. e ∷ ys) same ∙ some_is k)

    first : ((xs : List Entry) → each_of entry_of ds ≡ Some xs → filter_map entry_of ds ≡ xs) → (found : Option Entry) → entry_of d ≡ found
        → option_and_then (λ e. option_map (λ xs. e ∷ xs) (each_of entry_of ds)) found ≡ Some es → filter_map entry_of (d ∷ ds) ≡ es
    first so None is k = cc k
    first so (Some e) is k = rest e is (each_of entry_of ds) so k

-- the entries that are kept are those that are stated, or none
entries_stated : (found : Option Doc) → (unwrap_or (option_and_then entries_of found) [] ≡ stated_in found) ⊎ (unwrap_or (option_and_then entries_of found) [] ≡ [])
entries_stated None = inr refl
entries_stated (Some null) = inr refl
entries_stated (Some (boolean b)) = inr refl
entries_stated (Some (whole z)) = inr refl
entries_stated (Some (words text)) = inr refl
entries_stated (Some (list ds)) = listed (each_of entry_of (docs_list ds)) refl
  where
    listed : (o : Option (List Entry)) → each_of entry_of (docs_list ds) ≡ o → (unwrap_or o [] ≡ filter_map entry_of (docs_list ds)) ⊎ (unwrap_or o [] ≡ [])
    listed None is = inr refl
    listed (Some es) is = inl (sym (each_listed (docs_list ds) es is))
entries_stated (Some (dict ps)) = inr refl

-- a test that an entry passes is passed by one that is stated
any_stated : (found : Option Doc) → list_any is_to_create (unwrap_or (option_and_then entries_of found) []) ≡ true → list_any is_to_create (stated_in found) ≡ true
any_stated found h = elim (entries_stated found) [
  | inl same ↦ sym (ap (list_any is_to_create) same) ∙ h
  | inr empty ↦ absurd (false≢true (sym (ap (list_any is_to_create) empty) ∙ h))
]

-- an entry that is to create names what is created
each_created : (es : List Entry) → AllByRecursion (λ e. is_to_create e ≡ true → list_any (bytes_eq e.resource) (map (λ (x : Entry). x.resource) (filter is_to_create es)) ≡ true) es
each_created [] = tt
each_created (e ∷ es) = (here (is_to_create e), weaken es (each_created es))
  where
    here : (b : Bool) → b ≡ true → list_any (bytes_eq e.resource) (map (λ (x : Entry). x.resource) (cond b (e ∷ filter is_to_create es) (filter is_to_create es))) ≡ true
    here true h = or_left (bytes_eq e.resource e.resource) (list_any (bytes_eq e.resource) (map (λ (x : Entry). x.resource) (filter is_to_create es))) (nat_list_eq_equiv.refl e.resource)
    here false h = absurd (false≢true h)

    more : (text : List ℕ) (b : Bool) → list_any (bytes_eq text) (map (λ (x : Entry). x.resource) (filter is_to_create es)) ≡ true → list_any (bytes_eq text) (map (λ (x : Entry). x.resource) (cond b (e ∷ filter is_to_create es) (filter is_to_create es))) ≡ true
    more text true h = or_right (bytes_eq text e.resource) (list_any (bytes_eq text) (map (λ (x : Entry). x.resource) (filter is_to_create es))) h
    more text false h = h

    weaken : (xs : List Entry) → AllByRecursion (λ x. is_to_create x ≡ true → list_any (bytes_eq x.resource) (map (λ (y : Entry). y.resource) (filter is_to_create es)) ≡ true) xs
        → AllByRecursion (λ x. is_to_create x ≡ true → list_any (bytes_eq x.resource) (map (λ (y : Entry). y.resource) (filter is_to_create (e ∷ es))) ≡ true) xs
    weaken [] all = tt
    weaken (x ∷ xs) all = ((λ k. more x.resource (is_to_create e) (all.0 k)), weaken xs all.1)

-- a resource behind others: it has `to` wherever it is to create, and what it is to create by `notifies` is created
pub record Drawn (g : Given) (made : List Resource) (r : Resource) : Type 0 where
  pub own : list_any is_create r.actions ≡ true → needs_to r.kind ≡ true → is_some r.to ≡ true
  pub hears : list_any is_to_create r.subscribes ≡ true → needs_to r.kind ≡ true → is_some r.to ≡ true
  pub notified : g.is_created (title_of r) ≡ true → list_any (bytes_eq (title_of r)) (titles made) ≡ false → needs_to r.kind ≡ true → is_some r.to ≡ true
  pub creates_all : AllByRecursion (λ e. is_to_create e ≡ true → g.is_created e.resource ≡ true) r.notifies

-- no path is missing, and no value is bad
none_of : {X A : Type 0} (make : X → CompileFault) (found : Option X) (next : Result A CompileFault) (x : A) → unless make found next ≡ Ok x → (found ≡ None) × (next ≡ Ok x)
none_of make None next x h = (refl, h)
none_of make (Some y) next x h = cc h

named_title : (kind : ResourceType) (found : Option (List ℕ)) → is_some found ≡ true → option_map (title kind) found ≡ Some (title kind (unwrap_or found []))
named_title kind None h = cc h
named_title kind (Some name) h = refl

drawn : (g : Given) (made : List Resource) (ps : Pairs) (r : Resource) → ((text : List ℕ) → list_any (bytes_eq text) (created_by ps) ≡ true → g.is_created text ≡ true) → draft g made ps ≡ Ok r → Drawn g made r
drawn g made ps r among h =
    let kind = then_ok (or_fault (fault.UnknownType (length made)) (type_in ps)) (typed g made ps) r h in
    let actions = then_ok (or_fault (fault.UnknownAction (length made)) (actions_in kind.0 (pair_at (codes "action") ps))) (acting g made kind.0 ps) r kind.2 in
    let value = if_ok (are_known kind.0 ps) (fault.UnknownProperty (length made)) (valued g made kind.0 actions.0 ps) r actions.2 in
    let c = creates g made kind.0 actions.0 ps in
    let bad = none_of (fault.BadValue (length made)) (first_bad g.attributes c ps (properties kind.0)) (attributed g made kind.0 actions.0 ps) r value in
    let missing = none_of (fault.MissingAttribute (length made)) (first_missing g.attributes ps (properties kind.0)) (placed g made kind.0 actions.0 ps) r bad.1 in
    let last = if_ok (is_normal (path_of g.attributes kind.0 ps)) (fault.PathNotNormal (length made)) (Ok (resource g.attributes kind.0 actions.0 ps)) r missing.1 in
    subst (Drawn g made) (same_ok last) (made_so kind.0 actions.0 bad.0 missing.0)
  where
    made_so : (kind : ResourceType) (actions : List Action) → first_bad g.attributes (creates g made kind actions ps) ps (properties kind) ≡ None → first_missing g.attributes ps (properties kind) ≡ None → Drawn g made (resource g.attributes kind actions ps)
    made_so kind actions bad missing = record {
      own = λ k needs. has_to g.attributes kind (creates g made kind actions ps) ps bad missing (or_left (list_any is_create actions) _ k) needs;
      hears = λ k needs. has_to g.attributes kind (creates g made kind actions ps) ps bad missing
          (or_right (list_any is_create actions) _ (or_left (list_any is_to_create (stated_in (pair_at (codes "subscribes") ps))) _ (any_stated (pair_at (codes "subscribes") ps) k))) needs;
      notified = λ k new needs. has_to g.attributes kind (creates g made kind actions ps) ps bad missing
          (or_right (list_any is_create actions) _ (or_right (list_any is_to_create (stated_in (pair_at (codes "subscribes") ps))) _
          (ap (is_notified g.is_created (titles made)) (named_title kind (words_at g.attributes (codes "name") ps) (has_name g.attributes kind (creates g made kind actions ps) ps bad missing))
          ∙ and_from (g.is_created (title kind (name_at g.attributes ps))) (not (list_any (bytes_eq (title kind (name_at g.attributes ps))) (titles made))) k (ap not new)))) needs;
      creates_all = by_entries (entries_stated (pair_at (codes "notifies") ps));
    }
      where
        all_created : (es : List Entry) → AllByRecursion (λ e. is_to_create e ≡ true → list_any (bytes_eq e.resource) (created_by ps) ≡ true) es → AllByRecursion (λ e. is_to_create e ≡ true → g.is_created e.resource ≡ true) es
        all_created [] all = tt
        all_created (e ∷ es) all = ((λ k. among e.resource (all.0 k)), all_created es all.1)

        by_entries : (entries_at (codes "notifies") ps ≡ stated_in (pair_at (codes "notifies") ps)) ⊎ (entries_at (codes "notifies") ps ≡ []) → AllByRecursion (λ e. is_to_create e ≡ true → g.is_created e.resource ≡ true) (entries_at (codes "notifies") ps)
        by_entries (inl same) = subst (AllByRecursion (λ e. is_to_create e ≡ true → g.is_created e.resource ≡ true)) (sym same) (all_created (stated_in (pair_at (codes "notifies") ps)) (each_created (stated_in (pair_at (codes "notifies") ps))))
        by_entries (inr empty) = subst (AllByRecursion (λ e. is_to_create e ≡ true → g.is_created e.resource ≡ true)) (sym empty) tt

-- each of these resources, behind those before it
abbrev pub AllDrawn : Given → List Resource → List Resource → Type 0
AllDrawn g made [] = Unit {0}
AllDrawn g made (r ∷ rs) = Drawn g made r × AllDrawn g (made ++ r ∷ []) rs

drafts_drawn : (g : Given) (all : List Pairs) (made rs : List Resource) → ((text : List ℕ) → list_any (bytes_eq text) (created all) ≡ true → g.is_created text ≡ true) → drafts g all made ≡ Ok rs → (news : List Resource) × (rs ≡ made ++ news) × AllDrawn g made news
drafts_drawn g [] made rs among h = ([], sym (same_ok h) ∙ sym (append-nil made), tt)
drafts_drawn g (ps ∷ all) made rs among h =
    let one = then_ok (draft g made ps) (λ r. drafts g all (made ++ r ∷ [])) rs h in
    let rest = drafts_drawn g all (made ++ one.0 ∷ []) rs (λ text k. among text (list_any-append (bytes_eq text) (created_by ps) (created all) ∙ or_right (list_any (bytes_eq text) (created_by ps)) (list_any (bytes_eq text) (created all)) k)) one.2 in (
      one.0 ∷ rest.0,
      rest.1 ∙ append_assoc made (one.0 ∷ []) rest.0,
      (drawn g made ps one.0 (λ text k. among text (list_any-append (bytes_eq text) (created_by ps) (created all) ∙ or_left (list_any (bytes_eq text) (created_by ps)) (list_any (bytes_eq text) (created all)) k)) one.1, rest.2),
    )

-- the resource that a created title means has `to`
meant_to : (g : Given) (made news : List Resource) (text : List ℕ) (t : ℕ) (r : Resource) → AllDrawn g made news → list_any (bytes_eq text) (titles made) ≡ false → place_of text (titles news) ≡ Some t → slice_get news t ≡ Some r
    → g.is_created text ≡ true → needs_to r.kind ≡ true → is_some r.to ≡ true
meant_to g made [] text t r all new place is created needs = cc place
meant_to g made (x ∷ news) text t r all new place is created needs =
    by_title (λ i k s. meant_to g (made ++ x ∷ []) news text i r all.1 s k) (bytes_eq text (title_of x)) refl place
  where
    not_among : bytes_eq text (title_of x) ≡ false → list_any (bytes_eq text) (titles (made ++ x ∷ [])) ≡ false
    not_among other = ap (list_any (bytes_eq text)) (map-append title_of made (x ∷ [])) ∙ list_any-append (bytes_eq text) (titles made) (title_of x ∷ []) ∙ rw (new, other) refl

    later : ((i : ℕ) → place_of text (titles news) ≡ Some i → list_any (bytes_eq text) (titles (made ++ x ∷ [])) ≡ false → slice_get news i ≡ Some r → g.is_created text ≡ true → needs_to r.kind ≡ true → is_some r.to ≡ true)
        → bytes_eq text (title_of x) ≡ false → (found : Option ℕ) → place_of text (titles news) ≡ found → option_map (λ place. suc place) found ≡ Some t → is_some r.to ≡ true
    later ih other None at k = cc k
    later ih other (Some i) at k =
        let same : suc i ≡ t = some_is k in
        ih i at (not_among other) (subst (λ j. slice_get (x ∷ news) j ≡ Some r) (sym same) is) created needs

    by_title : ((i : ℕ) → place_of text (titles news) ≡ Some i → list_any (bytes_eq text) (titles (made ++ x ∷ [])) ≡ false → slice_get news i ≡ Some r → g.is_created text ≡ true → needs_to r.kind ≡ true → is_some r.to ≡ true)
        → (b : Bool) → bytes_eq text (title_of x) ≡ b → cond b (Some 0) (option_map (λ place. suc place) (place_of text (titles news))) ≡ Some t → is_some r.to ≡ true
    by_title ih false other k = later ih other (place_of text (titles news)) refl k
    by_title ih true same k =
        let zero_is : 0 ≡ t = some_is k in
        let here : x ≡ r = some_is (subst (λ j. slice_get (x ∷ news) j ≡ Some r) (sym zero_is) is) in
        let own : text ≡ title_of x = (bytes_decides text (title_of x)).0 same in
        let x_needs : needs_to x.kind ≡ true = subst (λ (y : Resource). needs_to y.kind ≡ true) (sym here) needs in
        subst (λ (y : Resource). is_some y.to ≡ true) here
        (all.0.notified (subst (λ o. g.is_created o ≡ true) own created) (subst (λ o. list_any (bytes_eq o) (titles made) ≡ false) own new) x_needs)

implied : (a b c : Bool) → (a ≡ true → b ≡ true → c ≡ true) → (not (a && b) || c) ≡ true
implied true true c h = h refl refl
implied true false c h = refl
implied false b c h = refl

-- an action that is `create` is so named
find_passes : (test : Action → Bool) (all : List Action) (a : Action) → find test all ≡ Some a → test a ≡ true
find_passes test [] a h = cc h
find_passes test (x ∷ all) a h = by_test (λ k. find_passes test all a k) (test x) refl h
  where
    by_test : (find test all ≡ Some a → test a ≡ true) → (b : Bool) → test x ≡ b → cond b (Some x) (find test all) ≡ Some a → test a ≡ true
    by_test later true is k = subst (λ y. test y ≡ true) (some_is k) is
    by_test later false is k = later k

create_named : (kind : ResourceType) (e : Entry) (a : Action) → action_in kind e.action ≡ Some a → is_create a ≡ true → is_to_create e ≡ true
create_named kind e Create h c = nat_list_eq_equiv.symm e.action (codes "create") ∙ find_passes (λ action. bytes_eq (word_of action) e.action) (row kind).actions Create h
create_named kind e CreateIfMissing h c = absurd (false≢true c)
create_named kind e Delete h c = absurd (false≢true c)
create_named kind e Nothing h c = absurd (false≢true c)

-- one of these passes where an entry of them does
any_members : (es : List Entry) → AllByRecursion (λ e. is_to_create e ≡ true → list_any is_to_create es ≡ true) es
any_members [] = tt
any_members (e ∷ es) = ((λ k. or_left (is_to_create e) (list_any is_to_create es) k), weaken es (any_members es))
  where
    weaken : (xs : List Entry) → AllByRecursion (λ x. is_to_create x ≡ true → list_any is_to_create es ≡ true) xs → AllByRecursion (λ x. is_to_create x ≡ true → list_any is_to_create (e ∷ es) ≡ true) xs
    weaken [] all = tt
    weaken (x ∷ xs) all = ((λ k. or_right (is_to_create e) (list_any is_to_create es) (all.0 k)), weaken xs all.1)

get_at : (made : List Resource) (r : Resource) (rs : List Resource) → slice_get (made ++ r ∷ rs) (length made) ≡ Some r
get_at [] r rs = refl
get_at (x ∷ made) r rs = get_at made r rs

own_to : (g : Given) (made rs : List Resource) → AllDrawn g made rs → list_all has_own_to rs ≡ true
own_to g made [] all = refl
own_to g made (r ∷ rs) all = and_from (has_own_to r) (list_all has_own_to rs) (implied (list_any is_create r.actions) (needs_to r.kind) (is_some r.to) all.0.own) (own_to g (made ++ r ∷ []) rs all.1)

module _ (g : Given) (all : List Resource) (drawn_all : AllDrawn g [] all) where
  -- an action on a place, where the resource there has `to` if it is to be created
  action_linked : (e : Entry) (place : ℕ) (n : Notification) → ((r : Resource) → slice_get all place ≡ Some r → is_to_create e ≡ true → needs_to r.kind ≡ true → is_some r.to ≡ true) → action_on all e place ≡ Some n → is_linked all n ≡ true
  action_linked e place n so h = at_place (slice_get all place) refl h
    where
      named : (r : Resource) (found : Option Action) → slice_get all place ≡ Some r → action_in r.kind e.action ≡ found
          → option_map (λ action. (let m : Notification = record { action = action; target = place; timer = e.timer } in m)) found ≡ Some n → is_linked all n ≡ true
      named r None is names k = cc k
      named r (Some action) is names k =
          subst (λ (m : Notification). is_linked all m ≡ true) (some_is k)
          (ap (plans.has_to action) is ∙ implied (is_create action) (needs_to r.kind) (is_some r.to) (λ c needs. so r is (create_named r.kind e action names c) needs))

      at_place : (found : Option Resource) → slice_get all place ≡ found
          → option_and_then (λ (r : Resource). option_map (λ action. (let m : Notification = record { action = action; target = place; timer = e.timer } in m)) (action_in r.kind e.action)) found ≡ Some n → is_linked all n ≡ true
      at_place None is k = cc k
      at_place (Some r) is k = named r (action_in r.kind e.action) is refl k

  fired_linked : (e : Entry) (n : Notification) → (is_to_create e ≡ true → g.is_created e.resource ≡ true) → fired all e ≡ Some n → is_linked all n ≡ true
  fired_linked e n created_if h = by_place (meant all e.resource) refl h
    where
      by_place : (found : Option ℕ) → meant all e.resource ≡ found → option_and_then (action_on all e) found ≡ Some n → is_linked all n ≡ true
      by_place None is k = cc k
      by_place (Some place) is k = action_linked e place n (λ r at c needs. meant_to g [] all e.resource place r drawn_all refl is at (created_if c) needs) k

  heard_linked : (place : ℕ) (r : Resource) (e : Entry) (x : Heard) → slice_get all place ≡ Some r → (is_to_create e ≡ true → needs_to r.kind ≡ true → is_some r.to ≡ true) → heard all place e ≡ Some x → is_linked all x.fire ≡ true
  heard_linked place r e x here so h = by_place (meant all e.resource) h
    where
      same_so : (s : Resource) → slice_get all place ≡ Some s → is_to_create e ≡ true → needs_to s.kind ≡ true → is_some s.to ≡ true
      same_so s at c needs =
          let same : r ≡ s = some_is (sym here ∙ at) in
          subst (λ (y : Resource). is_some y.to ≡ true) same (so c (subst (λ (y : Resource). needs_to y.kind ≡ true) (sym same) needs))

      made : (by : ℕ) (found : Option Notification) → action_on all e place ≡ found → option_map (λ fire. (let y : Heard = record { by = by; fire = fire } in y)) found ≡ Some x → is_linked all x.fire ≡ true
      made by None is k = cc k
      made by (Some fire) is k = subst (λ (y : Heard). is_linked all y.fire ≡ true) (some_is k) (action_linked e place fire same_so is)

      by_place : (found : Option ℕ) → option_and_then (λ by. option_map (λ fire. (let y : Heard = record { by = by; fire = fire } in y)) (action_on all e place)) found ≡ Some x → is_linked all x.fire ≡ true
      by_place None k = cc k
      by_place (Some by) k = made by (action_on all e place) refl k

  each_fired_linked : (es : List Entry) → AllByRecursion (λ e. is_to_create e ≡ true → g.is_created e.resource ≡ true) es → AllByRecursion (λ e. (n : Notification) → fired all e ≡ Some n → is_linked all n ≡ true) es
  each_fired_linked [] so = tt
  each_fired_linked (e ∷ es) so = ((λ n h. fired_linked e n so.0 h), each_fired_linked es so.1)

  each_heard_linked : (place : ℕ) (r : Resource) → slice_get all place ≡ Some r → (list_any is_to_create r.subscribes ≡ true → needs_to r.kind ≡ true → is_some r.to ≡ true) → (es : List Entry)
      → AllByRecursion (λ e. is_to_create e ≡ true → list_any is_to_create r.subscribes ≡ true) es → AllByRecursion (λ e. (x : Heard) → heard all place e ≡ Some x → is_linked all x.fire ≡ true) es
  each_heard_linked place r here so [] any = tt
  each_heard_linked place r here so (e ∷ es) any = ((λ x h. heard_linked place r e x here (λ c needs. so (any.0 c) needs) h), each_heard_linked place r here so es any.1)

  each_linked : (made rs : List Resource) → all ≡ made ++ rs → AllDrawn g made rs → EachSo all (is_linked all) (length made) rs
  each_linked made [] same_all so = tt
  each_linked made (r ∷ rs) same_all so =
      let here : slice_get all (length made) ≡ Some r = ap (λ (xs : List Resource). slice_get xs (length made)) same_all ∙ get_at made r rs in
      let longer : length (made ++ r ∷ []) ≡ suc (length made) = one_more made in (
        each_fired_linked r.notifies so.0.creates_all,
        each_heard_linked (length made) r here so.0.hears r.subscribes (any_members r.subscribes),
        subst (λ n. EachSo all (is_linked all) n rs) longer (each_linked (made ++ r ∷ []) rs (same_all ∙ sym (append_assoc made (r ∷ []) rs)) so.1),
      )
    where
      one_more : (xs : List Resource) → length (xs ++ r ∷ []) ≡ suc (length xs)
      one_more [] = refl
      one_more (x ∷ xs) = cc (one_more xs)

-- what was resolved is drawn
resolved_drawn : (rs : List Resource) (fires : List (List Notification)) (r : IsResolved rs fires) → AllDrawn (given r.recipes r.attributes) [] rs
resolved_drawn rs fires r =
    let g = given r.recipes r.attributes in
    let drafted = then_ok (drafts g (all_resources r.recipes) []) (λ all. then_do (fires_of all) (λ fires. Ok (all, fires))) (rs, fires) r.resolves in
    let linked = then_ok (fires_of drafted.0) (λ fires. Ok (drafted.0, fires)) (rs, fires) drafted.2 in
    let d = drafts_drawn g (all_resources r.recipes) [] drafted.0 (λ text k. k) drafted.1 in
    subst (AllDrawn g []) (sym d.1 ∙ ap (λ (p : List Resource × List (List Notification)). p.0) (same_ok linked.2)) d.2

pub own_links_sound : (rs : List Resource) (fires : List (List Notification)) → IsResolved rs fires → list_all has_own_to rs ≡ true
own_links_sound rs fires r = own_to (given r.recipes r.attributes) [] rs (resolved_drawn rs fires r)

pub notified_links_sound : (rs : List Resource) (fires : List (List Notification)) → IsResolved rs fires → list_all (list_all (is_linked rs)) fires ≡ true
notified_links_sound rs fires r =
    let all = resolved_drawn rs fires r in
    (fires_all rs (is_linked rs) fires (each_linked (given r.recipes r.attributes) rs all [] rs refl all) (resolved_fires rs fires r)).0

-- What was read of a Dict that is known stands in the order of its keys.
use Rattle.std.proofs.Common.{◌≡◌, ℕ, List, [], map, Option, None, Some, option_and_then, option_map, codes, refl, sym, ap, subst, ◌∙◌}
use Rattle.std.specs.List.Sorted.{IsStrictlySortedBy}
use Rattle.doc_tree.specs.Doc.{Doc, Pairs, pairs_of}
use Rattle.doc_tree.specs.Name.{is_name}
use Rattle.doc_tree.specs.Part.{pair_at}
use Rattle.doc_tree.specs.Valid.{InOrder, IsDoc}
use Rattle.version_rules.specs.Terms.{Terms}
use Rattle.version_rules.specs.declared.needs.Need.{Need}
use Rattle.version_rules.specs.declared.versions.Version.{Version}
use Rattle.run_lists.specs.ByName.{dict_of, kept_if, named_run_list, named_run_lists}
use Rattle.run_lists.specs.Reading.{each_of}
use Rattle.run_lists.specs.declared.by_name.NamedRunList.{NamedRunList}
use Rattle.run_lists.specs.declared.reading.Allowed.{Allowed}
use Rattle.run_lists.proofs.EachLemmas.{kept_found, map_found, same_some, then_found}
use Rattle.run_lists.proofs.OrderLemmas.{named_told, order_of}
use Rattle.policy_locks.specs.Parts.{constraint_of, cookbook_lock, cookbook_locks, locked_at, identifier_of, need_of, needs_of, read_or, version_of}
use Rattle.policy_locks.specs.declared.lock.CookbookLock.{CookbookLock}

-- ---- each is named by its key

locked_told : (name : List ℕ) (ps : Pairs) (lock : CookbookLock) → locked_at name ps ≡ Some lock → lock.name ≡ name
locked_told name ps lock is =
    let version = then_found (option_and_then version_of (pair_at (codes "version") ps)) (λ (version : Version). option_map (λ (identifier : List ℕ). record { name = name; version = version; identifier = identifier }) (option_and_then identifier_of (pair_at (codes "identifier") ps))) lock is in
    let identifier = map_found (option_and_then identifier_of (pair_at (codes "identifier") ps)) (λ (identifier : List ℕ). record { name = name; version = version.0; identifier = identifier }) lock version.2 in
    ap (λ (l : CookbookLock). l.name) (sym identifier.2)

cookbook_told : (pair : List ℕ × Doc) (lock : CookbookLock) → cookbook_lock pair ≡ Some lock → lock.name ≡ pair.0
cookbook_told pair lock is =
    let name = then_found (kept_if is_name pair.0) (λ name. option_and_then (λ (ps : List (List ℕ × Doc)). locked_at name (pairs_of ps)) (dict_of pair.1)) lock is in
    let found = then_found (dict_of pair.1) (λ (ps : List (List ℕ × Doc)). locked_at name.0 (pairs_of ps)) lock name.2 in
    locked_told name.0 (pairs_of found.0) lock found.2 ∙ sym (kept_found is_name pair.0 name.0 name.1).1

need_told : (pair : List ℕ × Doc) (need : Need) → need_of pair ≡ Some need → need.name ≡ pair.0
need_told pair need is =
    let name = then_found (kept_if is_name pair.0) (λ name. option_map (λ (constraint : Terms). record { name = name; constraint = constraint }) (constraint_of pair.1)) need is in
    let constraint = map_found (constraint_of pair.1) (λ (constraint : Terms). record { name = name.0; constraint = constraint }) need name.2 in
    ap (λ (n : Need). n.name) (sym constraint.2) ∙ sym (kept_found is_name pair.0 name.0 name.1).1

-- ---- the order

none_in_order : InOrder []
unfolding IsStrictlySortedBy
none_in_order = tt

pub order_found : {A : Type 0} (make : List ℕ × Doc → Option A) (name : A → List ℕ) → ((pair : List ℕ × Doc) (x : A) → make pair ≡ Some x → name x ≡ pair.0) → (found : Option Doc) (xs : List A) → ((d : Doc) → found ≡ Some d → IsDoc d)
    → read_or [] (λ d. option_and_then (each_of make) (dict_of d)) found ≡ Some xs → InOrder (map name xs)
order_found make name told None xs known is = subst (λ ys. InOrder (map name ys)) (same_some [] xs is) none_in_order
order_found make name told (Some d) xs known is = order_of make name told d xs (known d refl) is

pub lists_order : (allowed : Allowed) (found : Option Doc) (lists : List NamedRunList) → ((d : Doc) → found ≡ Some d → IsDoc d) → read_or [] (named_run_lists allowed) found ≡ Some lists → InOrder (map (λ (n : NamedRunList). n.name) lists)
lists_order allowed found lists known is = order_found (named_run_list allowed) (λ (n : NamedRunList). n.name) (named_told allowed) found lists known is

pub cookbooks_order : (d : Doc) (locks : List CookbookLock) → IsDoc d → cookbook_locks d ≡ Some locks → InOrder (map (λ (l : CookbookLock). l.name) locks)
cookbooks_order d locks known is = order_of cookbook_lock (λ (l : CookbookLock). l.name) cookbook_told d locks known is

pub needs_order : (found : Option Doc) (needs : List Need) → ((d : Doc) → found ≡ Some d → IsDoc d) → read_or [] needs_of found ≡ Some needs → InOrder (map (λ (n : Need). n.name) needs)
needs_order found needs known is = order_found need_of (λ (n : Need). n.name) need_told found needs known is

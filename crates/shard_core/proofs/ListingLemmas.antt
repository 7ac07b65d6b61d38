-- Which names a listing has: those that each shard adds, which are those of the organisations that are there.
use Rattle.std.proofs.Common.{◌≡◌, ℕ, ◌+◌, ◌==◌, nat_lt, List, [], ◌∷◌, length, Bool, true, false, cond, ◌||◌, ◌&&◌, is_some, Some, Result, Ok, Err, IfOk, bytes_eq, nat_cmp, BTreeSet, refl, sym, ap, ◌∙◌, inl, inr, ◌⊎◌, arith, eqb→eq, subst}
use Rattle.std.proofs.Math.Dec.{T}
use Rattle.std.specs.List.{list_any, IsDistinct, AllByRecursion, slice_get}
use Rattle.std.specs.List.Sorted.{IsStrictlySortedBy}
use Rattle.std.specs.Option.{option_map_or}
use Rattle.std.specs.BTreeMap.{is_at}
use Rattle.std.specs.Cmp.Lexicographic.{slice_cmp, bytes_decides}
use Rattle.std.specs.Map.{keys_of, lookup}
use Rattle.doc_tree.specs.Text.{text_cmp}
use Rattle.doc_tree.proofs.Maps.{eq_by_cmp-text, bytes_eq-symm}
use Rattle.org_requests.specs.declared.replies.Reply.{Reply}
use Rattle.org_core.specs.FullStates.{none}
use Rattle.org_core.specs.States.{Kept, state_in}
use Rattle.org_requests.specs.declared.requests.Request.{Request}
use Rattle.org_requests.specs.Refusals.{out_of_memory}
use Rattle.org_machine.specs.Marks.{mark_of}
use Rattle.org_machine.specs.Alone.{States, steps, lists, is_listing, Lists, listing, IsDue, IsAnsweredBy}
use Rattle.shard_core.specs.declared.shards.Shard.{Shard}
use Rattle.shard_core.specs.Organisations.{state_at}
use Rattle.shard_core.specs.Shards.{states_in, shard_of, site_states}
use Rattle.shard_core.specs.Listing.{has, is_there, belongs, shows, adds}

-- a name that was added to others
pub has-added : (key name other : List ℕ) (before : Bool) → key ≡ name
    → cond (is_at (slice_cmp nat_cmp key) other) true before ≡ (before || bytes_eq other name)
has-added key name other before same =
    ap (λ b. cond b true before) (eq_by_cmp-text key other ∙ ap (λ k. bytes_eq k other) same ∙ bytes_eq-symm name other)
    ∙ either (bytes_eq other name) before
  where
    either : (b c : Bool) → cond b true c ≡ (c || b)
    either true true = refl
    either true false = refl
    either false true = refl
    either false false = refl

-- a name that no entry is kept under is shown by none
shows-none : (number count : ℕ) (name : List ℕ) (entries : List (List ℕ × Kept))
    → AllByRecursion (λ other. bytes_eq name other ≡ false) (keys_of entries) → list_any (shows number count name) entries ≡ false
shows-none number count name [] none = refl
shows-none number count name (e ∷ es) none =
    ap (λ b. (b && (belongs number count name && is_some (state_in e.1))) || list_any (shows number count name) es) none.0
    ∙ shows-none number count name es none.1

-- one entry at most is kept under a name, so the name is shown where it belongs and its organisation is there
pub shows-kept : (number count : ℕ) (name : List ℕ) (entries : List (List ℕ × Kept)) → IsDistinct bytes_eq (keys_of entries)
    → list_any (shows number count name) entries ≡ (belongs number count name && is_some (state_at (lookup (bytes_eq name) entries)))
unfolding IsDistinct
shows-kept number count name [] unique = neither (belongs number count name)
  where
    neither : (b : Bool) → false ≡ (b && false)
    neither true = refl
    neither false = refl
shows-kept number count name (e ∷ es) unique = by_name (bytes_eq name e.0) (λ same. (bytes_decides name e.0).0 same) (shows-kept number count name es unique.1)
  where
    nothing : (b : Bool) → (b || false) ≡ b
    nothing true = refl
    nothing false = refl

    by_name : (b : Bool) → (b ≡ true → name ≡ e.0)
        → list_any (shows number count name) es ≡ (belongs number count name && is_some (state_at (lookup (bytes_eq name) es)))
        → ((b && (belongs number count name && is_some (state_in e.1))) || list_any (shows number count name) es)
        ≡ (belongs number count name && is_some (state_at (cond b (Some e.1) (lookup (bytes_eq name) es))))
    by_name true same later =
        ap (λ r. (belongs number count name && is_some (state_in e.1)) || r)
        (ap (λ n. list_any (shows number count n) es) (same refl) ∙ shows-none number count e.0 es unique.0)
        ∙ nothing (belongs number count name && is_some (state_in e.1))
    by_name false same later = later

-- once no entry is left, the names are those from before and those that the shard adds
pub has-shown : (number count : ℕ) (name : List ℕ) (entries rest : List (List ℕ × Kept)) (before now : Bool)
    → IsDistinct bytes_eq (keys_of entries) → rest ≡ []
    → (now || list_any (shows number count name) rest) ≡ (before || list_any (shows number count name) entries)
    → now ≡ (before || (belongs number count name && is_some (state_at (lookup (bytes_eq name) entries))))
has-shown number count name entries rest before now unique gone so_far =
    sym (nothing now)
    ∙ ap (λ es. now || list_any (shows number count name) es) (sym gone)
    ∙ so_far
    ∙ ap (λ b. before || b) (shows-kept number count name entries unique)
  where
    nothing : (b : Bool) → (b || false) ≡ b
    nothing true = refl
    nothing false = refl

-- a shard more: the names are those of the organisations that belong to a shard up to it
pub has-shard : (shards : List Shard) (number : ℕ) (shard : Shard) (name : List ℕ) (before now : Bool)
    → slice_get shards number ≡ Some shard
    → before ≡ (nat_lt (shard_of name (length shards)) number && is_there (site_states shards) name)
    → now ≡ (before || adds shard number (length shards) name)
    → now ≡ (nat_lt (shard_of name (length shards)) (number + 1) && is_there (site_states shards) name)
has-shard shards number shard name before now there had added =
    let place = shard_of name (length shards) in
    added
    ∙ ap (λ b. b || adds shard number (length shards) name) had
    ∙ one_more (nat_lt place number) (place == number) (is_there (site_states shards) name) (is_there (states_in shard) name)
    (λ same. ap (λ o. is_some (option_map_or (λ s. states_in s name) o none).state) (sym there ∙ ap (slice_get shards) (sym (eqb→eq place number (subst T (sym same) tt)))))
    ∙ ap (λ b. b && is_there (site_states shards) name) (sym (up_to place))
  where
    one_more : (below here all own : Bool) → (here ≡ true → own ≡ all) → ((below && all) || (here && own)) ≡ ((below || here) && all)
    one_more true true true own same = refl
    one_more true true false own same = same refl
    one_more true false true own same = refl
    one_more true false false own same = refl
    one_more false true all own same = same refl
    one_more false false all own same = refl

    up_to : (place : ℕ) → nat_lt place (number + 1) ≡ (nat_lt place number || (place == number))
    up_to place = grind arith

-- the listing of the names of a set, in their order, lists the organisations whose names these are
pub lists-all : {E : Type 0} (result : Result Reply E) (states : States) (names : BTreeSet (List ℕ)) (list : List (List ℕ))
    → ((name : List ℕ) → has names name ≡ is_there states name)
    → list ≡ names.keys
    → IsStrictlySortedBy text_cmp list
    → IfOk result (λ reply. reply ≡ listing list)
    → IfOk result (λ reply. Lists states reply)
lists-all (Err e) states names list has_all same sorted told = tt
lists-all (Ok reply) states names list has_all same sorted told = record {
  names = list;
  sorted = sorted;
  there = λ name. ap (list_any (bytes_eq name)) same ∙ by_bytes name names.keys ∙ has_all name;
  told = told;
}
  where
    by_bytes : (name : List ℕ) (keys : List (List ℕ)) → list_any (bytes_eq name) keys ≡ list_any (is_at (slice_cmp nat_cmp name)) keys
    by_bytes name [] = refl
    by_bytes name (k ∷ ks) =
        ap (λ b. b || list_any (bytes_eq name) ks) (sym (eq_by_cmp-text name k)) ∙ ap (λ b. is_at (slice_cmp nat_cmp name) k || b) (by_bytes name ks)

-- the listing is what is due where it is asked for, and want of memory may stand in its place
pub listing-due : (states : States) (request : Request) (reply : Reply) → is_listing request ≡ true
    → Lists states reply ⊎ (reply ≡ out_of_memory) → IsAnsweredBy (mark_of reply) states request reply
listing-due states request reply asked (inl all) =
    subst (λ mark. IsAnsweredBy mark states request reply) (sym (ap mark_of all.told))
    (subst (λ due. IsDue states due reply) (sym (ap (λ b. cond b lists (steps request)) asked)) all)
listing-due states request reply asked (inr short_of) =
    subst (λ mark. IsAnsweredBy mark states request reply) (sym (ap mark_of short_of)) short_of

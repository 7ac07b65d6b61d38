-- A list with a creator: who is permitted by it, when it is another list, and what is left of it when an actor or a group goes.
use Rattle.std.proofs.Common.{◌≡◌, ◌&&◌, ◌||◌, Bool, true, false, not, cond, ℕ, List, [], ◌∷◌, ◌++◌, map, bytes_eq, Option, None, Some, T, refl, sym, ap, ◌∙◌}
use Rattle.std.specs.Cmp.Lexicographic.{bytes_decides}
use Rattle.std.specs.declared.cmp.Ordering.{Ordering}
use Rattle.std.specs.declared.cmp.Ordering.TheVariants.{Less, Equal, Greater}
use Rattle.std.specs.Ordering.{is_lt}
use Rattle.std.specs.FinMap as finite
use Rattle.std.specs.FinMap.Entries.{is_sorted, below_all}
use Rattle.std.specs.List.{list_any, AllByRecursion}
use Rattle.std.specs.List.Sorted.{IsStrictlySortedBy}
use Rattle.std.proofs.lemmas.List.Elements.{filter-append}
use Rattle.std.proofs.lemmas.List.Folds.{list_any-append}
use Rattle.std.proofs.lemmas.List.Kept.{IsStrictlySortedBy-filter}
use Rattle.std.proofs.lemmas.List.{append-nil}
use Rattle.std.proofs.lemmas.Map.Views.{any-filter_same}
use Rattle.doc_tree.specs.Text.{text_cmp}
use Rattle.membership.specs.Actors.{operator}
use Rattle.membership.specs.Belonging.{belongs}
use Rattle.membership.specs.Members.{Membership}
use Rattle.membership.specs.TextSets.{IsRising, as_keys, in_order, lists, without}
use Rattle.membership.proofs.TextSetLemmas.{in_order-rising, in_order-same, lists-in_order}
use Rattle.access_lists.specs.declared.acl.Acl.{Acl}
use Rattle.access_lists.specs.declared.acl.Entry.{Entry}
use Rattle.access_lists.specs.declared.perm.Perm.{Perm}
use Rattle.access_lists.specs.declared.perm.Perm.TheVariants.{Create, Read, Update, Delete, Grant}
use Rattle.access_lists.specs.Acls.{entry_of, each_entry, with_actor, without_actor, without_group, with_creator}
use Rattle.access_lists.specs.Creators.{IsSpliced, is_creator, creator_left}
use Rattle.access_lists.specs.Forms.{IsAcl, IsEntry}
use Rattle.access_lists.specs.Permitted.{is_permitted}

-- entries of the same lists are the same
pub entries_same : (e f : Entry) → e.actors ≡ f.actors → e.groups ≡ f.groups → e ≡ f
entries_same e f actors groups = λ i. record { actors = actors i; groups = groups i }

-- access lists of the same entries are the same
pub acls_same : (a b : Acl) → a.create ≡ b.create → a.read ≡ b.read → a.update ≡ b.update → a.delete ≡ b.delete → a.grant ≡ b.grant → a ≡ b
acls_same a b create read update delete grant =
    λ i. record { create = create i; read = read i; update = update i; delete = delete i; grant = grant i }

pub ruleset same = (entries_same, acls_same)

-- a text that is put in somewhere is listed with the others
lists-spliced : (front back : List (List ℕ)) (text q : List ℕ) → lists (front ++ text ∷ back) q ≡ lists ((front ++ back) ++ text ∷ []) q
lists-spliced front back text q =
    list_any-append (bytes_eq q) front (text ∷ back)
    ∙ moved (lists front q) (bytes_eq q text) (lists back q)
    ∙ ap (λ b. b || (bytes_eq q text || false)) (sym (list_any-append (bytes_eq q) front back))
    ∙ sym (list_any-append (bytes_eq q) (front ++ back) (text ∷ []))
  where
    moved : (a t b : Bool) → (a || (t || b)) ≡ ((a || b) || (t || false))
    moved true t b = refl
    moved false true true = refl
    moved false true false = refl
    moved false false true = refl
    moved false false false = refl

-- texts that rise are others with one put in where they are these in order with that one
pub in_order-spliced : (texts others : List (List ℕ)) (text : List ℕ) → IsRising texts → IsSpliced texts others text → texts ≡ in_order (others ++ text ∷ [])
in_order-spliced texts others text rising spliced =
    sym (in_order-rising texts rising)
    ∙ in_order-same texts (others ++ text ∷ []) (λ q.
    ap (λ ts. lists ts q) spliced.2
    ∙ lists-spliced spliced.0 spliced.1 text q
    ∙ ap (λ os. lists (os ++ text ∷ []) q) (sym spliced.3))

-- who created is permitted what the entry is of
permitted_as : (membership : Membership) (entry : Entry) (creator caller : List ℕ)
    → (bytes_eq caller creator || is_permitted membership entry caller) ≡ is_permitted membership (with_actor creator entry) caller
permitted_as membership entry creator caller =
    moved (bytes_eq caller operator) (lists entry.actors caller) (bytes_eq caller creator) (list_any (belongs membership caller) entry.groups)
    ∙ ap (λ b. bytes_eq caller operator || (b || list_any (belongs membership caller) entry.groups)) (sym listed)
  where
    moved : (o a c g : Bool) → (c || (o || (a || g))) ≡ (o || ((a || (c || false)) || g))
    moved true a true g = refl
    moved true a false g = refl
    moved false true true g = refl
    moved false true false g = refl
    moved false false true g = refl
    moved false false false g = refl

    listed : lists (in_order (entry.actors ++ creator ∷ [])) caller ≡ (lists entry.actors caller || (bytes_eq caller creator || false))
    listed = lists-in_order (entry.actors ++ creator ∷ []) caller ∙ list_any-append (bytes_eq caller) entry.actors (creator ∷ [])

entry_of-each : (change : Entry → Entry) (perm : Perm) (acl : Acl) → entry_of perm (each_entry change acl) ≡ change (entry_of perm acl)
entry_of-each change Create acl = refl
entry_of-each change Read acl = refl
entry_of-each change Update acl = refl
entry_of-each change Delete acl = refl
entry_of-each change Grant acl = refl

-- who is permitted by a list with a creator
pub permitted-created : (membership : Membership) (perm : Perm) (creator : Option (List ℕ)) (acl : Acl) (caller : List ℕ)
    → (is_creator creator caller || is_permitted membership (entry_of perm acl) caller) ≡ is_permitted membership (entry_of perm (with_creator creator acl)) caller
permitted-created membership perm None acl caller = refl
permitted-created membership perm (Some creator) acl caller =
    permitted_as membership (entry_of perm acl) creator caller
    ∙ ap (λ (e : Entry). is_permitted membership e caller) (sym (entry_of-each (with_actor creator) perm acl))

both_first : (a b : Bool) → T (a && b) → T a
both_first true b is = tt
both_first false b is = is

both_second : (a b : Bool) → T (a && b) → T b
both_second true b is = is
both_second false b is = absurd is

less : (o : Ordering) → T (is_lt o) → o ≡ Less
less Less is = refl
less Equal is = absurd is
less Greater is = absurd is

-- the keys of a finite map rise
below-keys : (x : List ℕ) (es : List (List ℕ × Unit {0})) → T (below_all text_cmp x es) → AllByRecursion (λ y. text_cmp x y ≡ Less) (map (λ (e : List ℕ × Unit {0}). e.0) es)
below-keys x [] is = tt
below-keys x (e ∷ es) is = (less _ (both_first _ _ is), below-keys x es (both_second _ _ is))

rising-keys : (es : List (List ℕ × Unit {0})) → T (is_sorted text_cmp es) → IsRising (map (λ (e : List ℕ × Unit {0}). e.0) es)
unfolding IsStrictlySortedBy
rising-keys [] is = tt
rising-keys (e ∷ es) is = (below-keys e.0 es (both_first _ _ is), rising-keys es (both_second _ _ is))

IsRising-in_order : (xs : List (List ℕ)) → IsRising (in_order xs)
IsRising-in_order xs = rising-keys (finite.entries (as_keys xs)) (finite.entries_sorted (as_keys xs))

-- texts without one are listed unless they are that one
lists-without : (n q : List ℕ) (xs : List (List ℕ)) → lists (without n xs) q ≡ (not (bytes_eq n q) && lists xs q)
lists-without n q xs =
    any-filter_same (bytes_eq q) (λ other. not (bytes_eq n other)) (not (bytes_eq n q)) (λ k same. ap (λ t. not (bytes_eq n t)) (sym ((bytes_decides q k).0 same))) xs

IsRising-without : (n : List ℕ) (xs : List (List ℕ)) → IsRising xs → IsRising (without n xs)
IsRising-without n xs rising = IsStrictlySortedBy-filter text_cmp (λ other. not (bytes_eq n other)) xs rising

-- one is taken out before or after the others are put in order
without-in_order : (n : List ℕ) (xs : List (List ℕ)) → without n (in_order xs) ≡ in_order (without n xs)
without-in_order n xs =
    sym (in_order-rising (without n (in_order xs)) (IsRising-without n (in_order xs) (IsRising-in_order xs)))
    ∙ in_order-same (without n (in_order xs)) (without n xs) (λ q.
    lists-without n q (in_order xs)
    ∙ ap (λ b. not (bytes_eq n q) && b) (lists-in_order xs q)
    ∙ sym (lists-without n q xs))

-- who goes and who is added may be the same
without-added : (n c : List ℕ) (xs : List (List ℕ)) → IsRising xs → without n (in_order (xs ++ c ∷ [])) ≡ cond (bytes_eq n c) (without n xs) (in_order (without n xs ++ c ∷ []))
without-added n c xs rising =
    without-in_order n (xs ++ c ∷ [])
    ∙ ap in_order (filter-append (λ other. not (bytes_eq n other)) xs (c ∷ []))
    ∙ either (bytes_eq n c)
  where
    either : (b : Bool) → in_order (without n xs ++ cond (not b) (c ∷ []) []) ≡ cond b (without n xs) (in_order (without n xs ++ c ∷ []))
    either true = ap in_order (append-nil (without n xs)) ∙ in_order-rising (without n xs) (IsRising-without n xs rising)
    either false = refl

-- the same of an entry
left_of_entry : (n c : List ℕ) (e : Entry) → IsEntry e → without_actor n (with_actor c e) ≡ cond (bytes_eq n c) (without_actor n e) (with_actor c (without_actor n e))
left_of_entry n c e rising = (λ i. record { actors = without-added n c e.actors rising.0 i; groups = e.groups }) ∙ either (bytes_eq n c)
  where
    entry : List (List ℕ) → Entry
    entry actors = record { actors = actors; groups = e.groups }

    either : (b : Bool) → entry (cond b (without n e.actors) (in_order (without n e.actors ++ c ∷ []))) ≡ cond b (without_actor n e) (with_actor c (without_actor n e))
    either true = refl
    either false = refl

-- an actor goes from a list with a creator: from its base, and as the creator
pub without_actor-created : (n : List ℕ) (creator : Option (List ℕ)) (acl : Acl) → IsAcl acl
    → each_entry (without_actor n) (with_creator creator acl) ≡ with_creator (creator_left n creator) (each_entry (without_actor n) acl)
without_actor-created n None acl rising = refl
without_actor-created n (Some c) acl rising =
    (λ i. record {
      create = left_of_entry n c acl.create rising.0 i;
      read = left_of_entry n c acl.read rising.1 i;
      update = left_of_entry n c acl.update rising.2 i;
      delete = left_of_entry n c acl.delete rising.3 i;
      grant = left_of_entry n c acl.grant rising.4 i;
    })
    ∙ either (bytes_eq n c)
  where
    one : Bool → Entry → Entry
    one b e = cond b (without_actor n e) (with_actor c (without_actor n e))

    either : (b : Bool) → each_entry (one b) acl ≡ with_creator (cond b None (Some c)) (each_entry (without_actor n) acl)
    either true = refl
    either false = refl

-- a group goes from a list with a creator: from its base
pub without_group-created : (n : List ℕ) (creator : Option (List ℕ)) (acl : Acl) → each_entry (without_group n) (with_creator creator acl) ≡ with_creator creator (each_entry (without_group n) acl)
without_group-created n None acl = refl
without_group-created n (Some c) acl = refl

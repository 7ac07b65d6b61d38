-- Texts in order, and sets of them.
use Rattle.std.proofs.Common.{◌≡◌, ℕ, List, [], ◌∷◌, ◌&&◌, ◌||◌, Bool, true, false, bytes_eq, Option, Some, None, option_map, option_and_then, refl, sym, ap, ◌∙◌, true≢false}
use Rattle.std.proofs.lemmas.Bool.{and_parts}
use Rattle.std.specs.Cmp.Lexicographic.{bytes_decides, nat_list_cmp_total}
use Rattle.std.specs.FinSet as set
use Rattle.std.specs.List.{list_all}
use Rattle.doc_tree.specs.Text.{text_cmp}
use Rattle.doc_tree.specs.Written.{text}
use Rattle.membership.proofs.TextSetLemmas.{any-tied, in_order-rising, in_order-same, lists-in_order}
use Rattle.membership.specs.Lists.{members_of}
use Rattle.membership.specs.MemberNames.{listed_names}
use Rattle.membership.specs.TextSets.{IsRising, in_order, lists}
use Rattle.object_forms.specs.GroupBodies.{actors_doc, group_doc}
use Rattle.org_rows.specs.Bodies.{group_body}
use Rattle.shelves.proofs.ShelfLaws.{text_same}

-- ---- sets

has_text : (xs : List (List ℕ)) (q : List ℕ) → set.contains (set.from_list {R = text_cmp} xs) q ≡ lists xs q
has_text xs q = set.contains-from_list nat_list_cmp_total xs q ∙ any-tied q xs

-- texts in order make the set that they make
pub set-in_order : (xs : List (List ℕ)) → set.from_list {R = text_cmp} (in_order xs) ≡ set.from_list xs
set-in_order xs = set.same_set nat_list_cmp_total text_same _ _ (λ q. has_text (in_order xs) q ∙ lists-in_order xs q ∙ sym (has_text xs q))

listed : (xs : List (List ℕ)) → listed_names (set.from_list xs) ≡ in_order xs
listed xs =
    in_order-same (set.items (set.from_list xs)) xs (λ q. sym (any-tied q (set.items (set.from_list xs))) ∙ sym (set.contains-items (set.from_list xs) q) ∙ has_text xs q)

-- and where they rise they are the names of that set, in order
listed-rising : (xs : List (List ℕ)) → IsRising xs → listed_names (set.from_list xs) ≡ xs
listed-rising xs rising = listed xs ∙ in_order-rising xs rising

-- ---- a test of texts

or_left : (a b : Bool) → a ≡ true → (a || b) ≡ true
or_left true b is = refl
or_left false b is = absurd (true≢false (sym is))

or_right : (a b : Bool) → b ≡ true → (a || b) ≡ true
or_right true b is = refl
or_right false b is = is

either : (a b : Bool) → (a || b) ≡ true → (P : Type 0) → (a ≡ true → P) → (b ≡ true → P) → P
either true b is P left right = left refl
either false b is P left right = right is

-- two tests that are true together are the same
pub same_truth : (a b : Bool) → (a ≡ true → b ≡ true) → (b ≡ true → a ≡ true) → a ≡ b
same_truth true b there back = sym (there refl)
same_truth false true there back = back refl
same_truth false false there back = refl

module _ (test : List ℕ → Bool) where
  -- each of the texts that are listed meets it
  all_listed : (xs : List (List ℕ)) → list_all test xs ≡ true → (q : List ℕ) → lists xs q ≡ true → test q ≡ true
  all_listed [] all q listed = absurd (true≢false (sym listed))
  all_listed (x ∷ xs) all q listed =
      let parts = and_parts (test x) (list_all test xs) all in
      either (bytes_eq q x) (lists xs q) listed (test q ≡ true) (λ same. ap test ((bytes_decides q x).0 same) ∙ parts.0) (all_listed xs parts.1 q)

  listed_all : (xs : List (List ℕ)) → ((q : List ℕ) → lists xs q ≡ true → test q ≡ true) → list_all test xs ≡ true
  listed_all [] each = refl
  listed_all (x ∷ xs) each =
      ap (λ b. b && list_all test xs) (each x (or_left (bytes_eq x x) (lists xs x) ((bytes_decides x x).1 refl)))
      ∙ listed_all xs (λ q listed. each q (or_right (bytes_eq q x) (lists xs q) listed))

  -- and in order they meet it as they do
  pub all-in_order : (xs : List (List ℕ)) → list_all test (in_order xs) ≡ list_all test xs
  all-in_order xs =
      same_truth (list_all test (in_order xs)) (list_all test xs)
      (λ all. listed_all xs (λ q listed. all_listed (in_order xs) all q (lists-in_order xs q ∙ listed)))
      (λ all. listed_all (in_order xs) (λ q listed. all_listed xs all q (sym (lists-in_order xs q) ∙ listed)))

-- ---- members

members-in_order : (users clients groups : List (List ℕ)) → members_of (in_order users) (in_order clients) (in_order groups) ≡ members_of users clients groups
members-in_order users clients groups = λ i. record { users = set-in_order users i; clients = set-in_order clients i; groups = set-in_order groups i }

some_in_order : (xs ys : List (List ℕ)) → Some xs ≡ Some (in_order ys) → xs ≡ in_order ys
some_in_order xs ys is = cc is

-- the members of three lists, each of which is there
pub members_found : (clients groups users : List (List ℕ)) (c g u : Option (List (List ℕ))) → Some clients ≡ option_map in_order c → Some groups ≡ option_map in_order g → Some users ≡ option_map in_order u
    → Some (members_of users clients groups) ≡ option_and_then (λ cs. option_and_then (λ gs. option_map (λ us. members_of us cs gs) u) g) c
members_found clients groups users None g u first second third = cc first
members_found clients groups users (Some cs) None u first second third = cc second
members_found clients groups users (Some cs) (Some gs) None first second third = cc third
members_found clients groups users (Some cs) (Some gs) (Some us) first second third =
    (λ i. Some (members_of (some_in_order users us third i) (some_in_order clients cs first i) (some_in_order groups gs second i))) ∙ ap Some (members-in_order us cs gs)

-- the document of a group whose lists rise is written as the group of their members
pub group_written : (name : List ℕ) (users clients groups : List (List ℕ)) → IsRising users → IsRising clients → IsRising groups
    → text (group_doc (actors_doc clients groups users) name) ≡ group_body name (members_of users clients groups)
group_written name users clients groups first second third =
    λ i. text (group_doc (actors_doc (sym (listed-rising clients second) i) (sym (listed-rising groups third) i) (sym (listed-rising users first) i)) name)

-- nothing was found
pub none_found : {X Y : Type 0} (f : X → Y) (found : Option X) → None ≡ option_map f found → found ≡ None
none_found f None is = refl
none_found f (Some x) is = cc is

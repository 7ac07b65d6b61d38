-- The shelf and the name there tell the key.
use Rattle.std.proofs.Common.{◌≡◌, ◌&&◌, ◌||◌, bytes_eq, ℕ, ◌+◌, ◌<◌, Bool, true, false, not, nat_lt, eqb, if◌then◌else◌, cond, suc, List, ◌∷◌, ◌++◌, length, take, drop, codes, sym, ap, refl, ◌∙◌, arith, append_assoc, length-append, get_or}
use mathlib.Core.Bool.{true≢false}
use Rattle.std.specs.List.{position_or_len, prefix_len, before_first, after_first}
use Rattle.std.proofs.lemmas.List.{get_or-take}
use Rattle.std.proofs.lemmas.List.Folds.{prefix_len-append, length-prefix_len}
use Rattle.std.proofs.lemmas.List.Sums.{prefix_len-le-length, prefix_len_stops, fails_before_first, split_at_first}
use Rattle.std.proofs.Math.Seq.{take-append_seam, drop-append_seam}
use Rattle.doc_tree.specs.declared.kind.Kind.{Kind}
use Rattle.doc_tree.specs.declared.kind.Kind.TheVariants.{Org, Node, Role, Environment, Bag, Client, User, Group, Container, Item, Cookbook, Artifact, Policy, PolicyGroup, Acl, Sandbox, File}
use Rattle.object_store.specs.declared.key.Key.{Key}
use Rattle.object_store.specs.Keys.{key, is_of, all_kinds}
use Rattle.object_store.specs.Items.{item_front, item_name}
use Rattle.object_store.specs.Shelving.{is_slash, has_slash, word_of, is_in_bag, shelf_of, name_on, kind_among, is_word, key_at, holds_items}
use Rattle.object_store.proofs.ItemsLemmas.{starts-whole}

-- the kind of a word, and that it is a kind's
word-kind : (kind : Kind) → kind_among all_kinds (word_of kind) ≡ kind
word-kind Org = refl
word-kind Node = refl
word-kind Role = refl
word-kind Environment = refl
word-kind Bag = refl
word-kind Client = refl
word-kind User = refl
word-kind Group = refl
word-kind Container = refl
word-kind Item = refl
word-kind Cookbook = refl
word-kind Artifact = refl
word-kind Policy = refl
word-kind PolicyGroup = refl
word-kind Acl = refl
word-kind Sandbox = refl
word-kind File = refl

word-word : (kind : Kind) → is_word (word_of kind) ≡ true
word-word Org = refl
word-word Node = refl
word-word Role = refl
word-word Environment = refl
word-word Bag = refl
word-word Client = refl
word-word User = refl
word-word Group = refl
word-word Container = refl
word-word Item = refl
word-word Cookbook = refl
word-word Artifact = refl
word-word Policy = refl
word-word PolicyGroup = refl
word-word Acl = refl
word-word Sandbox = refl
word-word File = refl

-- what is of the kind of an item is an item
of-item : (kind : Kind) (name : List ℕ) → is_of Item (key kind name) ≡ true → kind ≡ Item
of-item Item name of = refl
of-item Org name of = absurd (true≢false (sym of))
of-item Node name of = absurd (true≢false (sym of))
of-item Role name of = absurd (true≢false (sym of))
of-item Environment name of = absurd (true≢false (sym of))
of-item Bag name of = absurd (true≢false (sym of))
of-item Client name of = absurd (true≢false (sym of))
of-item User name of = absurd (true≢false (sym of))
of-item Group name of = absurd (true≢false (sym of))
of-item Container name of = absurd (true≢false (sym of))
of-item Cookbook name of = absurd (true≢false (sym of))
of-item Artifact name of = absurd (true≢false (sym of))
of-item Policy name of = absurd (true≢false (sym of))
of-item PolicyGroup name of = absurd (true≢false (sym of))
of-item Acl name of = absurd (true≢false (sym of))
of-item Sandbox name of = absurd (true≢false (sym of))
of-item File name of = absurd (true≢false (sym of))

-- both hold where both do
and_parts : (a b : Bool) → (a && b) ≡ true → (a ≡ true) × (b ≡ true)
and_parts true b both = (refl, both)
and_parts false b both = absurd (true≢false (sym both))

-- where no slash is among the first, the first slash is the one behind them
first-behind : (bag id : List ℕ) → has_slash bag ≡ false → position_or_len is_slash (bag ++ 47 ∷ id) ≡ length bag
first-behind bag id none =
    let whole : prefix_len (λ b. not (is_slash b)) bag ≡ length bag = grind (arith, prefix_len-le-length (λ b. not (is_slash b)) bag, none) in
    prefix_len-append (λ b. not (is_slash b)) bag (47 ∷ id)
    ∙ ap (λ n. cond (eqb n (length bag)) (length bag + 0) n) whole
    ∙ same (eqb (length bag) (length bag)) (length bag)
  where
    same : (b : Bool) (n : ℕ) → cond b (n + 0) n ≡ n
    same true n = omega arith
    same false n = refl

-- behind the sign stands the id
name-parts : (bag id : List ℕ) → item_name bag id ≡ bag ++ 47 ∷ id
name-parts bag id = append_assoc bag (codes "/") id

-- the bag of an item, and the id
pub bag-before : (bag id : List ℕ) → has_slash bag ≡ false → before_first is_slash (item_name bag id) ≡ bag
bag-before bag id none =
    ap (before_first is_slash) (name-parts bag id)
    ∙ ap (λ n. take n (bag ++ 47 ∷ id)) (first-behind bag id none)
    ∙ take-append_seam bag (47 ∷ id)

pub id-behind : (bag id : List ℕ) → has_slash bag ≡ false → after_first is_slash (item_name bag id) ≡ id
id-behind bag id none =
    ap (after_first is_slash) (name-parts bag id)
    ∙ ap (λ n. drop (n + 1) (bag ++ 47 ∷ id)) (first-behind bag id none)
    ∙ ap (λ n. drop n (bag ++ 47 ∷ id)) (sym (length-one bag))
    ∙ ap (drop (length (bag ++ codes "/"))) (sym (append_assoc bag (codes "/") id))
    ∙ drop-append_seam (bag ++ codes "/") id
  where
    length-one : (xs : List ℕ) → length (xs ++ codes "/") ≡ length xs + 1
    length-one xs = grind (arith, length-append)

pub slash-inside : (bag id : List ℕ) → has_slash bag ≡ false → has_slash (item_name bag id) ≡ true
slash-inside bag id none =
    ap has_slash (name-parts bag id)
    ∙ ap (λ n. nat_lt n (length (bag ++ 47 ∷ id))) (first-behind bag id none)
    ∙ shorter bag
  where
    shorter : (xs : List ℕ) → nat_lt (length xs) (length (xs ++ 47 ∷ id)) ≡ true
    shorter xs = grind (arith, length-append)

-- where an item is kept
pub item-shelf : (bag id : List ℕ) → has_slash bag ≡ false → shelf_of (key Item (item_name bag id)) ≡ bag
item-shelf bag id none =
    ap (λ b. if b then before_first is_slash (item_name bag id) else word_of Item) (slash-inside bag id none) ∙ bag-before bag id none

pub item-name : (bag id : List ℕ) → has_slash bag ≡ false → name_on (key Item (item_name bag id)) ≡ id
item-name bag id none =
    ap (λ b. if b then after_first is_slash (item_name bag id) else item_name bag id) (slash-inside bag id none) ∙ id-behind bag id none

under : (a b : ℕ) → nat_lt a b ≡ true → a < b
under a b is = grind (arith, is)

positive : (n : ℕ) → nat_lt 0 (suc n) ≡ true
positive n = grind (arith)

-- no slash is before the first
pub front-bare : (name : List ℕ) → has_slash (before_first is_slash name) ≡ false
front-bare name = neither (has_slash (before_first is_slash name)) refl
  where
    inside : has_slash (before_first is_slash name) ≡ true → ⊥
    inside there =
        let front = before_first is_slash name in
        let k = position_or_len is_slash front in
        let long : length front ≡ position_or_len is_slash name = length-prefix_len (λ b. not (is_slash b)) name in
        let below : k < length front = under k (length front) there in
        let within : k < position_or_len is_slash name = omega (arith, below, long) in
        let stops : not (is_slash (get_or front k 0)) ≡ false = prefix_len_stops (λ b. not (is_slash b)) front 0 below in
        let fails : is_slash (get_or name k 0) ≡ false = fails_before_first is_slash name k 0 within in
        let same : get_or front k 0 ≡ get_or name k 0 = get_or-take (position_or_len is_slash name) name k 0 within in
        true≢false (sym (ap (λ n. not (is_slash n)) same ∙ ap not fails) ∙ stops)

    neither : (b : Bool) → has_slash (before_first is_slash name) ≡ b → has_slash (before_first is_slash name) ≡ false
    neither true is = absurd (inside is)
    neither false is = is

-- a name with a slash is what stands before it, and what stands behind
pub name-whole : (name : List ℕ) → has_slash name ≡ true → name ≡ item_name (before_first is_slash name) (after_first is_slash name)
name-whole name there =
    let p = position_or_len is_slash name in
    let below : p < length name = under p (length name) there in
    let stops : not (is_slash (get_or name p 0)) ≡ false = prefix_len_stops (λ b. not (is_slash b)) name 0 below in
    split_at_first is_slash name 0 below
    ∙ ap (λ n. before_first is_slash name ++ n ∷ after_first is_slash name) (slash (get_or name p 0) stops)
    ∙ sym (name-parts (before_first is_slash name) (after_first is_slash name))
  where
    slash : (n : ℕ) → not (is_slash n) ≡ false → n ≡ 47
    slash n is = grind (arith, is)

-- where an item is kept whose bag has a slash
pub joined-parts : (bag id : List ℕ) → has_slash bag ≡ true → item_name bag id ≡ item_name (before_first is_slash bag) (item_name (after_first is_slash bag) id)
joined-parts bag id there =
    let front = before_first is_slash bag in
    let rest = after_first is_slash bag in
    ap (λ b. item_name b id) (name-whole bag there)
    ∙ ap (λ t. t ++ id) (append_assoc (item_front front) rest (codes "/"))
    ∙ append_assoc (item_front front) (item_front rest) id

-- a text without a slash is no word
bare-word : (text : List ℕ) → has_slash text ≡ false → is_word text ≡ false
bare-word text none = neither (is_word text) refl
  where
    neither : (b : Bool) → is_word text ≡ b → is_word text ≡ false
    neither true is = absurd (true≢false (sym (positive (length (drop 1 text))) ∙ sym (ap has_slash (starts-whole (codes "/") text is)) ∙ none))
    neither false is = is

-- the shelf and the name there tell the key
pub key_at-shelved : (k : Key) → key_at (shelf_of k) (name_on k) ≡ k
key_at-shelved k = by_shelf (is_in_bag k) refl
  where
    of_kind : key_at (word_of k.kind) k.name ≡ k
    of_kind =
        ap (λ b. if b then key (kind_among all_kinds (word_of k.kind)) k.name else key Item (item_name (word_of k.kind) k.name)) (word-word k.kind)
        ∙ ap (λ kind. key kind k.name) (word-kind k.kind)

    in_bag : is_of Item k ≡ true → has_slash k.name ≡ true → key_at (before_first is_slash k.name) (after_first is_slash k.name) ≡ k
    in_bag of there =
        let front = before_first is_slash k.name in
        ap (λ b. if b then key (kind_among all_kinds front) (after_first is_slash k.name) else key Item (item_name front (after_first is_slash k.name))) (bare-word front (front-bare k.name))
        ∙ (λ i. key (sym (of-item k.kind k.name of) i) (sym (name-whole k.name there) i))

    by_shelf : (b : Bool) → is_in_bag k ≡ b → key_at (if b then before_first is_slash k.name else word_of k.kind) (if b then after_first is_slash k.name else k.name) ≡ k
    by_shelf true is = in_bag (and_parts (is_of Item k) (has_slash k.name) is).0 (and_parts (is_of Item k) (has_slash k.name) is).1
    by_shelf false is = of_kind

-- on the shelf of an item there may be items
pub item-held : (name : List ℕ) → holds_items (shelf_of (key Item name)) ≡ true
item-held name = by_slash (has_slash name) refl
  where
    by_slash : (b : Bool) → has_slash name ≡ b → holds_items (if b then before_first is_slash name else word_of Item) ≡ true
    by_slash true is = ap (λ b. not b || bytes_eq (before_first is_slash name) (word_of Item)) (bare-word (before_first is_slash name) (front-bare name))
    by_slash false is = refl

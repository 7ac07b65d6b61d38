-- By which word and name the object of a key is found: by those of the index in which it is.
use Rattle.std.proofs.Common.{◌≡◌, ◌∙◌, ◌&&◌, ℕ, Bool, true, false, not, cond, List, Option, Some, None, bytes_eq, is_some, unwrap_or, ap, refl, subst, sym}
use Rattle.std.specs.Cmp.Lexicographic.{bytes_decides}
use Rattle.std.specs.List.{before_first, after_first}
use Rattle.std.specs.Ordering.{eq_by_cmp}
use mathlib.Core.Bool.{true≢false}
use Rattle.doc_tree.specs.Kind.{word_of}
use Rattle.doc_tree.specs.declared.kind.Kind.{Kind}
use Rattle.doc_tree.specs.declared.kind.Kind.TheVariants.{Org, Node, Role, Environment, Bag as Bags, Client, User, Group, Container, Item, Cookbook, Artifact, Policy, PolicyGroup, Acl, Sandbox, File}
use Rattle.object_store.proofs.KeysLemmas.{same_key-is, same_key-self}
use Rattle.object_store.proofs.ShelvingLemmas.{bag-before, front-bare, id-behind, name-whole, slash-inside}
use Rattle.object_store.specs.Items.{item_name}
use Rattle.object_store.specs.Objects.{key, key_cmp}
use Rattle.object_store.specs.Shelving.{has_slash, is_slash}
use Rattle.object_store.specs.declared.key.Key.{Key}
use Rattle.object_finder.specs.Indexes.{Entry, entry_at, entry_of, index_of, is_kinds, is_plain, item_entry, key_in, kind_of, kinds_index}
use Rattle.object_finder.specs.declared.indexes.Index.{Index}
use Rattle.object_finder.specs.declared.indexes.Index.TheVariants.{Nodes, Roles, Environments, Clients, Bag}

-- ---- tests

no : {A : Type 0} → false ≡ true → A
no is = absurd (true≢false (sym is))

both : (a b : Bool) → (a && b) ≡ true → (a ≡ true) × (b ≡ true)
both true b is = (refl, is)
both false b is = no is

-- two tests that imply each other are one
one_test : (a b : Bool) → (a ≡ true → b ≡ true) → (b ≡ true → a ≡ true) → a ≡ b
one_test true b there back = sym (there refl)
one_test false true there back = no (back refl)
one_test false false there back = refl

plain_has_none : (b : Bool) → not b ≡ true → b ≡ false
plain_has_none true is = no is
plain_has_none false is = refl

same_text : (xs ys : List ℕ) → bytes_eq xs ys ≡ true → xs ≡ ys
same_text xs ys is = (bytes_decides xs ys).0 is

itself : (xs : List ℕ) → bytes_eq xs xs ≡ true
itself xs = (bytes_decides xs xs).1 refl

turned : (xs ys : List ℕ) → bytes_eq xs ys ≡ true → bytes_eq ys xs ≡ true
turned xs ys is = (bytes_decides ys xs).1 (sym (same_text xs ys is))

-- ---- where the object of a key is found

-- the entry is that of this word and name
abbrev pub hits : Option Entry → List ℕ → List ℕ → Bool
hits None word name = false
hits (Some entry) word name = bytes_eq entry.0 word && bytes_eq entry.1 name

hits_own : (word name : List ℕ) → hits (Some (word, name)) word name ≡ true
hits_own word name = λ i. itself word i && itself name i

hits_word : (word here name : List ℕ) → bytes_eq here word ≡ true → hits (Some (word, name)) here name ≡ true
hits_word word here name is = λ i. turned here word is i && itself name i

-- a word that is none of the four is the bag's of its name
bag_by : (word : List ℕ) (found : Option Index) → is_some found ≡ false → unwrap_or found (Bag word) ≡ Bag word
bag_by word None is = refl
bag_by word (Some index) is = no (sym is)

bag_of : (word : List ℕ) → is_kinds word ≡ false → index_of word ≡ Bag word
bag_of word is = bag_by word (kinds_index word) is

-- an item of a bag is found in it
item_hits : (bag id : List ℕ) → has_slash bag ≡ false → is_kinds bag ≡ false → hits (item_entry (item_name bag id)) bag id ≡ true
item_hits bag id bare other =
    (λ i. hits (cond (slash-inside bag id bare i && not (is_kinds (bag-before bag id bare i))) (Some (bag-before bag id bare i, id-behind bag id bare i)) None) bag id)
    ∙ ap (λ b. hits (cond (not b) (Some (bag, id)) None) bag id) other
    ∙ hits_own bag id

-- the object under the key of a word and a name is found there
own_by : (word name : List ℕ) (a b c d : Bool) → has_slash word ≡ false
    → bytes_eq word (word_of Node) ≡ a → bytes_eq word (word_of Role) ≡ b → bytes_eq word (word_of Environment) ≡ c → bytes_eq word (word_of Client) ≡ d
    → hits (entry_of (key_in (unwrap_or (cond a (Some Nodes) (cond b (Some Roles) (cond c (Some Environments) (cond d (Some Clients) None)))) (Bag word)) name)) word name ≡ true
own_by word name true b c d bare node role environment client = hits_word (word_of Node) word name node
own_by word name false true c d bare node role environment client = hits_word (word_of Role) word name role
own_by word name false false true d bare node role environment client = hits_word (word_of Environment) word name environment
own_by word name false false false true bare node role environment client = hits_word (word_of Client) word name client
own_by word name false false false false bare node role environment client =
    item_hits word name bare (λ i. is_some (cond (node i) (Some Nodes) (cond (role i) (Some Roles) (cond (environment i) (Some Environments) (cond (client i) (Some Clients) None)))))

own_hits : (word name : List ℕ) → has_slash word ≡ false → hits (entry_of (key_in (index_of word) name)) word name ≡ true
own_hits word name bare =
    own_by word name (bytes_eq word (word_of Node)) (bytes_eq word (word_of Role)) (bytes_eq word (word_of Environment)) (bytes_eq word (word_of Client)) bare refl refl refl refl

-- and what is found there is under that key
kind_is : (kind : Kind) (index : Index) (own here name other : List ℕ) → index_of own ≡ index → key_in index other ≡ key kind other → hits (Some (own, name)) here other ≡ true
    → key kind name ≡ key_in (index_of here) other
kind_is kind index own here name other of in_it is =
    let parts = both (bytes_eq own here) (bytes_eq name other) is in
    ap (key kind) (same_text name other parts.1)
    ∙ sym in_it
    ∙ ap (λ i. key_in i other) (sym of ∙ ap index_of (same_text own here parts.0))

item_is : (name here other : List ℕ) (slash kinds : Bool) → has_slash name ≡ slash → is_kinds (before_first is_slash name) ≡ kinds
    → hits (cond (slash && not kinds) (Some (before_first is_slash name, after_first is_slash name)) None) here other ≡ true
    → key Item name ≡ key_in (index_of here) other
item_is name here other false kinds slash other_word is = no is
item_is name here other true true slash other_word is = no is
item_is name here other true false slash other_word is =
    let parts = both (bytes_eq (before_first is_slash name) here) (bytes_eq (after_first is_slash name) other) is in
    ap (key Item) (name-whole name slash)
    ∙ (λ i. key Item (item_name (same_text (before_first is_slash name) here parts.0 i) (same_text (after_first is_slash name) other parts.1 i)))
    ∙ ap (λ i. key_in i other) (sym (bag_of here (ap is_kinds (sym (same_text (before_first is_slash name) here parts.0)) ∙ other_word)))

found_is : (kind : Kind) (name here other : List ℕ) → hits (entry_at kind name) here other ≡ true → key kind name ≡ key_in (index_of here) other
found_is Org name here other is = no is
found_is Node name here other is = kind_is Node Nodes (word_of Node) here name other refl refl is
found_is Role name here other is = kind_is Role Roles (word_of Role) here name other refl refl is
found_is Environment name here other is = kind_is Environment Environments (word_of Environment) here name other refl refl is
found_is Bags name here other is = no is
found_is Client name here other is = kind_is Client Clients (word_of Client) here name other refl refl is
found_is User name here other is = no is
found_is Group name here other is = no is
found_is Container name here other is = no is
found_is Item name here other is = item_is name here other (has_slash name) (is_kinds (before_first is_slash name)) refl refl is
found_is Cookbook name here other is = no is
found_is Artifact name here other is = no is
found_is Policy name here other is = no is
found_is PolicyGroup name here other is = no is
found_is Acl name here other is = no is
found_is Sandbox name here other is = no is
found_is File name here other is = no is

-- what is found anywhere is found by a word without a slash
kind_plain : (own here name other : List ℕ) → is_plain own ≡ true → hits (Some (own, name)) here other ≡ true → is_plain here ≡ true
kind_plain own here name other plain is = ap is_plain (sym (same_text own here (both (bytes_eq own here) (bytes_eq name other) is).0)) ∙ plain

item_plain : (name here other : List ℕ) (found : Bool) → hits (cond found (Some (before_first is_slash name, after_first is_slash name)) None) here other ≡ true → is_plain here ≡ true
item_plain name here other true is = kind_plain (before_first is_slash name) here (after_first is_slash name) other (ap not (front-bare name)) is
item_plain name here other false is = no is

entry_plain : (kind : Kind) (name here other : List ℕ) → hits (entry_at kind name) here other ≡ true → is_plain here ≡ true
entry_plain Org name here other is = no is
entry_plain Node name here other is = kind_plain (word_of Node) here name other refl is
entry_plain Role name here other is = kind_plain (word_of Role) here name other refl is
entry_plain Environment name here other is = kind_plain (word_of Environment) here name other refl is
entry_plain Bags name here other is = no is
entry_plain Client name here other is = kind_plain (word_of Client) here name other refl is
entry_plain User name here other is = no is
entry_plain Group name here other is = no is
entry_plain Container name here other is = no is
entry_plain Item name here other is = item_plain name here other (has_slash name && not (is_kinds (before_first is_slash name))) is
entry_plain Cookbook name here other is = no is
entry_plain Artifact name here other is = no is
entry_plain Policy name here other is = no is
entry_plain PolicyGroup name here other is = no is
entry_plain Acl name here other is = no is
entry_plain Sandbox name here other is = no is
entry_plain File name here other is = no is

pub key_plain : (k : Key) (word name : List ℕ) → hits (entry_of k) word name ≡ true → is_plain word ≡ true
key_plain k word name is = entry_plain k.kind k.name word name is

-- so the key of a word and a name is the one that is found there
pub key_hits : (k : Key) (word name : List ℕ) → is_plain word ≡ true → eq_by_cmp key_cmp (key_in (index_of word) name) k ≡ hits (entry_of k) word name
key_hits k word name plain =
    one_test (eq_by_cmp key_cmp (key_in (index_of word) name) k) (hits (entry_of k) word name)
    (λ same. subst (λ (x : Key). hits (entry_of x) word name ≡ true) (same_key-is (key_in (index_of word) name) k same) (own_hits word name (plain_has_none (has_slash word) plain)))
    (λ hit. subst (λ (x : Key). eq_by_cmp key_cmp (key_in (index_of word) name) x ≡ true) (sym (found_is k.kind k.name word name hit)) (same_key-self (key_in (index_of word) name)))

-- it is of the kind of the index
pub key_kind : (index : Index) (name : List ℕ) → kind_of index ≡ (key_in index name).kind
key_kind Nodes name = refl
key_kind Roles name = refl
key_kind Environments name = refl
key_kind Clients name = refl
key_kind (Bag bag) name = refl

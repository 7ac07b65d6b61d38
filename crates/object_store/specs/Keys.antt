-- What an object is kept by: its kind and its name.
use Rattle.std.specs.Prelude.{◌≡◌, ◌==◌, ℕ, Bool, List, [], ◌∷◌, ◌++◌, true, map, slice_index_or, T}
use Rattle.std.specs.List.{filter}
use Rattle.std.proofs.Common.{refl, sym, ap, subst, ◌∙◌}
use Rattle.std.specs.declared.cmp.Ordering.{Ordering}
use Rattle.std.specs.declared.cmp.Ordering.TheVariants.{Less, Equal, Greater}
use Rattle.std.specs.Hash as fed
use Rattle.std.specs.Ordering.{nat_cmp, ordering_then, is_eq, eq_by_cmp}
use Rattle.std.specs.Cmp.{IsTotalOrder, then_total, on_total, nat_cmp_total}
use Rattle.std.specs.Cmp.Lexicographic.{slice_cmp, nat_list_cmp_total}
use Rattle.std.specs.Coded.{Coded, code_by, coded×, coded_list, coded_ℕ}
use Rattle.std.specs.FinMap as finite
use Rattle.doc_tree.specs.declared.kind.Kind.{Kind}
use Rattle.doc_tree.specs.declared.kind.Kind.TheVariants.{Org, Node, Role, Environment, Bag, Client, User, Group, Container, Item, Cookbook, Artifact, Policy, PolicyGroup, Acl, Sandbox, File}
use Rattle.object_store.specs.declared.key.Key.{Key}

-- the position of a kind in the order of the kinds
abbrev pub position_of : Kind → ℕ
position_of Org = 0
position_of Node = 1
position_of Role = 2
position_of Environment = 3
position_of Bag = 4
position_of Client = 5
position_of User = 6
position_of Group = 7
position_of Container = 8
position_of Item = 9
position_of Cookbook = 10
position_of Artifact = 11
position_of Policy = 12
position_of PolicyGroup = 13
position_of Acl = 14
position_of Sandbox = 15
position_of File = 16

-- the key of this kind and name
abbrev pub key : Kind → List ℕ → Key
key kind name = record { kind = kind; name = name }

-- keys are ordered by their kinds, and then by the bytes of their names
abbrev pub key_cmp : Key → Key → Ordering
key_cmp x y = ordering_then (nat_cmp (position_of x.kind) (position_of y.kind)) (slice_cmp nat_cmp x.name y.name)

-- two keys are equal
abbrev pub same_key : Key → Key → Bool
same_key = eq_by_cmp key_cmp

-- the key is of this kind
abbrev pub is_of : Kind → Key → Bool
is_of kind key = position_of kind == position_of key.kind

-- the names of the keys of this kind, in their order
abbrev pub names_of : Kind → List Key → List (List ℕ)
names_of kind keys = map (λ (k : Key). k.name) (filter (is_of kind) keys)

-- any two keys are in order
pub key_cmp_total : IsTotalOrder key_cmp
key_cmp_total = then_total (on_total (λ (k : Key). position_of k.kind) nat_cmp_total) (on_total (λ (k : Key). k.name) nat_list_cmp_total)

-- the kinds in their order
abbrev pub all_kinds : List Kind
all_kinds = Org ∷ Node ∷ Role ∷ Environment ∷ Bag ∷ Client ∷ User ∷ Group ∷ Container ∷ Item ∷ Cookbook ∷ Artifact ∷ Policy ∷ PolicyGroup ∷ Acl ∷ Sandbox ∷ File ∷ []

-- the kind at this position
abbrev pub kind_at : ℕ → Kind
kind_at n = slice_index_or all_kinds n Org

-- the kind at the position of a kind is that kind
pub kind_at-position_of : (kind : Kind) → kind_at (position_of kind) ≡ kind
kind_at-position_of Org = refl
kind_at-position_of Node = refl
kind_at-position_of Role = refl
kind_at-position_of Environment = refl
kind_at-position_of Bag = refl
kind_at-position_of Client = refl
kind_at-position_of User = refl
kind_at-position_of Group = refl
kind_at-position_of Container = refl
kind_at-position_of Item = refl
kind_at-position_of Cookbook = refl
kind_at-position_of Artifact = refl
kind_at-position_of Policy = refl
kind_at-position_of PolicyGroup = refl
kind_at-position_of Acl = refl
kind_at-position_of Sandbox = refl
kind_at-position_of File = refl

-- kinds at one position are the same
pub same_kind : (a b : Kind) → position_of a ≡ position_of b → a ≡ b
same_kind a b same = sym (kind_at-position_of a) ∙ ap kind_at same ∙ kind_at-position_of b

-- where neither comparison tells two apart, neither does the first
first_ties : (first then : Ordering) → ordering_then first then ≡ Equal → first ≡ Equal
first_ties Less then ties = absurd (subst (λ r. T (is_eq r)) (sym ties) tt)
first_ties Equal then ties = refl
first_ties Greater then ties = absurd (subst (λ r. T (is_eq r)) (sym ties) tt)

-- and nor does the second
second_ties : (first then : Ordering) → ordering_then first then ≡ Equal → then ≡ Equal
second_ties Less then ties = absurd (subst (λ r. T (is_eq r)) (sym ties) tt)
second_ties Equal then ties = ties
second_ties Greater then ties = absurd (subst (λ r. T (is_eq r)) (sym ties) tt)

-- only equal keys tie
pub key_cmp_ties : finite.IsAntisymmetric key_cmp
key_cmp_ties x y ties =
    let kinds = same_kind x.kind y.kind (finite.nat_cmp-IsAntisymmetric _ _ (first_ties _ _ ties)) in
    let names = finite.slice_cmp-IsAntisymmetric finite.nat_cmp-IsAntisymmetric x.name y.name (second_ties (nat_cmp (position_of x.kind) (position_of y.kind)) _ ties) in
    λ i. record { kind = kinds i; name = names i }

-- a key is stored as the position of its kind, and its name
abbrev pub key_code : Coded Key
key_code =
    code_by (ℕ × List ℕ) (coded× coded_ℕ (coded_list coded_ℕ)) (λ k. (position_of k.kind, k.name)) (λ p. record { kind = kind_at p.0; name = p.1 }) (λ k i. record { kind = kind_at-position_of k.kind i; name = k.name })

-- what is hashed of a key: the position of its kind, and its name
abbrev pub hashed : Key → fed.HashWrites
hashed k = fed.u8 (position_of k.kind) ++ fed.str k.name

-- what is equal ties
tied : (r : Ordering) → is_eq r ≡ true → r ≡ Equal
tied Less same = absurd (subst T (sym same) tt)
tied Equal same = refl
tied Greater same = absurd (subst T (sym same) tt)

-- equal keys hash alike
pub hashed_alike : (x y : Key) → same_key x y ≡ true → hashed x ≡ hashed y
hashed_alike x y same = ap hashed (key_cmp_ties x y (tied (key_cmp x y) same))

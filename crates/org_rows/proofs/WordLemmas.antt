-- The words of kinds, and texts with a slash between them.
use Rattle.std.proofs.Common.{◌≡◌, ℕ, List, [], ◌∷◌, ◌&&◌, Bool, true, false, cond, bytes_eq, nat_eq, Option, Some, None, option_map, refl, sym, ap, ap₂, subst, ◌∙◌}
use Rattle.std.specs.Cmp.Lexicographic.{bytes_decides}
use Rattle.std.specs.List.{find, list_all}
use Rattle.doc_tree.specs.Kind.{word_of}
use Rattle.doc_tree.specs.Name.{is_name_byte}
use Rattle.doc_tree.specs.declared.kind.Kind.{Kind}
use Rattle.doc_tree.specs.declared.kind.Kind.TheVariants as kinds
use Rattle.object_store.specs.Keys.{all_kinds}
use Rattle.org_rows.specs.Places.{behind_none, kind_named, lengthened, slashed, split_at_slash}

pub some_same : {X : Type 0} (x y : X) → Some x ≡ Some y → x ≡ y
some_same x y is = cc is

pub true_false : {X : Type 0} → true ≡ false → X
true_false e = absurd (subst (λ b. cond b (Unit {0}) ⊥) e tt)

-- ---- words

pub kind_named-word : (kind : Kind) → kind_named (word_of kind) ≡ Some kind
kind_named-word kinds.Org = refl
kind_named-word kinds.Node = refl
kind_named-word kinds.Role = refl
kind_named-word kinds.Environment = refl
kind_named-word kinds.Bag = refl
kind_named-word kinds.Client = refl
kind_named-word kinds.User = refl
kind_named-word kinds.Group = refl
kind_named-word kinds.Container = refl
kind_named-word kinds.Item = refl
kind_named-word kinds.Cookbook = refl
kind_named-word kinds.Artifact = refl
kind_named-word kinds.Policy = refl
kind_named-word kinds.PolicyGroup = refl
kind_named-word kinds.Acl = refl
kind_named-word kinds.Sandbox = refl
kind_named-word kinds.File = refl

-- what is found meets the test
pub found : {A : Type 0} (test : A → Bool) (xs : List A) (x : A) → find test xs ≡ Some x → test x ≡ true
found test [] x is = cc is
found test (y ∷ ys) x is =
    elim (test y) as (λ b. test y ≡ b → cond b (Some y) (find test ys) ≡ Some x → test x ≡ true) [
      | true ↦ λ holds some. subst (λ z. test z ≡ true) (cc some) holds
      | false ↦ λ fails some. found test ys x some
    ] refl is

pub word-kind_named : (word : List ℕ) (kind : Kind) → kind_named word ≡ Some kind → word_of kind ≡ word
word-kind_named word kind is = sym ((bytes_decides word (word_of kind)).0 (found (λ kind. bytes_eq word (word_of kind)) all_kinds kind is))

-- ---- slashes

some_head : (c d : ℕ) → c ∷ [] ≡ d ∷ [] → c ≡ d
some_head c d is = cc is

pub nat_same : (c d : ℕ) → nat_eq c d ≡ true → c ≡ d
nat_same c d is = some_head c d ((bytes_decides (c ∷ []) (d ∷ [])).0 (ap (λ b. b && true) is))

split-later : (c : ℕ) (rest before behind : List ℕ) (split : Option (List ℕ × List ℕ)) → ((p : List ℕ × List ℕ) → split ≡ Some p → slashed p.0 p.1 ≡ rest)
    → option_map (lengthened c) split ≡ Some (before, behind) → slashed before behind ≡ c ∷ rest
split-later c rest before behind None whole is = cc is
split-later c rest before behind (Some parts) whole is =
    let same : lengthened c parts ≡ (before, behind) = cc is in
    ap₂ slashed (sym (ap (λ p. p.0) same)) (sym (ap (λ p. p.1) same)) ∙ ap (λ t. c ∷ t) (whole parts refl)

split-step : (c : ℕ) (rest before behind : List ℕ) (slash : Bool) → nat_eq c 47 ≡ slash → ((p : List ℕ × List ℕ) → split_at_slash rest ≡ Some p → slashed p.0 p.1 ≡ rest)
    → cond slash (Some (behind_none rest)) (option_map (lengthened c) (split_at_slash rest)) ≡ Some (before, behind) → slashed before behind ≡ c ∷ rest
split-step c rest before behind true slash whole is =
    let parts : behind_none rest ≡ (before, behind) = cc is in
    ap₂ slashed (sym (ap (λ p. p.0) parts)) (sym (ap (λ p. p.1) parts)) ∙ ap (λ d. d ∷ rest) (sym (nat_same c 47 slash))
split-step c rest before behind false other whole is = split-later c rest before behind (split_at_slash rest) whole is

-- a text is what stands before its first slash, the slash, and what stands behind it
pub split-whole : (text before behind : List ℕ) → split_at_slash text ≡ Some (before, behind) → slashed before behind ≡ text
split-whole [] before behind is = cc is
split-whole (c ∷ rest) before behind is = split-step c rest before behind (nat_eq c 47) refl (λ p same. split-whole rest p.0 p.1 same) is

and_first : (a b : Bool) → (a && b) ≡ true → a ≡ true
and_first true b is = refl
and_first false b is = is

and_second : (a b : Bool) → (a && b) ≡ true → b ≡ true
and_second true b is = is
and_second false b is = true_false (sym is)

no_slash : (c : ℕ) → is_name_byte c ≡ true → nat_eq c 47 ≡ false
no_slash c is =
    elim (nat_eq c 47) as (λ b. nat_eq c 47 ≡ b → b ≡ false) [
      | true ↦ λ same. true_false (sym is ∙ ap is_name_byte (nat_same c 47 same))
      | false ↦ λ other. refl
    ] refl

-- and where the bytes before a slash are those of a name, they stand before the first one
pub split-slashed : (front back : List ℕ) → list_all is_name_byte front ≡ true → split_at_slash (slashed front back) ≡ Some (front, back)
split-slashed [] back all = refl
split-slashed (c ∷ rest) back all =
    ap (λ b. cond b (Some (behind_none (slashed rest back))) (option_map (lengthened c) (split_at_slash (slashed rest back)))) (no_slash c (and_first (is_name_byte c) (list_all is_name_byte rest) all))
    ∙ ap (option_map (lengthened c)) (split-slashed rest back (and_second (is_name_byte c) (list_all is_name_byte rest) all))

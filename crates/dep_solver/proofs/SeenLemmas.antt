-- Names seen through references, one more and all of them.
use Rattle.std.proofs.Common.{◌≡◌, ℕ, ◌+◌, ◌<◌, ◌≤◌, Bool, true, false, cond, ◌||◌, List, [], ◌∷◌, ◌++◌, length, take, drop, get_or, Bor, ap, sym, refl, ◌∙◌, take_all}
use Rattle.std.proofs.lemmas.List.{drop_all, drop_more, map_push, take_more}
use Rattle.std.specs.List.{list_any}
use Rattle.std.specs.Set.{is_member}
use Rattle.doc_tree.specs.declared.name.Name.{Name}
use Rattle.version_rules.specs.declared.needs.Need.{Need}
use Rattle.dep_solver.specs.Names.{CookbookName, same_name}
use Rattle.dep_solver.specs.Search.{seen}
use Rattle.dep_solver.specs.Walks.{with_name, with_needs}

any_seen : (name : CookbookName) (names : List (Bor Name)) → list_any (λ (n : Bor Name). same_name name n.now) names ≡ is_member same_name (seen names) name
any_seen name [] = refl
any_seen name (n ∷ names) = ap (λ b. same_name name n.now || b) (any_seen name names)

-- one more name, where it is new
pub name_added : (names : List (Bor Name)) (name : Bor Name) (b : Bool) → b ≡ list_any (λ (n : Bor Name). same_name name.now n.now) names → b ≡ false → (more : List (Bor Name)) → more ≡ names ++ name ∷ []
    → seen more ≡ with_name (seen names) name.now
name_added names name b is off more e =
    ap seen e ∙ map_push (λ (n : Bor Name). n.now) names name
    ∙ ap (λ x. cond x (seen names) (seen names ++ name.now ∷ [])) (sym off ∙ is ∙ any_seen name.now names)

pub name_there : (names : List (Bor Name)) (name : CookbookName) (b : Bool) → b ≡ list_any (λ (n : Bor Name). same_name name n.now) names → b ≡ true → seen names ≡ with_name (seen names) name
name_there names name b is on = ap (λ x. cond x (seen names) (seen names ++ name ∷ [])) (sym on ∙ is ∙ any_seen name names)

-- one of the needs is behind the names, and the others are left
pub need_added : (names more : List CookbookName) (needs : List Need) (i : ℕ) (need : Need) (all : List CookbookName) → i < length needs → need ≡ get_or needs i need
    → with_needs names (drop i needs) ≡ all → more ≡ with_name names need.name → with_needs more (drop (i + 1) needs) ≡ all
need_added names more needs i need all within is before e =
    ap (λ ns. with_needs ns (drop (i + 1) needs)) e
    ∙ sym (ap (with_needs names) (drop_more needs i need within ∙ ap (λ n. n ∷ drop (i + 1) needs) (sym is)))
    ∙ before

pub needs_added : (names : List CookbookName) (needs : List Need) (i : ℕ) (all : List CookbookName) → length needs ≤ i → with_needs names (drop i needs) ≡ all → names ≡ all
needs_added names needs i all past before = sym (ap (with_needs names) (drop_all i needs past)) ∙ before

-- the first of a list, one more of them, and all
pub root_added : (names more : List (Bor Name)) (xs roots : List CookbookName) (i : ℕ) (name : Bor Name) → xs ≡ roots → i < length xs → name.now ≡ get_or xs i name.now → seen names ≡ take i roots → more ≡ names ++ name ∷ []
    → seen more ≡ take (i + 1) roots
root_added names more xs roots i name same within is before e =
    ap seen e ∙ map_push (λ (n : Bor Name). n.now) names name
    ∙ ap (λ zs. zs ++ name.now ∷ []) (before ∙ ap (take i) (sym same))
    ∙ ap (λ n. take i xs ++ n ∷ []) is
    ∙ sym (take_more xs i name.now within) ∙ ap (take (i + 1)) same

pub roots_added : (names : List (Bor Name)) (xs roots : List CookbookName) (i : ℕ) → xs ≡ roots → length xs ≤ i → seen names ≡ take i roots → seen names ≡ roots
roots_added names xs roots i same past before = before ∙ ap (take i) (sym same) ∙ take_all i xs past ∙ same

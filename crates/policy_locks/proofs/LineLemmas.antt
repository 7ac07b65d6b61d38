-- The lines of a lock, put behind one another.
use Rattle.std.proofs.Common.{◌≡◌, ◌<◌, ◌+◌, ℕ, List, [], ◌∷◌, ◌++◌, map, length, take, get_or, codes, append_assoc, refl, sym, ap, ◌∙◌}
use Rattle.std.proofs.lemmas.Grind.{flat_map-append}
use Rattle.std.proofs.lemmas.List.{map_push, take_more}
use Rattle.std.specs.List.{flat_map}
use Rattle.doc_tree.specs.Doc.{Doc}
use Rattle.run_lists.specs.Stored.{Stored}
use Rattle.policy_locks.specs.Digests.{cookbook_line, dict_text, item_lines, lines_by, named_lines}
use Rattle.policy_locks.specs.declared.lock.CookbookLock.{CookbookLock}
use Rattle.run_lists.specs.declared.by_name.NamedRunList.{NamedRunList}

append_none : {A : Type 0} (zs : List A) → zs ++ [] ≡ zs
append_none [] = refl
append_none (z ∷ zs) = ap (λ rest. z ∷ rest) (append_none zs)

-- what one more of these adds at the end
pub map_more : {X Y : Type 0} (f : X → Y) (before so_far after : List Y) (xs items : List X) (i : ℕ) (x : X) (y : Y) → xs ≡ items → i < length xs → x ≡ get_or xs i x → y ≡ f x → so_far ≡ before ++ map f (take i items) → after ≡ so_far ++ y ∷ []
    → after ≡ before ++ map f (take (i + 1) items)
map_more f before so_far after xs items i x y same within is made is_so_far pushed =
    let all : map f (take (i + 1) items) ≡ map f (take i items) ++ f x ∷ [] =
    ap (λ zs. map f (take (i + 1) zs)) (sym same) ∙ ap (map f) (take_more xs i x within ∙ ap (λ z. take i xs ++ z ∷ []) (sym is)) ∙ map_push f (take i xs) x ∙ ap (λ zs. map f (take i zs) ++ f x ∷ []) same in
    pushed ∙ (λ k. is_so_far k ++ made k ∷ []) ∙ append_assoc before (map f (take i items)) (f x ∷ []) ∙ ap (λ ys. before ++ ys) (sym all)

pub flat_more : {X Y : Type 0} (f : X → List Y) (before so_far after : List Y) (xs items : List X) (i : ℕ) (x : X) (ys : List Y) → xs ≡ items → i < length xs → x ≡ get_or xs i x → ys ≡ f x → so_far ≡ before ++ flat_map f (take i items) → after ≡ so_far ++ ys
    → after ≡ before ++ flat_map f (take (i + 1) items)
flat_more f before so_far after xs items i x ys same within is made is_so_far pushed =
    let all : flat_map f (take (i + 1) items) ≡ flat_map f (take i items) ++ f x =
    ap (λ zs. flat_map f (take (i + 1) zs)) (sym same) ∙ ap (flat_map f) (take_more xs i x within ∙ ap (λ z. take i xs ++ z ∷ []) (sym is)) ∙ flat_map-append f (take i xs) (x ∷ [])
    ∙ ap (λ zs. flat_map f (take i xs) ++ zs) (append_none (f x)) ∙ ap (λ zs. flat_map f (take i zs) ++ f x) same in
    pushed ∙ (λ k. is_so_far k ++ made k) ∙ append_assoc before (flat_map f (take i items)) (f x) ∙ ap (λ zs. before ++ zs) (sym all)

-- a run list under its name adds its lines
pub named_added : (before with_name after : List (List ℕ)) (named : NamedRunList) (name : List ℕ) → name ≡ named.name → with_name ≡ before ++ (codes "named-run-list:" ++ name) ∷ [] → after ≡ with_name ++ item_lines named.run_list → after ≡ before ++ named_lines named
named_added before with_name after named name same first second =
    second
    ∙ ap (λ ls. ls ++ item_lines named.run_list) (first ∙ ap (λ n. before ++ (codes "named-run-list:" ++ n) ∷ []) same)
    ∙ append_assoc before ((codes "named-run-list:" ++ named.name) ∷ []) (item_lines named.run_list)

-- all lines, step by step
pub lines_made : (name : List ℕ) (run_list : List Stored) (lists : List NamedRunList) (cookbooks : List CookbookLock) (default over : List (List ℕ × Doc)) (text : List ℕ) (l0 l1 l2 l3 l4 l5 l6 : List (List ℕ)) → text ≡ name
    → l0 ≡ [] → l1 ≡ l0 ++ (codes "name:" ++ text) ∷ [] → l2 ≡ l1 ++ item_lines run_list → l3 ≡ l2 ++ flat_map named_lines lists → l4 ≡ l3 ++ map cookbook_line cookbooks
    → l5 ≡ l4 ++ (codes "default_attributes:" ++ dict_text default) ∷ [] → l6 ≡ l5 ++ (codes "override_attributes:" ++ dict_text over) ∷ [] → l6 ≡ lines_by name run_list lists cookbooks default over
lines_made name run_list lists cookbooks default over text l0 l1 l2 l3 l4 l5 l6 same e0 e1 e2 e3 e4 e5 e6 =
    let first : l1 ≡ (codes "name:" ++ name) ∷ [] = e1 ∙ (λ i. e0 i ++ (codes "name:" ++ same i) ∷ []) in
    let fourth : l4 ≡ (codes "name:" ++ name) ∷ [] ++ item_lines run_list ++ flat_map named_lines lists ++ map cookbook_line cookbooks =
    e4 ∙ ap (λ ls. ls ++ map cookbook_line cookbooks) (e3 ∙ ap (λ ls. ls ++ flat_map named_lines lists) (e2 ∙ ap (λ ls. ls ++ item_lines run_list) first)) in
    e6 ∙ ap (λ ls. ls ++ (codes "override_attributes:" ++ dict_text over) ∷ []) (e5 ∙ ap (λ ls. ls ++ (codes "default_attributes:" ++ dict_text default) ∷ []) fourth)
    ∙ append_assoc ((codes "name:" ++ name) ∷ [] ++ item_lines run_list ++ flat_map named_lines lists ++ map cookbook_line cookbooks) ((codes "default_attributes:" ++ dict_text default) ∷ []) ((codes "override_attributes:" ++ dict_text over) ∷ [])

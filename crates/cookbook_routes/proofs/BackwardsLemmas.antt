-- The newest versions of entries, as a walk from the last backwards shows them.
use Rattle.std.proofs.Common.{◌≡◌, ℕ, List, [], ◌∷◌, ◌++◌, map, take, reverse, Bor, refl, sym, ap, ◌∙◌}
use Rattle.std.proofs.lemmas.List.{map-append, reverse-append, take-map}
use Rattle.std.proofs.lemmas.Simd.{map-map}
use Rattle.doc_tree.specs.Doc.{Doc}
use Rattle.version_rules.specs.declared.versions.Version.{Version}
use Rattle.cookbook_routes.specs.declared.operations.Count.{Count}
use Rattle.cookbook_routes.specs.Listings.{newest, number_of, version_doc}

map-reverse : {A B : Type 0} (f : A → B) (l : List A) → map f (reverse l) ≡ reverse (map f l)
map-reverse f [] = refl
map-reverse f (x ∷ l) =
    ap (map f) (reverse-append (x ∷ []) l) ∙ map-append f (reverse l) (x ∷ []) ∙ ap (λ rest. rest ++ f x ∷ []) (map-reverse f l)
    ∙ sym (reverse-append (f x ∷ []) (map f l))

backwards : {A B : Type 0} (f : A → B) (n : ℕ) (l : List A) → map f (take n (reverse l)) ≡ take n (reverse (map f l))
backwards f n l = sym (take-map f n (reverse l)) ∙ ap (take n) (map-reverse f l)

-- what came are these entries, so their versions are shown
pub newest_shown : (org : List ℕ) (count : Count) (name : List ℕ) (entries : List (Version × Doc)) (came : List (Bor (Version × Doc))) → map (λ y. y.now) came ≡ take (number_of count) (reverse entries)
    → map (λ (entry : Bor (Version × Doc)). version_doc org name entry.now.0) came ≡ map (version_doc org name) (newest count (map (λ e. e.0) entries))
newest_shown org count name entries came is =
    sym (map-map (version_doc org name) (λ (entry : Bor (Version × Doc)). entry.now.0) came)
    ∙ ap (map (version_doc org name)) (sym (map-map (λ (e : Version × Doc). e.0) (λ (y : Bor (Version × Doc)). y.now) came) ∙ ap (map (λ e. e.0)) is ∙ backwards (λ e. e.0) (number_of count) entries)

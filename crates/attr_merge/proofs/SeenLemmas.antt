-- What is seen at a path is what is seen, at the rest of the path, of what the layers have at its first key.
use Rattle.std.proofs.Common.{◌≡◌, ◌<◌, ◌≤◌, ℕ, suc, max, List, [], ◌∷◌, ◌++◌, length, Bool, true, false, if◌then◌else◌, Option, Some, None, option_and_then, bytes_eq, ◌⊎◌, inl, inr, refl, sym, ap, subst, ◌∙◌, arith}
use Rattle.doc_tree.specs.Doc.{Doc, null, boolean, whole, words, list, dict, Pairs, no_pairs, then_pair, depth, pairs_depth}
use Rattle.doc_tree.specs.Part.{at, part_at, pair_at}
use Rattle.attr_merge.specs.Children.{children, AreValues, pieces_depth}
use Rattle.attr_merge.specs.Effective.{Decides, IsEffective, Below}
use Rattle.attr_merge.specs.Parts.{pieces_of}
use Rattle.attr_merge.specs.declared.parts.Part.{Part}
use Rattle.attr_merge.specs.Pieces.{Piece, is_plain, if_there, crosses, with_value, seen}

-- ---- null has nothing at a path, and crosses none

none_at : (c : Piece) (p : List (List ℕ)) (rest : List Piece) → with_value c (at p null) rest ≡ rest
none_at c [] rest = refl
none_at c (k ∷ p) rest = refl

null_crosses : (p : List (List ℕ)) → crosses p null ≡ false
null_crosses [] = refl
null_crosses (k ∷ p) = refl

-- ---- what a piece has doesn't depend on the document that the piece has itself

same_with : (c : Piece) (d : Doc) (r : Option Doc) (below : List Piece) → with_value (record { position = c.position; level = c.level; document = d }) r below ≡ with_value c r below
same_with c d None below = refl
same_with c d (Some e) below = refl

-- ---- one key down

through_value : (c : Piece) (p : List (List ℕ)) (rest later : List Piece) (d : Doc) → rest ≡ seen p later
    → with_value c (at p d) (if crosses p d then [] else rest) ≡ seen p (record { position = c.position; level = c.level; document = d } ∷ later)
through_value c p rest later d e =
    ap (λ (below : List Piece). with_value c (at p d) (if crosses p d then [] else below)) e
    ∙ sym (same_with c d (at p d) (if crosses p d then [] else seen p later))

through : (c : Piece) (p : List (List ℕ)) (rest later : List Piece) (r : Option Doc) → rest ≡ seen p later
    → with_value c (option_and_then (at p) r) (if if_there (crosses p) r then [] else rest) ≡ seen p (with_value c r later)
through c p rest later None e = e
through c p rest later (Some null) e = none_at c p _ ∙ ap (λ (b : Bool). if b then [] else rest) (null_crosses p) ∙ e
through c p rest later (Some (boolean b)) e = through_value c p rest later (boolean b) e
through c p rest later (Some (whole z)) e = through_value c p rest later (whole z) e
through c p rest later (Some (words s)) e = through_value c p rest later (words s) e
through c p rest later (Some (list ds)) e = through_value c p rest later (list ds) e
through c p rest later (Some (dict ps)) e = through_value c p rest later (dict ps) e

down : (k : List ℕ) (p : List (List ℕ)) (c : Piece) (d : Doc) (rest later : List Piece) → rest ≡ seen p later
    → with_value c (at (k ∷ p) d) (if crosses (k ∷ p) d then [] else rest) ≡ seen p (with_value c (part_at k d) (if is_plain d then [] else later))
down k p c null rest later e = e
down k p c (boolean b) rest later e = refl
down k p c (whole z) rest later e = refl
down k p c (words s) rest later e = refl
down k p c (list ds) rest later e = refl
down k p c (dict ps) rest later e = through c p rest later (pair_at k ps) e

pub seen-children : (k : List ℕ) (p : List (List ℕ)) (cs : List Piece) → seen (k ∷ p) cs ≡ seen p (children k cs)
seen-children k p [] = refl
seen-children k p (c ∷ cs) = down k p c c.document (seen (k ∷ p) cs) (children k cs) (seen-children k p cs)

-- what is effective of what the layers have at a key is effective at the path that begins with it
pub effective-down : (k : List ℕ) (p : List (List ℕ)) (cs : List Piece) (v : Option Doc) (o : Option (List ℕ)) → IsEffective (children k cs) p v o → IsEffective cs (k ∷ p) v o
effective-down k p cs v o h =
    let P : List Piece × Below → Type 0 = λ s. Decides s.0 s.1 v o in
    let upper : List Piece × Below = (seen p (children k cs), λ key more. seen (p ++ key ∷ more) (children k cs)) in
    let lower : List Piece × Below = (seen (k ∷ p) cs, λ key more. seen (k ∷ p ++ key ∷ more) cs) in
    let same : upper ≡ lower = λ i. (sym (seen-children k p cs) i, λ key more. sym (seen-children k (p ++ key ∷ more) cs) i) in
    subst P same h

-- equal things are effective at a path where these are
pub effective-same : (p : List (List ℕ)) {cs ds : List Piece} {v w : Option Doc} {o q : Option (List ℕ)} → cs ≡ ds → v ≡ w → o ≡ q → IsEffective cs p v o → IsEffective ds p w q
effective-same p {cs} {ds} {v} {w} {o} {q} cs_ds v_w o_q h =
    let P : List Piece × Option Doc × Option (List ℕ) → Type 0 = λ t. IsEffective t.0 p t.1 t.2 in
    let before : List Piece × Option Doc × Option (List ℕ) = (cs, v, o) in
    let after : List Piece × Option Doc × Option (List ℕ) = (ds, w, q) in
    let same : before ≡ after = λ i. (cs_ds i, v_w i, o_q i) in
    subst P same h

-- ---- what the layers have at a key are values

values-if : (b : Bool) (cs : List Piece) → AreValues cs → AreValues (if b then [] else cs)
values-if true cs h = refl
values-if false cs h = h

values-with : (c : Piece) (r : Option Doc) (below : List Piece) → AreValues below → AreValues (with_value c r below)
values-with c None below h = h
values-with c (Some null) below h = h
values-with c (Some (boolean b)) below h = ap (λ (rest : List Piece). record { position = c.position; level = c.level; document = boolean b } ∷ rest) h
values-with c (Some (whole z)) below h = ap (λ (rest : List Piece). record { position = c.position; level = c.level; document = whole z } ∷ rest) h
values-with c (Some (words s)) below h = ap (λ (rest : List Piece). record { position = c.position; level = c.level; document = words s } ∷ rest) h
values-with c (Some (list ds)) below h = ap (λ (rest : List Piece). record { position = c.position; level = c.level; document = list ds } ∷ rest) h
values-with c (Some (dict ps)) below h = ap (λ (rest : List Piece). record { position = c.position; level = c.level; document = dict ps } ∷ rest) h

pub values-children : (k : List ℕ) (cs : List Piece) → AreValues (children k cs)
values-children k [] = refl
values-children k (c ∷ cs) = values-with c (part_at k c.document) _ (values-if (is_plain c.document) (children k cs) (values-children k cs))

-- ---- and less deep

depth_if : Option Doc → ℕ
depth_if None = 0
depth_if (Some d) = depth d

some-depth : (d e : Doc) → Some d ≡ Some e → depth e ≡ depth d
unfolding depth_if
some-depth d e h = sym (ap depth_if h)

pair-depth : (k : List ℕ) (ps : Pairs) (d : Doc) → pair_at k ps ≡ Some d → depth d ≤ pairs_depth ps
pair-depth k no_pairs d h = cc
pair-depth k (then_pair l e ps) d h = first (bytes_eq l k) h (pair-depth k ps d)
  where
    first : (b : Bool) → (if b then Some e else pair_at k ps) ≡ Some d → (pair_at k ps ≡ Some d → depth d ≤ pairs_depth ps) → depth d ≤ max (depth e) (pairs_depth ps)
    first true is later = let same = some-depth e d is in omega (arith, same)
    first false is later = let rest = later is in omega (arith, rest)

part-depth : (k : List ℕ) (d e : Doc) → part_at k d ≡ Some e → suc (depth e) ≤ depth d
part-depth k null e h = cc
part-depth k (boolean b) e h = cc
part-depth k (whole z) e h = cc
part-depth k (words s) e h = cc
part-depth k (list ds) e h = cc
part-depth k (dict ps) e h = let inner = pair-depth k ps e h in omega (arith, inner)

none-depth : (cs : List Piece) → cs ≡ [] → pieces_depth cs ≡ 0
none-depth cs h = ap pieces_depth h

-- nothing, or pieces that are less deep than this
abbrev Under : List Piece → ℕ → Type 0
Under cs m = (cs ≡ []) ⊎ (suc (pieces_depth cs) ≤ m)

under-more : (cs : List Piece) (m n : ℕ) → Under cs m → m ≤ n → Under cs n
under-more cs m n (inl none) h = inl none
under-more cs m n (inr less) h = inr (omega arith)

under-one : (c : Piece) (d : Doc) (cs : List Piece) (m n : ℕ) → Under cs m → suc (depth d) ≤ n → Under (record { position = c.position; level = c.level; document = d } ∷ cs) (max n m)
under-one c d cs m n (inl none) h = let zero_deep = none-depth cs none in inr (omega (arith, zero_deep))
under-one c d cs m n (inr less) h = inr (omega arith)

under-with : (c : Piece) (r : Option Doc) (cs : List Piece) (m n : ℕ) → Under cs m → ((e : Doc) → r ≡ Some e → suc (depth e) ≤ n) → Under (with_value c r cs) (max n m)
under-with c None cs m n u h = under-more cs m (max n m) u (omega arith)
under-with c (Some null) cs m n u h = under-more cs m (max n m) u (omega arith)
under-with c (Some (boolean b)) cs m n u h = under-one c (boolean b) cs m n u (h (boolean b) refl)
under-with c (Some (whole z)) cs m n u h = under-one c (whole z) cs m n u (h (whole z) refl)
under-with c (Some (words s)) cs m n u h = under-one c (words s) cs m n u (h (words s) refl)
under-with c (Some (list ds)) cs m n u h = under-one c (list ds) cs m n u (h (list ds) refl)
under-with c (Some (dict ps)) cs m n u h = under-one c (dict ps) cs m n u (h (dict ps) refl)

under-if : (b : Bool) (cs : List Piece) (m : ℕ) → Under cs m → Under (if b then [] else cs) m
under-if true cs m u = inl refl
under-if false cs m u = u

under-children : (k : List ℕ) (cs : List Piece) → Under (children k cs) (pieces_depth cs)
under-children k [] = inl refl
under-children k (c ∷ cs) =
    under-with c (part_at k c.document) _ (pieces_depth cs) (depth c.document)
    (under-if (is_plain c.document) (children k cs) (pieces_depth cs) (under-children k cs)) (part-depth k c.document)

-- what these have at a key is less deep than they are, or nothing
pub children-less : (k : List ℕ) (cs : List Piece) → (children k cs ≡ []) ⊎ (suc (pieces_depth (children k cs)) ≤ pieces_depth cs)
children-less = under-children

children-depth : (k : List ℕ) (cs : List Piece) → 0 < length (children k cs) → suc (pieces_depth (children k cs)) ≤ pieces_depth cs
children-depth k cs some = elim (under-children k cs) [ inl none ↦ (let no_length = ap (λ (xs : List Piece). length xs) none in absurd (omega (arith, no_length))) | inr less ↦ less ]

-- parts that are what the layers have at a key
pub child-depth : (k : List ℕ) (cs : List Piece) (parts : List Part) → pieces_of parts ≡ children k cs → 0 < length parts → suc (pieces_depth (pieces_of parts)) ≤ pieces_depth cs
child-depth k cs [] is some = absurd (omega arith)
child-depth k cs (x ∷ xs) is some =
    let lengths = ap (λ (ps : List Piece). length ps) is in
    subst (λ (ps : List Piece). suc (pieces_depth ps) ≤ pieces_depth cs) (sym is) (children-depth k cs (omega (arith, lengths)))

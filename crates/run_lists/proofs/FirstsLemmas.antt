-- The first occurrences of a list with one more element.
use Rattle.std.proofs.Common.{◌≡◌, Bool, true, false, not, cond, ◌||◌, List, [], ◌∷◌, ◌++◌, map, refl, sym, ap, ◌∙◌, true≢false}
use Rattle.std.proofs.lemmas.List.{map-append}
use Rattle.std.proofs.lemmas.List.Elements.{filter-append}
use Rattle.std.specs.Cmp.{IsEquivalence}
use Rattle.std.specs.List.{filter, list_any}
use Rattle.indexmap.specs.IndexSet.{insert_key}
use Rattle.run_lists.specs.Firsts.{firsts}

module _ {A : Type 0} (same : A → A → Bool) (laws : IsEquivalence same) where
  -- an element that is not the same as x is no more found without what is
  filter-step : (x y z : A) (zs : List A) (b : Bool) → same x z ≡ b → same y x ≡ false
      → list_any (same y) (filter (λ z. not (same x z)) zs) ≡ list_any (same y) zs
      → list_any (same y) (cond (not (same x z)) (z ∷ filter (λ z. not (same x z)) zs) (filter (λ z. not (same x z)) zs)) ≡ (same y z || list_any (same y) zs)
  filter-step x y z zs true e apart rest =
      let no : same y z ≡ false = laws.symm y z ∙ sym (laws.congr x z y e) ∙ laws.symm x y ∙ apart in
      ap (λ b. list_any (same y) (cond (not b) (z ∷ filter (λ z. not (same x z)) zs) (filter (λ z. not (same x z)) zs))) e ∙ rest ∙ ap (λ b. b || list_any (same y) zs) (sym no)
  filter-step x y z zs false e apart rest =
      ap (λ b. list_any (same y) (cond (not b) (z ∷ filter (λ z. not (same x z)) zs) (filter (λ z. not (same x z)) zs))) e ∙ ap (λ b. same y z || b) rest

  any-filter : (x y : A) (zs : List A) → same y x ≡ false → list_any (same y) (filter (λ z. not (same x z)) zs) ≡ list_any (same y) zs
  any-filter x y [] apart = refl
  any-filter x y (z ∷ zs) apart = filter-step x y z zs (same x z) refl apart (any-filter x y zs apart)

  -- an element is the same as a first occurrence where it is the same as any
  firsts-step : (y x : A) (xs : List A) (b : Bool) → same y x ≡ b → list_any (same y) (firsts same xs) ≡ list_any (same y) xs
      → (same y x || list_any (same y) (filter (λ z. not (same x z)) (firsts same xs))) ≡ (same y x || list_any (same y) xs)
  firsts-step y x xs true e rest = ap (λ b. b || list_any (same y) (filter (λ z. not (same x z)) (firsts same xs))) e ∙ sym (ap (λ b. b || list_any (same y) xs) e)
  firsts-step y x xs false e rest = ap (λ b. same y x || b) (any-filter x y (firsts same xs) e ∙ rest)

  any-firsts : (y : A) (xs : List A) → list_any (same y) (firsts same xs) ≡ list_any (same y) xs
  any-firsts y [] = refl
  any-firsts y (x ∷ xs) = firsts-step y x xs (same y x) refl (any-firsts y xs)

  -- one more element stands last where none is the same
  abbrev behind : Bool → A → List A
  behind true y = []
  behind false y = y ∷ []

  filter-behind : (x y : A) (b : Bool) → filter (λ z. not (same x z)) (behind b y) ≡ behind (same y x || b) y
  filter-behind x y true = by (same y x)
    where
      by : (b : Bool) → [] ≡ behind (b || true) y
      by true = refl
      by false = refl
  filter-behind x y false = ap (λ b. cond (not b) (y ∷ []) []) (laws.symm x y) ∙ by (same y x)
    where
      by : (b : Bool) → cond (not b) (y ∷ []) [] ≡ behind (b || false) y
      by true = refl
      by false = refl

  firsts-behind : (xs : List A) (y : A) → firsts same (xs ++ y ∷ []) ≡ firsts same xs ++ behind (list_any (same y) xs) y
  firsts-behind [] y = refl
  firsts-behind (x ∷ xs) y =
      ap (λ zs. x ∷ filter (λ z. not (same x z)) zs) (firsts-behind xs y)
      ∙ ap (λ zs. x ∷ zs) (filter-append (λ z. not (same x z)) (firsts same xs) (behind (list_any (same y) xs) y)
      ∙ ap (λ zs. filter (λ z. not (same x z)) (firsts same xs) ++ zs) (filter-behind x y (list_any (same y) xs)))

  nothing_behind : (zs : List A) (y : A) (b : Bool) → zs ++ behind b y ≡ cond b zs (zs ++ y ∷ [])
  nothing_behind zs y true = append_none zs
    where
      append_none : (zs : List A) → zs ++ [] ≡ zs
      append_none [] = refl
      append_none (z ∷ zs) = ap (λ rest. z ∷ rest) (append_none zs)
  nothing_behind zs y false = refl

  -- the first occurrences with one more element: it is put in where none of them is the same
  pub firsts-push : (xs : List A) (y : A) → firsts same (xs ++ y ∷ []) ≡ insert_key same (firsts same xs) y
  firsts-push xs y =
      firsts-behind xs y ∙ ap (λ b. firsts same xs ++ behind b y) (sym (any-firsts y xs)) ∙ nothing_behind (firsts same xs) y (list_any (same y) (firsts same xs))

-- a test of what is made of the elements
list_any-map : {A K : Type 0} (p : K → Bool) (key : A → K) (xs : List A) → list_any p (map key xs) ≡ list_any (λ x. p (key x)) xs
list_any-map p key [] = refl
list_any-map p key (x ∷ xs) = ap (λ b. p (key x) || b) (list_any-map p key xs)

map-gained : {A B : Type 0} (f : A → B) (b : Bool) (xs : List A) (x : A) → map f (cond b xs (xs ++ x ∷ [])) ≡ cond b (map f xs) (map f xs ++ f x ∷ [])
map-gained f true xs x = refl
map-gained f false xs x = map-append f xs (x ∷ [])

-- what the first occurrences are told apart by, and what is made of them, with one more element
pub record Noted {A K B : Type 0} (eq : K → K → Bool) (key : A → K) (out : A → B) (xs : List A) (keys : List K) (outs : List B) : Type 0 where
  pub keys_are : keys ≡ map key (firsts (λ a b. eq (key a) (key b)) xs)
  pub outs_are : outs ≡ map out (firsts (λ a b. eq (key a) (key b)) xs)

pub one_more : {A K B : Type 0} (eq : K → K → Bool) (laws : IsEquivalence eq) (key : A → K) (out : A → B) (xs : List A) (x : A) (keys after : List K) (outs made : List B)
    → Noted eq key out xs keys outs → after ≡ insert_key eq keys (key x) → made ≡ cond (list_any (eq (key x)) keys) outs (outs ++ out x ∷ []) → Noted eq key out (xs ++ x ∷ []) after made
one_more eq laws key out xs x keys after outs made noted keyed put =
    let seen : list_any (eq (key x)) keys ≡ list_any (λ y. eq (key x) (key y)) (firsts (λ a b. eq (key a) (key b)) xs) =
    ap (list_any (eq (key x))) noted.keys_are ∙ list_any-map (eq (key x)) key (firsts (λ a b. eq (key a) (key b)) xs) in
    let all : firsts (λ a b. eq (key a) (key b)) (xs ++ x ∷ []) ≡ insert_key (λ a b. eq (key a) (key b)) (firsts (λ a b. eq (key a) (key b)) xs) x =
    firsts-push (λ a b. eq (key a) (key b)) (record { refl = λ a. laws.refl (key a); symm = λ a b. laws.symm (key a) (key b); congr = λ a b c. laws.congr (key a) (key b) (key c) }) xs x in
    record {
      keys_are =
          keyed ∙ ap (λ b. cond b keys (keys ++ key x ∷ [])) seen
          ∙ ap (λ ks. cond (list_any (λ y. eq (key x) (key y)) (firsts (λ a b. eq (key a) (key b)) xs)) ks (ks ++ key x ∷ [])) noted.keys_are
          ∙ sym (map-gained key (list_any (λ y. eq (key x) (key y)) (firsts (λ a b. eq (key a) (key b)) xs)) (firsts (λ a b. eq (key a) (key b)) xs) x)
          ∙ ap (map key) (sym all);
      outs_are =
          put ∙ ap (λ b. cond b outs (outs ++ out x ∷ [])) seen
          ∙ ap (λ os. cond (list_any (λ y. eq (key x) (key y)) (firsts (λ a b. eq (key a) (key b)) xs)) os (os ++ out x ∷ [])) noted.outs_are
          ∙ sym (map-gained out (list_any (λ y. eq (key x) (key y)) (firsts (λ a b. eq (key a) (key b)) xs)) (firsts (λ a b. eq (key a) (key b)) xs) x)
          ∙ ap (map out) (sym all);
    }

-- what was not among the keys was put
pub gained : {A : Type 0} (b new : Bool) (old after : List A) (x y : A) → new ≡ not b → new ≡ true → y ≡ x → after ≡ old ++ y ∷ [] → after ≡ cond b old (old ++ x ∷ [])
gained true new old after x y e n same put = absurd (true≢false (sym n ∙ e))
gained false new old after x y e n same put = put ∙ ap (λ z. old ++ z ∷ []) same

-- The first place of each title.
use Rattle.std.proofs.Common.{◌≡◌, ℕ, suc, Bool, true, false, not, cond, ◌||◌, List, [], ◌∷◌, ◌++◌, length, Option, Some, None, option_map, is_some, is_none, option_copied, Bor, bytes_eq, refl, sym, ap, ◌∙◌}
use Rattle.std.specs.BTreeMap.{BTreeMap, get, is_at}
use Rattle.std.specs.Cmp.Lexicographic.{slice_cmp, nat_list_eq_equiv, bytes_decides}
use Rattle.std.specs.List.{list_any}
use Rattle.std.specs.Option.{option_or}
use Rattle.std.specs.Ordering.{nat_cmp}
use Rattle.std.proofs.lemmas.List.{map-append, length-map}
use Rattle.std.proofs.lemmas.Map.Text.{is_eq-slice_cmp}
use Rattle.resource_core.specs.Drafts.{place_of, titles}
use Rattle.resource_core.specs.Resources.{title_of}
use Rattle.resource_core.specs.Titles.{HasFirsts, Notes}
use Rattle.resource_core.specs.declared.resources.Resource.{Resource}

later : (a b : Option ℕ) → option_map (λ place. suc place) (option_or a b) ≡ option_or (option_map (λ place. suc place) a) (option_map (λ place. suc place) b)
later None b = refl
later (Some x) b = refl

later_place : (b : Bool) (n : ℕ) → option_map (λ place. suc place) (cond b (Some n) None) ≡ cond b (Some (suc n)) None
later_place true n = refl
later_place false n = refl

-- one more title behind others
pub place_of-push : (text : List ℕ) (ts : List (List ℕ)) (t : List ℕ) → place_of text (ts ++ t ∷ []) ≡ option_or (place_of text ts) (cond (bytes_eq text t) (Some (length ts)) None)
place_of-push text [] t = refl
place_of-push text (x ∷ ts) t = by_test (place_of-push text ts t) (bytes_eq text x)
  where
    by_test : place_of text (ts ++ t ∷ []) ≡ option_or (place_of text ts) (cond (bytes_eq text t) (Some (length ts)) None) → (test : Bool)
        → cond test (Some 0) (option_map (λ place. suc place) (place_of text (ts ++ t ∷ [])))
        ≡ option_or (cond test (Some 0) (option_map (λ place. suc place) (place_of text ts))) (cond (bytes_eq text t) (Some (suc (length ts))) None)
    by_test more true = refl
    by_test more false =
        ap (option_map (λ place. suc place)) more ∙ later (place_of text ts) (cond (bytes_eq text t) (Some (length ts)) None)
        ∙ ap (option_or (option_map (λ place. suc place) (place_of text ts))) (later_place (bytes_eq text t) (length ts))

-- a title has a place where it is among them
pub place_of-among : (text : List ℕ) (ts : List (List ℕ)) → is_some (place_of text ts) ≡ list_any (bytes_eq text) ts
place_of-among text [] = refl
place_of-among text (x ∷ ts) = by_test (place_of-among text ts) (bytes_eq text x)
  where
    still : (a : Option ℕ) → is_some (option_map (λ place. suc place) a) ≡ is_some a
    still None = refl
    still (Some n) = refl

    by_test : is_some (place_of text ts) ≡ list_any (bytes_eq text) ts → (test : Bool) → is_some (cond test (Some 0) (option_map (λ place. suc place) (place_of text ts))) ≡ (test || list_any (bytes_eq text) ts)
    by_test more true = refl
    by_test more false = still (place_of text ts) ∙ more

-- the place of one more resource's title is noted
pub firsts_more : (made after : List Resource) (r : Resource) (title : List ℕ) (place : ℕ) (old new : BTreeMap (List ℕ) ℕ) → HasFirsts (titles made) old → title ≡ title_of r → place ≡ length made
    → Notes title place old new → after ≡ made ++ r ∷ [] → HasFirsts (titles after) new
firsts_more made after r title place old new firsts is at notes pushed text =
    notes text ∙ ap (λ o. option_or o (cond (bytes_eq text title) (Some place) None)) (firsts text)
    ∙ ap (λ t. option_or (place_of text (titles made)) (cond (bytes_eq text t) (Some place) None)) is
    ∙ ap (λ n. option_or (place_of text (titles made)) (cond (bytes_eq text (title_of r)) (Some n) None)) (at ∙ sym (length-map made title_of))
    ∙ sym (place_of-push text (titles made) (title_of r))
    ∙ ap (place_of text) (sym (map-append title_of made (r ∷ [])) ∙ ap titles (sym pushed))

-- a title that has a place keeps it
pub notes_kept : (title : List ℕ) (place : ℕ) (m : BTreeMap (List ℕ) ℕ) → is_some (get (slice_cmp nat_cmp) m title) ≡ true → Notes title place m m
notes_kept title place m there text = by_test (bytes_eq text title) refl
  where
    kept : (o : Option ℕ) → o ≡ option_or o None
    kept None = refl
    kept (Some n) = refl

    found : (o : Option ℕ) (p : Option ℕ) → is_some o ≡ true → o ≡ option_or o p
    found None p h = cc h
    found (Some n) p h = refl

    by_test : (test : Bool) → bytes_eq text title ≡ test → get (slice_cmp nat_cmp) m text ≡ option_or (get (slice_cmp nat_cmp) m text) (cond test (Some place) None)
    by_test false is = kept (get (slice_cmp nat_cmp) m text)
    by_test true is = found (get (slice_cmp nat_cmp) m text) (Some place) (ap (λ (t : List ℕ). is_some (get (slice_cmp nat_cmp) m t)) ((bytes_decides text title).0 is) ∙ there)

-- a title that has none is noted
pub notes_new : (title : List ℕ) (place : ℕ) (m n : BTreeMap (List ℕ) ℕ) → is_some (get (slice_cmp nat_cmp) m title) ≡ false
    → ((q : List ℕ) → get (slice_cmp nat_cmp) n q ≡ cond (is_at (slice_cmp nat_cmp title) q) (Some place) (get (slice_cmp nat_cmp) m q)) → Notes title place m n
notes_new title place m n absent updates text = updates text ∙ ap (λ b. cond b (Some place) (get (slice_cmp nat_cmp) m text)) (is_eq-slice_cmp title text ∙ nat_list_eq_equiv.symm title text) ∙ by_test (bytes_eq text title) refl
  where
    kept : (o : Option ℕ) → o ≡ option_or o None
    kept None = refl
    kept (Some n) = refl

    none : (o : Option ℕ) → is_some o ≡ false → Some place ≡ option_or o (Some place)
    none None h = refl
    none (Some n) h = cc h

    by_test : (test : Bool) → bytes_eq text title ≡ test → cond test (Some place) (get (slice_cmp nat_cmp) m text) ≡ option_or (get (slice_cmp nat_cmp) m text) (cond test (Some place) None)
    by_test false is = kept (get (slice_cmp nat_cmp) m text)
    by_test true is = none (get (slice_cmp nat_cmp) m text) (ap (λ (t : List ℕ). is_some (get (slice_cmp nat_cmp) m t)) ((bytes_decides text title).0 is) ∙ absent)

-- a title that has no place is none of them
pub absent_title : (ts : List (List ℕ)) (m : BTreeMap (List ℕ) ℕ) (own : List ℕ) → HasFirsts ts m → is_none (get (slice_cmp nat_cmp) m own) ≡ not (list_any (bytes_eq own) ts)
absent_title ts m own firsts = ap is_none (firsts own) ∙ other (place_of own ts) ∙ ap not (place_of-among own ts)
  where
    other : (o : Option ℕ) → is_none o ≡ not (is_some o)
    other None = refl
    other (Some n) = refl

-- what is borrowed is there where its value is
pub copied_some : (found : Option (Bor ℕ)) → is_some (option_copied found) ≡ is_some found
copied_some None = refl
copied_some (Some n) = refl

pub told_none : (found : Option (Bor ℕ)) (o : Option ℕ) (none : Bool) → is_some found ≡ not none → option_copied found ≡ o → none ≡ is_none o
told_none found o none told same = back none (is_some o) (sym (ap is_some same) ∙ copied_some found ∙ told) ∙ other o
  where
    back : (none there : Bool) → there ≡ not none → none ≡ not there
    back true there h = ap not (sym h)
    back false there h = ap not (sym h)

    other : (o : Option ℕ) → not (is_some o) ≡ is_none o
    other None = refl
    other (Some n) = refl

-- What is kept for one organisation, and for every other, when one part is written.
use Rattle.std.proofs.Common.{◌≡◌, true, false, cond, ℕ, List, [], ◌∷◌, ◌++◌, append-nil, map, subst, Option, None, Some, unwrap_or, bytes_eq, sym, ap, refl, ◌∙◌}
use Rattle.std.specs.Cmp.Lexicographic.{nat_list_eq_equiv, bytes_decides}
use Rattle.std.specs.List.{IsDistinct}
use Rattle.std.specs.Map.{lookup, keys_of}
use Rattle.indexmap.specs.IndexMap.{insert_entry}
use Rattle.std.proofs.lemmas.Bool.{false_from_ne_true}
use Rattle.sandboxes.specs.Files.{Kept, KeptByName, none, kept_of, holding_of, OthersStay}
use Rattle.sandboxes.specs.Sums.{lists}
use Rattle.sandboxes.specs.Sandboxes.{Holding, nothing, awaits}
use Rattle.sandboxes.proofs.MapLemmas.{Entries, seen, get-seen, list_any-seen, Copying, Copying-more}

-- what is kept where a part is found
pub kept_found : (before : Entries Kept) (files : KeptByName) (org : List ℕ) (kept : Kept) → seen before ≡ files → Some kept ≡ lookup (bytes_eq org) before → kept_of files org ≡ kept
kept_found before files org kept is found =
    ap (λ (f : KeptByName). kept_of f org) (sym is) ∙ ap (λ (o : Option Kept). unwrap_or o none) (get-seen before org ∙ sym found)

-- and where none is found
pub kept_absent : (before : Entries Kept) (files : KeptByName) (org : List ℕ) → seen before ≡ files → None ≡ lookup (bytes_eq org) before → kept_of files org ≡ none
kept_absent before files org is absent =
    ap (λ (f : KeptByName). kept_of f org) (sym is) ∙ ap (λ (o : Option Kept). unwrap_or o none) (get-seen before org ∙ sym absent)

-- the part that was written is there
pub kept_written : (before after : Entries Kept) (org : List ℕ) (new : Kept) → ((q : List ℕ) → lookup (bytes_eq q) after ≡ cond (bytes_eq org q) (Some new) (lookup (bytes_eq q) before))
    → kept_of (seen after) org ≡ new
kept_written before after org new written =
    ap (λ (o : Option Kept). unwrap_or o none) (get-seen after org ∙ written org ∙ ap (λ b. cond b (Some new) (lookup (bytes_eq org) before)) (nat_list_eq_equiv.refl org))

-- and every other is as it was
pub others_written : (before after : Entries Kept) (files : KeptByName) (org : List ℕ) (new : Kept) → seen before ≡ files
    → ((q : List ℕ) → lookup (bytes_eq q) after ≡ cond (bytes_eq org q) (Some new) (lookup (bytes_eq q) before))
    → OthersStay org files (seen after)
others_written before after files org new is written name other =
    ap (λ (o : Option Kept). unwrap_or o none)
    (get-seen after name ∙ written name
    ∙ ap (λ b. cond b (Some new) (lookup (bytes_eq name) before)) (false_from_ne_true (bytes_eq org name) (λ same. other (sym ((bytes_decides org name).0 same))))
    ∙ sym (get-seen before name))
    ∙ ap (λ (f : KeptByName). kept_of f name) is

-- nothing awaits nothing
pub none_awaits : (sum : List ℕ) → awaits nothing sum ≡ false
unfolding IsDistinct
none_awaits sum = list_any-seen (λ sums. lists sums sum) [] tt

-- what an entry's organisation holds
abbrev pub held_by : List ℕ × Kept → List ℕ × Holding
held_by entry = (entry.0, entry.1.holding)

-- the entries of what is held, after one is put in
pub held-insert_entry : (es : Entries Kept) (org : List ℕ) (kept : Kept) → map held_by (insert_entry bytes_eq es org kept) ≡ insert_entry bytes_eq (map held_by es) org kept.holding
held-insert_entry [] org kept = refl
held-insert_entry (e ∷ es) org kept =
    elim (bytes_eq org e.0) as (λ b. map held_by (cond b ((e.0, kept) ∷ es) (e ∷ insert_entry bytes_eq es org kept)) ≡ cond b ((e.0, kept.holding) ∷ map held_by es) (held_by e ∷ insert_entry bytes_eq (map held_by es) org kept.holding)) [
      | true ↦ refl
      | false ↦ ap (λ rest. held_by e ∷ rest) (held-insert_entry es org kept)
    ]

-- what an organisation holds, by the entries of what is held
lookup-held : (es : Entries Kept) (org : List ℕ) → (unwrap_or (lookup (bytes_eq org) es) none).holding ≡ unwrap_or (lookup (bytes_eq org) (map held_by es)) nothing
lookup-held [] org = refl
lookup-held (e ∷ es) org =
    elim (bytes_eq org e.0) as (λ b. (unwrap_or (cond b (Some e.1) (lookup (bytes_eq org) es)) none).holding ≡ unwrap_or (cond b (Some e.1.holding) (lookup (bytes_eq org) (map held_by es))) nothing) [
      | true ↦ refl
      | false ↦ lookup-held es org
    ]

-- entries of which as much is held
pub same_holdings : (es fs : Entries Kept) (name : List ℕ) → map held_by es ≡ map held_by fs → holding_of (seen es) name ≡ holding_of (seen fs) name
same_holdings es fs name same =
    ap (λ (o : Option Kept). (unwrap_or o none).holding) (get-seen es name)
    ∙ lookup-held es name
    ∙ ap (λ (hs : Entries Holding). unwrap_or (lookup (bytes_eq name) hs) nothing) same
    ∙ sym (lookup-held fs name)
    ∙ ap (λ (o : Option Kept). (unwrap_or o none).holding) (sym (get-seen fs name))

keys-held : (es : Entries Kept) → keys_of (map held_by es) ≡ keys_of es
keys-held [] = refl
keys-held (e ∷ es) = ap (λ ks. e.0 ∷ ks) (keys-held es)

-- a copy begins with nothing
pub copying_begins : (all done : Entries Kept) → done ≡ [] → IsDistinct bytes_eq (keys_of all) → Copying (map held_by all) (map held_by done) (map held_by all)
copying_begins all done nothing_yet distinct = record {
  whole = ap (λ (es : Entries Kept). map held_by es ++ map held_by all) nothing_yet;
  distinct = subst (λ (es : Entries Kept). IsDistinct bytes_eq (keys_of (map held_by es ++ map held_by all))) (sym nothing_yet)
      (subst (IsDistinct bytes_eq) (sym (keys-held all)) distinct);
}

-- one organisation more is copied
pub copying_on : (all done rest now : Entries Kept) (org copied : List ℕ) (kept same : Kept) → Copying (map held_by all) (map held_by done) (map held_by ((org, kept) ∷ rest))
    → copied ≡ org → same.holding ≡ kept.holding → now ≡ insert_entry bytes_eq done copied same → Copying (map held_by all) (map held_by now) (map held_by rest)
copying_on all done rest now org copied kept same before equal_name equal_holding inserted =
    Copying-more (map held_by all) (map held_by done) (map held_by rest) (map held_by now) org copied kept.holding same.holding before equal_name equal_holding
    (ap (map held_by) inserted ∙ held-insert_entry done copied same)

-- and ends with all
pub copying_ends : (all done left : Entries Kept) → Copying (map held_by all) (map held_by done) (map held_by left) → left ≡ [] → map held_by done ≡ map held_by all
copying_ends all done left copying over =
    sym (append-nil (map held_by done)) ∙ ap (λ (es : Entries Kept). map held_by done ++ map held_by es) (sym over) ∙ copying.whole

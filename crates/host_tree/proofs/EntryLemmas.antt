-- What stands at each path after a change, and that a host stays one.
use Rattle.std.proofs.Common.{◌≡◌, Bor, ◌⊎◌, inl, inr, ℕ, Bool, true, false, cond, not, ◌||◌, IsTrue, List, Option, Some, None, bytes_eq, option_map, refl, sym, ap, subst, ◌∙◌}
use Rattle.std.specs.Option.{option_copied}
use Rattle.std.proofs.lemmas.Bool.{or_cases, or_right, true≢false}
use Rattle.std.proofs.lemmas.Cmp.{nat_list_cmp_total}
use Rattle.std.specs.Cmp.Lexicographic.{bytes_decides}
use Rattle.std.specs.FinMap as finite
use Rattle.std.specs.FinMap.{get-insert, get-remove, get-retain_keys, same_map, slice_cmp-IsAntisymmetric, nat_cmp-IsAntisymmetric}
use Rattle.doc_tree.proofs.Maps.{eq_by_cmp-text}
use Rattle.host_tree.specs.Acts.{CanRemove, written, moded, with_file, with_directory, with_link, with_mode, with_mode_at, without, IsReached, IsFileOrNone, CanWrite, CanMake}
use Rattle.host_tree.specs.Entries.{Entries, at, IsDirectory, IsHost}
use Rattle.host_tree.specs.Image.{CanPut}
use Rattle.host_tree.specs.Paths.{is_normal, is_above}
use Rattle.host_tree.specs.declared.entry.Entry.{Entry}
use Rattle.host_tree.specs.declared.entry.Entry.TheVariants.{File, Directory, Link}
use Rattle.host_tree.proofs.PathLemmas.{above-trans}

-- ---- what stands at each path

-- two hosts that have the same at each path are the same
pub same_host : (one other : Entries) → ((q : List ℕ) → at one q ≡ at other q) → one ≡ other
same_host one other same = same_map nat_list_cmp_total (slice_cmp-IsAntisymmetric nat_cmp-IsAntisymmetric) one other same

pub at-put : (path : List ℕ) (entry : Entry) (host : Entries) (q : List ℕ) → at (finite.insert host path entry) q ≡ cond (bytes_eq q path) (Some entry) (at host q)
at-put path entry host q = get-insert nat_list_cmp_total host path entry q ∙ ap (λ (b : Bool). cond b (Some entry) (at host q)) (eq_by_cmp-text q path)

pub at-with_file : (path content : List ℕ) (host : Entries) (q : List ℕ) → at (with_file path content host) q ≡ cond (bytes_eq q path) (Some (written content (at host path))) (at host q)
at-with_file path content host q = at-put path (written content (at host path)) host q

pub at-with_directory : (path : List ℕ) (host : Entries) (q : List ℕ) → at (with_directory path host) q ≡ cond (bytes_eq q path) (Some (Directory 493)) (at host q)
at-with_directory path host q = at-put path (Directory 493) host q

pub at-with_link : (path to : List ℕ) (host : Entries) (q : List ℕ) → at (with_link path to host) q ≡ cond (bytes_eq q path) (Some (Link to)) (at host q)
at-with_link path to host q = at-put path (Link to) host q

same_none : (b : Bool) (path q : List ℕ) (host : Entries) → bytes_eq q path ≡ b → at host path ≡ None → at host q ≡ cond b None (at host q)
same_none true path q host is none = ap (at host) ((bytes_decides q path).0 is) ∙ none
same_none false path q host is none = refl

with_mode-at : (found : Option Entry) (path : List ℕ) (mode : ℕ) (host : Entries) (q : List ℕ) → at host path ≡ found
    → at (with_mode_at found path mode host) q ≡ cond (bytes_eq q path) (option_map (moded mode) found) (at host q)
with_mode-at None path mode host q is = same_none (bytes_eq q path) path q host refl is
with_mode-at (Some entry) path mode host q is = at-put path (moded mode entry) host q

pub at-with_mode : (path : List ℕ) (mode : ℕ) (host : Entries) (q : List ℕ) → at (with_mode path mode host) q ≡ cond (bytes_eq q path) (option_map (moded mode) (at host path)) (at host q)
at-with_mode path mode host q = with_mode-at (at host path) path mode host q refl

-- the path itself, or below it
abbrev pub is_within : List ℕ → List ℕ → Bool
is_within path q = bytes_eq path q || is_above path q

turned : (b : Bool) (found : Option Entry) → cond (not b) found None ≡ cond b None found
turned true found = refl
turned false found = refl

pub at-without : (path : List ℕ) (host : Entries) (q : List ℕ) → at (without path host) q ≡ cond (is_within path q) None (at host q)
at-without path host q =
    get-retain_keys host (λ (other : List ℕ). not (is_within path other)) q
    (λ x tied. ap (λ (other : List ℕ). not (is_within path other)) (sym (slice_cmp-IsAntisymmetric nat_cmp-IsAntisymmetric q x tied)))
    ∙ turned (is_within path q) (at host q)

pub at-removed : (path : List ℕ) (host : Entries) (q : List ℕ) → at (finite.remove host path) q ≡ cond (bytes_eq q path) None (at host q)
at-removed path host q = get-remove nat_list_cmp_total host path q ∙ ap (λ (b : Bool). cond b None (at host q)) (eq_by_cmp-text q path)

-- ---- a host stays a host

directory-put : (b : Bool) (path q : List ℕ) (entry : Entry) (host : Entries) → bytes_eq q path ≡ b → (IsDirectory (at host path) → IsDirectory (Some entry))
    → IsDirectory (at host q) → IsDirectory (cond b (Some entry) (at host q))
directory-put true path q entry host is keeps was = keeps (subst (λ (p : List ℕ). IsDirectory (at host p)) ((bytes_decides q path).0 is) was)
directory-put false path q entry host is keeps was = was

-- a directory stays one where an entry is put that keeps it
stays_directory : (path q : List ℕ) (entry : Entry) (host : Entries) → (IsDirectory (at host path) → IsDirectory (Some entry)) → IsDirectory (at host q) → IsDirectory (at (finite.insert host path entry) q)
stays_directory path q entry host keeps was = subst IsDirectory (sym (at-put path entry host q)) (directory-put (bytes_eq q path) path q entry host refl keeps was)

host-put_at : (b : Bool) (path q : List ℕ) (entry found : Entry) (host : Entries) → bytes_eq q path ≡ b → IsHost host → IsTrue (is_normal path) → IsReached host path
    → cond b (Some entry) (at host q) ≡ Some found → IsTrue (is_normal q) × IsReached host q
host-put_at true path q entry found host is whole normal reached has =
    subst (λ (p : List ℕ). IsTrue (is_normal p) × IsReached host p) (sym ((bytes_decides q path).0 is)) (normal, reached)
host-put_at false path q entry found host is whole normal reached has = whole q found has

pub host-put : (path : List ℕ) (entry : Entry) (host : Entries) → IsHost host → IsTrue (is_normal path) → IsReached host path → (IsDirectory (at host path) → IsDirectory (Some entry))
    → IsHost (finite.insert host path entry)
host-put path entry host whole normal reached keeps q found has =
    let parts = host-put_at (bytes_eq q path) path q entry found host refl whole normal reached (sym (at-put path entry host q) ∙ has) in
    (parts.0, λ above is. stays_directory path above entry host keeps (parts.1 above is))

none_directory : (found : Option Entry) (entry : Entry) → found ≡ None → IsDirectory found → IsDirectory (Some entry)
none_directory None entry is was = absurd was
none_directory (Some other) entry is was = absurd (subst (λ (o : Option Entry). cond_some o) is tt)
  where
    cond_some : Option Entry → Type 0
    cond_some None = ⊥
    cond_some (Some e) = Unit {0}

file_directory : (found : Option Entry) (entry : Entry) → IsFileOrNone found → IsDirectory found → IsDirectory (Some entry)
file_directory None entry is was = absurd was
file_directory (Some (File content mode)) entry is was = absurd was
file_directory (Some (Directory mode)) entry is was = absurd is
file_directory (Some (Link to)) entry is was = absurd was

pub can_put-written : (path : List ℕ) (entry : Entry) (host : Entries) → CanWrite host path → CanPut host path entry
can_put-written path entry host can = (can.0, file_directory (at host path) entry can.1)

pub can_put-made : (path : List ℕ) (entry : Entry) (host : Entries) → CanMake host path → CanPut host path entry
can_put-made path entry host can = (can.0, none_directory (at host path) entry can.1)

pub host-with_file : (path content : List ℕ) (host : Entries) → IsHost host → IsTrue (is_normal path) → CanWrite host path → IsHost (with_file path content host)
host-with_file path content host whole normal can = host-put path (written content (at host path)) host whole normal can.0 (file_directory (at host path) (written content (at host path)) can.1)

pub host-made : (path : List ℕ) (entry : Entry) (host : Entries) → IsHost host → IsTrue (is_normal path) → CanMake host path → IsHost (finite.insert host path entry)
host-made path entry host whole normal can = host-put path entry host whole normal can.0 (none_directory (at host path) entry can.1)

moded_directory : (mode : ℕ) (entry : Entry) → IsDirectory (Some entry) → IsDirectory (Some (moded mode entry))
moded_directory mode (File content before) is = is
moded_directory mode (Directory before) is = is
moded_directory mode (Link to) is = is

host-with_mode_at : (found : Option Entry) (path : List ℕ) (mode : ℕ) (host : Entries) → at host path ≡ found → IsHost host → IsHost (with_mode_at found path mode host)
host-with_mode_at None path mode host is whole = whole
host-with_mode_at (Some entry) path mode host is whole =
    let parts = whole path entry is in
    host-put path (moded mode entry) host whole parts.0 parts.1 (λ was. moded_directory mode entry (subst IsDirectory is was))

pub host-with_mode : (path : List ℕ) (mode : ℕ) (host : Entries) → IsHost host → IsHost (with_mode path mode host)
host-with_mode path mode host whole = host-with_mode_at (at host path) path mode host refl whole

-- what is gone takes what is below it along, so what stays has its parents
host-without_at : (b : Bool) (path above q : List ℕ) (host : Entries) → is_within path above ≡ b → is_above above q ≡ true → is_within path q ≡ false → IsDirectory (at host above)
    → IsDirectory (cond b None (at host above))
host-without_at true path above q host is below apart was = absurd (within (or_cases (bytes_eq path above) (is_above path above) is))
  where
    gone : is_above path q ≡ true → ⊥
    gone is = true≢false (sym (or_right (bytes_eq path q) (is_above path q) is) ∙ apart)

    within : (bytes_eq path above ≡ true) ⊎ (is_above path above ≡ true) → ⊥
    within (inl same) = gone (subst (λ (p : List ℕ). is_above p q ≡ true) (sym ((bytes_decides path above).0 same)) below)
    within (inr over) = gone (above-trans path above q over below)
host-without_at false path above q host is below apart was = was

kept_apart : (b : Bool) (found : Option Entry) (entry : Entry) → cond b None found ≡ Some entry → (b ≡ false) × (found ≡ Some entry)
kept_apart true found entry is = cc
kept_apart false found entry is = (refl, is)

pub host-without : (path : List ℕ) (host : Entries) → IsHost host → IsHost (without path host)
host-without path host whole q found has =
    let kept = kept_apart (is_within path q) (at host q) found (sym (at-without path host q) ∙ has) in
    let parts = whole q found kept.1 in
    (parts.0, λ above is. subst IsDirectory (sym (at-without path host above)) (host-without_at (is_within path above) path above q host refl is kept.0 (parts.1 above is)))

-- what a look at a map lends stands there, so it can be removed
pub removable : {lent : Bor Entry} (path : List ℕ) (host : Entries) (result : Option (Bor Entry)) → result ≡ Some lent → option_copied result ≡ at host path → IsReached host path → CanRemove host path
removable {lent = lent} path host result is value reached = (reached, (lent.now, sym value ∙ ap option_copied is))

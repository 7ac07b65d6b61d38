-- What the calls of one act make of a host.
use Rattle.std.proofs.Common.{◌≡◌, ◌≢◌, ℕ, Bool, true, false, cond, ◌==◌, ◌&&◌, ◌||◌, IsTrue, List, [], Option, Some, None, bytes_eq, refl, sym, ap, subst, ◌∙◌}
use Rattle.std.proofs.lemmas.Bool.{eqb-true, true≢false}
use Rattle.std.specs.Cmp.Lexicographic.{bytes_decides}
use Rattle.host_tree.proofs.EntryLemmas.{at-with_directory, at-with_file, at-with_link, at-with_mode, at-without}
use Rattle.host_tree.proofs.PathLemmas.{above-itself}
use Rattle.host_tree.specs.Acts.{IsReached, entry_of, with_directory, with_file, with_link, with_mode, without, written}
use Rattle.host_tree.specs.Entries.{Entries, at, IsDirectory, IsHost}
use Rattle.host_tree.specs.Paths.{is_above, is_normal}
use Rattle.host_tree.specs.declared.entry.Entry.{Entry}
use Rattle.host_tree.specs.declared.entry.Entry.TheVariants.{File, Directory, Link}
use Rattle.host_tree.specs.declared.seen.Seen.{Seen}
use Rattle.host_tree.specs.declared.seen.Seen.TheVariants.{Absent, LinkThere}
use Rattle.host_acts.specs.Acts.{Updates, entry_after, given, makes_prefixes, or_directory, other_after, removes_below}
use Rattle.host_acts.specs.Changes.{Becomes, IsDirectoryOrNone, IsNoDirectory, IsUnlinked, KeepsOthers, SetsDue, Stands, content_put, directory_with, file_put, is_kept, text_of, unlinked, with_due}
use Rattle.host_acts.specs.Steps.{fits_mode, fits_text}
use Rattle.host_acts.specs.Tasks.{Task, Work, make_file, make_missing_file, remove_file, make_directory, remove_directory, make_link, remove_link, want_of}
use Rattle.host_acts.specs.Wants.{Fits, IsWanted}
use Rattle.host_acts.proofs.PrefixLemmas.{bytes_apart}
use Rattle.host_acts.proofs.StepLemmas.{lets-directory}

bytes_same : (path : List ℕ) → bytes_eq path path ≡ true
bytes_same path = (bytes_decides path path).1 refl

pub not_above : (prefix path : List ℕ) → is_above prefix path ≡ true → prefix ≢ path
not_above prefix path above same = true≢false (sym above ∙ ap (λ (p : List ℕ). is_above p path) same ∙ above-itself path)

-- a path is reached still where the other paths are kept
pub reached-kept : (path : List ℕ) (host new : Entries) → KeepsOthers path host new → IsReached host path → IsReached new path
reached-kept path host new kept reached prefix above = subst IsDirectory (sym (kept prefix (not_above prefix path above))) (reached prefix above)

-- ---- each call

put_here : (path : List ℕ) (one other : Option Entry) → cond (bytes_eq path path) one other ≡ one
put_here path one other = ap (λ (b : Bool). cond b one other) (bytes_same path)

put_there : (path q : List ℕ) (one other : Option Entry) → q ≢ path → cond (bytes_eq q path) one other ≡ other
put_there path q one other apart = ap (λ (b : Bool). cond b one other) (bytes_apart q path apart)

pub becomes-file : (path content : List ℕ) (host : Entries) → Becomes path (Some (written content (at host path))) host (with_file path content host)
becomes-file path content host = record {
  here = at-with_file path content host path ∙ put_here path _ _;
  others = λ other apart. at-with_file path content host other ∙ put_there path other _ _ apart;
}

pub becomes-directory : (path : List ℕ) (host : Entries) → Becomes path (Some (Directory 493)) host (with_directory path host)
becomes-directory path host = record {
  here = at-with_directory path host path ∙ put_here path _ _;
  others = λ other apart. at-with_directory path host other ∙ put_there path other _ _ apart;
}

pub becomes-link : (path to : List ℕ) (host : Entries) → Becomes path (Some (Link to)) host (with_link path to host)
becomes-link path to host = record {
  here = at-with_link path to host path ∙ put_here path _ _;
  others = λ other apart. at-with_link path to host other ∙ put_there path other _ _ apart;
}

pub sets-mode : (path : List ℕ) (mode : ℕ) (host : Entries) → SetsDue path (Some mode) host (with_mode path mode host)
sets-mode path mode host = record {
  here = at-with_mode path mode host path ∙ put_here path _ _;
  others = λ other apart. at-with_mode path mode host other ∙ put_there path other _ _ apart;
}

-- where a host has no directory, nothing is below
pub nothing_below : (host : Entries) (path q : List ℕ) → IsHost host → (IsDirectory (at host path) → ⊥) → is_above path q ≡ true → at host q ≡ None
nothing_below host path q whole lacks below = by (at host q) refl
  where
    by : (entry : Option Entry) → at host q ≡ entry → at host q ≡ None
    by None is = is
    by (Some entry) is = absurd (lacks ((whole q entry is).1 path below))

within_at : (path q : List ℕ) (b : Bool) (one : Option Entry) → q ≢ path → is_above path q ≡ b → cond (bytes_eq path q || is_above path q) None one ≡ cond b None one
within_at path q b one apart is =
    ap (λ (s : Bool). cond (s || is_above path q) None one) (bytes_apart path q (λ same. apart (sym same))) ∙ ap (λ (s : Bool). cond s None one) is

pub without_here : (path : List ℕ) (host : Entries) → at (without path host) path ≡ None
without_here path host = at-without path host path ∙ ap (λ (b : Bool). cond (b || is_above path path) None (at host path)) (bytes_same path)

-- removing what is no directory changes its path alone
pub becomes-none : (path : List ℕ) (host : Entries) → IsHost host → (IsDirectory (at host path) → ⊥) → Becomes path None host (without path host)
becomes-none path host whole lacks = record {
  here = without_here path host;
  others = λ other apart. at-without path host other ∙ by other apart (is_above path other) refl;
}
  where
    by : (other : List ℕ) → other ≢ path → (b : Bool) → is_above path other ≡ b → cond (bytes_eq path other || is_above path other) None (at host other) ≡ at host other
    by other apart true is = within_at path other true (at host other) apart is ∙ sym (nothing_below host path other whole lacks is)
    by other apart false is = within_at path other false (at host other) apart is

-- ---- an act's work as a change at one path

pub kept_then : (path : List ℕ) (host mid new : Entries) → KeepsOthers path host mid → KeepsOthers path mid new → KeepsOthers path host new
kept_then path host mid new one other q apart = other q apart ∙ one q apart

pub becomes_then : (path : List ℕ) (one other : Option Entry) (host mid new : Entries) → Becomes path one host mid → Becomes path other mid new → Becomes path other host new
becomes_then path one other host mid new first second = record { here = second.here; others = kept_then path host mid new first.others second.others }

given-differs : (content : Option (List ℕ)) (before : List ℕ) → fits_text content before ≡ false → given content [] ≡ given content before
given-differs None before is = absurd (true≢false is)
given-differs (Some text) before is = refl

pub new-content : (content : Option (List ℕ)) (entry : Option Entry) → IsNoDirectory entry → is_kept content entry ≡ false → content_put content entry ≡ Some (written (text_of content) (unlinked entry))
new-content content None lacks is = refl
new-content content (Some (File d n)) lacks is = ap (λ (t : List ℕ). Some (File t n)) (sym (given-differs content d is))
new-content content (Some (Directory n)) lacks is = absurd lacks
new-content content (Some (Link t)) lacks is = refl

-- ---- what the calls make is what the work makes

-- a mode that is due is the one that is given
file-due : (content : List ℕ) (mode : Option ℕ) (bits : ℕ) → with_due (cond (fits_mode mode bits) None mode) (File content bits) ≡ File content (given mode bits)
file-due content None bits = refl
file-due content (Some mode) bits = by (mode == bits) refl
  where
    by : (b : Bool) → (mode == bits) ≡ b → with_due (cond (mode == bits) None (Some mode)) (File content bits) ≡ File content mode
    by true is = ap (λ (t : Bool). with_due (cond t None (Some mode)) (File content bits)) is ∙ ap (File content) (sym (eqb-true mode bits is))
    by false is = ap (λ (t : Bool). with_due (cond t None (Some mode)) (File content bits)) is

directory-due : (mode : Option ℕ) (bits : ℕ) → with_due (cond (fits_mode mode bits) None mode) (Directory bits) ≡ Directory (given mode bits)
directory-due None bits = refl
directory-due (Some mode) bits = by (mode == bits) refl
  where
    by : (b : Bool) → (mode == bits) ≡ b → with_due (cond (mode == bits) None (Some mode)) (Directory bits) ≡ Directory mode
    by true is = ap (λ (t : Bool). with_due (cond t None (Some mode)) (Directory bits)) is ∙ ap Directory (sym (eqb-true mode bits is))
    by false is = ap (λ (t : Bool). with_due (cond t None (Some mode)) (Directory bits)) is

pub file-puts : (content : Option (List ℕ)) (mode : Option ℕ) (replaces : Bool) (entry : Option Entry) → IsNoDirectory entry → file_put content mode entry ≡ entry_after (make_file content mode replaces) entry
file-puts content None replaces None lacks = refl
file-puts content (Some m) replaces None lacks = refl
file-puts content mode replaces (Some (File d n)) lacks = ap Some (file-due (given content d) mode n)
file-puts content mode replaces (Some (Directory n)) lacks = absurd lacks
file-puts content None replaces (Some (Link t)) lacks = refl
file-puts content (Some m) replaces (Some (Link t)) lacks = refl

pub missing-puts : (content : Option (List ℕ)) (mode : Option ℕ) (entry : Option Entry) → entry ≡ None → file_put content mode entry ≡ entry_after (make_missing_file content mode) entry
missing-puts content mode entry is =
    ap (file_put content mode) is ∙ file-puts content mode false None tt ∙ ap (entry_after (make_missing_file content mode)) (sym is)

pub directory-puts : (mode : Option ℕ) (recursive : Bool) (entry : Option Entry) → IsDirectoryOrNone entry → directory_with mode entry ≡ entry_after (make_directory mode recursive) entry
directory-puts None recursive None fits = refl
directory-puts (Some m) recursive None fits = refl
directory-puts mode recursive (Some (File d n)) fits = absurd fits
directory-puts mode recursive (Some (Directory n)) fits = ap Some (directory-due mode n)
directory-puts mode recursive (Some (Link t)) fits = absurd fits

-- ---- what the work makes is what it wants

pub fits-given : {X : Type 0} (one : Option X) (before : X) → Fits one (given one before)
fits-given None before = tt
fits-given (Some x) before = refl

pub wanted-after : (work : Work) (entry : Option Entry) → IsWanted (want_of work) (entry_after work entry)
wanted-after (make_file c m r) None = (fits-given c [], fits-given m 420)
wanted-after (make_file c m r) (Some (File d n)) = (fits-given c d, fits-given m n)
wanted-after (make_file c m r) (Some (Directory n)) = (fits-given c [], fits-given m 420)
wanted-after (make_file c m r) (Some (Link t)) = (fits-given c [], fits-given m 420)
wanted-after (make_missing_file c m) None = (tt, tt)
wanted-after (make_missing_file c m) (Some (File d n)) = (tt, tt)
wanted-after (make_missing_file c m) (Some (Directory n)) = (tt, tt)
wanted-after (make_missing_file c m) (Some (Link t)) = (tt, tt)
wanted-after remove_file entry = tt
wanted-after (make_directory m r) None = fits-given m 493
wanted-after (make_directory m r) (Some (File d n)) = fits-given m 493
wanted-after (make_directory m r) (Some (Directory n)) = fits-given m n
wanted-after (make_directory m r) (Some (Link t)) = fits-given m 493
wanted-after (remove_directory r) entry = tt
wanted-after (make_link t) entry = refl
wanted-after remove_link entry = tt

-- a path that is changed alone keeps a host one, where a directory stays a directory
host-becomes : (path : List ℕ) (entry : Option Entry) (host new : Entries) → IsHost host → IsTrue (is_normal path) → IsReached host path → (IsDirectory (at host path) → IsDirectory entry) → Becomes path entry host new
    → IsHost new
host-becomes path entry host new whole normal reached keeps becomes q found has = by (bytes_eq q path) refl
  where
    directory : (above : List ℕ) → (b : Bool) → bytes_eq above path ≡ b → IsDirectory (at host above) → IsDirectory (at new above)
    directory above true same was =
        let is = (bytes_decides above path).0 same in
        subst (λ (p : List ℕ). IsDirectory (at new p)) (sym is) (subst IsDirectory (sym becomes.here) (keeps (subst (λ (p : List ℕ). IsDirectory (at host p)) is was)))
    directory above false apart was = subst IsDirectory (sym (becomes.others above (λ is. true≢false (sym ((bytes_decides above path).1 is) ∙ apart)))) was

    by : (b : Bool) → bytes_eq q path ≡ b → IsTrue (is_normal q) × ((above : List ℕ) → is_above above q ≡ true → IsDirectory (at new above))
    by true same =
        let is = (bytes_decides q path).0 same in (
          subst (λ (p : List ℕ). IsTrue (is_normal p)) (sym is) normal,
          λ above over. directory above (bytes_eq above path) refl (reached above (subst (λ (p : List ℕ). is_above above p ≡ true) is over)),
        )
    by false apart =
        let parts = whole q found (sym (becomes.others q (λ is. true≢false (sym ((bytes_decides q path).1 is) ∙ apart))) ∙ has) in
        (parts.0, λ above over. directory above (bytes_eq above path) refl (parts.1 above over))

-- at a path that is reached, work that removes nothing below it leaves the other paths
other-kept : (task : Task) (host : Entries) (q : List ℕ) → removes_below task.work ≡ false → IsReached host task.path → other_after task host q ≡ at host q
other-kept task host q removes reached =
    ap (λ (r : Bool). cond (r && is_above task.path q) None (cond (makes_prefixes task.work && is_above q task.path) (or_directory (at host q)) (at host q))) removes
    ∙ made (makes_prefixes task.work) (is_above q task.path) refl
  where
    there : (entry : Option Entry) → IsDirectory entry → or_directory entry ≡ entry
    there None is = absurd is
    there (Some entry) is = refl

    made : (m b : Bool) → is_above q task.path ≡ b → cond (m && b) (or_directory (at host q)) (at host q) ≡ at host q
    made false b is = refl
    made true false is = refl
    made true true is = there (at host q) (reached q is)

-- a host in which the work was done at its path, and no other path changed
pub updates-at : (task : Task) (host new : Entries) (entry : Option Entry) → IsHost host → IsTrue (is_normal task.path) → IsReached host task.path → removes_below task.work ≡ false → (IsDirectory (at host task.path) → IsDirectory entry)
    → entry ≡ entry_after task.work (at host task.path) → Becomes task.path entry host new → Updates task host new
updates-at task host new entry whole normal reached removes keeps is becomes = record {
  done = record {
    here = subst (IsWanted (want_of task.work)) (sym (becomes.here ∙ is)) (wanted-after task.work (at host task.path));
    above = λ prefix above. lets-directory (want_of task.work) (at new prefix) (reached-kept task.path host new becomes.others reached prefix above);
  };
  here = becomes.here ∙ is;
  elsewhere = λ path apart. becomes.others path apart ∙ sym (other-kept task host path removes reached);
  whole = host-becomes task.path entry host new whole normal reached keeps becomes;
}

-- ---- the calls of one act, by what was seen

becomes-as : (path : List ℕ) (one other : Option Entry) (host new : Entries) → one ≡ other → Becomes path one host new → Becomes path other host new
becomes-as path one other host new is becomes = subst (λ (e : Option Entry). Becomes path e host new) is becomes

link_no_directory : (to : List ℕ) (entry : Option Entry) → entry ≡ Some (Link to) → IsDirectory entry → ⊥
link_no_directory to entry is directory = subst IsDirectory is directory

pub unlinks : (path to : List ℕ) (seen : Seen) (host : Entries) → seen ≡ LinkThere to → Stands path seen host → Becomes path (unlinked (entry_of seen)) host (without path host)
unlinks path to seen host is stands =
    becomes-as path None (unlinked (entry_of seen)) host (without path host) (sym (ap (λ (s : Seen). unlinked (entry_of s)) is))
    (becomes-none path host stands.whole (link_no_directory to (at host path) (stands.here ∙ ap entry_of is)))

pub makes_absent : (path : List ℕ) (seen : Seen) (host : Entries) → seen ≡ Absent → Becomes path (or_directory (entry_of seen)) host (with_directory path host)
makes_absent path seen host is =
    becomes-as path (Some (Directory 493)) (or_directory (entry_of seen)) host (with_directory path host) (sym (ap (λ (s : Seen). or_directory (entry_of s)) is)) (becomes-directory path host)

pub sets_due : (path : List ℕ) (mode : ℕ) (due : Option ℕ) (host : Entries) → due ≡ Some mode → SetsDue path due host (with_mode path mode host)
sets_due path mode due host is = subst (λ (d : Option ℕ). SetsDue path d host (with_mode path mode host)) (sym is) (sets-mode path mode host)

pub puts_content : (path : List ℕ) (content : Option (List ℕ)) (entry : Option Entry) (host : Entries) → IsNoDirectory entry → is_kept content entry ≡ false → IsUnlinked path entry host
    → Becomes path (content_put content entry) host (with_file path (text_of content) host)
puts_content path content entry host lacks kept stands =
    becomes-as path (Some (written (text_of content) (at host path))) (content_put content entry) host (with_file path (text_of content) host)
    (ap (λ (e : Option Entry). Some (written (text_of content) e)) stands.here ∙ sym (new-content content entry lacks kept)) (becomes-file path (text_of content) host)

pub relinks : (path to : List ℕ) (entry : Option Entry) (host mid : Entries) → Becomes path entry host mid → Becomes path (Some (Link to)) host (with_link path to mid)
relinks path to entry host mid first = becomes_then path entry (Some (Link to)) host mid (with_link path to mid) first (becomes-link path to mid)

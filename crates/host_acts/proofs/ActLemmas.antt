-- What each kind of work meets where it is to change something, and what it makes.
use Rattle.std.proofs.Common.{◌≡◌, ◌≢◌, ℕ, Bool, true, false, cond, ◌||◌, List, Option, Some, None, Result, OnOk, refl, sym, ap, subst, ◌∙◌}
use Rattle.std.proofs.lemmas.Bool.{true≢false}
use Rattle.host_tree.proofs.EntryLemmas.{at-without, host-without}
use Rattle.host_tree.proofs.PathLemmas.{above-trans, above-itself}
use Rattle.host_tree.specs.Acts.{entry_of, without}
use Rattle.host_tree.specs.Entries.{Entries, at, IsDirectory}
use Rattle.host_tree.specs.Paths.{is_above}
use Rattle.host_tree.specs.Told.{Told, Tells}
use Rattle.host_tree.specs.declared.entry.Entry.{Entry}
use Rattle.host_tree.specs.declared.entry.Entry.TheVariants.{File, Directory, Link}
use Rattle.host_tree.specs.declared.seen.Seen.{Seen}
use Rattle.host_acts.specs.Acts.{Updates, cause_here, entry_after, is_removal, other_after, removes_below}
use Rattle.host_acts.specs.Changes.{Becomes, IsDirectoryOrNone, IsLinkOrNone, IsNoDirectory, Stands, directory_with, file_put}
use Rattle.host_acts.specs.Steps.{is_filled, step_seen}
use Rattle.host_acts.specs.Tasks.{Work, make_file, make_missing_file, remove_file, make_directory, remove_directory, make_link, remove_link, task_at, want_of}
use Rattle.host_acts.specs.Wants as wants
use Rattle.host_acts.specs.Wants.{IsWanted}
use Rattle.host_acts.specs.declared.steps.Step.TheVariants.{Changes}
use Rattle.host_acts.proofs.ChangeLemmas.{without_here, becomes-none, directory-puts, file-puts, missing-puts, not_above, updates-at}
use Rattle.host_acts.proofs.KeptLemmas.{none_true}
use Rattle.host_acts.proofs.PrefixLemmas.{bytes_apart}
use Rattle.host_acts.proofs.StepLemmas.{lets-directory, none_some, says-changes}
use Rattle.host_acts.proofs.TellsLemmas.{on_ok, tells_map}

-- a file or a link stands there
IsFileOrLink : Option Entry → Type 0
IsFileOrLink None = ⊥
IsFileOrLink (Some (File content mode)) = Unit {0}
IsFileOrLink (Some (Directory mode)) = ⊥
IsFileOrLink (Some (Link to)) = Unit {0}

-- what work may meet where it is to change something
Meets : Work → Option Entry → Type 0
Meets (make_file c m r) entry = IsNoDirectory entry
Meets (make_missing_file c m) entry = entry ≡ None
Meets remove_file entry = IsFileOrLink entry
Meets (make_directory m r) entry = IsDirectoryOrNone entry
Meets (remove_directory r) entry = IsDirectory entry
Meets (make_link t) entry = IsLinkOrNone entry
Meets remove_link entry = IsFileOrLink entry

meets : (work : Work) (below : Bool) (entry : Option Entry) → (IsWanted (want_of work) entry → ⊥) → cause_here work below entry ≡ None → Meets work entry
unfolding Meets IsFileOrLink
meets (make_file c m r) below None apart is = tt
meets (make_file c m r) below (Some (File d n)) apart is = tt
meets (make_file c m r) below (Some (Directory n)) apart is = cc
meets (make_file c m r) below (Some (Link t)) apart is = tt
meets (make_missing_file c m) below None apart is = refl
meets (make_missing_file c m) below (Some (File d n)) apart is = absurd (apart (tt, tt))
meets (make_missing_file c m) below (Some (Directory n)) apart is = cc
meets (make_missing_file c m) below (Some (Link t)) apart is = cc
meets remove_file below None apart is = absurd (apart tt)
meets remove_file below (Some (File d n)) apart is = tt
meets remove_file below (Some (Directory n)) apart is = cc
meets remove_file below (Some (Link t)) apart is = tt
meets (make_directory m r) below None apart is = tt
meets (make_directory m r) below (Some (File d n)) apart is = cc
meets (make_directory m r) below (Some (Directory n)) apart is = tt
meets (make_directory m r) below (Some (Link t)) apart is = cc
meets (remove_directory r) below None apart is = absurd (apart tt)
meets (remove_directory r) below (Some (File d n)) apart is = cc
meets (remove_directory r) below (Some (Directory n)) apart is = tt
meets (remove_directory r) below (Some (Link t)) apart is = cc
meets (make_link u) below None apart is = tt
meets (make_link u) below (Some (File d n)) apart is = cc
meets (make_link u) below (Some (Directory n)) apart is = cc
meets (make_link u) below (Some (Link t)) apart is = tt
meets remove_link below None apart is = absurd (apart tt)
meets remove_link below (Some (File d n)) apart is = cc
meets remove_link below (Some (Directory n)) apart is = cc
meets remove_link below (Some (Link t)) apart is = tt

meets_seen : (work : Work) (seen : Seen) → step_seen work seen ≡ Changes → Meets work (entry_of seen)
meets_seen work seen is = let both = says-changes work seen is in meets work (is_filled seen) (entry_of seen) both.0 both.1

-- ---- work by kind

-- ---- removals

file_or_link : (entry : Option Entry) → IsFileOrLink entry → IsDirectory entry → ⊥
unfolding IsFileOrLink
file_or_link None is directory = is
file_or_link (Some (File c m)) is directory = directory
file_or_link (Some (Directory m)) is directory = is
file_or_link (Some (Link t)) is directory = directory

without_elsewhere : (path : List ℕ) (r : Bool) (host : Entries) (q : List ℕ) → q ≢ path → at (without path host) q ≡ other_after (task_at path (remove_directory r)) host q
without_elsewhere path r host q apart = at-without path host q ∙ ap (λ (s : Bool). cond (s || is_above path q) None (at host q)) (bytes_apart path q (λ same. apart (sym same)))

without_above : (path : List ℕ) (host : Entries) (prefix : List ℕ) → is_above prefix path ≡ true → is_above path prefix ≡ false → at (without path host) prefix ≡ at host prefix
without_above path host prefix above apart =
    at-without path host prefix ∙ ap (λ (s : Bool). cond (s || is_above path prefix) None (at host prefix)) (bytes_apart path prefix (λ same. not_above prefix path above (sym same)))
    ∙ ap (λ (s : Bool). cond s None (at host prefix)) apart

not_under : (path prefix : List ℕ) → is_above prefix path ≡ true → is_above path prefix ≡ false
not_under path prefix above = by (is_above path prefix) refl
  where
    by : (b : Bool) → is_above path prefix ≡ b → is_above path prefix ≡ false
    by true is = absurd (true≢false (sym (above-trans prefix path prefix above is) ∙ above-itself prefix))
    by false is = is

update-no_directory : (path : List ℕ) (work : Work) (seen : Seen) (host : Entries) → removes_below work ≡ false → None ≡ entry_after work (at host path) → (IsDirectory (at host path) → ⊥) → Stands path seen host
    → Updates (task_at path work) host (without path host)
update-no_directory path work seen host removes is lacks stands =
    updates-at (task_at path work) host (without path host) None stands.whole stands.normal stands.reached removes (λ was. absurd (lacks was)) is (becomes-none path host stands.whole lacks)

no_directory : (work : Work) (path : List ℕ) (seen : Seen) (host : Entries) → IsFileOrLink (entry_of seen) → Stands path seen host → IsDirectory (at host path) → ⊥
no_directory work path seen host is stands directory = file_or_link (at host path) (subst IsFileOrLink (sym stands.here) is) directory

pub update-removed : (path : List ℕ) (work : Work) (seen : Seen) (host : Entries) → is_removal work ≡ true → step_seen work seen ≡ Changes → Stands path seen host → Updates (task_at path work) host (without path host)
unfolding Meets
update-removed path (make_file c m r) seen host removal changes stands = none_true removal
update-removed path (make_missing_file c m) seen host removal changes stands = none_true removal
update-removed path remove_file seen host removal changes stands = update-no_directory path remove_file seen host refl refl (no_directory remove_file path seen host (meets_seen remove_file seen changes) stands) stands
update-removed path (make_directory m r) seen host removal changes stands = none_true removal
update-removed path (remove_directory r) seen host removal changes stands = record {
  done = record {
    here = subst (IsWanted wants.absent) (sym (without_here path host)) tt;
    above = λ prefix above.
        lets-directory wants.absent (at (without path host) prefix) (subst IsDirectory (sym (without_above path host prefix above (not_under path prefix above))) (stands.reached prefix above));
  };
  here = without_here path host;
  elsewhere = λ q apart. without_elsewhere path r host q apart;
  whole = host-without path host stands.whole;
}
update-removed path (make_link t) seen host removal changes stands = none_true removal
update-removed path remove_link seen host removal changes stands = update-no_directory path remove_link seen host refl refl (no_directory remove_link path seen host (meets_seen remove_link seen changes) stands) stands

-- ---- what makes something

-- a directory that is changed stays one
keeps_directory : (work : Work) (entry : Option Entry) → Meets work entry → is_removal work ≡ false → IsDirectory entry → IsDirectory (entry_after work entry)
unfolding Meets
keeps_directory work None is makes was = absurd was
keeps_directory work (Some (File d n)) is makes was = absurd was
keeps_directory work (Some (Link t)) is makes was = absurd was
keeps_directory (make_file c m r) (Some (Directory n)) is makes was = absurd is
keeps_directory (make_missing_file c m) (Some (Directory n)) is makes was = none_some (Directory n) (sym is)
keeps_directory remove_file (Some (Directory n)) is makes was = none_true (sym makes)
keeps_directory (make_directory m r) (Some (Directory n)) is makes was = tt
keeps_directory (remove_directory r) (Some (Directory n)) is makes was = none_true (sym makes)
keeps_directory (make_link t) (Some (Directory n)) is makes was = absurd is
keeps_directory remove_link (Some (Directory n)) is makes was = none_true (sym makes)

makes_nothing_go : (work : Work) → is_removal work ≡ false → removes_below work ≡ false
makes_nothing_go (make_file c m r) makes = refl
makes_nothing_go (make_missing_file c m) makes = refl
makes_nothing_go remove_file makes = refl
makes_nothing_go (make_directory m r) makes = refl
makes_nothing_go (remove_directory r) makes = none_true (sym makes)
makes_nothing_go (make_link t) makes = refl
makes_nothing_go remove_link makes = refl

update-made : (path : List ℕ) (work : Work) (seen : Seen) (entry : Option Entry) (host new : Entries) → is_removal work ≡ false → step_seen work seen ≡ Changes → entry ≡ entry_after work (entry_of seen) → Stands path seen host
    → Becomes path entry host new → Updates (task_at path work) host new
update-made path work seen entry host new makes changes is stands becomes =
    let there : entry ≡ entry_after work (at host path) = is ∙ ap (entry_after work) (sym stands.here) in
    let met : Meets work (at host path) = subst (Meets work) (sym stands.here) (meets_seen work seen changes) in
    updates-at (task_at path work) host new entry stands.whole stands.normal stands.reached (makes_nothing_go work makes)
    (λ was. subst IsDirectory (sym there) (keeps_directory work (at host path) met makes was)) there becomes

pub update-file : (path : List ℕ) (content : Option (List ℕ)) (mode : Option ℕ) (replaces : Bool) (seen : Seen) (host new : Entries) → step_seen (make_file content mode replaces) seen ≡ Changes → Stands path seen host
    → Becomes path (file_put content mode (entry_of seen)) host new → Updates (task_at path (make_file content mode replaces)) host new
unfolding Meets
update-file path content mode replaces seen host new changes stands becomes =
    update-made path (make_file content mode replaces) seen (file_put content mode (entry_of seen)) host new refl changes
    (file-puts content mode replaces (entry_of seen) (meets_seen (make_file content mode replaces) seen changes)) stands becomes

pub update-missing : (path : List ℕ) (content : Option (List ℕ)) (mode : Option ℕ) (seen : Seen) (host new : Entries) → step_seen (make_missing_file content mode) seen ≡ Changes → Stands path seen host
    → Becomes path (file_put content mode (entry_of seen)) host new → Updates (task_at path (make_missing_file content mode)) host new
unfolding Meets
update-missing path content mode seen host new changes stands becomes =
    update-made path (make_missing_file content mode) seen (file_put content mode (entry_of seen)) host new refl changes
    (missing-puts content mode (entry_of seen) (meets_seen (make_missing_file content mode) seen changes)) stands becomes

pub update-directory : (path : List ℕ) (mode : Option ℕ) (recursive : Bool) (seen : Seen) (host new : Entries) → step_seen (make_directory mode recursive) seen ≡ Changes → Stands path seen host
    → Becomes path (directory_with mode (entry_of seen)) host new → Updates (task_at path (make_directory mode recursive)) host new
unfolding Meets
update-directory path mode recursive seen host new changes stands becomes =
    update-made path (make_directory mode recursive) seen (directory_with mode (entry_of seen)) host new refl changes
    (directory-puts mode recursive (entry_of seen) (meets_seen (make_directory mode recursive) seen changes)) stands becomes

pub update-link : (path to : List ℕ) (seen : Seen) (host new : Entries) → step_seen (make_link to) seen ≡ Changes → Stands path seen host → Becomes path (Some (Link to)) host new → Updates (task_at path (make_link to)) host new
update-link path to seen host new changes stands becomes = update-made path (make_link to) seen (Some (Link to)) host new refl changes refl stands becomes

-- a call that went well changed the path so, and with it the work was done
pub made_ok : {T E : Type 0} (path : List ℕ) (work made : Work) (seen : Seen) (entry : Option Entry) → work ≡ made → step_seen work seen ≡ Changes
    → (step_seen made seen ≡ Changes → (h n : Entries) → Stands path seen h → Becomes path entry h n → Updates (task_at path made) h n) → (a b : Option Entries) (r : Result T E)
    → Told a (Stands path seen) → OnOk r (Tells (Becomes path entry) a b) → OnOk r (Tells (Updates (task_at path work)) a b)
made_ok path work made seen entry is changes update a b r stands ok =
    subst (λ (w : Work). OnOk r (Tells (Updates (task_at path w)) a b)) (sym is)
    (on_ok (Tells (Becomes path entry) a b) (Tells (Updates (task_at path made)) a b) r
    (λ t. tells_map (Stands path seen) (Becomes path entry) (Updates (task_at path made)) (update (ap (λ (w : Work). step_seen w seen) (sym is) ∙ changes)) a b stands t) ok)

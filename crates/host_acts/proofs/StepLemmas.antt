-- What a step says of a host.
use Rattle.std.proofs.Common.{◌≡◌, ◌⊎◌, inl, inr, ℕ, ◌<◌, ◌≤◌, Bool, true, false, cond, not, ◌&&◌, ◌||◌, List, Option, Some, None, length, take, refl, sym, ap, subst, ◌∙◌, arith}
use Rattle.std.proofs.lemmas.Bool.{and_parts, eqb-true, eq-eqb, true≢false, cases_lt}
use Rattle.std.specs.Cmp.Lexicographic.{bytes_decides}
use Rattle.host_tree.specs.Acts.{IsReached, entry_of, sight}
use Rattle.host_tree.specs.Entries.{Entries, at, has_below, IsDirectory}
use Rattle.host_tree.specs.Paths.{is_above}
use Rattle.host_tree.specs.declared.entry.Entry.{Entry}
use Rattle.host_tree.specs.declared.entry.Entry.TheVariants.{File, Directory, Link}
use Rattle.host_tree.specs.declared.seen.Seen.{Seen}
use Rattle.host_acts.specs.Acts as act
use Rattle.host_acts.specs.Acts.{ActsTo, HasCause, IsDone, cause_above, cause_here, is_removal, makes_prefixes}
use Rattle.host_acts.specs.Scanning.{BreaksAt, obstacle_in}
use Rattle.host_acts.specs.Steps.{cause_over, fails_or_changes, fails_or_goes, fits_mode, fits_text, is_filled, is_wanted, step_here, step_over, step_seen}
use Rattle.host_acts.specs.Tasks.{Task, Work, make_file, make_missing_file, remove_file, make_directory, remove_directory, make_link, remove_link, want_of}
use Rattle.host_acts.specs.Wants as wants
use Rattle.host_acts.specs.Wants.{Fits, IsNoLink, IsWanted, LetsBe, Want}
use Rattle.host_acts.specs.declared.cause.Cause.{Cause}
use Rattle.host_acts.specs.declared.cause.Cause.TheVariants.{ParentMissing, NotADirectory, LinkInPath}
use Rattle.host_acts.specs.declared.scanning.Break.{Break}
use Rattle.host_acts.specs.declared.scanning.Obstacle.{Obstacle}
use Rattle.host_acts.specs.declared.scanning.Obstacle.TheVariants as over
use Rattle.host_acts.specs.declared.steps.Step.{Step}
use Rattle.host_acts.specs.declared.steps.Step.TheVariants.{Stays, Fails, Changes}
use Rattle.host_acts.specs.declared.verdict.Verdict.TheVariants.{UpToDate, Failed}
use Rattle.host_acts.proofs.KeptLemmas.{none_true, lets_directory}
use Rattle.host_acts.proofs.PrefixLemmas.{above-compared, above-same}

-- ---- what is wanted, by a test

pub fits_text-true : (content : Option (List ℕ)) (before : List ℕ) → fits_text content before ≡ true → Fits content before
fits_text-true None before is = tt
fits_text-true (Some text) before is = sym ((bytes_decides text before).0 is)

fits_text-is : (content : Option (List ℕ)) (before : List ℕ) → Fits content before → fits_text content before ≡ true
fits_text-is None before is = refl
fits_text-is (Some text) before is = (bytes_decides text before).1 (sym is)

pub fits_mode-true : (mode : Option ℕ) (before : ℕ) → fits_mode mode before ≡ true → Fits mode before
fits_mode-true None before is = tt
fits_mode-true (Some m) before is = sym (eqb-true m before is)

fits_mode-is : (mode : Option ℕ) (before : ℕ) → Fits mode before → fits_mode mode before ≡ true
fits_mode-is None before is = refl
fits_mode-is (Some m) before is = eq-eqb m before (sym is)

both_true : (a b : Bool) → a ≡ true → b ≡ true → (a && b) ≡ true
both_true a b p q = rw p q

pub is_wanted-true : (want : Want) (entry : Option Entry) → is_wanted want entry ≡ true → IsWanted want entry
is_wanted-true wants.absent None is = tt
is_wanted-true wants.absent (Some e) is = none_true is
is_wanted-true (wants.file c m) None is = none_true is
is_wanted-true (wants.file c m) (Some (File d n)) is = let parts = and_parts (fits_text c d) (fits_mode m n) is in (fits_text-true c d parts.0, fits_mode-true m n parts.1)
is_wanted-true (wants.file c m) (Some (Directory n)) is = none_true is
is_wanted-true (wants.file c m) (Some (Link t)) is = none_true is
is_wanted-true (wants.directory m) None is = none_true is
is_wanted-true (wants.directory m) (Some (File d n)) is = none_true is
is_wanted-true (wants.directory m) (Some (Directory n)) is = fits_mode-true m n is
is_wanted-true (wants.directory m) (Some (Link t)) is = none_true is
is_wanted-true (wants.link to) None is = none_true is
is_wanted-true (wants.link to) (Some (File d n)) is = none_true is
is_wanted-true (wants.link to) (Some (Directory n)) is = none_true is
is_wanted-true (wants.link to) (Some (Link t)) is = sym ((bytes_decides to t).0 is)

pub is_wanted-is : (want : Want) (entry : Option Entry) → IsWanted want entry → is_wanted want entry ≡ true
is_wanted-is wants.absent None is = refl
is_wanted-is wants.absent (Some e) is = absurd is
is_wanted-is (wants.file c m) None is = absurd is
is_wanted-is (wants.file c m) (Some (File d n)) is = both_true _ _ (fits_text-is c d is.0) (fits_mode-is m n is.1)
is_wanted-is (wants.file c m) (Some (Directory n)) is = absurd is
is_wanted-is (wants.file c m) (Some (Link t)) is = absurd is
is_wanted-is (wants.directory m) None is = absurd is
is_wanted-is (wants.directory m) (Some (File d n)) is = absurd is
is_wanted-is (wants.directory m) (Some (Directory n)) is = fits_mode-is m n is
is_wanted-is (wants.directory m) (Some (Link t)) is = absurd is
is_wanted-is (wants.link to) None is = absurd is
is_wanted-is (wants.link to) (Some (File d n)) is = absurd is
is_wanted-is (wants.link to) (Some (Directory n)) is = absurd is
is_wanted-is (wants.link to) (Some (Link t)) is = (bytes_decides to t).1 (sym is)

-- ---- what each step says of what is wanted and of the cause

-- what a step says
Says : Work → Bool → Option Entry → Step → Type 0
Says work below entry Stays = IsWanted (want_of work) entry
Says work below entry (Fails cause) = (IsWanted (want_of work) entry → ⊥) × (cause_here work below entry ≡ Some cause)
Says work below entry Changes = (IsWanted (want_of work) entry → ⊥) × (cause_here work below entry ≡ None)

not_wanted : (work : Work) (entry : Option Entry) → is_wanted (want_of work) entry ≡ false → IsWanted (want_of work) entry → ⊥
not_wanted work entry is wanted = true≢false (sym (is_wanted-is (want_of work) entry wanted) ∙ is)

says_cause : (work : Work) (below : Bool) (entry : Option Entry) (cause : Option Cause) → is_wanted (want_of work) entry ≡ false → cause_here work below entry ≡ cause → Says work below entry (fails_or_changes cause)
unfolding Says
says_cause work below entry None apart is = (not_wanted work entry apart, is)
says_cause work below entry (Some cause) apart is = (not_wanted work entry apart, is)

says_at : (work : Work) (below : Bool) (entry : Option Entry) (b : Bool) → is_wanted (want_of work) entry ≡ b → Says work below entry (cond b Stays (fails_or_changes (cause_here work below entry)))
unfolding Says
says_at work below entry true is = is_wanted-true (want_of work) entry is
says_at work below entry false is = says_cause work below entry (cause_here work below entry) is refl

says : (work : Work) (below : Bool) (entry : Option Entry) → Says work below entry (step_here work below entry)
says work below entry = says_at work below entry (is_wanted (want_of work) entry) refl

-- what is seen says what stands there, and whether something is below it matters at a directory alone
pub entry_of-sight : (below : Bool) (entry : Option Entry) → entry_of (sight below entry) ≡ entry
entry_of-sight below None = refl
entry_of-sight below (Some (File c m)) = refl
entry_of-sight below (Some (Directory m)) = refl
entry_of-sight below (Some (Link t)) = refl

twice_not : (b : Bool) → cond (not b) false true ≡ b
twice_not true = refl
twice_not false = refl

cause-sight : (work : Work) (below : Bool) (entry : Option Entry) → cause_here work (is_filled (sight below entry)) entry ≡ cause_here work below entry
cause-sight work below None = refl
cause-sight (make_file c m r) below (Some (File d n)) = refl
cause-sight (make_file c m r) below (Some (Link t)) = refl
cause-sight (make_missing_file c m) below (Some (File d n)) = refl
cause-sight (make_missing_file c m) below (Some (Link t)) = refl
cause-sight remove_file below (Some (File d n)) = refl
cause-sight remove_file below (Some (Link t)) = refl
cause-sight (make_directory m r) below (Some (File d n)) = refl
cause-sight (make_directory m r) below (Some (Link t)) = refl
cause-sight (remove_directory r) below (Some (File d n)) = refl
cause-sight (remove_directory r) below (Some (Link t)) = refl
cause-sight (make_link u) below (Some (File d n)) = refl
cause-sight (make_link u) below (Some (Link t)) = refl
cause-sight remove_link below (Some (File d n)) = refl
cause-sight remove_link below (Some (Link t)) = refl
cause-sight work below (Some (Directory n)) = ap (λ (b : Bool). cause_here work b (Some (Directory n))) (twice_not below)

pub step-sight : (work : Work) (below : Bool) (entry : Option Entry) → step_seen work (sight below entry) ≡ step_here work below entry
step-sight work below entry =
    ap (step_here work (is_filled (sight below entry))) (entry_of-sight below entry)
    ∙ ap (λ (c : Option Cause). cond (is_wanted (want_of work) entry) Stays (fails_or_changes c)) (cause-sight work below entry)

says_seen : (work : Work) (below : Bool) (entry : Option Entry) (step : Step) → step_seen work (sight below entry) ≡ step → Says work below entry step
says_seen work below entry step is = subst (Says work below entry) (sym (step-sight work below entry) ∙ is) (says work below entry)

pub says-changes : (work : Work) (seen : Seen) → step_seen work seen ≡ Changes → (IsWanted (want_of work) (entry_of seen) → ⊥) × (cause_here work (is_filled seen) (entry_of seen) ≡ None)
unfolding Says
says-changes work seen is = subst (Says work (is_filled seen) (entry_of seen)) is (says work (is_filled seen) (entry_of seen))

-- ---- at a path that is reached

-- no work has a cause where a directory stands above
pub cause_above-directory : (work : Work) (entry : Option Entry) → IsDirectory entry → cause_above work entry ≡ None
cause_above-directory work None is = absurd is
cause_above-directory work (Some (File c m)) is = absurd is
cause_above-directory work (Some (Directory m)) is = refl
cause_above-directory work (Some (Link t)) is = absurd is

pub lets-directory : (want : Want) (entry : Option Entry) → IsDirectory entry → LetsBe want entry
lets-directory want None is = absurd is
lets-directory want (Some (File c m)) is = absurd is
lets-directory want (Some (Directory m)) is = lets_directory want m
lets-directory want (Some (Link t)) is = absurd is

pub none_some : {X : Type 0} {P : Type 0} (x : X) → None ≡ Some x → P
none_some x is = cc

module _ (task : Task) (host : Entries) (reached : IsReached host task.path) where
  reached_causes : (prefix : List ℕ) → is_above prefix task.path ≡ true → cause_above task.work (at host prefix) ≡ None
  reached_causes prefix above = cause_above-directory task.work (at host prefix) (reached prefix above)

  pub reached_done : IsWanted (want_of task.work) (at host task.path) → IsDone host task
  reached_done here = record { here = here; above = λ prefix above. lets-directory (want_of task.work) (at host prefix) (reached prefix above) }

  pub stays_here : step_seen task.work (sight (has_below host task.path) (at host task.path)) ≡ Stays → ActsTo task UpToDate host host
  unfolding Says
  stays_here is = (reached_done (says_seen task.work (has_below host task.path) (at host task.path) Stays is), refl)

  pub fails_here : (cause : Cause) → step_seen task.work (sight (has_below host task.path) (at host task.path)) ≡ Fails cause → ActsTo task (Failed cause) host host
  unfolding Says
  fails_here cause is =
      let both = says_seen task.work (has_below host task.path) (at host task.path) (Fails cause) is in
      (λ (done : IsDone host task). both.0 done.here, act.here reached_causes both.1, refl)

  no_cause_at : (cause : Cause) → cause_here task.work (has_below host task.path) (at host task.path) ≡ None → HasCause host task cause → ⊥
  no_cause_at cause none (act.above prefix above is before) = none_some cause (sym (reached_causes prefix above) ∙ is)
  no_cause_at cause none (act.here clear is) = none_some cause (sym none ∙ is)

  pub changes_here : step_seen task.work (sight (has_below host task.path) (at host task.path)) ≡ Changes → (IsDone host task → ⊥) × ((cause : Cause) → HasCause host task cause → ⊥)
  unfolding Says
  changes_here is =
      let both = says_seen task.work (has_below host task.path) (at host task.path) Changes is in
      (λ (done : IsDone host task). both.0 done.here, λ cause has. no_cause_at cause both.1 has)

-- ---- where a proper prefix is no directory

abbrev pub place : Task → Break → List ℕ
place task found = take found.end task.path

no_obstacle : {P : Type 0} (entry : Option Entry) (o : Obstacle) → obstacle_in entry ≡ Some o → IsDirectory entry → P
no_obstacle None o is directory = absurd directory
no_obstacle (Some (File c m)) o is directory = absurd directory
no_obstacle (Some (Directory m)) o is directory = none_some o is
no_obstacle (Some (Link t)) o is directory = absurd directory

pub cause_above-over : (work : Work) (entry : Option Entry) (o : Obstacle) → obstacle_in entry ≡ Some o → cause_above work entry ≡ cause_over work o
cause_above-over work None o is = let same : over.Nothing ≡ o = cc in ap (cause_over work) same
cause_above-over work (Some (File c m)) o is = let same : over.File ≡ o = cc in ap (cause_over work) same
cause_above-over work (Some (Directory m)) o is = none_some o is
cause_above-over work (Some (Link t)) o is = let same : over.Link ≡ o = cc in ap (cause_over work) same

-- what a step says where there is an obstacle
SaysOver : Work → Obstacle → Step → Type 0
SaysOver work o Stays = (cause_over work o ≡ None) × (is_removal work ≡ true)
SaysOver work o (Fails cause) = cause_over work o ≡ Some cause
SaysOver work o Changes = (cause_over work o ≡ None) × (is_removal work ≡ false)

says_over_at : (work : Work) (o : Obstacle) (cause : Option Cause) (b : Bool) → cause_over work o ≡ cause → is_removal work ≡ b → SaysOver work o (fails_or_goes cause b)
unfolding SaysOver
says_over_at work o None true is removal = (is, removal)
says_over_at work o None false is removal = (is, removal)
says_over_at work o (Some cause) b is removal = is

says_over : (work : Work) (o : Obstacle) (step : Step) → step_over work o ≡ step → SaysOver work o step
says_over work o step is = subst (SaysOver work o) is (says_over_at work o (cause_over work o) (is_removal work) refl refl)

-- a step that changes something at an obstacle has no cause there and is no removal
pub changes-over : (work : Work) (o : Obstacle) → step_over work o ≡ Changes → (cause_over work o ≡ None) × (is_removal work ≡ false)
unfolding SaysOver
changes-over work o is = says_over work o Changes is

removal_wants : (work : Work) → is_removal work ≡ true → want_of work ≡ wants.absent
removal_wants (make_file c m r) is = none_true is
removal_wants (make_missing_file c m) is = none_true is
removal_wants remove_file is = refl
removal_wants (make_directory m r) is = none_true is
removal_wants (remove_directory r) is = refl
removal_wants (make_link t) is = none_true is
removal_wants remove_link is = refl

-- what is no removal lets directories alone be above its path
let_directory : (work : Work) (entry : Option Entry) → is_removal work ≡ false → LetsBe (want_of work) entry → IsDirectory entry
let_directory (make_file c m r) entry is lets = lets
let_directory (make_missing_file c m) entry is lets = lets
let_directory remove_file entry is lets = absurd (true≢false is)
let_directory (make_directory m r) entry is lets = lets
let_directory (remove_directory r) entry is lets = absurd (true≢false is)
let_directory (make_link t) entry is lets = lets
let_directory remove_link entry is lets = absurd (true≢false is)

no_link_over : (work : Work) (entry : Option Entry) (o : Obstacle) → obstacle_in entry ≡ Some o → cause_over work o ≡ None → IsNoLink entry
no_link_over work None o is none = tt
no_link_over work (Some (File c m)) o is none = tt
no_link_over work (Some (Directory m)) o is none = tt
no_link_over work (Some (Link t)) o is none = let same : o ≡ over.Link = cc in none_some LinkInPath (sym none ∙ ap (cause_over work) same)

directory_no_link : (entry : Option Entry) → IsDirectory entry → IsNoLink entry
directory_no_link None is = tt
directory_no_link (Some (File c m)) is = tt
directory_no_link (Some (Directory m)) is = tt
directory_no_link (Some (Link t)) is = absurd is

-- a cause of a removal at an obstacle is a link
removal_cause : (work : Work) (entry : Option Entry) (o : Obstacle) (cause : Cause) → is_removal work ≡ true → obstacle_in entry ≡ Some o → cause_over work o ≡ Some cause → IsNoLink entry → ⊥
removal_cause work None o cause removal is has free = let same : o ≡ over.Nothing = cc in none_some cause (sym (ap (λ (b : Bool). cond (b || makes_prefixes work) None (Some ParentMissing)) removal) ∙ sym (ap (cause_over work) same) ∙ has)
removal_cause work (Some (File c m)) o cause removal is has free = let same : o ≡ over.File = cc in none_some cause (sym (ap (λ (b : Bool). cond b None (Some NotADirectory)) removal) ∙ sym (ap (cause_over work) same) ∙ has)
removal_cause work (Some (Directory m)) o cause removal is has free = none_some o is
removal_cause work (Some (Link t)) o cause removal is has free = absurd free

lets_no_cause_at : (b : Bool) (work : Work) (entry : Option Entry) (o : Obstacle) (cause : Cause) → is_removal work ≡ b → obstacle_in entry ≡ Some o → cause_over work o ≡ Some cause → LetsBe (want_of work) entry → ⊥
lets_no_cause_at true work entry o cause removal is has lets = removal_cause work entry o cause removal is has (subst (λ (w : Want). LetsBe w entry) (removal_wants work removal) lets)
lets_no_cause_at false work entry o cause removal is has lets = no_obstacle entry o is (let_directory work entry removal lets)

module _ (task : Task) (host : Entries) (found : Break) (breaks : BreaksAt host task.path found) where
  -- below the obstacle nothing stands
  none_below_at : (q : List ℕ) (entry : Option Entry) → at host q ≡ entry → is_above (place task found) q ≡ true → entry ≡ None
  none_below_at q None is below = refl
  none_below_at q (Some entry) is below = no_obstacle (at host (place task found)) found.over breaks.over ((breaks.whole q entry is).1 (place task found) below)

  pub none_below : (q : List ℕ) → is_above (place task found) q ≡ true → at host q ≡ None
  none_below q below = none_below_at q (at host q) refl below

  pub none_here : at host task.path ≡ None
  none_here = none_below task.path breaks.prefix

  -- what holds of a directory, of the obstacle and of nothing holds of each proper prefix
  pub each_prefix : (P : Option Entry → Type 0) → ((entry : Option Entry) → IsDirectory entry → P entry) → P (at host (place task found)) → P None → (prefix : List ℕ) → is_above prefix task.path ≡ true → P (at host prefix)
  each_prefix P directories obstacle none prefix above = by (cases_lt (length prefix) (length (place task found)))
    where
      longer : (length prefix ≡ length (place task found)) ⊎ (length (place task found) < length prefix) → P (at host prefix)
      longer (inl same) = subst (λ (p : List ℕ). P (at host p)) (sym (above-same prefix (place task found) task.path above breaks.prefix same)) obstacle
      longer (inr more) = subst P (sym (none_below prefix (above-compared (place task found) prefix task.path breaks.prefix above more))) none

      by : (length prefix < length (place task found)) ⊎ (length (place task found) ≤ length prefix) → P (at host prefix)
      by (inl less) = directories (at host prefix) (breaks.before prefix (above-compared prefix (place task found) task.path above breaks.prefix less))
      by (inr more) = longer (equal_or_less more)
        where
          equal_or_less : length (place task found) ≤ length prefix → (length prefix ≡ length (place task found)) ⊎ (length (place task found) < length prefix)
          equal_or_less le = elim (cases_lt (length (place task found)) (length prefix)) [ inl less ↦ inr less | inr ge ↦ inl (omega arith) ]

  pub stays_over : step_over task.work found.over ≡ Stays → ActsTo task UpToDate host host
  unfolding SaysOver
  stays_over is =
      let both = says_over task.work found.over Stays is in
      let absence = removal_wants task.work both.1 in (
        record {
          here = subst (λ (w : Want). IsWanted w (at host task.path)) (sym absence) (subst (IsWanted wants.absent) (sym none_here) tt);
          above = λ prefix above. subst (λ (w : Want). LetsBe w (at host prefix)) (sym absence)
              (each_prefix IsNoLink directory_no_link (no_link_over task.work (at host (place task found)) found.over breaks.over both.0) tt prefix above);
        },
        refl,
      )

  pub fails_over : (cause : Cause) → step_over task.work found.over ≡ Fails cause → ActsTo task (Failed cause) host host
  unfolding SaysOver
  fails_over cause is =
      let has = says_over task.work found.over (Fails cause) is in (
        λ (done : IsDone host task). lets_no_cause_at (is_removal task.work) task.work (at host (place task found)) found.over cause refl breaks.over has (done.above (place task found) breaks.prefix),
        act.above (place task found) breaks.prefix (cause_above-over task.work (at host (place task found)) found.over breaks.over ∙ has)
            (λ before above. cause_above-directory task.work (at host before) (breaks.before before above)),
        refl,
      )

-- Missing prefixes, as they are made one by one, and an act behind them.
use Rattle.std.proofs.Common.{◌≡◌, ◌≢◌, ◌⊎◌, inl, inr, ℕ, ◌+◌, ◌<◌, ◌≤◌, Bool, true, false, cond, ◌&&◌, ◌||◌, ◌==◌, List, Option, Some, None, bytes_eq, length, take, get_or, refl, sym, ap, subst, ◌∙◌, arith}
use Rattle.std.proofs.lemmas.Bool.{true≢false, cases_lt, eqb-true, eq-eqb}
use Rattle.std.proofs.lemmas.List.{length-take-le}
use Rattle.std.specs.Cmp.Lexicographic.{bytes_decides}
use Rattle.host_tree.proofs.EntryLemmas.{at-with_directory}
use Rattle.host_tree.proofs.PathLemmas.{above-trans, above-itself}
use Rattle.host_tree.specs.Acts.{CanMake, IsReached, with_directory}
use Rattle.host_tree.specs.Entries.{Entries, at, has_below, IsDirectory}
use Rattle.host_tree.specs.Paths.{is_above}
use Rattle.host_tree.specs.declared.entry.Entry.{Entry}
use Rattle.host_tree.specs.declared.entry.Entry.TheVariants.{File, Directory, Link}
use Rattle.host_acts.specs.Acts as act
use Rattle.host_acts.specs.Acts.{ActsTo, Elsewhere, HasCause, IsDone, IsPart, cause_above, cause_here, entry_after, is_removal, makes_prefixes, or_directory, other_after, removes_below}
use Rattle.host_acts.specs.Changes.{BuiltUpTo, MakesPrefix, StaysOrIsMade}
use Rattle.host_acts.specs.Scanning.{BreaksAt, obstacle_in}
use Rattle.host_acts.specs.Steps.{cause_over}
use Rattle.host_acts.specs.Tasks.{Task, Work, make_file, make_missing_file, remove_file, make_directory, remove_directory, make_link, remove_link, want_of}
use Rattle.host_acts.specs.Wants.{IsWanted}
use Rattle.host_acts.specs.declared.cause.Cause.{Cause}
use Rattle.host_acts.specs.declared.cause.Cause.TheVariants.{ParentMissing, NotADirectory, LinkInPath}
use Rattle.host_acts.specs.declared.scanning.Break.{Break}
use Rattle.host_acts.specs.declared.scanning.Obstacle.{Obstacle}
use Rattle.host_acts.specs.declared.scanning.Obstacle.TheVariants as over
use Rattle.host_acts.specs.declared.verdict.Verdict.{Verdict}
use Rattle.host_acts.specs.declared.verdict.Verdict.TheVariants.{UpToDate, Updated, Failed}
use Rattle.host_acts.proofs.KeptLemmas.{none_true}
use Rattle.host_acts.proofs.PrefixLemmas.{bytes_apart, above-compared, above-same, above-take, above-slash, above-shorter, take-above}
use Rattle.host_acts.proofs.StepLemmas.{cause_above-directory, none_below, none_here, none_some, place, each_prefix}

-- ---- work that makes missing prefixes

-- what makes something, and fails neither for what is missing nor for a file, makes missing prefixes
missing_makes : (work : Work) (o : Obstacle) → cause_over work o ≡ None → is_removal work ≡ false → (o ≡ over.Nothing) × (makes_prefixes work ≡ true)
missing_makes work over.Nothing none removal = (refl, makes_at (makes_prefixes work) refl)
  where
    makes_at : (b : Bool) → makes_prefixes work ≡ b → makes_prefixes work ≡ true
    makes_at true is = is
    makes_at false is = none_some ParentMissing (sym none ∙ ap (λ (r : Bool). cond (r || makes_prefixes work) None (Some ParentMissing)) removal ∙ ap (λ (m : Bool). cond m None (Some ParentMissing)) is)
missing_makes work over.File none removal = none_some NotADirectory (sym none ∙ ap (λ (r : Bool). cond r None (Some NotADirectory)) removal)
missing_makes work over.Link none removal = none_some LinkInPath (sym none)

pub missing_over : (work : Work) (o : Obstacle) → cause_over work o ≡ None → is_removal work ≡ false → o ≡ over.Nothing
missing_over work o none removal = (missing_makes work o none removal).0

pub makes_over : (work : Work) (o : Obstacle) → cause_over work o ≡ None → is_removal work ≡ false → makes_prefixes work ≡ true
makes_over work o none removal = (missing_makes work o none removal).1

makes_some : (work : Work) → makes_prefixes work ≡ true → IsWanted (want_of work) None → ⊥
makes_some (make_file c m r) is wanted = wanted
makes_some (make_missing_file c m) is wanted = wanted
makes_some remove_file is wanted = none_true is
makes_some (make_directory m r) is wanted = wanted
makes_some (remove_directory r) is wanted = none_true is
makes_some (make_link t) is wanted = wanted
makes_some remove_link is wanted = none_true is

makes_keeps_below : (work : Work) → makes_prefixes work ≡ true → removes_below work ≡ true → ⊥
makes_keeps_below (make_file c m r) is removes = none_true is
makes_keeps_below (make_missing_file c m) is removes = none_true is
makes_keeps_below remove_file is removes = none_true is
makes_keeps_below (make_directory m r) is removes = none_true removes
makes_keeps_below (remove_directory r) is removes = none_true is
makes_keeps_below (make_link t) is removes = none_true is
makes_keeps_below remove_link is removes = none_true is

makes_no_cause : (work : Work) → makes_prefixes work ≡ true → cause_above work None ≡ None
makes_no_cause work is = either (is_removal work) (makes_prefixes work) is
  where
    either : (r m : Bool) → m ≡ true → cond (r || m) None (Some ParentMissing) ≡ None
    either true m is = refl
    either false m is = ap (λ (b : Bool). cond b None (Some ParentMissing)) is

-- ---- the prefixes

place-length : (path : List ℕ) (end : ℕ) → end < length path → length (take end path) ≡ end
place-length path end within = length-take-le end path (omega arith)

-- before the first that is missing there is nothing to make
pub built-none : (path : List ℕ) (found : Break) (host : Entries) → BreaksAt host path found → BuiltUpTo path found.end host host
built-none path found host breaks = record {
  each = λ prefix above shorter.
      breaks.before prefix (above-compared prefix (take found.end path) path above breaks.prefix (let long = place-length path found.end breaks.within in omega (arith, long, shorter)));
  others = λ other. inl refl;
}

-- a path from the first that is missing on was missing, and is missing until it is made
module _ (path : List ℕ) (found : Break) (host mid : Entries) (end : ℕ) (breaks : BreaksAt host path found) (missing : found.over ≡ over.Nothing) (built : BuiltUpTo path end host mid) (from : found.end ≤ end) (within : end < length path) where
  obstacle_none : (entry : Option Entry) → obstacle_in entry ≡ Some over.Nothing → entry ≡ None
  obstacle_none None is = refl
  obstacle_none (Some (File c m)) is = cc
  obstacle_none (Some (Directory m)) is = none_some over.Nothing is
  obstacle_none (Some (Link t)) is = cc

  was_none : (prefix : List ℕ) → is_above prefix path ≡ true → found.end ≤ length prefix → at host prefix ≡ None
  was_none prefix above long = by (cases_lt (length (take found.end path)) (length prefix))
    where
      by : (length (take found.end path) < length prefix) ⊎ (length prefix ≤ length (take found.end path)) → at host prefix ≡ None
      by (inl more) = none_below (record { path = path; work = remove_link }) host found breaks prefix (above-compared (take found.end path) prefix path breaks.prefix above more)
      by (inr same) =
          let long' = place-length path found.end breaks.within in
          let alike : length prefix ≡ length (take found.end path) = omega (arith, long', same, long) in
          ap (at host) (above-same prefix (take found.end path) path above breaks.prefix alike) ∙ obstacle_none (at host (take found.end path)) (breaks.over ∙ ap Some missing)

  still_none : (prefix : List ℕ) → is_above prefix path ≡ true → end ≤ length prefix → StaysOrIsMade (λ p. (is_above p path ≡ true) × (length p < end)) host mid prefix → at mid prefix ≡ None
  still_none prefix above long (inl same) = same ∙ was_none prefix above (omega arith)
  still_none prefix above long (inr (short, was, is)) = absurd (omega (arith, short.1, long))

  -- so it can be made
  pub can_make : get_or path end 0 ≡ 47 → CanMake mid (take end path)
  can_make slash =
      let long = place-length path end within in
      let above = take-above path end (omega (arith, breaks.first, from)) within slash in (
        λ q below. built.each q (above-trans q (take end path) path below above) (let shorter = above-shorter q (take end path) below in omega (arith, shorter, long)),
        still_none (take end path) above (omega (arith, long)) (built.others (take end path)),
      )

  -- and once it is made, one more prefix is there
  module _ (new : Entries) (makes : MakesPrefix path end mid new) where
    wider : (other : List ℕ) → at new other ≡ at mid other → StaysOrIsMade (λ p. (is_above p path ≡ true) × (length p < end)) host mid other → StaysOrIsMade (λ p. (is_above p path ≡ true) × (length p < end + 1)) host new other
    wider other kept (inl same) = inl (kept ∙ same)
    wider other kept (inr (short, was, is)) = inr ((short.0, omega (arith, short.1)), was, kept ∙ is)

    others_at : (b : Bool) (other : List ℕ) → bytes_eq other (take end path) ≡ b → StaysOrIsMade (λ p. (is_above p path ≡ true) × (length p < end + 1)) host new other
    others_at true other is = made_at (slash_or (get_or path end 0 == 47) refl)
      where
        same : other ≡ take end path
        same = (bytes_decides other (take end path)).0 is

        slash_or : (b : Bool) → (get_or path end 0 == 47) ≡ b → (get_or path end 0 ≡ 47) ⊎ (get_or path end 0 ≢ 47)
        slash_or true is = inl (eqb-true (get_or path end 0) 47 is)
        slash_or false is = inr (λ slash. true≢false (sym (eq-eqb (get_or path end 0) 47 slash) ∙ is))

        made_at : (get_or path end 0 ≡ 47) ⊎ (get_or path end 0 ≢ 47) → StaysOrIsMade (λ p. (is_above p path ≡ true) × (length p < end + 1)) host new other
        made_at (inl slash) =
            let long = place-length path end within in
            let above = take-above path end (omega (arith, breaks.first, from)) within slash in
            inr (
              (subst (λ (p : List ℕ). is_above p path ≡ true) (sym same) above, (let alike = ap length same in omega (arith, alike, long))),
              ap (at host) same ∙ was_none (take end path) above (omega (arith, long, from)),
              ap (at new) same ∙ makes.here slash,
            )
        made_at (inr plain) = wider other (makes.others other (λ slash. absurd (plain slash))) (built.others other)
    others_at false other is = wider other (makes.others other (λ slash same. true≢false (sym ((bytes_decides other (take end path)).1 same) ∙ is))) (built.others other)

    each_at : (prefix : List ℕ) → is_above prefix path ≡ true → (length prefix < end) ⊎ (end ≤ length prefix) → length prefix < end + 1 → IsDirectory (at new prefix)
    each_at prefix above (inl shorter) short =
        subst IsDirectory (sym (makes.others prefix (λ slash same. absurd (let alike = ap length same in let long = place-length path end within in omega (arith, alike, long, shorter))))) (built.each prefix above shorter)
    each_at prefix above (inr longer) short =
        let alike : length prefix ≡ end = omega arith in
        let same : take end path ≡ prefix = ap (λ (n : ℕ). take n path) (sym alike) ∙ above-take prefix path above in
        let slash : get_or path end 0 ≡ 47 = ap (λ (n : ℕ). get_or path n 0) (sym alike) ∙ above-slash prefix path above in
        subst IsDirectory (sym (ap (at new) (sym same) ∙ makes.here slash)) (let it : IsDirectory (Some (Directory 493)) = tt in it)

    pub built_more : BuiltUpTo path (end + 1) host new
    built_more = record {
      each = λ prefix above short. each_at prefix above (cases_lt (length prefix) end) short;
      others = λ other. others_at (bytes_eq other (take end path)) other refl;
    }

-- a prefix is made where one ends, and nothing where none does
pub makes_one : (path : List ℕ) (end : ℕ) (host : Entries) → get_or path end 0 ≡ 47 → MakesPrefix path end host (with_directory (take end path) host)
makes_one path end host slash = record {
  here = λ _. at-with_directory (take end path) host (take end path) ∙ ap (λ (b : Bool). cond b (Some (Directory 493)) (at host (take end path))) ((bytes_decides (take end path) (take end path)).1 refl);
  others = λ other apart.
      at-with_directory (take end path) host other ∙ ap (λ (b : Bool). cond b (Some (Directory 493)) (at host other)) (bytes_apart other (take end path) (apart slash));
}

-- ---- an act behind the prefixes that were made

module _ (task : Task) (host mid : Entries) (found : Break) (breaks : BreaksAt host task.path found) (missing : found.over ≡ over.Nothing) (makes : makes_prefixes task.work ≡ true) (built : BuiltUpTo task.path (length task.path) host mid) where
  pub built_reached : IsReached mid task.path
  built_reached prefix above = built.each prefix above (above-shorter prefix task.path above)

  stays_none : StaysOrIsMade (λ p. (is_above p task.path ≡ true) × (length p < length task.path)) host mid task.path → at mid task.path ≡ at host task.path
  stays_none (inl same) = same
  stays_none (inr (short, was, is)) = absurd (true≢false (sym short.0 ∙ above-itself task.path))

  mid_same : at mid task.path ≡ at host task.path
  mid_same = stays_none (built.others task.path)

  mid_none : at mid task.path ≡ None
  mid_none = mid_same ∙ none_here task host found breaks

  -- what was made before the act and what the act made are one change
  one_change : (new : Entries) (q : List ℕ) → StaysOrIsMade (λ p. (is_above p task.path ≡ true) × (length p < length task.path)) host mid q → Elsewhere task mid new q → Elsewhere task host new q
  one_change new q (inl same) (act.stays kept) = act.stays (kept ∙ same)
  one_change new q (inl same) (act.made above also was is) = act.made above also (sym same ∙ was) is
  one_change new q (inl same) (act.gone below removes is) = act.gone below removes is
  one_change new q (inr (short, was, is)) (act.stays kept) = act.made short.0 makes was (kept ∙ is)
  one_change new q (inr (short, was, is)) (act.made above also none then) = none_some (Directory 493) (sym none ∙ is)
  one_change new q (inr (short, was, is)) (act.gone below removes none) = absurd (makes_keeps_below task.work makes removes)

  pub built_then_part : (new : Entries) → IsPart task mid new → IsPart task host new
  built_then_part new part q apart = one_change new q (built.others q) (part q apart)

  -- what is left of another path at which this stood
  abbrev left : List ℕ → Option Entry → Option Entry
  left q entry = cond (is_above q task.path) (or_directory entry) entry

  -- what an act leaves of another path is the same before what was made and behind it
  other_same : (q : List ℕ) → StaysOrIsMade (λ p. (is_above p task.path ≡ true) × (length p < length task.path)) host mid q → other_after task mid q ≡ other_after task host q
  other_same q change = behind mid ∙ same change ∙ sym (behind host)
    where
      keeps_below : (b : Bool) → removes_below task.work ≡ b → removes_below task.work ≡ false
      keeps_below true is = absurd (makes_keeps_below task.work makes is)
      keeps_below false is = is

      behind : (h : Entries) → other_after task h q ≡ left q (at h q)
      behind h =
          ap (λ (r : Bool). cond (r && is_above task.path q) None (cond (makes_prefixes task.work && is_above q task.path) (or_directory (at h q)) (at h q))) (keeps_below (removes_below task.work) refl)
          ∙ ap (λ (m : Bool). cond (m && is_above q task.path) (or_directory (at h q)) (at h q)) makes

      same : StaysOrIsMade (λ p. (is_above p task.path ≡ true) × (length p < length task.path)) host mid q → left q (at mid q) ≡ left q (at host q)
      same (inl kept) = ap (left q) kept
      same (inr (short, was, is)) =
          ap (left q) is ∙ ap (λ (b : Bool). cond b (Some (Directory 493)) (Some (Directory 493))) short.0 ∙ sym (ap (λ (b : Bool). cond b (Some (Directory 493)) None) short.0) ∙ sym (ap (left q) was)

  not_done : IsDone host task → ⊥
  not_done done = makes_some task.work makes (subst (IsWanted (want_of task.work)) (none_here task host found breaks) done.here)

  clear : (prefix : List ℕ) → is_above prefix task.path ≡ true → cause_above task.work (at host prefix) ≡ None
  clear prefix above =
      each_prefix task host found breaks (λ entry. cause_above task.work entry ≡ None) (λ entry is. cause_above-directory task.work entry is)
      (ap (cause_above task.work) (nothing_over (at host (place task found)) (breaks.over ∙ ap Some missing)) ∙ makes_no_cause task.work makes) (makes_no_cause task.work makes) prefix above
    where
      nothing_over : (entry : Option Entry) → obstacle_in entry ≡ Some over.Nothing → entry ≡ None
      nothing_over None is = refl
      nothing_over (Some (File c m)) is = cc
      nothing_over (Some (Directory m)) is = none_some over.Nothing is
      nothing_over (Some (Link t)) is = cc

  no_cause : (cause : Cause) → HasCause host task cause → ⊥
  no_cause cause (act.above prefix above is before) = none_some cause (sym (clear prefix above) ∙ is)
  no_cause cause (act.here all is) = none_some cause (ap (cause_here task.work (has_below host task.path)) (sym (none_here task host found breaks)) ∙ is)

  mid_no_cause : {P : Type 0} (cause : Cause) → HasCause mid task cause → P
  mid_no_cause cause (act.above prefix above is before) = none_some cause (sym (cause_above-directory task.work (at mid prefix) (built_reached prefix above)) ∙ is)
  mid_no_cause cause (act.here all is) = none_some cause (ap (cause_here task.work (has_below mid task.path)) (sym mid_none) ∙ is)

  pub built_then : (verdict : Verdict) (new : Entries) → ActsTo task verdict mid new → ActsTo task verdict host new
  built_then UpToDate new done = absurd (makes_some task.work makes (subst (IsWanted (want_of task.work)) mid_none done.0.here))
  built_then (Failed cause) new fails = mid_no_cause cause fails.1
  built_then Updated new done = (
    not_done,
    no_cause,
    record {
      done = done.2.done;
      here = done.2.here ∙ ap (entry_after task.work) mid_same;
      elsewhere = λ q apart. done.2.elsewhere q apart ∙ other_same q (built.others q);
      whole = done.2.whole;
    },
  )

pub makes_prefix : (path prefix : List ℕ) (end : ℕ) (host : Entries) → prefix ≡ take end path → get_or path end 0 ≡ 47 → MakesPrefix path end host (with_directory prefix host)
makes_prefix path prefix end host is slash = subst (λ (p : List ℕ). MakesPrefix path end host (with_directory p host)) (sym is) (makes_one path end host slash)

-- An act that updates keeps each want that suits its own; and wants that agree suit each other.
use Rattle.std.proofs.Common.{◌≡◌, inl, inr, ℕ, Bool, true, false, cond, ◌&&◌, List, Option, Some, None, bytes_eq, refl, sym, ap, subst, ◌∙◌}
use Rattle.std.proofs.lemmas.Bool.{true≢false}
use Rattle.std.specs.Cmp.Lexicographic.{bytes_decides}
use Rattle.host_tree.proofs.PathLemmas.{above-trans}
use Rattle.host_tree.specs.Entries.{Entries, at}
use Rattle.host_tree.specs.Paths.{is_above}
use Rattle.host_tree.specs.declared.entry.Entry.{Entry}
use Rattle.host_tree.specs.declared.entry.Entry.TheVariants.{File, Directory, Link}
use Rattle.host_acts.specs.Acts as act
use Rattle.host_acts.specs.Acts.{Elsewhere, Updates, entry_after, given, makes_prefixes, or_directory, other_after, removes_below}
use Rattle.host_acts.specs.Agreeing.{AgreeingByPathSuit, AgreeingSuit, FitAbove, HoldsIn, IsDirectoryWant, Suits, UpdatesKeep}
use Rattle.host_acts.specs.Tasks.{Task, Work, make_file, make_missing_file, remove_file, make_directory, remove_directory, make_link, remove_link, want_of, wanted_by}
use Rattle.host_acts.specs.Wants as wants
use Rattle.host_acts.specs.Wants.{Fits, IsNoLink, IsWanted, LetsBe, Want, Wanted}

pub none_true : {P : Type 0} → false ≡ true → P
none_true h = absurd (true≢false (sym h))

-- ---- what the change keeps at its own path

fits_given : {X : Type 0} (one other : Option X) (before common : X) → Fits one before → Fits one common → Fits other common → Fits one (given other before)
fits_given None other before common fits one_common other_common = tt
fits_given (Some x) None before common fits one_common other_common = fits
fits_given (Some x) (Some y) before common fits one_common other_common = sym other_common ∙ one_common

wanted_file : (content : Option (List ℕ)) (mode : Option ℕ) (work : Work) (before common : Option Entry) → IsWanted (wants.file content mode) before → IsWanted (wants.file content mode) common → IsWanted (want_of work) common
    → IsWanted (wants.file content mode) (entry_after work before)
wanted_file content mode work None common here one other = absurd here
wanted_file content mode work (Some (Directory n)) common here one other = absurd here
wanted_file content mode work (Some (Link t)) common here one other = absurd here
wanted_file content mode work (Some (File d n)) None here one other = absurd one
wanted_file content mode work (Some (File d n)) (Some (Directory m)) here one other = absurd one
wanted_file content mode work (Some (File d n)) (Some (Link t)) here one other = absurd one
wanted_file content mode (make_file c m r) (Some (File d n)) (Some (File e k)) here one other = (fits_given content c d e here.0 one.0 other.0, fits_given mode m n k here.1 one.1 other.1)
wanted_file content mode (make_missing_file c m) (Some (File d n)) (Some (File e k)) here one other = here
wanted_file content mode remove_file (Some (File d n)) (Some (File e k)) here one other = absurd other
wanted_file content mode (make_directory m r) (Some (File d n)) (Some (File e k)) here one other = absurd other
wanted_file content mode (remove_directory r) (Some (File d n)) (Some (File e k)) here one other = absurd other
wanted_file content mode (make_link t) (Some (File d n)) (Some (File e k)) here one other = absurd other
wanted_file content mode remove_link (Some (File d n)) (Some (File e k)) here one other = absurd other

wanted_directory : (mode : Option ℕ) (work : Work) (before common : Option Entry) → IsWanted (wants.directory mode) before → IsWanted (wants.directory mode) common → IsWanted (want_of work) common
    → IsWanted (wants.directory mode) (entry_after work before)
wanted_directory mode work None common here one other = absurd here
wanted_directory mode work (Some (File d n)) common here one other = absurd here
wanted_directory mode work (Some (Link t)) common here one other = absurd here
wanted_directory mode work (Some (Directory n)) None here one other = absurd one
wanted_directory mode work (Some (Directory n)) (Some (File d k)) here one other = absurd one
wanted_directory mode work (Some (Directory n)) (Some (Link t)) here one other = absurd one
wanted_directory mode (make_file c m r) (Some (Directory n)) (Some (Directory k)) here one other = absurd other
wanted_directory mode (make_missing_file c m) (Some (Directory n)) (Some (Directory k)) here one other = absurd other
wanted_directory mode remove_file (Some (Directory n)) (Some (Directory k)) here one other = absurd other
wanted_directory mode (make_directory m r) (Some (Directory n)) (Some (Directory k)) here one other = fits_given mode m n k here one other
wanted_directory mode (remove_directory r) (Some (Directory n)) (Some (Directory k)) here one other = absurd other
wanted_directory mode (make_link t) (Some (Directory n)) (Some (Directory k)) here one other = absurd other
wanted_directory mode remove_link (Some (Directory n)) (Some (Directory k)) here one other = absurd other

wanted_link : (to : List ℕ) (work : Work) (before common : Option Entry) → IsWanted (wants.link to) common → IsWanted (want_of work) common → IsWanted (wants.link to) (entry_after work before)
wanted_link to work before None one other = absurd one
wanted_link to work before (Some (File d n)) one other = absurd one
wanted_link to work before (Some (Directory n)) one other = absurd one
wanted_link to (make_file c m r) before (Some (Link t)) one other = absurd other
wanted_link to (make_missing_file c m) before (Some (Link t)) one other = absurd other
wanted_link to remove_file before (Some (Link t)) one other = absurd other
wanted_link to (make_directory m r) before (Some (Link t)) one other = absurd other
wanted_link to (remove_directory r) before (Some (Link t)) one other = absurd other
wanted_link to (make_link u) before (Some (Link t)) one other = sym other ∙ one
wanted_link to remove_link before (Some (Link t)) one other = absurd other

wanted_absent : (work : Work) (before common : Option Entry) → IsWanted wants.absent common → IsWanted (want_of work) common → IsWanted wants.absent (entry_after work before)
wanted_absent work before (Some e) one other = absurd one
wanted_absent (make_file c m r) before None one other = absurd other
wanted_absent (make_missing_file c m) before None one other = absurd other
wanted_absent remove_file before None one other = tt
wanted_absent (make_directory m r) before None one other = absurd other
wanted_absent (remove_directory r) before None one other = tt
wanted_absent (make_link t) before None one other = absurd other
wanted_absent remove_link before None one other = tt

-- what was wanted of a path and held is so of what the work makes there, where something has both wants
wanted_after : (want : Want) (work : Work) (before common : Option Entry) → IsWanted want before → IsWanted want common → IsWanted (want_of work) common → IsWanted want (entry_after work before)
wanted_after wants.absent work before common here one other = wanted_absent work before common one other
wanted_after (wants.file content mode) work before common here one other = wanted_file content mode work before common here one other
wanted_after (wants.directory mode) work before common here one other = wanted_directory mode work before common here one other
wanted_after (wants.link to) work before common here one other = wanted_link to work before common one other

-- ---- what it keeps at other paths

prefixes_no_removal : (work : Work) → makes_prefixes work ≡ true → want_of work ≡ wants.absent → ⊥
prefixes_no_removal (make_file c m r) makes is = none_true makes
prefixes_no_removal (make_missing_file c m) makes is = none_true makes
prefixes_no_removal remove_file makes is = none_true makes
prefixes_no_removal (make_directory m r) makes is = cc
prefixes_no_removal (remove_directory r) makes is = none_true makes
prefixes_no_removal (make_link t) makes is = none_true makes
prefixes_no_removal remove_link makes is = none_true makes

below_removed : (work : Work) → removes_below work ≡ true → IsWanted (want_of work) None
below_removed (make_file c m r) removes = none_true removes
below_removed (make_missing_file c m) removes = none_true removes
below_removed remove_file removes = tt
below_removed (make_directory m r) removes = none_true removes
below_removed (remove_directory r) removes = tt
below_removed (make_link t) removes = none_true removes
below_removed remove_link removes = tt

-- only absence is had where nothing stands
only_absent : (want : Want) → IsWanted want None → want ≡ wants.absent
only_absent wants.absent is = refl
only_absent (wants.file c m) is = absurd is
only_absent (wants.directory m) is = absurd is
only_absent (wants.link t) is = absurd is

-- nothing that lets nothing stand above it is had but absence
absent_of_none : (want : Want) → LetsBe want None → IsWanted want None
absent_of_none wants.absent lets = tt
absent_of_none (wants.file c m) lets = absurd lets
absent_of_none (wants.directory m) lets = absurd lets
absent_of_none (wants.link t) lets = absurd lets

pub lets_directory : (want : Want) (mode : ℕ) → LetsBe want (Some (Directory mode))
lets_directory wants.absent mode = tt
lets_directory (wants.file c m) mode = tt
lets_directory (wants.directory m) mode = tt
lets_directory (wants.link t) mode = tt

-- what an act leaves of another path than its own, case by case
elsewhere_of : (task : Task) (host new : Entries) (q : List ℕ) → at new q ≡ other_after task host q → Elsewhere task host new q
elsewhere_of task host new q is = by (removes_below task.work) (is_above task.path q) (makes_prefixes task.work) (is_above q task.path) refl refl refl refl is
  where
    made : makes_prefixes task.work ≡ true → is_above q task.path ≡ true → (entry : Option Entry) → at host q ≡ entry → at new q ≡ or_directory entry → Elsewhere task host new q
    made makes above None was is = act.made above makes was is
    made makes above (Some entry) was is = act.stays (is ∙ sym was)

    by : (r b m a : Bool) → removes_below task.work ≡ r → is_above task.path q ≡ b → makes_prefixes task.work ≡ m → is_above q task.path ≡ a → at new q ≡ cond (r && b) None (cond (m && a) (or_directory (at host q)) (at host q))
        → Elsewhere task host new q
    by true true m a removes below makes above is = act.gone below removes is
    by true false true true removes below makes above is = made makes above (at host q) refl is
    by true false true false removes below makes above is = act.stays is
    by true false false a removes below makes above is = act.stays is
    by false b true true removes below makes above is = made makes above (at host q) refl is
    by false b true false removes below makes above is = act.stays is
    by false b false a removes below makes above is = act.stays is

module _ (kept : Wanted) (task : Task) (host new : Entries) (suits : Suits kept (wanted_by task)) (held : HoldsIn host kept) (updates : Updates task host new) where
  elsewhere_here : Elsewhere task host new kept.path → IsWanted kept.want (at new kept.path)
  elsewhere_here (act.stays same) = subst (IsWanted kept.want) (sym same) held.here
  elsewhere_here (act.made above makes was is) =
      absurd (prefixes_no_removal task.work makes (suits.over above (only_absent kept.want (subst (IsWanted kept.want) was held.here))))
  elsewhere_here (act.gone below removes is) =
      subst (IsWanted kept.want) (sym is) (absent_of_none kept.want (suits.under below None (below_removed task.work removes)))

  kept_here_at : (b : Bool) → bytes_eq kept.path task.path ≡ b → IsWanted kept.want (at new kept.path)
  kept_here_at true same =
      let is = (bytes_decides kept.path task.path).0 same in
      let common = suits.same is in
      let there : at new kept.path ≡ entry_after task.work (at host kept.path) = ap (at new) is ∙ updates.here ∙ ap (λ (p : List ℕ). entry_after task.work (at host p)) (sym is) in
      subst (IsWanted kept.want) (sym there)
      (wanted_after kept.want task.work (at host kept.path) (at common.host kept.path) held.here common.one_holds.here
      (subst (λ (p : List ℕ). IsWanted (want_of task.work) (at common.host p)) (sym is) common.other_holds.here))
  kept_here_at false apart = elsewhere_here (elsewhere_of task host new kept.path (updates.elsewhere kept.path (λ is. true≢false (sym ((bytes_decides kept.path task.path).1 is) ∙ apart))))

  elsewhere_above : (prefix : List ℕ) → is_above prefix kept.path ≡ true → Elsewhere task host new prefix → LetsBe kept.want (at new prefix)
  elsewhere_above prefix over (act.stays same) = subst (LetsBe kept.want) (sym same) (held.above prefix over)
  elsewhere_above prefix over (act.made above makes was is) = subst (LetsBe kept.want) (sym is) (lets_directory kept.want 493)
  elsewhere_above prefix over (act.gone below removes is) =
      subst (LetsBe kept.want) (sym is) (suits.under (above-trans task.path prefix kept.path below over) None (below_removed task.work removes))

  kept_above_at : (prefix : List ℕ) → is_above prefix kept.path ≡ true → (b : Bool) → bytes_eq prefix task.path ≡ b → LetsBe kept.want (at new prefix)
  kept_above_at prefix over true same =
      let is = (bytes_decides prefix task.path).0 same in
      subst (λ (p : List ℕ). LetsBe kept.want (at new p)) (sym is)
      (suits.under (subst (λ (p : List ℕ). is_above p kept.path ≡ true) is over) (at new task.path) updates.done.here)
  kept_above_at prefix over false apart = elsewhere_above prefix over (elsewhere_of task host new prefix (updates.elsewhere prefix (λ is. true≢false (sym ((bytes_decides prefix task.path).1 is) ∙ apart))))

  pub update_keeps : HoldsIn new kept
  update_keeps = record {
    here = kept_here_at (bytes_eq kept.path task.path) refl;
    above = λ prefix over. kept_above_at prefix over (bytes_eq prefix task.path) refl;
  }

-- an act that updates keeps each want that suits its own
pub updates_keep : UpdatesKeep
updates_keep kept task host new suits held updates = update_keeps kept task host new suits held updates

-- ---- wants that agree

-- what lets nothing be above it but a directory isn't had below what is absent
let_absent : (want : Want) → LetsBe want None → want ≡ wants.absent
let_absent wants.absent lets = refl
let_absent (wants.file c m) lets = absurd lets
let_absent (wants.directory m) lets = absurd lets
let_absent (wants.link t) lets = absurd lets

let_no_file : (want : Want) (c e : List ℕ) (m n : ℕ) → LetsBe want (Some (File c m)) → LetsBe want (Some (File e n))
let_no_file wants.absent c e m n lets = tt
let_no_file (wants.file _ _) c e m n lets = absurd lets
let_no_file (wants.directory _) c e m n lets = absurd lets
let_no_file (wants.link _) c e m n lets = absurd lets

no_link : {P : Type 0} (want : Want) (t : List ℕ) → LetsBe want (Some (Link t)) → P
no_link wants.absent t lets = absurd lets
no_link (wants.file _ _) t lets = absurd lets
no_link (wants.directory _) t lets = absurd lets
no_link (wants.link _) t lets = absurd lets

absent_none : (entry : Option Entry) → IsWanted wants.absent entry → entry ≡ None
absent_none None is = refl
absent_none (Some e) is = absurd is

-- two entries of one want let the same be below them
lets_alike : (below above : Want) (one other : Option Entry) → IsWanted above one → IsWanted above other → LetsBe below one → LetsBe below other
lets_alike below wants.absent one other is also lets = subst (LetsBe below) (absent_none one is ∙ sym (absent_none other also)) lets
lets_alike below (wants.file c m) None other is also lets = absurd is
lets_alike below (wants.file c m) (Some (Directory n)) other is also lets = absurd is
lets_alike below (wants.file c m) (Some (Link t)) other is also lets = absurd is
lets_alike below (wants.file c m) (Some (File d n)) None is also lets = absurd also
lets_alike below (wants.file c m) (Some (File d n)) (Some (File e k)) is also lets = let_no_file below d e n k lets
lets_alike below (wants.file c m) (Some (File d n)) (Some (Directory k)) is also lets = absurd also
lets_alike below (wants.file c m) (Some (File d n)) (Some (Link t)) is also lets = absurd also
lets_alike below (wants.directory m) one None is also lets = absurd also
lets_alike below (wants.directory m) one (Some (File e k)) is also lets = absurd also
lets_alike below (wants.directory m) one (Some (Directory k)) is also lets = lets_directory below k
lets_alike below (wants.directory m) one (Some (Link t)) is also lets = absurd also
lets_alike below (wants.link to) None other is also lets = absurd is
lets_alike below (wants.link to) (Some (File d n)) other is also lets = absurd is
lets_alike below (wants.link to) (Some (Directory n)) other is also lets = absurd is
lets_alike below (wants.link to) (Some (Link t)) other is also lets = no_link below t lets

pub agreeing_suit : AgreeingSuit
agreeing_suit kept done agrees = record {
  same = λ _. agrees;
  over = λ above is.
      let nothing = absent_none (at agrees.host kept.path) (subst (λ (w : Want). IsWanted w (at agrees.host kept.path)) is agrees.one_holds.here) in
      let_absent done.want (subst (LetsBe done.want) nothing (agrees.other_holds.above kept.path above));
  under = λ above entry is. lets_alike kept.want done.want (at agrees.host done.path) entry agrees.other_holds.here is (agrees.one_holds.above done.path above);
}

fit_absent : (above below : Want) → FitAbove above below → above ≡ wants.absent → below ≡ wants.absent
fit_absent above below (inl directory) is = absurd (subst IsDirectoryWant is directory)
fit_absent above below (inr both) is = both.1

fit_lets : (above below : Want) (entry : Option Entry) → FitAbove above below → IsWanted above entry → LetsBe below entry
fit_lets above below entry (inr both) is =
    subst (λ (w : Want). LetsBe w entry) (sym both.1) (subst IsNoLink (sym (absent_none entry (subst (λ (w : Want). IsWanted w entry) both.0 is))) tt)
fit_lets wants.absent below entry (inl directory) is = absurd directory
fit_lets (wants.file c m) below entry (inl directory) is = absurd directory
fit_lets (wants.link t) below entry (inl directory) is = absurd directory
fit_lets (wants.directory m) below None (inl directory) is = absurd is
fit_lets (wants.directory m) below (Some (File d n)) (inl directory) is = absurd is
fit_lets (wants.directory m) below (Some (Directory n)) (inl directory) is = lets_directory below n
fit_lets (wants.directory m) below (Some (Link t)) (inl directory) is = absurd is

pub agreeing_by_path_suit : AgreeingByPathSuit
agreeing_by_path_suit kept done agrees = record {
  same = agrees.same;
  over = λ above is. fit_absent kept.want done.want (agrees.over above) is;
  under = λ above entry is. fit_lets done.want kept.want entry (agrees.under above) is;
}

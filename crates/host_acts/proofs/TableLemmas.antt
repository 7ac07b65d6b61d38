-- Wants that agree by the table hold together in a host of what they want and of the directories above it.
use Rattle.std.proofs.Common.{◌≡◌, ◌≢◌, ◌⊎◌, inl, inr, ℕ, zero, suc, ◌<◌, ◌≤◌, Bool, true, false, cond, List, [], Option, Some, None, bytes_eq, length, take, refl, sym, ap, subst, ◌∙◌, arith}
use Rattle.std.proofs.lemmas.Bool.{cases_lt, true≢false}
use Rattle.std.specs.Cmp.Lexicographic.{bytes_decides, slice_cmp}
use Rattle.std.specs.FinMap as finite
use Rattle.std.specs.FinMap.{get-empty}
use Rattle.std.specs.Ordering.{nat_cmp}
use Rattle.host_tree.proofs.EntryLemmas.{at-put}
use Rattle.host_tree.specs.Entries.{Entries, at, IsDirectory}
use Rattle.host_tree.specs.Paths.{is_above}
use Rattle.host_tree.specs.declared.entry.Entry.{Entry}
use Rattle.host_tree.specs.declared.entry.Entry.TheVariants.{File, Directory, Link}
use Rattle.host_acts.specs.Acts.{given}
use Rattle.host_acts.specs.Agreeing.{AgreeingByTable, Agrees, AgreesByTable, AreAlike, FitAbove, GivesAlike, IsDirectoryWant}
use Rattle.host_acts.specs.Wants as wants
use Rattle.host_acts.specs.Wants.{Fits, Holds, IsNoLink, IsWanted, LetsBe, Want, Wanted}
use Rattle.host_acts.proofs.ChangeLemmas.{fits-given, not_above}
use Rattle.host_acts.proofs.KeptLemmas.{lets_directory}
use Rattle.host_acts.proofs.PrefixLemmas.{above-shorter, above-take, bytes_apart}
use Rattle.host_acts.proofs.StepLemmas.{lets-directory, none_some}

-- ---- a host with a directory at each proper prefix of a path

-- with one at each that is shorter than this
abbrev prefixes_to : List ℕ → ℕ → Entries → Entries
prefixes_to path zero host = host
prefixes_to path (suc end) host = cond (is_above (take end path) path) (finite.insert (prefixes_to path end host) (take end path) (Directory 493)) (prefixes_to path end host)

-- with one at each
abbrev prefixes_of : List ℕ → Entries → Entries
prefixes_of path host = prefixes_to path (length path) host

itself : (path : List ℕ) → bytes_eq path path ≡ true
itself path = (bytes_decides path path).1 refl

put_same : (path : List ℕ) (entry : Entry) (host : Entries) → at (finite.insert host path entry) path ≡ Some entry
put_same path entry host = at-put path entry host path ∙ ap (λ (b : Bool). cond b (Some entry) (at host path)) (itself path)

put_apart : (path q : List ℕ) (entry : Entry) (host : Entries) → q ≢ path → at (finite.insert host path entry) q ≡ at host q
put_apart path q entry host apart = at-put path entry host q ∙ ap (λ (b : Bool). cond b (Some entry) (at host q)) (bytes_apart q path apart)

put_over : (path q : List ℕ) (entry : Entry) (host : Entries) → at host q ≡ Some entry → at (finite.insert host path entry) q ≡ Some entry
put_over path q entry host is = at-put path entry host q ∙ either (bytes_eq q path)
  where
    either : (b : Bool) → cond b (Some entry) (at host q) ≡ Some entry
    either true = refl
    either false = is

there_at : (path : List ℕ) (end : ℕ) (mid : Entries) (q : List ℕ) (b : Bool) → is_above q path ≡ true → is_above (take end path) path ≡ b → length q < suc end → (length q < end → at mid q ≡ Some (Directory 493))
    → at (cond b (finite.insert mid (take end path) (Directory 493)) mid) q ≡ Some (Directory 493)
there_at path end mid q b over is short before = by b is (cases_lt (length q) end)
  where
    last : end ≤ length q → take end path ≡ q
    last more = let alike : end ≡ length q = omega (arith, more, short) in ap (λ (n : ℕ). take n path) alike ∙ above-take q path over

    by : (b : Bool) → is_above (take end path) path ≡ b → (length q < end) ⊎ (end ≤ length q) → at (cond b (finite.insert mid (take end path) (Directory 493)) mid) q ≡ Some (Directory 493)
    by true is (inl less) = put_over (take end path) q (Directory 493) mid (before less)
    by true is (inr more) = ap (at (finite.insert mid (take end path) (Directory 493))) (sym (last more)) ∙ put_same (take end path) (Directory 493) mid
    by false is (inl less) = before less
    by false is (inr more) = absurd (true≢false (sym over ∙ ap (λ (p : List ℕ). is_above p path) (sym (last more)) ∙ is))

prefix_there : (path : List ℕ) (end : ℕ) (host : Entries) (q : List ℕ) → is_above q path ≡ true → length q < end → at (prefixes_to path end host) q ≡ Some (Directory 493)
prefix_there path zero host q over short = absurd (omega (arith, short))
prefix_there path (suc end) host q over short = there_at path end (prefixes_to path end host) q (is_above (take end path) path) over refl short (λ less. prefix_there path end host q over less)

apart_at : (path : List ℕ) (end : ℕ) (mid : Entries) (q : List ℕ) (b : Bool) → is_above q path ≡ false → is_above (take end path) path ≡ b → at (cond b (finite.insert mid (take end path) (Directory 493)) mid) q ≡ at mid q
apart_at path end mid q true beside is = put_apart (take end path) q (Directory 493) mid (λ same. true≢false (sym is ∙ ap (λ (p : List ℕ). is_above p path) (sym same) ∙ beside))
apart_at path end mid q false beside is = refl

prefix_apart : (path : List ℕ) (end : ℕ) (host : Entries) (q : List ℕ) → is_above q path ≡ false → at (prefixes_to path end host) q ≡ at host q
prefix_apart path zero host q beside = refl
prefix_apart path (suc end) host q beside = apart_at path end (prefixes_to path end host) q (is_above (take end path) path) beside refl ∙ prefix_apart path end host q beside

above_there : (path : List ℕ) (host : Entries) (q : List ℕ) → is_above q path ≡ true → at (prefixes_of path host) q ≡ Some (Directory 493)
above_there path host q over = prefix_there path (length path) host q over (above-shorter q path over)

nothing_in : (q : List ℕ) → at finite.empty q ≡ None
nothing_in q = get-empty (slice_cmp nat_cmp) q

-- a host of one entry and the directories above it
abbrev single : List ℕ → Entry → Entries
single path entry = finite.insert (prefixes_of path finite.empty) path entry

single_holds : (path : List ℕ) (entry : Entry) (want : Want) → IsWanted want (Some entry) → Holds (single path entry) path want
single_holds path entry want is = record {
  here = subst (IsWanted want) (sym (put_same path entry (prefixes_of path finite.empty))) is;
  above = λ q over.
      subst (LetsBe want) (sym (put_apart path q entry (prefixes_of path finite.empty) (not_above q path over) ∙ above_there path finite.empty q over)) (lets_directory want 493);
}

nothing_holds : (path : List ℕ) → Holds finite.empty path wants.absent
nothing_holds path = record {
  here = subst (IsWanted wants.absent) (sym (nothing_in path)) tt;
  above = λ q over. subst IsNoLink (sym (nothing_in q)) tt;
}

-- ---- what is wanted of one path twice

-- the one that is given, else the other, else what there is
abbrev either_given : {X : Type 0} → Option X → Option X → X → X
either_given None other x = given other x
either_given (Some one) other x = one

fits_one : {X : Type 0} (one other : Option X) (x : X) → Fits one (either_given one other x)
fits_one None other x = tt
fits_one (Some one) other x = refl

fits_other : {X : Type 0} (one other : Option X) (x : X) → GivesAlike one other → Fits other (either_given one other x)
fits_other None other x alike = fits-given other x
fits_other (Some one) None x alike = tt
fits_other (Some one) (Some other) x alike = alike

same_agree : (path : List ℕ) (one other : Want) → AreAlike one other → Agrees (record { path = path; want = one }) (record { path = path; want = other })
same_agree path wants.absent wants.absent alike = record { host = finite.empty; one_holds = nothing_holds path; other_holds = nothing_holds path }
same_agree path wants.absent (wants.file d n) alike = absurd alike
same_agree path wants.absent (wants.directory n) alike = absurd alike
same_agree path wants.absent (wants.link u) alike = absurd alike
same_agree path (wants.file c m) wants.absent alike = absurd alike
same_agree path (wants.file c m) (wants.file d n) alike = record {
  host = single path (File (either_given c d []) (either_given m n 420));
  one_holds = single_holds path (File (either_given c d []) (either_given m n 420)) (wants.file c m) (fits_one c d [], fits_one m n 420);
  other_holds = single_holds path (File (either_given c d []) (either_given m n 420)) (wants.file d n) (fits_other c d [] alike.0, fits_other m n 420 alike.1);
}
same_agree path (wants.file c m) (wants.directory n) alike = absurd alike
same_agree path (wants.file c m) (wants.link u) alike = absurd alike
same_agree path (wants.directory m) wants.absent alike = absurd alike
same_agree path (wants.directory m) (wants.file d n) alike = absurd alike
same_agree path (wants.directory m) (wants.directory n) alike = record {
  host = single path (Directory (either_given m n 493));
  one_holds = single_holds path (Directory (either_given m n 493)) (wants.directory m) (fits_one m n 493);
  other_holds = single_holds path (Directory (either_given m n 493)) (wants.directory n) (fits_other m n 493 alike);
}
same_agree path (wants.directory m) (wants.link u) alike = absurd alike
same_agree path (wants.link t) wants.absent alike = absurd alike
same_agree path (wants.link t) (wants.file d n) alike = absurd alike
same_agree path (wants.link t) (wants.directory n) alike = absurd alike
same_agree path (wants.link t) (wants.link u) alike = record {
  host = single path (Link t);
  one_holds = single_holds path (Link t) (wants.link t) refl;
  other_holds = single_holds path (Link t) (wants.link u) alike;
}

-- ---- what is wanted of two paths

-- what stands where this is wanted
abbrev made_for : Want → Option Entry
made_for wants.absent = None
made_for (wants.file c m) = Some (File (given c []) (given m 420))
made_for (wants.directory m) = Some (Directory (given m 493))
made_for (wants.link t) = Some (Link t)

made_wanted : (want : Want) → IsWanted want (made_for want)
made_wanted wants.absent = tt
made_wanted (wants.file c m) = (fits-given c [], fits-given m 420)
made_wanted (wants.directory m) = fits-given m 493
made_wanted (wants.link t) = refl

made_none : (want : Want) → made_for want ≡ None → want ≡ wants.absent
made_none wants.absent is = refl
made_none (wants.file c m) is = none_some (File (given c []) (given m 420)) (sym is)
made_none (wants.directory m) is = none_some (Directory (given m 493)) (sym is)
made_none (wants.link t) is = none_some (Link t) (sym is)

made_some : (want : Want) (entry : Entry) → made_for want ≡ Some entry → want ≡ wants.absent → ⊥
made_some want entry made absent = none_some entry (ap made_for (sym absent) ∙ made)

made_directory : (want : Want) → IsDirectoryWant want → IsDirectory (made_for want)
made_directory wants.absent is = is
made_directory (wants.file c m) is = is
made_directory (wants.directory m) is = tt
made_directory (wants.link t) is = is

-- above what isn't to be absent a directory is wanted
fit_directory : (above below : Want) → FitAbove above below → (below ≡ wants.absent → ⊥) → IsDirectoryWant above
fit_directory above below (inl directory) some = directory
fit_directory above below (inr both) some = absurd (some both.1)

-- and so it is above whatever is to be absent, but where nothing is wanted
fit_some : (above below : Want) → FitAbove above below → (above ≡ wants.absent → ⊥) → IsDirectoryWant above
fit_some above below (inl directory) some = directory
fit_some above below (inr both) some = absurd (some both.0)

directory_no_link : (entry : Option Entry) → IsDirectory entry → IsNoLink entry
directory_no_link None is = tt
directory_no_link (Some (File c m)) is = tt
directory_no_link (Some (Directory m)) is = tt
directory_no_link (Some (Link t)) is = absurd is

-- where one is to be absent, the host of the other has it so
module _ (one other : Wanted) (entry : Entry) (apart : one.path ≢ other.path) (agrees : AgreesByTable one other) (absent : one.want ≡ wants.absent) (made : made_for other.want ≡ Some entry) where
  beside : (b : Bool) → is_above one.path other.path ≡ b → is_above one.path other.path ≡ false
  beside true over = absurd (subst IsDirectoryWant absent (fit_directory one.want other.want (agrees.over over) (made_some other.want entry made)))
  beside false over = over

  absent_here : at (single other.path entry) one.path ≡ None
  absent_here =
      put_apart other.path one.path entry (prefixes_of other.path finite.empty) apart ∙ prefix_apart other.path (length other.path) finite.empty one.path (beside (is_above one.path other.path) refl) ∙ nothing_in one.path

  no_link_at : (q : List ℕ) (b : Bool) → is_above q other.path ≡ b → IsNoLink (at (prefixes_of other.path finite.empty) q)
  no_link_at q true over = subst IsNoLink (sym (above_there other.path finite.empty q over)) tt
  no_link_at q false over = subst IsNoLink (sym (prefix_apart other.path (length other.path) finite.empty q over ∙ nothing_in q)) tt

  absent_above : (q : List ℕ) → is_above q one.path ≡ true → (b : Bool) → bytes_eq q other.path ≡ b → IsNoLink (at (single other.path entry) q)
  absent_above q over true same =
      let is = (bytes_decides q other.path).0 same in
      let wanted : IsDirectoryWant other.want = fit_some other.want one.want (agrees.under (subst (λ (p : List ℕ). is_above p one.path ≡ true) is over)) (made_some other.want entry made) in
      subst (λ (p : List ℕ). IsNoLink (at (single other.path entry) p)) (sym is)
      (subst IsNoLink (sym (put_same other.path entry (prefixes_of other.path finite.empty))) (directory_no_link (Some entry) (subst IsDirectory made (made_directory other.want wanted))))
  absent_above q over false differ =
      subst IsNoLink (sym (put_apart other.path q entry (prefixes_of other.path finite.empty) (λ is. true≢false (sym ((bytes_decides q other.path).1 is) ∙ differ)))) (no_link_at q (is_above q other.path) refl)

  absent_agrees : Agrees one other
  absent_agrees = record {
    host = single other.path entry;
    one_holds = subst (λ (w : Want). Holds (single other.path entry) one.path w) (sym absent)
        (record { here = subst (IsWanted wants.absent) (sym absent_here) tt; above = λ q over. absent_above q over (bytes_eq q other.path) refl });
    other_holds = single_holds other.path entry other.want (subst (IsWanted other.want) made (made_wanted other.want));
  }

-- a host of the directories above two paths
abbrev above_both : List ℕ → List ℕ → Entries
above_both p q = prefixes_of q (prefixes_of p finite.empty)

-- with an entry at each
abbrev both : List ℕ → List ℕ → Entry → Entry → Entries
both p q e f = finite.insert (finite.insert (above_both p q) p e) q f

module _ (p q : List ℕ) (e f : Entry) (apart : p ≢ q) where
  first_there : at (both p q e f) p ≡ Some e
  first_there = put_apart q p f (finite.insert (above_both p q) p e) apart ∙ put_same p e (above_both p q)

  second_there : at (both p q e f) q ≡ Some f
  second_there = put_same q f (finite.insert (above_both p q) p e)

  above_first : (x : List ℕ) → is_above x p ≡ true → (b : Bool) → is_above x q ≡ b → at (above_both p q) x ≡ Some (Directory 493)
  above_first x over true also = above_there q (prefixes_of p finite.empty) x also
  above_first x over false also = prefix_apart q (length q) (prefixes_of p finite.empty) x also ∙ above_there p finite.empty x over

  first_holds : (want : Want) → IsWanted want (Some e) → (is_above q p ≡ true → IsDirectory (Some f)) → Holds (both p q e f) p want
  first_holds want is directory = record { here = subst (IsWanted want) (sym first_there) is; above = λ x over. by x over (bytes_eq x q) refl }
    where
      by : (x : List ℕ) → is_above x p ≡ true → (b : Bool) → bytes_eq x q ≡ b → LetsBe want (at (both p q e f) x)
      by x over true same =
          let is = (bytes_decides x q).0 same in
          subst (λ (y : List ℕ). LetsBe want (at (both p q e f) y)) (sym is)
          (subst (LetsBe want) (sym second_there) (lets-directory want (Some f) (directory (subst (λ (y : List ℕ). is_above y p ≡ true) is over))))
      by x over false differ =
          subst (LetsBe want)
          (sym (put_apart q x f (finite.insert (above_both p q) p e) (λ is. true≢false (sym ((bytes_decides x q).1 is) ∙ differ)) ∙ put_apart p x e (above_both p q) (not_above x p over) ∙ above_first x over (is_above x q) refl))
          (lets_directory want 493)

  second_holds : (want : Want) → IsWanted want (Some f) → (is_above p q ≡ true → IsDirectory (Some e)) → Holds (both p q e f) q want
  second_holds want is directory = record { here = subst (IsWanted want) (sym second_there) is; above = λ x over. by x over (bytes_eq x p) refl }
    where
      by : (x : List ℕ) → is_above x q ≡ true → (b : Bool) → bytes_eq x p ≡ b → LetsBe want (at (both p q e f) x)
      by x over true same =
          let is = (bytes_decides x p).0 same in
          subst (λ (y : List ℕ). LetsBe want (at (both p q e f) y)) (sym is)
          (subst (LetsBe want) (sym first_there) (lets-directory want (Some e) (directory (subst (λ (y : List ℕ). is_above y q ≡ true) is over))))
      by x over false differ =
          subst (LetsBe want)
          (sym (put_apart q x f (finite.insert (above_both p q) p e) (not_above x q over) ∙ put_apart p x e (above_both p q) (λ is. true≢false (sym ((bytes_decides x p).1 is) ∙ differ)) ∙ above_there q (prefixes_of p finite.empty) x over))
          (lets_directory want 493)

swapped : (one other : Wanted) → AgreesByTable one other → one.path ≢ other.path → AgreesByTable other one
swapped one other agrees apart = record { same = λ is. absurd (apart (sym is)); over = agrees.under; under = agrees.over }

apart_agree : (one other : Wanted) → one.path ≢ other.path → AgreesByTable one other → Agrees one other
apart_agree one other apart agrees = by (made_for one.want) (made_for other.want) refl refl
  where
    turned : Agrees other one → Agrees one other
    turned there = record { host = there.host; one_holds = there.other_holds; other_holds = there.one_holds }

    by : (e f : Option Entry) → made_for one.want ≡ e → made_for other.want ≡ f → Agrees one other
    by None None is also = record {
      host = finite.empty;
      one_holds = subst (λ (w : Want). Holds finite.empty one.path w) (sym (made_none one.want is)) (nothing_holds one.path);
      other_holds = subst (λ (w : Want). Holds finite.empty other.path w) (sym (made_none other.want also)) (nothing_holds other.path);
    }
    by None (Some f) is also = absent_agrees one other f apart agrees (made_none one.want is) also
    by (Some e) None is also = turned (absent_agrees other one e (λ same. apart (sym same)) (swapped one other agrees apart) (made_none other.want also) is)
    by (Some e) (Some f) is also = record {
      host = both one.path other.path e f;
      one_holds = first_holds one.path other.path e f apart one.want (subst (IsWanted one.want) is (made_wanted one.want))
          (λ over. subst IsDirectory also (made_directory other.want (fit_directory other.want one.want (agrees.under over) (made_some one.want e is))));
      other_holds = second_holds one.path other.path e f apart other.want (subst (IsWanted other.want) also (made_wanted other.want))
          (λ over. subst IsDirectory is (made_directory one.want (fit_directory one.want other.want (agrees.over over) (made_some other.want f also))));
    }

pub agreeing_by_table : AgreeingByTable
agreeing_by_table one other agrees = by (bytes_eq one.path other.path) refl
  where
    by : (b : Bool) → bytes_eq one.path other.path ≡ b → Agrees one other
    by true same =
        let is = (bytes_decides one.path other.path).0 same in
        subst (λ (p : List ℕ). Agrees one (record { path = p; want = other.want })) is (same_agree one.path one.want other.want (agrees.same is))
    by false differ = apart_agree one other (λ is. true≢false (sym ((bytes_decides one.path other.path).1 is) ∙ differ)) agrees

-- What a scan of the proper prefixes has found.
use Rattle.std.proofs.Common.{◌≡◌, ◌⊎◌, inl, inr, ℕ, ◌+◌, ◌<◌, ◌≤◌, Bool, true, false, cond, ◌==◌, List, Option, Some, None, length, take, get_or, refl, sym, ap, ◌∙◌, arith}
use Rattle.std.proofs.lemmas.Bool.{cases_lt, eqb-true, eq-eqb}
use Rattle.std.proofs.lemmas.List.{length-take-le}
use Rattle.host_tree.proofs.PathLemmas.{above-trans}
use Rattle.host_tree.specs.Acts.{entry_of, sight}
use Rattle.host_tree.specs.Entries.{Entries, at, has_below, IsDirectory, IsHost}
use Rattle.host_tree.specs.Paths.{is_above}
use Rattle.host_tree.specs.declared.entry.Entry.{Entry}
use Rattle.host_tree.specs.declared.entry.Entry.TheVariants.{File, Directory, Link}
use Rattle.host_tree.specs.declared.seen.Seen.{Seen}
use Rattle.host_acts.specs.Scanning.{BreaksAt, obstacle_ending, obstacle_in}
use Rattle.host_acts.specs.declared.scanning.Obstacle.{Obstacle}
use Rattle.host_acts.proofs.StepLemmas.{entry_of-sight}
use Rattle.host_acts.proofs.PrefixLemmas.{above-shorter, above-slash, above-take, take-above}

-- each proper prefix that is shorter than this is a directory
abbrev pub ReachesTo : List ℕ → ℕ → Entries → Type 0
ReachesTo path end host = (prefix : List ℕ) → is_above prefix path ≡ true → length prefix < end → IsDirectory (at host prefix)

no_obstacle_directory : (entry : Option Entry) → None ≡ obstacle_in entry → IsDirectory entry
no_obstacle_directory None is = cc
no_obstacle_directory (Some (File c m)) is = cc
no_obstacle_directory (Some (Directory m)) is = tt
no_obstacle_directory (Some (Link t)) is = cc

ending-some : (b : Bool) (found : Option Obstacle) (o : Obstacle) → Some o ≡ cond b found None → (b ≡ true) × (found ≡ Some o)
ending-some true found o is = (refl, sym is)
ending-some false found o is = cc

module _ (path : List ℕ) (end : ℕ) (host : Entries) (first : 0 < end) (within : end < length path) (reach : ReachesTo path end host) where
  pub scan-found : (o : Obstacle) → Some o ≡ obstacle_ending host path end → IsHost host → BreaksAt host path (record { end = end; over = o })
  scan-found o is whole =
      let parts = ending-some (get_or path end 0 == 47) (obstacle_in (at host (take end path))) o is in
      let above = take-above path end first within (eqb-true (get_or path end 0) 47 parts.0) in
      record {
        whole = whole;
        first = first;
        within = within;
        prefix = above;
        before = λ q below. reach q (above-trans q (take end path) path below above) (let shorter = above-shorter q (take end path) below in let long = length-take-le end path (omega arith) in omega (arith, shorter, long));
        over = parts.1;
      }

  more_at : None ≡ obstacle_ending host path end → (prefix : List ℕ) → is_above prefix path ≡ true → (length prefix < end) ⊎ (end ≤ length prefix) → length prefix < end + 1 → IsDirectory (at host prefix)
  more_at is prefix above (inl shorter) short = reach prefix above shorter
  more_at is prefix above (inr longer) short =
      let alike : length prefix ≡ end = omega arith in
      let slash : (get_or path end 0 == 47) ≡ true = eq-eqb (get_or path end 0) 47 (ap (λ (n : ℕ). get_or path n 0) (sym alike) ∙ above-slash prefix path above) in
      let same : take end path ≡ prefix = ap (λ (n : ℕ). take n path) (sym alike) ∙ above-take prefix path above in
      no_obstacle_directory (at host prefix) (is ∙ ap (λ (b : Bool). cond b (obstacle_in (at host (take end path))) None) slash ∙ ap (λ (p : List ℕ). obstacle_in (at host p)) same)

  pub scan-more : None ≡ obstacle_ending host path end → ReachesTo path (end + 1) host
  scan-more is prefix above short = more_at is prefix above (cases_lt (length prefix) end) short

pub scan-all : (path : List ℕ) (end : ℕ) (host : Entries) → length path ≤ end → ReachesTo path end host → (prefix : List ℕ) → is_above prefix path ≡ true → IsDirectory (at host prefix)
scan-all path end host long reach prefix above = reach prefix above (let shorter = above-shorter prefix path above in omega (arith, shorter, long))

-- what was seen at the prefix that ends here is what is looked for
pub sees-obstacle : (path prefix : List ℕ) (end : ℕ) (host : Entries) (seen : Seen) (found : Option Obstacle) → get_or path end 0 ≡ 47 → prefix ≡ take end path → found ≡ obstacle_in (entry_of seen)
    → seen ≡ sight (has_below host prefix) (at host prefix) → found ≡ obstacle_ending host path end
sees-obstacle path prefix end host seen found slash is result sees =
    result ∙ ap (λ (s : Seen). obstacle_in (entry_of s)) sees ∙ ap obstacle_in (entry_of-sight (has_below host prefix) (at host prefix)) ∙ ap (λ (p : List ℕ). obstacle_in (at host p)) is
    ∙ sym (ap (λ (b : Bool). cond b (obstacle_in (at host (take end path))) None) (eq-eqb (get_or path end 0) 47 slash))

-- What the ends of `knife` say, by how its talk went.
use Rattle.std.proofs.Common.{◌≡◌, ℕ, List, [], Result, Err, Some, None, refl, sym, ap, ◌∙◌, subst}
use Rattle.std.specs.declared.option.Option.{Option}
use Rattle.outside_core.specs.Disk.{Files, IsFile}
use Rattle.peer_wire.specs.declared.asks.Whom.{Whom}
use Rattle.talks.specs.Talk.{Line, end}
use Rattle.talks.specs.Endings.{Parts, Halts, done}
use Rattle.talks.specs.Exchanges.{line}
use Rattle.talks.specs.declared.halts.Halt.{Halt}
use Rattle.talks.specs.declared.halts.Halt.TheVariants as halt
use Rattle.talks.proofs.TalkLemmas.{Stops-none, none_before}
use Rattle.knife_errands.specs.declared.errands.Errand.{Errand}
use Rattle.knife_errands.specs.declared.errands.Errand.TheVariants.{One, RunList, FromFile}
use Rattle.knife_errands.specs.declared.errands.FileKind.{FileKind}
use Rattle.knife_core.specs.Table.{KnifeTalk, prints, from_file, bad_file, talk}
use Rattle.knife_core.specs.Ends.{on, IsHeld, KnifeSays, Halting}
use Rattle.knife_core.specs.Unsent.{SentIn, unsent_end}
use Rattle.knife_core.specs.declared.files.Unsent.{Unsent}
use Rattle.knife_core.specs.declared.files.Unsent.TheVariants as unsent
use Rattle.knife_core.specs.declared.knife.KnifeEnd.TheVariants as ends

-- a file of each name holds something or isn't there
pub any_file : (files : Option Files) (name : List ℕ) → (held : Option (List ℕ)) × IsFile files name held
any_file None name = (None, tt)
any_file (Some files) name = (files name, refl)

-- and so does the one that an errand names
pub any_held : (files : Option Files) (errand : Errand) → (held : Option (List ℕ)) × IsHeld files errand held
any_held files (One step) = (None, tt)
any_held files (RunList node change item) = (None, tt)
any_held files (FromFile kind file) = any_file files file

-- a line through a room that holds nothing is the link's
pub line_fresh : (room : List ℕ) (left gained : Option (List ℕ)) → room ≡ [] → line room left gained ≡ on left gained
line_fresh room left gained e = ap (λ r. line r left gained) e ∙ ap (λ o. on o gained) (sym (none_before left))

-- what came of a talk, over a link of which nothing was read ahead
pub Parts-fresh : (whom : Whom) (t : KnifeTalk) (r : Result (List ℕ) Halt) (room : List ℕ) (left gained : Option (List ℕ)) (new : Line)
    → room ≡ [] → Parts whom prints t r (line room left gained) new → Parts whom prints t r (on left gained) new
Parts-fresh whom t r room left gained new e p = subst (λ l. Parts whom prints t r l new) (line_fresh room left gained e) p

-- memory was wanting before anything was done
pub Halting-none : (whom : Whom) (t : KnifeTalk) (left gained : Option (List ℕ)) → Halting whom t halt.NoMemory (on left gained) (on left gained)
Halting-none whom t left gained = record {
  more = [];
  halted = subst (λ o. Halts whom t halt.NoMemory (on left gained) (on o gained)) (none_before left) (Stops-none whom t (on left gained));
}

-- memory was wanting before anything was done, whatever the errand
pub Says-none : (whom : Whom) (errand : Errand) (files : Option Files) (left gained before : Option (List ℕ))
    → KnifeSays whom errand files (ends.Halted halt.NoMemory) (on left gained) (on left gained) before before
Says-none whom errand files left gained before =
    let p = any_held files errand in
    record { held = p.0; is_held = p.1; says = (Halting-none whom (talk whom errand p.0) left gained, refl) }

-- nothing is sent of a file
pub Says-unsent : (whom : Whom) (kind : FileKind) (file : List ℕ) (files : Option Files) (u : Unsent) (left gained before : Option (List ℕ))
    → SentIn whom kind file files (Err u) → KnifeSays whom (FromFile kind file) files (unsent_end u) (on left gained) (on left gained) before before
Says-unsent whom kind file files unsent.DiskFault left gained before s = record { held = s.held; is_held = s.is_file; says = (refl, refl) }
Says-unsent whom kind file files unsent.NoMemory left gained before s =
    record { held = s.held; is_held = s.is_file; says = (Halting-none whom (talk whom (FromFile kind file) s.held) left gained, refl) }
Says-unsent whom kind file files (unsent.BadFile name) left gained before s =
    record { held = s.held; is_held = s.is_file; says = (ap (from_file file) s.sent.0 ∙ ap (λ n. end (done (bad_file n))) (sym s.sent.1), refl, refl) }

use Rattle.std.proofs.Common.{◌≡◌, ◌⊎◌, inl, inr, ℕ, Bool, true, List, Option, Some, option_map, ap}
use Rattle.host_tree.specs.Acts.{entry_of, without}
use Rattle.host_tree.specs.declared.entry.Entry.TheVariants.{Link}
use Rattle.host_acts.specs.Acts.{Updates, is_removal}
use Rattle.host_acts.specs.Changes.{Stands, directory_with, file_put}
use Rattle.host_acts.specs.Tasks.{make_directory, make_file, make_link, make_missing_file, task_at}
use Rattle.host_acts.specs.Works.{work_in}
use Rattle.host_acts.specs.declared.works.Work.{Work}
use Rattle.host_acts.specs.declared.works.Work.TheVariants as of
use Rattle.host_acts.proofs.ActLemmas.{made_ok, update-directory, update-file, update-link, update-missing, update-removed}
use Rattle.host_acts.proofs.TellsLemmas.{on_ok_made}
use Rattle.host_acts.proofs.changes.change.Goals as goal

removal : (work : Work) → (work ≡ of.RemoveFile) ⊎ (((x : Bool) × (work ≡ of.RemoveDirectory x)) ⊎ (work ≡ of.RemoveLink)) → is_removal (work_in work) ≡ true
removal work (inl is) = ap (λ (w : Work). is_removal (work_in w)) is
removal work (inr (inl (x, is))) = ap (λ (w : Work). is_removal (work_in w)) is
removal work (inr (inr is)) = ap (λ (w : Work). is_removal (work_in w)) is

pub returns-in-RemoveFile-clause-ok : goal.returns-in-RemoveFile-clause-ok
returns-in-RemoveFile-clause-ok g c =
    on_ok_made (Stands c.args.path.now c.args.seen.now) (Updates (task_at c.args.path.now (work_in c.args.work.now))) (without c.args.path.now)
    (λ h stands. update-removed c.args.path.now (work_in c.args.work.now) c.args.seen.now h (removal c.args.work.now c.in-RemoveFile.is) c.requires.changes stands) _ _
    c.remove.result c.requires.stands c.remove.ensures.ok

pub returns-in-MakeFile-clause-ok : goal.returns-in-MakeFile-clause-ok
returns-in-MakeFile-clause-ok g c =
    let content : Option (List ℕ) = option_map (λ t. t.now) c.in-MakeFile.content in
    made_ok c.args.path.now (work_in c.args.work.now) (make_file content c.in-MakeFile.mode c.in-MakeFile.replaces_link) c.args.seen.now (file_put content c.in-MakeFile.mode (entry_of c.args.seen.now)) (ap work_in c.in-MakeFile.is)
    c.requires.changes (λ changes h n stands becomes. update-file c.args.path.now content c.in-MakeFile.mode c.in-MakeFile.replaces_link c.args.seen.now h n changes stands becomes) _ _
    c.put_file.result c.requires.stands c.put_file.ensures.ok

pub returns-in-MakeMissingFile-clause-ok : goal.returns-in-MakeMissingFile-clause-ok
returns-in-MakeMissingFile-clause-ok g c =
    let content : Option (List ℕ) = option_map (λ t. t.now) c.in-MakeMissingFile.content in
    made_ok c.args.path.now (work_in c.args.work.now) (make_missing_file content c.in-MakeMissingFile.mode) c.args.seen.now (file_put content c.in-MakeMissingFile.mode (entry_of c.args.seen.now)) (ap work_in c.in-MakeMissingFile.is)
    c.requires.changes (λ changes h n stands becomes. update-missing c.args.path.now content c.in-MakeMissingFile.mode c.args.seen.now h n changes stands becomes) _ _
    c.put_file-in-MakeMissingFile.result c.requires.stands c.put_file-in-MakeMissingFile.ensures.ok

pub returns-in-MakeDirectory-clause-ok : goal.returns-in-MakeDirectory-clause-ok
returns-in-MakeDirectory-clause-ok g c =
    made_ok c.args.path.now (work_in c.args.work.now) (make_directory c.in-MakeDirectory.mode c.in-MakeDirectory.recursive) c.args.seen.now (directory_with c.in-MakeDirectory.mode (entry_of c.args.seen.now)) (ap work_in c.in-MakeDirectory.is)
    c.requires.changes (λ changes h n stands becomes. update-directory c.args.path.now c.in-MakeDirectory.mode c.in-MakeDirectory.recursive c.args.seen.now h n changes stands becomes) _ _
    c.put_directory.result c.requires.stands c.put_directory.ensures.ok

pub returns-in-MakeLink-clause-ok : goal.returns-in-MakeLink-clause-ok
returns-in-MakeLink-clause-ok g c =
    made_ok c.args.path.now (work_in c.args.work.now) (make_link c.in-MakeLink.to.now) c.args.seen.now (Some (Link c.in-MakeLink.to.now)) (ap work_in c.in-MakeLink.is)
    c.requires.changes (λ changes h n stands becomes. update-link c.args.path.now c.in-MakeLink.to.now c.args.seen.now h n changes stands becomes) _ _
    c.put_link.result c.requires.stands c.put_link.ensures.ok

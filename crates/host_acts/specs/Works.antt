-- The work that the code is handed, for the private clauses.
use Rattle.std.specs.Prelude.{option_map}
use Rattle.host_acts.specs.Tasks.{Work, make_file, make_missing_file, remove_file, make_directory, remove_directory, make_link, remove_link}
use Rattle.host_acts.specs.declared.works.Work as code
use Rattle.host_acts.specs.declared.works.Work.TheVariants as of

-- the work that the code is handed
abbrev pub work_in : code.Work → Work
work_in (of.MakeFile content mode replaces_link) = make_file (option_map (λ t. t.now) content) mode replaces_link
work_in (of.MakeMissingFile content mode) = make_missing_file (option_map (λ t. t.now) content) mode
work_in of.RemoveFile = remove_file
work_in (of.MakeDirectory mode recursive) = make_directory mode recursive
work_in (of.RemoveDirectory recursive) = remove_directory recursive
work_in (of.MakeLink to) = make_link to.now
work_in of.RemoveLink = remove_link

-- What a run promises, put together of what its parts do.
use Rattle.std.proofs.Common.{◌≡◌, ◌≢◌, ◌⊎◌, ℕ, List, Bool, true, false, Option, None, Some, is_some, inl, inr, refl, sym, ap, ◌∙◌, subst}
use Rattle.outside_core.specs.Failed.{Rose}
use Rattle.outside_core.specs.Disk.{Files, IsFile}
use Rattle.chefsite.specs.declared.statuses.Status.{Status}
use Rattle.chefsite.specs.declared.statuses.Status.TheVariants.{Done, Usage, ReadFault, WriteFault, NoMemory, NotAMessage, BadReply, Refused, BadFile}
use Rattle.command_words.specs.Words.{Command, Knife, answer, explain, demo, knife, command_of}
use Rattle.knife_errands.specs.Words.{errand_in}
use Rattle.knife_errands.specs.declared.errands.Errand.{Errand}
use Rattle.chefsite.specs.Endings.{Says, HasStatusCause, TellsRest, IsComplete}
use Rattle.chefsite.specs.Explaining.{HasNoSources, IsExplainedBy, SaysOfFile, HasFileCause}
use Rattle.chefsite.specs.Demonstrating.{SaysOfDemo, HasDemoCause}
use Rattle.chefsite.specs.Courses.{Course, IsUntouched, PeerCourse, IsPeerUntouched}
use Rattle.chefsite.specs.Knifing.{is_understood, whom_of, Unasked, Talked, Asked, Unspelled, Comes, Knifed}
use Rattle.chefsite.specs.Notes.{IsNoted}
use Rattle.chefsite.specs.Theorems.{Answered, Explained, Demonstrated, IsApart, Performed, Ran, asks_a_server, file_named, named_of}
use Rattle.chefsite.specs.declared.ended.Ended.{Ended}
use Rattle.chefsite.specs.declared.named.Named.{Named}
use Rattle.chefsite.specs.declared.named.Named.TheVariants.{Nothing}
use Rattle.chefsite.proofs.KnifeLemmas.{knifed_so, not_usage_asked, idle_memory}

-- a run of `answer` that did what its status says
pub answered_so : (status : Status) (input output : Course (List ℕ)) (disk : Course Files)
    → Says status input.old input.new output.old output.new
    → HasStatusCause status input.faults_before input.faults_after output.faults_before output.faults_after
    → TellsRest status input.old
    → IsComplete status input.old input.faults_before input.faults_after output.faults_before output.faults_after
    → IsUntouched disk
    → Answered status input output disk
answered_so status input output disk says cause rest complete untouched =
    let says_at : (other : Status) → status ≡ other → Says other input.old input.new output.old output.new =
    λ other same. subst (λ s. Says s input.old input.new output.old output.new) same says in
    let cause_at : (other : Status) → status ≡ other → HasStatusCause other input.faults_before input.faults_after output.faults_before output.faults_after =
    λ other same. subst (λ s. HasStatusCause s input.faults_before input.faults_after output.faults_before output.faults_after) same cause in
    let untouched_at : status ≡ NoMemory → IsUntouched input × IsUntouched output =
    λ same. (
      record { told = (says_at NoMemory same).0; count = (cause_at NoMemory same).0 },
      record { told = (says_at NoMemory same).1; count = (cause_at NoMemory same).1 },
    ) in
    record {
      done = says_at Done;
      read_fault = says_at ReadFault;
      read_cause = cause_at ReadFault;
      write_fault = says_at WriteFault;
      write_cause = cause_at WriteFault;
      nothing = untouched_at;
      not_a_message = λ place. says_at (NotAMessage place);
      rest = rest;
      complete = complete;
      files = untouched;
      no_file = says_at BadFile;
    }

-- a file that is explained has sources
has_sources : (known : Option Files) (file lines : List ℕ) → IsExplainedBy known file lines
    → (files : Files) → known ≡ Some files → ¬ (HasNoSources (files file))
has_sources known file lines e files is none =
    let there : Some e.0 ≡ files file = subst (λ k. IsFile k file (Some e.0)) is e.1 in
    let lacking : HasNoSources (Some e.0) = subst HasNoSources (sym there) none in
    cc (lacking, e.2.sources)

-- where the file has no sources
lacks_sources : (status : Status) (known : Option Files) (file : List ℕ) (held now : Option (List ℕ)) → SaysOfFile status known file held now
    → (files : Files) → known ≡ Some files → HasNoSources (files file) → (status ≡ BadFile) ⊎ (status ≡ ReadFault) ⊎ (status ≡ NoMemory)
lacks_sources Done known file held now says files is none = absurd (has_sources known file says.0 says.1 files is none)
lacks_sources Usage known file held now says files is none = absurd says
lacks_sources ReadFault known file held now says files is none = inr (inl refl)
lacks_sources WriteFault known file held now says files is none = absurd (has_sources known file says.0 says.1 files is none)
lacks_sources NoMemory known file held now says files is none = inr (inr refl)
lacks_sources (NotAMessage place) known file held now says files is none = absurd says
lacks_sources BadReply known file held now says files is none = absurd says
lacks_sources (Refused number) known file held now says files is none = absurd says
lacks_sources BadFile known file held now says files is none = inl refl

-- where no count rose
ends_without_fault : (status : Status) (read_before read_now written_before written_now : ℕ)
    → HasFileCause status read_before read_now written_before written_now
    → ¬ (Rose read_before read_now) → ¬ (Rose written_before written_now) → (status ≡ Done) ⊎ (status ≡ BadFile) ⊎ (status ≡ NoMemory)
ends_without_fault Done rb rn wb wn cause no_read no_write = inl refl
ends_without_fault Usage rb rn wb wn cause no_read no_write = absurd cause
ends_without_fault ReadFault rb rn wb wn cause no_read no_write = absurd (no_read cause.0)
ends_without_fault WriteFault rb rn wb wn cause no_read no_write = absurd (no_write cause.1)
ends_without_fault NoMemory rb rn wb wn cause no_read no_write = inr (inr refl)
ends_without_fault (NotAMessage place) rb rn wb wn cause no_read no_write = absurd cause
ends_without_fault BadReply rb rn wb wn cause no_read no_write = absurd cause
ends_without_fault (Refused number) rb rn wb wn cause no_read no_write = absurd cause
ends_without_fault BadFile rb rn wb wn cause no_read no_write = inr (inl refl)

-- any status but that of a read fault leaves the disk's count
leaves_count : (status : Status) (read_before read_now written_before written_now : ℕ)
    → HasFileCause status read_before read_now written_before written_now → status ≢ ReadFault → read_now ≡ read_before
leaves_count Done rb rn wb wn cause other = cause
leaves_count Usage rb rn wb wn cause other = absurd cause
leaves_count ReadFault rb rn wb wn cause other = absurd (other refl)
leaves_count WriteFault rb rn wb wn cause other = cause.0
leaves_count NoMemory rb rn wb wn cause other = cause.0
leaves_count (NotAMessage place) rb rn wb wn cause other = absurd cause
leaves_count BadReply rb rn wb wn cause other = absurd cause
leaves_count (Refused number) rb rn wb wn cause other = absurd cause
leaves_count BadFile rb rn wb wn cause other = cause.0

-- a run of `explain` that did what its status says
explained_so : (status : Status) (file : List ℕ) (input output : Course (List ℕ)) (disk : Course Files)
    → SaysOfFile status disk.old file output.old output.new
    → HasFileCause status disk.faults_before disk.faults_after output.faults_before output.faults_after
    → IsUntouched input → disk.new ≡ disk.old
    → Explained status file input output disk
explained_so status file input output disk says cause untouched kept =
    let says_at : (other : Status) → status ≡ other → SaysOfFile other disk.old file output.old output.new =
    λ other same. subst (λ s. SaysOfFile s disk.old file output.old output.new) same says in
    let cause_at : (other : Status) → status ≡ other → HasFileCause other disk.faults_before disk.faults_after output.faults_before output.faults_after =
    λ other same. subst (λ s. HasFileCause s disk.faults_before disk.faults_after output.faults_before output.faults_after) same cause in
    record {
      done = says_at Done;
      read_cause = λ same. (cause_at ReadFault same).0;
      write_fault = says_at WriteFault;
      write_cause = λ same. (cause_at WriteFault same).1;
      bad_file = λ bad. (says_at BadFile bad).0;
      no_sources = lacks_sources status disk.old file output.old output.new says;
      unfailed = leaves_count status disk.faults_before disk.faults_after output.faults_before output.faults_after cause;
      nothing = λ ended. elim ended [
        | inl read ↦ record { told = says_at ReadFault read; count = (cause_at ReadFault read).1 }
        | inr (inl memory) ↦ record { told = says_at NoMemory memory; count = (cause_at NoMemory memory).1 }
        | inr (inr bad) ↦ record { told = (says_at BadFile bad).1; count = (cause_at BadFile bad).1 }
      ];
      complete = ends_without_fault status disk.faults_before disk.faults_after output.faults_before output.faults_after cause;
      no_message = λ place. says_at (NotAMessage place);
      no_input = untouched;
      kept = kept;
    }

-- where the output's count didn't rise
ends_without_write_fault : (status : Status) (before now : ℕ) → HasDemoCause status before now → ¬ (Rose before now) → (status ≡ Done) ⊎ (status ≡ NoMemory)
ends_without_write_fault Done before now cause no_write = inl refl
ends_without_write_fault Usage before now cause no_write = absurd cause
ends_without_write_fault ReadFault before now cause no_write = absurd cause
ends_without_write_fault WriteFault before now cause no_write = absurd (no_write cause)
ends_without_write_fault NoMemory before now cause no_write = inr refl
ends_without_write_fault (NotAMessage place) before now cause no_write = absurd cause
ends_without_write_fault BadReply before now cause no_write = absurd cause
ends_without_write_fault (Refused number) before now cause no_write = absurd cause
ends_without_write_fault BadFile before now cause no_write = absurd cause

-- which statuses come
ends_of_demo : (status : Status) (before now : ℕ) → HasDemoCause status before now → (status ≡ Done) ⊎ (status ≡ WriteFault) ⊎ (status ≡ NoMemory)
ends_of_demo Done before now cause = inl refl
ends_of_demo Usage before now cause = absurd cause
ends_of_demo ReadFault before now cause = absurd cause
ends_of_demo WriteFault before now cause = inr (inl refl)
ends_of_demo NoMemory before now cause = inr (inr refl)
ends_of_demo (NotAMessage place) before now cause = absurd cause
ends_of_demo BadReply before now cause = absurd cause
ends_of_demo (Refused number) before now cause = absurd cause
ends_of_demo BadFile before now cause = absurd cause

-- a run of `demo` that did what its status says
demonstrated_so : (status : Status) (size : ℕ) (input output : Course (List ℕ)) (disk : Course Files)
    → SaysOfDemo status size output.old output.new
    → HasDemoCause status output.faults_before output.faults_after
    → IsUntouched input → IsUntouched disk
    → Demonstrated status size input output disk
demonstrated_so status size input output disk says cause no_input no_file =
    let says_at : (other : Status) → status ≡ other → SaysOfDemo other size output.old output.new =
    λ other same. subst (λ s. SaysOfDemo s size output.old output.new) same says in
    let cause_at : (other : Status) → status ≡ other → HasDemoCause other output.faults_before output.faults_after =
    λ other same. subst (λ s. HasDemoCause s output.faults_before output.faults_after) same cause in
    record {
      done = says_at Done;
      write_fault = says_at WriteFault;
      write_cause = cause_at WriteFault;
      nothing = λ same. record { told = says_at NoMemory same; count = cause_at NoMemory same };
      statuses = ends_of_demo status output.faults_before output.faults_after cause;
      complete = ends_without_write_fault status output.faults_before output.faults_after cause;
      no_input = no_input;
      no_file = no_file;
    }

-- words are read as one command alone
no_other : (given : List (List ℕ)) (one other : Command) → command_of given ≡ Some one → command_of given ≡ Some other → one ≡ other
no_other given one other is also = some_same (sym is ∙ also)
  where
    some_same : {x y : Command} → Some x ≡ Some y → x ≡ y
    some_same same = cc

-- a command that is understood was performed so, where it asks no server
performed_so : (ended : Ended) (given : List (List ℕ)) (command : Command) (input output : Course (List ℕ)) (disk : Course Files) (peer : PeerCourse)
    → command_of given ≡ Some command → is_understood (Some command) ≡ true → ended.status ≢ Usage
    → ((told : Knife) → command ≡ knife told → ⊥)
    → IsApart ended (Some command) peer
    → (command ≡ answer → Answered ended.status input output disk)
    → ((file : List ℕ) → command ≡ explain file → Explained ended.status file input output disk)
    → ((size : ℕ) → command ≡ demo size → Demonstrated ended.status size input output disk)
    → Performed ended given input output disk peer
performed_so ended given command input output disk peer is understood not_usage no_knife apart answered explained demonstrated =
    let is_there : is_understood (command_of given) ≡ true = ap is_understood is ∙ understood in
    record {
      usage = λ usage. absurd (not_usage usage);
      no_command = λ none. absurd (cc (sym is_there ∙ none));
      idle = λ none. absurd (cc (sym is_there ∙ none));
      answered = λ also. answered (no_other given command answer is also);
      explained = λ file also. explained file (no_other given command (explain file) is also);
      demonstrated = λ size also. demonstrated size (no_other given command (demo size) is also);
      knifed = λ told errand also spelled. absurd (no_knife told (no_other given command (knife told) is also));
      apart = λ no_server. subst (λ c. IsApart ended c peer) (sym is) apart;
    }

-- `answer` was performed so
pub performed_answer : (ended : Ended) (given : List (List ℕ)) (input output : Course (List ℕ)) (disk : Course Files) (peer : PeerCourse)
    → command_of given ≡ Some answer
    → ended.named ≡ Nothing → IsPeerUntouched peer
    → Says ended.status input.old input.new output.old output.new
    → Answered ended.status input output disk
    → Performed ended given input output disk peer
performed_answer ended given input output disk peer is named no_peer says answered =
    performed_so ended given answer input output disk peer is refl
    (λ usage. subst (λ s. Says s input.old input.new output.old output.new) usage says)
    (λ told other. absurd (cc other))
    (record { no_peer = no_peer; named = named })
    (λ same. answered)
    (λ file other. absurd (cc other))
    (λ size other. absurd (cc other))

-- `explain` was performed so, of a file of this name
pub performed_explain : (ended : Ended) (status : Status) (given : List (List ℕ)) (spelled file : List ℕ) (input output : Course (List ℕ)) (disk : Course Files) (peer : PeerCourse)
    → command_of given ≡ Some (explain file) → spelled ≡ file
    → ended.status ≡ status → ended.named ≡ file_named status file → IsPeerUntouched peer
    → SaysOfFile status disk.old spelled output.old output.new
    → HasFileCause status disk.faults_before disk.faults_after output.faults_before output.faults_after
    → IsUntouched input → disk.new ≡ disk.old
    → Performed ended given input output disk peer
performed_explain ended status given spelled file input output disk peer is same ends named no_peer says cause untouched kept =
    let is_file : (x y : List ℕ) → explain x ≡ explain y → x ≡ y = λ x y one. cc one in
    let says_ended : SaysOfFile ended.status disk.old spelled output.old output.new =
    subst (λ s. SaysOfFile s disk.old spelled output.old output.new) (sym ends) says in
    let cause_ended : HasFileCause ended.status disk.faults_before disk.faults_after output.faults_before output.faults_after =
    subst (λ s. HasFileCause s disk.faults_before disk.faults_after output.faults_before output.faults_after) (sym ends) cause in
    let named_ended : ended.named ≡ file_named ended.status file = named ∙ ap (λ s. file_named s file) (sym ends) in
    performed_so ended given (explain file) input output disk peer is refl
    (λ usage. subst (λ s. SaysOfFile s disk.old spelled output.old output.new) usage says_ended)
    (λ told other. absurd (cc other))
    (record { no_peer = no_peer; named = named_ended })
    (λ other. absurd (cc other))
    (λ x one.
    let says_of : SaysOfFile ended.status disk.old x output.old output.new =
    subst (λ f. SaysOfFile ended.status disk.old f output.old output.new) (same ∙ is_file file x one) says_ended in
    explained_so ended.status x input output disk says_of cause_ended untouched kept)
    (λ size other. absurd (cc other))

-- `demo` was performed so
pub performed_demo : (ended : Ended) (given : List (List ℕ)) (size : ℕ) (input output : Course (List ℕ)) (disk : Course Files) (peer : PeerCourse)
    → command_of given ≡ Some (demo size)
    → ended.named ≡ Nothing → IsPeerUntouched peer
    → SaysOfDemo ended.status size output.old output.new
    → HasDemoCause ended.status output.faults_before output.faults_after
    → IsUntouched input → IsUntouched disk
    → Performed ended given input output disk peer
performed_demo ended given size input output disk peer is named no_peer says cause no_input no_file =
    let is_size : (x y : ℕ) → demo x ≡ demo y → x ≡ y = λ x y one. cc one in
    performed_so ended given (demo size) input output disk peer is refl
    (λ usage. subst (λ s. SaysOfDemo s size output.old output.new) usage says)
    (λ told other. absurd (cc other))
    (record { no_peer = no_peer; named = named })
    (λ other. absurd (cc other))
    (λ file other. absurd (cc other))
    (λ x one. subst (λ n. Demonstrated ended.status n input output disk) (is_size size x one) (demonstrated_so ended.status size input output disk says cause no_input no_file))

-- what `knife` is told, and an errand, are told by what holds them
same_told : (x y : Knife) → knife x ≡ knife y → x ≡ y
same_told x y same = cc same

some_errand : (x y : Errand) → Some x ≡ Some y → x ≡ y
some_errand x y same = cc same

-- `knife` was performed so, as it came by the errand that its words spell, if they spell one
knifed_by : (ended : Ended) (given : List (List ℕ)) (told : Knife) (spelled : Option Errand) (input output : Course (List ℕ)) (disk : Course Files) (peer : PeerCourse)
    → command_of given ≡ Some (knife told) → errand_in told.words ≡ spelled
    → Comes ended told spelled output disk peer → IsUntouched input
    → Performed ended given input output disk peer
knifed_by ended given told None input output disk peer is spells comes no_input =
    let other : (command : Command) → (knife told ≡ command → ⊥) → command_of given ≡ Some command → ⊥ =
    λ command differs also. differs (no_other given (knife told) command is also) in
    let not_spelled : is_understood (command_of given) ≡ false = ap is_understood is ∙ ap is_some spells in
    let is_told : (x : Knife) → command_of given ≡ Some (knife x) → told ≡ x = λ x also. same_told told x (no_other given (knife told) (knife x) is also) in
    record {
      usage = λ usage. not_spelled;
      no_command = λ none. inl comes.status;
      idle = λ none. (no_input, comes.unwritten, comes.unread, comes.unasked);
      answered = λ also. absurd (other answer (λ same. cc same) also);
      explained = λ file also. absurd (other (explain file) (λ same. cc same) also);
      demonstrated = λ size also. absurd (other (demo size) (λ same. cc same) also);
      knifed = λ x errand also found. absurd (cc (sym spells ∙ ap (λ (k : Knife). errand_in k.words) (is_told x also) ∙ found));
      apart = λ no_server. absurd (cc (sym (ap asks_a_server is) ∙ no_server));
    }
knifed_by ended given told (Some errand) input output disk peer is spells comes no_input =
    let other : (command : Command) → (knife told ≡ command → ⊥) → command_of given ≡ Some command → ⊥ =
    λ command differs also. differs (no_other given (knife told) command is also) in
    let is_there : is_understood (command_of given) ≡ true = ap is_understood is ∙ ap is_some spells in
    let is_told : (x : Knife) → command_of given ≡ Some (knife x) → told ≡ x = λ x also. same_told told x (no_other given (knife told) (knife x) is also) in
    record {
      usage = λ usage. absurd (not_usage_asked ended (whom_of told) errand output disk peer comes usage);
      no_command = λ none. absurd (cc (sym is_there ∙ none));
      idle = λ none. absurd (cc (sym is_there ∙ none));
      answered = λ also. absurd (other answer (λ same. cc same) also);
      explained = λ file also. absurd (other (explain file) (λ same. cc same) also);
      demonstrated = λ size also. absurd (other (demo size) (λ same. cc same) also);
      knifed = λ x found also found_so.
          let same : told ≡ x = is_told x also in
          let same_errand : errand ≡ found = some_errand errand found (sym spells ∙ ap (λ (k : Knife). errand_in k.words) same ∙ found_so) in
          subst (λ k. Knifed ended (whom_of k) found input output disk peer) same
          (subst (λ e. Knifed ended (whom_of told) e input output disk peer) same_errand (knifed_so ended (whom_of told) errand input output disk peer comes no_input));
      apart = λ no_server. absurd (cc (sym (ap asks_a_server is) ∙ no_server));
    }

pub performed_knife : (ended : Ended) (given : List (List ℕ)) (told : Knife) (input output : Course (List ℕ)) (disk : Course Files) (peer : PeerCourse)
    → command_of given ≡ Some (knife told)
    → Comes ended told (errand_in told.words) output disk peer → IsUntouched input
    → Performed ended given input output disk peer
performed_knife ended given told input output disk peer is comes no_input =
    knifed_by ended given told (errand_in told.words) input output disk peer is refl comes no_input

-- words that are no command: nothing was done
idled : (given : List (List ℕ)) (input output : Course (List ℕ)) (disk : Course Files) (peer : PeerCourse)
    → command_of given ≡ None → IsUntouched input → IsUntouched output → IsUntouched disk → IsPeerUntouched peer
    → Performed (record { status = Usage; named = Nothing }) given input output disk peer
idled given input output disk peer none no_input no_output no_disk no_peer =
    let other : (command : Command) → command_of given ≡ Some command → ⊥ = λ command is. cc (sym none ∙ is) in
    record {
      usage = λ usage. ap is_understood none;
      no_command = λ no_command. inl refl;
      idle = λ no_command. (no_input, no_output, no_disk, no_peer);
      answered = λ is. absurd (other answer is);
      explained = λ file is. absurd (other (explain file) is);
      demonstrated = λ size is. absurd (other (demo size) is);
      knifed = λ told errand is spelled. absurd (other (knife told) is);
      apart = λ no_server. record { no_peer = no_peer; named = sym (ap (named_of Usage) none) };
    }

-- want of memory names nothing
names_nothing : (command : Option Command) → Nothing ≡ named_of NoMemory command
names_nothing None = refl
names_nothing (Some answer) = refl
names_nothing (Some (explain file)) = refl
names_nothing (Some (demo size)) = refl
names_nothing (Some (knife told)) = refl

pub unnamed : (command : Option Command) → Nothing ≡ named_of NoMemory command
unnamed command = names_nothing command

-- want of memory before the words were read
wanted_memory : (given : List (List ℕ)) (input output : Course (List ℕ)) (disk : Course Files) (peer : PeerCourse)
    → IsUntouched input → IsUntouched output → IsUntouched disk → IsPeerUntouched peer
    → Performed (record { status = NoMemory; named = Nothing }) given input output disk peer
wanted_memory given input output disk peer no_input no_output no_disk no_peer = record {
  usage = λ usage. absurd (cc usage);
  no_command = λ no_command. inr refl;
  idle = λ no_command. (no_input, no_output, no_disk, no_peer);
  answered = λ is.
      answered_so NoMemory input output disk (no_input.told, no_output.told) (no_input.count, no_output.count)
      (λ bytes messages rest left split. ((λ done. absurd (cc done)), (λ place cut. absurd (cc cut))))
      (λ bytes messages left split no_read no_write. inr refl) no_disk;
  explained = λ file is. explained_so NoMemory file input output disk no_output.told (no_disk.count, no_output.count) no_input no_disk.told;
  demonstrated = λ size is. demonstrated_so NoMemory size input output disk no_output.told no_output.count no_input no_disk;
  knifed = λ told errand is spelled. idle_memory (whom_of told) errand input output disk peer no_input no_output no_disk no_peer;
  apart = λ no_server. record { no_peer = no_peer; named = names_nothing (command_of given) };
}

-- a run of words that are no command
pub ran_idle : {N : Type 0} (status : Status) (given : List (List ℕ)) (input output notes : Course (List ℕ)) (disk : Course Files) (peer : PeerCourse) (before after : N)
    → status ≡ Usage → command_of given ≡ None → IsUntouched input → IsUntouched output → IsUntouched disk → IsPeerUntouched peer
    → IsNoted Usage Nothing notes.old notes.new notes.faults_before notes.faults_after
    → Ran status given input output notes disk peer before after
ran_idle status given input output notes disk peer before after same none no_input no_output no_disk no_peer noted =
    subst (λ s. Ran s given input output notes disk peer before after) (sym same) record {
      named = Nothing;
      performed = idled given input output disk peer none no_input no_output no_disk no_peer;
      noted = noted;
      quiet = λ done. absurd (cc done);
    }

-- a run that found no memory to read its words
pub ran_short : {N : Type 0} (status : Status) (given : List (List ℕ)) (input output notes : Course (List ℕ)) (disk : Course Files) (peer : PeerCourse) (before after : N)
    → status ≡ NoMemory → IsUntouched input → IsUntouched output → IsUntouched disk → IsPeerUntouched peer
    → IsNoted NoMemory Nothing notes.old notes.new notes.faults_before notes.faults_after
    → Ran status given input output notes disk peer before after
ran_short status given input output notes disk peer before after same no_input no_output no_disk no_peer noted =
    subst (λ s. Ran s given input output notes disk peer before after) (sym same) record {
      named = Nothing;
      performed = wanted_memory given input output disk peer no_input no_output no_disk no_peer;
      noted = noted;
      quiet = λ done. absurd (cc done);
    }

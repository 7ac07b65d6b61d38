-- What a run of `knife` promises, put together of how it ended.
use Rattle.std.proofs.Common.{◌≡◌, ◌≢◌, ◌⊎◌, ℕ, List, inl, inr, refl, sym, ◌∙◌, subst}
use Rattle.outside_core.specs.Failed.{Rose}
use Rattle.outside_core.specs.Disk.{Files}
use Rattle.peer_wire.specs.declared.asks.Whom.{Whom}
use Rattle.talks.specs.declared.halts.Halt.{Halt}
use Rattle.talks.specs.declared.halts.Halt.TheVariants as halt
use Rattle.talks.specs.Exchanges.{HaltCause}
use Rattle.knife_errands.specs.declared.errands.Errand.{Errand}
use Rattle.knife_core.specs.Ends.{LinkCause, HasLinkCause, HasReadCause, HasOutputCause}
use Rattle.knife_core.specs.declared.knife.KnifeEnd.{KnifeEnd}
use Rattle.knife_core.specs.declared.knife.KnifeEnd.TheVariants as end
use Rattle.chefsite.specs.Courses.{Course, IsUntouched, PeerCourse, IsPeerUntouched}
use Rattle.chefsite.specs.Knifing.{halt_status, end_status, Unasked, Talked, Asked, Knifed}
use Rattle.chefsite.specs.declared.ended.Ended.{Ended}
use Rattle.chefsite.specs.declared.named.Named.TheVariants.{Nothing}
use Rattle.chefsite.specs.declared.statuses.Status.TheVariants.{Usage, ReadFault, WriteFault, NoMemory}

-- no halt and no end is that of words that are no command
halt_is_no_usage : (h : Halt) → halt_status h ≢ Usage
halt_is_no_usage halt.ReadFault same = cc same
halt_is_no_usage halt.WriteFault same = cc same
halt_is_no_usage halt.NoMemory same = cc same
halt_is_no_usage (halt.Unanswered request) same = cc same
halt_is_no_usage (halt.Malformed request) same = cc same
halt_is_no_usage (halt.Answered number request) same = cc same

end_is_no_usage : (e : KnifeEnd) → end_status e ≢ Usage
end_is_no_usage end.Done same = cc same
end_is_no_usage end.OutputFault same = cc same
end_is_no_usage (end.Halted h) same = halt_is_no_usage h same
end_is_no_usage end.DiskFault same = cc same
end_is_no_usage (end.BadFile name) same = cc same

pub not_usage_asked : (ended : Ended) (whom : Whom) (errand : Errand) (output : Course (List ℕ)) (disk : Course Files) (peer : PeerCourse)
    → Asked ended whom errand output disk peer → ended.status ≢ Usage
not_usage_asked ended whom errand output disk peer asked usage = elim asked [
  | inl unasked ↦ elim unasked.status [
    | inl read ↦ absurd (cc (sym usage ∙ read))
    | inr memory ↦ absurd (cc (sym usage ∙ memory))
  ]
  | inr talked ↦ end_is_no_usage talked.end (sym talked.status ∙ usage)
]

-- a read fault of a halt is one of the peer
halt_read : (before now : ℕ) (h : Halt) → HaltCause before now h → halt_status h ≡ ReadFault → Rose before now
halt_read before now halt.ReadFault cause same = cause
halt_read before now halt.WriteFault cause same = absurd (cc same)
halt_read before now halt.NoMemory cause same = absurd (cc same)
halt_read before now (halt.Unanswered request) cause same = absurd (cc same)
halt_read before now (halt.Malformed request) cause same = absurd (cc same)
halt_read before now (halt.Answered number request) cause same = absurd (cc same)

-- and a write fault likewise
halt_write : (before now : ℕ) (h : Halt) → HaltCause before now h → halt_status h ≡ WriteFault → Rose before now
halt_write before now halt.ReadFault cause same = absurd (cc same)
halt_write before now halt.WriteFault cause same = cause
halt_write before now halt.NoMemory cause same = absurd (cc same)
halt_write before now (halt.Unanswered request) cause same = absurd (cc same)
halt_write before now (halt.Malformed request) cause same = absurd (cc same)
halt_write before now (halt.Answered number request) cause same = absurd (cc same)

-- a read fault of an end is one of the peer or of the disk
end_read : (e : KnifeEnd) (pb pn db dn : ℕ) → HasLinkCause pb pn e → HasReadCause db dn e → end_status e ≡ ReadFault → Rose pb pn ⊎ Rose db dn
end_read end.Done pb pn db dn link read same = absurd (cc same)
end_read end.OutputFault pb pn db dn link read same = absurd (cc same)
end_read (end.Halted h) pb pn db dn link read same = inl (halt_read pb pn h link.rose same)
end_read end.DiskFault pb pn db dn link read same = inr (read.rose refl)
end_read (end.BadFile name) pb pn db dn link read same = absurd (cc same)

-- a write fault of an end is one of the peer or of the output
end_write : (e : KnifeEnd) (pb pn ob on : ℕ) → HasLinkCause pb pn e → HasOutputCause ob on e → end_status e ≡ WriteFault → Rose pb pn ⊎ Rose ob on
end_write end.Done pb pn ob on link written same = absurd (cc same)
end_write end.OutputFault pb pn ob on link written same = inr (written.rose refl)
end_write (end.Halted h) pb pn ob on link written same = inl (halt_write pb pn h link.rose same)
end_write end.DiskFault pb pn ob on link written same = absurd (cc same)
end_write (end.BadFile name) pb pn ob on link written same = absurd (cc same)

-- a run of `knife` that ended as it was asked
pub knifed_so : (ended : Ended) (whom : Whom) (errand : Errand) (input output : Course (List ℕ)) (disk : Course Files) (peer : PeerCourse)
    → Asked ended whom errand output disk peer → IsUntouched input
    → Knifed ended whom errand input output disk peer
knifed_so ended whom errand input output disk peer asked no_input = record {
  asked = asked;
  read_cause = λ status. elim asked [
    | inl unasked ↦ inl (unasked.cause status)
    | inr talked ↦ inr (end_read talked.end peer.old.faults peer.new.faults disk.faults_before disk.faults_after talked.link talked.read (sym talked.status ∙ status))
  ];
  write_cause = λ status. elim asked [
    | inl unasked ↦ elim unasked.status [
      | inl read ↦ absurd (cc (sym status ∙ read))
      | inr memory ↦ absurd (cc (sym status ∙ memory))
    ]
    | inr talked ↦ end_write talked.end peer.old.faults peer.new.faults output.faults_before output.faults_after talked.link talked.written (sym talked.status ∙ status)
  ];
  no_input = no_input;
  kept = elim asked [
    | inl unasked ↦ unasked.unread.told
    | inr talked ↦ talked.files
  ];
}

-- want of memory before anything was asked
pub idle_memory : (whom : Whom) (errand : Errand) (input output : Course (List ℕ)) (disk : Course Files) (peer : PeerCourse)
    → IsUntouched input → IsUntouched output → IsUntouched disk → IsPeerUntouched peer
    → Knifed (record { status = NoMemory; named = Nothing }) whom errand input output disk peer
idle_memory whom errand input output disk peer no_input no_output no_disk no_peer =
    let unasked : Unasked (record { status = NoMemory; named = Nothing }) output disk peer = record {
      status = inr refl;
      named = refl;
      cause = λ read. absurd (cc read);
      unfailed = λ other. no_peer.count;
      unread = no_disk;
      unwritten = no_output;
      held = no_peer.held;
    } in
    knifed_so (record { status = NoMemory; named = Nothing }) whom errand input output disk peer (inl unasked) no_input

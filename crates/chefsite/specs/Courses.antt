-- What a run leaves of the input, the output, the notes, the disk and the peer that it is given.
use Rattle.std.specs.Prelude.{◌≡◌, ℕ, List, Option}
use Rattle.chefsite.specs.Makers.{Peer}

-- the course of an input, an output, notes or a disk over a run: what it tells, which is the bytes that an input has left
-- or that an output and notes have gained, or the files of a disk; and its count of faults, before and after
pub record Course (T : Type 0) : Type 0 where
  pub old : Option T
  pub new : Option T
  pub faults_before : ℕ
  pub faults_after : ℕ

-- what it tells and its count of faults are as they were
pub record IsUntouched {T : Type 0} (course : Course T) : Type 0 where
  pub told : course.new ≡ course.old
  pub count : course.faults_after ≡ course.faults_before

-- the course of the peer that the makers hold, and of the count of those that they couldn't make
pub record PeerCourse : Type 0 where
  pub old : Peer
  pub new : Peer
  pub unmade_before : ℕ
  pub unmade_after : ℕ

-- no peer was asked for
pub record IsPeerUntouched (peer : PeerCourse) : Type 0 where
  pub held : peer.new ≡ peer.old
  pub count : peer.unmade_after ≡ peer.unmade_before

-- When a host may answer that it failed.
use Rattle.std.specs.Prelude.{◌≡◌, ◌≢◌, ℕ, ◌≤◌, Result, Err}
use Rattle.outside_core.specs.Failed.{Rose}
use Rattle.host_tree.specs.declared.fault.HostFault.{HostFault}
use Rattle.host_tree.specs.declared.fault.HostFault.TheVariants.{Failed}

-- the count of faults didn't fall; the host failed only where it rose, and any other answer leaves it as it was
pub record HasHostCause {T : Type 0} (before now : ℕ) (result : Result T HostFault) : Type 0 where
  pub later : before ≤ now
  pub failed : result ≡ Err Failed → Rose before now
  pub unfailed : result ≢ Err Failed → now ≡ before

-- Work lists that are performed one after another.
use Rattle.std.proofs.Common.{◌≡◌, List, [], ◌∷◌, ◌++◌, Option, Some, None, refl, sym, ap, subst, ◌∙◌}
use Rattle.std.proofs.lemmas.List.{append-nil, append_assoc}
use Rattle.host_acts.specs.Acts as act
use Rattle.host_acts.specs.Acts.{Act, Performs, PerformsPart}
use Rattle.host_acts.specs.Tasks.{Task}
use Rattle.host_acts.specs.declared.cause.Cause.{Cause}
use Rattle.host_acts.specs.declared.verdict.Verdict.{Verdict}
use Rattle.host_acts.specs.declared.verdict.Verdict.TheVariants.{UpToDate, Updated, Failed}
use Rattle.host_tree.specs.Entries.{Entries}
use Rattle.host_tree.specs.declared.fault.HostFault.{HostFault}
use Rattle.host_tree.specs.declared.fault.HostFault.TheVariants as fault
use Rattle.notify_queue.proofs.FirstsLemmas.{with_pairs-append}
use Rattle.notify_queue.specs.Queue.{with_pairs}
use Rattle.notify_queue.specs.declared.pair.Pair.{Pair}
use Rattle.resource_core.specs.Plans.{Planned}
use Rattle.converge.specs.Going.{Stopped, Went, left_after}
use Rattle.converge.specs.Pairs.{task_of}
use Rattle.converge.specs.Runs.{Chain, halts, queues, passes, keeps, updates, fails, IsInPart, deed}
use Rattle.converge.specs.declared.deeds.Deed.{Deed}
use Rattle.converge.specs.declared.firing.Fire.{Fire}
use Rattle.converge.specs.declared.firing.Fire.TheVariants.{Now, Later}

module _ (plan : Planned) where
  -- from nothing left nothing comes
  nothing_more : {todo left : List Fire} {host new : Entries} {acts : List Deed} {queued : List Pair} → Chain plan todo host acts queued left new → todo ≡ []
      → (acts ≡ []) × (queued ≡ []) × (left ≡ []) × (new ≡ host)
  nothing_more halts e = (refl, refl, e, refl)
  nothing_more (queues p rest) e = cc
  nothing_more (passes p none rest) e = cc
  nothing_more (keeps p t is done rest) e = cc
  nothing_more (updates p t is done rest) e = cc
  nothing_more (fails p t cause is done) e = cc

  after_failure : {todo rest : List Fire} {host mid new : Entries} {more : List Deed} {later : List Pair} (p : Pair) (t : Task) (cause : Cause) → task_of plan p ≡ Some t → Act host t (Failed cause) mid
      → Chain plan [] mid more later rest new → Chain plan (Now p ∷ todo) host (deed p (Failed cause) ∷ more) later rest new
  after_failure {todo} {rest} {host} {mid} {new} {more} {later} p t cause is done next =
      let e = nothing_more next refl in
      subst (λ (m : List Deed). Chain plan (Now p ∷ todo) host (deed p (Failed cause) ∷ m) later rest new) (sym e.0)
      (subst (λ (l : List Pair). Chain plan (Now p ∷ todo) host (deed p (Failed cause) ∷ []) l rest new) (sym e.1)
      (subst (λ (r : List Fire). Chain plan (Now p ∷ todo) host (deed p (Failed cause) ∷ []) [] r new) (sym e.2)
      (subst (λ (h : Entries). Chain plan (Now p ∷ todo) host (deed p (Failed cause) ∷ []) [] [] h) (sym e.3) (fails p t cause is done))))

  -- what is left is gone on with
  pub chain_then : {todo left rest : List Fire} {host mid new : Entries} {acts more : List Deed} {queued later : List Pair}
      → Chain plan todo host acts queued left mid → Chain plan left mid more later rest new → Chain plan todo host (acts ++ more) (queued ++ later) rest new
  chain_then halts next = next
  chain_then (queues p first) next = queues p (chain_then first next)
  chain_then (passes p none first) next = passes p none (chain_then first next)
  chain_then (keeps p t is done first) next = keeps p t is done (chain_then first next)
  chain_then (updates p t is done first) next = updates p t is done (chain_then first next)
  chain_then (fails p t cause is done) next = after_failure p t cause is done next

  -- how one pair is performed
  pub chain_one : (p : Pair) (todo : List Fire) (verdict : Verdict) (host new : Entries) → Performs (task_of plan p) (Some verdict) host new
      → Chain plan (Now p ∷ todo) host (deed p verdict ∷ []) [] (left_after plan p verdict todo) new
  chain_one p todo verdict host new done = by_task (task_of plan p) refl verdict done
    where
      by_verdict : (t : Task) → task_of plan p ≡ Some t → (verdict : Verdict) → Act host t verdict new → Chain plan (Now p ∷ todo) host (deed p verdict ∷ []) [] (left_after plan p verdict todo) new
      by_verdict t is UpToDate done = keeps p t is done halts
      by_verdict t is Updated done = updates p t is done halts
      by_verdict t is (Failed cause) done = fails p t cause is done

      by_task : (task : Option Task) → task_of plan p ≡ task → (verdict : Verdict) → Performs task (Some verdict) host new → Chain plan (Now p ∷ todo) host (deed p verdict ∷ []) [] (left_after plan p verdict todo) new
      by_task None is verdict done = absurd done
      by_task (Some t) is verdict done = by_verdict t is verdict done

  pub chain_none : (p : Pair) (todo : List Fire) (host new : Entries) → Performs (task_of plan p) None host new → Chain plan (Now p ∷ todo) host [] [] todo new
  chain_none p todo host new done = by_task (task_of plan p) refl done
    where
      by_task : (task : Option Task) → task_of plan p ≡ task → Performs task None host new → Chain plan (Now p ∷ todo) host [] [] todo new
      by_task None is same = passes p is (subst (λ h. Chain plan todo host [] [] todo h) (sym same) halts)
      by_task (Some t) is done = absurd done

  -- whatever is left, nothing of it may have been done
  pub nothing_in_part : (left : List Fire) (host : Entries) → IsInPart plan left host host
  nothing_in_part [] host = refl
  nothing_in_part (Later p ∷ left) host = refl
  nothing_in_part (Now p ∷ left) host = by_task (task_of plan p)
    where
      by_task : (task : Option Task) → PerformsPart task host host
      by_task None = refl
      by_task (Some t) = λ path other. act.stays refl

  -- ---- how far a work list was gone on with

  -- nothing was done yet
  pub went_not : (todo : List Fire) (acts : List Deed) (ever : List Pair) (host : Entries) → Went plan todo acts ever todo acts ever host host
  went_not todo acts ever host = record { gained = []; queued = []; chain = halts; acts_are = sym (append-nil acts); ever_is = refl }

  -- one step after others
  pub went_then : (todo left rest : List Fire) (a b c : List Deed) (x y z : List Pair) (host mid new : Entries)
      → Went plan todo a x left b y host mid → Went plan left b y rest c z mid new → Went plan todo a x rest c z host new
  went_then todo left rest a b c x y z host mid new one two = record {
    gained = one.gained ++ two.gained;
    queued = one.queued ++ two.queued;
    chain = chain_then one.chain two.chain;
    acts_are = two.acts_are ∙ ap (λ xs. xs ++ two.gained) one.acts_are ∙ append_assoc a one.gained two.gained;
    ever_is = two.ever_is ∙ ap (λ e. with_pairs e two.queued) one.ever_is ∙ sym (with_pairs-append x one.queued two.queued);
  }

  -- a fault after some steps
  pub stopped_then : (todo left : List Fire) (a b c : List Deed) (x y : List Pair) (why : HostFault) (host mid new : Entries)
      → Went plan todo a x left b y host mid → Stopped plan left b c why mid new → Stopped plan todo a c why host new
  stopped_then todo left a b c x y why host mid new one two = record {
    gained = one.gained ++ two.gained;
    queued = one.queued ++ two.queued;
    left = two.left;
    mid = two.mid;
    chain = chain_then one.chain two.chain;
    part = two.part;
    acts_are = λ failed. two.acts_are failed ∙ ap (λ xs. xs ++ two.gained) one.acts_are ∙ append_assoc a one.gained two.gained;
  }

  -- a pair was performed and noted
  pub went_one : (p : Pair) (todo left : List Fire) (verdict : Verdict) (a b : List Deed) (ever : List Pair) (host new : Entries)
      → left ≡ left_after plan p verdict todo → b ≡ a ++ deed p verdict ∷ [] → Performs (task_of plan p) (Some verdict) host new → Went plan (Now p ∷ todo) a ever left b ever host new
  went_one p todo left verdict a b ever host new left_is noted done = record {
    gained = deed p verdict ∷ [];
    queued = [];
    chain = subst (λ (l : List Fire). Chain plan (Now p ∷ todo) host (deed p verdict ∷ []) [] l new) (sym left_is) (chain_one p todo verdict host new done);
    acts_are = noted;
    ever_is = refl;
  }

  -- a pair had nothing to be done
  pub went_none : (p : Pair) (todo : List Fire) (a : List Deed) (ever : List Pair) (host new : Entries) → Performs (task_of plan p) None host new → Went plan (Now p ∷ todo) a ever todo a ever host new
  went_none p todo a ever host new done = record { gained = []; queued = []; chain = chain_none p todo host new done; acts_are = sym (append-nil a); ever_is = refl }

  -- a pair was queued
  pub went_queued : (p : Pair) (todo : List Fire) (a : List Deed) (x y : List Pair) (host : Entries) → y ≡ with_pairs x (p ∷ []) → Went plan (Later p ∷ todo) a x todo a y host host
  went_queued p todo a x y host is = record { gained = []; queued = p ∷ []; chain = queues p halts; acts_are = sym (append-nil a); ever_is = is }

  -- a fault in the act of a pair
  pub stopped_in : (p : Pair) (todo : List Fire) (a : List Deed) (why : HostFault) (host new : Entries) → PerformsPart (task_of plan p) host new → Stopped plan (Now p ∷ todo) a a why host new
  stopped_in p todo a why host new part =
      record { gained = []; queued = []; left = Now p ∷ todo; mid = host; chain = halts; part = part; acts_are = λ failed. sym (append-nil a) }

  -- want of memory after an act that is whole
  pub stopped_after : (p : Pair) (todo : List Fire) (verdict : Verdict) (a b : List Deed) (host new : Entries) → Performs (task_of plan p) (Some verdict) host new → Stopped plan (Now p ∷ todo) a b fault.NoMemory host new
  stopped_after p todo verdict a b host new done = record {
    gained = deed p verdict ∷ [];
    queued = [];
    left = left_after plan p verdict todo;
    mid = new;
    chain = chain_one p todo verdict host new done;
    part = nothing_in_part (left_after plan p verdict todo) new;
    acts_are = λ failed. cc;
  }

-- An act is determined by the host and the task.
use Rattle.std.proofs.Common.{◌≡◌, ◌≢◌, ◌⊎◌, inl, inr, ◌<◌, ◌≤◌, Bool, true, false, List, ℕ, Some, bytes_eq, length, refl, sym, ap, ◌∙◌, arith}
use Rattle.std.proofs.lemmas.Bool.{cases_lt, true≢false}
use Rattle.std.specs.Cmp.Lexicographic.{bytes_decides}
use Rattle.host_tree.proofs.EntryLemmas.{same_host}
use Rattle.host_tree.specs.Entries.{Entries, at}
use Rattle.host_acts.specs.Acts as act
use Rattle.host_acts.specs.Acts.{ActsAreDetermined, HasCause, Updates, cause_above}
use Rattle.host_acts.specs.Tasks.{Task}
use Rattle.host_acts.specs.declared.cause.Cause.{Cause}
use Rattle.host_acts.specs.declared.verdict.Verdict.TheVariants.{UpToDate, Updated, Failed}
use Rattle.host_acts.proofs.PrefixLemmas.{above-compared, above-same}
use Rattle.host_acts.proofs.StepLemmas.{none_some}

some_same : (one other : Cause) → Some one ≡ Some other → one ≡ other
some_same one other is = cc

-- the first cause is one, since the proper prefixes of a path are in a line
same_cause : (host : Entries) (task : Task) (one other : Cause) → HasCause host task one → HasCause host task other → one ≡ other
same_cause host task one other (act.above p over is before) (act.above q also there first) = by (cases_lt (length p) (length q))
  where
    longer : (length q < length p) ⊎ (length p ≤ length q) → length q ≤ length p → one ≡ other
    longer (inl less) more = none_some other (sym (before q (above-compared q p task.path also over less)) ∙ there)
    longer (inr other_more) more =
        let alike : length p ≡ length q = omega (arith, other_more, more) in
        some_same one other (sym is ∙ ap (λ (r : List ℕ). cause_above task.work (at host r)) (above-same p q task.path over also alike) ∙ there)

    by : (length p < length q) ⊎ (length q ≤ length p) → one ≡ other
    by (inl less) = none_some one (sym (first p (above-compared p q task.path over also less)) ∙ is)
    by (inr more) = longer (cases_lt (length q) (length p)) more
same_cause host task one other (act.above p over is before) (act.here clear there) = none_some one (sym (clear p over) ∙ is)
same_cause host task one other (act.here clear is) (act.above q also there first) = none_some other (sym (clear q also) ∙ there)
same_cause host task one other (act.here clear is) (act.here also there) = some_same one other (sym is ∙ there)

-- what stands at each path is known once an act updated
same_update : (host one other : Entries) (task : Task) → Updates task host one → Updates task host other → one ≡ other
same_update host one other task first second = same_host one other (λ q. by q (bytes_eq q task.path) refl)
  where
    by : (q : List ℕ) (b : Bool) → bytes_eq q task.path ≡ b → at one q ≡ at other q
    by q true same = let is = (bytes_decides q task.path).0 same in ap (at one) is ∙ first.here ∙ sym second.here ∙ ap (at other) (sym is)
    by q false differ = let apart : q ≢ task.path = λ is. true≢false (sym ((bytes_decides q task.path).1 is) ∙ differ) in first.elsewhere q apart ∙ sym (second.elsewhere q apart)

pub acts_determined : ActsAreDetermined
acts_determined host one other task UpToDate UpToDate a b = (refl, a.1 ∙ sym b.1)
acts_determined host one other task UpToDate Updated a b = absurd (b.0 a.0)
acts_determined host one other task UpToDate (Failed d) a b = absurd (b.0 a.0)
acts_determined host one other task Updated UpToDate a b = absurd (a.0 b.0)
acts_determined host one other task Updated Updated a b = (refl, same_update host one other task a.2 b.2)
acts_determined host one other task Updated (Failed d) a b = absurd (a.1 d b.1)
acts_determined host one other task (Failed c) UpToDate a b = absurd (a.0 b.0)
acts_determined host one other task (Failed c) Updated a b = absurd (b.1 c a.1)
acts_determined host one other task (Failed c) (Failed d) a b = (ap Failed (same_cause host task c d a.1 b.1), a.2 ∙ sym b.2)

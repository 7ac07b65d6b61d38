use Rattle.std.proofs.Common.{◌&&◌, ◌||◌, Bool, true, cond, bytes_eq, sym, ap, ◌∙◌}
use Rattle.std.proofs.lemmas.Map.Text.{is_eq-slice_cmp}
use Rattle.std.specs.BTreeSet.{contains}
use Rattle.std.specs.Cmp.Lexicographic.{slice_cmp, nat_list_eq_equiv}
use Rattle.std.specs.Ordering.{nat_cmp}
use Rattle.cookbook_meta.proofs.PathLemmas.{cond-or}
use Rattle.cookbook_meta.proofs.gathered.put.Goals as goal

pub returns-then-is_new-clause-keys : goal.returns-then-is_new-clause-keys
returns-then-is_new-clause-keys c = λ q.
    c.in_ok-is_new.ensures.updates.0 q
    ∙ ap (λ (b : Bool). cond b true (contains (slice_cmp nat_cmp) c.args.paths.now q)) (is_eq-slice_cmp c.args.path q ∙ nat_list_eq_equiv.symm c.args.path q)
    ∙ cond-or (bytes_eq q c.args.path) (contains (slice_cmp nat_cmp) c.args.paths.now q)
    ∙ ap (λ (b : Bool). b && bytes_eq q c.args.path || contains (slice_cmp nat_cmp) c.args.paths.now q) (sym c.if-is_new.true)

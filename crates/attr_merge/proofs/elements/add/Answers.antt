use Rattle.std.proofs.Common.{◌≡◌, ◌||◌, Bool, true, false, cond, bytes_eq, ap, refl, ◌∙◌}
use Rattle.std.proofs.lemmas.Map.Text.{is_eq-slice_cmp}
use Rattle.std.specs.BTreeSet.{contains}
use Rattle.std.specs.Cmp.Lexicographic.{slice_cmp, nat_list_eq_equiv}
use Rattle.std.specs.Ordering.{nat_cmp}
use Rattle.attr_merge.proofs.elements.add.Goals as goal

cond-or : (a b : Bool) → cond a true b ≡ (a || b)
cond-or true b = refl
cond-or false b = refl

pub returns-clause-keys : goal.returns-clause-keys
returns-clause-keys c = λ q.
    c.in_ok-insert.ensures.updates.0 q
    ∙ ap (λ (b : Bool). cond b true (contains (slice_cmp nat_cmp) c.args.texts.now q)) (is_eq-slice_cmp c.args.text q ∙ nat_list_eq_equiv.symm c.args.text q)
    ∙ cond-or (bytes_eq q c.args.text) (contains (slice_cmp nat_cmp) c.args.texts.now q)

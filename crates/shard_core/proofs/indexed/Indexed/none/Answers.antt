-- An index without objects holds nothing.
use Rattle.std.proofs.Common.{Some, ap, subst, sym}
use Rattle.std.specs.FinMap as finite
use Rattle.object_finder.specs.Exact.{IsExact}
use Rattle.object_finder.specs.Held.{Held}
use Rattle.shard_core.proofs.ChangeLemmas.{held_nothing}
use Rattle.shard_core.proofs.FindLemmas.{nothing_is_exact}
use Rattle.shard_core.proofs.indexed.Indexed.none.Goals as goal

pub returns-clause-held : goal.returns-clause-held
returns-clause-held c = ap (λ h. Some h) (held_nothing c.none.result c.none.ensures)

pub returns-clause-exact : goal.returns-clause-exact
returns-clause-exact c = λ org. subst (λ (h : Held). IsExact (Some h) org finite.empty) (sym (held_nothing c.none.result c.none.ensures)) (nothing_is_exact org)

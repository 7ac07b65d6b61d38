-- Marks of a line, one more.
use Rattle.std.proofs.Common.{◌≡◌, List, ◌++◌, Option, Some, None, refl, ap, append_assoc}
use Rattle.yaml_subset.specs.Said.{behind_marks}
use Rattle.yaml_subset.specs.Says.{a_said}
use Rattle.yaml_subset.specs.declared.mark.Mark.{Mark}
use Rattle.yaml_subset.specs.declared.said.Said.{Said}

pub behind_more : (heads more : List Mark) (o : Option Said) → behind_marks (heads ++ more) o ≡ behind_marks heads (behind_marks more o)
behind_more heads more None = refl
behind_more heads more (Some s) = ap (λ (ms : List Mark). Some (a_said ms s.above s.rest)) (append_assoc heads more s.heads)

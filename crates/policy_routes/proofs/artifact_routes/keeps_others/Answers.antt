-- Others are left beside one of several, and beside another.
use Rattle.std.specs.Cmp.Lexicographic.{nat_list_cmp_total}
use Rattle.shelves.proofs.ShelfLaws.{text_same}
use Rattle.org_shelves.proofs.LeftLemmas.{more_seen, one_seen, none_seen}
use Rattle.std.proofs.Common.{◌≡◌, ap, ◌∙◌}
use Rattle.org_shelves.specs.Shelved.{Artifacts, Shelved}
use Rattle.policy_routes.proofs.artifact_routes.keeps_others.Goals as goal

-- what is seen of the artifacts is what the organisation keeps
kept : {seen : Artifacts} {one other : Shelved} → seen ≡ one.artifacts → one ≡ other → seen ≡ other.artifacts
kept are same = are ∙ ap (λ (s : Shelved). s.artifacts) same

pub returns-then-len-gt1 : goal.returns-then-len-gt1
returns-then-len-gt1 c = more_seen nat_list_cmp_total text_same (kept c.artifacts.ensures c.shelves.ensures) c.args.name.now c.args.id.now _ _ c.in-Some.ensures.shelf c.len.ensures c.if-len-gt1.true

pub returns-else-len-gt1 : goal.returns-else-len-gt1
returns-else-len-gt1 c =
    one_seen nat_list_cmp_total text_same (kept c.artifacts.ensures c.shelves.ensures) c.args.name.now c.args.id.now _ _ _ c.in-Some.ensures.filled c.in-Some.ensures.shelf c.len.ensures c.if-len-gt1.false c.contains.ensures

pub returns-in-None : goal.returns-in-None
returns-in-None c = none_seen nat_list_cmp_total text_same (kept c.artifacts.ensures c.shelves.ensures) c.args.name.now c.args.id.now c.in-None.ensures.shelf

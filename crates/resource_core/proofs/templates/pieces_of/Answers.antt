use Rattle.std.proofs.Common.{◌≡◌, Some, ap, sym, arith, rules, ◌∙◌}
use Rattle.resource_core.specs.Templates.{path_at}
use Rattle.resource_core.specs.Views.{rest_of}
use Rattle.resource_core.proofs.TemplateLemmas.{parted-shorter, path_at-shorter, pieces_on}
use Rattle.resource_core.proofs.templates.pieces_of.Goals as goal

pub loop-plain-smaller : goal.loop-plain-smaller
loop-plain-smaller c =
    let found : path_at c.in-Some.after.now ≡ Some (c.path_at.new.path, c.in-Some-2.rest.now) =
    sym (c.in_ok-path_at.ensures c.new-path.ensures) ∙ ap (rest_of c.path_at.new.path) c.in-Some-2.is in
    let less = parted-shorter c.loop-plain.left.now (c.in-Some.plain.now, c.in-Some.after.now) (sym c.in-Some.ensures) in
    let last = path_at-shorter c.in-Some.after.now (c.path_at.new.path, c.in-Some-2.rest.now) found in
    omega arith

pub loop-plain-preserved : goal.loop-plain-preserved
loop-plain-preserved c =
    let found : path_at c.in-Some.after.now ≡ Some (c.path_at.new.path, c.in-Some-2.rest.now) =
    sym (c.in_ok-path_at.ensures c.new-path.ensures) ∙ ap (rest_of c.path_at.new.path) c.in-Some-2.is in
    let so_far = c.loop-plain.invariant in
    let next = pieces_on _ c.loop-plain.pieces c.loop-plain.left.now so_far.1 c.push_pieces.new.pieces (c.in-Some.plain.now, c.in-Some.after.now) (c.path_at.new.path, c.in-Some-2.rest.now) so_far.2 so_far.3 (sym c.in-Some.ensures) found
    c.in_ok-push_pieces.ensures in
    (search rules, next.0, next.1, next.2)

use Rattle.std.proofs.Common.{◌≡◌, map, bytes_eq, ◌∙◌, ap, subst, rules}
use Rattle.std.specs.List.{IsDistinct}
use Rattle.std.specs.Map.{keys_of}
use Rattle.sandboxes.specs.Files.{Kept}
use Rattle.sandboxes.proofs.MapLemmas.{Entries, Copying}
use Rattle.sandboxes.proofs.FilesLemmas.{held_by, copying_begins, copying_on, copying_ends, same_holdings}
use Rattle.sandboxes.proofs.files.add_copies.Goals as goal

pub loop-org-init : goal.loop-org-init
loop-org-init c =
    let distinct : IsDistinct bytes_eq (keys_of c.into_iter-org-iterator.result) = search rules in
    copying_begins c.into_iter-org-iterator.result c.args.copies.now.entries c.requires distinct

pub loop-org-preserved : goal.loop-org-preserved
loop-org-preserved c =
    copying_on c.into_iter-org-iterator.result c.loop-org.copies.entries c.next.new.self c.add.new.map.entries c.in-Some.org.now c.in_ok-copy.field-0 c.in-Some.part.now c.in_ok-copy-2.field-0
    (subst (λ (left : Entries Kept). Copying (map held_by c.into_iter-org-iterator.result) (map held_by c.loop-org.copies.entries) (map held_by left)) c.in-Some.ensures.steps c.loop-org.invariant)
    c.in_ok-copy.ensures c.in_ok-copy-2.ensures c.in_ok-add.ensures

pub returns : goal.returns
returns c =
    let all : c.into_iter-org-iterator.result ≡ c.args.parts.now.entries = search rules in
    let copied = copying_ends c.into_iter-org-iterator.result c.loop-org.copies.entries c.loop-org.org-iterator c.loop-org.invariant c.in-None.ensures.steps.0 in
    λ name. same_holdings c.loop-org.copies.entries c.args.parts.now.entries name (copied ∙ ap (λ (es : Entries Kept). map held_by es) all)

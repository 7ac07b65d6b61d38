use Rattle.std.proofs.Common.{◌∷◌, ◌++◌, [], List, Some, None, cond, is_eq, nat_cmp, sym, ap, ◌∙◌, rules}
use Rattle.std.specs.BTreeMap.{is_at}
use Rattle.std.specs.Cmp.Lexicographic.{slice_cmp}
use Rattle.std.specs.Map.{lookup}
use Rattle.std.specs.Option.{option_copied_mut}
use Rattle.attr_merge.specs.Parts.{piece_of, pieces_of}
use Rattle.attr_merge.specs.declared.parts.Part.{Part}
use Rattle.attr_merge.proofs.GatheredLemmas.{gathered-added}
use Rattle.attr_merge.proofs.ListLemmas.{map-join}
use Rattle.attr_merge.proofs.children.add.Goals as goal

pub returns-in_ok-push-in-Some : goal.returns-in_ok-push-in-Some
returns-in_ok-push-in-Some c = λ q.
    let now = c.push.new.self in
    gathered-added q c.args.key.now c.args.children.now.entries (c.get_mut.follows.lender now).entries (Some c.in-Some.parts.now) now (piece_of c.args.part)
    (((c.get_mut.follows.holds now).3 (search rules)).0 q)
    (sym c.get_mut.ensures.value ∙ ap option_copied_mut c.in-Some.is)
    (ap pieces_of c.in_ok-push-in-Some.ensures.items ∙ map-join piece_of c.in-Some.parts.now.items (c.args.part ∷ []))

pub returns-in_ok-insert-in-None : goal.returns-in_ok-insert-in-None
returns-in_ok-insert-in-None c = λ q.
    let now = c.push-in-None.new.self in
    let copied = c.in_ok-copy-in-None.ensures in
    let same = c.get_mut.follows.holds-at-none in
    gathered-added q c.args.key.now c.args.children.now.entries c.insert.new.self.entries None now (piece_of c.args.part)
    (c.in_ok-insert-in-None.ensures.updates.0 q ∙ (λ i. cond (is_eq (slice_cmp nat_cmp (copied i) q)) (Some now) (lookup (is_at (slice_cmp nat_cmp q)) (same i).entries)))
    (sym c.get_mut.ensures.value ∙ ap option_copied_mut c.in-None.is)
    (ap pieces_of (c.in_ok-push-in-None.ensures.items ∙ ap (λ (parts : List Part). parts ++ c.args.part ∷ []) c.in_ok-parts-in-None.ensures.items))

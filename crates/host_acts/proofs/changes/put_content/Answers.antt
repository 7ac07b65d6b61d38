use Rattle.std.proofs.Common.{List, ℕ, Option, option_map, sym, ◌∙◌}
use Rattle.host_tree.specs.Acts.{entry_of, with_file}
use Rattle.host_acts.specs.Changes.{Becomes, IsUnlinked, content_put, text_of}
use Rattle.host_acts.proofs.TellsLemmas.{on_ok_made}
use Rattle.host_acts.proofs.ChangeLemmas.{puts_content}
use Rattle.host_acts.proofs.changes.put_content.Goals as goal

pub returns-else-is_kept-clause-ok : goal.returns-else-is_kept-clause-ok
returns-else-is_kept-clause-ok g c =
    let content : Option (List ℕ) = option_map (λ t. t.now) c.args.content in
    on_ok_made (IsUnlinked c.args.path.now (entry_of c.args.seen.now)) (Becomes c.args.path.now (content_put content (entry_of c.args.seen.now))) (with_file c.args.path.now (text_of content))
    (λ h stands. puts_content c.args.path.now content (entry_of c.args.seen.now) h c.requires.fits (sym c.is_kept.ensures ∙ c.if-is_kept.false) stands) _ _ c.write.result c.requires.stands c.write.ensures.ok

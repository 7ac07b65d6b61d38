use Rattle.std.proofs.Common.{◌≡◌, ◌∙◌, List, Bool, length, sym, ap, subst}
use Rattle.membership.specs.Leading.{IsLeading, TellsLeading, at, listing}
use Rattle.membership.proofs.LeadingLemmas.{Tells-worked, put_back}
use Rattle.membership.proofs.leading.work_out.Goals as goal

pub returns-then-any_lists-clause-leading : goal.returns-then-any_lists-clause-leading
returns-then-any_lists-clause-leading c =
    let count : c.len.result ≡ length c.args.items.now.entries = c.len.ensures.len in
    let as_long : length c.lead_on.new.cells ≡ length c.note_rows.new.cells.items = c.lead_on.auto.cells ∙ ap length c.deref_mut.ensures.value in
    subst (TellsLeading (length c.args.items.now.entries) (listing c.args.items.now.entries)) (sym (put_back c.note_rows.new.cells.items c.lead_on.new.cells c.note_rows.new.cells.len c.note_rows.new.cells.ok.0 as_long))
    (Tells-worked (length c.args.items.now.entries) (listing c.args.items.now.entries) c.note_rows.new.cells.items c.lead_on.new.cells c.note_rows.ensures.noted as_long
    (subst (λ (cells : List Bool). IsLeading (length c.args.items.now.entries) (at (length c.args.items.now.entries) cells) (at (length c.args.items.now.entries) c.lead_on.new.cells)) c.deref_mut.ensures.value
    (subst (λ n. IsLeading n (at n c.deref_mut.result.now) (at n c.lead_on.new.cells)) count c.lead_on.ensures)))

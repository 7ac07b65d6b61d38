use Rattle.std.proofs.Common.{◌≡◌, ◌∙◌, sym, ap, rules}
use Rattle.std.specs.FinMap as finite
use Rattle.sandboxes.specs.Files.{Kept, KeptByName, kept_of, spare_of}
use Rattle.sandboxes.specs.Sandboxes.{laid_count}
use Rattle.sandboxes.proofs.FilesLemmas.{kept_found, kept_written, others_written}
use Rattle.sandboxes.proofs.MapLemmas.{seen, get-seen}
use Rattle.sandboxes.proofs.files.Files.lay_count.Goals as goal

pub unreachable-requires : goal.unreachable-requires
unreachable-requires c =
    c.requires
    (ap (λ (files : KeptByName). finite.get files c.args.org.now) (sym c.self.view_is)
    ∙ get-seen c.self.inside.parts.entries c.args.org.now ∙ sym c.in-None.ensures.value)

pub returns-clause-holding : goal.returns-clause-holding
returns-clause-holding c =
    let found : kept_of c.args.self.now c.args.org.now ≡ c.in-Some.part.now =
    kept_found c.self.inside.parts.entries c.args.self.now c.args.org.now c.in-Some.part.now c.self.view_is c.in-Some.ensures.value in
    let now : kept_of (seen (c.get_mut.follows.lender c.lay_count.new.self).entries) c.args.org.now ≡ c.lay_count.new.self =
    kept_written c.self.inside.parts.entries (c.get_mut.follows.lender c.lay_count.new.self).entries c.args.org.now c.lay_count.new.self
    ((c.get_mut.follows.holds c.lay_count.new.self).3 (search rules)).0 in
    ap (λ (kept : Kept). kept.holding) now ∙ c.lay_count.ensures.holding ∙ ap (λ (kept : Kept). laid_count c.args.count kept.holding) (sym found)

pub returns-clause-spare : goal.returns-clause-spare
returns-clause-spare c =
    let found : kept_of c.args.self.now c.args.org.now ≡ c.in-Some.part.now =
    kept_found c.self.inside.parts.entries c.args.self.now c.args.org.now c.in-Some.part.now c.self.view_is c.in-Some.ensures.value in
    let now : kept_of (seen (c.get_mut.follows.lender c.lay_count.new.self).entries) c.args.org.now ≡ c.lay_count.new.self =
    kept_written c.self.inside.parts.entries (c.get_mut.follows.lender c.lay_count.new.self).entries c.args.org.now c.lay_count.new.self
    ((c.get_mut.follows.holds c.lay_count.new.self).3 (search rules)).0 in
    let before : spare_of c.args.self.now c.args.org.now ≡ c.in-Some.part.now.spare = ap (λ (kept : Kept). kept.spare) found in
    let after : spare_of (seen (c.get_mut.follows.lender c.lay_count.new.self).entries) c.args.org.now ≡ c.lay_count.new.self.spare = ap (λ (kept : Kept). kept.spare) now in
    let kept = c.lay_count.ensures.spare in
    after ∙ kept ∙ sym before

pub returns-clause-others : goal.returns-clause-others
returns-clause-others c =
    others_written c.self.inside.parts.entries (c.get_mut.follows.lender c.lay_count.new.self).entries c.args.self.now c.args.org.now c.lay_count.new.self c.self.view_is
    ((c.get_mut.follows.holds c.lay_count.new.self).3 (search rules)).0

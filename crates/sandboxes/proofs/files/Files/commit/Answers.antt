use Rattle.std.proofs.Common.{◌≡◌, None, option_map, ◌∙◌, sym, ap, rules, arith}
use Rattle.std.specs.FinMap as finite
use Rattle.doc_tree.specs.Text.{text_cmp}
use Rattle.sandboxes.specs.Files.{Kept, none, kept_of, holding_of, spare_of}
use Rattle.sandboxes.specs.Sandboxes.{nothing, missing, missing_from, committed}
use Rattle.sandboxes.proofs.FilesLemmas.{kept_found, kept_absent, kept_written, others_written}
use Rattle.sandboxes.proofs.MapLemmas.{seen}
use Rattle.sandboxes.proofs.files.Files.commit.Goals as goal

pub commit-requires : goal.commit-requires
commit-requires c =
    let found : kept_of c.args.self.now c.args.org.now ≡ c.in-Some.part.now =
    kept_found c.self.inside.parts.entries c.args.self.now c.args.org.now c.in-Some.part.now c.self.view_is c.in-Some.ensures.value in
    sym (ap (λ (kept : Kept). missing_from kept.holding c.args.id.now) found) ∙ c.requires

pub unreachable-requires : goal.unreachable-requires
unreachable-requires c =
    let absent : kept_of c.args.self.now c.args.org.now ≡ none =
    kept_absent c.self.inside.parts.entries c.args.self.now c.args.org.now c.self.view_is c.in-None.ensures.value in
    let nowhere : finite.get nothing.sandboxes c.args.id.now ≡ None = finite.get-empty text_cmp c.args.id.now in
    let unknown : missing_from (holding_of c.args.self.now c.args.org.now) c.args.id.now ≡ None =
    ap (λ (kept : Kept). missing_from kept.holding c.args.id.now) absent ∙ ap (option_map (missing nothing)) nowhere in
    absurd (cc)

pub returns-clause-holding : goal.returns-clause-holding
returns-clause-holding c =
    let found : kept_of c.args.self.now c.args.org.now ≡ c.in-Some.part.now =
    kept_found c.self.inside.parts.entries c.args.self.now c.args.org.now c.in-Some.part.now c.self.view_is c.in-Some.ensures.value in
    let now : kept_of (seen (c.get_mut.follows.lender c.commit.new.self).entries) c.args.org.now ≡ c.commit.new.self =
    kept_written c.self.inside.parts.entries (c.get_mut.follows.lender c.commit.new.self).entries c.args.org.now c.commit.new.self
    ((c.get_mut.follows.holds c.commit.new.self).3 (search rules)).0 in
    ap (λ (kept : Kept). kept.holding) now ∙ c.commit.ensures.holding ∙ ap (λ (kept : Kept). committed c.args.id.now kept.holding) (sym found)

pub returns-clause-spare : goal.returns-clause-spare
returns-clause-spare c =
    let found : kept_of c.args.self.now c.args.org.now ≡ c.in-Some.part.now =
    kept_found c.self.inside.parts.entries c.args.self.now c.args.org.now c.in-Some.part.now c.self.view_is c.in-Some.ensures.value in
    let now : kept_of (seen (c.get_mut.follows.lender c.commit.new.self).entries) c.args.org.now ≡ c.commit.new.self =
    kept_written c.self.inside.parts.entries (c.get_mut.follows.lender c.commit.new.self).entries c.args.org.now c.commit.new.self
    ((c.get_mut.follows.holds c.commit.new.self).3 (search rules)).0 in
    let before : spare_of c.args.self.now c.args.org.now ≡ c.in-Some.part.now.spare = ap (λ (kept : Kept). kept.spare) found in
    let after : spare_of (seen (c.get_mut.follows.lender c.commit.new.self).entries) c.args.org.now ≡ c.commit.new.self.spare = ap (λ (kept : Kept). kept.spare) now in
    let kept = c.commit.ensures.spare in
    omega (arith, before, after, kept)

pub returns-clause-others : goal.returns-clause-others
returns-clause-others c =
    others_written c.self.inside.parts.entries (c.get_mut.follows.lender c.commit.new.self).entries c.args.self.now c.args.org.now c.commit.new.self c.self.view_is
    ((c.get_mut.follows.holds c.commit.new.self).3 (search rules)).0

use Rattle.std.proofs.Common.{◌≡◌, ◌∙◌, sym, ap, rules, arith}
use Rattle.sandboxes.specs.Files.{Kept, none, kept_of, spare_of}
use Rattle.sandboxes.specs.Sandboxes.{laid_file}
use Rattle.sandboxes.proofs.FilesLemmas.{kept_found, kept_absent, kept_written, others_written}
use Rattle.sandboxes.proofs.MapLemmas.{seen}
use Rattle.sandboxes.proofs.files.Files.lay_file.Goals as goal

pub lay_file-requires : goal.lay_file-requires
lay_file-requires c =
    let found : kept_of c.args.self.now c.args.org.now ≡ c.in-Some.part.now =
    kept_found c.self.inside.parts.entries c.args.self.now c.args.org.now c.in-Some.part.now c.self.view_is c.in-Some.ensures.value in
    let room : spare_of c.args.self.now c.args.org.now ≡ c.in-Some.part.now.spare = ap (λ (kept : Kept). kept.spare) found in
    let some = c.requires in
    omega (arith, room, some)

pub unreachable-requires : goal.unreachable-requires
unreachable-requires c =
    let absent : kept_of c.args.self.now c.args.org.now ≡ none =
    kept_absent c.self.inside.parts.entries c.args.self.now c.args.org.now c.self.view_is c.in-None.ensures.value in
    let room : spare_of c.args.self.now c.args.org.now ≡ 0 = ap (λ (kept : Kept). kept.spare) absent in
    let some = c.requires in
    omega (arith, room, some)

pub returns-clause-holding : goal.returns-clause-holding
returns-clause-holding c =
    let found : kept_of c.args.self.now c.args.org.now ≡ c.in-Some.part.now =
    kept_found c.self.inside.parts.entries c.args.self.now c.args.org.now c.in-Some.part.now c.self.view_is c.in-Some.ensures.value in
    let now : kept_of (seen (c.get_mut.follows.lender c.lay_file.new.self).entries) c.args.org.now ≡ c.lay_file.new.self =
    kept_written c.self.inside.parts.entries (c.get_mut.follows.lender c.lay_file.new.self).entries c.args.org.now c.lay_file.new.self
    ((c.get_mut.follows.holds c.lay_file.new.self).3 (search rules)).0 in
    ap (λ (kept : Kept). kept.holding) now ∙ c.lay_file.ensures.holding ∙ ap (λ (kept : Kept). laid_file c.args.file c.args.committed kept.holding) (sym found)

pub returns-clause-spare : goal.returns-clause-spare
returns-clause-spare c =
    let found : kept_of c.args.self.now c.args.org.now ≡ c.in-Some.part.now =
    kept_found c.self.inside.parts.entries c.args.self.now c.args.org.now c.in-Some.part.now c.self.view_is c.in-Some.ensures.value in
    let now : kept_of (seen (c.get_mut.follows.lender c.lay_file.new.self).entries) c.args.org.now ≡ c.lay_file.new.self =
    kept_written c.self.inside.parts.entries (c.get_mut.follows.lender c.lay_file.new.self).entries c.args.org.now c.lay_file.new.self
    ((c.get_mut.follows.holds c.lay_file.new.self).3 (search rules)).0 in
    let before : spare_of c.args.self.now c.args.org.now ≡ c.in-Some.part.now.spare = ap (λ (kept : Kept). kept.spare) found in
    let after : spare_of (seen (c.get_mut.follows.lender c.lay_file.new.self).entries) c.args.org.now ≡ c.lay_file.new.self.spare = ap (λ (kept : Kept). kept.spare) now in
    let kept = c.lay_file.ensures.spare in
    omega (arith, before, after, kept)

pub returns-clause-others : goal.returns-clause-others
returns-clause-others c =
    others_written c.self.inside.parts.entries (c.get_mut.follows.lender c.lay_file.new.self).entries c.args.self.now c.args.org.now c.lay_file.new.self c.self.view_is
    ((c.get_mut.follows.holds c.lay_file.new.self).3 (search rules)).0

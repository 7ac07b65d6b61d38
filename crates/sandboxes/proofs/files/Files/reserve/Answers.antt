use Rattle.std.proofs.Common.{◌≡◌, ◌≤◌, OnOk, ◌∙◌, sym, ap, subst, rules, arith}
use Rattle.std.specs.FinMap as finite
use Rattle.sandboxes.specs.Files.{Kept, kept_of, spare_of}
use Rattle.sandboxes.proofs.FilesLemmas.{kept_found, kept_written, others_written}
use Rattle.sandboxes.proofs.MapLemmas.{seen, get-seen}
use Rattle.sandboxes.proofs.files.Files.reserve.Goals as goal

pub add_part-requires : goal.add_part-requires
add_part-requires c =
    let same : c.get_mut.follows.lender-at-none ≡ c.self.inside.parts = search rules in
    ap (λ parts. finite.get (seen parts.entries) c.args.org.now) same ∙ get-seen c.self.inside.parts.entries c.args.org.now ∙ sym c.in-None.ensures.value

pub returns-in-Some-clause-ok : goal.returns-in-Some-clause-ok
returns-in-Some-clause-ok c =
    let now : kept_of (seen (c.get_mut.follows.lender c.reserve.new.self).entries) c.args.org.now ≡ c.reserve.new.self =
    kept_written c.self.inside.parts.entries (c.get_mut.follows.lender c.reserve.new.self).entries c.args.org.now c.reserve.new.self
    ((c.get_mut.follows.holds c.reserve.new.self).3 (search rules)).0 in
    subst (λ (kept : Kept). OnOk c.reserve.result (c.args.count ≤ kept.spare)) (sym now) c.reserve.ensures.ok

pub returns-in-Some-clause-holding : goal.returns-in-Some-clause-holding
returns-in-Some-clause-holding c =
    let found : kept_of c.args.self.now c.args.org.now ≡ c.in-Some.part.now =
    kept_found c.self.inside.parts.entries c.args.self.now c.args.org.now c.in-Some.part.now c.self.view_is c.in-Some.ensures.value in
    let now : kept_of (seen (c.get_mut.follows.lender c.reserve.new.self).entries) c.args.org.now ≡ c.reserve.new.self =
    kept_written c.self.inside.parts.entries (c.get_mut.follows.lender c.reserve.new.self).entries c.args.org.now c.reserve.new.self
    ((c.get_mut.follows.holds c.reserve.new.self).3 (search rules)).0 in
    ap (λ (kept : Kept). kept.holding) now ∙ c.reserve.ensures.holding ∙ ap (λ (kept : Kept). kept.holding) (sym found)

pub returns-in-Some-clause-spare : goal.returns-in-Some-clause-spare
returns-in-Some-clause-spare c =
    let found : kept_of c.args.self.now c.args.org.now ≡ c.in-Some.part.now =
    kept_found c.self.inside.parts.entries c.args.self.now c.args.org.now c.in-Some.part.now c.self.view_is c.in-Some.ensures.value in
    let now : kept_of (seen (c.get_mut.follows.lender c.reserve.new.self).entries) c.args.org.now ≡ c.reserve.new.self =
    kept_written c.self.inside.parts.entries (c.get_mut.follows.lender c.reserve.new.self).entries c.args.org.now c.reserve.new.self
    ((c.get_mut.follows.holds c.reserve.new.self).3 (search rules)).0 in
    let before : spare_of c.args.self.now c.args.org.now ≡ c.in-Some.part.now.spare = ap (λ (kept : Kept). kept.spare) found in
    let after : spare_of (seen (c.get_mut.follows.lender c.reserve.new.self).entries) c.args.org.now ≡ c.reserve.new.self.spare = ap (λ (kept : Kept). kept.spare) now in
    let kept = c.reserve.ensures.spare in
    omega (arith, before, after, kept)

pub returns-in-Some-clause-others : goal.returns-in-Some-clause-others
returns-in-Some-clause-others c =
    others_written c.self.inside.parts.entries (c.get_mut.follows.lender c.reserve.new.self).entries c.args.self.now c.args.org.now c.reserve.new.self c.self.view_is
    ((c.get_mut.follows.holds c.reserve.new.self).3 (search rules)).0

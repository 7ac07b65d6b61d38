use Rattle.std.proofs.Common.{◌≡◌, ◌∙◌, sym, ap, rules, arith}
use Rattle.std.specs.FinMap as finite
use Rattle.sandboxes.specs.Files.{Kept, KeptByName, none, kept_of, holding_of, spare_of}
use Rattle.sandboxes.specs.Sandboxes.{Stock, released}
use Rattle.sandboxes.proofs.FilesLemmas.{kept_found, kept_absent, kept_written, others_written}
use Rattle.sandboxes.proofs.MapLemmas.{seen}
use Rattle.sandboxes.proofs.StockLemmas.{without_empty}
use Rattle.sandboxes.proofs.files.Files.release.Goals as goal

pub returns-clause-holding : goal.returns-clause-holding
returns-clause-holding c =
    let found : kept_of c.args.self.now c.args.org.now ≡ c.in-Some.part.now =
    kept_found c.self.inside.parts.entries c.args.self.now c.args.org.now c.in-Some.part.now c.self.view_is c.in-Some.ensures.value in
    let now : kept_of (seen (c.get_mut.follows.lender c.release.new.self).entries) c.args.org.now ≡ c.release.new.self =
    kept_written c.self.inside.parts.entries (c.get_mut.follows.lender c.release.new.self).entries c.args.org.now c.release.new.self
    ((c.get_mut.follows.holds c.release.new.self).3 (search rules)).0 in
    ap (λ (kept : Kept). kept.holding) now ∙ c.release.ensures.holding ∙ ap (λ (kept : Kept). released c.args.sums.now kept.holding) (sym found)

pub returns-clause-spare : goal.returns-clause-spare
returns-clause-spare c =
    let found : kept_of c.args.self.now c.args.org.now ≡ c.in-Some.part.now =
    kept_found c.self.inside.parts.entries c.args.self.now c.args.org.now c.in-Some.part.now c.self.view_is c.in-Some.ensures.value in
    let now : kept_of (seen (c.get_mut.follows.lender c.release.new.self).entries) c.args.org.now ≡ c.release.new.self =
    kept_written c.self.inside.parts.entries (c.get_mut.follows.lender c.release.new.self).entries c.args.org.now c.release.new.self
    ((c.get_mut.follows.holds c.release.new.self).3 (search rules)).0 in
    let before : spare_of c.args.self.now c.args.org.now ≡ c.in-Some.part.now.spare = ap (λ (kept : Kept). kept.spare) found in
    let after : spare_of (seen (c.get_mut.follows.lender c.release.new.self).entries) c.args.org.now ≡ c.release.new.self.spare = ap (λ (kept : Kept). kept.spare) now in
    let kept = c.release.ensures.spare in
    omega (arith, before, after, kept)

pub returns-clause-others : goal.returns-clause-others
returns-clause-others c =
    others_written c.self.inside.parts.entries (c.get_mut.follows.lender c.release.new.self).entries c.args.self.now c.args.org.now c.release.new.self c.self.view_is
    ((c.get_mut.follows.holds c.release.new.self).3 (search rules)).0

pub returns-in_default-clause-holding : goal.returns-in_default-clause-holding
returns-in_default-clause-holding c =
    let same : c.get_mut.follows.lender-at-none ≡ c.self.inside.parts = search rules in
    let absent : kept_of c.args.self.now c.args.org.now ≡ none =
    kept_absent c.self.inside.parts.entries c.args.self.now c.args.org.now c.self.view_is c.in_default.ensures.value in
    ap (λ parts. holding_of (seen parts.entries) c.args.org.now) same
    ∙ ap (λ (files : KeptByName). holding_of files c.args.org.now) c.self.view_is
    ∙ ap (λ (kept : Kept). kept.holding) absent
    ∙ ap (λ (files : Stock). record { files = files; sandboxes = finite.empty; count = 0 }) (sym (without_empty c.args.sums.now))
    ∙ ap (λ (kept : Kept). released c.args.sums.now kept.holding) (sym absent)

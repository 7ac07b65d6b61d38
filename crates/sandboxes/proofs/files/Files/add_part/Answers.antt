use Rattle.std.proofs.Common.{◌≡◌, ◌≤◌, ℕ, List, Option, Some, unwrap_or, cond, bytes_eq, ◌∙◌, sym, ap, subst}
use Rattle.std.specs.Map.{lookup}
use Rattle.sandboxes.specs.Files.{Kept, none, kept_of}
use Rattle.sandboxes.proofs.FilesLemmas.{kept_written, others_written}
use Rattle.sandboxes.proofs.MapLemmas.{seen}
use Rattle.sandboxes.proofs.files.Files.add_part.Goals as goal

pub returns-clause-holding : goal.returns-clause-holding
returns-clause-holding c =
    let now : kept_of (seen c.insert.new.self.entries) c.args.org.now ≡ c.in_ok-part.part =
    kept_written c.self.inside.parts.entries c.insert.new.self.entries c.args.org.now c.in_ok-part.part
    (λ q. c.in_ok-insert.ensures.updates.0 q ∙ ap (λ (name : List ℕ). cond (bytes_eq name q) (Some c.in_ok-part.part) (lookup (bytes_eq q) c.self.inside.parts.entries)) c.in_ok-name.ensures) in
    let absent : kept_of c.args.self.now c.args.org.now ≡ none = ap (λ (o : Option Kept). unwrap_or o none) c.requires in
    ap (λ (kept : Kept). kept.holding) now ∙ c.in_ok-part.ensures.holding ∙ sym (ap (λ (kept : Kept). kept.holding) absent)

pub returns-clause-ok : goal.returns-clause-ok
returns-clause-ok c =
    let now : kept_of (seen c.insert.new.self.entries) c.args.org.now ≡ c.in_ok-part.part =
    kept_written c.self.inside.parts.entries c.insert.new.self.entries c.args.org.now c.in_ok-part.part
    (λ q. c.in_ok-insert.ensures.updates.0 q ∙ ap (λ (name : List ℕ). cond (bytes_eq name q) (Some c.in_ok-part.part) (lookup (bytes_eq q) c.self.inside.parts.entries)) c.in_ok-name.ensures) in
    subst (λ (kept : Kept). c.args.count ≤ kept.spare) (sym now) c.in_ok-part.ensures.spare

pub returns-clause-others : goal.returns-clause-others
returns-clause-others c =
    others_written c.self.inside.parts.entries c.insert.new.self.entries c.args.self.now c.args.org.now c.in_ok-part.part c.self.view_is
    (λ q. c.in_ok-insert.ensures.updates.0 q ∙ ap (λ (name : List ℕ). cond (bytes_eq name q) (Some c.in_ok-part.part) (lookup (bytes_eq q) c.self.inside.parts.entries)) c.in_ok-name.ensures)

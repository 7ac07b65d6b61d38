use Rattle.std.proofs.Common.{◌≡◌, ◌==◌, ℕ, length, ap, sym, ◌∙◌}
use Rattle.std.specs.List.{list_any}
use Rattle.std.specs.String.{string_vec}
use Rattle.std.proofs.lemmas.Bool.{false≢true}
use Rattle.http_routes.specs.Targets.{segment_from}
use Rattle.http_routes.proofs.SegmentLemmas.{no_text, a_segment, failed, out_of}
use Rattle.http_routes.proofs.targets.segment_from.Goals.{then-is_empty, else-is_empty}
use Rattle.http_routes.proofs.targets.segment_from.Goals as goal

-- bytes of which no string was made aren't text
pub returns-in_err-ok : goal.returns-in_err-ok
returns-in_err-ok c =
    rw c.from_residual.ensures (no_text c.args.decoded.items (λ h. failed c.from_utf8.result c.ok.result c.ok.ensures.variant c.in_err-ok.was (c.from_utf8.ensures.succeeds h)))

-- the string that was made has the bytes themselves
pub returns-else-contains : goal.returns-else-contains
returns-else-contains c =
    let made = out_of (λ t. string_vec t ≡ c.args.decoded) c.from_utf8.result c.ok.result _ c.from_utf8.ensures.ok c.ok.ensures.value c.in_ok-ok.was in
    let same : c.of-segment.result ≡ c.args.decoded.items = c.of-segment.ensures ∙ ap (λ v. v.items) made in
    let read = c.as_bytes-bytes.ensures.value in
    elim c.if-is_empty.branch [
      | then-is_empty w ↦ absurd (false≢true (sym c.if-contains.false ∙ w.value-is ∙ w.if-is_empty.true))
      | else-is_empty w ↦
          a_segment c.of-segment.result c.as_bytes-bytes.ensures.utf8
          (ap (λ bytes. length bytes == 0) (sym read) ∙ sym c.is_empty.ensures ∙ w.if-is_empty.false)
          (ap (λ bytes. list_any (λ (b : ℕ). b == 47) bytes) (sym read) ∙ sym w.contains.ensures.value ∙ sym w.value-is ∙ c.if-contains.false)
          ∙ ap segment_from same
    ]

-- Equal replies have equal texts.
use Rattle.std.proofs.Common.{sym, ap, ◌∙◌}
use Rattle.std.specs.List.{flat_map}
use Rattle.org_machine.specs.Alone.{own}
use Rattle.org_machine.proofs.Going.{same_replies}
use Rattle.http_wire.specs.Replies.{reply_text}
use Rattle.chefsite.proofs.AloneLemmas.{texts-map}
use Rattle.chefsite.proofs.laws.two_worlds.Goals as goal

pub returns : goal.returns
returns c = λ opened other es fs name alone there same_opened same_asked.
    texts-map (own name es)
    ∙ ap (flat_map reply_text) (same_replies opened other es fs name alone there same_opened same_asked)
    ∙ sym (texts-map (own name fs))

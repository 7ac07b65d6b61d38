-- What the part gives that was added stands in front of what the words behind it give.
use Rattle.std.proofs.Common.{ap, sym, ◌∙◌}
use Rattle.command_words.specs.Gathering.{given_told, part_told, begun_with}
use Rattle.command_words.specs.Words.{given_in}
use Rattle.command_words.proofs.GivenLemmas.{goes_on, parted_words}
use Rattle.command_words.proofs.given.Given.add_all.Goals as goal

pub loop-left-preserved : goal.loop-left-preserved
loop-left-preserved c =
    let left = parted_words c.loop-left.left.now c.as_str-in-len1-up.result.now c.word-item.result c.in-len1-up.len_at_least (c.as_str-in-len1-up.ensures.value ∙ c.word-item.is) in
    let gives = sym (ap begun_with c.in-Some.is) ∙ c.in_ok-part.ensures.gives ∙ ap given_in left in
    c.loop-left.invariant
    ∙ goes_on (given_told c.loop-left.self) (given_told c.add.new.self) (part_told c.in-Some.part) c.loop-left.left.now c.in-Some.behind.now gives c.in_ok-add-in-Some.ensures

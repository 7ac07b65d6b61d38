-- What was laid is all that the rows say.
use Rattle.std.proofs.Common.{ap, ◌∙◌}
use Rattle.sandboxes.specs.Files.{holding_of}
use Rattle.row_laying.proofs.loading.lay_all.Goals as goal
use Rattle.row_laying.specs.Laid.{IsLaid, organisation_laid}
use Rattle.row_laying.specs.Laying.{with_all, files_with_all}

laid : (c : goal.In-Ok) → IsLaid c.args.said.items (organisation_laid c.lay_each.new.laid) (holding_of c.lay_each.new.files c.args.org)
laid c = record {
  organisation = c.in-Ok.ensures.organisation ∙ ap (with_all c.args.said.items) c.nothing-laid.ensures;
  files = c.in-Ok.ensures.files ∙ ap (files_with_all c.args.said.items) c.requires.empty;
}

pub state-requires : goal.state-requires
state-requires c = (c.args.said.items, laid c, c.requires.kept)

pub returns-in-Ok-clause-rows : goal.returns-in-Ok-clause-rows
returns-in-Ok-clause-rows c rows are =
    c.state.ensures.rows c.args.said.items rows
    (record {
      organisation = c.in-Ok.ensures.organisation ∙ ap (with_all c.args.said.items) c.nothing-laid.ensures;
      files = c.in-Ok.ensures.files ∙ ap (files_with_all c.args.said.items) c.requires.empty;
    }) are

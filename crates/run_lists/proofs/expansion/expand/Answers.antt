use Rattle.std.proofs.Common.{◌≡◌, List, ap, map, refl, sym, ◌∙◌}
use Rattle.std.specs.List.{filter_map}
use Rattle.run_lists.specs.Visits.{Run}
use Rattle.run_lists.specs.Walk.{event_of}
use Rattle.run_lists.specs.Keys.{run_of}
use Rattle.run_lists.specs.Firsts.{firsts}
use Rattle.run_lists.specs.Expansions as spec
use Rattle.run_lists.specs.Expansions.{same_run, same_recipe}
use Rattle.run_lists.proofs.expansion.expand.Goals as goal

-- no role is missing among the events, so what was listed of them is the expansion
pub returns-clause-expansion : goal.returns-clause-expansion
returns-clause-expansion c =
    let told = c.in_ok-told.told.items in
    let runs : map run_of c.deref-3.result.now ≡ filter_map spec.run_of (map event_of told) =
    ap (map run_of) c.deref-3.ensures.value ∙ c.in_ok-runs.ensures ∙ ap (λ ts. filter_map spec.run_of (map event_of ts)) c.deref-2.ensures.value in
    let same : map run_of c.deref-4.result.now ≡ filter_map spec.run_of (map event_of told) =
    ap (map run_of) c.deref-4.ensures.value ∙ c.in_ok-runs.ensures ∙ ap (λ ts. filter_map spec.run_of (map event_of ts)) c.deref-2.ensures.value in
    record {
      events = map event_of told;
      visits = c.in_ok-told.ensures;
      whole = sym (c.in_ok-missing.ensures ∙ ap (λ ts. spec.missing_in (map event_of ts)) c.deref.ensures.value) ∙ c.if-not-is_empty.ensures.0 refl;
      items_are = c.in_ok-first_items.ensures ∙ ap (λ (rs : List Run). map (λ (r : Run). r.item) (firsts same_run rs)) runs;
      recipes_are = c.in_ok-first_recipes.ensures ∙ ap (λ (rs : List Run). firsts same_recipe (map (λ (r : Run). r.name) rs)) same;
      roles_are = c.in_ok-roles_in.ensures ∙ ap (λ ts. spec.roles_in (map event_of ts)) c.deref-5.ensures.value;
    }

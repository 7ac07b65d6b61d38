-- One more cookbook, where its name has the form; in the end all are there.
use Rattle.std.proofs.Common.{Vec, Global, drop, sym, ap, ◌∙◌}
use Rattle.std.proofs.lemmas.List.{drop_all}
use Rattle.doc_tree.specs.Name.{is_name}
use Rattle.shelves.specs.Shelves.{shelves_of}
use Rattle.shelves.specs.SortedMap.{map_of}
use Rattle.version_rules.specs.Order.{version_cmp}
use Rattle.dep_solver.specs.declared.universe.Cookbook.{Cookbook}
use Rattle.org_shelves.specs.Universes as spec
use Rattle.org_shelves.proofs.UniverseLemmas.{all_made, named_more, same_universe, universe_rises, unnamed_more}
use Rattle.org_shelves.proofs.universes.universe_of.Goals as goal
use Rattle.org_shelves.proofs.universes.universe_of.Goals.{in-Ok+in_ok-cookbook_of-in-Ok+in_ok-push-in-Ok, in-Err}

pub loop-name-preserved : goal.loop-name-preserved
loop-name-preserved c =
    elim c.match-of.branch [
      | in-Ok+in_ok-cookbook_of-in-Ok+in_ok-push-in-Ok w ↦
          named_more c.shelves-name-items.result.now c.loop-name.name-index c.loop-name-item.result c.loop-name-test.true c.loop-name-item.is c.loop-name.cookbooks.items _ _ _
          (ap is_name (sym c.in_ok-copy.ensures) ∙ sym w.in-Ok.ensures.test)
          (w.in_ok-cookbook_of-in-Ok.ensures ∙ ap (λ name. spec.cookbook_of (name, map_of version_cmp c.loop-name-item.result.1)) (w.in-Ok.ensures.ok ∙ c.in_ok-copy.ensures))
          (ap (λ (v : Vec Cookbook Global). v.items) w.cookbooks-is ∙ w.in_ok-push-in-Ok.ensures.items) c.loop-name.invariant
      | in-Err w ↦
          unnamed_more c.shelves-name-items.result.now c.loop-name.name-index c.loop-name-item.result c.loop-name-test.true c.loop-name-item.is c.loop-name.cookbooks.items _ _
          (ap is_name (sym c.in_ok-copy.ensures) ∙ sym w.in-Err.ensures.test) (ap (λ (v : Vec Cookbook Global). v.items) w.cookbooks-is) c.loop-name.invariant
    ]

pub invariant_of-result : goal.invariant_of-result
invariant_of-result c = record {
  in_order = universe_rises (shelves_of version_cmp c.args.stored.now) c.of-cookbooks.result
      (c.of-cookbooks.ensures ∙ all_made (shelves_of version_cmp c.args.stored.now) c.shelves-name-items.result.now c.loop-name.cookbooks.items (drop c.loop-name.name-index c.shelves-name-items.result.now) c.shelves-name-items.ensures.shelves
      (drop_all c.loop-name.name-index c.shelves-name-items.result.now c.loop-name-test.false) c.loop-name.invariant);
}

pub returns : goal.returns
returns c =
    same_universe _ (spec.universe_of (shelves_of version_cmp c.args.stored.now))
    (c.of-cookbooks.ensures ∙ all_made (shelves_of version_cmp c.args.stored.now) c.shelves-name-items.result.now c.loop-name.cookbooks.items (drop c.loop-name.name-index c.shelves-name-items.result.now) c.shelves-name-items.ensures.shelves
    (drop_all c.loop-name.name-index c.shelves-name-items.result.now c.loop-name-test.false) c.loop-name.invariant)

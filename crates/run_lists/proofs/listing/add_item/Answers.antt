use Rattle.std.proofs.Common.{◌≡◌, not, ◌&&◌, Option, Some, None, ap, refl, ◌∙◌, bytes_eq}
use Rattle.std.specs.List.{list_any}
use Rattle.std.specs.Option.{option_eq}
use Rattle.indexmap.specs.IndexSet.{insert_key}
use Rattle.version_rules.specs.declared.versions.Version.{Version}
use Rattle.version_rules.specs.contracts.versions.VersionPartialEq.TheImpl as version
use Rattle.run_lists.specs.declared.keys.RunKey.{RunKey}
use Rattle.run_lists.specs.contracts.keys.RunKeyPartialEq.TheImpl.{eq-value}
use Rattle.dep_solver.specs.Universes.{same_version}
use Rattle.run_lists.specs.Keys.{key_of, same_key}
use Rattle.run_lists.proofs.FirstsLemmas.{gained}
use Rattle.run_lists.proofs.listing.add_item.Goals as goal

versions : (a b : Option Version) → option_eq version.eq-value.it a b ≡ option_eq same_version a b
versions None None = refl
versions None (Some b) = refl
versions (Some a) None = refl
versions (Some a) (Some b) = refl

derived : (a b : RunKey) → eq-value.it a b ≡ same_key a b
derived a b = ap (λ r. bytes_eq a.cookbook b.cookbook && (bytes_eq a.recipe b.recipe && r)) (versions a.version b.version)

pub returns-in_ok-push-clause-keys : goal.returns-in_ok-push-clause-keys
returns-in_ok-push-clause-keys c =
    c.in_ok-insert.ensures.keys
    ∙ ap (λ (k : RunKey). insert_key eq-value.it c.args.seen.now.keys k) c.in_ok-key.ensures
    ∙ (λ i. insert_key (λ a b. derived a b i) c.args.seen.now.keys (key_of c.args.run.now.name.now c.args.run.now.version))

-- the key is new, and the item is put behind the others
pub returns-in_ok-push-clause-items : goal.returns-in_ok-push-clause-items
returns-in_ok-push-clause-items c =
    let run = c.args.run.now in
    gained (list_any (same_key (key_of run.name.now run.version)) c.args.seen.now.keys) c.in_ok-insert.field-0 c.args.items.now c.push.new.self run.item.now c.in_ok-copy.field-0
    (c.in_ok-insert.ensures.added
    ∙ ap (λ (k : RunKey). not (list_any (eq-value.it k) c.args.seen.now.keys)) c.in_ok-key.ensures
    ∙ (λ i. not (list_any (λ b. derived (key_of run.name.now run.version) b i) c.args.seen.now.keys)))
    c.if-branch.true c.in_ok-copy.ensures c.in_ok-push.ensures.ok

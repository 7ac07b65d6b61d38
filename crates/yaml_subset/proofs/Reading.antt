-- What a text spells is what it is read to.
use Rattle.std.proofs.Common.{◌≡◌, ℕ, true, List, Option, Some, None, option_map, option_and_then, refl, ap, sym, ◌∙◌}
use Rattle.std.proofs.lemmas.Option.{same_Some}
use Rattle.doc_tree.specs.Doc.{Doc}
use Rattle.yaml_subset.specs.Machine.{finish, run}
use Rattle.yaml_subset.specs.Spells.{SpellsLines}
use Rattle.yaml_subset.specs.declared.mark.Mark.{Mark}
use Rattle.yaml_subset.specs.declared.blocks.Blocks.{Blocks}
use Rattle.yaml_subset.specs.declared.blocks.Blocks.TheVariants.{Start}
use Rattle.yaml_subset.proofs.Laid.{lays, outside}
use Rattle.yaml_subset.proofs.LaysLemmas.{are_lays, lays_are}
use Rattle.yaml_subset.proofs.NodeRuns.{marks_run}
use Rattle.yaml_subset.proofs.NodeSound.{run_marks}

-- the document that marks come to from here
abbrev pub marks_end : Blocks → Option (List Mark) → Option Doc
marks_end s laid = option_and_then (λ ms. option_map finish (run (Some s) ms)) laid

-- the lines come to the document
abbrev pub Comes : List (List ℕ) → Doc → Type 0
Comes all d = marks_end Start (lays (outside true) all) ≡ Some d

pub spells_comes : (all : List (List ℕ)) (d : Doc) → SpellsLines all d → Comes all d
spells_comes all d (marks, laid, spells) = ap (marks_end Start) (lays_are laid) ∙ marks_run marks d spells

pub comes_spells : (all : List (List ℕ)) (d : Doc) → Comes all d → SpellsLines all d
comes_spells all d comes = cases (lays (outside true) all) refl
  where
    cases : (o : Option (List Mark)) → lays (outside true) all ≡ o → SpellsLines all d
    cases None none = absurd (let no_ = sym comes ∙ ap (marks_end Start) none in cc)
    cases (Some marks) laid = (marks, are_lays true all marks laid, run_marks marks d (sym (ap (marks_end Start) laid) ∙ comes))

-- lines spell at most one document
pub spells_one : (all : List (List ℕ)) (d e : Doc) → SpellsLines all d → SpellsLines all e → d ≡ e
spells_one all d e one two = same_Some d e (sym (spells_comes all d one) ∙ spells_comes all e two)

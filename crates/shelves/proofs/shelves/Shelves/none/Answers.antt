-- Without entries there are no shelves.
use Rattle.std.proofs.Common.{ap, map, ◌∙◌}
use Rattle.std.specs.Cmp.Lexicographic.{nat_list_cmp_total}
use Rattle.std.specs.FinMap as finite
use Rattle.doc_tree.specs.Text.{text_cmp}
use Rattle.shelves.specs.Shelves.{named_shelf}
use Rattle.shelves.specs.Rooms.{shelves_seen}
use Rattle.shelves.proofs.MapLemmas.{map_none}
use Rattle.shelves.proofs.shelves.Shelves.none.Goals as goal

pub returns : goal.returns
returns g c = ap (λ l. finite.from_sorted {R = text_cmp} (map (named_shelf g.K.Ord.cmp) (shelves_seen l))) c.new.ensures.items ∙ map_none text_cmp nat_list_cmp_total

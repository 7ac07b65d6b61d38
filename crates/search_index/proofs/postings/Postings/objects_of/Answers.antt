-- The term leads to the objects.
use Rattle.std.proofs.Common.{◌↔◌, ℕ, IfOk, subst}
use Rattle.std.specs.Global.{Vec}
use Rattle.ordered_keys.specs.Numbers.{Among}
use Rattle.search_index.specs.Net.{Has, Leads, Net, net_of}
use Rattle.search_index.specs.declared.posting.Side.TheVariants as side
use Rattle.search_index.proofs.WalkLemmas.{either_way, told_so, to_objects}
use Rattle.search_index.proofs.postings.Postings.objects_of.Goals as goal

pub returns : goal.returns
returns c =
    let net : Net = net_of c.self.inside.items c.self.inside.objects.items c.self.inside.terms.items in
    subst (λ (n : Net). IfOk c.others_of.result (λ (found : Vec ℕ). (object : ℕ) → Among found.items object ↔ Has n object c.args.term)) c.self.view_is
    (told_so {T = Vec ℕ} (λ found. (object : ℕ) → Among found.items object ↔ Leads side.Term c.self.inside.items c.args.term object) (λ found. (object : ℕ) → Among found.items object ↔ Has net object c.args.term) c.others_of.result
    (λ found are object. either_way (are object) (to_objects c.self.inside.items c.self.inside.objects.items c.self.inside.terms.items c.args.term object)) c.others_of.ensures)

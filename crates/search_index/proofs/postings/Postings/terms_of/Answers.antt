-- The object leads to the terms.
use Rattle.std.proofs.Common.{◌↔◌, ℕ, IfOk, subst}
use Rattle.std.specs.Global.{Vec}
use Rattle.ordered_keys.specs.Numbers.{Among}
use Rattle.search_index.specs.Net.{Has, Leads, Net, net_of}
use Rattle.search_index.specs.declared.posting.Side.TheVariants as side
use Rattle.search_index.proofs.WalkLemmas.{either_way, told_so, to_terms}
use Rattle.search_index.proofs.postings.Postings.terms_of.Goals as goal

pub returns : goal.returns
returns c =
    let net : Net = net_of c.self.inside.items c.self.inside.objects.items c.self.inside.terms.items in
    subst (λ (n : Net). IfOk c.others_of.result (λ (found : Vec ℕ). (term : ℕ) → Among found.items term ↔ Has n c.args.object term)) c.self.view_is
    (told_so {T = Vec ℕ} (λ found. (term : ℕ) → Among found.items term ↔ Leads side.Object c.self.inside.items c.args.object term) (λ found. (term : ℕ) → Among found.items term ↔ Has net c.args.object term) c.others_of.result
    (λ found are term. either_way (are term) (to_terms c.self.inside.items c.self.inside.objects.items c.self.inside.terms.items c.args.object term)) c.others_of.ensures)

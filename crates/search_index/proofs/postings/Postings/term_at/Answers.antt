-- The posting in the place is of this term.
use Rattle.std.proofs.Common.{◌≡◌, ◌∙◌, IsSome, Some, ap, option_map, subst, sym}
use Rattle.search_index.specs.Net.{held}
use Rattle.search_index.specs.Posting.{pair_of}
use Rattle.search_index.proofs.NetLemmas.{held-net}
use Rattle.search_index.proofs.PlaceLemmas.{place_there}
use Rattle.search_index.proofs.postings.Postings.term_at.Goals as goal

pub posting-requires : goal.posting-requires
posting-requires c = (place_there c.self.inside.items c.self.inside.objects.items c.self.inside.terms.items c.args.place).0 (subst (λ n. IsSome (held n c.args.place)) (sym c.self.view_is) c.requires)

pub returns : goal.returns
returns c = (
  c.posting.result.now.object,
  subst (λ n. held n c.args.place ≡ Some (c.posting.result.now.object, c.posting.result.now.term)) c.self.view_is (held-net c.self.inside.items c.self.inside.objects.items c.self.inside.terms.items c.args.place ∙ ap (option_map pair_of) c.posting.ensures),
)

-- A posting is out of one of its chains.
use Rattle.search_index.proofs.NetLemmas.{owner_headed, unlinked}
use Rattle.search_index.proofs.postings.unlink.Goals as goal

pub set_head-requires : goal.set_head-requires
set_head-requires c = rw c.owner-owner.ensures (owner_headed c.args.side c.args.items.now c.args.heads.now.items c.args.place c.posting-posting.result.now c.posting-posting.ensures c.requires.linked)

pub returns : goal.returns
returns c = unlinked c.args.side c.args.items.now _ c.args.heads.now.items _ c.args.place c.posting-posting.result.now c.posting-posting.ensures c.requires.linked (cc) (cc)

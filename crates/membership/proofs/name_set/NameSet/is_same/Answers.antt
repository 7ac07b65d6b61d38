use Rattle.std.proofs.Common.{◌∙◌, ap, sym}
use Rattle.std.specs.Cmp.Lexicographic.{nat_list_eq_equiv}
use Rattle.std.proofs.lemmas.Map.Lookups.{hash_set_eq_decides}
use Rattle.membership.specs.NameSets.{seen}
use Rattle.membership.specs.Rooms.{KeptNames}
use Rattle.membership.proofs.NameSetLemmas.{contains-seen, same_names}
use Rattle.membership.proofs.name_set.NameSet.is_same.Goals as goal

pub returns : goal.returns
returns c = λ yes.
    let alike = (hash_set_eq_decides nat_list_eq_equiv c.self.inside.items c.other.inside.items).0 (sym c.eq.ensures ∙ yes) in
    sym (ap (λ (kept : KeptNames). kept.names) c.self.view_is)
    ∙ same_names (seen c.self.inside.items.keys) (seen c.other.inside.items.keys) (λ q. contains-seen c.self.inside.items.keys q ∙ alike q ∙ sym (contains-seen c.other.inside.items.keys q))
    ∙ ap (λ (kept : KeptNames). kept.names) c.other.view_is

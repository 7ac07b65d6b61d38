use Rattle.std.proofs.Common.{rules}
use Rattle.membership.specs.Changes.{left}
use Rattle.membership.specs.Leading.{KeepsLists}
use Rattle.membership.proofs.KeepingLemmas.{unless_group, left_lists}
use Rattle.membership.proofs.LeavingLemmas.{groups_retained, rooms_retained, length_retained, lists_retained}
use Rattle.membership.proofs.group_map.leave_all.Goals as goal

pub returns-clause-groups : goal.returns-clause-groups
returns-clause-groups c = groups_retained _ (left c.args.kind c.args.member.now) _ (λ k v b w g t. search rules) c.args.items.now.entries c.retain.new.self.entries c.retain.ensures.filtered

pub returns-clause-rooms : goal.returns-clause-rooms
returns-clause-rooms c = λ name. rooms_retained _ (left c.args.kind c.args.member.now) _ (λ k v b w g t. search rules) c.args.items.now.entries c.retain.new.self.entries c.retain.ensures.filtered name

pub returns-clause-len : goal.returns-clause-len
returns-clause-len c = length_retained _ (left c.args.kind c.args.member.now) _ (λ k v b w g t. search rules) c.args.items.now.entries c.retain.new.self.entries c.retain.ensures.filtered

pub returns-clause-lists : goal.returns-clause-lists
returns-clause-lists c =
    unless_group c.args.kind _ (KeepsLists c.args.items.now.entries c.retain.new.self.entries)
    (λ same. lists_retained _ (left c.args.kind c.args.member.now) _ (λ k v b w g t. search rules) same c.args.items.now.entries c.retain.new.self.entries c.retain.ensures.filtered)
    (left_lists c.args.kind c.args.member.now)

-- An object is in, with its pairs.
use Rattle.std.proofs.Common.{◌≡◌, List, [], ◌∷◌, length, refl, sym, subst, arith}
use Rattle.search_index.specs.Arena.{AddsObject, Contents, HasObject, HasRoom}
use Rattle.search_index.proofs.GivenLemmas.{Given, IsPutIn, given_all, given_begins, given_more, object_numbers, still_absent}
use Rattle.search_index.proofs.index.Index.insert.Goals as goal

pub insert-object-requires-clause-absent : goal.insert-object-requires-clause-absent
insert-object-requires-clause-absent c =
    let old : Contents = record { scopes = c.self.inside.scopes; objects = c.self.inside.objects; terms = c.self.inside.terms; net = c.self.inside.postings } in
    still_absent old c.number_of-number.new.self c.args.scope c.number_of-number.result c.args.name c.self.invariant c.number_of-number.ensures
    (subst (λ (k : Contents). HasObject k c.args.scope c.args.name → ⊥) (sym c.self.view_is) c.requires.absent)

pub loop-pair-init : goal.loop-pair-init
loop-pair-init c =
    let old : Contents = record { scopes = c.self.inside.scopes; objects = c.self.inside.objects; terms = c.self.inside.terms; net = c.self.inside.postings } in
    let room = subst (λ (k : Contents). HasRoom k 1 (length c.args.pairs) (length c.args.pairs)) (sym c.self.view_is) c.requires.room in
    subst (λ z. Given (record { scopes = c.number_of-number.new.self; objects = c.insert-object.new.self; terms = c.self.inside.terms; net = c.self.inside.postings }) (record { scopes = c.number_of-number.new.self; objects = c.insert-object.new.self; terms = c.self.inside.terms; net = c.self.inside.postings }) c.number_of-number.result c.insert-object.result c.args.name c.args.pairs z) (sym c.into_vec-left.ensures.value)
    (given_begins old c.number_of-number.new.self c.insert-object.new.self c.number_of-number.result c.insert-object.result c.args.name c.args.pairs c.self.invariant (object_numbers old c.number_of-number.new.self c.insert-object.new.self c.args.scope c.number_of-number.result c.insert-object.result c.args.name c.self.invariant c.number_of-number.ensures (subst (λ (k : Contents). HasObject k c.args.scope c.args.name → ⊥) (sym c.self.view_is) c.requires.absent) c.insert-object.ensures) room.for_terms room.for_postings)

pub loop-pair-preserved : goal.loop-pair-preserved
loop-pair-preserved c = given_more (record { scopes = c.number_of-number.new.self; objects = c.insert-object.new.self; terms = c.self.inside.terms; net = c.self.inside.postings }) (record { scopes = c.loop-pair.self-inside.scopes; objects = c.loop-pair.self-inside.objects; terms = c.loop-pair.self-inside.terms; net = c.loop-pair.self-inside.postings }) c.add.new.terms c.add.new.postings c.number_of-number.result c.insert-object.result c.args.name c.args.pairs c.loop-pair.left.items c.pop.new.self.items c.in-Some.pair
    c.loop-pair.invariant c.in-Some.ensures.items c.add.ensures

nothing : {X : Type 0} (xs : List X) → length xs ≡ 0 → xs ≡ []
nothing [] e = refl
nothing (x ∷ xs) e = absurd (omega arith)

put : (c : goal.In_default) → IsPutIn (record { scopes = c.self.inside.scopes; objects = c.self.inside.objects; terms = c.self.inside.terms; net = c.self.inside.postings }) (record { scopes = c.loop-pair.self-inside.scopes; objects = c.loop-pair.self-inside.objects; terms = c.loop-pair.self-inside.terms; net = c.loop-pair.self-inside.postings }) c.args.scope c.args.name c.args.pairs
put c =
    let old : Contents = record { scopes = c.self.inside.scopes; objects = c.self.inside.objects; terms = c.self.inside.terms; net = c.self.inside.postings } in
    let empty : length c.loop-pair.left.items ≡ 0 = (let ok = c.loop-pair.left.ok in let none = c.in_default.ensures.cases.0 in omega arith) in
    given_all old (record { scopes = c.number_of-number.new.self; objects = c.insert-object.new.self; terms = c.self.inside.terms; net = c.self.inside.postings }) (record { scopes = c.loop-pair.self-inside.scopes; objects = c.loop-pair.self-inside.objects; terms = c.loop-pair.self-inside.terms; net = c.loop-pair.self-inside.postings }) c.args.scope c.number_of-number.result c.insert-object.result c.args.name c.args.pairs c.loop-pair.left.items c.self.invariant c.number_of-number.ensures
    (object_numbers old c.number_of-number.new.self c.insert-object.new.self c.args.scope c.number_of-number.result c.insert-object.result c.args.name c.self.invariant c.number_of-number.ensures (subst (λ (k : Contents). HasObject k c.args.scope c.args.name → ⊥) (sym c.self.view_is) c.requires.absent) c.insert-object.ensures) refl refl c.loop-pair.invariant (nothing c.loop-pair.left.items empty)

pub invariant_of-self : goal.invariant_of-self
invariant_of-self c = (put c).whole

put_in : (c : goal.After-drop-left) → IsPutIn (record { scopes = c.self.inside.scopes; objects = c.self.inside.objects; terms = c.self.inside.terms; net = c.self.inside.postings }) (record { scopes = c.loop-pair.self-inside.scopes; objects = c.loop-pair.self-inside.objects; terms = c.loop-pair.self-inside.terms; net = c.loop-pair.self-inside.postings }) c.args.scope c.args.name c.args.pairs
put_in c =
    let old : Contents = record { scopes = c.self.inside.scopes; objects = c.self.inside.objects; terms = c.self.inside.terms; net = c.self.inside.postings } in
    let empty : length c.loop-pair.left.items ≡ 0 = (let ok = c.loop-pair.left.ok in let none = c.in_default.ensures.cases.0 in omega arith) in
    given_all old (record { scopes = c.number_of-number.new.self; objects = c.insert-object.new.self; terms = c.self.inside.terms; net = c.self.inside.postings }) (record { scopes = c.loop-pair.self-inside.scopes; objects = c.loop-pair.self-inside.objects; terms = c.loop-pair.self-inside.terms; net = c.loop-pair.self-inside.postings }) c.args.scope c.number_of-number.result c.insert-object.result c.args.name c.args.pairs c.loop-pair.left.items c.self.invariant c.number_of-number.ensures
    (object_numbers old c.number_of-number.new.self c.insert-object.new.self c.args.scope c.number_of-number.result c.insert-object.result c.args.name c.self.invariant c.number_of-number.ensures (subst (λ (k : Contents). HasObject k c.args.scope c.args.name → ⊥) (sym c.self.view_is) c.requires.absent) c.insert-object.ensures) refl refl c.loop-pair.invariant (nothing c.loop-pair.left.items empty)

pub returns-clause-adds : goal.returns-clause-adds
returns-clause-adds c = subst (λ (k : Contents). AddsObject k (record { scopes = c.loop-pair.self-inside.scopes; objects = c.loop-pair.self-inside.objects; terms = c.loop-pair.self-inside.terms; net = c.loop-pair.self-inside.postings }) c.args.scope c.args.name c.args.pairs) c.self.view_is (put_in c).adds

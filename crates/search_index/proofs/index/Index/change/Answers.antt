-- The object has just its new pairs.
use Rattle.std.proofs.Common.{◌≡◌, ◌∙◌, [], ◌∷◌, List, None, Option, ap, arith, length, refl, reverse, subst, sym, ℕ}
use Rattle.std.proofs.lemmas.List.{length-reverse}
use Rattle.search_query.specs.Pair.{Pair}
use Rattle.search_index.specs.Arena.{Contents, HasRoom, LosesRoom, ReplacesObject, StandsAt}
use Rattle.search_index.specs.Merge.{Merges}
use Rattle.search_index.proofs.MergeLemmas.{member_reverse, merges_first, replaced, start}
use Rattle.search_index.proofs.index.Index.change.Goals as goal

pub loop-pair-init : goal.loop-pair-init
loop-pair-init c =
    let old : Contents = record { scopes = c.self.inside.scopes; objects = c.self.inside.objects; terms = c.self.inside.terms; net = c.self.inside.postings } in
    let stands = c.requires.stands in
    let turned : List Pair = reverse c.args.pairs in
    let room = subst (λ (k : Contents). HasRoom k 1 (length c.args.pairs) (length c.args.pairs)) (sym c.self.view_is) c.requires.room in
    let mine = subst (λ (k : Contents). StandsAt k stands.0 stands.1 c.args.standing.scope c.args.standing.object) (sym c.self.view_is) stands.2 in
    let first : Merges (start old stands.1 turned) old.terms old.net c.args.standing.scope c.args.standing.object turned None =
    merges_first old c.args.standing.scope c.args.standing.object stands.1 turned c.self.invariant mine.object_at (omega (arith, room.for_terms, length-reverse c.args.pairs)) (omega (arith, room.for_postings, length-reverse c.args.pairs)) in (
      stands.1,
      subst (λ (z : List Pair). Merges (start old stands.1 turned) old.terms old.net c.args.standing.scope c.args.standing.object z c.none-before.result) (sym (c.reverse.ensures.items ∙ ap reverse c.into_vec-left.ensures.value))
          (subst (λ (z : Option ℕ). Merges (start old stands.1 turned) old.terms old.net c.args.standing.scope c.args.standing.object turned z) (sym c.none-before.ensures) first),
      refl,
      refl,
    )

pub settle-before-requires : goal.settle-before-requires
settle-before-requires c = (start (record { scopes = c.self.inside.scopes; objects = c.self.inside.objects; terms = c.self.inside.terms; net = c.self.inside.postings }) c.loop-pair.invariant.0 (reverse c.args.pairs), c.pop.new.self.items, (subst (λ (z : List Pair). Merges (start (record { scopes = c.self.inside.scopes; objects = c.self.inside.objects; terms = c.self.inside.terms; net = c.self.inside.postings }) c.loop-pair.invariant.0 (reverse c.args.pairs)) c.loop-pair.self-inside.terms c.loop-pair.self-inside.postings c.args.standing.scope c.args.standing.object z c.loop-pair.before) c.in-Some.ensures.items c.loop-pair.invariant.1))

pub loop-pair-preserved : goal.loop-pair-preserved
loop-pair-preserved c = (c.loop-pair.invariant.0, c.settle-before.ensures (start (record { scopes = c.self.inside.scopes; objects = c.self.inside.objects; terms = c.self.inside.terms; net = c.self.inside.postings }) c.loop-pair.invariant.0 (reverse c.args.pairs)) c.pop.new.self.items (subst (λ (z : List Pair). Merges (start (record { scopes = c.self.inside.scopes; objects = c.self.inside.objects; terms = c.self.inside.terms; net = c.self.inside.postings }) c.loop-pair.invariant.0 (reverse c.args.pairs)) c.loop-pair.self-inside.terms c.loop-pair.self-inside.postings c.args.standing.scope c.args.standing.object z c.loop-pair.before) c.in-Some.ensures.items c.loop-pair.invariant.1), c.loop-pair.invariant.2, c.loop-pair.invariant.3)

pub drop_rest-requires : goal.drop_rest-requires
drop_rest-requires c = (start (record { scopes = c.self.inside.scopes; objects = c.self.inside.objects; terms = c.self.inside.terms; net = c.self.inside.postings }) c.loop-pair.invariant.0 (reverse c.args.pairs), c.args.standing.scope, c.loop-pair.left.items, c.loop-pair.invariant.1)

nothing : {X : Type 0} (xs : List X) → length xs ≡ 0 → xs ≡ []
nothing [] e = refl
nothing (x ∷ xs) e = absurd (omega arith)

pub invariant_of-self : goal.invariant_of-self
invariant_of-self c = (replaced (record { scopes = c.self.inside.scopes; objects = c.self.inside.objects; terms = c.self.inside.terms; net = c.self.inside.postings }) (record { scopes = c.loop-pair.self-inside.scopes; objects = c.loop-pair.self-inside.objects; terms = c.drop_rest.new.terms; net = c.drop_rest.new.postings }) c.requires.stands.0 c.args.standing.scope c.args.standing.object c.requires.stands.1 c.loop-pair.invariant.0 c.args.pairs (reverse c.args.pairs) c.loop-pair.left.items c.loop-pair.before c.self.invariant
    (subst (λ (k : Contents). StandsAt k c.requires.stands.0 c.requires.stands.1 c.args.standing.scope c.args.standing.object) (sym c.self.view_is) c.requires.stands.2)
    (c.drop_rest.ensures.merges (start (record { scopes = c.self.inside.scopes; objects = c.self.inside.objects; terms = c.self.inside.terms; net = c.self.inside.postings }) c.loop-pair.invariant.0 (reverse c.args.pairs)) c.args.standing.scope c.loop-pair.left.items c.loop-pair.invariant.1)
    (nothing c.loop-pair.left.items (let ok = c.loop-pair.left.ok in let cases = c.in_default.ensures.cases.0 in omega arith)) c.drop_rest.ensures.all (member_reverse c.args.pairs) (length-reverse c.args.pairs) c.loop-pair.invariant.2 c.loop-pair.invariant.3).whole

pub returns-clause-replaces : goal.returns-clause-replaces
returns-clause-replaces c scope name stands = subst (λ (k : Contents). ReplacesObject k (record { scopes = c.loop-pair.self-inside.scopes; objects = c.loop-pair.self-inside.objects; terms = c.drop_rest.new.terms; net = c.drop_rest.new.postings }) scope name c.args.pairs) c.self.view_is (replaced (record { scopes = c.self.inside.scopes; objects = c.self.inside.objects; terms = c.self.inside.terms; net = c.self.inside.postings }) (record { scopes = c.loop-pair.self-inside.scopes; objects = c.loop-pair.self-inside.objects; terms = c.drop_rest.new.terms; net = c.drop_rest.new.postings }) scope c.args.standing.scope c.args.standing.object name c.loop-pair.invariant.0 c.args.pairs (reverse c.args.pairs) c.loop-pair.left.items c.loop-pair.before c.self.invariant
    (subst (λ (k : Contents). StandsAt k scope name c.args.standing.scope c.args.standing.object) (sym c.self.view_is) stands)
    (c.drop_rest.ensures.merges (start (record { scopes = c.self.inside.scopes; objects = c.self.inside.objects; terms = c.self.inside.terms; net = c.self.inside.postings }) c.loop-pair.invariant.0 (reverse c.args.pairs)) c.args.standing.scope c.loop-pair.left.items c.loop-pair.invariant.1)
    (nothing c.loop-pair.left.items (let ok = c.loop-pair.left.ok in let cases = c.in_default.ensures.cases.0 in omega arith)) c.drop_rest.ensures.all (member_reverse c.args.pairs) (length-reverse c.args.pairs) c.loop-pair.invariant.2 c.loop-pair.invariant.3).replaces

pub returns-clause-room : goal.returns-clause-room
returns-clause-room c = subst (λ (k : Contents). LosesRoom k (record { scopes = c.loop-pair.self-inside.scopes; objects = c.loop-pair.self-inside.objects; terms = c.drop_rest.new.terms; net = c.drop_rest.new.postings }) 1 (length c.args.pairs) (length c.args.pairs)) c.self.view_is (replaced (record { scopes = c.self.inside.scopes; objects = c.self.inside.objects; terms = c.self.inside.terms; net = c.self.inside.postings }) (record { scopes = c.loop-pair.self-inside.scopes; objects = c.loop-pair.self-inside.objects; terms = c.drop_rest.new.terms; net = c.drop_rest.new.postings }) c.requires.stands.0 c.args.standing.scope c.args.standing.object c.requires.stands.1 c.loop-pair.invariant.0 c.args.pairs (reverse c.args.pairs) c.loop-pair.left.items c.loop-pair.before c.self.invariant
    (subst (λ (k : Contents). StandsAt k c.requires.stands.0 c.requires.stands.1 c.args.standing.scope c.args.standing.object) (sym c.self.view_is) c.requires.stands.2)
    (c.drop_rest.ensures.merges (start (record { scopes = c.self.inside.scopes; objects = c.self.inside.objects; terms = c.self.inside.terms; net = c.self.inside.postings }) c.loop-pair.invariant.0 (reverse c.args.pairs)) c.args.standing.scope c.loop-pair.left.items c.loop-pair.invariant.1)
    (nothing c.loop-pair.left.items (let ok = c.loop-pair.left.ok in let cases = c.in_default.ensures.cases.0 in omega arith)) c.drop_rest.ensures.all (member_reverse c.args.pairs) (length-reverse c.args.pairs) c.loop-pair.invariant.2 c.loop-pair.invariant.3).room

-- A term is where its words are, and where a way from its hash meets it.
use Rattle.std.proofs.Common.{◌≡◌, Some, subst}
use Rattle.ordered_keys.specs.Keys.{IsAbsent, Keys, key_of}
use Rattle.search_index.specs.HashedNumbers.{Finds}
use Rattle.search_index.specs.Hashing.{is_term}
use Rattle.search_index.specs.declared.hashed_numbers.End.TheVariants.{FreeSlot}
use Rattle.ordered_keys.specs.Arranged.{item_of}
use Rattle.search_index.specs.KeyOrder.{TermKey, term_cmp}
use Rattle.search_index.specs.Terms.{term_at}
use Rattle.search_index.proofs.TermLemmas.{no_field, no_term, no_value, sought, term_found}
use Rattle.search_index.proofs.terms.Terms.find.Goals as goal

pub returns-in-Number : goal.returns-in-Number
returns-in-Number c =
    let term = c.args.term.now in
    subst (λ (k : Keys TermKey). key_of k c.in-Number.number ≡ Some (term_at term)) c.self.view_is
    (term_found c.self.inside.numbers c.self.inside.words c.self.invariant.are c.known.ensures term.scope term.field.now term.value.now c.in-Some.field c.in-Some-find.value c.in-Some.ensures c.in-Some-find.ensures c.in-Number.number c.in-Number.ensures)

pub returns-in-FreeSlot : goal.returns-in-FreeSlot
returns-in-FreeSlot c =
    let term = c.args.term.now in
    let numbers = c.self.inside.numbers in
    let words = c.self.inside.words in
    let are = c.self.invariant.are in
    let counted = c.known.ensures in
    let field = c.in-Some.field in
    let value = c.in-Some-find.value in
    subst (λ (k : Keys TermKey). IsAbsent term_cmp k (term_at term)) c.self.view_is
    (no_term numbers words are counted term.scope term.field.now term.value.now field value c.in-Some.ensures c.in-Some-find.ensures c.self.inside.hasher c.self.inside.hashed c.self.invariant.met
    (subst (λ h. Finds (λ n. is_term (item_of numbers n) (sought numbers words are counted term.scope term.field.now term.value.now field value c.in-Some.ensures c.in-Some-find.ensures)) c.self.inside.hashed h FreeSlot) c.term_hash.ensures c.in-FreeSlot.ensures))

pub returns-in_default : goal.returns-in_default
returns-in_default c =
    let term = c.args.term.now in
    subst (λ (k : Keys TermKey). IsAbsent term_cmp k (term_at term)) c.self.view_is
    (no_field c.self.inside.numbers c.self.inside.words c.self.invariant.are c.known.ensures term.scope term.field.now term.value.now c.in_default.ensures)

pub returns-in_default-find : goal.returns-in_default-find
returns-in_default-find c =
    let term = c.args.term.now in
    subst (λ (k : Keys TermKey). IsAbsent term_cmp k (term_at term)) c.self.view_is
    (no_value c.self.inside.numbers c.self.inside.words c.self.invariant.are c.known.ensures term.scope term.field.now term.value.now c.in_default-find.ensures)

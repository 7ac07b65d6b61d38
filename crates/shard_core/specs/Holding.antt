-- What an index of all organisations holds, as tests by organisation, index and name.
use Rattle.std.specs.Prelude.{◌==◌, ◌&&◌, ℕ, Bool, false, List, Option, Some, None, bytes_eq}
use Rattle.std.specs.List.{list_any}
use Rattle.object_finder.specs.declared.scopes.Scope.{Scope as Named}
use Rattle.object_finder.specs.Held.{Held, Room}
use Rattle.search_index.specs.Arena.{Contents, room_of}
use Rattle.ordered_keys.specs.Keys.{key_of}
use Rattle.search_index.specs.Scope.{same_scope}
use Rattle.search_index.specs.declared.key.ObjectKey.{ObjectKey}
use Rattle.search_index.specs.KeyOrder.{TermKey}
use Rattle.search_index.specs.declared.scope.Scope.{Scope}
use Rattle.search_query.specs.Pair.{Pair, same_pair}

-- the scope of an organisation and an index
abbrev pub scope_of : List ℕ → List ℕ → Scope
scope_of org index = record { org = org; index = index }

-- a finder's scope, as the index of the site has it
abbrev pub in_site : Named → Scope
in_site scope = scope_of scope.org scope.index

-- there is a scope, and it is this
abbrev pub is_scope : Scope → Option Scope → Bool
is_scope scope None = false
is_scope scope (Some other) = same_scope scope other

-- there is an object, and it has this name and stands in this scope
abbrev pub is_object : Contents → Scope → List ℕ → Option ObjectKey → Bool
is_object c scope name None = false
is_object c scope name (Some object) = is_scope scope (key_of c.scopes object.scope) && bytes_eq name object.name

-- there is a term, and it is of this pair and stands in the scope of the object
abbrev pub is_term : ObjectKey → Pair → Option TermKey → Bool
is_term object p None = false
is_term object p (Some term) = object.scope == term.scope && same_pair p term.pair

-- there is an object and a term, and they are those of this name and this pair in this scope
abbrev pub is_pair : Contents → Scope → List ℕ → Pair → Option ObjectKey → Option TermKey → Bool
is_pair c scope name p None term = false
is_pair c scope name p (Some object) term = is_object c scope name (Some object) && is_term object p term

-- there is a posting, and it says that the object of this name in this scope has the pair
abbrev pub says : Contents → Scope → List ℕ → Pair → Option (ℕ × ℕ) → Bool
says c scope name p None = false
says c scope name p (Some posting) = is_pair c scope name p (key_of c.objects posting.0) (key_of c.terms posting.1)

-- the object of this name in this scope is there: it is one of the objects
abbrev pub is_there : Contents → Scope → List ℕ → Bool
is_there c scope name = list_any (is_object c scope name) c.objects.slots

-- it has the pair: one of the postings says so
abbrev pub is_posted : Contents → Scope → List ℕ → Pair → Bool
is_posted c scope name p = list_any (says c scope name p) c.net.slots

-- what is held: by organisation, index and name the objects that are there, and the pairs that they have
unfoldable pub held_of : Contents → Held
held_of c = record {
  has_object = λ org index name. is_there c (scope_of org index) name;
  has_pair = λ org index name p. is_posted c (scope_of org index) name p;
}

-- no object of any organisation is held
abbrev pub nothing : Held
nothing = record { has_object = λ org index name. false; has_pair = λ org index name p. false }

-- how many more objects, pairs and terms fit without memory: a pair of an object is a posting
abbrev pub room_in : Contents → Room
room_in c = record { objects = (room_of c).objects; pairs = (room_of c).postings; terms = (room_of c).terms }

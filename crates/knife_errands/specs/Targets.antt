-- The targets of requests (RFC 9112, section 3.2.1; RFC 3986, sections 2 and 3).
use Rattle.std.specs.Prelude.{ℕ, List, [], ◌∷◌, ◌++◌, Bool, ◌||◌, ◌==◌, nat_eq, codes, if◌then◌else◌, IsTrue}
use Rattle.std.specs.Char.{is_ascii_alphanumeric}
use Rattle.std.specs.List.{flat_map, list_all, list_any, starts_with}
use Rattle.form_urlencoded.specs.Form.{append_pair}
use Rattle.percent_encoding.specs.Percent.{percent_encode_byte}
use Rattle.peer_wire.specs.declared.asks.Whom.{Whom}
use Rattle.knife_errands.specs.declared.errands.Kind.TheVariants.{DataBag}
use Rattle.knife_errands.specs.declared.errands.Listing.{Listing}
use Rattle.knife_errands.specs.declared.errands.Listing.TheVariants.{Of, Bag, Users, Cookbooks}
use Rattle.knife_errands.specs.declared.errands.Thing.{Thing}
use Rattle.knife_errands.specs.declared.errands.Thing.TheVariants.{Named, Item, Cookbook}
use Rattle.knife_errands.specs.Kinds.{collection}

-- a byte that a name in a target keeps: an ASCII letter, a digit or one of `_ - . :`
abbrev pub is_kept_in_name : ℕ → Bool
is_kept_in_name b = is_ascii_alphanumeric b || list_any (λ c. c == b) (codes "_-.:")

-- a byte that a target may have: one of a path or a query, or the sign of a byte that is percent-encoded
abbrev pub is_kept_in_target : ℕ → Bool
is_kept_in_target b = is_ascii_alphanumeric b || list_any (λ c. c == b) (codes "-._~!$&'()*+,;=:@/?%")

-- a byte as it is where it is kept, and else percent-encoded
abbrev pub encoded_byte : (ℕ → Bool) → ℕ → List ℕ
encoded_byte is_kept b = if is_kept b then b ∷ [] else percent_encode_byte b

-- a text of which these bytes are kept
abbrev pub encoded : (ℕ → Bool) → List ℕ → List ℕ
encoded is_kept text = flat_map (encoded_byte is_kept) text

-- a name behind a slash
abbrev pub named : List ℕ → List ℕ
named name = codes "/" ++ encoded is_kept_in_name name

-- names, each behind a slash
abbrev pub path : List (List ℕ) → List ℕ
path names = flat_map named names

-- the target of what stands in the organisation below these names
abbrev pub target : Whom → List (List ℕ) → List ℕ
target whom names = path (codes "organizations" ∷ whom.org ∷ names)

-- where a listing stands in the organisation
abbrev pub place_of_listing : Listing → List (List ℕ)
place_of_listing (Of kind) = collection kind ∷ []
place_of_listing (Bag name) = collection DataBag ∷ name ∷ []
place_of_listing Users = codes "users" ∷ []
place_of_listing Cookbooks = codes "cookbooks" ∷ []

-- where a thing stands in the organisation
abbrev pub place_of : Thing → List (List ℕ)
place_of (Named kind name) = collection kind ∷ name ∷ []
place_of (Item bag id) = collection DataBag ∷ bag ∷ id ∷ []
place_of (Cookbook name version) = codes "cookbooks" ∷ name ∷ version ∷ []

-- the target of a search: its one parameter is the query, form-encoded
abbrev pub search_target : Whom → List ℕ → List ℕ → List ℕ
search_target whom index query = target whom (codes "search" ∷ index ∷ []) ++ codes "?" ++ append_pair [] (codes "q") query

-- what stands before a path of any text: nothing where it begins with a slash, and else the organisation
abbrev pub raw_front : Whom → List ℕ → List ℕ
raw_front whom text = if starts_with nat_eq text (codes "/") then [] else target whom [] ++ codes "/"

-- the target that a path of any text is
abbrev pub raw_target : Whom → List ℕ → List ℕ
raw_target whom text = raw_front whom text ++ encoded is_kept_in_target text

-- each byte of a target is one that a target may have
abbrev pub IsClean : List ℕ → Type 0
IsClean text = IsTrue (list_all is_kept_in_target text)

-- Items under numbers that stay, in an order that is told from outside.
use Rattle.std.specs.Prelude.{◌≡◌, ◌≢◌, ◌↔◌, ℕ, List, ◌∷◌, ◌++◌, Option, Some, IsSome, refl}
use Rattle.std.specs.Coded.{Coded, code_by, coded×, coded_ℕ, coded_list, coded_option}
use Rattle.std.specs.declared.cmp.Ordering.{Ordering}
use Rattle.std.specs.declared.cmp.Ordering.TheVariants.{Less, Equal, Greater}
use Rattle.ordered_keys.specs.Numbers.{Among, AreApart}
use Rattle.ordered_keys.specs.Keys.{Keys, key_in}

-- the item or nothing under each number, the numbers of all items in their order, and how many more items fit without memory
pub record Arrangement (T : Type 0) : Type 0 where
  pub slots : List (Option T)
  pub order : List ℕ
  pub room : ℕ

-- how the logic stores them
abbrev pub arrangement_code : {T : Type 0} → Coded T → Coded (Arrangement T)
arrangement_code {T} code = code_by (List (Option T) × (List ℕ × ℕ)) (coded× (coded_list (coded_option code)) (coded× (coded_list coded_ℕ) coded_ℕ)) (λ a. (a.slots, (a.order, a.room))) (λ p. record { slots = p.0; order = p.1.0; room = p.1.1 }) (λ _. refl)

module _ {T : Type 0} where
  -- the item under a number
  abbrev pub item_of : Arrangement T → ℕ → Option T
  item_of a i = key_in a.slots i

  -- the items without their order
  abbrev pub keys_of : Arrangement T → Keys T
  keys_of a = record { slots = a.slots; room = a.room }

  -- these are the numbers of all items, each once
  pub record IsListing (item : ℕ → Option T) (order : List ℕ) : Type 0 where
    pub live : (i : ℕ) → Among order i ↔ IsSome (item i)
    pub apart : AreApart order

  -- the order has the numbers of all items, each once
  abbrev pub IsListed : Arrangement T → Type 0
  IsListed a = IsListing (item_of a) a.order

  -- the item under each of these numbers stands so
  abbrev pub AllAre : (T → Ordering) → (ℕ → Option T) → Ordering → List ℕ → Type 0
  AllAre standing item how ids = (i : ℕ) → Among ids i → (x : T) × (item i ≡ Some x) × (standing x ≡ how)

  -- the order is first the items that are below what is sought, then those that are equal to it, then those above it
  pub record IsCutOf (standing : T → Ordering) (item : ℕ → Option T) (order : List ℕ) : Type 0 where
    pub front : List ℕ
    pub same : List ℕ
    pub back : List ℕ
    pub whole : order ≡ front ++ (same ++ back)
    pub below : AllAre standing item Less front
    pub equal : AllAre standing item Equal same
    pub above : AllAre standing item Greater back

  module _ (standing : T → Ordering) where
    -- the item under each of these numbers stands so
    abbrev pub AllStand : Arrangement T → Ordering → List ℕ → Type 0
    AllStand a how ids = AllAre standing (item_of a) how ids

    -- the arrangement is first the items that are below what is sought, then those that are equal to it, then those above it
    abbrev pub IsCut : Arrangement T → Type 0
    IsCut a = IsCutOf standing (item_of a) a.order

    -- no item is equal to what is sought
    abbrev pub NoneStands : Arrangement T → Type 0
    NoneStands a = (i : ℕ) (x : T) → item_of a i ≡ Some x → standing x ≢ Equal

    -- the item under the number is equal to what is sought
    abbrev pub StandsAt : Arrangement T → ℕ → Type 0
    StandsAt a i = (x : T) × (item_of a i ≡ Some x) × (standing x ≡ Equal)

    -- the item under this number alone is equal to what is sought
    abbrev pub StandsAlone : Arrangement T → ℕ → Type 0
    StandsAlone a i = (j : ℕ) (x : T) → item_of a j ≡ Some x → standing x ≡ Equal → j ≡ i

    -- one item more in the order, behind those that are below it and before those that are above it
    pub record Places (old new : Arrangement T) (id : ℕ) : Type 0 where
      pub front : List ℕ
      pub back : List ℕ
      pub was : old.order ≡ front ++ back
      pub now : new.order ≡ front ++ id ∷ back
      pub below : AllStand old Less front
      pub above : AllStand old Greater back

  module _ (low high : T → Ordering) where
    -- the item under the number is from one bound on and below the other
    abbrev pub IsWithin : (ℕ → Option T) → ℕ → Type 0
    IsWithin item i = (x : T) × (item i ≡ Some x) × (low x ≢ Less) × (high x ≡ Less)

    -- these are the numbers of the items from one bound to below the other
    abbrev pub AreWithin : Arrangement T → List ℕ → Type 0
    AreWithin a numbers = (i : ℕ) → Among numbers i ↔ IsWithin (item_of a) i

    -- some item is from one bound on and below the other
    abbrev pub HasWithin : Arrangement T → Type 0
    HasWithin a = (i : ℕ) × IsWithin (item_of a) i

  module _ (cmp : T → T → Ordering) where
    -- the item under the number is there, has its place in the order, and no other is equal to it
    pub record CanLeave (a : Arrangement T) (i : ℕ) : Type 0 where
      pub item : T
      pub there : item_of a i ≡ Some item
      pub cut : IsCut (λ y. cmp y item) a
      pub equal : cmp item item ≡ Equal
      pub alone : StandsAlone (λ y. cmp y item) a i

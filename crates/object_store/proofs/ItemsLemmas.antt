-- What stands behind the front of a name.
use Rattle.std.proofs.Common.{◌≡◌, ℕ, Bool, true, false, List, [], ◌∷◌, ◌++◌, length, take, drop, Option, Some, None, MatchOption, nat_eq, nat_cmp, Less, bytes_eq, if◌then◌else◌, sym, ap, subst, refl, ◌∙◌, codes, option_copied, append_assoc}
use Rattle.std.specs.Borrow.{Bor}
use Rattle.std.specs.Cmp.Lexicographic.{slice_cmp, bytes_decides}
use Rattle.std.specs.Cmp.{tied_itself, nat_cmp_total}
use Rattle.std.specs.List.{AllByRecursion, filter_map, cons_option, starts_with}
use Rattle.std.specs.List.Sorted.{IsStrictlySortedBy}
use Rattle.std.specs.Ordering.{ordering_then}
use Rattle.std.specs.Str.{IsCharBoundary}
use Rattle.std.specs.Str.Pattern.{FindsTextPrefix, StripsPrefix}
use Rattle.std.proofs.Math.Seq.{take-append_seam, drop-append_seam}
use Rattle.std.proofs.lemmas.List.{take-append-drop}
use Rattle.std.proofs.lemmas.Str.Pattern.{starts_text}
use Rattle.doc_tree.specs.Valid.{InOrder}
use Rattle.object_store.specs.Items.{behind_front, item_front, item_name}

-- `strip_prefix` at a text
pub behind_front-strip : (n s : List ℕ) (r : Option (Bor (List ℕ)))
    → MatchOption r (FindsTextPrefix n s None) (λ x. StripsPrefix (FindsTextPrefix n) s x.now) → option_copied r ≡ behind_front n s
behind_front-strip n s None none = rw (sym (starts_text false n s none)) refl
behind_front-strip n s (Some x) (k, finds, is, fits) =
    let B : ℕ → Type 0 = λ j. IsCharBoundary s j in
    let starts = starts_text true n s (k, finds, subst B (sym finds.0) finds.2) in
    rw (sym starts, is, finds.0) refl

-- a text that begins with a front is the front and what follows
pub starts-whole : (front text : List ℕ) → starts_with nat_eq text front ≡ true → text ≡ front ++ drop (length front) text
starts-whole front text begins =
    sym (take-append-drop (length front) text)
    ∙ ap (λ t. t ++ drop (length front) text) (sym ((bytes_decides front (take (length front) text)).0 begins))

-- it is the front and the rest
pub behind_front-whole : (front text rest : List ℕ) → behind_front front text ≡ Some rest → text ≡ front ++ rest
behind_front-whole front text rest is =
    elim (starts_with nat_eq text front) as (λ b. starts_with nat_eq text front ≡ b → (if b then Some (drop (length front) text) else None) ≡ Some rest → text ≡ front ++ rest) [
      | true ↦ λ begins found. starts-whole front text begins ∙ ap (λ t. front ++ t) (cc found)
      | false ↦ λ begins found. cc found
    ] refl is

-- behind a front stands what follows it
pub behind_front-joined : (front rest : List ℕ) → behind_front front (front ++ rest) ≡ Some rest
behind_front-joined front rest =
    let begins : starts_with nat_eq (front ++ rest) front ≡ true = (bytes_decides front (take (length front) (front ++ rest))).1 (sym (take-append_seam front rest)) in
    ap (λ b. if b then Some (drop (length front) (front ++ rest)) else None) begins
    ∙ ap (λ t. Some t) (drop-append_seam front rest)

pub behind_front-of : (front text rest : List ℕ) → text ≡ front ++ rest → behind_front front text ≡ Some rest
behind_front-of front text rest whole = ap (behind_front front) whole ∙ behind_front-joined front rest

pub some-same : {X : Type 0} (x y : X) → Some x ≡ Some y → x ≡ y
some-same x y same = cc same

-- what follows a front is one text
pub behind-same : (front a b : List ℕ) → front ++ a ≡ front ++ b → a ≡ b
behind-same front a b same = some-same a b (sym (behind_front-joined front a) ∙ ap (behind_front front) same ∙ behind_front-joined front b)

-- two answers that are found alike are the same
pub same_options : {X : Type 0} (a b : Option X) → ((x : X) → a ≡ Some x → b ≡ Some x) → ((x : X) → b ≡ Some x → a ≡ Some x) → a ≡ b
same_options None None f g = refl
same_options None (Some y) f g = g y refl
same_options (Some x) b f g = sym (f x refl)

pub same_bools : (a b : Bool) → (a ≡ true → b ≡ true) → (b ≡ true → a ≡ true) → a ≡ b
same_bools true b f g = sym (f refl)
same_bools false true f g = g refl
same_bools false false f g = refl

-- an id stands behind the bag and then behind the sign
pub behind-parts : (bag name rest : List ℕ) → behind_front bag name ≡ Some rest → behind_front (codes "/") rest ≡ behind_front (item_front bag) name
behind-parts bag name rest is =
    let whole = behind_front-whole bag name rest is in
    same_options (behind_front (codes "/") rest) (behind_front (item_front bag) name)
    (λ id found. behind_front-of (item_front bag) name id (whole ∙ ap (λ t. bag ++ t) (behind_front-whole (codes "/") rest id found) ∙ sym (append_assoc bag (codes "/") id)))
    (λ id found. behind_front-of (codes "/") rest id (behind-same bag rest (codes "/" ++ id) (sym whole ∙ behind_front-whole (item_front bag) name id found ∙ append_assoc bag (codes "/") id)))

-- and behind no bag stands no id
pub behind-nothing : (bag name : List ℕ) → behind_front bag name ≡ None → behind_front (item_front bag) name ≡ None
behind-nothing bag name none =
    same_options (behind_front (item_front bag) name) None
    (λ id found. cc (sym none ∙ behind_front-of bag name (codes "/" ++ id) (behind_front-whole (item_front bag) name id found ∙ append_assoc bag (codes "/") id)))
    (λ id found. cc found)

-- a name is that of an item where the id is what stands behind its bag
pub names_item : (bag name id rest : List ℕ) → behind_front (item_front bag) name ≡ Some rest → bytes_eq rest id ≡ bytes_eq (item_name bag id) name
names_item bag name id rest is =
    let whole = behind_front-whole (item_front bag) name rest is in
    same_bools (bytes_eq rest id) (bytes_eq (item_name bag id) name)
    (λ same. (bytes_decides (item_name bag id) name).1 (ap (λ t. item_front bag ++ t) (sym ((bytes_decides rest id).0 same)) ∙ sym whole))
    (λ same. (bytes_decides rest id).1 (behind-same (item_front bag) rest id (sym whole ∙ sym ((bytes_decides (item_name bag id) name).0 same))))

-- where nothing stands behind its bag, it is that of no item
pub names_no_item : (bag name id : List ℕ) → behind_front (item_front bag) name ≡ None → bytes_eq (item_name bag id) name ≡ false
names_no_item bag name id none =
    same_bools (bytes_eq (item_name bag id) name) false
    (λ same. cc (sym none ∙ behind_front-of (item_front bag) name id (sym ((bytes_decides (item_name bag id) name).0 same))))
    (λ absurdly. cc absurdly)

-- a text behind a front is compared as it is
pub cmp-behind : (front a b : List ℕ) → slice_cmp nat_cmp (front ++ a) (front ++ b) ≡ slice_cmp nat_cmp a b
cmp-behind [] a b = refl
cmp-behind (x ∷ front) a b =
    ap (λ r. ordering_then r (slice_cmp nat_cmp (front ++ a) (front ++ b))) (tied_itself nat_cmp_total x) ∙ cmp-behind front a b

-- a text below all others has a rest below all of theirs
below_rests : (front : List ℕ) (text rest : List ℕ) (texts : List (List ℕ)) → text ≡ front ++ rest
    → AllByRecursion (λ y. slice_cmp nat_cmp text y ≡ Less) texts
    → AllByRecursion (λ y. slice_cmp nat_cmp rest y ≡ Less) (filter_map (behind_front front) texts)
below_rests front text rest [] whole all = tt
below_rests front text rest (y ∷ ys) whole all =
    let left = below_rests front text rest ys whole all.1 in
    elim (behind_front front y) as (λ r. behind_front front y ≡ r → AllByRecursion (λ z. slice_cmp nat_cmp rest z ≡ Less) (cons_option r (filter_map (behind_front front) ys))) [
      | None ↦ λ is. left
      | Some z ↦ λ is. (sym (cmp-behind front rest z) ∙ ap (λ t. slice_cmp nat_cmp t (front ++ z)) (sym whole) ∙ ap (slice_cmp nat_cmp text) (sym (behind_front-whole front y z is)) ∙ all.0, left)
    ] refl

-- what stands behind a front in names in order is in order
pub rests-order : (front : List ℕ) (names : List (List ℕ)) → InOrder names → InOrder (filter_map (behind_front front) names)
unfolding IsStrictlySortedBy
rests-order front [] order = tt
rests-order front (x ∷ xs) order =
    let left = rests-order front xs order.1 in
    elim (behind_front front x) as (λ r. behind_front front x ≡ r → InOrder (cons_option r (filter_map (behind_front front) xs))) [
      | None ↦ λ is. left
      | Some z ↦ λ is. (below_rests front x z xs (behind_front-whole front x z is) order.0, left)
    ] refl

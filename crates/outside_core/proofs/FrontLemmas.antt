-- What stands behind the front of a name.
use Rattle.std.proofs.Common.{◌≡◌, ℕ, true, false, List, ◌++◌, length, take, drop, Option, Some, None, MatchOption, nat_eq, if◌then◌else◌, sym, ap, subst, refl, ◌∙◌, codes, option_copied, append_assoc}
use Rattle.std.specs.Borrow.{Bor}
use Rattle.std.specs.Cmp.Lexicographic.{bytes_decides}
use Rattle.std.specs.List.{starts_with}
use Rattle.std.specs.Str.{IsCharBoundary}
use Rattle.std.specs.Str.Pattern.{FindsTextPrefix, StripsPrefix}
use Rattle.std.proofs.Math.Seq.{take-append_seam, drop-append_seam}
use Rattle.std.proofs.lemmas.List.{take-append-drop}
use Rattle.std.proofs.lemmas.Str.Pattern.{starts_text}
use Rattle.outside_core.specs.Disk.{folder_front}
use Rattle.outside_core.specs.Listing.{behind_front}

-- `strip_prefix` at a text
pub behind_front-strip : (n s : List ℕ) (r : Option (Bor (List ℕ)))
    → MatchOption r (FindsTextPrefix n s None) (λ x. StripsPrefix (FindsTextPrefix n) s x.now) → option_copied r ≡ behind_front n s
behind_front-strip n s None none = rw (sym (starts_text false n s none)) refl
behind_front-strip n s (Some x) (k, finds, is, fits) =
    let B : ℕ → Type 0 = λ j. IsCharBoundary s j in
    let starts = starts_text true n s (k, finds, subst B (sym finds.0) finds.2) in
    rw (sym starts, is, finds.0) refl

-- a text that begins with a front is the front and what follows
starts-whole : (front text : List ℕ) → starts_with nat_eq text front ≡ true → text ≡ front ++ drop (length front) text
starts-whole front text begins =
    sym (take-append-drop (length front) text)
    ∙ ap (λ t. t ++ drop (length front) text) (sym ((bytes_decides front (take (length front) text)).0 begins))

-- it is the front and the rest
pub behind_front-whole : (front text rest : List ℕ) → behind_front front text ≡ Some rest → text ≡ front ++ rest
behind_front-whole front text rest is =
    elim (starts_with nat_eq text front) as (λ b. starts_with nat_eq text front ≡ b → (if b then Some (drop (length front) text) else None) ≡ Some rest → text ≡ front ++ rest) [
      | true ↦ λ begins found. starts-whole front text begins ∙ ap (λ t. front ++ t) (cc found)
      | false ↦ λ begins found. cc found
    ] refl is

-- behind a front stands what follows it
behind_front-joined : (front rest : List ℕ) → behind_front front (front ++ rest) ≡ Some rest
behind_front-joined front rest =
    let begins : starts_with nat_eq (front ++ rest) front ≡ true = (bytes_decides front (take (length front) (front ++ rest))).1 (sym (take-append_seam front rest)) in
    ap (λ b. if b then Some (drop (length front) (front ++ rest)) else None) begins
    ∙ ap (λ t. Some t) (drop-append_seam front rest)

pub behind_front-of : (front text rest : List ℕ) → text ≡ front ++ rest → behind_front front text ≡ Some rest
behind_front-of front text rest whole = ap (behind_front front) whole ∙ behind_front-joined front rest

some-same : {X : Type 0} (x y : X) → Some x ≡ Some y → x ≡ y
some-same x y same = cc same

-- what follows a front is one text
pub behind-same : (front a b : List ℕ) → front ++ a ≡ front ++ b → a ≡ b
behind-same front a b same = some-same a b (sym (behind_front-joined front a) ∙ ap (behind_front front) same ∙ behind_front-joined front b)

-- two answers that are found alike are the same
same_options : {X : Type 0} (a b : Option X) → ((x : X) → a ≡ Some x → b ≡ Some x) → ((x : X) → b ≡ Some x → a ≡ Some x) → a ≡ b
same_options None None f g = refl
same_options None (Some y) f g = g y refl
same_options (Some x) b f g = sym (f x refl)

-- what stands behind the folder and then behind the slash stands behind both
pub behind-parts : (folder whole rest : List ℕ) → behind_front folder whole ≡ Some rest → behind_front (codes "/") rest ≡ behind_front (folder_front folder) whole
behind-parts folder whole rest is =
    let parts = behind_front-whole folder whole rest is in
    same_options (behind_front (codes "/") rest) (behind_front (folder_front folder) whole)
    (λ name found. behind_front-of (folder_front folder) whole name (parts ∙ ap (λ t. folder ++ t) (behind_front-whole (codes "/") rest name found) ∙ sym (append_assoc folder (codes "/") name)))
    (λ name found. behind_front-of (codes "/") rest name (behind-same folder rest (codes "/" ++ name) (sym parts ∙ behind_front-whole (folder_front folder) whole name found ∙ append_assoc folder (codes "/") name)))

pub behind-nothing : (folder whole : List ℕ) → behind_front folder whole ≡ None → behind_front (folder_front folder) whole ≡ None
behind-nothing folder whole none =
    same_options (behind_front (folder_front folder) whole) None
    (λ name found. cc (sym none ∙ behind_front-of folder whole (codes "/" ++ name) (behind_front-whole (folder_front folder) whole name found ∙ append_assoc folder (codes "/") name)))
    (λ name found. cc found)

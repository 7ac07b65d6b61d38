-- The replies at their places, while the history grows.
use Rattle.std.proofs.Common.{◌≡◌, ℕ, zero, suc, List, [], ◌∷◌, ◌++◌, length, Some, refl, sym, ap, ◌∙◌, subst, slice_get}
use Rattle.std.specs.Option.{unwrap_or}
use Rattle.turn_book.specs.Histories.{StartsWith}
use Rattle.turn_book.specs.Counts.{times}
use Rattle.turn_book.specs.Callers.{Known, ended, Closes, both_of}
use Rattle.turn_tests.specs.declared.accounts.Deposit.{Deposit}
use Rattle.turn_tests.specs.declared.accounts.Account.{Account}
use Rattle.turn_tests.specs.Deposits.{deposit}
use Rattle.turn_tests.specs.Accounts.{StandsFor, Answers, AtPlaces, DepositedByTwo}

get_more : (h m : List Deposit) (i : ℕ) (d : Deposit) → slice_get h i ≡ Some d → slice_get (h ++ m) i ≡ Some d
get_more [] m i d e = absurd (cc)
get_more (x ∷ h) m zero d e = e
get_more (x ∷ h) m (suc i) d e = get_more h m i d e

get_last : (h : List Deposit) (d : Deposit) → slice_get (h ++ d ∷ []) (length h) ≡ Some d
get_last [] d = refl
get_last (x ∷ h) d = get_last h d

-- what has its place keeps it
placed_more : (h m : List Deposit) (a : ℕ) (places replies : List ℕ) → AtPlaces h a places replies → AtPlaces (h ++ m) a places replies
placed_more h m a [] [] p = tt
placed_more h m a [] (r ∷ rs) p = p
placed_more h m a (x ∷ xs) [] p = p
placed_more h m a (x ∷ xs) (r ∷ rs) p = (get_more h m x (deposit a r) p.0, placed_more h m a xs rs p.1)

pub placed_in : (long h : List Deposit) (a : ℕ) (places replies : List ℕ) → StartsWith long h → AtPlaces h a places replies → AtPlaces long a places replies
placed_in long h a places replies starts p = subst (λ (l : List Deposit). AtPlaces l a places replies) (sym starts.1) (placed_more h starts.0 a places replies p)

placed_behind : (h : List Deposit) (a : ℕ) (places replies : List ℕ) (place reply : ℕ) → AtPlaces h a places replies → slice_get h place ≡ Some (deposit a reply) → AtPlaces h a (places ++ place ∷ []) (replies ++ reply ∷ [])
placed_behind h a [] [] place reply p e = (e, tt)
placed_behind h a [] (r ∷ rs) place reply p e = absurd p
placed_behind h a (x ∷ xs) [] place reply p e = absurd p
placed_behind h a (x ∷ xs) (r ∷ rs) place reply p e = (p.0, placed_behind h a xs rs place reply p.1 e)

-- one deposit more is at its place
pub placed_next : (before after : Known Deposit ℕ) (a reply : ℕ) (replies more : List ℕ) → AtPlaces before.seen a before.mine replies → Answers before a reply after → more ≡ replies ++ reply ∷ [] → AtPlaces after.seen a after.mine more
placed_next before after a reply replies more p answer is =
    let d : Deposit = deposit a reply in let h : List Deposit = answer.history in
    let now : AtPlaces (h ++ d ∷ []) a before.mine replies = placed_more h (d ∷ []) a before.mine replies (placed_in h before.seen a before.mine replies answer.begins p) in
    let all : AtPlaces (h ++ d ∷ []) a (before.mine ++ length h ∷ []) (replies ++ reply ∷ []) = placed_behind (h ++ d ∷ []) a before.mine replies (length h) reply now (get_last h d) in
    subst (λ (l : List ℕ). AtPlaces after.seen a after.mine l) (sym is) (subst (λ (k : Known Deposit ℕ). AtPlaces k.seen a k.mine (replies ++ reply ∷ [])) (sym answer.after_is) all)

pub placed_still : (before after : Known Deposit ℕ) (a : ℕ) (replies : List ℕ) → AtPlaces before.seen a before.mine replies → after ≡ ended before → AtPlaces after.seen a after.mine replies
placed_still before after a replies p e = subst (λ (k : Known Deposit ℕ). AtPlaces k.seen a k.mine replies) (sym e) p

some_is : {a b : ℕ} → Some a ≡ Some b → a ≡ b
some_is {a} {b} e = ap (λ o. unwrap_or o a) e

-- at the end each thread's replies are at their places of the one history
pub deposited : (opened first second : ℕ) (replies others : List ℕ) (account : Account) (one two all : Known Deposit ℕ) → one.opened ≡ Some opened → AtPlaces one.seen first one.mine replies → AtPlaces two.seen second two.mine others
    → all ≡ both_of one two → StartsWith all.seen one.seen × StartsWith all.seen two.seen → Closes StandsFor all account → DepositedByTwo opened first second replies others account
deposited opened first second replies others account one two all was p q is later closes =
    let h : List Deposit = closes.history in
    let whole : StartsWith h all.seen = closes.one_history.begins in
    let mine : all.mine ≡ one.mine ++ two.mine = ap (λ (k : Known Deposit ℕ). k.mine) is in
    let from : Some closes.one_history.stood.0 ≡ Some opened = sym closes.one_history.stood.1 ∙ ap (λ (k : Known Deposit ℕ). k.opened) is ∙ was in record {
      history = h;
      stands = subst (λ (o : ℕ). StandsFor o h account) (some_is from) closes.one_history.stood.2;
      places = one.mine;
      other_places = two.mine;
      first_placed = placed_in h all.seen first one.mine replies whole (placed_in all.seen one.seen first one.mine replies later.0 p);
      second_placed = placed_in h all.seen second two.mine others whole (placed_in all.seen two.seen second two.mine others later.1 q);
      each_once = λ place. ap (times place) (sym mine) ∙ closes.places_are place;
    }

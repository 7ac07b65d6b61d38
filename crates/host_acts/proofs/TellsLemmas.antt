-- What is said of a host that may tell, from call to call.
use Rattle.std.proofs.Common.{◌≡◌, Option, Some, None, option_map, Result, Ok, Err, IfOk, OnOk, sym, subst}
use Rattle.host_tree.specs.Entries.{Entries}
use Rattle.host_tree.specs.Told.{Told, Tells}

-- what follows of a told host follows of one that may tell
pub told_map : (P Q : Entries → Type 0) → ((h : Entries) → P h → Q h) → (a : Option Entries) → Told a P → Told a Q
told_map P Q f None p = tt
told_map P Q f (Some h) p = f h p

pub told_both : (P Q : Entries → Type 0) (a : Option Entries) → Told a P → Told a Q → Told a (λ h. P h × Q h)
told_both P Q None p q = tt
told_both P Q (Some h) p q = (p, q)

pub told_two : (P Q R : Entries → Type 0) → ((h : Entries) → P h → Q h → R h) → (a : Option Entries) → Told a P → Told a Q → Told a R
told_two P Q R f None p q = tt
told_two P Q R f (Some h) p q = f h p q

pub told_three : (P Q R S : Entries → Type 0) → ((h : Entries) → P h → Q h → R h → S h) → (a : Option Entries) → Told a P → Told a Q → Told a R → Told a S
told_three P Q R S f None p q r = tt
told_three P Q R S f (Some h) p q r = f h p q r

-- the host stays, and of what it tells something is known
pub tells_stays : (P : Entries → Type 0) (R : Entries → Entries → Type 0) → ((h : Entries) → P h → R h h) → (a b : Option Entries) → Told a P → b ≡ a → Tells R a b
tells_stays P R f a b p same = subst (λ (o : Option Entries). Tells R a o) (sym same) (here a p)
  where
    here : (o : Option Entries) → Told o P → Tells R o o
    here None q = tt
    here (Some h) q = f h q

-- the host became what a function makes of it
pub tells_of : (P : Entries → Type 0) (R : Entries → Entries → Type 0) (make : Entries → Entries) → ((h : Entries) → P h → R h (make h)) → (a b : Option Entries) → Told a P → b ≡ option_map make a → Tells R a b
tells_of P R make f a b p is = subst (λ (o : Option Entries). Tells R a o) (sym is) (here a p)
  where
    here : (o : Option Entries) → Told o P → Tells R o (option_map make o)
    here None q = tt
    here (Some h) q = f h q

-- what follows of a change
pub tells_map : (P : Entries → Type 0) (R S : Entries → Entries → Type 0) → ((h n : Entries) → P h → R h n → S h n) → (a b : Option Entries) → Told a P → Tells R a b → Tells S a b
tells_map P R S f None None p r = tt
tells_map P R S f None (Some n) p r = absurd r
tells_map P R S f (Some h) None p r = absurd r
tells_map P R S f (Some h) (Some n) p r = f h n p r

-- one change after another
pub tells_then : (P : Entries → Type 0) (R S T : Entries → Entries → Type 0) → ((h m n : Entries) → P h → R h m → S m n → T h n) → (a b c : Option Entries) → Told a P → Tells R a b → Tells S b c → Tells T a c
tells_then P R S T f None None None p r s = tt
tells_then P R S T f None None (Some n) p r s = absurd s
tells_then P R S T f None (Some m) c p r s = absurd r
tells_then P R S T f (Some h) None c p r s = absurd r
tells_then P R S T f (Some h) (Some m) None p r s = absurd s
tells_then P R S T f (Some h) (Some m) (Some n) p r s = f h m n p r s

-- what is known of a host after a change
pub told_then : (P : Entries → Type 0) (R : Entries → Entries → Type 0) (Q : Entries → Type 0) → ((h n : Entries) → P h → R h n → Q n) → (a b : Option Entries) → Told a P → Tells R a b → Told b Q
told_then P R Q f None None p r = tt
told_then P R Q f None (Some n) p r = absurd r
told_then P R Q f (Some h) None p r = absurd r
told_then P R Q f (Some h) (Some n) p r = f h n p r

-- ---- a call's result

pub on_ok : {T E : Type 0} (P Q : Type 0) (r : Result T E) → (P → Q) → OnOk r P → OnOk r Q
on_ok P Q (Ok x) f p = f p
on_ok P Q (Err e) f p = p

-- a call that went well made the host so
pub on_ok_made : {T E : Type 0} (P : Entries → Type 0) (R : Entries → Entries → Type 0) (make : Entries → Entries) → ((h : Entries) → P h → R h (make h)) → (a b : Option Entries) (r : Result T E)
    → Told a P → OnOk r (b ≡ option_map make a) → OnOk r (Tells R a b)
on_ok_made P R make f a b r p ok = on_ok (b ≡ option_map make a) (Tells R a b) r (λ is. tells_of P R make f a b p is) ok

-- the same behind another change
pub on_ok_then_made : {T E : Type 0} (P : Entries → Type 0) (R S : Entries → Entries → Type 0) (make : Entries → Entries) → ((h m : Entries) → P h → R h m → S h (make m)) → (a b c : Option Entries) (r : Result T E)
    → Told a P → Tells R a b → OnOk r (c ≡ option_map make b) → OnOk r (Tells S a c)
on_ok_then_made P R S make f a b c r p before ok = on_ok (c ≡ option_map make b) (Tells S a c) r (λ is. subst (λ (o : Option Entries). Tells S a o) (sym is) (both a b p before)) ok
  where
    both : (x y : Option Entries) → Told x P → Tells R x y → Tells S x (option_map make y)
    both None None q t = tt
    both None (Some m) q t = absurd t
    both (Some h) None q t = absurd t
    both (Some h) (Some m) q t = f h m q t

pub if_ok : {T E : Type 0} (P Q : T → Type 0) (r : Result T E) → ((x : T) → P x → Q x) → IfOk r P → IfOk r Q
if_ok P Q (Ok x) f p = f x p
if_ok P Q (Err e) f p = p

-- What steps gave that were done.
use Rattle.std.proofs.Common.{◌≡◌, ℕ, Bool, true, false, List, Result, Ok, Err, refl, ap}
use Rattle.cookbook_meta.specs.Faults.{then_do, keep_if, in_field, inside}
use Rattle.cookbook_meta.specs.declared.fault.Flaw.{Flaw}
use Rattle.cookbook_meta.specs.declared.fault.MetaFault.{MetaFault}

abbrev pub from_ok : {A F : Type 0} → A → Result A F → A
from_ok other (Ok x) = x
from_ok other (Err f) = other

abbrev pub ok_of : {A : Type 0} (F : Type 0) → A → Result A F
ok_of F x = Ok x

pub same_ok : {A : Type 0} (F : Type 0) (x y : A) → ok_of F x ≡ ok_of F y → x ≡ y
same_ok F x y e = ap (from_ok x) e

-- behind a step that was done the next one was
pub then_done : {A B F : Type 0} (r : Result A F) (next : A → Result B F) (y : B) → then_do r next ≡ Ok y → (x : A) × (r ≡ Ok x) × (next x ≡ Ok y)
then_done (Ok x) next y is = (x, refl, is)
then_done (Err f) next y is = cc

-- and a step that was done leads to the next
pub then_is : {A B F : Type 0} (r : Result A F) (next : A → Result B F) (x : A) → r ≡ Ok x → then_do r next ≡ next x
then_is r next x is = ap (λ q. then_do q next) is

pub field_done : {A : Type 0} (field : List ℕ) (r : Result A Flaw) (x : A) → in_field field r ≡ Ok x → r ≡ Ok x
field_done field (Ok y) x is = ap Ok (same_ok MetaFault y x is)
field_done field (Err f) x is = cc

pub field_is : {A : Type 0} (field : List ℕ) (r : Result A Flaw) (x : A) → r ≡ Ok x → in_field field r ≡ Ok x
field_is field r x is = ap (in_field field) is

pub inside_done : {A : Type 0} (r : Result A MetaFault) (x : A) → inside r ≡ Ok x → r ≡ Ok x
inside_done (Ok y) x is = ap Ok (same_ok Flaw y x is)
inside_done (Err f) x is = cc

pub inside_is : {A : Type 0} (r : Result A MetaFault) (x : A) → r ≡ Ok x → inside r ≡ Ok x
inside_is r x is = ap inside is

-- what was kept passed the test
pub kept : {A : Type 0} (test : Bool) (x : A) (f : Flaw) (y : A) → keep_if test x f ≡ Ok y → (test ≡ true) × (x ≡ y)
kept true x f y is = (refl, same_ok Flaw x y is)
kept false x f y is = cc

pub keeps : {A : Type 0} (test : Bool) (x : A) (f : Flaw) → test ≡ true → keep_if test x f ≡ Ok x
keeps test x f is = ap (λ b. keep_if b x f) is

-- What an organisation holds after a change of its parts.
use Rattle.std.proofs.Common.{◌≡◌, ◌==◌, true, false, cond, ℕ, ◌+◌, ◌^◌, ◌<◌, List, [], ◌∷◌, ◌++◌, Option, Some, unwrap_or, decimal, sym, ap, subst, ◌∙◌, arith}
use Rattle.std.specs.FinMap as finite
use Rattle.std.proofs.lemmas.Bool.Decides.{nat_tests}
use Rattle.sandboxes.specs.Checksums.{checksum_of}
use Rattle.sandboxes.specs.Sums.{Sums}
use Rattle.sandboxes.specs.Sandboxes.{Holding, Stock, Sandboxes, begun, has_file, with_file, with_committed, committed}

-- a number that 64 bits hold isn't past them
not_past : (n : ℕ) → n < 2 ^ 64 → (n == 2 ^ 64) ≡ false
not_past n below = grind (arith, nat_tests)

-- a sandbox is begun, once the count rose
pub begun_next : (org : List ℕ) (sums : Sums) (holding : Holding) (n : ℕ) (sandboxes : Sandboxes) → n ≡ holding.count + 1 → n < 2 ^ 64
    → sandboxes ≡ finite.insert holding.sandboxes (checksum_of (org ++ 10 ∷ decimal n)) sums
    → ◌≡◌ {A = Holding} (record { files = holding.files; sandboxes = sandboxes; count = n }) (begun org sums holding)
begun_next org sums holding n sandboxes next below is =
    let at : (holding.count + 1 == 2 ^ 64) ≡ false = not_past (holding.count + 1) (subst (λ m. m < 2 ^ 64) next below) in
    (λ i. record { files = holding.files; sandboxes = (is ∙ ap (λ m. finite.insert holding.sandboxes (checksum_of (org ++ 10 ∷ decimal m)) sums) next) i; count = next i })
    ∙ ap (λ b. cond b holding (record { files = holding.files; sandboxes = finite.insert holding.sandboxes (checksum_of (org ++ 10 ∷ decimal (holding.count + 1))) sums; count = holding.count + 1 })) (sym at)

-- a file is kept where none of its checksum is there
pub with_file_new : (sum file : List ℕ) (holding : Holding) (files : Stock) → has_file holding sum ≡ false
    → files ≡ finite.insert holding.files sum (record { file = file; committed = false })
    → ◌≡◌ {A = Holding} (record { files = files; sandboxes = holding.sandboxes; count = holding.count }) (with_file sum file holding)
with_file_new sum file holding files absent is =
    (λ i. record { files = is i; sandboxes = holding.sandboxes; count = holding.count })
    ∙ ap (λ b. cond b holding (record { files = finite.insert holding.files sum (record { file = file; committed = false }); sandboxes = holding.sandboxes; count = holding.count })) (sym absent)

-- and stays where one is
pub with_file_there : (sum file : List ℕ) (holding : Holding) → has_file holding sum ≡ true → holding ≡ with_file sum file holding
with_file_there sum file holding there =
    ap (λ b. cond b holding (record { files = finite.insert holding.files sum (record { file = file; committed = false }); sandboxes = holding.sandboxes; count = holding.count })) (sym there)

-- a sandbox is committed
pub committed_to : (id : List ℕ) (sums : Sums) (holding : Holding) (files : Stock) (sandboxes : Sandboxes) → finite.get holding.sandboxes id ≡ Some sums
    → files ≡ with_committed sums holding.files → sandboxes ≡ finite.remove holding.sandboxes id
    → ◌≡◌ {A = Holding} (record { files = files; sandboxes = sandboxes; count = holding.count }) (committed id holding)
committed_to id sums holding files sandboxes there is left =
    (λ i. record { files = is i; sandboxes = left i; count = holding.count })
    ∙ ap (λ (found : Option Sums). record { files = with_committed (unwrap_or found []) holding.files; sandboxes = finite.remove holding.sandboxes id; count = holding.count }) (sym there)

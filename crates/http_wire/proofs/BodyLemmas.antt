-- What one more piece of a body leaves of the stream.
use Rattle.std.proofs.Common.{◌≡◌, ℕ, ◌+◌, ◌-◌, ◌≤◌, List, ◌++◌, length, take, drop, sym, ap, ◌∙◌, arith, length-append, take-append-drop}
use Rattle.std.proofs.lemmas.List.{length-take-le}
use Rattle.std.specs.declared.option.Option.{Option}
use Rattle.std.specs.Io.KnownBytes.{prepend_known}
use Rattle.http_wire.proofs.RoomLemmas.{prepend_known-append}

-- the piece is missing no more
pub piece_counted : (done held : List ℕ) (n missing size : ℕ) → n ≤ missing → n ≤ length held → length done + missing ≡ size
    → length (done ++ take n held) + (missing - n) ≡ size
piece_counted done held n missing size within some whole =
    omega (arith, length-append done (take n held), length-take-le n held some)

-- the piece left the stream behind what was done
pub piece_taken : (done held : List ℕ) (n : ℕ) (old left : Option (List ℕ))
    → old ≡ prepend_known done (prepend_known held left)
    → old ≡ prepend_known (done ++ take n held) (prepend_known (drop n held) left)
piece_taken done held n old left e =
    e ∙ ap (λ xs. prepend_known done (prepend_known xs left)) (sym (take-append-drop n held))
    ∙ ap (prepend_known done) (prepend_known-append (take n held) (drop n held) left)
    ∙ sym (prepend_known-append done (take n held) (prepend_known (drop n held) left))

-- Which streams begin with no message, where a room holds their front.
use Rattle.std.proofs.Common.{◌≡◌, ◌≢◌, ℕ, ◌+◌, ◌-◌, ◌<◌, List, [], ◌∷◌, ◌++◌, length, None, Some, sym, ap, ◌∙◌, subst, arith, length-append, append-nil}
use Rattle.std.specs.declared.option.Option.{Option}
use Rattle.std.specs.Io.KnownBytes.{prepend_known, IsAtEnd}
use Rattle.httparse.specs.Grammar.{HasNoRequest, print_request, RequestHead}
use Rattle.httparse.specs.Spans.{RequestOverflows}
use Rattle.http_wire.specs.Message.{Message, BeginsNone, last_place, NoneBegins, print_message}
use Rattle.http_wire.specs.Faults.{NoneBeginsIn}
use Rattle.http_wire.proofs.MessageLemmas.{overlong, overflowing, headless}

-- bytes that are there are some
pub some_bytes : (xs : List ℕ) → 0 < length xs → xs ≢ []
some_bytes [] lt e = omega arith
some_bytes (x ∷ xs) lt e = cc

-- no message begins where none does, whatever follows what is held
pub none_in : (place : ℕ) (held : List ℕ) (left : Option (List ℕ)) → 0 < length held
    → ((more : List ℕ) → BeginsNone (last_place - place) (held ++ more)) → NoneBeginsIn place (prepend_known held left)
none_in place held None some none = tt
none_in place held (Some more) some none =
    (some_bytes (held ++ more) (omega (arith, length-append held more)), none more)

-- no message begins where the room is full and holds no head
pub none_in_full : (place : ℕ) (held : List ℕ) (left : Option (List ℕ)) → length held ≡ 16384
    → HasNoRequest held → NoneBeginsIn place (prepend_known held left)
none_in_full place held left full none =
    none_in place held left (omega arith) (λ more. overlong (last_place - place) held more none (omega arith))

-- no message begins where each head has too many headers
pub none_in_overflow : (place : ℕ) (held : List ℕ) (left : Option (List ℕ)) → 0 < length held
    → RequestOverflows 64 held → NoneBeginsIn place (prepend_known held left)
none_in_overflow place held left some over =
    none_in place held left some (λ more. overflowing (last_place - place) held more over)

-- no message begins where the source is at its end and the room holds no head
pub none_at_end : (place : ℕ) (held : List ℕ) (left : Option (List ℕ)) → 0 < length held → IsAtEnd left
    → HasNoRequest held → NoneBeginsIn place (prepend_known held left)
none_at_end place held None some end none = tt
none_at_end place held (Some more) some end none =
    subst (NoneBegins place) (sym (append-nil held) ∙ ap (λ xs. held ++ xs) (sym end))
    (some_bytes held some, headless (last_place - place) held none)

-- a head has bytes
pub print_request-some : (h : RequestHead) → 0 < length (print_request h)
unfolding print_request
print_request-some h = simp length-append (omega arith)

-- a message has bytes
pub print_message-some : (m : Message) → 0 < length (print_message m)
print_message-some m = omega (arith, length-append (print_request m.head) m.body, print_request-some m.head)

-- nothing begins with no message
pub BeginsNone-nil : (limit : ℕ) → BeginsNone limit []
BeginsNone-nil limit m rest b =
    let e : 0 ≡ length (print_message m) + length rest = ap length b.whole ∙ length-append (print_message m) rest in
    omega (arith, print_message-some m)

-- where a stream is at its end, so is its source
pub IsAtEnd-behind : (held : List ℕ) (left : Option (List ℕ)) → IsAtEnd (prepend_known held left) → IsAtEnd left
IsAtEnd-behind held None end = tt
IsAtEnd-behind [] (Some more) end = end
IsAtEnd-behind (b ∷ held) (Some more) end = absurd (cc)

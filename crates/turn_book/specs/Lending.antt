-- What the value that is out is after a write through `state`.
use Rattle.std.specs.Borrow.{Lends, MutBor, Fml}
use denote.RattleType.{RattleType}
use Rattle.turn_book.specs.contracts.callers.Out.{the_row}

-- what was written is the value that is out
abbrev pub LendsValue : (R : RattleType) → MutBor R.Denot → MutBor R.Denot → Fml
LendsValue R s r = Lends (the_row R) R s r (λ written. written)

-- A turn whose value is lent.
use Rattle.std.specs.Borrow.{Lends, MutBor, Fml}
use denote.RattleType.{RattleType}
use Rattle.store_lock.specs.declared.turn.Turn.{Turn}
use Rattle.store_lock.specs.contracts.turn.Turn.{the_row}

-- the turn, with this value
abbrev pub with_value : {V : Type 0} → Turn V → V → Turn V
with_value t v = record t { value = v }

-- the turn ends with the value that was last written through `lent`
abbrev pub LendsValue : (R : RattleType) → MutBor (Turn R.Denot) → MutBor R.Denot → Fml
LendsValue R t lent = Lends (the_row R) R t lent (with_value t.now)

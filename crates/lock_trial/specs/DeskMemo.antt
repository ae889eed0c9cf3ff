-- The memo of a desk is the code of the whole of it.
use Rattle.std.specs.Prelude.{◌≡◌}
use Rattle.std.proofs.Common.{ap}
use base.Stored.{Gv}
use Rattle.store_lock.specs.Alike.{AreAlike}
use Rattle.store_lock.specs.Memo.{memo_of, memo_of-injective}
use Rattle.lock_trial.specs.DeskValue.{DeskValue, desk_entries, desk_label, desk_lent}
use Rattle.lock_trial.specs.contracts.desk.Desk.{the_row}

unfoldable pub desk_memo : DeskValue → Gv
desk_memo d = memo_of the_row.coded d

pub desk_memo_tells : (x y : DeskValue) → desk_memo x ≡ desk_memo y → AreAlike desk_entries desk_label desk_lent x y
unfolding desk_memo
desk_memo_tells x y same =
    let is = memo_of-injective the_row.coded x y same in
    record { entries_are = ap desk_entries is; fixed_is = ap desk_label is; lent_is = λ k. ap (λ d. desk_lent d k) is }

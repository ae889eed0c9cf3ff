-- The memo of a world is the code of its whole history.
use Rattle.std.specs.Prelude.{◌≡◌}
use Rattle.std.proofs.Common.{ap}
use base.Stored.{Gv}
use Rattle.store_lock.specs.Alike.{AreAlike}
use Rattle.store_lock.specs.Memo.{memo_of, memo_of-injective}
use Rattle.al_core.specs.History.{History}
use Rattle.al_core.specs.Sharing.{world_entries, terms_of, world_lent}
use Rattle.al_core.specs.contracts.world.World.{the_row}

unfoldable pub world_memo : History → Gv
world_memo h = memo_of the_row.coded h

pub world_memo_tells : (x y : History) → world_memo x ≡ world_memo y → AreAlike world_entries terms_of world_lent x y
unfolding world_memo
world_memo_tells x y same =
    let is = memo_of-injective the_row.coded x y same in
    record { entries_are = ap world_entries is; fixed_is = ap terms_of is; lent_is = λ k. ap (λ h. world_lent h k) is }

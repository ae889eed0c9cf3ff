-- A memo for an impl of `Kept`: the code of the whole value, or of as much of it as the lock speaks of.
-- It does not unfold, since the code of a large type is a long term.
use Rattle.std.specs.Prelude.{◌≡◌}
use base.Stored.{Gv, Coded}

unfoldable pub memo_of : {A : Type 0} → Coded A → A → Gv
memo_of coded x = coded.code x

pub memo_of-injective : {A : Type 0} (coded : Coded A) (x y : A) → memo_of coded x ≡ memo_of coded y → x ≡ y
unfolding memo_of
memo_of-injective coded x y same = coded.inj x y same

-- One channel changed.
use Rattle.std.proofs.Common.{◌≡◌, ℕ, zero, suc, ◌-◌, ◌<◌, ◌≤◌, List, [], ◌∷◌, length, get_or, set, refl, sym, ap, ap₂, ◌∙◌, arith, Some, slice_get}
use Rattle.std.proofs.lemmas.Option.{same_Some, get_or_from_slice_get}
use Rattle.al_world.specs.Channels.{Channel, channel, with_channel, changed_at}

-- a number of a channel that is there
there_below : (chs : List Channel) (k : ℕ) (ch : Channel) → slice_get chs k ≡ Some ch → k < length chs
there_below [] k ch e = absurd (cc)
there_below (x ∷ xs) zero ch e = omega arith
there_below (x ∷ xs) (suc k) ch e = let lt = there_below xs k ch e in omega (arith, lt)

pub channel_below : (chs : List Channel) (c : ℕ) (ch : Channel) → channel chs c ≡ Some ch → (0 < c) × (c ≤ length chs)
channel_below chs zero ch e = absurd (cc)
channel_below chs (suc k) ch e = let lt = there_below chs k ch e in (omega arith, omega (arith, lt))

set_place : (chs : List Channel) (k : ℕ) (f : Channel → Channel) (ch : Channel) → slice_get chs k ≡ Some ch → set chs k (f ch) ≡ changed_at k f chs
set_place [] k f ch e = absurd (cc)
set_place (y ∷ ys) zero f ch e = ap (λ z. f z ∷ ys) (sym (same_Some y ch e))
set_place (y ∷ ys) (suc k) f ch e = ap (λ l. y ∷ l) (set_place ys k f ch e)

-- what a read of a channel gives
pub read_channel : (chs : List Channel) (c : ℕ) (ch d : Channel) → channel chs c ≡ Some ch → get_or chs (c - 1) d ≡ ch
read_channel chs zero ch d e = absurd (cc)
read_channel chs (suc k) ch d e = let place : suc k - 1 ≡ k = omega arith in ap (λ i. get_or chs i d) place ∙ get_or_from_slice_get chs k ch d e

-- a channel written in its place
pub set_channel : (chs : List Channel) (c : ℕ) (f : Channel → Channel) (ch d new : Channel) → channel chs c ≡ Some ch → new ≡ f (get_or chs (c - 1) d) → set chs (c - 1) new ≡ with_channel c f chs
set_channel chs zero f ch d new e n = absurd (cc)
set_channel chs (suc k) f ch d new e n =
    let place : suc k - 1 ≡ k = omega arith in
    ap₂ (λ i y. set chs i y) place (n ∙ ap f (read_channel chs (suc k) ch d e)) ∙ set_place chs k f ch e

-- a change of one channel leaves how many there are
length-changed : (k : ℕ) (f : Channel → Channel) (chs : List Channel) → length (changed_at k f chs) ≡ length chs
length-changed k f [] = refl
length-changed zero f (x ∷ xs) = refl
length-changed (suc k) f (x ∷ xs) = ap suc (length-changed k f xs)

pub length-with_channel : (c : ℕ) (f : Channel → Channel) (chs : List Channel) → length (with_channel c f chs) ≡ length chs
length-with_channel zero f chs = refl
length-with_channel (suc k) f chs = length-changed k f chs

-- a number of a channel that was made
pub channel_there : (chs : List Channel) (c : ℕ) → 0 < c → c ≤ length chs → (ch : Channel) × (channel chs c ≡ Some ch)
channel_there chs zero some le = absurd (omega arith)
channel_there chs (suc k) some le = at chs k (omega arith)
  where
    at : (chs : List Channel) (k : ℕ) → k < length chs → (ch : Channel) × (slice_get chs k ≡ Some ch)
    at [] k lt = absurd (omega arith)
    at (x ∷ xs) zero lt = (x, refl)
    at (x ∷ xs) (suc k) lt = at xs k (omega arith)

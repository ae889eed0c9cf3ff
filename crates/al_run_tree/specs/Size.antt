-- How high a balanced tree may be.
use Rattle.std.specs.Prelude.{ℕ, zero, suc, ◌+◌}

abbrev pub next : ℕ × ℕ → ℕ × ℕ
next (a, b) = (b, 1 + a + b)

-- the least numbers of blocks in a balanced tree of a height, and of one more
unfoldable pub least_two : ℕ → ℕ × ℕ
least_two zero = (0, 1)
least_two (suc h) = next (least_two h)

-- the least number of blocks in a balanced tree of a height
unfoldable pub least_size : ℕ → ℕ
least_size h = (least_two h).0

-- A region: its size, its live blocks, and what is always true of them.
use Rattle.std.specs.Prelude.{◌≡◌, ℕ, ◌+◌, ◌%◌, ◌<◌, ◌≤◌, List, [], ◌∷◌, length}
use Rattle.al_event.specs.Store.{Span, region_base, most_blocks}

-- how many bytes a region has, and its live blocks in the order of their places
pub record Area : Type 0 where
  pub bytes : ℕ
  pub blocks : List Span

-- a whole number of mebibytes, from 1 to 256
pub record IsRegionSize (bytes : ℕ) : Type 0 where
  pub whole : bytes % 0x100000 ≡ 0
  pub least : 0x100000 ≤ bytes
  pub most : bytes ≤ 0x10000000

-- the blocks lie one after another from the one address to the other, each at a multiple of 8, and none is empty
abbrev pub IsLaid : ℕ → List Span → ℕ → Type 0
IsLaid from [] end = from ≤ end
IsLaid from (b ∷ bs) end = (from ≤ b.at) × (b.at % 8 ≡ 0) × (0 < b.size) × IsLaid (b.at + b.size) bs end

-- the blocks lie one after another from the region's base on
pub record AreLaid (blocks : List Span) : Type 0 where
  pub end : ℕ
  pub laid : IsLaid region_base blocks end

-- what is true of each region
pub record IsSound (r : Area) : Type 0 where
  pub sized : IsRegionSize r.bytes
  pub laid : IsLaid region_base r.blocks (region_base + r.bytes)
  pub few : length r.blocks ≤ most_blocks

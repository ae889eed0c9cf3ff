-- Where the blocks of globals and strings stand in the first world of a program, and when there is room for them.
use Rattle.std.specs.Prelude.{◌≡◌, ℕ, ◌+◌, ◌%◌, ◌≤◌, ◌⊎◌, ◌↔◌, false, List, [], ◌∷◌, ◌++◌, replicate, length, take, drop, Some, None, option_map, slice_get, Ok}
use Rattle.std.specs.List.{AllByRecursion}
use Rattle.al_event.specs.declared.act.Block.TheVariants.{Global as GlobalBlock}
use Rattle.al_event.specs.Store.{Live, region_base, most_blocks, spans_of, bytes_of, number_of, load}
use Rattle.al_region.specs.Region.{IsLaid}
use Rattle.al_world.specs.World.{World}
use Rattle.al_typed.specs.declared.program.Global.{Global}
use Rattle.al_typed.specs.declared.program.StartValue.{StartValue}
use Rattle.al_typed.specs.declared.program.Program.{Program}
use Rattle.al_typed.specs.Layout.{size_of}
use Rattle.al_typed.specs.Sound.{HasSoundTypes}
use Rattle.al_meaning.specs.Places.{block_sizes, block_place, shared_before, global_place, global_bytes, start_number, text_place, opening_blocks}
use Rattle.al_meaning.specs.Items.{Address}
use Rattle.al_meaning.specs.Evaluate.{global_found}
use Rattle.al_meaning.specs.Meaning.{run, source}

-- the block of a global or string that begins there
abbrev pub block_at : ℕ → List ℕ → Live
block_at at bytes = record { at = at; kind = GlobalBlock; bytes = bytes }

-- these bytes stand from there on: an access to n of them, from the i-th on, reads them, where n divides its address
abbrev pub Reads : List Live → ℕ → List ℕ → Type 0
Reads store at bytes =
    (i n : ℕ) → 1 ≤ n → i + n ≤ length bytes → (at + i) % n ≡ 0 → load store (at + i) n ≡ Ok (number_of (take n (drop i bytes)))

-- a start value has none of the n bytes from there on
abbrev pub IsElsewhere : ℕ → ℕ → StartValue → Type 0
IsElsewhere at n v = (v.at + v.size ≤ at) ⊎ (at + n ≤ v.at)

-- What a global starts with: as many bytes as its type has, each start value where no later one lies over it, and 0 where there is none.
pub record IsStarted (p : Program) (g : Global) : Type 0 where
  pub size : length (global_bytes p g) ≡ size_of p.aggregates g.ty
  pub values : (before after : List StartValue) (v : StartValue) → g.start ≡ before ++ v ∷ after → AllByRecursion (IsElsewhere v.at v.size) after → take v.size (drop v.at (global_bytes p g)) ≡ bytes_of v.size (start_number p v.word)
  pub zeros : (at n : ℕ) → at + n ≤ size_of p.aggregates g.ty → AllByRecursion (IsElsewhere at n) g.start → take n (drop at (global_bytes p g)) ≡ replicate n 0

-- What stands in the store of a first world.
pub record Stand (p : Program) (region : ℕ) (store : List Live) : Type 0 where
  -- each block at its place, those of shared globals before those of strings, and no other
  pub blocks : (n : ℕ) → slice_get store n ≡ option_map (block_at (block_place p n)) (slice_get (opening_blocks p) n)
  -- a shared global, where the meaning finds it by its name
  pub found : (number : ℕ) (g : Global) → slice_get p.globals number ≡ Some g → g.is_private ≡ false → global_found p number ≡ Address (global_place p number)
  pub globals : (number : ℕ) (g : Global) → slice_get p.globals number ≡ Some g → g.is_private ≡ false → slice_get store (shared_before p number) ≡ Some (block_at (global_place p number) (global_bytes p g))
  pub globals_read : (number : ℕ) (g : Global) → slice_get p.globals number ≡ Some g → g.is_private ≡ false → Reads store (global_place p number) (global_bytes p g)
  pub globals_start : (number : ℕ) (g : Global) → slice_get p.globals number ≡ Some g → IsStarted p g
  -- a string, where its constant points to, with a 0 behind it
  pub strings : (number : ℕ) (text : List ℕ) → slice_get p.strings number ≡ Some text → slice_get store (shared_before p (length p.globals) + number) ≡ Some (block_at (text_place p number) (text ++ 0 ∷ []))
  pub strings_read : (number : ℕ) (text : List ℕ) → slice_get p.strings number ≡ Some text → Reads store (text_place p number) (text ++ 0 ∷ [])
  -- one behind the other, within the region
  pub apart : IsLaid region_base (spans_of store) (region_base + region)

-- In the first world, unless it is over, they stand so.
abbrev pub BlocksStand : Type 0
BlocksStand =
    (p : Program) (region : ℕ) (w : World (source p)) → HasSoundTypes p → run p region [] ≡ Some w → w.shared.over ≡ None → Stand p region w.shared.store

-- The region has room: there are not too many blocks, and none ends behind it.
pub record HaveRoom (p : Program) (region : ℕ) : Type 0 where
  pub few : length (block_sizes p) ≤ most_blocks
  pub within : (n size : ℕ) → slice_get (block_sizes p) n ≡ Some size → block_place p n + size ≤ region_base + region

-- The first world is over exactly where it has no room.
abbrev pub OpensWhereRoom : Type 0
OpensWhereRoom =
    (p : Program) (region : ℕ) (w : World (source p)) → HasSoundTypes p → run p region [] ≡ Some w → (w.shared.over ≡ None) ↔ HaveRoom p region

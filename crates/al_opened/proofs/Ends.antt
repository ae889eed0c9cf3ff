-- Where the blocks of a program have room in a region, they end below 2^32.
use Rattle.std.proofs.Common.{◌≡◌, ℕ, suc, ◌+◌, ◌<◌, ◌≤◌, ◌^◌, List, [], ◌∷◌, take, Some, refl, arith}
use Rattle.std.specs.Prelude.{fold, slice_get}
use Rattle.std.proofs.lemmas.Grind.{div_ceil_times}
use Rattle.al_event.specs.declared.entry.Entry.{Entry}
use Rattle.al_event.specs.Store.{region_base}
use Rattle.al_world.specs.Step.{opening}
use Rattle.al_world.specs.World.{World}
use Rattle.al_typed.specs.declared.program.Program.{Program}
use Rattle.al_typed.specs.Sound.{HasSoundTypes}
use Rattle.al_meaning.specs.Meaning.{main_start, source}
use Rattle.al_meaning.specs.Places.{behind, block_sizes, opening_blocks}
use Rattle.al_lowering.specs.Addresses.{blocks_end}
use Rattle.al_opens.specs.Standing.{HaveRoom}
use Rattle.al_opens.proofs.Standing.{opens_where_room}
use Rattle.al_opened.specs.Opened.{IsGoing}
use Rattle.al_opened.proofs.Closed.{was_going}

-- a block ends at most 7 bytes before the next one may begin
next_near : (at size : ℕ) → behind at size ≤ at + size + 7
next_near at size = let over = div_ceil_times size 8 (omega arith) in omega (arith, over.1)

-- blocks of which none ends behind the top end at most 7 bytes behind it
ends : (sizes : List ℕ) (at top : ℕ) → at ≤ top + 7 → ((n size : ℕ) → slice_get sizes n ≡ Some size → fold behind at (take n sizes) + size ≤ top) → fold behind at sizes ≤ top + 7
ends [] at top low within = low
ends (size ∷ sizes) at top low within =
    ends sizes (behind at size) top (let here : at + size ≤ top = within 0 size refl in omega (arith, here, next_near at size)) (λ n s e. within (suc n) s e)

module _ (p : Program) where
  pub end_is : (region : ℕ) → HaveRoom p region → region ≤ 2 ^ 28 → blocks_end p < 2 ^ 32
  end_is region room low =
      let end : blocks_end p ≤ region_base + region + 7 = ends (block_sizes p) region_base (region_base + region) (omega arith) room.within in
      omega (arith, end)

  -- where its run goes, the region has room
  pub has_room : HasSoundTypes p → (region : ℕ) (h : List Entry) (w : World (source p)) → IsGoing p region h w → HaveRoom p region
  has_room sound region h w g =
      let first : World (source p) = opening (source p) region (opening_blocks p) (main_start p) in
      (opens_where_room p sound region first refl).0 (was_going (source p) h first w g.runs g.goes)

-- A store as it is seen: its blocks hold the bytes of one memory, which begins where the region does.
use Rattle.std.specs.Prelude.{◌≡◌, ℕ, ◌+◌, ◌-◌, ◌%◌, ◌≤◌, ◌⊎◌, if◌then◌else◌, ◌==◌, List, [], ◌∷◌, map, length, take, drop, replicate, ◌++◌, Option, Some, None, Result, Ok, Err}
use Rattle.al_base.specs.declared.trap.Trap.{Trap}
use Rattle.al_base.specs.declared.trap.Trap.TheVariants.{Fault, Align}
use Rattle.al_event.specs.Store.{Span, Live, region_base, hit, overwritten}

-- how many bytes the region has, and the live blocks in the order of their places
pub record Contents : Type 0 where
  pub region : ℕ
  pub blocks : List Live

-- an access has 1, 2 or 4 bytes
abbrev pub IsWidth : ℕ → Type 0
IsWidth n = (n ≡ 1) ⊎ ((n ≡ 2) ⊎ (n ≡ 4))

-- a block with its bytes
abbrev pub live_of : List ℕ → Span → Live
live_of memory b = record { at = b.at; kind = b.kind; bytes = take b.size (drop (b.at - region_base) memory) }

abbrev pub lives_of : List ℕ → List Span → List Live
lives_of memory spans = map (live_of memory) spans

-- each block lies in the memory
abbrev pub AreHeld : List ℕ → List Span → Type 0
AreHeld memory [] = Unit {0}
AreHeld memory (b ∷ bs) = (region_base ≤ b.at) × (b.at + b.size ≤ region_base + length memory) × AreHeld memory bs

-- where in the memory an access lies, or its trap
abbrev pub lies_at : ℕ → Option Span → Result ℕ Trap
lies_at at None = Err Fault
lies_at at (Some b) = Ok (at - region_base)

abbrev pub access : List Span → ℕ → ℕ → Result ℕ Trap
access spans at n = if at % n == 0 then lies_at at (hit spans at n) else Err Align

-- the memory up to an address, with these bytes from there on
abbrev pub written : List ℕ → ℕ → List ℕ → List ℕ
written memory from bytes = overwritten (memory ++ replicate (from + length bytes - length memory) 0) from bytes

-- with n zeros from there on
abbrev pub cleared : List ℕ → ℕ → ℕ → List ℕ
cleared memory from n = overwritten (memory ++ replicate (from + n - length memory) 0) from (replicate n 0)

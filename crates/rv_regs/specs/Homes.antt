-- What code may rest on of the homes of a function's slots.
use Rattle.std.specs.Prelude.{◌≡◌, ◌≢◌, ℕ, ◌<◌, ◌≤◌, ◌⊎◌, Bool, true, List, Contains, Option, Some, None, slice_get}
use Rattle.al_ir.specs.declared.ir.Operation.{Operation}
use Rattle.al_ir.specs.declared.ir.Ir.{Ir}
use Rattle.al_ir.specs.Control.{operation_at, function_at, arguments_of}
use Rattle.rv_code.specs.Homes.{Apart}
use Rattle.rv_code.specs.declared.home.Home.{Home}
use Rattle.rv_code.specs.declared.home.Home.TheVariants.{Frame, Saved}
use Rattle.rv_regs.specs.Uses.{IsIn, reads, writes, surely_writes, in_frame, comes_next, calls}

-- a slot in its own word of the frame, or in one of registers 18 to 27
abbrev pub IsHomeOf : ℕ → Home → Type 0
IsHomeOf t (Frame k) = k ≡ t
IsHomeOf t (Saved r) = (18 ≤ r) × (r ≤ 27)

-- Slots are live before an operation where their words may still be read: `live` holds of those that an operation reads, and of
-- those that are live behind it and that it does not surely write.
pub record IsLiveness (ir : Ir) (function : ℕ) (live : (pc t : ℕ) → Bool) : Type 0 where
  pub read : (pc t : ℕ) (o : Operation) → operation_at ir function pc ≡ Some o → IsIn t (reads ir o.op) → live pc t ≡ true
  pub kept : (pc next t : ℕ) (o : Operation) → operation_at ir function pc ≡ Some o → Contains (comes_next pc o.op) next → live next t ≡ true
      → IsIn t (surely_writes ir o.op) ⊎ (live pc t ≡ true)

-- Slots that are live together have homes apart; what an operation writes has a home apart from all others that are live behind it;
-- and no register is live across a call.
pub record AreHomes (ir : Ir) (function : ℕ) (home : ℕ → Home) : Type 0 where
  pub own : (t : ℕ) → IsHomeOf t (home t)
  pub found_by_address : (pc t : ℕ) (o : Operation) → operation_at ir function pc ≡ Some o → IsIn t (in_frame ir o.op) → home t ≡ Frame t
  pub live : (pc t : ℕ) → Bool
  pub is_liveness : IsLiveness ir function live
  -- all arguments come to their homes at a function's start, and those that are live keep them
  pub arguments_apart : (t u : ℕ) → t < arguments_of (function_at ir function) → u < arguments_of (function_at ir function) → live 0 t ≡ true → t ≢ u → Apart (home t) (home u)
  pub apart : (pc t u : ℕ) → live pc t ≡ true → live pc u ≡ true → t ≢ u → Apart (home t) (home u)
  pub written_apart : (pc next t u : ℕ) (o : Operation) → operation_at ir function pc ≡ Some o → Contains (comes_next pc o.op) next
      → IsIn t (writes ir o.op) → live next u ≡ true → t ≢ u → Apart (home t) (home u)
  pub across_calls : (pc next t : ℕ) (o : Operation) → operation_at ir function pc ≡ Some o → calls o.op → Contains (comes_next pc o.op) next
      → live next t ≡ true → home t ≡ Frame t

-- ---- lists of homes

abbrev pub home_or_own : Option Home → (t : ℕ) → Home
home_or_own (Some home) t = home
home_or_own None t = Frame t

-- a slot past the end has its own word of the frame
abbrev pub home_at : List Home → (t : ℕ) → Home
home_at homes t = home_or_own (slice_get homes t) t

-- each slot has its own word, or a register
abbrev pub AreOwn : List Home → Type 0
AreOwn homes = (t : ℕ) → IsHomeOf t (home_at homes t)

-- Ten registers, where each is taken, and how a slot gets one.
use Rattle.std.specs.Prelude.{◌≡◌, ℕ, ◌+◌, ◌-◌, ◌/◌, ◌<◌, ◌≤◌, Bool, true, false, List, [], length, slice_index_or, slice_set}
use Rattle.al_ir.specs.declared.ir.Function.{Function}
use Rattle.al_ir.specs.declared.ir.Ir.{Ir}
use Rattle.rv_code.specs.declared.home.Home.{Home}
use Rattle.rv_code.specs.declared.home.Home.TheVariants.{Frame, Saved}
use Rattle.rv_regs.specs.Marks.{all_agree, are_clear, busy_of, IsJoin}

-- where register 18 + k is taken
abbrev pub row : List (List Bool) → ℕ → List Bool
row taken k = slice_index_or taken k []

-- register 18 + k is free wherever it is to be busy, and taken there from now on
pub record Takes (k : ℕ) (busy : List Bool) (old new : List (List Bool)) : Type 0 where
  pub below : k < 10
  pub clear : are_clear (row old k) 0 busy ≡ true
  pub joined : List Bool
  pub is_join : IsJoin (row old k) busy joined
  pub new_is : new ≡ slice_set old k joined

-- each register is taken somewhere where it would be busy
abbrev pub AreTaken : (taken : List (List Bool)) (busy : List Bool) → Type 0
AreTaken taken busy = (k : ℕ) → k < length taken → are_clear (row taken k) 0 busy ≡ false

-- Slots that are not arguments get their own word only where no marks agree or all registers are taken. Past a number, which is
-- the lower the more operations there are, slots are not looked at.
abbrev pub MayStay : (ir : Ir) (f : Function) (slot : ℕ) (old : List (List Bool)) → Type 0
MayStay ir f slot old =
    (given : List Bool) → all_agree ir slot given 0 f.code ≡ true → f.arguments ≤ slot → slot ≤ 4194304 / (length f.code + 1) → AreTaken old (busy_of ir f slot given)

-- a slot gets a register, for some marks with which all operations of the function agree
pub record GetsRegister (ir : Ir) (f : Function) (slot : ℕ) (old new : List (List Bool)) (r : ℕ) : Type 0 where
  pub live : List Bool
  pub agree : all_agree ir slot live 0 f.code ≡ true
  pub from : 18 ≤ r
  pub takes : Takes (r - 18) (busy_of ir f slot live) old new

-- a slot gets a register, or its own word
abbrev pub Gets : (ir : Ir) (f : Function) (slot : ℕ) (old new : List (List Bool)) → Home → Type 0
Gets ir f slot old new (Frame k) = (k ≡ slot) × (new ≡ old) × MayStay ir f slot old
Gets ir f slot old new (Saved r) = GetsRegister ir f slot old new r

-- ten rows without a mark
abbrev pub AreEmpty : List (List Bool) → Type 0
AreEmpty taken = (length taken ≡ 10) × ((k : ℕ) → row taken k ≡ [])

-- Programs whose types are sound. A run of such a program needs no number that has no room in a word, whatever its names lead to.
use Rattle.std.specs.Prelude.{◌≡◌, ℕ, ◌+◌, ◌<◌, ◌≤◌, ◌^◌, nat_le, true, List, [], map, length, All, Some, slice_get}
use Rattle.al_typed.specs.declared.program.Aggregate.{Aggregate as AggregateRow}
use Rattle.al_typed.specs.declared.program.Function.{Function as FunctionRow}
use Rattle.al_typed.specs.declared.program.Global.{Global as GlobalRow}
use Rattle.al_typed.specs.declared.program.Local.{Local as LocalRow}
use Rattle.al_typed.specs.declared.program.Program.{Program}
use Rattle.al_typed.specs.Layout.{IsLaidOut, in_order, layout, members_of}
use Rattle.al_typed.specs.WellTyped.{IsStatement, Names, Nest, Scope, Starts, any_names, is_sound, is_stored, no_labels, shared_types}

-- any names that have sound types, in a program with these types, strings and functions
abbrev pub names_of : Program → Names
names_of p = any_names p.aggregates (length p.strings) (length p.functions)

abbrev pub scope_of : Program → ℕ → Scope
scope_of p iterators = record { names = names_of p; iterators = iterators }

-- where the body of a function stands: in nothing
abbrev pub outermost : Nest
outermost = record { number = 0; breaks = 0; loops = 0; labels = no_labels }

-- Its variables are stored, its shared locals together have at most 2^28 bytes, and the terms of its body are well typed among any names
-- of sound types.
pub record IsSoundFunction (p : Program) (f : FunctionRow) : Type 0 where
  pub locals : All (λ (l : LocalRow). is_stored p.aggregates l.ty ≡ true) f.locals
  pub returns : is_sound p.aggregates f.returns ≡ true
  pub shared : nat_le (in_order (map (layout p.aggregates) (shared_types f.locals))).size (2 ^ 28) ≡ true
  pub body : IsStatement (scope_of p 0) outermost f.body

-- Each start value stands at a unit of the global.
pub record IsSoundGlobal (p : Program) (g : GlobalRow) : Type 0 where
  pub stored : is_stored p.aggregates g.ty ≡ true
  pub starts : All (Starts p g) g.start

-- a union has a member, so a value of a complete type has a byte
abbrev pub UnionsHaveMembers : Program → Type 0
UnionsHaveMembers p = (k : ℕ) (a : AggregateRow) → slice_get p.aggregates k ≡ Some a → a.is_union ≡ true → a.members ≡ Some [] → ⊥

pub record HasSoundTypes (p : Program) : Type 0 where
  pub laid_out : IsLaidOut p.aggregates
  pub members : (k : ℕ) (a : AggregateRow) → slice_get p.aggregates k ≡ Some a → All (λ t. is_stored p.aggregates t ≡ true) (members_of (Some a))
  pub small : (k : ℕ) (a : AggregateRow) → slice_get p.aggregates k ≡ Some a → a.size ≤ 2 ^ 28
  pub unions : UnionsHaveMembers p
  pub globals : All (IsSoundGlobal p) p.globals
  pub functions : All (IsSoundFunction p) p.functions

-- so few globals and strings, and none so long, that the places of their blocks are numbers of 64 bits
pub record IsShort (p : Program) : Type 0 where
  pub globals : length p.globals ≤ 2 ^ 28
  pub texts : length p.strings ≤ 2 ^ 28
  pub strings : All (λ (s : List ℕ). length s + 1 < 2 ^ 32) p.strings

-- The globals of a text that the typing rules accept, and the elements of the channel types that it names.
use Rattle.std.specs.Prelude.{◌≡◌, ℕ, ◌<◌, ◌≤◌, true, All, AllPairs, List, [], length, Some, slice_get}
use Rattle.al_tree.specs.declared.item.Tree.{Tree}
use Rattle.al_rules.specs.Outcome.{Good}
use Rattle.al_scope.specs.declared.declaration.Scopes.{Scopes}
use Rattle.al_scope.specs.Items.{resolved}
use Rattle.al_typed.specs.declared.program.Function.{Function}
use Rattle.al_typed.specs.declared.program.Global.{Global}
use Rattle.al_typed.specs.declared.program.Local.{Local}
use Rattle.al_typed.specs.declared.program.StartValue.{StartValue}
use Rattle.al_typed.specs.declared.program.Aggregate.{Aggregate}
use Rattle.al_typed.specs.Types.{may_be_private}
use Rattle.al_typed.specs.WellTyped.{is_sound, is_stored}
use Rattle.al_poly.specs.declared.instance.Instance.{Instance}
use Rattle.al_declare.specs.declared.function.Defined.{Defined}
use Rattle.al_environment.specs.declared.environment.Environment.{Environment}
use Rattle.al_environment.specs.declared.environment.Variable.{Variable}
use Rattle.al_environment.specs.Lookups.{global}
use Rattle.al_build_environment.specs.Whole.{environment}
use Rattle.al_initial.specs.declared.globals.Initial.{Initial}
use Rattle.al_initial.specs.Whole.{initial}
use Rattle.al_bodies.specs.declared.found.Bodies.{Bodies}
use Rattle.al_bodies.specs.Bodies.{bodies}
use Rattle.al_elements.specs.Named.{elements}
use Rattle.al_tree_places.specs.Entries.{IsFound}

-- the variables of a row are stored, and it returns a sound type
pub record HasSoundVariables (rows : List Aggregate) (f : Function) : Type 0 where
  pub locals : All (λ (l : Local). is_stored rows l.ty ≡ true) f.locals
  pub returns : is_sound rows f.returns ≡ true

-- what is asked of a global beside its type and the units of its starts
pub record IsGood (g : Global) : Type 0 where
  pub is_private : g.is_private ≡ true → (may_be_private g.ty ≡ true) × (g.start ≡ [])
  pub ascending : AllPairs (λ (a b : StartValue). a.at < b.at) g.start

-- a global has the number by which it is found
abbrev pub HaveNumbers : Environment → Type 0
HaveNumbers env = (n : ℕ) (v : Variable) → global env n ≡ Some v → v.number ≡ n

-- the row of that number is of its type, and private where it is
abbrev pub HaveRows : Environment → Initial → Type 0
HaveRows env i = (n : ℕ) (v : Variable) → global env n ≡ Some v → (g : Global) × ((slice_get i.globals n ≡ Some g) × ((g.ty ≡ v.ty) × (g.is_private ≡ v.is_private)))

pub record AreGlobals (env : Environment) (i : Initial) (b : Bodies) : Type 0 where
  pub numbers : length env.globals ≤ 4294967296 → HaveNumbers env
  pub rows : HaveRows env i
  pub globals : All IsGood i.globals
  pub elements : All (λ t. is_stored env.aggregates t ≡ true) (elements env b.functions i.types b.types)

-- of a text whose names are found at their places, and whose functions have rows of sound types
abbrev pub GlobalsAreTyped : Type 0
GlobalsAreTyped = (tree : Tree) (is : List Instance) (scopes : Scopes) (env : Environment) (i : Initial) (ds : List Defined) (texts : ℕ) (b : Bodies)
    → IsFound tree scopes → resolved tree ≡ Good scopes → environment tree is scopes ≡ Good env → initial env tree ≡ Good i → bodies env tree ds texts ≡ Good b
    → All (HasSoundVariables env.aggregates) b.functions → AreGlobals env i b

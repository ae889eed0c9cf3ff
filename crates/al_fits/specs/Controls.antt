-- What is known of the controls of a program of sound types: each term in them is well typed among any names of sound types,
-- and each type in them is as small as the work with it needs.
use Rattle.std.specs.Prelude.{◌≡◌, ℕ, ◌+◌, ◌<◌, ◌≤◌, ◌^◌, List, [], ◌∷◌, length, Option, Some, None, ⊤, ◌⊎◌}
use Rattle.std.specs.List.{AllByRecursion}
use Rattle.al_event.specs.declared.act.Act.{Act}
use Rattle.al_world.specs.Control.{fitted}
use Rattle.al_world.specs.Turns.{Moves, Turns, Asks}
use Rattle.al_typed.specs.declared.ty.Ty.{out-Ty, Ty}
use Rattle.al_typed.specs.declared.program.Function.{Function as FunctionRow}
use Rattle.al_typed.specs.declared.program.Program.{Program}
use Rattle.al_typed.specs.declared.statement.TStmt.{TStmt, Empty, Block', Declare, Value, If', Switch', Case, Default, Alt', AltCase, Par, Raise, Goto, Return, Become, Break, Continue, Alloc, Unalloc, Check, Proc, Task, Held-TStmt-If-3, Row_of-TStmt, end_of-TStmt, more_of-TStmt}
use Rattle.al_typed.specs.declared.statement.TStmt as stmt
use Rattle.al_typed.specs.StatementForms as part
use Rattle.al_typed.specs.WellTyped.{Scope, Nest, IsValue, IsPlace, IsTarget, IsStatement}
use Rattle.al_typed.specs.Sound.{scope_of}
use Rattle.al_meaning.specs.Places.{block_place, block_sizes, function_at}
use Rattle.al_meaning.specs.Items.{Found, Work, Eval, Find, Aim, AndThen, OrElse, Part, Read, Look, Fetch, Fetched, Save, Put, Write, Assign, Update, Step, Clear, PassPlace, PassPointer, PassPart, Scanned, Receives, Received, Sends, Allocate, Do, Choose, WhileTest, WhileAgain, DoCondition, DoTest, ForCondition, ForTest, ForNext, ForAgain, Bound, Iterate, NextTurn, Select, AltTalk, AltWent, Item, Frame, Entering, Control}
use Rattle.al_meaning.specs.Here.{Next, pointee, size_in}
use Rattle.al_meaning.specs.Evaluate.{leaves_of}
use Rattle.al_meaning.specs.Meaning.{resume}
use Rattle.al_store.specs.Memory.{IsWidth}
use Rattle.al_script.specs.Scripts.{IsSized}
use Rattle.al_script.specs.Worlds.{branches_in}
use Rattle.al_typed.specs.declared.layout.Unit.{Unit}
use Rattle.al_typed.specs.declared.ty.Ty.TheOpen.{Ty-F}
use Rattle.al_control_values.specs.Fits.{IsSmall}
use Rattle.al_control.specs.Fits.{PartFits}
use Rattle.al_walk_places.specs.Fits.{ChangeFits}
use Rattle.al_walk_actions.specs.Fits.{AllocationFits, ByteFits}

-- ---- programs

-- each statement with iterators has so few that a word has room for the number of their bounds
abbrev mutual
  pub HasFewIterators : TStmt → Type 0
  HasFewIterators (Block' _ _ body) = HaveFewIterators body
  HasFewIterators (Value _ iterators _) = length iterators < 2 ^ 62
  HasFewIterators (part.label _ _ body) = HasFewIterators body
  HasFewIterators (If' _ _ _ (more_of-TStmt body end_of-TStmt) other) = HasFewIterators body × OtherHasFewIterators other
  HasFewIterators (part.while_loop _ _ body) = HasFewIterators body
  HasFewIterators (part.do_loop _ body _) = HasFewIterators body
  HasFewIterators (part.for_loop _ _ _ _ body) = HasFewIterators body
  HasFewIterators (Switch' _ _ _ body) = HaveFewIterators body
  HasFewIterators (Alt' _ _ body) = HaveFewIterators body
  HasFewIterators (part.rescue _ _ body) = HasFewIterators body
  HasFewIterators _ = ⊤

  pub OtherHasFewIterators : Held-TStmt-If-3 → Type 0
  OtherHasFewIterators stmt.None' = ⊤
  OtherHasFewIterators (stmt.Some' _ (more_of-TStmt other end_of-TStmt)) = HasFewIterators other

  pub HaveFewIterators : {m : _} → Row_of-TStmt m → Type 0
  HaveFewIterators end_of-TStmt = ⊤
  HaveFewIterators (more_of-TStmt a rest) = HasFewIterators a × HaveFewIterators rest

-- What the measures of a program, and a first world in a region of at most 256 MiB, give: the blocks at the start lie below
-- 2^32, the values of functions' names are words, and statements have few iterators.
pub record HasRoom (p : Program) : Type 0 where
  pub blocks : (n : ℕ) → n ≤ length (block_sizes p) → block_place p n < 2 ^ 32
  pub functions : length p.functions ≤ 65536
  pub iterators : (number : ℕ) (f : FunctionRow) → function_at p number ≡ Some f → HasFewIterators f.body

-- ---- work

-- it holds among any names of sound types, in a statement with some number of iterators
pub record In (p : Program) (T : Scope → Type 0) : Type 0 where
  pub iterators : ℕ
  pub term : T (scope_of p iterators)

-- a statement that stands somewhere in a body
abbrev pub Stands : TStmt → Scope → Type 0
Stands s scope = (n : Nest) × (IsStatement scope n s × HasFewIterators s)

abbrev pub OtherStands : Option TStmt → Scope → Type 0
OtherStands None scope = ⊤
OtherStands (Some s) scope = Stands s scope

-- each access of a value has 1, 2 or 4 bytes
abbrev pub AreUnits : List Unit → Type 0
AreUnits units = AllByRecursion (λ (u : Unit). IsWidth u.size) units

-- a block that is allocated has a byte
abbrev pub AllocatesSome : Program → Ty-F Ty → Type 0
AllocatesSome p (Ty-F.Pointer to) = 0 < size_in p to
AllocatesSome p _ = ⊤

-- What is known of work.
abbrev pub WorkIs : Program → Work → Type 0
WorkIs p (Eval e) = In p (λ s. IsValue s e)
WorkIs p (Find place) = In p (λ s. IsPlace s place)
WorkIs p (Aim target) = In p (λ s. IsTarget s target)
WorkIs p (AndThen right) = In p (λ s. IsValue s right)
WorkIs p (OrElse right) = In p (λ s. IsValue s right)
WorkIs p (Part t path) = PartFits p t path
WorkIs p (Read t) = IsSmall p t
WorkIs p (Look t) = IsSmall p t
WorkIs p (Fetch at units got) = AreUnits units
WorkIs p (Fetched at units got) = AreUnits units
WorkIs p (Save t words place) = IsSmall p t
WorkIs p (Put t) = IsSmall p t
WorkIs p (Write at units words) = AreUnits units
WorkIs p (Assign target) = AllByRecursion (IsSmall p) (leaves_of target)
WorkIs p (Update t change) = IsSmall p t × ChangeFits p t change
WorkIs p (Step t op) = IsSmall p t × IsSmall p (pointee t)
WorkIs p (Clear t) = IsSmall p t
WorkIs p (PassPlace how t offset) = IsSmall p t
WorkIs p (PassPointer how t offset) = IsSmall p t
WorkIs p (PassPart how t path) = PartFits p t path
-- it comes only by an answer, and is done at once
WorkIs p (Scanned at pieces arguments text) = ⊥
WorkIs p (Receives t) = IsSmall p t
WorkIs p (Received t) = IsSmall p t
WorkIs p (Sends t) = IsSmall p t
WorkIs p (Allocate t) = AllocationFits p (out-Ty t) × AllocatesSome p (out-Ty t)
WorkIs p (Do s) = In p (Stands s)
WorkIs p (Choose chosen other) = In p (Stands chosen) × In p (OtherStands other)
WorkIs p (WhileTest s) = In p (Stands s)
WorkIs p (WhileAgain s) = In p (Stands s)
WorkIs p (DoCondition s) = In p (Stands s)
WorkIs p (DoTest s) = In p (Stands s)
WorkIs p (ForCondition s) = In p (Stands s)
WorkIs p (ForTest s) = In p (Stands s)
WorkIs p (ForNext s) = In p (Stands s)
WorkIs p (ForAgain s) = In p (Stands s)
WorkIs p (Bound count value) = (count < 2 ^ 62) × In p (λ s. IsValue s value)
WorkIs p (Iterate number bounds value) = (number + length bounds < 2 ^ 63) × In p (λ s. IsValue s value)
WorkIs p (NextTurn number b rest value) = (number + (1 + length rest) < 2 ^ 63) × In p (λ s. IsValue s value)
WorkIs p (Select s) = In p (Stands s)
WorkIs p (AltTalk s) = In p (Stands s)
WorkIs p (AltWent s) = In p (Stands s)
WorkIs p _ = ⊤

abbrev pub ItemIs : Program → Item → Type 0
ItemIs p i = WorkIs p i.work

-- ---- controls

abbrev pub FrameIs : Program → Frame → Type 0
FrameIs p f = AllByRecursion (ItemIs p) f.items

-- a byte of a text was read just now
abbrev pub IsScanned : List Found → Work → Type 0
IsScanned found (Scanned at pieces arguments text) = ByteFits found
IsScanned found _ = ⊥

-- the innermost frame
abbrev pub TopIs : Program → Frame → List Item → Type 0
TopIs p f [] = ⊤
TopIs p f (i ∷ items) = (ItemIs p i ⊎ IsScanned f.found i.work) × AllByRecursion (ItemIs p) items

abbrev pub FramesAre : Program → Option Entering → List Frame → Type 0
FramesAre p (Some e) frames = AllByRecursion (FrameIs p) frames
FramesAre p None [] = ⊤
FramesAre p None (f ∷ below) = TopIs p f f.items × AllByRecursion (FrameIs p) below

abbrev pub ControlIs : Program → Control → Type 0
ControlIs p c = FramesAre p c.entering c.frames

-- a control that waits for the answer to an action, and goes on with each
abbrev pub WaitIs : Program → Act → Control → Type 0
WaitIs p a c = (words : List ℕ) → ControlIs p (resume c (fitted a words))

-- an action that a task asks: an access of 1, 2 or 4 bytes, a block of 1 byte at least, and few branches of a talk
abbrev pub ActIs : Act → Type 0
ActIs a = IsSized a × (branches_in a ≤ 64)

-- what a private step comes to
abbrev pub NextIs : Program → Next → Type 0
NextIs p (Moves c u) = ControlIs p c
NextIs p (Turns line c u) = ControlIs p c
NextIs p (Asks a line c u) = ActIs a × WaitIs p a c

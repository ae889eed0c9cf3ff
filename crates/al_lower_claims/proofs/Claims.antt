-- What is claimed of the operations of expressions and places.
use Rattle.std.proofs.Common.{◌≡◌, ℕ, ◌+◌, ◌^◌, ◌<◌, ◌≤◌, List, [], ◌∷◌, length, Option, Some, None, ◌⊎◌, arith}
use Rattle.std.specs.Prelude.{⊤, Bool, true, false, if◌then◌else◌, slice_get}
use Rattle.al_typed.specs.declared.ty.Ty.{Ty}
use Rattle.al_typed.specs.declared.program.Global.{Global as GlobalRow}
use Rattle.al_typed.specs.declared.program.Local.{Local as LocalRow}
use Rattle.al_typed.specs.Types.{is_void, is_scalar}
use Rattle.al_typed.specs.Layout.{unit_at}
use Rattle.al_meaning.specs.Words.{sum, integer_words, truth, is_zero}
use Rattle.al_meaning.specs.Places.{private_place, words_in}
use Rattle.al_meaning.specs.Shown.{kind_of}
use Rattle.al_meaning.specs.Here.{units_in}
use Rattle.al_meaning.specs.Items.{Found, Address, Local, Private}
use Rattle.al_meaning.specs.Tasks.{Still, Outcome, Env, Rest, Task, Ways}
use Rattle.al_meaning.specs.Told.{value}
use Rattle.al_ir.specs.declared.ir.Ir.{Ir}
use Rattle.al_ir.specs.declared.ir.Operation.{Operation}
use Rattle.al_ir.specs.Units.{units_at}
use Rattle.al_ir.specs.Control.{Slots, Frame}
use Rattle.al_lowered.specs.Rules.{rules}
use Rattle.al_lower_words.specs.Units.{AreOf}
use Rattle.al_lower_code.specs.Homes.{Spot, first_free}
use Rattle.al_lower_code.specs.Moving.{Where, Stored, Slotted, Kept, layout_number, home_of}
use Rattle.al_lower_code.specs.Coded.{Coded, Placed}
use Rattle.al_lower_steps.specs.Slots.{Holds, HoldsGiven}
use Rattle.al_lower_steps.specs.Site.{Site, HasAt}
use Rattle.al_lower_steps.specs.Given.{GivenOf}
use Rattle.al_lower_steps.proofs.Steps.{Runs}
use Rattle.al_lower_claims.proofs.Homes.{Homes}
use Rattle.al_lower_claims.proofs.Variables.{Scene, home, IsLocal, Vars, Room, IsFree, Stays, Dest, Put}

-- A statement of a function at work above these frames, with so many iterators whose turns stand from a slot on. The layouts of
-- the operations are those of the types that use them.
pub record Setting : Type 0 where
  pub ir : Ir
  pub below : List Frame
  pub ways : Ways
  pub turns : ℕ
  pub iterators : ℕ
  pub homes : Homes ways.program ways.function
  pub above : first_free ways.program ways.function ≤ turns
  pub layouts : (s : Spot) (t : Ty) (n : ℕ) → s.program ≡ ways.program → layout_number s t ≡ Some n → units_at ir n ≡ units_in ways.program t

abbrev pub scene : Setting → Scene
scene k = record { program = k.ways.program; function = k.ways.function; turns = k.turns; iterators = k.iterators; homes = k.homes; above = k.above }

abbrev pub site : Setting → Site
site k = record { ir = k.ir; rules = rules k.ways.program; function = k.ways.function; below = k.below; text = [] }

abbrev pub spot : Setting → Spot
spot k = record { program = k.ways.program; function = k.ways.function; line = k.ways.line; turns = k.turns }

abbrev pub Run : Setting → Outcome → (pc : ℕ) → (slots last : Slots) → Still → Type 0
Run k o pc slots last s = Runs (site k) o pc slots last s

abbrev pub Has : Setting → (pc : ℕ) → List Operation → Type 0
Has k pc ops = HasAt (site k) pc ops

abbrev pub HasVars : Setting → Env → Slots → Type 0
HasVars k env slots = Vars (scene k) env slots

abbrev pub HasRoom : Setting → ℕ → Type 0
HasRoom k to = Room (scene k) to

abbrev pub UnitsOf : Setting → Ty → List ℕ → Type 0
UnitsOf k t v = AreOf (units_in k.ways.program t) v

abbrev pub count_of : Setting → Ty → ℕ
count_of k t = words_in k.ways.program t

-- what an expression gives, a value of its type or nothing
abbrev pub Gave : Setting → Ty → Option (List ℕ) → Type 0
Gave k t o = GivenOf k.ways.program t o

abbrev pub IsTruth : Option (List ℕ) → Type 0
IsTruth None = ⊤
IsTruth (Some v) = (b : Bool) × (v ≡ truth b)

-- what a condition may have: one word or two
pub record IsTest (k : Setting) (t : Ty) : Type 0 where
  pub not_void : is_void t ≡ false
  pub scalar : is_scalar t ≡ true
  pub counts : count_of k t ≡ length (units_in k.ways.program t)
  pub words : (units_in k.ways.program t ≡ unit_at 0 4 ∷ []) ⊎ ((units_in k.ways.program t ≡ unit_at 0 4 ∷ unit_at 4 4 ∷ []) ⊎ ((size : ℕ) × ((units_in k.ways.program t ≡ unit_at 0 size ∷ []) × (size < 4))))

-- a value of one word of 4 bytes, as a pointer is
pub record IsWord (k : Setting) (t : Ty) : Type 0 where
  pub not_void : is_void t ≡ false
  pub scalar : is_scalar t ≡ true
  pub counts : count_of k t ≡ 1
  pub units : units_in k.ways.program t ≡ unit_at 0 4 ∷ []

-- a value of one word, which may be an address: also a byte that is taken for an int
pub record IsAddress (k : Setting) (t : Ty) : Type 0 where
  pub not_void : is_void t ≡ false
  pub scalar : is_scalar t ≡ true
  pub size : ℕ
  pub small : size ≤ 4
  pub units : units_in k.ways.program t ≡ unit_at 0 size ∷ []

pub word_is_address : (k : Setting) (t : Ty) → IsWord k t → IsAddress k t
word_is_address k t w = record { not_void = w.not_void; scalar = w.scalar; size = 4; small = omega arith; units = w.units }

-- ---- expressions

-- how a run goes on behind an expression: there were slots with the variables, and the value was put into some
abbrev pub GoesOn : Setting → Ty → (keeps is_truth : Bool) → Env → Slots → (Option (List ℕ) → Rest) → (dest to end : ℕ) → Type 0
GoesOn k t keeps is_truth env slots next dest to end =
    (o : Option (List ℕ)) (env2 : Env) (s : Still) (was now last : Slots) → Gave k t o → HasVars k env2 was → Stays (scene k) to was slots → Put (count_of k t) dest to now was → HoldsGiven now dest o → (keeps ≡ true → env2 ≡ env) → (is_truth ≡ true → IsTruth o) → Run k (next o env2 s) end now last s

pub record ValueDoes (k : Setting) (m : Task (Option (List ℕ))) (t : Ty) (keeps is_truth : Bool) (code : (dest to : ℕ) → List Operation) : Type 0 where
  pub by : (dest to pc : ℕ) (slots last : Slots) (env : Env) (s : Still) (next : Option (List ℕ) → Rest) → Dest (scene k) (count_of k t) dest to → HasRoom k to → HasVars k env slots → Has k pc (code dest to) → GoesOn k t keeps is_truth env slots next dest to (pc + length (code dest to)) → Run k (m env s next) pc slots last s

-- it is found, and its value stands nowhere
pub record EffectDoes (k : Setting) (m : Task (Option (List ℕ))) (t : Ty) (keeps : Bool) (code : (to : ℕ) → List Operation) : Type 0 where
  pub by : (to pc : ℕ) (slots last : Slots) (env : Env) (s : Still) (next : Option (List ℕ) → Rest) → HasRoom k to → HasVars k env slots → Has k pc (code to) → ((o : Option (List ℕ)) (env2 : Env) (s : Still) (now last : Slots) → Gave k t o → HasVars k env2 now → Stays (scene k) to now slots → (keeps ≡ true → env2 ≡ env) → Run k (next o env2 s) (pc + length (code to)) now last s) → Run k (m env s next) pc slots last s

-- so many operations are left out where it is 0
pub record UnlessDoes (k : Setting) (m : Task (Option (List ℕ))) (t : Ty) (keeps : Bool) (code : (to count : ℕ) → List Operation) : Type 0 where
  pub by : (to count pc : ℕ) (slots last : Slots) (env : Env) (s : Still) (next : List ℕ → Rest) → HasRoom k to → HasVars k env slots → Has k pc (code to count) → ((v : List ℕ) (env2 : Env) (s : Still) (now last : Slots) → UnitsOf k t v → HasVars k env2 now → Stays (scene k) to now slots → (keeps ≡ true → env2 ≡ env) → Run k (next v env2 s) (if is_zero v then pc + length (code to count) + count else pc + length (code to count)) now last s) → Run k (value m env s next) pc slots last s

-- The slot of an address: the first free one; one that has something that no expression changes; or that of a local, which is
-- read at once.
pub data Leads (k : Setting) (lasting : Bool) (slot to : ℕ) : Type 0 where
  own : slot ≡ to → Leads k lasting slot to
  bound : IsFree (scene k) slot → slot < k.turns + k.iterators → Leads k lasting slot to
  variable : (n : ℕ) (l : LocalRow) → lasting ≡ false → IsLocal (scene k) n l → slot ≡ home (scene k) n → length (units_in k.ways.program l.ty) ≡ 1 → Leads k lasting slot to

-- an address that comes to a word in a slot and an offset
pub record PointsBy (k : Setting) (lasting : Bool) (to : ℕ) (now : Slots) (at : Where) (a : ℕ) : Type 0 where
  pub slot : ℕ
  pub offset : ℕ
  pub is : at ≡ Stored slot offset
  pub word : ℕ
  pub there : now slot ≡ Some word
  pub same : (x : ℕ) → sum a x ≡ sum word (sum offset x)
  pub leads : Leads k lasting slot to

pub record PointerDoes (k : Setting) (m : Task (Option (List ℕ))) (t : Ty) (keeps : Bool) (code : (lasting : Bool) → (to : ℕ) → List Operation) (leads : (lasting : Bool) → (to : ℕ) → Where) : Type 0 where
  pub by : (lasting : Bool) (to pc : ℕ) (slots last : Slots) (env : Env) (s : Still) (next : List ℕ → Rest) → HasRoom k to → HasVars k env slots → Has k pc (code lasting to) → ((a : ℕ) (env2 : Env) (s : Still) (now last : Slots) → a < 2 ^ 32 → UnitsOf k t (a ∷ []) → PointsBy k lasting to now (leads lasting to) a → HasVars k env2 now → Stays (scene k) to now slots → (keeps ≡ true → env2 ≡ env) → Run k (next (a ∷ []) env2 s) (pc + length (code lasting to)) now last s) → Run k (value m env s next) pc slots last s

-- a constant
pub record IsKnown (k : Setting) (m : Task (Option (List ℕ))) (t : Ty) (bits : ℕ) : Type 0 where
  pub means : (env : Env) (s : Still) (next : Option (List ℕ) → Rest) → m env s next ≡ next (Some (integer_words (kind_of t) bits)) env s
  pub not_void : is_void t ≡ false
  pub fits : UnitsOf k t (integer_words (kind_of t) bits)

-- it stands in slots of a local or an iterator
pub record IsStanding (k : Setting) (m : Task (Option (List ℕ))) (t : Ty) (slot : ℕ) : Type 0 where
  pub is : Env → List ℕ
  pub means : (env : Env) (s : Still) (next : Option (List ℕ) → Rest) → m env s next ≡ next (Some (is env)) env s
  pub not_void : is_void t ≡ false
  pub fits : (env : Env) (slots : Slots) → HasVars k env slots → UnitsOf k t (is env)
  pub holds : (env : Env) (slots : Slots) → HasVars k env slots → Holds slots slot (is env)
  pub where_is : ((n : ℕ) × ((l : LocalRow) × (IsLocal (scene k) n l × ((slot ≡ home (scene k) n) × (length (units_in k.ways.program l.ty) ≡ length (units_in k.ways.program t)))))) ⊎ ((i : ℕ) × ((i < k.iterators) × ((slot ≡ k.turns + i) × (length (units_in k.ways.program t) ≡ 1))))

pub record CodedDoes (k : Setting) (m : Task (Option (List ℕ))) (t : Ty) (c : Coded) : Type 0 where
  pub value : ValueDoes k m t c.keeps c.is_truth c.value
  pub effect : EffectDoes k m t c.keeps c.effect
  pub unless : IsTest k t → UnlessDoes k m t c.keeps c.unless
  pub pointer : IsAddress k t → PointerDoes k m t c.keeps c.pointer c.leads
  pub stored : IsAddress k t → (lasting : Bool) (to slot : ℕ) → home_of (c.leads lasting to) ≡ Some slot → ⊥
  pub known : (bits : ℕ) → c.known ≡ Some bits → IsKnown k m t bits
  pub stands : (slot : ℕ) → c.stands ≡ Some slot → IsStanding k m t slot

-- ---- places

-- where the operations have what was found
pub data FoundAt (k : Setting) (t : Ty) (lasting : Bool) (to : ℕ) (now : Slots) (at : Where) : Found → Type 0 where
  stored : {a : ℕ} (slot offset word : ℕ) → at ≡ Stored slot offset → now slot ≡ Some word → a ≡ sum word offset → Leads k lasting slot to → FoundAt k t lasting to now at (Address a)
  slotted : {n : ℕ} (l : LocalRow) → IsLocal (scene k) n l → l.ty ≡ t → at ≡ Slotted (home (scene k) n) → FoundAt k t lasting to now at (Local n)
  kept : {n : ℕ} (g : GlobalRow) → slice_get k.ways.program.globals n ≡ Some g → g.is_private ≡ true → g.ty ≡ t → at ≡ Kept (private_place k.ways.program n) → FoundAt k t lasting to now at (Private n)

-- a private local
pub record IsLocalPlace (k : Setting) (m : Task Found) (t : Ty) (pl : Placed) (slot : ℕ) : Type 0 where
  pub number : ℕ
  pub row : LocalRow
  pub local : IsLocal (scene k) number row
  pub type : row.ty ≡ t
  pub is : slot ≡ home (scene k) number
  pub keeps : pl.keeps ≡ true
  pub at : (lasting : Bool) (to : ℕ) → pl.at lasting to ≡ Slotted slot
  pub code : (lasting : Bool) (to : ℕ) → pl.code lasting to ≡ []
  pub means : (env : Env) (s : Still) (next : Found → Rest) → m env s next ≡ next (Local number) env s

pub record PlacedDoes (k : Setting) (m : Task Found) (t : Ty) (pl : Placed) : Type 0 where
  pub by : (lasting : Bool) (to pc : ℕ) (slots last : Slots) (env : Env) (s : Still) (next : Found → Rest) → HasRoom k to → HasVars k env slots → Has k pc (pl.code lasting to) → ((fd : Found) (env2 : Env) (s : Still) (now last : Slots) → FoundAt k t lasting to now (pl.at lasting to) fd → HasVars k env2 now → Stays (scene k) to now slots → (pl.keeps ≡ true → env2 ≡ env) → Run k (next fd env2 s) (pc + length (pl.code lasting to)) now last s) → Run k (m env s next) pc slots last s
  pub local : (lasting : Bool) (to slot : ℕ) → home_of (pl.at lasting to) ≡ Some slot → IsLocalPlace k m t pl slot

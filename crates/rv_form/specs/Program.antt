-- The image of a program of operations.
use Rattle.std.specs.Prelude.{◌≡◌, ℕ, ◌+◌, ◌*◌, ◌^◌, nat_le, nat_lt, if◌then◌else◌, Bool, false, true, List, [], ◌∷◌, ◌++◌, map, length, Option, Some, None, slice_get, slice_index}
use Rattle.std.specs.List.{list_any}
use Rattle.al_ir.specs.declared.ir.Function.{Function}
use Rattle.al_ir.specs.declared.ir.Operation.{Operation}
use Rattle.al_ir.specs.declared.ir.Run.{Run}
use Rattle.al_ir.specs.declared.ir.Global.{Global}
use Rattle.al_ir.specs.declared.ir.StartItem.{StartItem}
use Rattle.al_ir.specs.declared.ir.Ir.{Ir}
use Rattle.al_ir.specs.declared.op.Op.{Op}
use Rattle.al_ir.specs.declared.op.Op.TheVariants.{Long}
use Rattle.al_ir.specs.Control.{function_at, arguments_of, stack_of}
use Rattle.rv_isa.specs.Table.{instruction_of}
use Rattle.rv_isa.specs.declared.instr.Instr.{Instr}
use Rattle.rv_isa.specs.declared.image.Contents.{Contents}
use Rattle.rv_isa.specs.declared.image.Row.{Row}
use Rattle.rv_isa.specs.declared.image.Item.{Item}
use Rattle.rv_isa.specs.declared.image.LineRow.{LineRow}
use Rattle.rv_long.specs.declared.op.LongOp.{LongOp}
use Rattle.rv_long.specs.declared.op.LongOp.TheVariants.{Div, DivU, Rem, RemU}
use Rattle.rv_code.specs.declared.home.Home.{Home}
use Rattle.rv_code.specs.declared.reach.Reach.{Reach}
use Rattle.rv_code.specs.declared.reach.Reach.TheVariants.{Short, Middle, Long as LongReach}
use Rattle.rv_code.specs.Pieces.{call_code}
use Rattle.rv_code.specs.Laying.{Piece, all_code, rows_from}
use Rattle.rv_form.specs.Layout.{Layout}
use Rattle.rv_form.specs.Flow.{no_room, no_room_words, prologue}
use Rattle.rv_form.specs.Longs.{division_of, routine_code}
use Rattle.rv_form.specs.Dispatch.{tree, tree_width, tree_code}
use Rattle.rv_form.specs.Template.{template}

-- where slots live, by function and slot
abbrev pub Homes : Type 0
Homes = (function slot : ℕ) → Home

-- ---- parts of a program

abbrev pub slots_of : Option Function → ℕ
slots_of (Some f) = f.slots
slots_of None = 0

abbrev pub runs_or_none : Option (List Run) → List Run
runs_or_none (Some runs) = runs
runs_or_none None = []

-- the functions of a class take equally many words
abbrev pub class_arguments_of : Ir → Option (List ℕ) → ℕ
class_arguments_of ir (Some (f ∷ fs)) = arguments_of (function_at ir f)
class_arguments_of ir _ = 0

-- ---- places

-- where things stand in the code: the first words of functions, of their operations, of the dispatchers, and of the routines of
-- division; and how far the jumps of each function go
pub record Places : Type 0 where
  pub entries : List ℕ
  pub starts : List (List ℕ)
  pub dispatchers : List ℕ
  pub routines : List ℕ
  pub reaches : List Reach

-- things of these widths, one behind the other
abbrev pub places_from : (at : ℕ) → List ℕ → List ℕ
places_from at [] = []
places_from at (width ∷ widths) = at ∷ places_from (at + width) widths

abbrev pub numbers_or_none : Option (List ℕ) → List ℕ
numbers_or_none (Some numbers) = numbers
numbers_or_none None = []

abbrev pub reach_or_long : Option Reach → Reach
reach_or_long (Some reach) = reach
reach_or_long None = LongReach

-- the divisions have numbers
abbrev pub all_divisions : List LongOp
all_divisions = Div ∷ DivU ∷ Rem ∷ RemU ∷ []

abbrev pub division_number : LongOp → ℕ
division_number Div = 0
division_number DivU = 1
division_number Rem = 2
division_number RemU = 3
division_number _ = 4

abbrev pub layout_with : Homes → Ir → Places → Layout
layout_with homes ir p = record {
  entry = λ f. slice_index p.entries f;
  at = λ f pc. slice_index (numbers_or_none (slice_get p.starts f)) pc;
  dispatcher = λ class. slice_index p.dispatchers class;
  routine = λ op. slice_index p.routines (division_number op);
  home = homes;
  reach = λ f. reach_or_long (slice_get p.reaches f);
  stack = λ f. stack_of (function_at ir f);
  slots = λ f. slots_of (function_at ir f);
  arguments = λ f. arguments_of (function_at ir f);
  class_arguments = λ class. class_arguments_of ir (slice_get ir.classes class);
  runs = λ layout. runs_or_none (slice_get ir.layouts layout);
}

-- ---- pieces of code

-- a function's words before its first operation
abbrev pub start_code : Layout → (f : ℕ) → List Instr
start_code l f = no_room ++ prologue (l.home f) (l.slots f) (l.arguments f)

-- operations, the first of which has number `pc`, each with the line of the text that it belongs to
abbrev pub operation_pieces : Layout → (f pc : ℕ) → List Operation → List Piece
operation_pieces l f pc [] = []
operation_pieces l f pc (o ∷ os) = record { line = o.line; code = template l f pc o.op } ∷ operation_pieces l f (pc + 1) os

-- the start of a function has the line of its name
abbrev pub pieces_of : Layout → (f : ℕ) → Function → List Piece
pieces_of l f g = record { line = g.line; code = start_code l f } ∷ operation_pieces l f 0 g.code

-- functions, the first of which has number `f`
abbrev pub function_pieces : Layout → (f : ℕ) → List Function → List Piece
function_pieces l f [] = []
function_pieces l f (g ∷ gs) = pieces_of l f g ++ function_pieces l (f + 1) gs

-- ---- what stands before the functions

-- a task that leaves its first function comes to the first word of the code
abbrev pub end_code : List Instr
end_code = call_code 1

abbrev pub is_division : LongOp → Option LongOp → Bool
is_division Div (Some Div) = true
is_division DivU (Some DivU) = true
is_division Rem (Some Rem) = true
is_division RemU (Some RemU) = true
is_division _ _ = false

abbrev pub divides_by : LongOp → Op → Bool
divides_by division (Long op signed to left right) = is_division division (division_of op signed)
divides_by division _ = false

-- whether the program has such a division
abbrev pub uses : Ir → LongOp → Bool
uses ir division = list_any (λ (f : Function). list_any (λ (o : Operation). divides_by division o.op) f.code) ir.functions

-- a routine stands in the code where it is used
abbrev pub routine_if_used : Ir → LongOp → List Instr
routine_if_used ir op = if uses ir op then routine_code op else []

abbrev pub routines_from : Ir → List LongOp → List Instr
routines_from ir [] = []
routines_from ir (d ∷ ds) = routine_if_used ir d ++ routines_from ir ds

abbrev pub routines_code : Ir → List Instr
routines_code ir = routines_from ir all_divisions

-- dispatchers, from word `at` on
abbrev pub dispatchers_code : Layout → (at : ℕ) → List (List ℕ) → List Instr
dispatchers_code l at [] = []
dispatchers_code l at (class ∷ classes) =
    tree_code l.entry l.stack at (tree class) ++ dispatchers_code l (at + tree_width (tree class)) classes

abbrev pub dispatchers_place : Ir → ℕ
dispatchers_place ir = length end_code + length (routines_code ir)

abbrev pub head_code : Layout → Ir → List Instr
head_code l ir = end_code ++ (routines_code ir ++ dispatchers_code l (dispatchers_place ir) ir.classes)

-- ---- where all of it stands

-- what comes in the head has its width whatever is known of places
abbrev pub functions_place : Layout → Ir → ℕ
functions_place l ir = length (head_code l ir)

abbrev pub code_width : List Piece → ℕ
code_width pieces = length (all_code pieces)

-- functions, the first of which has number `f` and stands at word `at`
abbrev pub entries_from : Layout → (f at : ℕ) → List Function → List ℕ
entries_from l f at [] = []
entries_from l f at (g ∷ gs) = (at + no_room_words) ∷ entries_from l (f + 1) (at + code_width (pieces_of l f g)) gs

abbrev pub starts_of : Layout → (f at : ℕ) → Function → List ℕ
starts_of l f at g =
    places_from (at + length (start_code l f)) (map (λ (p : Piece). length p.code) (operation_pieces l f 0 g.code))

abbrev pub starts_from : Layout → (f at : ℕ) → List Function → List (List ℕ)
starts_from l f at [] = []
starts_from l f at (g ∷ gs) = starts_of l f at g ∷ starts_from l (f + 1) (at + code_width (pieces_of l f g)) gs

abbrev pub routine_places : Ir → List ℕ
routine_places ir = places_from (length end_code) (map (λ op. length (routine_if_used ir op)) all_divisions)

abbrev pub dispatcher_places : Ir → List ℕ
dispatcher_places ir = places_from (dispatchers_place ir) (map (λ class. tree_width (tree class)) ir.classes)

-- where all stands that has these widths; what `l` says of places is of no account
abbrev pub places_by : Layout → List Reach → Ir → Places
places_by l reaches ir = record {
  entries = entries_from l 0 (functions_place l ir) ir.functions;
  starts = starts_from l 0 (functions_place l ir) ir.functions;
  dispatchers = dispatcher_places ir;
  routines = routine_places ir;
  reaches = reaches;
}

-- ---- how far jumps go

-- a branch goes over at most 1,023 words, a JAL over at most 2^18 - 1
abbrev pub reach_of : (width : ℕ) → Reach
reach_of width = if nat_le width 1000 then Short else (if nat_lt width (2 ^ 18) then Middle else LongReach)

abbrev pub reaches_from : Layout → (f : ℕ) → List Function → List Reach
reaches_from l f [] = []
reaches_from l f (g ∷ gs) = reach_of (code_width (pieces_of l f g)) ∷ reaches_from l (f + 1) gs

abbrev pub nowhere : List Reach → Places
nowhere reaches = record { entries = []; starts = []; dispatchers = []; routines = []; reaches = reaches }

-- as the widths of functions are where all jumps go far
abbrev pub reaches : Homes → Ir → List Reach
reaches homes ir = reaches_from (layout_with homes ir (nowhere [])) 0 ir.functions

abbrev pub places_of : Homes → Ir → Places
places_of homes ir = places_by (layout_with homes ir (nowhere (reaches homes ir))) (reaches homes ir) ir

abbrev pub layout_of : Homes → Ir → Layout
layout_of homes ir = layout_with homes ir (places_of homes ir)

-- ---- the code

abbrev pub code_by : Layout → Ir → List Instr
code_by l ir = head_code l ir ++ all_code (function_pieces l 0 ir.functions)

-- what stands before the functions has no line
abbrev pub lines_by : Layout → Ir → List LineRow
lines_by l ir = rows_from (functions_place l ir) (function_pieces l 0 ir.functions)

abbrev pub code_of : Homes → Ir → List Instr
code_of homes ir = code_by (layout_of homes ir) ir

abbrev pub lines_of : Homes → Ir → List LineRow
lines_of homes ir = lines_by (layout_of homes ir) ir

-- ---- functions and globals

abbrev pub rows_from_number : Layout → (f : ℕ) → List Function → List Row
rows_from_number l f [] = []
rows_from_number l f (g ∷ gs) = record { entry = l.entry f; slots = g.stack; words = g.arguments } ∷ rows_from_number l (f + 1) gs

abbrev pub rows_of : Homes → Ir → List Row
rows_of homes ir = rows_from_number (layout_of homes ir) 0 ir.functions

-- no region has room for more blocks than an image can have: then it has two whose sizes do not fit any region together
abbrev pub most_globals : ℕ
most_globals = 65536

abbrev pub too_many : Ir → Bool
too_many ir = nat_lt most_globals (length ir.globals)

abbrev pub sizes_of : Ir → List ℕ
sizes_of ir = if too_many ir then 2 ^ 28 ∷ 2 ^ 28 ∷ [] else map (λ (g : Global). g.bytes) ir.globals

abbrev pub item_of : (global : ℕ) → StartItem → Item
item_of global i = record { global = global; offset = i.at; size = i.size; value = i.word }

abbrev pub items_from : (global : ℕ) → List Global → List Item
items_from global [] = []
items_from global (g ∷ gs) = map (item_of global) g.start ++ items_from (global + 1) gs

abbrev pub items_of : Ir → List Item
items_of ir = if too_many ir then [] else items_from 0 ir.globals

-- ---- the image

-- an image is that of a program
pub record IsImageOf (homes : Homes) (ir : Ir) (image : Contents) : Type 0 where
  pub code : map instruction_of image.code ≡ map Some (code_of homes ir)
  pub functions : image.functions ≡ rows_of homes ir
  pub globals : image.globals ≡ sizes_of ir
  pub items : image.items ≡ items_of ir
  pub privates : image.privates ≡ 4 * ir.privates
  pub main : image.main ≡ ir.main
  pub lines : image.lines ≡ lines_of homes ir

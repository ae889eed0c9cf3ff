-- The operations of a function, and the whole program.
use Rattle.std.specs.Prelude.{ℕ, zero, suc, ◌+◌, ◌-◌, ◌==◌, Bool, true, false, ◌&&◌, if◌then◌else◌, List, [], ◌∷◌, ◌++◌, map, filter, take, length, Option, Some, unwrap_or}
use Rattle.std.specs.List.{flat_map}
use Rattle.al_event.specs.declared.act.Block.TheVariants.{Frame as FrameBlock}
use Rattle.al_typed.specs.declared.ty.Ty.{Ty, out-Ty}
use Rattle.al_typed.specs.declared.ty.Ty.TheOpen.{Ty-F}
use Rattle.al_typed.specs.declared.ty.Ty.TheVariants as ty
use Rattle.al_typed.specs.declared.layout.Unit.{Unit as StorageUnit}
use Rattle.al_typed.specs.declared.program.Aggregate.{Aggregate}
use Rattle.al_typed.specs.declared.program.Function.{Function as FunctionRow}
use Rattle.al_typed.specs.declared.program.Global.{Global as GlobalRow}
use Rattle.al_typed.specs.declared.program.Local.{Local as LocalRow}
use Rattle.al_typed.specs.declared.program.StartValue.{StartValue}
use Rattle.al_typed.specs.declared.program.Program.{Program}
use Rattle.al_typed.specs.Measures.{function_slots}
use Rattle.al_meaning.specs.Places.{block_size, has_block, is_shared_global, private_place, start_number}
use Rattle.al_meaning.specs.Here.{size_in, units_in}
use Rattle.al_ir.specs.declared.ir.Function.{Function}
use Rattle.al_ir.specs.declared.ir.Global.{Global}
use Rattle.al_ir.specs.declared.ir.Ir.{Ir}
use Rattle.al_ir.specs.declared.ir.Operation.{Operation}
use Rattle.al_ir.specs.declared.ir.Run.{Run}
use Rattle.al_ir.specs.declared.ir.StartItem.{StartItem}
use Rattle.al_ir.specs.declared.op.Op.TheVariants as op
use Rattle.al_ir.specs.Bounds.{set_aside}
use Rattle.al_lower_code.specs.Homes.{Spot, words, here, home_in, local_home, block_home, first_free, offset_in}
use Rattle.al_lower_code.specs.Moving.{is_wide, layout_number, zeros, store_by}
use Rattle.al_lower_code.specs.Classes.{classes}
use Rattle.al_lower_code.specs.Simple.{frees_block}
use Rattle.al_lower_code.specs.Statements.{Targets, stmt_code, place_of}

-- ---- layouts

-- units that follow each other are one run
abbrev pub single_run : StorageUnit → Run
single_run u = record { at = u.at; size = u.size; count = 1 }

abbrev pub run_with : StorageUnit → List Run → List Run
run_with u [] = single_run u ∷ []
run_with u (r ∷ rs) =
    if (r.size == u.size) && (r.at == u.at + u.size) then record { at = u.at; size = u.size; count = suc r.count } ∷ rs
    else single_run u ∷ r ∷ rs

abbrev pub runs_of : List StorageUnit → List Run
runs_of [] = []
runs_of (u ∷ us) = run_with u (runs_of us)

-- an aggregate that has few units, or is never copied whole, has an empty layout
abbrev pub aggregate_runs : Program → (number : ℕ) → List Aggregate → List (List Run)
aggregate_runs p number [] = []
aggregate_runs p number (a ∷ rest) =
    (if is_wide a.units a.size then runs_of (units_in p (ty.Aggregate number)) else []) ∷ aggregate_runs p (number + 1) rest

-- a tuple of many units, which goes into the shared block as a parameter
abbrev pub is_tuple_at : Ty-F Ty → Bool
is_tuple_at (Ty-F.Tuple parts) = true
is_tuple_at _ = false

unfoldable pub is_tuple : Ty → Bool
is_tuple t = is_tuple_at (out-Ty t)

abbrev pub is_wide_parameter : Program → LocalRow → Bool
is_wide_parameter p l = l.is_shared && is_tuple l.ty && is_wide (length (units_in p l.ty)) (size_in p l.ty)

-- those among the first so many parameters of a function, and those of functions
abbrev pub wide_among : Program → ℕ → FunctionRow → List LocalRow
wide_among p number f = filter (is_wide_parameter p) (take number (take f.parameters f.locals))

abbrev pub wide_in : Program → FunctionRow → List LocalRow
wide_in p f = wide_among p f.parameters f

abbrev pub local_runs : Program → LocalRow → List Run
local_runs p l = runs_of (units_in p l.ty)

-- the layouts of the aggregates, and then those of wide parameters
abbrev pub layouts : Program → List (List Run)
layouts p = aggregate_runs p 0 p.aggregates ++ map (local_runs p) (flat_map (wide_in p) p.functions)

abbrev pub wide_number : Program → (function number : ℕ) → FunctionRow → ℕ
wide_number p function number f =
    length p.aggregates + (length (flat_map (wide_in p) (take function p.functions)) + length (wide_among p number f))

-- the layout by which a parameter is stored in one operation
abbrev pub parameter_layout : Spot → (number : ℕ) → FunctionRow → LocalRow → Option ℕ
parameter_layout s number f l =
    if is_wide_parameter s.program l then Some (wide_number s.program s.function number f) else layout_number s l.ty

-- ---- the start and the end of a function

abbrev pub takes_block : Spot → FunctionRow → List Operation
takes_block s f =
    if has_block f.locals then here s (op.Alloc (block_home s.program s.function) (block_size s.program f.locals) FrameBlock) else []

-- private locals that are no parameters are 0
abbrev pub clears_locals : Spot → FunctionRow → List Operation
clears_locals s f =
    let first = local_home s.program s.function f.parameters in
    zeros s.line first (block_home s.program s.function - first)

-- a parameter that lies in the shared block
abbrev pub stores_parameter : Spot → FunctionRow → (number : ℕ) → LocalRow → List Operation
stores_parameter s f number l =
    if l.is_shared
    then store_by s (parameter_layout s number f l) l.ty (block_home s.program s.function) (offset_in s.program s.function number) (local_home s.program s.function number)
    else []

-- those of so many locals, the first of which has this number
abbrev pub stores_parameters : Spot → FunctionRow → (number count : ℕ) → List LocalRow → List Operation
stores_parameters s f number zero ls = []
stores_parameters s f number (suc n) [] = []
stores_parameters s f number (suc n) (l ∷ ls) = stores_parameter s f number l ++ stores_parameters s f (number + 1) n ls

abbrev pub prologue : Spot → FunctionRow → List Operation
prologue s f = takes_block s f ++ (clears_locals s f ++ stores_parameters s f 0 f.parameters f.locals)

-- at the end of its body a function gives zero
abbrev pub epilogue : Spot → FunctionRow → List Operation
epilogue s f = frees_block s ++ (zeros s.line 0 (words s f.returns) ++ here s (op.Leave (words s f.returns)))

-- ---- functions

abbrev pub spot_of : Program → (number : ℕ) → FunctionRow → Spot
spot_of p number f = record { program = p; function = number; line = f.line; turns = first_free p number }

abbrev pub targets_of : Spot → FunctionRow → Targets
targets_of s f = record { label = λ l. unwrap_or (place_of s l f.body (length (prologue s f))) 0; behind = []; again = [] }

abbrev pub function_code : Spot → FunctionRow → List Operation
function_code s f = prologue s f ++ (stmt_code s (targets_of s f) f.body (length (prologue s f)) ++ epilogue s f)

-- some words of its part of the stack are none of its slots
abbrev pub lowered_function : Program → (number : ℕ) → FunctionRow → Function
lowered_function p number f = record {
  line = f.line;
  arguments = home_in p (Some f) f.parameters;
  stack = function_slots p f;
  slots = function_slots p f - set_aside;
  code = function_code (spot_of p number f) f;
}

abbrev pub functions_from : Program → (number : ℕ) → List FunctionRow → List Function
functions_from p number [] = []
functions_from p number (f ∷ fs) = lowered_function p number f ∷ functions_from p (number + 1) fs

-- ---- globals and strings

abbrev pub start_item : Program → StartValue → StartItem
start_item p v = record { at = v.at; size = v.size; word = start_number p v.word }

abbrev pub shared_global : Program → GlobalRow → Global
shared_global p g = record { bytes = size_in p g.ty; start = map (start_item p) g.start }

-- a byte for each of a string's, the first of which stands at `at`
abbrev pub byte_items : (at : ℕ) → List ℕ → List StartItem
byte_items at [] = []
byte_items at (b ∷ bs) = record { at = at; size = 1; word = b } ∷ byte_items (at + 1) bs

-- with a 0 behind it
abbrev pub string_global : List ℕ → Global
string_global bytes = record { bytes = length bytes + 1; start = byte_items 0 bytes }

abbrev pub globals : Program → List Global
globals p = map (shared_global p) (filter is_shared_global p.globals) ++ map string_global p.strings

-- ---- programs

-- what a typed program becomes
abbrev pub lowered : Program → Ir
lowered p = record {
  functions = functions_from p 0 p.functions;
  classes = classes p;
  layouts = layouts p;
  globals = globals p;
  privates = private_place p (length p.globals);
  main = p.main;
}

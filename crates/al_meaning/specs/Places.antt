-- Where the variables of a program stand.
use Rattle.std.specs.Prelude.{ℕ, ◌+◌, ◌*◌, ◌==◌, Bool, not, if◌then◌else◌, List, [], ◌∷◌, ◌++◌, map, filter, fold, length, take, replicate, sum_by, Option, Some, None, slice_get, slice_index}
use Rattle.std.specs.Int.{div_ceil}
use Rattle.al_event.specs.Store.{region_base, bytes_of, overwritten}
use Rattle.al_typed.specs.declared.ty.Ty.{Ty}
use Rattle.al_typed.specs.declared.program.Global.{Global}
use Rattle.al_typed.specs.declared.program.Local.{Local}
use Rattle.al_typed.specs.declared.program.Function.{Function}
use Rattle.al_typed.specs.declared.program.StartValue.{StartValue}
use Rattle.al_typed.specs.declared.program.StartWord.{StartWord}
use Rattle.al_typed.specs.declared.program.StartWord.TheVariants as start
use Rattle.al_typed.specs.declared.program.Program.{Program}
use Rattle.al_typed.specs.Layout.{Layout, Member, in_order, offsets_from, layout, size_of, words_of, member}
use Rattle.al_typed.specs.WellTyped.{shared_types}

-- ---- globals and strings

abbrev pub is_shared_global : Global → Bool
is_shared_global g = not g.is_private

-- The sizes of the blocks at the start: one for each shared global, then one for each string, with a 0 behind it.
abbrev pub block_sizes : Program → List ℕ
block_sizes p =
    map (λ (g : Global). size_of p.aggregates g.ty) (filter is_shared_global p.globals) ++ map (λ s. length s + 1) p.strings

-- each block stands at the next multiple of 8
abbrev pub behind : ℕ → ℕ → ℕ
behind at size = at + 8 * div_ceil size 8

-- the place of block number n
abbrev pub block_place : Program → ℕ → ℕ
block_place p n = fold behind region_base (take n (block_sizes p))

-- how many of the globals before this one are shared
abbrev pub shared_before : Program → ℕ → ℕ
shared_before p number = length (filter is_shared_global (take number p.globals))

abbrev pub global_place : Program → ℕ → ℕ
global_place p number = block_place p (shared_before p number)

abbrev pub text_place : Program → ℕ → ℕ
text_place p number = block_place p (shared_before p (length p.globals) + number)

-- the bytes that a global starts with
abbrev pub start_number : Program → StartWord → ℕ
start_number p (start.Number n) = n
start_number p (start.Text number) = text_place p number

abbrev pub with_start : Program → List ℕ → StartValue → List ℕ
with_start p bytes v = overwritten bytes v.at (bytes_of v.size (start_number p v.word))

abbrev pub global_bytes : Program → Global → List ℕ
global_bytes p g = fold (with_start p) (replicate (size_of p.aggregates g.ty) 0) g.start

-- the blocks of the first world
abbrev pub opening_blocks : Program → List (List ℕ)
opening_blocks p = map (global_bytes p) (filter is_shared_global p.globals) ++ map (λ s. s ++ 0 ∷ []) p.strings

-- ---- private globals, whose words stand one after the other

abbrev pub private_words_of : Program → Global → ℕ
private_words_of p g = if g.is_private then words_of p.aggregates g.ty else 0

abbrev pub private_place : Program → ℕ → ℕ
private_place p number = sum_by (private_words_of p) (take number p.globals)

-- private globals at the start of a proc
abbrev pub fresh_privates : Program → List ℕ
fresh_privates p = replicate (private_place p (length p.globals)) 0

-- ---- functions

abbrev pub function_at : Program → ℕ → Option Function
function_at p number = slice_get p.functions number

abbrev pub locals_of : Option Function → List Local
locals_of (Some f) = f.locals
locals_of None = []

-- where the shared locals stand in their block, in text order
abbrev pub shared_layouts : Program → List Local → List Layout
shared_layouts p locals = map (layout p.aggregates) (shared_types locals)

-- the size of the block
abbrev pub block_size : Program → List Local → ℕ
block_size p locals = (in_order (shared_layouts p locals)).size

abbrev pub has_block : List Local → Bool
has_block locals = not (length (shared_types locals) == 0)

-- where a shared local stands in the block
abbrev pub local_offset : Program → List Local → ℕ → ℕ
local_offset p locals number =
    slice_index (offsets_from 0 (shared_layouts p locals)) (length (shared_types (take number locals)))

-- the value of a function's name: no block lies there
abbrev pub function_address : ℕ → ℕ
function_address number = 0x08000000 + 4 * number

-- how far from the start of a value a path leads
abbrev pub member_at : Option Member → ℕ
member_at (Some m) = m.at
member_at None = 0

abbrev pub path_offset : Program → Ty → List ℕ → ℕ
path_offset p t path = member_at (member p.aggregates path t)

abbrev pub words_in : Program → Ty → ℕ
words_in p t = words_of p.aggregates t

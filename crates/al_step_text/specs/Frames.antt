-- The frames of a task, with their variables, as lines of text.
use Rattle.std.specs.Prelude.{ℕ, if◌then◌else◌, List, [], ◌++◌, length, Option, Some, None, slice_get, codes, decimal}
use Rattle.std.specs.List.{flat_map, range_with_len}
use Rattle.al_typed.specs.declared.program.Aggregate.{Aggregate}
use Rattle.al_typed.specs.declared.program.Function.{Function}
use Rattle.al_typed.specs.declared.program.Local.{Local}
use Rattle.al_typed.specs.declared.program.Program.{Program}
use Rattle.al_meaning.specs.Places.{function_at, locals_of}
use Rattle.al_meaning.specs.Items.{Item, Frame}
use Rattle.al_meaning.specs.Calls.{line_of_name}
use Rattle.al_value_text.specs.Values.{shown}

-- ---- variables

-- a private parameter or local with its value; what lies in a shared block is not shown
abbrev pub variable_line : List Aggregate → Local → List ℕ → List ℕ
variable_line rows l words = if l.is_shared then [] else codes "var " ++ l.name ++ codes " " ++ shown rows l.ty words ++ codes "\n"

abbrev pub variable_of : List Aggregate → Local → Option (List ℕ) → List ℕ
variable_of rows l None = []
variable_of rows l (Some words) = variable_line rows l words

abbrev pub variable_if : List Aggregate → Option Local → Option (List ℕ) → List ℕ
variable_if rows None words = []
variable_if rows (Some l) words = variable_of rows l words

abbrev pub variable_at : List Aggregate → List Local → List (List ℕ) → ℕ → List ℕ
variable_at rows locals words n = variable_if rows (slice_get locals n) (slice_get words n)

-- the first so many, in text order
unfoldable pub variable_lines : List Aggregate → List Local → List (List ℕ) → ℕ → List ℕ
variable_lines rows locals words n = flat_map (variable_at rows locals words) (range_with_len 0 n)

abbrev pub all_variables : List Aggregate → List Local → List (List ℕ) → List ℕ
all_variables rows locals words = variable_lines rows locals words (length locals)

-- ---- frames

abbrev pub name_of : Option Function → List ℕ
name_of None = []
name_of (Some f) = f.name

-- the line of the frame's first item, else that of the function's name
abbrev pub first_line : ℕ → Option Item → ℕ
first_line line None = line
first_line line (Some i) = i.line

abbrev pub function_part : Program → ℕ → List ℕ
function_part p function = codes " f" ++ decimal function ++ codes " " ++ name_of (function_at p function)

abbrev pub line_part : Program → Frame → List ℕ
line_part p f = codes " line " ++ decimal (first_line (line_of_name (function_at p f.function)) (slice_get f.items 0)) ++ codes "\n"

abbrev pub frame_line : Program → ℕ → Frame → List ℕ
frame_line p i f = codes "frame " ++ decimal i ++ function_part p f.function ++ line_part p f

abbrev pub frame_lines : Program → ℕ → Frame → List ℕ
frame_lines p i f = frame_line p i f ++ all_variables p.aggregates (locals_of (function_at p f.function)) f.locals

abbrev pub frame_if : Program → ℕ → Option Frame → List ℕ
frame_if p i None = []
frame_if p i (Some f) = frame_lines p i f

abbrev pub frame_at : Program → List Frame → ℕ → List ℕ
frame_at p frames i = frame_if p i (slice_get frames i)

-- the first so many, the innermost first
unfoldable pub frames_lines : Program → List Frame → ℕ → List ℕ
frames_lines p frames n = flat_map (frame_at p frames) (range_with_len 0 n)

abbrev pub all_frames : Program → List Frame → List ℕ
all_frames p frames = frames_lines p frames (length frames)

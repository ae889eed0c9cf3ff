-- What stands before the functions, and the table of functions.
use Rattle.std.proofs.Common.{◌≡◌, ℕ, zero, suc, ◌+◌, ◌<◌, ◌≤◌, ◌^◌, Bool, true, false, nat_le, if◌then◌else◌, List, [], ◌∷◌, ◌++◌, length, length-append, map, slice_get, slice_index, Some, refl, sym, ap, ◌∙◌, arith, subst}
use Rattle.std.specs.Prelude.{fold}
use Rattle.std.proofs.lemmas.Bool.Decides.{nat_tests}
use Rattle.al_ir.specs.declared.ir.Function.{Function}
use Rattle.al_ir.specs.declared.ir.Ir.{Ir}
use Rattle.al_ir.specs.Control.{function_at, arguments_of}
use Rattle.rv_isa.specs.declared.image.Contents.{Contents}
use Rattle.rv_isa.specs.declared.image.LineRow.{LineRow}
use Rattle.rv_isa.specs.declared.image.Row.{Row}
use Rattle.rv_isa.specs.declared.instr.Instr.{Instr}
use Rattle.rv_exec.specs.Calls.{has_function}
use Rattle.rv_exec.specs.Machine.{line_of, line_at, entry_of}
use Rattle.rv_code.specs.Jumps.{place}
use Rattle.rv_code.specs.Laying.{Piece, all_code, with_row, rows_from}
use Rattle.rv_code.specs.Pieces.{call_code}
use Rattle.rv_code.specs.Runs.{Stands}
use Rattle.rv_code.proofs.Leading.{stands_front, stands_back}
use Rattle.rv_form.specs.Dispatch.{tree, tree_width, tree_code}
use Rattle.rv_form.specs.Layout.{Layout}
use Rattle.rv_form.specs.Program.{Homes, IsImageOf, layout_of, nowhere, reaches, places_of, places_from, rows_from_number, function_pieces, functions_place, head_code, end_code, routines_code, dispatchers_code, dispatchers_place}
use Rattle.rv_pointers.proofs.Trees.{equal_is}
use Rattle.rv_laid.proofs.Placing.{code_stands, code_length, line_there}
use Rattle.rv_laid.proofs.Meeting.{tree_length}
use Rattle.rv_laid.proofs.Beginning.{found}
use Rattle.rv_laid.proofs.Laying.{ended}

rows_get : (l : Layout) (first : ℕ) (fs : List Function) (k : ℕ) (g : Function) → slice_get fs k ≡ Some g
    → slice_get (rows_from_number l first fs) k ≡ Some (record { entry = l.entry (first + k); slots = g.stack; words = g.arguments })
rows_get l first [] k g e = absurd (cc)
rows_get l first (y ∷ fs) zero g e =
    let same : y ≡ g = cc in
    let start : first ≡ first + 0 = omega arith in
    ap (λ (z : Function). Some (record { entry = l.entry first; slots = z.stack; words = z.arguments })) same ∙ ap (λ n. Some (record { entry = l.entry n; slots = g.stack; words = g.arguments })) start
rows_get l first (y ∷ fs) (suc k) g e =
    let next : first + 1 + k ≡ first + suc k = omega arith in
    rows_get l (first + 1) fs k g e ∙ ap (λ n. Some (record { entry = l.entry n; slots = g.stack; words = g.arguments })) next

has_is : (image : Contents) (k w : ℕ) (row : Row) → slice_get image.functions k ≡ Some row → row.words ≡ w → has_function image k w ≡ true
has_is image k w row e q = rw (e) (equal_is row.words w q)

row_past : (j at line first : ℕ) → j < at → (if nat_le at j then line else first) ≡ first
row_past j at line first less = let e : nat_le at j ≡ false = grind (arith, nat_tests, less) in ap (λ (b : Bool). if b then line else first) e

abbrev line_from : (first j : ℕ) → List LineRow → ℕ
line_from first j rows = fold (λ line (row : LineRow). if nat_le row.word j then row.line else line) first rows

-- rows past a word say nothing of it
past_rows : (ps : List Piece) (at j first : ℕ) → j < at → line_from first j (rows_from at ps) ≡ first
past_rows [] at j first less = refl
past_rows (p ∷ ps) at j first less = on p.code (rows_from (at + length p.code) ps) (past_rows ps (at + length p.code) j first (omega (arith, less))) where
  on : (is : List Instr) (rows : List LineRow) → line_from first j rows ≡ first → line_from first j (with_row at p.line is rows) ≡ first
  on [] rows a = a
  on (i ∷ is) rows a = ap (λ n. line_from n j rows) (row_past j at p.line first less) ∙ a

-- a dispatcher stands at its place
record Dispatcher (l : Layout) (code : List ℕ) (at end : ℕ) (fs : List ℕ) : Type 0 where
  stands : Stands code at (tree_code l.entry l.stack at (tree fs))
  within : at + tree_width (tree fs) ≤ end

module _ (homes : Homes) (ir : Ir) (image : Contents) (is : IsImageOf homes ir image) where
  abbrev l : Layout
  l = ended homes ir

  abbrev final : Layout
  final = layout_of homes ir

  widths_are : (at : ℕ) (t : List ℕ) → length (tree_code l.entry l.stack at (tree t)) ≡ tree_width (tree t)
  widths_are at t = tree_length homes ir (nowhere (reaches homes ir)) (places_of homes ir) refl l.entry l.stack at (tree t)

  dispatcher_at : (at : ℕ) (classes : List (List ℕ)) (k : ℕ) (fs : List ℕ) → slice_get classes k ≡ Some fs → Stands image.code at (dispatchers_code final at classes)
      → Dispatcher l image.code (slice_index (places_from at (map (λ (class : List ℕ). tree_width (tree class)) classes)) k) (at + length (dispatchers_code final at classes)) fs
  dispatcher_at at [] k fs e has = absurd (cc)
  dispatcher_at at (c ∷ classes) zero fs e has =
      let same : c ≡ fs = cc in
      let code : List Instr = tree_code l.entry l.stack at (tree c) in
      let rest : List Instr = dispatchers_code final (at + tree_width (tree c)) classes in
      record {
        stands = subst (λ (x : List ℕ). Stands image.code at (tree_code l.entry l.stack at (tree x))) same (stands_front image.code at code rest has);
        within = omega (arith, ap (λ (x : List ℕ). tree_width (tree x)) same, length-append code rest, widths_are at c);
      }
  dispatcher_at at (c ∷ classes) (suc k) fs e has =
      let code : List Instr = tree_code l.entry l.stack at (tree c) in
      let rest : List Instr = dispatchers_code final (at + tree_width (tree c)) classes in
      let far : at + length code ≡ at + tree_width (tree c) = ap (λ n. at + n) (widths_are at c) in
      let more = dispatcher_at (at + tree_width (tree c)) classes k fs e (subst (λ n. Stands image.code n rest) far (stands_back image.code at code rest has)) in
      record { stands = more.stands; within = omega (arith, more.within, length-append code rest, widths_are at c) }

  abbrev behind_end : List Instr
  behind_end = routines_code ir ++ dispatchers_code final (dispatchers_place ir) ir.classes

  pub head_stands : Stands image.code 0 (end_code ++ behind_end)
  head_stands = stands_front image.code 0 (head_code final ir) (all_code (function_pieces final 0 ir.functions)) (code_stands ir image final is.code is.lines)

  pub ending : Stands image.code 0 (call_code 1)
  ending = stands_front image.code 0 end_code behind_end head_stands

  pub no_line : line_of image (place 1) ≡ 0
  no_line =
      line_there ir image final is.code is.lines 1 (omega (arith, code_length ir image final is.code is.lines)) ∙ ap (line_at 1) is.lines
      ∙ past_rows (function_pieces final 0 ir.functions) (functions_place final ir) 1 0 (omega arith)

  dispatchers_stand : Stands image.code (dispatchers_place ir) (dispatchers_code final (dispatchers_place ir) ir.classes)
  dispatchers_stand =
      let e : 0 + 2 + length (routines_code ir) ≡ dispatchers_place ir = omega arith in
      subst (λ n. Stands image.code n (dispatchers_code final (dispatchers_place ir) ir.classes)) e
      (stands_back image.code (0 + 2) (routines_code ir) (dispatchers_code final (dispatchers_place ir) ir.classes) (stands_back image.code 0 end_code behind_end head_stands))

  dispatcher_of : (class : ℕ) (fs : List ℕ) → slice_get ir.classes class ≡ Some fs → Dispatcher l image.code (l.dispatcher class) (dispatchers_place ir + length (dispatchers_code final (dispatchers_place ir) ir.classes)) fs
  dispatcher_of class fs e = dispatcher_at (dispatchers_place ir) ir.classes class fs e dispatchers_stand

  pub dispatches : (class : ℕ) (fs : List ℕ) → slice_get ir.classes class ≡ Some fs → Stands image.code (l.dispatcher class) (tree_code l.entry l.stack (l.dispatcher class) (tree fs))
  dispatches class fs e = (dispatcher_of class fs e).stands

  pub dispatchers_low : length image.code < 2 ^ 23 → (class : ℕ) (fs : List ℕ) → slice_get ir.classes class ≡ Some fs → l.dispatcher class + tree_width (tree fs) < 2 ^ 23
  dispatchers_low small class fs e =
      omega (
        arith,
        (dispatcher_of class fs e).within,
        small,
        code_length ir image final is.code is.lines,
        length-append (routines_code ir) (dispatchers_code final (dispatchers_place ir) ir.classes),
      )

  row_is : (k : ℕ) (g : Function) → function_at ir k ≡ Some g → slice_get image.functions k ≡ Some (record { entry = l.entry (0 + k); slots = g.stack; words = g.arguments })
  row_is k g e = ap (λ (rows : List Row). slice_get rows k) is.functions ∙ rows_get final 0 ir.functions k g e

  pub rows : (k : ℕ) → k < length ir.functions → entry_of (slice_get image.functions k) ≡ l.entry k
  rows k less =
      let q = found ir.functions k less in
      let none : 0 + k ≡ k = omega arith in
      ap entry_of (row_is k q.0 q.1) ∙ ap l.entry none

  pub words : (k : ℕ) → k < length ir.functions → has_function image k (arguments_of (function_at ir k)) ≡ true
  words k less = let q = found ir.functions k less in has_is image k (arguments_of (function_at ir k)) (record { entry = l.entry (0 + k); slots = q.0.stack; words = q.0.arguments }) (row_is k q.0 q.1) (sym (ap arguments_of q.1))

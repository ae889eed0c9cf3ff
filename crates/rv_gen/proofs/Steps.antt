-- What is left of a program while it is emitted.
use Rattle.std.proofs.Common.{◌≡◌, ℕ, ◌+◌, ◌<◌, List, [], ◌∷◌, ◌++◌, length, drop, get_or, nat_lt, sym, ap, subst, ◌∙◌, append_assoc}
use Rattle.std.proofs.lemmas.List.{drop_more}
use Rattle.al_ir.specs.declared.ir.Function.{Function}
use Rattle.al_ir.specs.declared.ir.Operation.{Operation}
use Rattle.rv_isa.specs.declared.image.LineRow.{LineRow}
use Rattle.rv_isa.specs.declared.instr.Instr.{Instr}
use Rattle.rv_code.specs.Laying.{Piece, all_code, rows_from}
use Rattle.rv_code.specs.declared.reach.Reach.{Reach}
use Rattle.rv_form.specs.Layout.{Layout}
use Rattle.rv_form.specs.Flow.{no_room_words}
use Rattle.rv_form.specs.Template.{template}
use Rattle.rv_form.specs.Program.{places_from, operation_pieces, pieces_of, function_pieces, starts_of, entries_from, starts_from, reach_of, reaches_from, code_width}
use Rattle.rv_gen.specs.Emitting.{row_if, widths}
use Rattle.rv_gen.proofs.Pieces.{all_code-append, rows_from-append, code_step, place_step, starts_step, lines_step}

-- ---- operations

pub record OperationsLeft (l : Layout) (f pc : ℕ) (left : List Operation) (made : List Instr) (rows : List LineRow) (places : List ℕ) (all : List Instr) (all_lines : List LineRow) (all_starts : List ℕ) : Type 0 where
  pub code : made ++ all_code (operation_pieces l f pc left) ≡ all
  pub lines : rows ++ rows_from (length made) (operation_pieces l f pc left) ≡ all_lines
  pub starts : places ++ places_from (length made) (widths (operation_pieces l f pc left)) ≡ all_starts

module _ {l : Layout} {f : ℕ} {all : List Instr} {all_lines : List LineRow} {all_starts : List ℕ} where
  pub one_operation : (pc : ℕ) (o : Operation) (left : List Operation) (code next : List Instr) (lines next_lines : List LineRow) (starts next_starts : List ℕ)
      → OperationsLeft l f pc (o ∷ left) code lines starts all all_lines all_starts
      → next ≡ code ++ template l f pc o.op → next_lines ≡ lines ++ row_if (nat_lt (length code) (length next)) (length code) o.line → next_starts ≡ starts ++ length code ∷ []
      → OperationsLeft l f (pc + 1) left next next_lines next_starts all all_lines all_starts
  one_operation pc o left code next lines next_lines starts next_starts so_far is are_lines are_starts =
      let piece : Piece = record { line = o.line; code = template l f pc o.op } in
      let goes : length next ≡ length code + length piece.code = place_step code piece.code next is in
      record {
        code = code_step code piece.code (all_code (operation_pieces l f (pc + 1) left)) next all so_far.code is;
        lines = lines_step lines next_lines (length code) (length next) piece (operation_pieces l f (pc + 1) left) all_lines so_far.lines are_lines goes;
        starts = starts_step starts next_starts (length code) (length piece.code) (length next) (widths (operation_pieces l f (pc + 1) left)) all_starts so_far.starts are_starts goes;
      }

-- ---- functions

pub record FunctionsLeft (l : Layout) (f : ℕ) (left : List Function) (made : List Instr) (rows : List LineRow) (firsts : List ℕ) (places : List (List ℕ)) (reach : List Reach) (all : List Instr) (all_lines : List LineRow) (all_entries : List ℕ) (all_starts : List (List ℕ)) (all_reaches : List Reach) : Type 0 where
  pub code : made ++ all_code (function_pieces l f left) ≡ all
  pub lines : rows ++ rows_from (length made) (function_pieces l f left) ≡ all_lines
  pub entries : firsts ++ entries_from l f (length made) left ≡ all_entries
  pub starts : places ++ starts_from l f (length made) left ≡ all_starts
  pub reaches : reach ++ reaches_from l f left ≡ all_reaches

-- one more element, and what follows depends on the place
one_more : {X : Type 0} (xs next : List X) (x : X) (rest : ℕ → List X) (at there : ℕ) (all : List X) → xs ++ (x ∷ rest at) ≡ all → next ≡ xs ++ x ∷ [] → there ≡ at → next ++ rest there ≡ all
one_more xs next x rest at there all so_far is goes =
    ap (λ ys. ys ++ rest there) is ∙ (append_assoc xs (x ∷ []) (rest there) ∙ (ap (λ n. xs ++ (x ∷ rest n)) goes ∙ so_far))

module _ {l : Layout} {all : List Instr} {all_lines : List LineRow} {all_entries : List ℕ} {all_starts : List (List ℕ)} {all_reaches : List Reach} where
  pub one_function : (f : ℕ) (g : Function) (left : List Function) (code next : List Instr) (lines next_lines : List LineRow) (entries next_entries : List ℕ) (starts next_starts : List (List ℕ)) (reaches next_reaches : List Reach)
      → FunctionsLeft l f (g ∷ left) code lines entries starts reaches all all_lines all_entries all_starts all_reaches
      → next ≡ code ++ all_code (pieces_of l f g) → next_lines ≡ lines ++ rows_from (length code) (pieces_of l f g)
      → next_entries ≡ entries ++ (length code + no_room_words) ∷ [] → next_starts ≡ starts ++ starts_of l f (length code) g ∷ []
      → next_reaches ≡ reaches ++ reach_of (code_width (pieces_of l f g)) ∷ []
      → FunctionsLeft l (f + 1) left next next_lines next_entries next_starts next_reaches all all_lines all_entries all_starts all_reaches
  one_function f g left code next lines next_lines entries next_entries starts next_starts reaches next_reaches so_far is are_lines are_entries are_starts are_reaches =
      let goes : length next ≡ length code + code_width (pieces_of l f g) = place_step code (all_code (pieces_of l f g)) next is in
      record {
        code =
            code_step code (all_code (pieces_of l f g)) (all_code (function_pieces l (f + 1) left)) next all
            (ap (λ (c : List Instr). code ++ c) (sym (all_code-append (pieces_of l f g) (function_pieces l (f + 1) left))) ∙ so_far.code) is;
        lines =
            ap (λ n. next_lines ++ rows_from n (function_pieces l (f + 1) left)) goes
            ∙ code_step lines (rows_from (length code) (pieces_of l f g)) (rows_from (length code + code_width (pieces_of l f g)) (function_pieces l (f + 1) left)) next_lines all_lines
            (ap (λ (rows : List LineRow). lines ++ rows) (sym (rows_from-append (length code) (pieces_of l f g) (function_pieces l (f + 1) left))) ∙ so_far.lines) are_lines;
        entries = one_more entries next_entries (length code + no_room_words) (λ n. entries_from l (f + 1) n left) (length code + code_width (pieces_of l f g)) (length next) all_entries so_far.entries are_entries goes;
        starts = one_more starts next_starts (starts_of l f (length code) g) (λ n. starts_from l (f + 1) n left) (length code + code_width (pieces_of l f g)) (length next) all_starts so_far.starts are_starts goes;
        reaches = code_step reaches (reach_of (code_width (pieces_of l f g)) ∷ []) (reaches_from l (f + 1) left) next_reaches all_reaches so_far.reaches are_reaches;
      }

-- ---- elements

-- what is left of a list from an element on
pub from_item : {X : Type 0} (xs items : List X) (i : ℕ) (x : X) → items ≡ xs → i < length items → x ≡ get_or items i x → drop i xs ≡ x ∷ drop (i + 1) xs
from_item xs items i x same within is =
    subst (λ ys. drop i ys ≡ x ∷ drop (i + 1) ys) same (drop_more items i x within ∙ ap (λ y. y ∷ drop (i + 1) items) (sym is))

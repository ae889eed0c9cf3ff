-- Functions begin where a program's layout says.
use Rattle.std.proofs.Common.{◌≡◌, ℕ, zero, suc, ◌+◌, ◌-◌, ◌<◌, ◌≤◌, ◌^◌, List, [], ◌∷◌, ◌++◌, length, length-append, slice_get, slice_index, Option, Some, refl, sym, ap, ◌∙◌, arith, subst}
use Rattle.al_ir.specs.Bounds.{IsFunction, IsBounded}
use Rattle.al_ir.specs.declared.ir.Function.{Function}
use Rattle.al_ir.specs.declared.ir.Ir.{Ir}
use Rattle.al_ir.specs.Control.{function_at, arguments_of, stack_of, line_of as line_of_function}
use Rattle.rv_isa.specs.declared.image.Contents.{Contents}
use Rattle.rv_exec.specs.Machine.{line_of}
use Rattle.rv_code.specs.Jumps.{place}
use Rattle.rv_code.specs.Laying.{Piece, before}
use Rattle.rv_code.specs.Runs.{Stands}
use Rattle.rv_code.proofs.Leading.{stands_front, stands_back}
use Rattle.rv_form.specs.Flow.{no_room, no_room_words, prologue}
use Rattle.rv_form.specs.Layout.{Layout}
use Rattle.rv_form.specs.Program.{Homes, IsImageOf, layout_with, layout_of, places_of, nowhere, reaches, entries_from, pieces_of, function_pieces, functions_place, start_code, code_width, slots_of}
use Rattle.rv_flow.specs.Functions.{Begins}
use Rattle.rv_regs.specs.Homes.{AreHomes}
use Rattle.rv_alike.specs.Within.{places, live_in}
use Rattle.rv_alike.proofs.Ranges.{all_at}
use Rattle.rv_laid.proofs.Placing.{number, operations_length, piece_at, before_next, placed_low, piece_there_stands, piece_there_line}
use Rattle.rv_laid.proofs.Meeting.{before_back, same_before, same_functions, head_width}
use Rattle.rv_laid.proofs.Laying.{ended}

entries_get : (l : Layout) (first at : ℕ) (fs : List Function) (k : ℕ) (g : Function) → slice_get fs k ≡ Some g
    → slice_index (entries_from l first at fs) k ≡ at + before (function_pieces l first fs) (number fs k) + no_room_words
entries_get l first at [] k g e = absurd (cc)
entries_get l first at (y ∷ fs) zero g e = omega arith
entries_get l first at (y ∷ fs) (suc k) g e =
    let far : suc (length y.code) + number fs k ≡ length (pieces_of l first y) + number fs k = omega (arith, operations_length l first 0 y.code) in
    entries_get l (first + 1) (at + code_width (pieces_of l first y)) fs k g e
    ∙ omega (arith, ap (before (pieces_of l first y ++ function_pieces l (first + 1) fs)) far, before_back (pieces_of l first y) (function_pieces l (first + 1) fs) (number fs k))

pub found : (fs : List Function) (k : ℕ) → k < length fs → (g : Function) × (slice_get fs k ≡ Some g)
found [] k less = absurd (omega (arith, less))
found (y ∷ fs) zero less = (y, refl)
found (y ∷ fs) (suc k) less = found fs k (omega (arith, less))

module _ (homes : Homes) (ir : Ir) (image : Contents) (is : IsImageOf homes ir image) (bounded : IsBounded ir) (small : length image.code < 2 ^ 23) (are : (f : ℕ) → AreHomes ir f (homes f)) where
  abbrev l : Layout
  l = ended homes ir

  abbrev final : Layout
  final = layout_of homes ir

  abbrev widths : Layout
  widths = layout_with homes ir (nowhere (reaches homes ir))

  module _ (k : ℕ) (g : Function) (e : function_at ir k ≡ Some g) where
    abbrev start : ℕ
    start = functions_place final ir + before (function_pieces final 0 ir.functions) (number ir.functions k)

    abbrev piece : Piece
    piece = record { line = g.line; code = start_code final k }

    there : slice_get (function_pieces final 0 ir.functions) (number ir.functions k + 0) ≡ Some piece
    there = piece_at final 0 ir.functions k g e 0 piece (let none : 0 + k ≡ k = omega arith in ap (λ n. Some (record { line = g.line; code = start_code final n })) none)

    number_is : number ir.functions k + 0 ≡ number ir.functions k
    number_is = omega arith

    entry_is : l.entry k ≡ start + no_room_words
    entry_is =
        entries_get widths 0 (functions_place widths ir) ir.functions k g e
        ∙ omega (
          arith,
          same_before (function_pieces widths 0 ir.functions) (function_pieces final 0 ir.functions) (same_functions homes ir (nowhere (reaches homes ir)) (places_of homes ir) refl 0 ir.functions) (number ir.functions k),
          head_width homes ir (nowhere (reaches homes ir)) (places_of homes ir) refl,
        )

    stands : Stands image.code start (no_room ++ prologue (l.home k) (l.slots k) (l.arguments k))
    stands = subst (λ n. Stands image.code (functions_place final ir + before (function_pieces final 0 ir.functions) n) (start_code final k)) number_is
        (piece_there_stands ir image final is.code is.lines (number ir.functions k + 0) piece there)

    end_is : start + length (start_code final k) ≡ l.at k 0
    end_is =
        let n : number ir.functions k + suc 0 ≡ suc (number ir.functions k + 0) = omega arith in
        let z : number ir.functions k + 0 ≡ number ir.functions k = omega arith in
        omega (
          arith,
          before_next (function_pieces final 0 ir.functions) (number ir.functions k + 0) piece there,
          ap (before (function_pieces final 0 ir.functions)) n,
          ap (before (function_pieces final 0 ir.functions)) z,
        )

    line_there : (j : ℕ) → start ≤ j → j < start + length (start_code final k) → line_of image (place j) ≡ g.line
    line_there j a b =
        let z : before (function_pieces final 0 ir.functions) (number ir.functions k + 0) ≡ before (function_pieces final 0 ir.functions) (number ir.functions k) = ap (before (function_pieces final 0 ir.functions)) number_is in
        piece_there_line ir image final is.code is.lines (number ir.functions k + 0) piece there j (omega (arith, a, z)) (omega (arith, b, z))

    low : l.at k 0 < 2 ^ 23
    low = omega (arith, placed_low ir image final is.code is.lines k 0, small)

    fine : IsFunction ir g
    fine = all_at (IsFunction ir) ir.functions k g e bounded.functions

    pub begins_there : Begins ir image (places l) (live_in ir l are) k (l.entry k)
    begins_there =
        let width : length (start_code final k) ≡ no_room_words + length (prologue (l.home k) (l.slots k) (l.arguments k)) = length-append no_room (prologue (l.home k) (l.slots k) (l.arguments k)) in
        let back : l.entry k - no_room_words ≡ start = omega (arith, entry_is) in
        let stack_is : stack_of (function_at ir k) ≡ g.stack = ap stack_of e in
        let arguments_are : arguments_of (function_at ir k) ≡ g.arguments = ap arguments_of e in
        let slots_are : l.slots k ≡ g.slots = ap (λ (o : Option Function). slots_of o) e in
        record {
          low = omega (arith, entry_is, end_is, width, low);
          behind = omega (arith, entry_is);
          stub = subst (λ n. Stands image.code n no_room) (sym back) (stands_front image.code start no_room (prologue (l.home k) (l.slots k) (l.arguments k)) stands);
          stub_line = line_there (l.entry k - 1) (omega (arith, entry_is)) (omega (arith, entry_is, width)) ∙ sym (ap line_of_function e);
          start = subst (λ n. Stands image.code n (prologue (l.home k) (l.slots k) (l.arguments k))) (sym entry_is) (stands_back image.code start no_room (prologue (l.home k) (l.slots k) (l.arguments k)) stands);
          first = omega (arith, entry_is, end_is, width);
          stack_is = refl;
          stack = omega (arith, stack_is, fine.stack);
          slots = omega (arith, stack_is, slots_are, fine.slots);
          arguments = omega (arith, arguments_are, slots_are, fine.arguments);
          apart = λ i j a b lives other. (are k).arguments_apart i j a b lives other;
        }

  pub begins_are : (k : ℕ) → k < length ir.functions → Begins ir image (places l) (live_in ir l are) k (l.entry k)
  begins_are k less = let q = found ir.functions k less in begins_there k q.0 q.1

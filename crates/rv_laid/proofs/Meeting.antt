-- The places of a program's layout are those where its operations stand.
use Rattle.std.proofs.Common.{◌≡◌, ℕ, zero, suc, ◌+◌, ◌<◌, ◌≤◌, List, [], ◌∷◌, ◌++◌, length, length-append, map, slice_get, slice_index, Option, Some, refl, ap, ap₂, ◌∙◌, arith}
use Rattle.al_ir.specs.declared.ir.Function.{Function}
use Rattle.al_ir.specs.declared.ir.Ir.{Ir}
use Rattle.al_ir.specs.declared.ir.Operation.{Operation}
use Rattle.al_ir.specs.Control.{function_at}
use Rattle.rv_code.specs.Laying.{Piece, all_code, before}
use Rattle.rv_form.specs.Dispatch.{Tree, Nothing, Is, Split, tree, tree_width, tree_code}
use Rattle.rv_form.specs.Layout.{Layout}
use Rattle.rv_form.specs.Program.{Homes, Places, layout_with, layout_of, places_of, nowhere, reaches, places_from, numbers_or_none, starts_of, starts_from, operation_pieces, pieces_of, function_pieces, functions_place, dispatchers_code, dispatchers_place, routines_code, start_code, code_width}
use Rattle.rv_laid.proofs.Widths.{template_width}
use Rattle.rv_laid.proofs.Placing.{number, operations_length}

-- ---- pieces of the same widths

abbrev pub SameWidths : List Piece → List Piece → Type 0
SameWidths [] [] = Unit {0}
SameWidths (p ∷ ps) (q ∷ qs) = (length p.code ≡ length q.code) × SameWidths ps qs
SameWidths _ _ = ⊥

same_append : (a b c d : List Piece) → SameWidths a c → SameWidths b d → SameWidths (a ++ b) (c ++ d)
same_append [] b [] d p q = q
same_append [] b (x ∷ c) d p q = absurd p
same_append (x ∷ a) b [] d p q = absurd p
same_append (x ∷ a) b (y ∷ c) d p q = (p.0, same_append a b c d p.1 q)

pub same_before : (a b : List Piece) → SameWidths a b → (k : ℕ) → before a k ≡ before b k
same_before [] [] s k = refl
same_before [] (y ∷ b) s k = absurd s
same_before (x ∷ a) [] s k = absurd s
same_before (x ∷ a) (y ∷ b) s zero = refl
same_before (x ∷ a) (y ∷ b) s (suc k) = ap₂ (λ i j. i + j) s.0 (same_before a b s.1 k)

module _ (homes : Homes) (ir : Ir) (p q : Places) (same : p.reaches ≡ q.reaches) where
  abbrev l : Layout
  l = layout_with homes ir p

  abbrev m : Layout
  m = layout_with homes ir q

  same_operations : (f pc : ℕ) (os : List Operation) → SameWidths (operation_pieces l f pc os) (operation_pieces m f pc os)
  same_operations f pc [] = tt
  same_operations f pc (o ∷ os) = (template_width homes ir p q same f pc o.op, same_operations f (pc + 1) os)

  pub same_functions : (f : ℕ) (fs : List Function) → SameWidths (function_pieces l f fs) (function_pieces m f fs)
  same_functions f [] = tt
  same_functions f (g ∷ fs) = same_append (pieces_of l f g) (function_pieces l (f + 1) fs) (pieces_of m f g) (function_pieces m (f + 1) fs) (refl, same_operations f 0 g.code) (same_functions (f + 1) fs)

  pub tree_length : (entry stack : ℕ → ℕ) (at : ℕ) (t : Tree) → length (tree_code entry stack at t) ≡ tree_width t
  tree_length entry stack at Nothing = refl
  tree_length entry stack at (Is f) = refl
  tree_length entry stack at (Split f below above) =
      omega (arith, length-append (tree_code entry stack (at + 5) below) (tree_code entry stack (at + 5 + tree_width below) above), tree_length entry stack (at + 5) below, tree_length entry stack (at + 5 + tree_width below) above)

  dispatchers_width : (at : ℕ) (classes : List (List ℕ)) → length (dispatchers_code l at classes) ≡ length (dispatchers_code m at classes)
  dispatchers_width at [] = refl
  dispatchers_width at (class ∷ classes) =
      omega (
        arith,
        length-append (tree_code l.entry l.stack at (tree class)) (dispatchers_code l (at + tree_width (tree class)) classes),
        length-append (tree_code m.entry m.stack at (tree class)) (dispatchers_code m (at + tree_width (tree class)) classes),
        tree_length l.entry l.stack at (tree class),
        tree_length m.entry m.stack at (tree class),
        dispatchers_width (at + tree_width (tree class)) classes,
      )

  pub head_width : functions_place l ir ≡ functions_place m ir
  head_width =
      let k : length (routines_code ir ++ dispatchers_code l (dispatchers_place ir) ir.classes) ≡ length (routines_code ir ++ dispatchers_code m (dispatchers_place ir) ir.classes) =
      omega (
        arith,
        length-append (routines_code ir) (dispatchers_code l (dispatchers_place ir) ir.classes),
        length-append (routines_code ir) (dispatchers_code m (dispatchers_place ir) ir.classes),
        dispatchers_width (dispatchers_place ir) ir.classes,
      ) in
      ap (λ n. suc (suc n)) k

-- ---- places one behind the other

pub before_back : (a b : List Piece) (k : ℕ) → before (a ++ b) (length a + k) ≡ code_width a + before b k
before_back [] b k = let e : 0 + k ≡ k = omega arith in ap (before b) e ∙ omega arith
before_back (p ∷ a) b k =
    let e : suc (length a) + k ≡ suc (length a + k) = omega arith in
    ap (before (p ∷ (a ++ b))) e ∙ omega (arith, before_back a b k, length-append p.code (all_code a))

before_none : (a : List Piece) → before a 0 ≡ 0
before_none [] = refl
before_none (p ∷ a) = refl

before_front : (a b : List Piece) (k : ℕ) → k ≤ length a → before (a ++ b) k ≡ before a k
before_front [] b zero le = before_none b
before_front [] b (suc k) le = absurd (omega (arith, le))
before_front (p ∷ a) b zero le = refl
before_front (p ∷ a) b (suc k) le = ap (λ n. length p.code + n) (before_front a b k (omega (arith, le)))

from_get : (ps : List Piece) (at k : ℕ) → k < length ps → slice_index (places_from at (map (λ (p : Piece). length p.code) ps)) k ≡ at + before ps k
from_get [] at k less = absurd (omega (arith, less))
from_get (p ∷ ps) at zero less = omega arith
from_get (p ∷ ps) at (suc k) less = from_get ps (at + length p.code) k (omega (arith, less)) ∙ omega arith

starts_get : (l : Layout) (first at : ℕ) (fs : List Function) (k : ℕ) (g : Function) → slice_get fs k ≡ Some g
    → slice_get (starts_from l first at fs) k ≡ Some (starts_of l (first + k) (at + before (function_pieces l first fs) (number fs k)) g)
starts_get l first at [] k g e = absurd (cc)
starts_get l first at (y ∷ fs) zero g e =
    let same : y ≡ g = cc in
    let start : first ≡ first + 0 = omega arith in
    let place : at ≡ at + 0 = omega arith in
    ap (λ (z : Function). Some (starts_of l first at z)) same ∙ ap₂ (λ i j. Some (starts_of l i j g)) start place
starts_get l first at (y ∷ fs) (suc k) g e =
    let next : first + 1 + k ≡ first + suc k = omega arith in
    let far : suc (length y.code) + number fs k ≡ length (pieces_of l first y) + number fs k = omega (arith, operations_length l first 0 y.code) in
    let there : at + code_width (pieces_of l first y) + before (function_pieces l (first + 1) fs) (number fs k) ≡ at + before (function_pieces l first (y ∷ fs)) (suc (length y.code) + number fs k) =
    omega (arith, ap (before (pieces_of l first y ++ function_pieces l (first + 1) fs)) far, before_back (pieces_of l first y) (function_pieces l (first + 1) fs) (number fs k)) in
    starts_get l (first + 1) (at + code_width (pieces_of l first y)) fs k g e ∙ ap₂ (λ i j. Some (starts_of l i j g)) next there

before_in : (l : Layout) (first : ℕ) (fs : List Function) (k : ℕ) (g : Function) → slice_get fs k ≡ Some g → (pc : ℕ) → pc ≤ length g.code
    → before (function_pieces l first fs) (number fs k + suc pc) ≡ before (function_pieces l first fs) (number fs k) + (length (start_code l (first + k)) + before (operation_pieces l (first + k) 0 g.code) pc)
before_in l first [] k g e pc le = absurd (cc)
before_in l first (y ∷ fs) zero g e pc le =
    let same : y ≡ g = cc in
    let start : first ≡ first + 0 = omega arith in
    let some : 0 + suc pc ≡ suc pc = omega arith in
    let ops : List Piece = operation_pieces l first 0 y.code in
    let rest : List Piece = function_pieces l (first + 1) fs in
    let a : before (ops ++ rest) pc ≡ before ops pc = before_front ops rest pc (omega (arith, le, operations_length l first 0 y.code, ap (λ (z : Function). length z.code) same)) in
    let b : before ops pc ≡ before (operation_pieces l first 0 g.code) pc = ap (λ (z : Function). before (operation_pieces l first 0 z.code) pc) same in
    ap (before (pieces_of l first y ++ rest)) some ∙ ap (λ n. length (start_code l first) + n) (a ∙ b)
    ∙ ap (λ i. length (start_code l i) + before (operation_pieces l i 0 g.code) pc) start ∙ omega arith
before_in l first (y ∷ fs) (suc k) g e pc le =
    let next : first + 1 + k ≡ first + suc k = omega arith in
    let far : suc (length y.code) + number fs k + suc pc ≡ length (pieces_of l first y) + (number fs k + suc pc) = omega (arith, operations_length l first 0 y.code) in
    let far1 : suc (length y.code) + number fs k ≡ length (pieces_of l first y) + number fs k = omega (arith, operations_length l first 0 y.code) in
    let rest : List Piece = function_pieces l (first + 1) fs in
    let a = ap (before (pieces_of l first y ++ rest)) far ∙ before_back (pieces_of l first y) rest (number fs k + suc pc) in
    let b = ap (before (pieces_of l first y ++ rest)) far1 ∙ before_back (pieces_of l first y) rest (number fs k) in
    let c = before_in l (first + 1) fs k g e pc le ∙ ap (λ i. before rest (number fs k) + (length (start_code l i) + before (operation_pieces l i 0 g.code) pc)) next in
    omega (arith, a, b, c)

module _ (homes : Homes) (ir : Ir) where
  abbrev widths : Layout
  widths = layout_with homes ir (nowhere (reaches homes ir))

  abbrev final : Layout
  final = layout_of homes ir

  -- an operation's place is that of its words
  pub at_is : (image_f pc : ℕ) (g : Function) → function_at ir image_f ≡ Some g → pc < length g.code → final.at image_f pc ≡ functions_place final ir + before (function_pieces final 0 ir.functions) (number ir.functions image_f + suc pc)
  at_is f pc g e less =
      let base : ℕ = functions_place widths ir in
      let none : 0 + f ≡ f = omega arith in
      let there : ℕ = base + before (function_pieces widths 0 ir.functions) (number ir.functions f) in
      let a = ap (λ (o : Option (List ℕ)). slice_index (numbers_or_none o) pc) (starts_get widths 0 base ir.functions f g e) in
      let b = from_get (operation_pieces widths (0 + f) 0 g.code) (there + length (start_code widths (0 + f))) pc (omega (arith, less, operations_length widths (0 + f) 0 g.code)) in
      let c = before_in widths 0 ir.functions f g e pc (omega (arith, less)) in
      let d = same_before (function_pieces widths 0 ir.functions) (function_pieces final 0 ir.functions) (same_functions homes ir (nowhere (reaches homes ir)) (places_of homes ir) refl 0 ir.functions) (number ir.functions f + suc pc) in
      let w = head_width homes ir (nowhere (reaches homes ir)) (places_of homes ir) refl in
      a ∙ b ∙ omega (arith, c, d, w)

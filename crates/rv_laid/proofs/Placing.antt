-- Where the pieces of functions stand, and in which lines.
use Rattle.std.proofs.Common.{◌≡◌, ℕ, zero, suc, ◌+◌, ◌-◌, ◌/◌, ◌<◌, ◌≤◌, Bool, true, ◌&&◌, nat_le, nat_lt, if◌then◌else◌, List, [], ◌∷◌, ◌++◌, length, length-append, map, slice_get, Option, Some, None, refl, sym, ap, ◌∙◌, arith, subst}
use Rattle.std.proofs.lemmas.Bool.Decides.{nat_tests}
use Rattle.std.proofs.lemmas.List.{append-nil}
use Rattle.al_ir.specs.declared.ir.Function.{Function}
use Rattle.al_ir.specs.declared.ir.Ir.{Ir}
use Rattle.al_ir.specs.declared.ir.Operation.{Operation}
use Rattle.al_ir.specs.Control.{code_of, function_at, operation_at}
use Rattle.rv_isa.specs.declared.addresses.TheConstants.{CODE_START}
use Rattle.rv_isa.specs.declared.image.Contents.{Contents}
use Rattle.rv_isa.specs.declared.instr.Instr.{Instr}
use Rattle.rv_isa.specs.Table.{instruction_of}
use Rattle.rv_exec.specs.Machine.{line_at, line_of}
use Rattle.rv_code.specs.Jumps.{place}
use Rattle.rv_code.specs.Laying.{Piece, all_code, before}
use Rattle.rv_code.specs.Runs.{Stands}
use Rattle.rv_code.proofs.Leading.{stands_in, stands_back}
use Rattle.rv_code.proofs.Laying.{piece_stands, line_is}
use Rattle.rv_form.specs.Layout.{Layout}
use Rattle.rv_form.specs.Program.{operation_pieces, pieces_of, function_pieces, head_code, functions_place, code_by, lines_by, code_width}
use Rattle.rv_form.specs.Template.{template}

-- ---- pieces

get_front : {X : Type 0} (a b : List X) (k : ℕ) (x : X) → slice_get a k ≡ Some x → slice_get (a ++ b) k ≡ Some x
get_front [] b k x e = absurd (cc)
get_front (y ∷ a) b zero x e = e
get_front (y ∷ a) b (suc k) x e = get_front a b k x e

get_back : {X : Type 0} (a b : List X) (k : ℕ) → slice_get (a ++ b) (length a + k) ≡ slice_get b k
get_back [] b k = let e : 0 + k ≡ k = omega arith in ap (slice_get b) e
get_back (y ∷ a) b k = let e : suc (length a) + k ≡ suc (length a + k) = omega arith in ap (slice_get (y ∷ (a ++ b))) e ∙ get_back a b k

pub before_next : (ps : List Piece) (k : ℕ) (p : Piece) → slice_get ps k ≡ Some p → before ps (suc k) ≡ before ps k + length p.code
before_next [] k p e = absurd (cc)
before_next (q ∷ ps) zero p e = let same : q ≡ p = cc in on ps (ap (λ (r : Piece). length r.code) same) where
  on : (rest : List Piece) → length q.code ≡ length p.code → length q.code + before rest 0 ≡ 0 + length p.code
  on [] same = omega (arith, same)
  on (r ∷ rest) same = omega (arith, same)
before_next (q ∷ ps) (suc k) p e = omega (arith, before_next ps k p e)

before_all : (ps : List Piece) (k : ℕ) → before ps k ≤ code_width ps
before_all [] k = omega arith
before_all (p ∷ ps) zero = omega arith
before_all (p ∷ ps) (suc k) = omega (arith, before_all ps k, length-append p.code (all_code ps))

-- ---- those of functions

-- the number of a function's first piece
abbrev pub number : List Function → ℕ → ℕ
number [] k = 0
number (g ∷ gs) zero = 0
number (g ∷ gs) (suc k) = suc (length g.code) + number gs k

pub operations_length : (l : Layout) (f pc : ℕ) (os : List Operation) → length (operation_pieces l f pc os) ≡ length os
operations_length l f pc [] = refl
operations_length l f pc (o ∷ os) = ap (λ n. suc n) (operations_length l f (pc + 1) os)

operation_piece : (l : Layout) (f base : ℕ) (os : List Operation) (k : ℕ) (o : Operation) → slice_get os k ≡ Some o → slice_get (operation_pieces l f base os) k ≡ Some (record { line = o.line; code = template l f (base + k) o.op })
operation_piece l f base [] k o e = absurd (cc)
operation_piece l f base (x ∷ os) zero o e =
    let same : x ≡ o = cc in
    let start : base ≡ base + 0 = omega arith in
    ap (λ (y : Operation). Some (record { line = y.line; code = template l f base y.op })) same ∙ ap (λ n. Some (record { line = o.line; code = template l f n o.op })) start
operation_piece l f base (x ∷ os) (suc k) o e =
    let next : base + 1 + k ≡ base + suc k = omega arith in
    operation_piece l f (base + 1) os k o e ∙ ap (λ n. Some (record { line = o.line; code = template l f n o.op })) next

pub piece_at : (l : Layout) (first : ℕ) (fs : List Function) (k : ℕ) (g : Function) → slice_get fs k ≡ Some g → (j : ℕ) (x : Piece) → slice_get (pieces_of l (first + k) g) j ≡ Some x
    → slice_get (function_pieces l first fs) (number fs k + j) ≡ Some x
piece_at l first [] k g e j x is = absurd (cc)
piece_at l first (y ∷ fs) zero g e j x is =
    let same : y ≡ g = cc in
    let start : first + 0 ≡ first = omega arith in
    let none : 0 + j ≡ j = omega arith in
    ap (slice_get (pieces_of l first y ++ function_pieces l (first + 1) fs)) none
    ∙ get_front (pieces_of l first y) (function_pieces l (first + 1) fs) j x (subst (λ n. slice_get (pieces_of l n y) j ≡ Some x) start (subst (λ (z : Function). slice_get (pieces_of l (first + 0) z) j ≡ Some x) (sym same) is))
piece_at l first (y ∷ fs) (suc k) g e j x is =
    let next : first + suc k ≡ first + 1 + k = omega arith in
    let more = piece_at l (first + 1) fs k g e j x (subst (λ n. slice_get (pieces_of l n g) j ≡ Some x) next is) in
    let far : suc (length y.code) + number fs k + j ≡ length (pieces_of l first y) + (number fs k + j) = omega (arith, operations_length l first 0 y.code) in
    ap (slice_get (pieces_of l first y ++ function_pieces l (first + 1) fs)) far ∙ get_back (pieces_of l first y) (function_pieces l (first + 1) fs) (number fs k + j) ∙ more

module _ (ir : Ir) (image : Contents) (l : Layout) (code_is : map instruction_of image.code ≡ map Some (code_by l ir)) (lines_are : image.lines ≡ lines_by l ir) where
  abbrev pieces : List Piece
  pieces = function_pieces l 0 ir.functions

  -- where an operation stands; behind the last one of a function, its code ends there
  abbrev pub placed : (f pc : ℕ) → ℕ
  placed f pc = functions_place l ir + before pieces (number ir.functions f + suc pc)

  pub code_stands : Stands image.code 0 (code_by l ir)
  code_stands = stands_in image.code [] image.code [] (code_by l ir) (sym (append-nil image.code)) code_is

  map_length : {X Y : Type 0} (f : X → Y) (xs : List X) → length (map f xs) ≡ length xs
  map_length f [] = refl
  map_length f (x ∷ xs) = ap (λ n. suc n) (map_length f xs)

  pub code_length : length image.code ≡ functions_place l ir + code_width pieces
  code_length =
      sym (map_length instruction_of image.code) ∙ ap length code_is ∙ map_length (λ (i : Instr). Some i) (code_by l ir) ∙ length-append (head_code l ir) (all_code pieces)

  functions_stand : Stands image.code (functions_place l ir) (all_code pieces)
  functions_stand = let e : 0 + functions_place l ir ≡ functions_place l ir = omega arith in subst (λ n. Stands image.code n (all_code pieces)) e (stands_back image.code 0 (head_code l ir) (all_code pieces) code_stands)

  pub placed_low : (f pc : ℕ) → placed f pc ≤ length image.code
  placed_low f pc = omega (arith, code_length, before_all pieces (number ir.functions f + suc pc))

  pub line_there : (j : ℕ) → j < length image.code → line_of image (place j) ≡ line_at j image.lines
  line_there j less = on (nat_le CODE_START (place j)) (nat_lt ((place j - CODE_START) / 4) (length image.code)) ((place j - CODE_START) / 4) start within index where
    start : nat_le CODE_START (place j) ≡ true
    start = grind (arith, nat_tests)

    index : (place j - CODE_START) / 4 ≡ j
    index = omega arith

    within : nat_lt ((place j - CODE_START) / 4) (length image.code) ≡ true
    within = let e : nat_lt j (length image.code) ≡ true = grind (arith, nat_tests, less) in ap (λ n. nat_lt n (length image.code)) index ∙ e

    on : (b d : Bool) (n : ℕ) → b ≡ true → d ≡ true → n ≡ j → (if b && d then line_at n image.lines else 0) ≡ line_at j image.lines
    on b d n p q e = rw (p, q, e) refl

  -- any piece
  pub piece_there_stands : (n : ℕ) (p : Piece) → slice_get pieces n ≡ Some p → Stands image.code (functions_place l ir + before pieces n) p.code
  piece_there_stands n p there = piece_stands image.code (functions_place l ir) pieces n p functions_stand there

  pub piece_there_line : (n : ℕ) (p : Piece) → slice_get pieces n ≡ Some p → (j : ℕ) → functions_place l ir + before pieces n ≤ j → j < functions_place l ir + before pieces n + length p.code → line_of image (place j) ≡ p.line
  piece_there_line n p there j a b =
      line_there j (omega (arith, b, before_next pieces n p there, before_all pieces (suc n), code_length)) ∙ ap (line_at j) lines_are
      ∙ line_is pieces (functions_place l ir) n j 0 p there a b

  module _ (f pc : ℕ) (o : Operation) (at : operation_at ir f pc ≡ Some o) where
    abbrev piece : Piece
    piece = record { line = o.line; code = template l f pc o.op }

    there : slice_get pieces (number ir.functions f + suc pc) ≡ Some piece
    there = on (function_at ir f) refl at where
      on : (x : Option Function) → function_at ir f ≡ x → slice_get (code_of x) pc ≡ Some o → slice_get pieces (number ir.functions f + suc pc) ≡ Some piece
      on (Some g) e q = piece_at l 0 ir.functions f g e (suc pc) piece (ap (λ n. slice_get (operation_pieces l n 0 g.code) pc) none ∙ operation_piece l f 0 g.code pc o q ∙ ap (λ n. Some (record { line = o.line; code = template l f n o.op })) zero_more) where
        none : 0 + f ≡ f
        none = omega arith

        zero_more : 0 + pc ≡ pc
        zero_more = omega arith
      on None e q = absurd (cc)

    pub operation_stands : Stands image.code (placed f pc) (template l f pc o.op)
    operation_stands = piece_stands image.code (functions_place l ir) pieces (number ir.functions f + suc pc) piece functions_stand there

    pub operation_next : placed f pc + length (template l f pc o.op) ≡ placed f (pc + 1)
    operation_next =
        let e : number ir.functions f + suc (pc + 1) ≡ suc (number ir.functions f + suc pc) = omega arith in
        omega (arith, before_next pieces (number ir.functions f + suc pc) piece there, ap (before pieces) e)

    pub operation_line : (j : ℕ) → placed f pc ≤ j → j < placed f (pc + 1) → line_of image (place j) ≡ o.line
    operation_line j a b =
        line_there j (omega (arith, b, placed_low f (pc + 1))) ∙ ap (line_at j) lines_are
        ∙ line_is pieces (functions_place l ir) (number ir.functions f + suc pc) j 0 piece there a (omega (arith, b, operation_next))

-- Where labels stand, as far as a text was read.
use Rattle.std.proofs.Common.{◌≡◌, ℕ, ◌+◌, ◌≤◌, ◌==◌, Bool, true, false, if◌then◌else◌, List, [], ◌∷◌, length, Option, Some, None, unwrap_or, option_and_then, refl, arith, add-zero, ◌++◌, map, drop, append_assoc}
use Rattle.std.proofs.lemmas.List.{map-append}
use Rattle.rv_isa.specs.declared.instr.Instr.{Instr}
use Rattle.rv_asm.specs.Asm.{place_from, target_of, target_place, words_of, is_label, line_instruction, instructions_from}
use Rattle.rv_asm.specs.declared.line.AsmLine.{AsmLine}
use Rattle.rv_asm.specs.declared.line.AsmLine.TheVariants.{Label, Plain, Branch, Jal, High, Low, JumpLow}

-- what was found, or else what comes
abbrev pub first_of : Option ℕ → Option ℕ → Option ℕ
first_of (Some x) o = Some x
first_of None o = o

pub first_of-none : (o : Option ℕ) → first_of o None ≡ o
first_of-none (Some x) = refl
first_of-none None = refl

-- no place is past the end
pub place_near : (here label : ℕ) (lines : List AsmLine) → unwrap_or (place_from here label lines) 0 ≤ here + length lines
place_near here label [] = omega arith
place_near here label (line ∷ lines) = on (is_label label line) (one line) (place_near (here + words_of line) label lines) where
  one : (l : AsmLine) → words_of l ≤ 1
  one l = search arith

  on : (b : Bool) → words_of line ≤ 1 → unwrap_or (place_from (here + words_of line) label lines) 0 ≤ here + words_of line + length lines
      → unwrap_or (if b then Some here else place_from (here + words_of line) label lines) 0 ≤ here + length (line ∷ lines)
  on true a rest = omega arith
  on false a rest = omega arith

and_then_same : (f g : ℕ → Option ℕ) → ((label : ℕ) → f label ≡ g label) → (o : Option ℕ) → option_and_then f o ≡ option_and_then g o
and_then_same f g same (Some label) = same label
and_then_same f g same None = refl

-- where a line leads to, by what was found of each label
pub target_same : (found : ℕ → Option ℕ) (lines : List AsmLine) (line : AsmLine) → ((label : ℕ) → found label ≡ place_from 0 label lines)
    → unwrap_or (option_and_then found (target_of line)) 0 ≡ target_place lines line
target_same found lines line same = rw (and_then_same found (λ label. place_from 0 label lines) same (target_of line)) refl

pub target_near : (lines : List AsmLine) (line : AsmLine) → target_place lines line ≤ length lines
target_near lines line = on (target_of line) where
  on : (o : Option ℕ) → unwrap_or (option_and_then (λ label. place_from 0 label lines) o) 0 ≤ length lines
  on (Some label) = omega (arith, place_near 0 label lines)
  on None = omega arith

-- ---- the instructions of what is left of a text

some_makes_one : (here there : ℕ) (line : AsmLine) (instr : Instr) → line_instruction here there line ≡ Some instr → words_of line ≡ 1
some_makes_one here there (Label l) instr e = absurd (cc)
some_makes_one here there (Plain i) instr e = refl
some_makes_one here there (Branch op rs1 rs2 label) instr e = refl
some_makes_one here there (Jal rd label) instr e = refl
some_makes_one here there (High rd label) instr e = refl
some_makes_one here there (Low rd rs1 label) instr e = refl
some_makes_one here there (JumpLow rd rs1 label) instr e = refl

none_makes_none : (here there : ℕ) (line : AsmLine) → line_instruction here there line ≡ None → words_of line ≡ 0
none_makes_none here there (Label l) e = refl
none_makes_none here there (Plain i) e = absurd (cc)
none_makes_none here there (Branch op rs1 rs2 label) e = absurd (cc)
none_makes_none here there (Jal rd label) e = absurd (cc)
none_makes_none here there (High rd label) e = absurd (cc)
none_makes_none here there (Low rd rs1 label) e = absurd (cc)
none_makes_none here there (JumpLow rd rs1 label) e = absurd (cc)

module _ (text lines : List AsmLine) (here i : ℕ) (line : AsmLine) (rest : drop i lines ≡ line ∷ drop (i + 1) lines) where
  pub rest_some : (instr : Instr) → line_instruction here (target_place text line) line ≡ Some instr
      → instructions_from text here (drop i lines) ≡ instr ∷ instructions_from text (here + 1) (drop (i + 1) lines)
  rest_some instr e = rw (rest, e, some_makes_one here (target_place text line) line instr e) refl

  pub rest_none : line_instruction here (target_place text line) line ≡ None
      → instructions_from text here (drop i lines) ≡ instructions_from text here (drop (i + 1) lines)
  rest_none e = rw (rest, e, none_makes_none here (target_place text line) line e, add-zero) refl

pub told_some : (f : ℕ → Option Instr) (words : List ℕ) (word : ℕ) (instr : Instr) (rest : List Instr) (all : List (Option Instr)) → f word ≡ Some instr
    → map f words ++ map Some (instr ∷ rest) ≡ all → map f (words ++ word ∷ []) ++ map Some rest ≡ all
told_some f words word instr rest all e h = rw (map-append f words (word ∷ []), append_assoc (map f words) (f word ∷ []) (map Some rest), e) h

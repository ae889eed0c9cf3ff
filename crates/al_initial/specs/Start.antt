-- What a value starts a part of a global with.
use Rattle.std.specs.Prelude.{ℕ, ◌+◌, ◌/◌, ◌%◌, ◌^◌, ◌==◌, Bool, true, false, if◌then◌else◌, List, [], ◌∷◌, Option, Some, None, option_map, option_and_then}
use Rattle.al_base.specs.declared.arith.Kind.{Kind}
use Rattle.al_base.specs.declared.place.Place.{Place}
use Rattle.al_rules.specs.Outcome.{Outcome, Good, Bad, ask, judge, and_then}
use Rattle.al_typed.specs.declared.program.Aggregate.{Aggregate}
use Rattle.al_typed.specs.declared.program.StartWord.{StartWord}
use Rattle.al_typed.specs.declared.program.StartWord.TheVariants as word
use Rattle.al_typed.specs.declared.program.StartValue.{StartValue}
use Rattle.al_typed.specs.declared.ty.Ty.{Ty}
use Rattle.al_typed.specs.declared.expression.TExpr.{TExpr, Text}
use Rattle.al_typed.specs.Types.{bytes_of}
use Rattle.al_typed.specs.Typed.{type_of}
use Rattle.al_convert.specs.declared.literal.Literal.{Literal, out-Literal}
use Rattle.al_convert.specs.declared.literal.Literal.TheOpen.{Literal-F}
use Rattle.al_convert.specs.Kinds.{kind_of}
use Rattle.al_constant.specs.Constants.{constant, cast_between}
use Rattle.al_operands.specs.declared.operand.Operand.{Operand}
use Rattle.al_operands.specs.Rules.{rule_33_converts, is_text}
use Rattle.al_initial.specs.declared.start.Start.{Start}
use Rattle.al_initial.specs.declared.start.Start.TheVariants as start
use Rattle.al_initial.specs.Rules.{rule_18_stands}

-- ---- which values are constant. 21. A global's initializer is constant: an integer that is constant as a case is, nil, or a
-- string for a `byte*`.

-- the bits of an integer in a kind, where it is constant as a case is
unfoldable pub integer_bits : List Aggregate → Kind → TExpr → Option ℕ
integer_bits rows k e = option_and_then (cast_between (kind_of (type_of e)) (Some k)) (constant rows e)

-- an integer of 8 bytes is two units, the low word first, and another is one
abbrev pub integer_start : Kind → ℕ → Start
integer_start k bits = if bytes_of k == 8 then start.Two (bits % 2 ^ 32) (bits / 2 ^ 32) else start.One (bytes_of k) (word.Number bits)

-- nil, and the constant 0, which converts to pointers and channels as nil does
abbrev pub is_null_at : Literal-F Literal → Bool
is_null_at (Literal-F.Nil at) = true
is_null_at Literal-F.Zero = true
is_null_at _ = false

unfoldable pub is_null : Literal → Bool
is_null l = is_null_at (out-Literal l)

-- the number of the block of a string constant
unfoldable pub text_of : TExpr → Option ℕ
text_of (Text t n) = Some n
text_of _ = None

abbrev pub text_word : (is_text : Bool) → TExpr → Option StartWord
text_word is_text e = if is_text then option_map word.Text (text_of e) else None

-- nil, or a string for a `byte*`
unfoldable pub word_of : Ty → Operand → Option StartWord
word_of t x = if is_null x.written then Some (word.Number 0) else text_word (is_text t) x.value

abbrev pub start_in : List Aggregate → Option Kind → Ty → Operand → Option Start
start_in rows (Some k) t x = option_map (integer_start k) (integer_bits rows k x.value)
start_in rows None t x = option_map (start.One 4) (word_of t x)

-- what a value that converts to a type starts a part of that type with
unfoldable pub start_of : List Aggregate → Ty → Operand → Option Start
start_of rows t x = start_in rows (kind_of t) t x

abbrev pub constant_start : Place → Option Start → Outcome Start
constant_start at None = Bad (ask 21 at false)
constant_start at (Some s) = Good s

-- 33. What is assigned converts.
unfoldable pub started : List Aggregate → Place → Ty → Operand → Outcome Start
started rows at t x = and_then (judge (ask 33 at (rule_33_converts x t)) (start_of rows t x)) (constant_start at)

-- ---- where it stands

abbrev pub value : ℕ → ℕ → StartWord → StartValue
value at size w = record { at = at; size = size; word = w }

abbrev pub values_at : ℕ → Start → List StartValue
values_at at (start.One size w) = value at size w ∷ []
values_at at (start.Two low high) = value at 4 (word.Number low) ∷ value (at + 4) 4 (word.Number high) ∷ []

-- in a part that stands so many bytes from the front of the global
unfoldable pub placed : Place → (offset : ℕ) → Start → Outcome (List StartValue)
placed at offset s = judge (ask 18 at (rule_18_stands offset)) (values_at offset s)

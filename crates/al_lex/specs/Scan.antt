-- What stands at the front of a text, computed.
use Rattle.std.specs.Prelude.{ℕ, ◌+◌, ◌-◌, ◌^◌, ◌==◌, nat_lt, nat_le, nat_eq, min, Bool, true, false, ◌&&◌, if◌then◌else◌, List, [], ◌∷◌, ◌++◌, length, take, drop, Option, Some, None, option_map, option_and_then, unwrap_or, Result, Ok, Err, codes, slice_index}
use Rattle.std.specs.List.{prefix_len, take_while, list_any, starts_with}
use lib.Pointwise.{pointwise}
use Rattle.al_lex.specs.declared.kind.TokenKind.{TokenKind}
use Rattle.al_lex.specs.declared.kind.TokenKind.TheVariants as k
use Rattle.al_lex.specs.declared.kind.PieceKind.{PieceKind}
use Rattle.al_lex.specs.declared.kind.PieceKind.TheVariants as p
use Rattle.al_lex.specs.declared.fault.LexReason.{LexReason}
use Rattle.al_lex.specs.declared.fault.LexReason.TheVariants as r
use Rattle.al_lex.specs.declared.scan.Found.{Found}
use Rattle.al_lex.specs.declared.scan.Flaw.{Flaw}
use Rattle.al_lex.specs.declared.class.ByteClass.{ByteClass}
use Rattle.al_lex.specs.declared.class.ByteClass.TheVariants as c
use Rattle.al_lex.specs.declared.string.StringEnd.{StringEnd}
use Rattle.al_lex.specs.declared.string.StringEnd.TheVariants as s
use Rattle.al_lex.specs.Bytes.{line_feed, quote, apostrophe, backslash, is_space, is_blank, is_letter, is_digit, is_octal, is_hex, is_name_byte, is_in_line, is_plain, is_file_byte, value_of}
use Rattle.al_lex.specs.Spelling.{Spelled, reserved, operators}

abbrev pub Answer : Type 0
Answer = Result Found Flaw

abbrev pub found : PieceKind → ℕ → Answer
found kind n = Ok (record { kind = kind; len = n })

abbrev pub flaw : LexReason → ℕ → Answer
flaw reason n = Err (record { reason = reason; offset = n })

-- what a piece begins with decides how it is read
abbrev pub class : ℕ → ByteClass
class b =
    if is_blank b then c.Blank
    else (if is_letter b then c.Letter
    else (if is_digit b then c.Digit
    else (if b == quote then c.Quote
    else (if b == apostrophe then c.Apostrophe
    else (if b == 35 then c.Hash
    else (if b == 47 then c.Slash
    else c.Other))))))

-- whether the text begins with the byte
abbrev pub first_is : ℕ → List ℕ → Bool
first_is byte [] = false
first_is byte (b ∷ bs) = b == byte

-- ---- words and operators

abbrev pub look_up : List Spelled → List ℕ → Option TokenKind
look_up [] u = None
look_up (row ∷ rows) u = if pointwise nat_eq row.0 u then Some row.1 else look_up rows u

abbrev pub scan_word : List ℕ → Answer
scan_word ts = let n = prefix_len is_name_byte ts in found (p.Token (unwrap_or (look_up reserved (take n ts)) k.Name)) n

-- the first row of the table that begins the text
abbrev pub first_of : List Spelled → List ℕ → Option Spelled
first_of [] ts = None
first_of (row ∷ rows) ts = if starts_with nat_eq ts row.0 then Some row else first_of rows ts

abbrev pub operator_found : Option Spelled → Answer
operator_found None = flaw r.BadChar 0
operator_found (Some row) = found (p.Token row.1) (length row.0)

unfoldable pub scan_operator : List ℕ → Answer
scan_operator ts = operator_found (first_of operators ts)

-- ---- numbers

-- the base of a number, its digits, and how many bytes it takes
abbrev pub numeral : List ℕ → ℕ × List ℕ × ℕ
numeral ts =
    if starts_with nat_eq ts (codes "0x") && nat_lt 0 (prefix_len is_hex (drop 2 ts)) then (16, take_while is_hex (drop 2 ts), 2 + prefix_len is_hex (drop 2 ts))
    else (if first_is 48 ts then (8, take_while is_octal ts, prefix_len is_octal ts)
    else (10, take_while is_digit ts, prefix_len is_digit ts))

-- the value, where it is below 2^64
abbrev pub fitting : ℕ → Option ℕ
fitting v = if nat_lt v (2 ^ 64) then Some v else None

abbrev pub number_found : Option ℕ → ℕ → Answer
number_found None n = flaw r.NumberTooBig 0
number_found (Some v) n = found (p.Token k.Number) n

abbrev pub scan_number : List ℕ → Answer
scan_number ts = let n = numeral ts in number_found (fitting (value_of n.0 n.1)) n.2

-- ---- character constants and strings

abbrev pub is_escape_letter : ℕ → Bool
is_escape_letter b = list_any (λ e. e == b) (codes "nrtbfav" ++ backslash ∷ quote ∷ apostrophe ∷ [])

-- how many octal digits an escape takes
abbrev pub octal_len : List ℕ → ℕ
octal_len ts = let n = min 3 (prefix_len is_octal ts) in if n == 3 && nat_le 52 (slice_index ts 0) then 2 else n

-- how many bytes an escape takes behind its `\`; 0 where there is none
abbrev pub escape_len : List ℕ → ℕ
escape_len [] = 0
escape_len (b ∷ bs) =
    if is_escape_letter b then 1
    else (if b == 120 then (if nat_lt 0 (prefix_len is_hex bs) then 1 + min 2 (prefix_len is_hex bs) else 0)
    else octal_len (b ∷ bs))

abbrev pub begins_escape : List ℕ → Bool
begins_escape ts = nat_lt 0 (escape_len ts)

-- the byte that an escape of one letter stands for
abbrev pub letter_byte : ℕ → ℕ
letter_byte b =
    if b == 110 then 10
    else (if b == 114 then 13
    else (if b == 116 then 9
    else (if b == 98 then 8
    else (if b == 102 then 12
    else (if b == 97 then 7
    else (if b == 118 then 11
    else b))))))

abbrev pub small_byte : ℕ → ℕ
small_byte v = if nat_lt v 256 then v else 0

-- the byte that the escape behind a `\` stands for
abbrev pub escape_byte : List ℕ → ℕ
escape_byte [] = 0
escape_byte (b ∷ bs) =
    if is_escape_letter b then letter_byte b
    else (if b == 120 then small_byte (value_of 16 (take_while is_hex bs))
    else small_byte (value_of 8 (take_while is_octal (b ∷ bs))))

-- the byte that stands behind the `'` of a constant
abbrev pub constant_byte : List ℕ → ℕ
constant_byte [] = 0
constant_byte (b ∷ bs) = if b == backslash then escape_byte bs else b

-- the constant whose byte takes `n` bytes and ends before `rest`
abbrev pub closed : ℕ → List ℕ → Answer
closed n rest = if first_is apostrophe rest then found (p.Token k.Char) (n + 2) else flaw r.BadChar 0

-- what stands behind the `'`
abbrev pub char_from : List ℕ → Answer
char_from [] = flaw r.BadChar 0
char_from (b ∷ bs) =
    if b == backslash then (if begins_escape bs then closed (escape_len bs + 1) (drop (escape_len bs) bs) else flaw r.BadEscape 1)
    else (if is_plain apostrophe b then closed 1 bs else flaw r.BadChar 0)

abbrev pub scan_char : List ℕ → Answer
scan_char ts = char_from (drop 1 ts)

abbrev pub onward : ℕ → StringEnd → StringEnd
onward n (s.Closed at) = s.Closed (n + at)
onward n s.Open = s.Open
onward n (s.WrongEscape at) = s.WrongEscape (n + at)

-- where the string ends behind its `"`. A byte behind a `\` is passed over
abbrev pub string_from : Bool → List ℕ → StringEnd
string_from passed [] = s.Open
string_from true (b ∷ bs) = onward 1 (string_from false bs)
string_from false (b ∷ bs) =
    if b == quote then s.Closed 1
    else (if b == line_feed then s.Open
    else (if b == backslash then (if begins_escape bs then onward 1 (string_from true bs) else s.WrongEscape 0)
    else onward 1 (string_from false bs)))

-- how far behind the `"` that is
abbrev pub reach_of : StringEnd → ℕ
reach_of (s.Closed n) = n
reach_of s.Open = 0
reach_of (s.WrongEscape n) = n

abbrev pub string_found : StringEnd → Answer
string_found (s.Closed n) = found (p.Token k.Text) (n + 1)
string_found s.Open = flaw r.OpenString 0
string_found (s.WrongEscape n) = flaw r.BadEscape (n + 1)

abbrev pub scan_string : List ℕ → Answer
scan_string ts = string_found (string_from false (drop 1 ts))

-- ---- comments

-- how many bytes there are up to the end of the next `*/`
abbrev pub comment_end : List ℕ → Option ℕ
comment_end [] = None
comment_end (b ∷ bs) = if starts_with nat_eq (b ∷ bs) (codes "*/") then Some 2 else option_map (λ n. 1 + n) (comment_end bs)

abbrev pub block_found : Option ℕ → Answer
block_found None = flaw r.OpenComment 0
block_found (Some n) = found p.Comment (n + 2)

abbrev pub scan_slash : List ℕ → Answer
scan_slash ts =
    if first_is 47 (drop 1 ts) then found p.Comment (prefix_len is_in_line ts)
    else (if first_is 42 (drop 1 ts) then block_found (comment_end (drop 2 ts))
    else scan_operator ts)

-- ---- skipped lines

abbrev pub Left : Type 0
Left = Option (List ℕ)

-- what is left behind these bytes
abbrev pub behind : List ℕ → List ℕ → Left
behind u ts = if starts_with nat_eq ts u then Some (drop (length u) ts) else None

-- what is left behind a run of at least one
abbrev pub behind_some : (ℕ → Bool) → List ℕ → Left
behind_some test ts = if nat_lt 0 (prefix_len test ts) then Some (drop (prefix_len test ts) ts) else None

-- what is left behind a name in quotes
abbrev pub behind_name : List ℕ → Left
behind_name ts = let rest = drop (1 + prefix_len is_file_byte (drop 1 ts)) ts in if first_is quote ts && first_is quote rest then Some (drop 1 rest) else None

abbrev pub ends_line : List ℕ → Bool
ends_line [] = true
ends_line (b ∷ bs) = b == line_feed

-- what is left behind blanks, if the line ends there
abbrev pub behind_line : List ℕ → Left
behind_line ts = let rest = drop (prefix_len is_space ts) ts in if ends_line rest then Some rest else None

unfoldable pub behind_include : List ℕ → Left
behind_include ts = option_and_then behind_line (option_and_then (behind (codes "<alef.h>")) (option_and_then (behind_some is_space) (behind (codes "#include") ts)))

unfoldable pub behind_origin : List ℕ → List ℕ → Left
behind_origin head ts = option_and_then behind_line (option_and_then behind_name (option_and_then (behind_some is_space) (option_and_then (behind_some is_digit) (option_and_then (behind_some is_space) (behind head ts)))))

abbrev pub or_else : Left → Left → Left
or_else None o = o
or_else (Some rest) o = Some rest

abbrev pub behind_directive : List ℕ → Left
behind_directive ts = or_else (behind_include ts) (or_else (behind_origin (codes "#line") ts) (behind_origin (codes "#") ts))

abbrev pub directive_found : List ℕ → Left → Answer
directive_found ts None = flaw r.BadChar 0
directive_found ts (Some rest) = found p.Skipped (length ts - length rest)

abbrev pub scan_directive : Bool → List ℕ → Answer
scan_directive fresh ts = if fresh then directive_found ts (behind_directive ts) else flaw r.BadChar 0

-- ---- all

abbrev pub scan_class : Bool → ByteClass → List ℕ → Answer
scan_class fresh c.Blank ts = found p.Blank 1
scan_class fresh c.Letter ts = scan_word ts
scan_class fresh c.Digit ts = scan_number ts
scan_class fresh c.Quote ts = scan_string ts
scan_class fresh c.Apostrophe ts = scan_char ts
scan_class fresh c.Hash ts = scan_directive fresh ts
scan_class fresh c.Slash ts = scan_slash ts
scan_class fresh c.Other ts = scan_operator ts

-- what stands at the front of a text that is not empty
abbrev pub scan : Bool → List ℕ → Answer
scan fresh ts = scan_class fresh (class (slice_index ts 0)) ts

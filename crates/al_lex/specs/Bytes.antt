-- Kinds of bytes, and the values of digits.
use Rattle.std.specs.Prelude.{ℕ, ◌+◌, ◌-◌, ◌*◌, ◌==◌, nat_le, Bool, ◌&&◌, ◌||◌, not, if◌then◌else◌, List, [], ◌∷◌}
use Rattle.std.specs.Char.{is_ascii_alphabetic, is_ascii_digit, is_ascii_hexdigit}

abbrev pub line_feed : ℕ
line_feed = 10

abbrev pub quote : ℕ
quote = 34

abbrev pub apostrophe : ℕ
apostrophe = 39

abbrev pub backslash : ℕ
backslash = 92

-- space, tab, carriage return and form feed: the blanks within a line
abbrev pub is_space : ℕ → Bool
is_space b = b == 32 || b == 9 || b == 13 || b == 12

abbrev pub is_blank : ℕ → Bool
is_blank b = is_space b || b == line_feed

abbrev pub is_letter : ℕ → Bool
is_letter b = is_ascii_alphabetic b || b == 95

abbrev pub is_digit : ℕ → Bool
is_digit = is_ascii_digit

abbrev pub is_octal : ℕ → Bool
is_octal b = nat_le 48 b && nat_le b 55

abbrev pub is_hex : ℕ → Bool
is_hex = is_ascii_hexdigit

-- what a name goes on with
abbrev pub is_name_byte : ℕ → Bool
is_name_byte b = is_letter b || is_digit b

-- what stands on the same line
abbrev pub is_in_line : ℕ → Bool
is_in_line b = not (b == line_feed)

-- what stands for itself in a constant or a string that ends with the byte `end`
abbrev pub is_plain : ℕ → ℕ → Bool
is_plain end b = not (b == end) && (not (b == backslash) && is_in_line b)

-- what may stand in the name of a skipped line
abbrev pub is_file_byte : ℕ → Bool
is_file_byte b = not (b == quote) && is_in_line b

-- the value of a digit, in either case of the letters
abbrev pub digit_value : ℕ → ℕ
digit_value b = if nat_le b 57 then b - 48 else (if nat_le b 70 then b - 55 else b - 87)

-- the value of digits to a base, where the digits before them have the value `high`
abbrev pub value_after : ℕ → ℕ → List ℕ → ℕ
value_after base high [] = high
value_after base high (d ∷ ds) = value_after base (high * base + digit_value d) ds

abbrev pub value_of : ℕ → List ℕ → ℕ
value_of base ds = value_after base 0 ds

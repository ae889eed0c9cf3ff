-- The values of number tokens, character constants and strings.
use Rattle.std.specs.Prelude.{◌≡◌, ℕ, zero, suc, ◌^◌, ◌≤◌, ◌==◌, nat_lt, if◌then◌else◌, List, [], ◌∷◌, ◌++◌, length, take, drop, Option, Some}
use Rattle.al_lex.specs.Bytes.{apostrophe, quote, backslash, value_of}
use Rattle.al_lex.specs.Pieces.{IsNumber, IsItem}
use Rattle.al_lex.specs.Scan.{numeral, fitting, escape_len, escape_byte, constant_byte}
use Rattle.al_lex.specs.TokenList.{bytes_of}
use Rattle.al_lex.specs.declared.kind.TokenKind.TheVariants as k
use Rattle.al_lex.specs.declared.token.Token.{Token}
use Rattle.al_base.specs.declared.arith.Kind.{Kind}
use Rattle.al_base.specs.declared.arith.Kind.TheVariants.{Int, Uint, Lint, Ulint}

-- the type of a number: the first of int, uint, lint and ulint that has its value
abbrev pub kind_of_value : ℕ → Kind
kind_of_value v = if nat_lt v (2 ^ 31) then Int else (if nat_lt v (2 ^ 32) then Uint else (if nat_lt v (2 ^ 63) then Lint else Ulint))

-- ---- relations

-- a character constant as written, and the byte that it stands for
pub record IsConstant (bytes : List ℕ) (v : ℕ) : Type 0 where
  pub inside : List ℕ
  pub is : bytes ≡ apostrophe ∷ (inside ++ apostrophe ∷ [])
  pub item : IsItem apostrophe inside v

-- the longest byte or escape that begins the text, inside a constant or string that ends with `end`
pub record IsLongestItem (end : ℕ) (text u : List ℕ) (v : ℕ) : Type 0 where
  pub rest : List ℕ
  pub cut : text ≡ u ++ rest
  pub is : IsItem end u v
  pub longest : (w rest : List ℕ) (x : ℕ) → text ≡ w ++ rest → IsItem end w x → length w ≤ length u

-- what stands behind the quote that opens a string, up to and with the quote that closes it, and the bytes that it
-- stands for
pub data StandsFor : List ℕ → List ℕ → Type 0 where
  closes : StandsFor (quote ∷ []) []
  item : {u rest vs : List ℕ} {v : ℕ} → IsLongestItem quote (u ++ rest) u v → StandsFor rest vs → StandsFor (u ++ rest) (v ∷ vs)

-- a string as written, and the bytes that it stands for, without the final 0
pub record IsString (bytes values : List ℕ) : Type 0 where
  pub inside : List ℕ
  pub is : bytes ≡ quote ∷ inside
  pub stands : StandsFor inside values

-- ---- the same, computed

-- the value of a number as written, where it is below 2^64
abbrev pub number_of : List ℕ → Option ℕ
number_of bytes = fitting (value_of (numeral bytes).0 (numeral bytes).1)

-- the byte of a character constant as written
abbrev pub byte_of : List ℕ → ℕ
byte_of bytes = constant_byte (drop 1 bytes)

-- the bytes of what stands behind the quote that opens a string, up to the quote that closes it; the first ones are
-- skipped, since they belong to an escape before them
unfoldable pub text_from : (skipped : ℕ) → List ℕ → List ℕ
text_from skipped [] = []
text_from (suc n) (b ∷ bs) = text_from n bs
text_from zero (b ∷ bs) =
    if b == quote then []
    else (if b == backslash then escape_byte (take (escape_len bs) bs) ∷ text_from (escape_len bs) bs
    else b ∷ text_from zero bs)

-- the bytes of a string as written
abbrev pub text_of : List ℕ → List ℕ
text_of bytes = text_from 0 (drop 1 bytes)

-- ---- tokens

pub record IsNumberToken (bytes : List ℕ) : Type 0 where
  pub value : ℕ
  pub is : IsNumber bytes value
  pub computed : number_of bytes ≡ Some value

-- the token stands for what is computed of its bytes
pub record HasValue (text : List ℕ) (t : Token) : Type 0 where
  pub number : t.kind ≡ k.Number → IsNumberToken (bytes_of text t)
  pub constant : t.kind ≡ k.Char → IsConstant (bytes_of text t) (byte_of (bytes_of text t))
  pub string : t.kind ≡ k.Text → IsString (bytes_of text t) (text_of (bytes_of text t))

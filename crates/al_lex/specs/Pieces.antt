-- The pieces of a text: blanks, comments, skipped lines and tokens.
use Rattle.std.specs.Prelude.{◌≡◌, ◌≢◌, ℕ, ◌≤◌, Bool, true, List, [], ◌∷◌, ◌++◌, length, codes}
use Rattle.std.specs.List.{list_all}
use Rattle.al_lex.specs.declared.kind.TokenKind.{TokenKind}
use Rattle.al_lex.specs.declared.kind.TokenKind.TheVariants as k
use Rattle.al_lex.specs.declared.kind.PieceKind.{PieceKind}
use Rattle.al_lex.specs.declared.kind.PieceKind.TheVariants as p
use Rattle.al_lex.specs.Bytes.{line_feed, quote, apostrophe, backslash, is_space, is_blank, is_letter, is_digit, is_octal, is_hex, is_name_byte, is_in_line, is_plain, is_file_byte, value_of}
use Rattle.al_lex.specs.Spelling.{reserved, operators}

-- x is one of the list
pub data In {A : Type 0} : A → List A → Type 0 where
  here : {x : A} {xs : List A} → In x (x ∷ xs)
  there : {x y : A} {xs : List A} → In x xs → In x (y ∷ xs)

-- the bytes `w` stand somewhere in `text`
pub record Occurs (w text : List ℕ) : Type 0 where
  pub front : List ℕ
  pub back : List ℕ
  pub is : text ≡ front ++ (w ++ back)

-- ---- names and numbers

-- a letter or `_`, and then letters, digits and `_`
pub data IsWord : List ℕ → Type 0 where
  word : (b : ℕ) (bs : List ℕ) → is_letter b ≡ true → list_all is_name_byte bs ≡ true → IsWord (b ∷ bs)

-- a number, and its value
pub data IsNumber : List ℕ → ℕ → Type 0 where
  hexadecimal : (d : ℕ) (ds : List ℕ) → list_all is_hex (d ∷ ds) ≡ true → IsNumber (codes "0x" ++ d ∷ ds) (value_of 16 (d ∷ ds))
  octal : (ds : List ℕ) → list_all is_octal ds ≡ true → IsNumber (codes "0" ++ ds) (value_of 8 ds)
  decimal : (d : ℕ) (ds : List ℕ) → list_all is_digit (d ∷ ds) ≡ true → d ≢ 48 → IsNumber (d ∷ ds) (value_of 10 (d ∷ ds))

-- ---- character constants and strings

-- the letters of the escapes of one letter, and the bytes that these stand for
abbrev pub escapes : List (ℕ × ℕ)
escapes =
    (110, 10) ∷ (114, 13) ∷ (116, 9) ∷ (98, 8) ∷ (102, 12) ∷ (97, 7) ∷ (118, 11) ∷
    (backslash, backslash) ∷ (quote, quote) ∷ (apostrophe, apostrophe) ∷ []

-- what may follow a `\`, and the byte that it stands for
pub data IsEscape : List ℕ → ℕ → Type 0 where
  letter : {b v : ℕ} → In (b, v) escapes → IsEscape (b ∷ []) v
  octal_byte : (ds : List ℕ) → 1 ≤ length ds → length ds ≤ 3 → list_all is_octal ds ≡ true → value_of 8 ds ≤ 255 → IsEscape ds (value_of 8 ds)
  hex_byte : (ds : List ℕ) → 1 ≤ length ds → length ds ≤ 2 → list_all is_hex ds ≡ true → IsEscape (codes "x" ++ ds) (value_of 16 ds)

-- one byte of a constant or string that ends with `end`: as written, and what it stands for
pub data IsItem (end : ℕ) : List ℕ → ℕ → Type 0 where
  plain : (b : ℕ) → is_plain end b ≡ true → IsItem end (b ∷ []) b
  escape : {u : List ℕ} {v : ℕ} → IsEscape u v → IsItem end (backslash ∷ u) v

-- what may stand between the quotes of a string
pub data IsBody : List ℕ → Type 0 where
  empty : IsBody []
  item : {u more : List ℕ} {v : ℕ} → IsItem quote u v → IsBody more → IsBody (u ++ more)

-- ---- tokens, comments and skipped lines

-- the bytes of a token of the kind
pub data IsToken : TokenKind → List ℕ → Type 0 where
  name : {u : List ℕ} → IsWord u → ((kind : TokenKind) → ¬ In (u, kind) reserved) → IsToken k.Name u
  reserved_word : {u : List ℕ} {kind : TokenKind} → In (u, kind) reserved → IsToken kind u
  operator : {u : List ℕ} {kind : TokenKind} → In (u, kind) operators → IsToken kind u
  number : {u : List ℕ} {v : ℕ} → IsNumber u v → IsToken k.Number u
  character : {u : List ℕ} {v : ℕ} → IsItem apostrophe u v → IsToken k.Char (apostrophe ∷ (u ++ apostrophe ∷ []))
  string : {u : List ℕ} → IsBody u → IsToken k.Text (quote ∷ (u ++ quote ∷ []))

-- from `/*` to the next `*/`, or from `//` on within the line
pub data IsComment : List ℕ → Type 0 where
  block : (body : List ℕ) → ¬ Occurs (codes "*/") (body ++ codes "*") → IsComment (codes "/*" ++ (body ++ codes "*/"))
  line : (body : List ℕ) → list_all is_in_line body ≡ true → IsComment (codes "//" ++ body)

-- blanks between two parts of a line: at least one
pub record IsGap (s : List ℕ) : Type 0 where
  pub some : 1 ≤ length s
  pub spaces : list_all is_space s ≡ true

-- N "name", with a blank at least between them: decimal digits, and bytes without `"` and line feed
pub data IsOrigin : List ℕ → Type 0 where
  origin : (ds s name : List ℕ) → 1 ≤ length ds → list_all is_digit ds ≡ true → IsGap s → list_all is_file_byte name ≡ true → IsOrigin (ds ++ (s ++ (quote ∷ (name ++ quote ∷ []))))

-- a line that is skipped, from its `#` on: `#include <alef.h>`, `#line N "name"` or `# N "name"`, and blanks behind it
pub data IsDirective : List ℕ → Type 0 where
  include : (s end : List ℕ) → IsGap s → list_all is_space end ≡ true → IsDirective (codes "#include" ++ (s ++ (codes "<alef.h>" ++ end)))
  line_of : (s : List ℕ) {o : List ℕ} (end : List ℕ) → IsGap s → IsOrigin o → list_all is_space end ≡ true → IsDirective (codes "#line" ++ (s ++ (o ++ end)))
  origin_of : (s : List ℕ) {o : List ℕ} (end : List ℕ) → IsGap s → IsOrigin o → list_all is_space end ≡ true → IsDirective (codes "#" ++ (s ++ (o ++ end)))

-- the line ends here
pub data EndsLine : List ℕ → Type 0 where
  text_ends : EndsLine []
  line_ends : {rest : List ℕ} → EndsLine (line_feed ∷ rest)

-- a piece, where `fresh` says that only spaces and tabs stand before it on its line, and `rest` stands behind it
pub data IsPiece (fresh : Bool) : PieceKind → List ℕ → List ℕ → Type 0 where
  blank : (b : ℕ) {rest : List ℕ} → is_blank b ≡ true → IsPiece fresh p.Blank (b ∷ []) rest
  comment : {u rest : List ℕ} → IsComment u → IsPiece fresh p.Comment u rest
  skipped : {u rest : List ℕ} → fresh ≡ true → IsDirective u → EndsLine rest → IsPiece fresh p.Skipped u rest
  token : {kind : TokenKind} {u rest : List ℕ} → IsToken kind u → IsPiece fresh (p.Token kind) u rest

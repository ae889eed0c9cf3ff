-- Lists of file names, and the first line at which a text is none. The form is this project's choice.
use Rattle.std.specs.Prelude.{◌≡◌, ◌≢◌, ℕ, ◌+◌, ◌≤◌, List, [], ◌∷◌, ◌++◌, length, All, Result, Ok, Err}
use Rattle.std.specs.List.{flat_map}
use Rattle.std.specs.Str.{IsUtf8}
use Rattle.al_link_lists.specs.declared.stop.ListStop.{ListStop}
use Rattle.al_link_lists.specs.declared.stop.ListStop.TheVariants.{Line, NoMemory}

abbrev pub line_feed : ℕ
line_feed = 10

-- the most names of a list
abbrev pub most : ℕ
most = 64

-- 1 to 255 bytes of UTF-8 on one line
pub record IsFileName (name : List ℕ) : Type 0 where
  pub some : 1 ≤ length name
  pub few : length name ≤ 255
  pub is_text : IsUtf8 name
  pub one_line : All (λ byte. byte ≢ line_feed) name

-- a name and a line feed
abbrev pub line_of : List ℕ → List ℕ
line_of name = name ++ line_feed ∷ []

abbrev pub list_text : List (List ℕ) → List ℕ
list_text names = flat_map line_of names

-- the text is the list of these names
pub record IsList (text : List ℕ) (names : List (List ℕ)) : Type 0 where
  pub whole : text ≡ list_text names
  pub right : All IsFileName names
  pub some : 1 ≤ length names
  pub few : length names ≤ most

-- no line that is right is at the front
abbrev pub HasNoLine : List ℕ → Type 0
HasNoLine rest = (name more : List ℕ) → IsFileName name → rest ≡ name ++ line_feed ∷ more → ⊥

-- The lines of these names are right, and the next line is not: it is no name's, or the list is full. The text has a next
-- line where bytes are left; an empty text has the one line 1.
pub record IsWrongAfter (text : List ℕ) (names : List (List ℕ)) : Type 0 where
  pub rest : List ℕ
  pub parts : text ≡ list_text names ++ rest
  pub right : All IsFileName names
  pub few : length names ≤ most
  pub next : rest ≡ [] → names ≡ []
  pub wrong : length names ≢ most → HasNoLine rest

-- line k, from 1, is the first that is wrong
pub record IsWrongLine (text : List ℕ) (k : ℕ) : Type 0 where
  pub names : List (List ℕ)
  pub number : k ≡ length names + 1
  pub is : IsWrongAfter text names

-- the names of a text, or the first line that is wrong
abbrev pub IsReading : List ℕ → Result (List (List ℕ)) ListStop → Type 0
IsReading text (Ok names) = IsList text names
IsReading text (Err (Line k)) = IsWrongLine text k
IsReading text (Err NoMemory) = Unit {0}

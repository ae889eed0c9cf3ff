-- What a reader has read of a text: whole lines, and the beginning of the next one.
use Rattle.std.specs.Prelude.{◌≡◌, ◌≢◌, ◌+◌, ◌<◌, ◌≤◌, ℕ, Bool, true, false, List, [], ◌∷◌, ◌++◌, length, take, All}
use Rattle.al_event.specs.declared.entry.Entry.{Entry}
use Rattle.al_trace.specs.declared.lines.Lines.{Lines}
use Rattle.al_trace.specs.Schedule.{schedule_text, IsEntry, most}

-- the whole lines: none, or the first one and those of the entries
abbrev pub whole_lines : (started : Bool) → List Entry → List ℕ
whole_lines true h = schedule_text h
whole_lines false h = []

-- the line that was begun, from 1
abbrev pub line_number : (started : Bool) → ℕ → ℕ
line_number true n = n + 2
line_number false n = 1

abbrev pub number_of : Lines → ℕ
number_of l = line_number l.started (length l.entries)

-- all that was read
abbrev pub text_of : Lines → List ℕ
text_of l = whole_lines l.started l.entries ++ take l.len l.line

-- a byte is not among these
abbrev pub HasNo : ℕ → List ℕ → Type 0
HasNo one bytes = All (λ byte. byte ≢ one) bytes

-- whole lines that are right
pub record AreLines (l : Lines) : Type 0 where
  pub entries : All IsEntry l.entries
  pub few : length l.entries ≤ most
  pub none : l.started ≡ false → l.entries ≡ []
  pub size : length l.line ≡ 20

-- right lines, and the beginning of one more
pub record IsPart (l : Lines) : Type 0 where
  pub lines : AreLines l
  pub short : l.len < 20
  pub no_feed : HasNo 10 (take l.len l.line)
  pub room : 0 < l.len → length l.entries < most

-- right lines, and one more with its line feed
pub record IsWhole (l : Lines) : Type 0 where
  pub lines : AreLines l
  pub short : l.len ≤ 20
  pub ended : (line : List ℕ) × HasNo 10 line × (take l.len l.line ≡ line ++ 10 ∷ [])
  pub room : length l.entries < most

-- What is promised of the world outside: what hosts and sinks tell, and how they count their faults.
use Rattle.std.specs.Prelude.{◌≡◌, ℕ, ◌-◌, ◌^◌, ◌<◌, ◌≤◌, ◌⊎◌, ◌↔◌, if◌then◌else◌, List, [], ◌∷◌, ◌++◌, length, take, drop, Option, Some, None, Result, OnOk, OnErr}
use Rattle.std.specs.Str.{bytes_eq}

-- ---- faults

-- there was a fault: the count rose, or stands at its last value
abbrev pub Faulted : ℕ → ℕ → Type 0
Faulted before after = (before < after) ⊎ (after ≡ 2 ^ 64 - 1)

-- a call's count of faults never falls, stays where the answer is Ok, and rises within 64 bits
pub record Counts {T E : Type 0} (before after : ℕ) (result : Result T E) : Type 0 where
  pub later : before ≤ after
  pub ok : OnOk result (after ≡ before)
  pub bounded : OnErr result (after < 2 ^ 64)

-- ---- what is told

-- a fact of what an object tells before and after a call; nothing where it doesn't tell
abbrev pub WhereTold : {A : Type 0} → (A → A → Type 0) → Option A → Option A → Type 0
WhereTold P (Some before) (Some after) = P before after
WhereTold P None None = Unit {0}
WhereTold P (Some before) None = ⊥
WhereTold P None (Some after) = ⊥

-- the texts of a host with their names, and what is left of the one that was found
pub record Content : Type 0 where
  pub texts : List (List ℕ × List ℕ)
  pub left : List ℕ

-- the text of that name: of two with one name the first counts
abbrev pub text_under : List ℕ → List (List ℕ × List ℕ) → Option (List ℕ)
text_under name [] = None
text_under name (text ∷ more) = if bytes_eq text.0 name then Some text.1 else text_under name more

-- the text of that name is what is left now
pub record Finds (name : List ℕ) (before after : Content) : Type 0 where
  pub text : text_under name before.texts ≡ Some after.left
  pub same : after.texts ≡ before.texts

-- nothing is left
pub record LeavesNothing (before after : Content) : Type 0 where
  pub nothing : after.left ≡ []
  pub same : after.texts ≡ before.texts

-- n bytes of what was left moved to the front of a buffer; none exactly where none was left
pub record Reads (n : ℕ) (buffer : List ℕ) (before after : Content) : Type 0 where
  pub part : n ≤ length before.left
  pub bytes : take n buffer ≡ take n before.left
  pub rest : after.left ≡ drop n before.left
  pub end : 0 < length buffer → (n ≡ 0) ↔ (before.left ≡ [])
  pub same : after.texts ≡ before.texts

-- a host that tells its texts has none of that name
abbrev pub Lacks : List ℕ → Option Content → Type 0
Lacks name (Some content) = text_under name content.texts ≡ None
Lacks name None = ⊥

-- the first n bytes of a piece came behind what a sink had
abbrev pub Gets : ℕ → List ℕ → List ℕ → List ℕ → Type 0
Gets n piece before after = after ≡ before ++ take n piece

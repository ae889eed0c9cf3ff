-- Which texts are accepted, with which program, and when a text is refused for what.
use Rattle.std.specs.Prelude.{◌≡◌, ℕ, ◌<◌, ◌≤◌, ◌^◌, ◌+◌, ◌⊎◌, ⊤, List, [], length, true, Some, None, Result, Ok, Err}
use Rattle.al_lex.specs.declared.token.Token.{Token}
use Rattle.al_lex.specs.Cut.{Stuck}
use Rattle.al_lex.specs.Written.{IsCutInto}
use Rattle.al_tree.specs.declared.item.Tree.{Tree}
use Rattle.al_tree.specs.declared.fault.ParseFault.{ParseFault}
use Rattle.al_tree.specs.Tree.{IsParseFault}
use Rattle.al_parse_stmt.specs.Calls.{IsText}
use Rattle.al_rules.specs.declared.fault.TypeFault.{TypeFault}
use Rattle.al_rules.specs.declared.fault.TypeStop.TheVariants as typing
use Rattle.al_rules.specs.Outcome.{Outcome, Good, permits}
use Rattle.al_poly.specs.declared.fault.PolyFault.{PolyFault}
use Rattle.al_poly.specs.Answers.{IsFault}
use Rattle.al_poly.specs.Instances.{instances, misuses}
use Rattle.al_typed.specs.declared.limit.Limit.{Limit}
use Rattle.al_typed.specs.declared.limit.Limit.TheVariants as limit
use Rattle.al_typed.specs.declared.program.Program.{Program}
use Rattle.al_typed.specs.Measures.{wide, weight, greatest_weight, slots, weighed, IsWithin}
use Rattle.al_check.specs.Checked.{check}
use Rattle.al_type_limits.specs.Limits.{passed}
use Rattle.al_front.specs.Stops.{of_uses}
use Rattle.al_front.specs.declared.refused.Refused.{Refused}
use Rattle.al_front.specs.declared.refused.Refused.TheVariants as refused
use Rattle.al_front.specs.declared.refused.FrontStop.{FrontStop}
use Rattle.al_front.specs.declared.refused.FrontStop.TheVariants as stop

-- the most bytes of a text
abbrev pub most : ℕ
most = 2 ^ 20

-- the tree of a text, of at most 200 levels
pub record IsRead (text : List ℕ) (tree : Tree) : Type 0 where
  pub short : length text ≤ most
  pub tokens : List Token
  pub cut : IsCutInto text tokens
  pub is : IsText (record { list = tokens; text = text }) tree

-- the typed program of a tree: its types are within the limits, it has at most 256 instances, and no node breaks a typing rule
pub record IsTyped (tree : Tree) (p : Program) : Type 0 where
  pub small : passed tree.items ≡ None
  pub few : length (instances tree.items) ≤ 256
  pub used : misuses tree.items ≡ []
  pub good : check tree (instances tree.items) ≡ Good p

-- the text is accepted, and that is its program
pub record IsAccepted (text : List ℕ) (p : Program) : Type 0 where
  pub tree : Tree
  pub read : IsRead text tree
  pub typed : IsTyped tree p

-- ---- refusals

-- the tokens have no tree of at most 200 levels, and the fault names one of them
pub record LacksTree (text : List ℕ) (fault : ParseFault) : Type 0 where
  pub short : length text ≤ most
  pub tokens : List Token
  pub cut : IsCutInto text tokens
  pub named : IsParseFault (record { list = tokens; text = text }) fault
  pub none : (tree : Tree) → IsText (record { list = tokens; text = text }) tree → ⊥

-- a use of an adt with parameters breaks rule 13 or 14, or there are more than 256 instances; types are within the limits
pub record IsMisused (tree : Tree) (r : Refused) : Type 0 where
  pub small : passed tree.items ≡ None
  pub fault : PolyFault
  pub is : IsFault tree.items fault
  pub refuses : r ≡ of_uses fault

-- a node breaks another rule
pub record IsBroken (tree : Tree) (f : TypeFault) : Type 0 where
  pub small : passed tree.items ≡ None
  pub few : length (instances tree.items) ≤ 256
  pub used : misuses tree.items ≡ []
  pub broken : permits (check tree (instances tree.items)) (typing.Fault f) ≡ true

-- the program passes a limit, and none before it
pub record IsPassed (tree : Tree) (l : Limit) : Type 0 where
  pub program : Program
  pub typed : IsTyped tree program
  pub passed : weighed (wide program) (weight program) (greatest_weight program) (slots program) ≡ Err l

-- the first limit that a program passes stops the front end
pub record Passes (p : Program) (s : FrontStop) : Type 0 where
  pub limit : Limit
  pub is : s ≡ stop.Refused (refused.Limit limit)
  pub passed : weighed (wide p) (weight p) (greatest_weight p) (slots p) ≡ Err limit

-- what refuses a tree
abbrev pub IsTreeRefused : Tree → Refused → Type 0
IsTreeRefused tree (refused.Lex f) = ⊥
IsTreeRefused tree (refused.Parse f) = ⊥
IsTreeRefused tree (refused.Types l) = passed tree.items ≡ Some l
IsTreeRefused tree (refused.Typing f) = IsMisused tree (refused.Typing f) ⊎ IsBroken tree f
IsTreeRefused tree (refused.Limit l) = IsMisused tree (refused.Limit l) ⊎ IsPassed tree l

-- the text has a tree, and this is refused
pub record IsTextRefused (text : List ℕ) (r : Refused) : Type 0 where
  pub tree : Tree
  pub read : IsRead text tree
  pub refuses : IsTreeRefused tree r

-- the text has too many bytes
abbrev pub IsLong : List ℕ → Limit → Type 0
IsLong text l = (most < length text) × (l ≡ limit.Long (most + 1))

abbrev pub IsRefused : List ℕ → Refused → Type 0
IsRefused text (refused.Lex f) = (length text ≤ most) × Stuck text f.reason f.byte
IsRefused text (refused.Parse f) = LacksTree text f
IsRefused text (refused.Types l) = IsTextRefused text (refused.Types l)
IsRefused text (refused.Typing f) = IsTextRefused text (refused.Typing f)
IsRefused text (refused.Limit l) = IsLong text l ⊎ IsTextRefused text (refused.Limit l)

-- ---- answers of code

-- of a tree; want of memory may come at any place
abbrev pub AnswersTree : Tree → Result Program FrontStop → Type 0
AnswersTree tree (Ok p) = IsTyped tree p × IsWithin p
AnswersTree tree (Err (stop.Refused r)) = IsTreeRefused tree r
AnswersTree tree (Err stop.NoMemory) = ⊤

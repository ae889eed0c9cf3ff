-- Parts of a text: what a parser reads from a token on.
use Rattle.std.specs.Prelude.{◌≡◌, ℕ, ◌+◌, ◌-◌, ◌≤◌, ◌==◌, if◌then◌else◌, List, [], ◌∷◌, ◌++◌, length, drop, slice_get, Option, Some, None}
use Rattle.al_base.specs.declared.place.Place.{Place}
use Rattle.al_lex.specs.declared.token.Token.{Token}
use Rattle.al_lex.specs.TokenList.{TokenList}
use Rattle.al_tree.specs.Words.{start}
use Rattle.al_tree.specs.Correct.{Grammar, IsFault}
use Rattle.al_tree.specs.Tree.{limit}
use Rattle.al_tree.specs.declared.cursor.ParseError.{ParseError}
use Rattle.al_tree.specs.declared.cursor.ParseError.TheVariants.{NoMemory, Stuck, Deep}
use Rattle.al_tree.specs.declared.fault.ParseFault.{ParseFault}
use Rattle.al_tree.specs.declared.fault.ParseReason.{ParseReason}
use Rattle.al_tree.specs.declared.fault.ParseReason.TheVariants as reason
use Rattle.al_tree.specs.declared.fault.ParseStop.{ParseStop}
use Rattle.al_tree.specs.declared.fault.ParseStop.TheVariants as stop

-- no part of the kind begins with these tokens and the first of those behind them
abbrev pub Ends : {A : Type 0} → Grammar A → List Token → List Token → Type 0
Ends G used [] = Unit {0}
Ends {A} G used (t ∷ ts) = (more : List Token) (x : A) (h : ℕ) → G (used ++ t ∷ more) x h → ⊥

-- a part, and behind it tokens of which the first is one that no part of the kind goes on with
pub record Followed {A : Type 0} (G : Grammar A) (toks : List Token) (x : A) (height : ℕ) : Type 0 where
  pub used : List Token
  pub rest : List Token
  pub cut : toks ≡ used ++ rest
  pub is : G used x height
  pub ends : Ends G used rest

-- the tokens of a text from the one of that number on, without the End token
pub record TokensFrom (toks : TokenList) (at : ℕ) (list : List Token) : Type 0 where
  pub front : List Token
  pub last : Token
  pub is : toks.list ≡ front ++ last ∷ []
  pub «from» : list ≡ drop at front

-- from that token on stands this part, of at most 200 levels, and the token `next` is the first behind it
pub record IsPartAt {A : Type 0} (G : Grammar A) (toks : TokenList) (at : ℕ) (x : A) (next : ℕ) : Type 0 where
  pub list : List Token
  pub tokens : TokensFrom toks at list
  pub height : ℕ
  pub low : height ≤ limit
  pub part : Followed G list x height
  pub next_is : next ≡ at + length part.used

-- From that token on stands no part of at most 200 levels, for this reason and at this token. Tokens are counted from 0.
pub record IsPartFault {A : Type 0} (G : Grammar A) (toks : TokenList) (at : ℕ) (fault : ParseFault) : Type 0 where
  pub list : List Token
  pub tokens : TokensFrom toks at list
  pub number : ℕ
  pub fault_is : IsFault (Followed G) limit list fault.reason number
  pub token_is : fault.token ≡ at + number
  pub token : Token
  pub here : slice_get toks.list fault.token ≡ Some token
  pub place : fault.place ≡ token.place

-- ---- the fault that a parser's error tells

abbrev pub place_of : Option Token → Place
place_of None = start []
place_of (Some t) = t.place

-- how many tokens there are, without the End token
abbrev pub count : TokenList → ℕ
count toks = length toks.list - 1

abbrev pub fault_at : TokenList → ParseReason → ℕ → ParseStop
fault_at toks why number = stop.Fault (record { reason = why; token = number; place = place_of (slice_get toks.list number) })

unfoldable pub stop_of : TokenList → ParseError → ParseStop
stop_of toks NoMemory = stop.NoMemory
stop_of toks (Stuck left) = fault_at toks (if left == 0 then reason.EndOfText else reason.Unexpected) (count toks - left)
stop_of toks (Deep left) = fault_at toks reason.Deep (count toks - (left + 1))

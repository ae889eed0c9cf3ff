-- What a parser reads from, and the steps that every rule is made of.
use Rattle.std.specs.Prelude.{◌≡◌, ◌≢◌, ℕ, Bool, true, if◌then◌else◌, List, [], ◌∷◌, length, Result, Ok, Err}
use denote.Enum.Bare.{sameb}
use Rattle.al_base.specs.declared.place.Place.{Place}
use Rattle.al_lex.specs.declared.kind.TokenKind.{TokenKind}
use Rattle.al_lex.specs.declared.kind.TokenKind.TheVariants.{End}
use Rattle.al_lex.specs.contracts.kind.TokenKind.{the_type}
use Rattle.al_lex.specs.declared.token.Token.{Token}
use Rattle.al_tree.specs.Words.{start}
use Rattle.al_tree.specs.declared.cursor.ParseError.{ParseError}
use Rattle.al_tree.specs.declared.cursor.ParseError.TheVariants.{NoMemory, Stuck, Deep}

-- `==` on kinds
unfoldable pub same_kind : TokenKind → TokenKind → Bool
same_kind = sameb the_type

abbrev pub Outcome : Type 0 → Type 0
Outcome A = Result (A × List Token) ParseError

abbrev pub Parser : Type 0 → Type 0
Parser A = List Token → Outcome A

abbrev pub and_then : {A B : Type 0} → Outcome A → (A → Parser B) → Outcome B
and_then (Ok p) f = f p.0 p.1
and_then (Err e) f = Err e

infixl 10 ◌>>=◌
abbrev pub ◌>>=◌ : {A B : Type 0} → Parser A → (A → Parser B) → Parser B
p >>= f = λ i. and_then (p i) f

infixl 10 ◌>>◌
abbrev pub ◌>>◌ : {A B : Type 0} → Parser A → Parser B → Parser B
p >> q = p >>= (λ _. q)

abbrev pub pure : {A : Type 0} → A → Parser A
pure a = λ i. Ok (a, i)

-- the kind of the next token, End where none is left
unfoldable pub kind : List Token → TokenKind
kind [] = End
kind (t ∷ ts) = t.kind

-- the number of the name that comes next
unfoldable pub name_number : List Token → ℕ
name_number [] = 0
name_number (t ∷ ts) = t.name

abbrev pub refusal : List Token → ParseError
refusal ts = Stuck (length ts)

abbrev pub refuse : {A : Type 0} → Parser A
refuse = λ ts. Err (refusal ts)

-- what is decided by the tokens to come, none of which is taken
abbrev pub looks : {A : Type 0} → (List Token → A) → Parser A
looks p = λ ts. Ok (p ts, ts)

abbrev pub peek : Parser TokenKind
peek = looks kind

-- the place of the next token
abbrev pub here : Parser Place
here = looks start

-- the next token, which goes too deep unless it fits
unfoldable pub take_if : Bool → Parser Token
take_if fits [] = Err (Stuck 0)
take_if fits (t ∷ ts) = if fits then Ok (t, ts) else Err (Deep (length ts))

-- the next token, of that kind, which goes too deep unless it fits
unfoldable pub expect_if : Bool → TokenKind → Parser Token
expect_if fits k ts = if same_kind (kind ts) k then take_if fits ts else refuse ts

abbrev pub expect : TokenKind → Parser Token
expect = expect_if true

-- what a function that parses ensures: the parser's outcome, unless memory runs out
abbrev pub Reads : {A : Type 0} → Outcome A → Result A ParseError → List Token → Type 0
Reads outcome (Ok a) new = outcome ≡ Ok (a, new)
Reads outcome (Err e) new = e ≢ NoMemory → outcome ≡ Err e

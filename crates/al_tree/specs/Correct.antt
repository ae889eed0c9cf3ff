-- What the answers of a parser mean: the tree that the tokens are, or the token at which they are none.
use Rattle.std.specs.Prelude.{◌≡◌, ℕ, ◌<◌, ◌≤◌, List, ◌∷◌, ◌++◌, length}
use Rattle.al_lex.specs.declared.token.Token.{Token}
use Rattle.al_tree.specs.declared.fault.ParseReason.{ParseReason}
use Rattle.al_tree.specs.declared.fault.ParseReason.TheVariants as reason

-- a grammar: which lists of tokens have which trees, of which heights
abbrev pub Grammar : Type 0 → Type 1
Grammar A = List Token → A → ℕ → Type 0

-- The tokens are `front`, the token, and `rest`. No list that begins with the tokens up to and with this one has a tree.
pub record Unexpected {A : Type 0} (G : Grammar A) (toks front : List Token) : Type 0 where
  pub token : Token
  pub rest : List Token
  pub cut : toks ≡ front ++ token ∷ rest
  pub none : (more : List Token) (x : A) (h : ℕ) → G (front ++ token ∷ more) x h → ⊥

-- the tokens are a proper prefix of a tree's, and have none
pub record EndOfText {A : Type 0} (G : Grammar A) (toks : List Token) : Type 0 where
  pub more : List Token
  pub tree : A
  pub height : ℕ
  pub is : G (toks ++ more) tree height
  pub none : (x : A) (h : ℕ) → G toks x h → ⊥

-- some tree begins with the tokens up to and with this one, and every such tree is higher than the limit
pub record TooDeep {A : Type 0} (G : Grammar A) (limit : ℕ) (toks front : List Token) : Type 0 where
  pub token : Token
  pub rest : List Token
  pub cut : toks ≡ front ++ token ∷ rest
  pub more : List Token
  pub tree : A
  pub height : ℕ
  pub is : G (front ++ token ∷ more) tree height
  pub high : (more : List Token) (x : A) (h : ℕ) → G (front ++ token ∷ more) x h → limit < h

-- a tree that is no higher than the limit
pub record Parses {A : Type 0} (G : Grammar A) (limit : ℕ) (toks : List Token) (x : A) : Type 0 where
  pub height : ℕ
  pub low : height ≤ limit
  pub is : G toks x height

-- the same at the token of that number, counted from 0
pub record UnexpectedAt {A : Type 0} (G : Grammar A) (toks : List Token) (number : ℕ) : Type 0 where
  pub front : List Token
  pub count : length front ≡ number
  pub fault : Unexpected G toks front

pub record TooDeepAt {A : Type 0} (G : Grammar A) (limit : ℕ) (toks : List Token) (number : ℕ) : Type 0 where
  pub front : List Token
  pub count : length front ≡ number
  pub fault : TooDeep G limit toks front

-- The fault of that reason at the token of that number. A text that ends too early has its fault at the End token, which
-- stands behind all of these.
abbrev pub IsFault : {A : Type 0} → Grammar A → ℕ → List Token → ParseReason → ℕ → Type 0
IsFault G limit toks reason.Unexpected number = UnexpectedAt G toks number
IsFault G limit toks reason.EndOfText number = (number ≡ length toks) × EndOfText G toks
IsFault G limit toks reason.Deep number = TooDeepAt G limit toks number

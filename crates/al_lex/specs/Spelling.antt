-- The reserved words and the operators.
use Rattle.std.specs.Prelude.{ℕ, List, [], ◌∷◌, codes}
use Rattle.al_lex.specs.declared.kind.TokenKind.{TokenKind}
use Rattle.al_lex.specs.declared.kind.TokenKind.TheVariants as k

-- bytes, and the kind of token that they spell
abbrev pub Spelled : Type 0
Spelled = List ℕ × TokenKind

abbrev pub reserved : List Spelled
reserved =
    (codes "adt", k.Adt) ∷
    (codes "aggr", k.Aggr) ∷
    (codes "alloc", k.Alloc) ∷
    (codes "alt", k.Alt) ∷
    (codes "become", k.Become) ∷
    (codes "break", k.Break) ∷
    (codes "byte", k.Byte) ∷
    (codes "case", k.Case) ∷
    (codes "chan", k.Chan) ∷
    (codes "check", k.Check) ∷
    (codes "continue", k.Continue) ∷
    (codes "default", k.Default) ∷
    (codes "do", k.Do) ∷
    (codes "else", k.Else) ∷
    (codes "enum", k.Enum) ∷
    (codes "extern", k.Extern) ∷
    (codes "float", k.Float) ∷
    (codes "for", k.For) ∷
    (codes "goto", k.Goto) ∷
    (codes "if", k.If) ∷
    (codes "int", k.Int) ∷
    (codes "intern", k.Intern) ∷
    (codes "lint", k.Lint) ∷
    (codes "nil", k.Nil) ∷
    (codes "par", k.Par) ∷
    (codes "private", k.Private) ∷
    (codes "proc", k.Proc) ∷
    (codes "raise", k.Raise) ∷
    (codes "rescue", k.Rescue) ∷
    (codes "return", k.Return) ∷
    (codes "sint", k.Sint) ∷
    (codes "sizeof", k.Sizeof) ∷
    (codes "switch", k.Switch) ∷
    (codes "task", k.Task) ∷
    (codes "tuple", k.Tuple) ∷
    (codes "typedef", k.Typedef) ∷
    (codes "typeof", k.Typeof) ∷
    (codes "uint", k.Uint) ∷
    (codes "ulint", k.Ulint) ∷
    (codes "unalloc", k.Unalloc) ∷
    (codes "union", k.Union) ∷
    (codes "usint", k.Usint) ∷
    (codes "void", k.Void) ∷
    (codes "while", k.While) ∷
    (codes "zerox", k.Zerox) ∷
    []

-- longer ones first
abbrev pub operators : List Spelled
operators =
    (codes "<<=", k.ShiftLeftEqual) ∷
    (codes ">>=", k.ShiftRightEqual) ∷
    (codes "<-=", k.LeftArrowEqual) ∷
    (codes "->", k.Arrow) ∷
    (codes "::", k.ColonColon) ∷
    (codes "++", k.PlusPlus) ∷
    (codes "--", k.MinusMinus) ∷
    (codes "<<", k.ShiftLeft) ∷
    (codes ">>", k.ShiftRight) ∷
    (codes "<=", k.LessEqual) ∷
    (codes ">=", k.GreaterEqual) ∷
    (codes "==", k.EqualEqual) ∷
    (codes "!=", k.NotEqual) ∷
    (codes "&&", k.AndAnd) ∷
    (codes "||", k.OrOr) ∷
    (codes "+=", k.PlusEqual) ∷
    (codes "-=", k.MinusEqual) ∷
    (codes "*=", k.StarEqual) ∷
    (codes "/=", k.SlashEqual) ∷
    (codes "%=", k.PercentEqual) ∷
    (codes "&=", k.AndEqual) ∷
    (codes "|=", k.OrEqual) ∷
    (codes "^=", k.CaretEqual) ∷
    (codes "<-", k.LeftArrow) ∷
    (codes "{", k.LeftBrace) ∷
    (codes "}", k.RightBrace) ∷
    (codes "(", k.LeftParen) ∷
    (codes ")", k.RightParen) ∷
    (codes "[", k.LeftBracket) ∷
    (codes "]", k.RightBracket) ∷
    (codes ";", k.Semicolon) ∷
    (codes ",", k.Comma) ∷
    (codes ".", k.Dot) ∷
    (codes ":", k.Colon) ∷
    (codes "?", k.Question) ∷
    (codes "+", k.Plus) ∷
    (codes "-", k.Minus) ∷
    (codes "*", k.Star) ∷
    (codes "/", k.Slash) ∷
    (codes "%", k.Percent) ∷
    (codes "&", k.And) ∷
    (codes "|", k.Or) ∷
    (codes "^", k.Caret) ∷
    (codes "~", k.Tilde) ∷
    (codes "!", k.Not) ∷
    (codes "<", k.Less) ∷
    (codes ">", k.Greater) ∷
    (codes "=", k.Equal) ∷
    []

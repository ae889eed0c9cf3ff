-- Types that other crates do not export by name: they are those of values, and of what functions take.
use Rattle.std.proofs.Common.{[]}
use Rattle.al_lex.specs.Position.{step}
use Rattle.al_scope.specs.Names.{begun}

abbrev pub TypeOf : (A : Type 0) → A → Type 0
TypeOf A x = A

abbrev pub ArgumentOf : (A B : Type 0) → (A → B) → Type 0
ArgumentOf A B f = A

-- where a token begins
abbrev pub Position : Type 0
Position = ArgumentOf _ _ step

-- what is known at a point of a text, and what was found before it
abbrev pub Walk : Type 0
Walk = TypeOf _ (begun [])

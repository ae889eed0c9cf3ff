-- Types that other crates do not export by name: they are those of values, and of what functions take.
use Rattle.std.proofs.Common.{[], None}
use Rattle.al_scope.specs.declared.declaration.Declaration.TheVariants as declaration
use Rattle.al_scope.specs.Names.{begun, known, latest}
use Rattle.al_declare.specs.Asking.{begun as undeclared, together}
use Rattle.al_declare.specs.Rules.{rule_2_again, rule_3_free}

abbrev pub TypeOf : (A : Type 0) → A → Type 0
TypeOf A x = A

abbrev pub ArgumentOf : (A B : Type 0) → (A → B) → Type 0
ArgumentOf A B f = A

-- what is known at a point of a text, and what was found before it
abbrev pub Walk : Type 0
Walk = TypeOf _ (begun [])

-- a name that is in scope
abbrev pub Known : Type 0
Known = TypeOf _ (known 0 declaration.Print)

-- what is in scope
abbrev pub KnownNames : Type 0
KnownNames = ArgumentOf _ _ latest

-- what was declared and asked so far
abbrev pub Asked : Type 0
Asked = TypeOf _ undeclared

-- what is known of a name at file level
abbrev pub MaybeDeclared : Type 0
MaybeDeclared = ArgumentOf _ _ rule_2_again

abbrev pub Declared : Type 0
Declared = ArgumentOf _ _ (together None)

-- the adts of a text, and the names of the language
abbrev pub Text : Type 0
Text = ArgumentOf _ _ rule_3_free

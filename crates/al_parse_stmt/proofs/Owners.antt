-- The adt whose parameters a head has.
use Rattle.std.proofs.Common.{◌≡◌, ℕ, true, false, if◌then◌else◌, List, [], ◌∷◌, ◌++◌, Option, Some, None, Ok, Err, refl, sym}
use Rattle.al_lex.specs.declared.kind.TokenKind.TheVariants as k
use Rattle.al_lex.specs.declared.token.Token.{Token}
use Rattle.al_tree.specs.Words.{start}
use Rattle.al_tree.specs.Types.{Leaves, known, IsTypeName, type_name as is_type}
use Rattle.al_tree.specs.Items.{Declared, parameters_of}
use Rattle.al_tree.specs.Reading.{Outcome, Parser, ◌>>=◌, ◌>>◌, pure, refuse, kind, name_number, same_kind, peek, take_if}
use Rattle.al_parse_type.specs.Parse.{sees_type_name, stars_from}
use Rattle.al_parse_member.specs.Parameters.{type_name}
use Rattle.al_parse_stmt.specs.Ahead.{some_parameters, owner_by, inside_of}

-- where a list begins does not depend on what stands behind its first token
pub same_start : (v : List Token) (t : Token) (r : List Token) → start (v ++ t ∷ r) ≡ start (v ++ t ∷ [])
same_start [] t r = refl
same_start (q ∷ v) t r = refl

-- ---- the adt whose parameters a head has, behind the type of its result

-- the number of the adt's name with a bracket behind it, past stars
unfoldable pub owner_behind : List ℕ → ℕ → Parser ℕ
owner_behind types turns = do
  stars_from turns 0
  a ← type_name types
  next ← peek
  if same_kind next k.LeftBracket then pure a.name else refuse

-- its parameters
abbrev pub parameters_by : Declared → Outcome ℕ → List ℕ
parameters_by d (Ok x) = parameters_of d.adts x.0
parameters_by d (Err e) = []

pub inside_by : (d : Declared) (o : Outcome ℕ) → inside_of d (owner_by d o) ≡ parameters_by d o
inside_by d (Err e) = refl
inside_by d (Ok x) = by (parameters_of d.adts x.0) refl
  where
    by : (xs : List ℕ) → parameters_of d.adts x.0 ≡ xs → inside_of d (if some_parameters xs then Some x.0 else None) ≡ parameters_of d.adts x.0
    by [] e = sym e
    by (n ∷ ns) e = refl

unfoldable pub owner_at : Declared → ℕ → List Token → Option ℕ
owner_at d turns ts = owner_by d (owner_behind d.types turns ts)

unfoldable pub inside_behind : Declared → ℕ → List Token → List ℕ
inside_behind d turns ts = parameters_by d (owner_behind d.types turns ts)

pub inside_at : (d : Declared) (turns : ℕ) (ts : List Token) → inside_of d (owner_at d turns ts) ≡ inside_behind d turns ts
unfolding owner_at inside_behind
inside_at d turns ts = inside_by d (owner_behind d.types turns ts)

pub reads_type_name : (types : List ℕ) (a : Token) (r : List Token) → a.kind ≡ k.Name → known types a.name ≡ true → type_name types (a ∷ r) ≡ Ok (a, r)
unfolding type_name sees_type_name kind name_number same_kind take_if
reads_type_name types a r c f = rw (c, f) refl

pub inside_bracket : (leaves : Leaves) (d : Declared) (F : ℕ) (l r : List Token) (s : ℕ) (a : Token) → stars_from F 0 l ≡ Ok (s, a ∷ r) → IsTypeName leaves d.types a → same_kind (kind r) k.LeftBracket ≡ true
    → inside_behind d F l ≡ parameters_of d.adts a.name
unfolding inside_behind owner_behind
inside_bracket leaves d F l r s a e (is_type c f) b = let q = reads_type_name d.types a r c f in rw (e, q, b) refl

pub inside_dot : (leaves : Leaves) (d : Declared) (F : ℕ) (l r : List Token) (s : ℕ) (a : Token) → stars_from F 0 l ≡ Ok (s, a ∷ r) → IsTypeName leaves d.types a → same_kind (kind r) k.LeftBracket ≡ false
    → inside_behind d F l ≡ []
unfolding inside_behind owner_behind
inside_dot leaves d F l r s a e (is_type c f) b = let q = reads_type_name d.types a r c f in rw (e, q, b) refl

no_type_name : (types : List ℕ) (r : List Token) → sees_type_name types r ≡ false → type_name types r ≡ refuse r
unfolding type_name
no_type_name types r f = rw f refl

pub inside_other : (d : Declared) (F : ℕ) (l r : List Token) (s : ℕ) → stars_from F 0 l ≡ Ok (s, r) → sees_type_name d.types r ≡ false → inside_behind d F l ≡ []
unfolding inside_behind owner_behind
inside_other d F l r s e f = let q = no_type_name d.types r f in rw (e, q) refl

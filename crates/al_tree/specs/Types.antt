-- The grammar of bounds, types and declarators: one case for each rule, on whole lists of tokens, with the height.
--
-- A bound and a type are no nodes: their height counts the parentheses round a bound, and the types that stand inside
-- a type. Lists and chains are told from the left.
use Rattle.std.specs.Prelude.{◌≡◌, ℕ, ◌+◌, ◌==◌, max, Bool, true, false, if◌then◌else◌, List, [], ◌∷◌, ◌++◌, Some, None}
use Rattle.std.specs.List.{list_any}
use Rattle.al_base.specs.declared.place.Place.{Place}
use Rattle.al_lex.specs.declared.kind.TokenKind.TheVariants as k
use Rattle.al_lex.specs.declared.token.Token.{Token}
use Rattle.al_tree.specs.Words.{start, basic_type, bound_sum, bound_product}
use Rattle.al_tree.specs.declared.type_tree.BasicType.{BasicType}
use Rattle.al_tree.specs.declared.type_tree.BoundOp.{BoundOp}
use Rattle.al_tree.specs.declared.type_tree.Bound.{Bound}
use Rattle.al_tree.specs.declared.type_tree.Bound.TheVariants as b
use Rattle.al_tree.specs.declared.type_tree.TypeTree.{TypeTree}
use Rattle.al_tree.specs.declared.type_tree.TypeTree.TheVariants as ty
use Rattle.al_tree.specs.declared.type_tree.Dcl.{Dcl}
use Rattle.al_tree.specs.declared.expression.Name.{Name}

-- what the tokens of numbers, characters and strings stand for
pub record Leaves : Type 0 where
  pub number : Token → ℕ
  pub byte : Token → ℕ
  pub bytes : Token → List ℕ

-- a name is one of these
abbrev pub known : List ℕ → ℕ → Bool
known names n = list_any (λ m. n == m) names

-- the names with one more, which goes last if it is new
abbrev pub with_name : List ℕ → ℕ → List ℕ
with_name names n = if known names n then names else names ++ n ∷ []

-- the names with more, one after the other
abbrev pub with_names : List ℕ → List ℕ → List ℕ
with_names names [] = names
with_names names (n ∷ more) = with_names (with_name names n) more

-- a name where its token stands
abbrev pub name_at : Token → Name
name_at t = record { at = t.place; name = t.name }

-- a type with arrays of it, the first bound outermost
abbrev pub arrays : Place → List Bound → TypeTree → TypeTree
arrays at [] of = of
arrays at (bound ∷ bounds) of = ty.Array at bound (arrays at bounds of)

module _ (leaves : Leaves) (types : List ℕ) where
  -- the name of a type, and any other name
  pub data IsTypeName : Token → Type 0 where
    type_name : {t : Token} → t.kind ≡ k.Name → known types t.name ≡ true → IsTypeName t

  pub data IsOtherName : Token → Type 0 where
    other_name : {t : Token} → t.kind ≡ k.Name → known types t.name ≡ false → IsOtherName t

  mutual
    -- bprim : NUMBER | NAME | "(" bound ")"
    pub data IsBoundPrim : List Token → Bound → ℕ → Type 0 where
      number : (t : Token) → t.kind ≡ k.Number → IsBoundPrim (t ∷ []) (b.Number t.place (leaves.number t)) 0
      name : (t : Token) → IsOtherName t → IsBoundPrim (t ∷ []) (b.Name t.place t.name) 0
      paren : (o c : Token) {u : List Token} {x : Bound} {h : ℕ}
          → o.kind ≡ k.LeftParen → IsBound u x h → c.kind ≡ k.RightParen → IsBoundPrim (o ∷ (u ++ c ∷ [])) x (h + 1)

    -- bterm : bprim ("*" bprim)*
    pub data IsBoundTerm : List Token → Bound → ℕ → Type 0 where
      prim : {u : List Token} {x : Bound} {h : ℕ} → IsBoundPrim u x h → IsBoundTerm u x h
      product : (t : Token) {u v : List Token} {op : BoundOp} {x y : Bound} {h i : ℕ}
          → IsBoundTerm u x h → bound_product t.kind ≡ Some op → IsBoundPrim v y i
          → IsBoundTerm (u ++ t ∷ v) (b.Binary (start u) op x y) (max h i)

    -- bound : bterm (("+"|"-") bterm)*
    pub data IsBound : List Token → Bound → ℕ → Type 0 where
      term : {u : List Token} {x : Bound} {h : ℕ} → IsBoundTerm u x h → IsBound u x h
      sum : (t : Token) {u v : List Token} {op : BoundOp} {x y : Bound} {h i : ℕ}
          → IsBound u x h → bound_sum t.kind ≡ Some op → IsBoundTerm v y i
          → IsBound (u ++ t ∷ v) (b.Binary (start u) op x y) (max h i)

  -- ("[" bound "]")*
  pub data IsBounds : List Token → List Bound → ℕ → Type 0 where
    none : IsBounds [] [] 0
    more : (o c : Token) {u v : List Token} {xs : List Bound} {x : Bound} {h i : ℕ}
        → IsBounds u xs h → o.kind ≡ k.LeftBracket → IsBound v x i → c.kind ≡ k.RightBracket
        → IsBounds (u ++ o ∷ (v ++ c ∷ [])) (xs ++ x ∷ []) (max h i)

  -- A `[` right behind `chan( )` begins the channel's capacity, so what may follow such a type is told by an index:
  -- whether a `[` behind it would belong to it. Where the first index is false a tuple that is not inside `chan( )`
  -- has the word `tuple`.
  mutual
    -- base : basic | TNAME targs? | "tuple"? "(" atype ("," atype)+ ")" | "chan" "(" atype ")" ("[" bound "]")?
    pub data IsBase : (bare takes_bracket : Bool) → List Token → TypeTree → ℕ → Type 0 where
      basic : {bare : Bool} (t : Token) {x : BasicType} → basic_type t.kind ≡ Some x → IsBase bare false (t ∷ []) (ty.Basic t.place x) 0
      named : {bare : Bool} (t : Token) → IsTypeName t → IsBase bare false (t ∷ []) (ty.Named t.place t.name []) 0
      instance : {bare : Bool} (t o c : Token) {u : List Token} {xs : List TypeTree} {h : ℕ}
          → IsTypeName t → o.kind ≡ k.LeftBracket → IsTypes bare u xs h → c.kind ≡ k.RightBracket
          → IsBase bare false (t ∷ o ∷ (u ++ c ∷ [])) (ty.Named t.place t.name xs) (h + 1)
      tuple : {bare : Bool} (w o c : Token) {u : List Token} {xs : List TypeTree} {h : ℕ}
          → w.kind ≡ k.Tuple → o.kind ≡ k.LeftParen → IsParts bare u xs h → c.kind ≡ k.RightParen
          → IsBase bare false (w ∷ o ∷ (u ++ c ∷ [])) (ty.Tuple w.place xs) (h + 1)
      bare_tuple : (o c : Token) {u : List Token} {xs : List TypeTree} {h : ℕ}
          → o.kind ≡ k.LeftParen → IsParts true u xs h → c.kind ≡ k.RightParen
          → IsBase true false (o ∷ (u ++ c ∷ [])) (ty.Tuple o.place xs) (h + 1)
      channel : {bare : Bool} (w o c : Token) {u : List Token} {x : TypeTree} {h : ℕ}
          → w.kind ≡ k.Chan → o.kind ≡ k.LeftParen → IsTypeTree true u x h → c.kind ≡ k.RightParen
          → IsBase bare true (w ∷ o ∷ (u ++ c ∷ [])) (ty.Chan w.place x None) (h + 1)
      buffered : {bare : Bool} (w o c p q : Token) {u v : List Token} {x : TypeTree} {n : Bound} {h i : ℕ}
          → w.kind ≡ k.Chan → o.kind ≡ k.LeftParen → IsTypeTree true u x h → c.kind ≡ k.RightParen
          → p.kind ≡ k.LeftBracket → IsBound v n i → q.kind ≡ k.RightBracket
          → IsBase bare false (w ∷ o ∷ (u ++ c ∷ p ∷ (v ++ q ∷ []))) (ty.Chan w.place x (Some n)) (max (h + 1) i)

    -- base "*"*
    pub data IsStarred : (bare takes_bracket : Bool) → List Token → TypeTree → ℕ → Type 0 where
      base : {bare takes : Bool} {u : List Token} {x : TypeTree} {h : ℕ} → IsBase bare takes u x h → IsStarred bare takes u x h
      star : {bare takes : Bool} (t : Token) {u : List Token} {x : TypeTree} {h : ℕ}
          → IsStarred bare takes u x h → t.kind ≡ k.Star → IsStarred bare false (u ++ t ∷ []) (ty.Pointer (start u) x) h

    -- atype : base "*"* ("[" bound "]")*
    pub data IsTypeTree : (bare : Bool) → List Token → TypeTree → ℕ → Type 0 where
      plain : {bare takes : Bool} {u : List Token} {x : TypeTree} {h : ℕ} → IsStarred bare takes u x h → IsTypeTree bare u x h
      array : {bare : Bool} {u v : List Token} {x : TypeTree} {n : Bound} {ns : List Bound} {h i : ℕ}
          → IsStarred bare false u x h → IsBounds v (n ∷ ns) i → IsTypeTree bare (u ++ v) (arrays (start u) (n ∷ ns) x) (max h i)

    -- atype ("," atype)*
    pub data IsTypes : (bare : Bool) → List Token → List TypeTree → ℕ → Type 0 where
      one : {bare : Bool} {u : List Token} {x : TypeTree} {h : ℕ} → IsTypeTree bare u x h → IsTypes bare u (x ∷ []) h
      more : {bare : Bool} (t : Token) {u v : List Token} {xs : List TypeTree} {x : TypeTree} {h i : ℕ}
          → IsTypes bare u xs h → t.kind ≡ k.Comma → IsTypeTree bare v x i → IsTypes bare (u ++ t ∷ v) (xs ++ x ∷ []) (max h i)

    -- atype ("," atype)+
    pub data IsParts : (bare : Bool) → List Token → List TypeTree → ℕ → Type 0 where
      parts : {bare : Bool} (t : Token) {u v : List Token} {xs : List TypeTree} {x : TypeTree} {h i : ℕ}
          → IsTypes bare u xs h → t.kind ≡ k.Comma → IsTypeTree bare v x i → IsParts bare (u ++ t ∷ v) (xs ++ x ∷ []) (max h i)

  -- "*"*, with their number
  pub data AreStars : List Token → ℕ → Type 0 where
    none : AreStars [] 0
    more : (t : Token) {u : List Token} {n : ℕ} → AreStars u n → t.kind ≡ k.Star → AreStars (u ++ t ∷ []) (n + 1)

  -- dcl : "*"* NAME ("[" bound "]")*
  pub data IsDcl : List Token → Dcl → ℕ → Type 0 where
    dcl : (t : Token) {u v : List Token} {n h : ℕ} {bounds : List Bound}
        → AreStars u n → IsOtherName t → IsBounds v bounds h
        → IsDcl (u ++ t ∷ v) (record { at = start (u ++ t ∷ []); stars = n; name = name_at t; bounds = bounds }) h

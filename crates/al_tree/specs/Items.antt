-- The grammar of items and of whole texts: one case for each rule, on whole lists of tokens, with the height.
--
-- An item is one level higher than its parts, and so are a member of a type and a pair of braces of an initializer.
-- The items of a text are no level below anything. A type's name is declared from its own item on, inside its body too,
-- except for the name that a typedef declares, which has no body.
use Rattle.std.specs.Prelude.{◌≡◌, ℕ, zero, suc, ◌+◌, ◌==◌, max, Bool, true, false, if◌then◌else◌, List, [], ◌∷◌, ◌++◌, map, Option, Some, None}
use Rattle.al_lex.specs.declared.kind.TokenKind.TheVariants as k
use Rattle.al_lex.specs.declared.token.Token.{Token}
use Rattle.al_tree.specs.Words.{start, is_name, is_void, scope_word, member_scope, plain_aggregate, aggregate}
use Rattle.al_tree.specs.Types.{Leaves, with_name, with_names, name_at, IsTypeName, IsOtherName, IsBound, IsBase, AreStars, IsDcl}
use Rattle.al_tree.specs.Expressions.{IsAsg}
use Rattle.al_tree.specs.Statements.{IsBlock}
use Rattle.al_tree.specs.declared.type_tree.TypeTree.{TypeTree}
use Rattle.al_tree.specs.declared.type_tree.Bound.{Bound}
use Rattle.al_tree.specs.declared.type_tree.Dcl.{Dcl}
use Rattle.al_tree.specs.declared.expression.Name.{Name}
use Rattle.al_tree.specs.declared.expression.Expr.{Expr}
use Rattle.al_tree.specs.declared.statement.Stmt.{Stmt}
use Rattle.al_tree.specs.declared.item.Scope.{Scope}
use Rattle.al_tree.specs.declared.item.AggregateKind.{AggregateKind}
use Rattle.al_tree.specs.declared.item.Parameter.{Parameter}
use Rattle.al_tree.specs.declared.item.Parameter.TheVariants as par
use Rattle.al_tree.specs.declared.item.Owner.{Owner}
use Rattle.al_tree.specs.declared.item.Head.{Head}
use Rattle.al_tree.specs.declared.item.Initializer.{Initializer}
use Rattle.al_tree.specs.declared.item.Initializer.TheVariants as ini
use Rattle.al_tree.specs.declared.item.Declarator.{Declarator}
use Rattle.al_tree.specs.declared.item.Declarator.TheVariants as dec
use Rattle.al_tree.specs.declared.item.Member.{Member}
use Rattle.al_tree.specs.declared.item.Member.TheVariants as mem
use Rattle.al_tree.specs.declared.item.AdtPart.{AdtPart}
use Rattle.al_tree.specs.declared.item.AdtPart.TheVariants as apart
use Rattle.al_tree.specs.declared.item.AdtMember.{AdtMember}
use Rattle.al_tree.specs.declared.item.Constant.{Constant}
use Rattle.al_tree.specs.declared.item.Item.{Item}
use Rattle.al_tree.specs.declared.item.Item.TheVariants as item

-- an adt with parameters, by the numbers of their names
pub record Parametrised : Type 0 where
  pub adt : ℕ
  pub parameters : List ℕ

-- the names of types that the items so far declared, each once, and the adts among them that have parameters
pub record Declared : Type 0 where
  pub types : List ℕ
  pub adts : List Parametrised

abbrev pub nothing_declared : Declared
nothing_declared = record { types = []; adts = [] }

abbrev pub with_type : ℕ → Declared → Declared
with_type n d = record { types = with_name d.types n; adts = d.adts }

abbrev pub with_adt : ℕ → List ℕ → Declared → Declared
with_adt n parameters d = record { types = with_name d.types n; adts = record { adt = n; parameters = parameters } ∷ d.adts }

-- the parameters of the adt of that name
abbrev pub parameters_of : List Parametrised → ℕ → List ℕ
parameters_of [] n = []
parameters_of (a ∷ rest) n = if a.adt == n then a.parameters ++ parameters_of rest n else parameters_of rest n

-- `void` and nothing else: between the parentheses of a parameter list this is the empty list
abbrev pub is_void_alone : List Token → Bool
is_void_alone (t ∷ []) = is_void t.kind
is_void_alone _ = false

-- with at least one star behind it a `[` no longer belongs to a channel type
abbrev pub still_takes_bracket : Bool → ℕ → Bool
still_takes_bracket takes zero = takes
still_takes_bracket takes (suc n) = false

abbrev pub begins_with_name : List Token → Bool
begins_with_name [] = false
begins_with_name (t ∷ ts) = is_name t.kind

abbrev pub number_of : Name → ℕ
number_of n = n.name

module _ (leaves : Leaves) where
  module _ (types : List ℕ) where
    -- ("[" bound? "]")*
    pub data IsOpenBounds : List Token → List (Option Bound) → ℕ → Type 0 where
      none : IsOpenBounds [] [] 0
      missing : (o c : Token) {u : List Token} {xs : List (Option Bound)} {h : ℕ}
          → IsOpenBounds u xs h → o.kind ≡ k.LeftBracket → c.kind ≡ k.RightBracket
          → IsOpenBounds (u ++ o ∷ c ∷ []) (xs ++ None ∷ []) h
      more : (o c : Token) {u v : List Token} {xs : List (Option Bound)} {x : Bound} {h i : ℕ}
          → IsOpenBounds u xs h → o.kind ≡ k.LeftBracket → IsBound leaves types v x i → c.kind ≡ k.RightBracket
          → IsOpenBounds (u ++ o ∷ (v ++ c ∷ [])) (xs ++ Some x ∷ []) (max h i)

    -- parm : base "*"* NAME? ("[" bound? "]")* | ("*"|".") TNAME
    -- A `[` right behind `chan( )` belongs to the channel.
    pub data IsParameter : List Token → Parameter → ℕ → Type 0 where
      named : {takes : Bool} (t : Token) {u v r : List Token} {x : TypeTree} {n h i : ℕ} {bounds : List (Option Bound)}
          → IsBase leaves types true takes u x h → AreStars leaves types v n → IsOtherName leaves types t → IsOpenBounds r bounds i
          → IsParameter (u ++ v ++ t ∷ r) (par.Plain (start u) x n (Some (name_at t)) bounds) (max h i)
      unnamed : {takes : Bool} {u v : List Token} {x : TypeTree} {n h : ℕ}
          → IsBase leaves types true takes u x h → AreStars leaves types v n
          → IsParameter (u ++ v) (par.Plain (start u) x n None []) h
      unnamed_array : {takes : Bool} {u v r : List Token} {x : TypeTree} {n h i : ℕ} {bound : Option Bound} {bounds : List (Option Bound)}
          → IsBase leaves types true takes u x h → AreStars leaves types v n → still_takes_bracket takes n ≡ false → IsOpenBounds r (bound ∷ bounds) i
          → IsParameter (u ++ v ++ r) (par.Plain (start u) x n None (bound ∷ bounds)) (max h i)
      own_pointer : (w t : Token) → w.kind ≡ k.Star → IsTypeName leaves types t → IsParameter (w ∷ t ∷ []) (par.OwnPointer w.place t.name) 0
      own_value : (w t : Token) → w.kind ≡ k.Dot → IsTypeName leaves types t → IsParameter (w ∷ t ∷ []) (par.OwnValue w.place t.name) 0

    -- parm ("," parm)*
    pub data IsParameters : List Token → List Parameter → ℕ → Type 0 where
      one : {u : List Token} {x : Parameter} {h : ℕ} → IsParameter u x h → IsParameters u (x ∷ []) h
      more : (t : Token) {u v : List Token} {xs : List Parameter} {x : Parameter} {h i : ℕ}
          → IsParameters u xs h → t.kind ≡ k.Comma → IsParameter v x i → IsParameters (u ++ t ∷ v) (xs ++ x ∷ []) (max h i)

    -- parms? with parms : "void" | parm ("," parm)*
    pub data IsParameterList : List Token → List Parameter → ℕ → Type 0 where
      none : IsParameterList [] [] 0
      void : (t : Token) → t.kind ≡ k.Void → IsParameterList (t ∷ []) [] 0
      some : {u : List Token} {xs : List Parameter} {h : ℕ} → IsParameters u xs h → is_void_alone u ≡ false → IsParameterList u xs h

    -- init : asg | "{" init ("," init)* ","? "}"
    mutual
      pub data IsInitializer : List Token → Initializer → ℕ → Type 0 where
        value : {u : List Token} {x : Expr} {h : ℕ} → IsAsg leaves types u x h → IsInitializer u (ini.Value x) h
        braces : (o c : Token) {u : List Token} {xs : List Initializer} {h : ℕ}
            → o.kind ≡ k.LeftBrace → IsInitializers u xs h → c.kind ≡ k.RightBrace
            → IsInitializer (o ∷ (u ++ c ∷ [])) (ini.Braces o.place xs) (h + 1)
        braces_comma : (o t c : Token) {u : List Token} {xs : List Initializer} {h : ℕ}
            → o.kind ≡ k.LeftBrace → IsInitializers u xs h → t.kind ≡ k.Comma → c.kind ≡ k.RightBrace
            → IsInitializer (o ∷ (u ++ t ∷ c ∷ [])) (ini.Braces o.place xs) (h + 1)

      pub data IsInitializers : List Token → List Initializer → ℕ → Type 0 where
        one : {u : List Token} {x : Initializer} {h : ℕ} → IsInitializer u x h → IsInitializers u (x ∷ []) h
        more : (t : Token) {u v : List Token} {xs : List Initializer} {x : Initializer} {h i : ℕ}
            → IsInitializers u xs h → t.kind ≡ k.Comma → IsInitializer v x i → IsInitializers (u ++ t ∷ v) (xs ++ x ∷ []) (max h i)

    -- dcl ("," dcl)*
    pub data IsDcls : List Token → List Dcl → ℕ → Type 0 where
      one : {u : List Token} {x : Dcl} {h : ℕ} → IsDcl leaves types u x h → IsDcls u (x ∷ []) h
      more : (t : Token) {u v : List Token} {xs : List Dcl} {x : Dcl} {h i : ℕ}
          → IsDcls u xs h → t.kind ≡ k.Comma → IsDcl leaves types v x i → IsDcls (u ++ t ∷ v) (xs ++ x ∷ []) (max h i)

    -- member : base dcl ("," dcl)* ";" | TNAME targs? ";" | ("aggr"|"union") "{" member+ "}" ";"
    mutual
      pub data IsMember : List Token → Member → ℕ → Type 0 where
        fields : {takes : Bool} (t : Token) {u v : List Token} {x : TypeTree} {ys : List Dcl} {h i : ℕ}
            → IsBase leaves types true takes u x h → IsDcls v ys i → t.kind ≡ k.Semicolon
            → IsMember (u ++ v ++ t ∷ []) (mem.Fields (start u) x ys) (max h i + 1)
        unnamed : (t : Token) {u : List Token} {x : TypeTree} {h : ℕ}
            → IsBase leaves types true false u x h → begins_with_name u ≡ true → t.kind ≡ k.Semicolon → IsMember (u ++ t ∷ []) (mem.Unnamed (start u) x) (h + 1)
        inner : (w o c t : Token) {u : List Token} {kind : AggregateKind} {xs : List Member} {h : ℕ}
            → plain_aggregate w.kind ≡ Some kind → o.kind ≡ k.LeftBrace → IsMembers u xs h → c.kind ≡ k.RightBrace → t.kind ≡ k.Semicolon
            → IsMember (w ∷ o ∷ (u ++ c ∷ t ∷ [])) (mem.Inner w.place kind xs) (h + 1)

      -- member+
      pub data IsMembers : List Token → List Member → ℕ → Type 0 where
        one : {u : List Token} {x : Member} {h : ℕ} → IsMember u x h → IsMembers u (x ∷ []) h
        more : {u v : List Token} {xs : List Member} {x : Member} {h i : ℕ}
            → IsMembers u xs h → IsMember v x i → IsMembers (u ++ v) (xs ++ x ∷ []) (max h i)

    -- member | base "*"* NAME "(" parms? ")" ";"
    pub data IsAdtPart : List Token → AdtPart → ℕ → Type 0 where
      data_member : {u : List Token} {x : Member} {h : ℕ} → IsMember u x h → IsAdtPart u (apart.Data x) h
      function : {takes : Bool} (t o c q : Token) {u v r : List Token} {x : TypeTree} {n h i : ℕ} {ps : List Parameter}
          → IsBase leaves types true takes u x h → AreStars leaves types v n → IsOtherName leaves types t → o.kind ≡ k.LeftParen
          → IsParameterList r ps i → c.kind ≡ k.RightParen → q.kind ≡ k.Semicolon
          → IsAdtPart (u ++ v ++ t ∷ o ∷ (r ++ c ∷ q ∷ [])) (apart.Function x n (name_at t) ps) (max h i + 1)

    -- amember : ("intern"|"extern")? (member | base "*"* NAME "(" parms? ")" ";")
    pub data IsAdtMember : List Token → AdtMember → ℕ → Type 0 where
      plain : {u : List Token} {x : AdtPart} {h : ℕ}
          → IsAdtPart u x h → IsAdtMember u (record { at = start u; scope = None; part = x }) h
      marked : (w : Token) {u : List Token} {word : Scope} {x : AdtPart} {h : ℕ}
          → member_scope w.kind ≡ Some word → IsAdtPart u x h → IsAdtMember (w ∷ u) (record { at = w.place; scope = Some word; part = x }) h

    -- amember+
    pub data IsAdtMembers : List Token → List AdtMember → ℕ → Type 0 where
      one : {u : List Token} {x : AdtMember} {h : ℕ} → IsAdtMember u x h → IsAdtMembers u (x ∷ []) h
      more : {u v : List Token} {xs : List AdtMember} {x : AdtMember} {h i : ℕ}
          → IsAdtMembers u xs h → IsAdtMember v x i → IsAdtMembers (u ++ v) (xs ++ x ∷ []) (max h i)

    -- NAME ("," NAME)*, all at once: none is a type's name yet
    pub data AreNewNames : List Token → List Name → Type 0 where
      one : (n : Token) → IsOtherName leaves types n → AreNewNames (n ∷ []) (name_at n ∷ [])
      more : (t n : Token) {u : List Token} {xs : List Name}
          → AreNewNames u xs → t.kind ≡ k.Comma → IsOtherName leaves types n → AreNewNames (u ++ t ∷ n ∷ []) (xs ++ name_at n ∷ [])

    -- TNAME ("," TNAME)*
    pub data AreTypeNames : List Token → List Name → Type 0 where
      one : (n : Token) → IsTypeName leaves types n → AreTypeNames (n ∷ []) (name_at n ∷ [])
      more : (t n : Token) {u : List Token} {xs : List Name}
          → AreTypeNames u xs → t.kind ≡ k.Comma → IsTypeName leaves types n → AreTypeNames (u ++ t ∷ n ∷ []) (xs ++ name_at n ∷ [])

    -- en ("," en)* with en : NAME ("=" asg)?
    pub data IsConstant : List Token → Constant → ℕ → Type 0 where
      bare : (n : Token) → IsOtherName leaves types n → IsConstant (n ∷ []) (record { name = name_at n; value = None }) 0
      set : (n t : Token) {u : List Token} {x : Expr} {h : ℕ}
          → IsOtherName leaves types n → t.kind ≡ k.Equal → IsAsg leaves types u x h
          → IsConstant (n ∷ t ∷ u) (record { name = name_at n; value = Some x }) h

    pub data IsConstants : List Token → List Constant → ℕ → Type 0 where
      one : {u : List Token} {x : Constant} {h : ℕ} → IsConstant u x h → IsConstants u (x ∷ []) h
      more : (t : Token) {u v : List Token} {xs : List Constant} {x : Constant} {h i : ℕ}
          → IsConstants u xs h → t.kind ≡ k.Comma → IsConstant v x i → IsConstants (u ++ t ∷ v) (xs ++ x ∷ []) (max h i)

    -- "{" en ("," en)* ","? "}"
    pub data IsEnumBody : List Token → List Constant → ℕ → Type 0 where
      braces : (o c : Token) {u : List Token} {xs : List Constant} {h : ℕ}
          → o.kind ≡ k.LeftBrace → IsConstants u xs h → c.kind ≡ k.RightBrace → IsEnumBody (o ∷ (u ++ c ∷ [])) xs h
      braces_comma : (o t c : Token) {u : List Token} {xs : List Constant} {h : ℕ}
          → o.kind ≡ k.LeftBrace → IsConstants u xs h → t.kind ≡ k.Comma → c.kind ≡ k.RightBrace → IsEnumBody (o ∷ (u ++ t ∷ c ∷ [])) xs h

    -- scope?
    pub data IsScope : List Token → Option Scope → Type 0 where
      none : IsScope [] None
      some : (w : Token) {word : Scope} → scope_word w.kind ≡ Some word → IsScope (w ∷ []) (Some word)

  -- ";"?
  pub data IsSemicolon : List Token → Type 0 where
    none : IsSemicolon []
    some : (t : Token) → t.kind ≡ k.Semicolon → IsSemicolon (t ∷ [])

  -- fhead : "*"* fname "(" parms? ")" with fname : NAME | TNAME ("[" TNAME ("," TNAME)* "]")? "." NAME
  -- `inside` are the type names that may stand in the head beside those declared: the adt's parameters where they follow
  -- its name.
  pub data IsHead : Declared → (inside : List ℕ) → List Token → Head → ℕ → Type 0 where
    plain : {d : Declared} (t o c : Token) {u v : List Token} {n h : ℕ} {ps : List Parameter}
        → AreStars leaves d.types u n → IsOtherName leaves d.types t → o.kind ≡ k.LeftParen → IsParameterList d.types v ps h → c.kind ≡ k.RightParen
        → IsHead d [] (u ++ t ∷ o ∷ (v ++ c ∷ []))
        (record { at = start (u ++ t ∷ []); stars = n; owner = None; name = name_at t; parameters = ps }) h
    of_adt : {d : Declared} (a p t o c : Token) {u v : List Token} {n h : ℕ} {ps : List Parameter}
        → AreStars leaves d.types u n → IsTypeName leaves d.types a → p.kind ≡ k.Dot → IsOtherName leaves d.types t
        → o.kind ≡ k.LeftParen → IsParameterList d.types v ps h → c.kind ≡ k.RightParen
        → IsHead d [] (u ++ a ∷ p ∷ t ∷ o ∷ (v ++ c ∷ []))
        (record { at = start (u ++ a ∷ []); stars = n; owner = Some (record { adt = name_at a; parameters = [] }); name = name_at t; parameters = ps }) h
    of_parametrised : {d : Declared} (a l r p t o c : Token) {u w v : List Token} {n h : ℕ} {names : List Name} {ps : List Parameter}
        → AreStars leaves d.types u n → IsTypeName leaves d.types a → l.kind ≡ k.LeftBracket
        → AreTypeNames (with_names d.types (parameters_of d.adts a.name)) w names → r.kind ≡ k.RightBracket
        → p.kind ≡ k.Dot → IsOtherName leaves (with_names d.types (parameters_of d.adts a.name)) t → o.kind ≡ k.LeftParen
        → IsParameterList (with_names d.types (parameters_of d.adts a.name)) v ps h → c.kind ≡ k.RightParen
        → IsHead d (parameters_of d.adts a.name) (u ++ a ∷ l ∷ (w ++ r ∷ p ∷ t ∷ o ∷ (v ++ c ∷ [])))
        (record { at = start (u ++ a ∷ []); stars = n; owner = Some (record { adt = name_at a; parameters = names }); name = name_at t; parameters = ps }) h

  -- the type names that the body of a function has beside those declared: the parameters of its adt
  abbrev pub body_types : Declared → Option Owner → List ℕ
  body_types d None = d.types
  body_types d (Some owner) = with_names d.types (parameters_of d.adts owner.adt.name)

  -- gdcl : dcl ("=" init)? | fhead
  pub data IsDeclarator : Declared → (inside : List ℕ) → List Token → Declarator → ℕ → Type 0 where
    global : {d : Declared} {u : List Token} {x : Dcl} {h : ℕ}
        → IsDcl leaves d.types u x h → IsDeclarator d [] u (dec.Global x None) h
    set : {d : Declared} (t : Token) {u v : List Token} {x : Dcl} {y : Initializer} {h i : ℕ}
        → IsDcl leaves d.types u x h → t.kind ≡ k.Equal → IsInitializer d.types v y i
        → IsDeclarator d [] (u ++ t ∷ v) (dec.Global x (Some y)) (max h i)
    function : {d : Declared} {inside : List ℕ} {u : List Token} {x : Head} {h : ℕ}
        → IsHead d inside u x h → IsDeclarator d inside u (dec.Function x) h

  -- gdcl ("," gdcl)*, where `inside` is that of the first, behind which its adt's parameters follow
  pub data IsDeclarators : Declared → (inside : List ℕ) → List Token → List Declarator → ℕ → Type 0 where
    one : {d : Declared} {inside : List ℕ} {u : List Token} {x : Declarator} {h : ℕ}
        → IsDeclarator d inside u x h → IsDeclarators d inside u (x ∷ []) h
    more : {d : Declared} {inside other : List ℕ} (t : Token) {u v : List Token} {xs : List Declarator} {x : Declarator} {h i : ℕ}
        → IsDeclarators d inside u xs h → t.kind ≡ k.Comma → IsDeclarator d other v x i
        → IsDeclarators d inside (u ++ t ∷ v) (xs ++ x ∷ []) (max h i)

  -- an item, with what is declared before it and after it
  pub data IsItem : Declared → List Token → Item → Declared → ℕ → Type 0 where
    -- "typedef" base dcl ";"
    typedef : {d : Declared} {takes : Bool} (w t : Token) {u v : List Token} {x : TypeTree} {y : Dcl} {h i : ℕ}
        → w.kind ≡ k.Typedef → IsBase leaves d.types true takes u x h → IsDcl leaves d.types v y i → t.kind ≡ k.Semicolon
        → IsItem d (w ∷ (u ++ v ++ t ∷ [])) (item.Typedef w.place x y) (with_type y.name.name d) (max h i + 1)
    -- "typedef" base "*"* NAME "(" parms? ")" ";"
    function_type : {d : Declared} {takes : Bool} (w n o c t : Token) {u v r : List Token} {x : TypeTree} {stars h i : ℕ} {ps : List Parameter}
        → w.kind ≡ k.Typedef → IsBase leaves d.types true takes u x h → AreStars leaves d.types v stars → IsOtherName leaves d.types n
        → o.kind ≡ k.LeftParen → IsParameterList d.types r ps i → c.kind ≡ k.RightParen → t.kind ≡ k.Semicolon
        → IsItem d (w ∷ (u ++ v ++ n ∷ o ∷ (r ++ c ∷ t ∷ []))) (item.FunctionType w.place x stars (name_at n) ps) (with_type n.name d) (max h i + 1)
    -- ("aggr"|"union"|"adt") name ";"
    forward : {d : Declared} (w n t : Token) {kind : AggregateKind}
        → aggregate w.kind ≡ Some kind → n.kind ≡ k.Name → t.kind ≡ k.Semicolon
        → IsItem d (w ∷ n ∷ t ∷ []) (item.Forward w.place kind (name_at n)) (with_type n.name d) 1
    -- ("aggr"|"union") name "{" member+ "}" ";"?
    plain_members : {d : Declared} (w n o c : Token) {u q : List Token} {kind : AggregateKind} {xs : List Member} {h : ℕ}
        → plain_aggregate w.kind ≡ Some kind → n.kind ≡ k.Name → o.kind ≡ k.LeftBrace → IsMembers (with_name d.types n.name) u xs h
        → c.kind ≡ k.RightBrace → IsSemicolon q
        → IsItem d (w ∷ n ∷ o ∷ (u ++ c ∷ q)) (item.Aggregate w.place kind (name_at n) xs) (with_type n.name d) (h + 1)
    -- "adt" name "{" amember+ "}" ";"?
    adt : {d : Declared} (w n o c : Token) {u q : List Token} {xs : List AdtMember} {h : ℕ}
        → w.kind ≡ k.Adt → n.kind ≡ k.Name → o.kind ≡ k.LeftBrace → IsAdtMembers (with_name d.types n.name) u xs h
        → c.kind ≡ k.RightBrace → IsSemicolon q
        → IsItem d (w ∷ n ∷ o ∷ (u ++ c ∷ q)) (item.Adt w.place (name_at n) [] xs) (with_type n.name d) (h + 1)
    -- "adt" name "[" NAME ("," NAME)* "]" "{" amember+ "}" ";"?
    parametrised : {d : Declared} (w n l r o c : Token) {p u q : List Token} {ns : List Name} {xs : List AdtMember} {h : ℕ}
        → w.kind ≡ k.Adt → n.kind ≡ k.Name → l.kind ≡ k.LeftBracket → AreNewNames (with_name d.types n.name) p ns → r.kind ≡ k.RightBracket
        → o.kind ≡ k.LeftBrace → IsAdtMembers (with_names (with_name d.types n.name) (map number_of ns)) u xs h → c.kind ≡ k.RightBrace → IsSemicolon q
        → IsItem d (w ∷ n ∷ l ∷ (p ++ r ∷ o ∷ (u ++ c ∷ q))) (item.Adt w.place (name_at n) ns xs) (with_adt n.name (map number_of ns) d) (h + 1)
    -- "enum" "{" en ("," en)* ","? "}" ";"?
    enum : {d : Declared} (w : Token) {u q : List Token} {xs : List Constant} {h : ℕ}
        → w.kind ≡ k.Enum → IsEnumBody d.types u xs h → IsSemicolon q
        → IsItem d (w ∷ (u ++ q)) (item.Enum w.place None xs) d (h + 1)
    -- "enum" NAME "{" en ("," en)* ","? "}" ";"?
    named_enum : {d : Declared} (w n : Token) {u q : List Token} {xs : List Constant} {h : ℕ}
        → w.kind ≡ k.Enum → IsOtherName leaves d.types n → IsEnumBody (with_name d.types n.name) u xs h → IsSemicolon q
        → IsItem d (w ∷ n ∷ (u ++ q)) (item.Enum w.place (Some (name_at n)) xs) (with_type n.name d) (h + 1)
    -- scope? base gdcl ("," gdcl)* ";"
    declare : {d : Declared} {takes : Bool} (t : Token) {s u v : List Token} {scope : Option Scope} {inside : List ℕ} {x : TypeTree} {ys : List Declarator} {h i : ℕ}
        → IsScope d.types s scope → IsBase leaves (with_names d.types inside) true takes u x h → IsDeclarators d inside v ys i → t.kind ≡ k.Semicolon
        → IsItem d (s ++ u ++ v ++ t ∷ []) (item.Declare (start (s ++ u)) scope x ys) d (max h i + 1)
    -- scope? base fhead block
    function : {d : Declared} {takes : Bool} {s u v b : List Token} {scope : Option Scope} {inside : List ℕ} {x : TypeTree} {head : Head} {body : Stmt} {h i j : ℕ}
        → IsScope d.types s scope → IsBase leaves (with_names d.types inside) true takes u x h → IsHead d inside v head i
        → IsBlock leaves (body_types d head.owner) b body j
        → IsItem d (s ++ u ++ v ++ b) (item.Function (start (s ++ u)) scope x head body) d (max h (max i j) + 1)

  -- item*
  pub data IsItems : List Token → List Item → Declared → ℕ → Type 0 where
    none : IsItems [] [] nothing_declared 0
    more : {d after : Declared} {u v : List Token} {xs : List Item} {x : Item} {h i : ℕ}
        → IsItems u xs d h → IsItem d v x after i → IsItems (u ++ v) (xs ++ x ∷ []) after (max h i)

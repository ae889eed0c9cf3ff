-- What the parsers of types and declarators answer, from a token of a text on.
use Rattle.std.proofs.Common.{◌≡◌, ◌≢◌, ℕ, ◌+◌, ◌-◌, ◌<◌, ◌≤◌, max, Bool, true, false, List, [], ◌∷◌, ◌++◌, length, Some, Ok, Err, refl, sym, subst, arith, append_assoc}
use Rattle.al_lex.specs.declared.kind.TokenKind.{TokenKind}
use Rattle.al_lex.specs.declared.kind.TokenKind.TheVariants as k
use Rattle.al_lex.specs.declared.token.Token.{Token}
use Rattle.al_lex.specs.TokenList.{TokenList}
use Rattle.al_tree.specs.Words.{start}
use Rattle.al_tree.specs.Leaves.{leaves_of}
use Rattle.al_tree.specs.Types.{Leaves, arrays, name_at, number, IsBound, IsBounds, IsBase, channel, buffered, IsStarred, base, star, IsTypeTree, plain, array, IsDcl, dcl as is_dcl}
use Rattle.al_tree.specs.Types as rules
use Rattle.al_tree.specs.Reading.{kind, same_kind}
use Rattle.al_tree.specs.Correct.{Grammar}
use Rattle.al_tree.specs.Tree.{limit}
use Rattle.al_tree.specs.Parts.{Ends, IsPartAt, IsPartFault, count, stop_of}
use Rattle.al_tree.specs.declared.cursor.ParseError.{ParseError}
use Rattle.al_tree.specs.declared.cursor.ParseError.TheVariants.{NoMemory}
use Rattle.al_tree.specs.declared.fault.ParseFault.{ParseFault}
use Rattle.al_tree.specs.declared.fault.ParseStop.TheVariants as stop
use Rattle.al_tree.specs.declared.type_tree.Bound.{Bound}
use Rattle.al_tree.specs.declared.type_tree.Bound.TheVariants as b
use Rattle.al_tree.specs.declared.type_tree.TypeTree.{TypeTree}
use Rattle.al_tree.specs.declared.type_tree.TypeTree.TheVariants as ty
use Rattle.al_tree.specs.declared.type_tree.Dcl.{Dcl}
use Rattle.al_tree.proofs.Law.{Family, Any, Verdict, token}
use Rattle.al_tree.proofs.Verdicts.{world, Sized}
use Rattle.al_tree.proofs.PartVerdicts.{CompleteParts, Sized200, read_part, only_part, none_at, fault_at_error}
use Rattle.al_parse_type.specs.Parse.{dcl}
use Rattle.al_parse_type.specs.Within.{type_within}
use Rattle.al_parse_type.specs.Calls.{types_of, dcls_of}
use Rattle.al_parse_type.proofs.BoundLaw.{kind_is, dcl_law}
use Rattle.al_parse_type.proofs.BoundComplete.{dcl_c}
use Rattle.al_parse_type.proofs.TypeLaw.{type_law, parts_law}
use Rattle.al_parse_type.proofs.TypeWhole.{whole_type}

nothing_bracket : same_kind (kind []) k.LeftBracket ≡ false
unfolding kind same_kind
nothing_bracket = refl

nothing_star : same_kind (kind []) k.Star ≡ false
unfolding kind same_kind
nothing_star = refl

kind_of_first : (t : Token) (ts : List Token) (kd : TokenKind) → same_kind (kind (t ∷ ts)) kd ≡ true → t.kind ≡ kd
unfolding kind
kind_of_first t ts kd h = kind_is t.kind kd h

-- a test that cannot be true is false
refuted : (b : Bool) → (b ≡ true → ⊥) → b ≡ false
refuted true h = absurd (h refl)
refuted false h = refl

module _ (leaves : Leaves) (types : List ℕ) where
  abbrev GT : Grammar TypeTree
  GT u x h = IsTypeTree leaves types true u x h

  abbrev GD : Grammar Dcl
  GD u x h = IsDcl leaves types u x h

  -- one bound in brackets
  abbrev one : Bound
  one = b.Number (token k.Number).place (leaves.number (token k.Number))

  one_bound : {v : List Token} {xs : List Bound} {h : ℕ} → IsBounds leaves types v xs h → (t : Token) → t.kind ≡ k.LeftBracket → IsBounds leaves types (v ++ t ∷ token k.Number ∷ token k.RightBracket ∷ []) (xs ++ one ∷ []) (max h 0)
  one_bound l t c = rules.more t (token k.RightBracket) l c (rules.term (rules.prim (number (token k.Number) refl))) refl

  -- a type with a token more, and tokens behind it
  record Goes (u : List Token) (t : Token) : Type 0 where
    more : List Token
    tree : TypeTree
    height : ℕ
    is : IsTypeTree leaves types true (u ++ t ∷ more) tree height

  chan_base : {u : List Token} {x : TypeTree} {h : ℕ} → IsBase leaves types true true u x h → (t : Token) → t.kind ≡ k.LeftBracket → Goes u t
  chan_base (channel w o c {u = u} {x = x} {h = h} wc oc a ec) t tc = record {
    more = token k.Number ∷ token k.RightBracket ∷ [];
    tree = ty.Chan w.place x (Some one);
    height = max (h + 1) 0;
    is = subst (λ l. IsTypeTree leaves types true (w ∷ o ∷ l) (ty.Chan w.place x (Some one)) (max (h + 1) 0)) (sym (append_assoc u (c ∷ []) (t ∷ token k.Number ∷ token k.RightBracket ∷ [])))
        (plain (base (buffered w o c t (token k.RightBracket) wc oc a ec tc (rules.term (rules.prim (number (token k.Number) refl))) refl)));
  }

  chan_goes : {u : List Token} {x : TypeTree} {h : ℕ} → IsStarred leaves types true true u x h → (t : Token) → t.kind ≡ k.LeftBracket → Goes u t
  chan_goes (base d) t tc = chan_base d t tc

  goes_bracket : {u : List Token} {x : TypeTree} {h : ℕ} → IsTypeTree leaves types true u x h → (t : Token) → t.kind ≡ k.LeftBracket → Goes u t
  goes_bracket (plain {takes = true} d) t tc = chan_goes d t tc
  goes_bracket (plain {takes = false} {u = u} {x = x} {h = h} d) t tc = record {
    more = token k.Number ∷ token k.RightBracket ∷ [];
    tree = arrays (start u) (one ∷ []) x;
    height = max h (max 0 0);
    is = array d (one_bound rules.none t tc);
  }
  goes_bracket (array {u = u} {v = v} {x = x} {n = m} {ns = ms} {h = h} {i = i} d q) t tc = record {
    more = token k.Number ∷ token k.RightBracket ∷ [];
    tree = arrays (start u) (m ∷ (ms ++ one ∷ [])) x;
    height = max h (max i 0);
    is = subst (λ l. IsTypeTree leaves types true l (arrays (start u) (m ∷ (ms ++ one ∷ [])) x) (max h (max i 0))) (sym (append_assoc u v (t ∷ token k.Number ∷ token k.RightBracket ∷ []))) (array d (one_bound q t tc));
  }

  no_bracket : {u : List Token} {x : TypeTree} {h : ℕ} → IsTypeTree leaves types true u x h → (r : List Token) → Ends GT u r → same_kind (kind r) k.LeftBracket ≡ false
  no_bracket d [] ends = nothing_bracket
  no_bracket d (t ∷ ts) ends = refuted (same_kind (kind (t ∷ ts)) k.LeftBracket) (λ h. let g = goes_bracket d t (kind_of_first t ts k.LeftBracket h) in ends g.more g.tree g.height g.is)

  no_star : {takes : Bool} {u : List Token} {x : TypeTree} {h : ℕ} → IsStarred leaves types true takes u x h → (r : List Token) → Ends GT u r → same_kind (kind r) k.Star ≡ false
  no_star d [] ends = nothing_star
  no_star {u = u} {x = x} {h = h} d (t ∷ ts) ends = refuted (same_kind (kind (t ∷ ts)) k.Star) (λ e. ends [] (ty.Pointer (start u) x) h (plain (star t d (kind_of_first t ts k.Star e))))

  abbrev PT : Family (TypeTree × ℕ)
  PT w = type_within leaves types w.turns w.depth

  pub complete_types : CompleteParts GT PT
  complete_types u r x h d ends F n low short = whole_type leaves types F d n low r short (no_bracket d r ends) (λ takes s. no_star s r ends)

  pub types_verdict : (F n : ℕ) (list : List Token) → length list < F → Verdict (world F n) PT (Sized GT) list (PT (world F n) list)
  types_verdict F n list short = (type_law leaves types n (λ R w d f p x. parts_law leaves types n R w d f p x) (Unit {0}) (world F n) true Any refl (λ _. omega arith)).run tt list tt short

  -- ---- declarators

  abbrev PD : Family (Dcl × ℕ)
  PD w = dcl leaves types w.turns w.depth

  record GoesDcl (u : List Token) (t : Token) : Type 0 where
    more : List Token
    tree : Dcl
    height : ℕ
    is : IsDcl leaves types (u ++ t ∷ more) tree height

  dcl_goes : {u : List Token} {x : Dcl} {h : ℕ} → IsDcl leaves types u x h → (t : Token) → t.kind ≡ k.LeftBracket → GoesDcl u t
  dcl_goes (is_dcl s {u = u} {v = v} {n = n} {h = h} {bounds = xs} a c q) t tc = record {
    more = token k.Number ∷ token k.RightBracket ∷ [];
    tree = record { at = start (u ++ s ∷ []); stars = n; name = name_at s; bounds = xs ++ one ∷ [] };
    height = max h 0;
    is = subst (λ l. IsDcl leaves types l (record { at = start (u ++ s ∷ []); stars = n; name = name_at s; bounds = xs ++ one ∷ [] }) (max h 0)) (sym (append_assoc u (s ∷ v) (t ∷ token k.Number ∷ token k.RightBracket ∷ []))) (is_dcl s a c (one_bound q t tc));
  }

  dcl_ends : {u : List Token} {x : Dcl} {h : ℕ} → IsDcl leaves types u x h → (r : List Token) → Ends GD u r → same_kind (kind r) k.LeftBracket ≡ false
  dcl_ends d [] ends = nothing_bracket
  dcl_ends d (t ∷ ts) ends = refuted (same_kind (kind (t ∷ ts)) k.LeftBracket) (λ h. let g = dcl_goes d t (kind_of_first t ts k.LeftBracket h) in ends g.more g.tree g.height g.is)

  pub complete_dcls : CompleteParts GD PD
  complete_dcls u r x h d ends F n low short = dcl_c leaves types F d n low r short (dcl_ends d r ends)

  pub dcls_verdict : (F n : ℕ) (list : List Token) → length list < F → Verdict (world F n) PD (Sized GD) list (PD (world F n) list)
  dcls_verdict F n list short = (dcl_law leaves types (Unit {0}) (world F n) (λ _. omega arith)).run tt list tt short

-- ---- over the tokens of a text

pub shorter : (toks : TokenList) (at : ℕ) (list : List Token) → Sized200 toks at list → length list < length toks.list
shorter toks at list s = omega (arith, s.within, s.some)

module _ (toks : TokenList) (types : List ℕ) (at : ℕ) (list : List Token) (s : Sized200 toks at list) where
  abbrev L : Leaves
  L = leaves_of toks.text

  abbrev N : ℕ
  N = length toks.list

  pub type_read : (x : TypeTree) (h : ℕ) (r : List Token) → type_within L types N limit list ≡ Ok ((x, h), r) → h ≤ limit → IsPartAt (types_of toks types) toks at x (count toks - length r)
  type_read x h r e low = read_part (GT L types) (PT L types) (complete_types L types) toks at list s N (shorter toks at list s) (types_verdict L types N limit list (shorter toks at list s)) x h r e low

  pub type_only : (x y : TypeTree) (h next : ℕ) (r : List Token) → type_within L types N limit list ≡ Ok ((y, h), r) → IsPartAt (types_of toks types) toks at x next → (y ≡ x) × (count toks - length r ≡ next)
  type_only x y h next r e q = only_part (GT L types) (PT L types) (complete_types L types) toks at list s N (shorter toks at list s) (types_verdict L types N limit list (shorter toks at list s)) x y h next r e q

  pub type_none : (e : ParseError) → (e ≢ NoMemory → type_within L types N limit list ≡ Err e) → stop_of toks e ≢ stop.NoMemory → (x : TypeTree) (next : ℕ) → IsPartAt (types_of toks types) toks at x next → ⊥
  type_none e reads some x next q = none_at (GT L types) (PT L types) (complete_types L types) toks at list s N (shorter toks at list s) (types_verdict L types N limit list (shorter toks at list s)) e reads some x next q

  pub type_fault : (e : ParseError) → (e ≢ NoMemory → type_within L types N limit list ≡ Err e) → (f : ParseFault) → stop_of toks e ≡ stop.Fault f → IsPartFault (types_of toks types) toks at f
  type_fault e reads f g = fault_at_error (GT L types) (PT L types) (complete_types L types) toks at list s N (shorter toks at list s) (types_verdict L types N limit list (shorter toks at list s)) e reads f g

  pub dcl_read : (x : Dcl) (h : ℕ) (r : List Token) → dcl L types N limit list ≡ Ok ((x, h), r) → h ≤ limit → IsPartAt (dcls_of toks types) toks at x (count toks - length r)
  dcl_read x h r e low = read_part (GD L types) (PD L types) (complete_dcls L types) toks at list s N (shorter toks at list s) (dcls_verdict L types N limit list (shorter toks at list s)) x h r e low

  pub dcl_only : (x y : Dcl) (h next : ℕ) (r : List Token) → dcl L types N limit list ≡ Ok ((y, h), r) → IsPartAt (dcls_of toks types) toks at x next → (y ≡ x) × (count toks - length r ≡ next)
  dcl_only x y h next r e q = only_part (GD L types) (PD L types) (complete_dcls L types) toks at list s N (shorter toks at list s) (dcls_verdict L types N limit list (shorter toks at list s)) x y h next r e q

  pub dcl_none : (e : ParseError) → (e ≢ NoMemory → dcl L types N limit list ≡ Err e) → stop_of toks e ≢ stop.NoMemory → (x : Dcl) (next : ℕ) → IsPartAt (dcls_of toks types) toks at x next → ⊥
  dcl_none e reads some x next q = none_at (GD L types) (PD L types) (complete_dcls L types) toks at list s N (shorter toks at list s) (dcls_verdict L types N limit list (shorter toks at list s)) e reads some x next q

  pub dcl_fault : (e : ParseError) → (e ≢ NoMemory → dcl L types N limit list ≡ Err e) → (f : ParseFault) → stop_of toks e ≡ stop.Fault f → IsPartFault (dcls_of toks types) toks at f
  dcl_fault e reads f g = fault_at_error (GD L types) (PD L types) (complete_dcls L types) toks at list s N (shorter toks at list s) (dcls_verdict L types N limit list (shorter toks at list s)) e reads f g

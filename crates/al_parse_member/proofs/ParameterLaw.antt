-- The parsers of parameters keep the law, with the languages of the grammar.
use Rattle.std.proofs.Common.{◌≡◌, ℕ, zero, suc, pred, ◌<◌, ◌≤◌, max, Bool, true, false, if◌then◌else◌, ◌&&◌, List, [], ◌∷◌, ◌++◌, length, Option, Some, None, Ok, Err, refl, sym, ap, ◌∙◌, subst, arith, append_assoc, append-nil, length-append}
use Rattle.std.proofs.lemmas.Grind.{common_steps}
use Rattle.al_base.specs.declared.place.Place.{Place}
use Rattle.al_lex.specs.declared.kind.TokenKind.{TokenKind}
use Rattle.al_lex.specs.declared.kind.TokenKind.TheVariants as k
use Rattle.al_lex.specs.declared.token.Token.{Token}
use Rattle.al_tree.specs.Words.{start, is_void, basic_type}
use Rattle.al_tree.specs.Types.{Leaves, known, name_at, IsTypeName, IsOtherName, IsBound, IsBase, AreStars}
use Rattle.al_tree.specs.Types as rules
use Rattle.al_tree.specs.Items.{still_takes_bracket, is_void_alone, IsOpenBounds, missing, IsParameter, named, unnamed, unnamed_array, own_pointer, own_value, IsParameters, one, IsParameterList, void, some}
use Rattle.al_tree.specs.Items as items
use Rattle.al_tree.specs.Reading.{Outcome, Parser, and_then, ◌>>=◌, pure, refuse, kind, same_kind, peek, take_if}
use Rattle.al_tree.specs.declared.cursor.ParseError.TheVariants.{NoMemory, Stuck, Deep}
use Rattle.al_tree.specs.declared.type_tree.BasicType.TheVariants as bt
use Rattle.al_tree.specs.declared.type_tree.Bound.{Bound}
use Rattle.al_tree.specs.declared.type_tree.TypeTree.{TypeTree}
use Rattle.al_tree.specs.declared.type_tree.TypeTree.TheVariants as ty
use Rattle.al_tree.specs.declared.item.Parameter.{Parameter}
use Rattle.al_tree.specs.declared.item.Parameter.TheVariants as par
use Rattle.al_tree.proofs.Law.{World, Family, Lang, Any, Has, Law, Verdict, token, down, bind, map_law, pure_law, refuse_law, choose, weaken, anywhere, look, kind_local, start_local, located, take_law, turn_law, expect_law, a_turn, all_turns, no_turn, relang}
use Rattle.al_parse_type.specs.declared.part.Part.TheVariants as part
use Rattle.al_parse_type.specs.declared.part.ReadBase.{ReadBase}
use Rattle.al_parse_type.specs.Parse.{SizedPart, SizedBound, sees_type_name, sees_other_name, stars_from, sized_base}
use Rattle.al_parse_type.specs.Within.{base_within, inside_within}
use Rattle.al_parse_type.proofs.BoundLaw.{always, kind_is, first_kind, and_parts, down_fits, at_nil, other_local, other_is, bound_law, stars_law}
use Rattle.al_parse_type.proofs.TypeLaw.{type_name_is, type_name_local, zero_max, base_long, base_place, LBase, LPart}
use Rattle.al_parse_type.proofs.BaseWhole.{base_within_law, inside_within_law, arguments_within_law}
use Rattle.al_parse_member.specs.Parameters as parse
use Rattle.al_parse_member.specs.Parameters.{OpenBounds, SizedParameter, Parameters, type_name, some_name, open_bounds_from, parameter_list}

-- more is known of the tokens than is needed
pub guarded : {A R : Type 0} {w : World} {G G' : List Token → Type 0} {p : Family A} {Q : Lang A} → ((ts : List Token) → G' ts → G ts) → Law R w G p Q → Law R w G' p Q
guarded f l = record { run = λ rt ts g s. l.run rt ts (f ts g) s; has = l.has }

-- what is read begins with the next token, of which that is seen
first_law : {A R X : Type 0} {w : World} {G : List Token → Type 0} {p : Family A} {Q : Lang A} (seen : List Token → X) (x : X) → ((t : Token) (u v : List Token) → seen (t ∷ u) ≡ seen (t ∷ v))
    → ((u : List Token) (a : A) → Q u a → 0 < length u) → Has (λ u a. Q u a × (seen u ≡ x)) → Law R w G p Q → Law R w (λ ts. G ts × (seen ts ≡ x)) p (λ u a. Q u a × (seen u ≡ x))
first_law {A} {w = w} {p = p} {Q = Q} seen x same long h l = record { run = λ rt ts g s. by ts g.1 (p w ts) (l.run rt ts g.0 s); has = h }
  where
    begins : (u r : List Token) → 0 < length u → seen u ≡ seen (u ++ r)
    begins [] r s = absurd (omega (arith, s))
    begins (t ∷ u) r s = same t u (u ++ r)

    by : (ts : List Token) → seen ts ≡ x → (o : Outcome A) → Verdict w p Q ts o → Verdict w p (λ u a. Q u a × (seen u ≡ x)) ts o
    by ts e (Ok y) v = record { used = v.used; cut = v.cut; again = v.again; is = (v.is, begins v.used y.1 (long v.used y.0 v.is) ∙ ap seen (sym v.cut) ∙ e) }
    by ts e (Err NoMemory) v = absurd v
    by ts e (Err (Stuck n)) v = record { used = v.used; rest = v.rest; cut = v.cut; count = v.count; again = v.again; goes_on = λ none. on v.used (v.cut ∙ ap (λ l. v.used ++ l) none ∙ append-nil v.used) (v.goes_on none) }
      where
        on : (u : List Token) → ts ≡ u → Has (λ v b. Q (u ++ v) b) → Has (λ v b. Q (u ++ v) b × (seen (u ++ v) ≡ x))
        on [] c g = h
        on (t ∷ u) c g = record { word = g.word; value = g.value; is = (g.is, same t (u ++ g.word) u ∙ ap seen (sym c) ∙ e) }
    by ts e (Err (Deep n)) v = record {
      used = v.used;
      last = v.last;
      rest = v.rest;
      cut = v.cut;
      count = v.count;
      again = v.again;
      goes_on = let g = v.goes_on in record { word = g.word; value = g.value; is = (g.is, first v.used v.last g.word v.rest ∙ ap seen (sym v.cut) ∙ e) };
    }
      where
        first : (u : List Token) (t : Token) (a b : List Token) → seen (u ++ t ∷ a) ≡ seen (u ++ t ∷ b)
        first [] t a b = same t a b
        first (s ∷ u) t a b = same s (u ++ t ∷ a) (u ++ t ∷ b)

-- ---- names of types

equal_self : (n : ℕ) → Rattle.std.specs.Prelude.◌==◌ n n ≡ true
equal_self n = grind (arith, common_steps)

pub record TypeToken (leaves : Leaves) (types : List ℕ) : Type 0 where
  pub token : Token
  pub is : IsTypeName leaves types token

pub type_token : (leaves : Leaves) (types : List ℕ) → some_name types ≡ true → TypeToken leaves types
type_token leaves [] h = absurd (let f : ⊥ = cc in f)
type_token leaves (n ∷ ns) h = record {
  token = record { kind = k.Name; name = n; from = 0; to = 0; place = start [] };
  is = rules.type_name refl (let e = equal_self n in rw e refl);
}

no_end : (xs : List (Option Bound)) (x : Option Bound) → xs ++ x ∷ [] ≡ [] → ⊥
no_end [] x e = cc
no_end (y ∷ xs) x e = cc

module _ (leaves : Leaves) (types : List ℕ) where
  -- the name of a type, and what is read behind it
  pub type_name_law : {A R : Type 0} {w : World} {G : List Token → Type 0} {Q : Lang A} (f : World → Token → Parser A) → Has Q
      → ((t : Token) → IsTypeName leaves types t → Law R w Any (λ w. f w t) (λ x a. Q (t ∷ x) a)) → Law R w G (λ w. type_name types >>= f w) Q
  unfolding type_name
  type_name_law {A} {R} {w} {G} {Q} f h next = look (sees_type_name types) (type_name_local leaves types) (λ w is ts. and_then ((if is then take_if true else refuse) ts) (f w)) h by
    where
      by : (is : Bool) → Law R w (λ ts. G ts × (sees_type_name types ts ≡ is)) (λ w ts. and_then ((if is then take_if true else refuse) ts) (f w)) Q
      by true = take_law f always (λ m n l e. e) (IsTypeName leaves types) (λ t ts g. type_name_is leaves types t ts g.1) h (λ t c. weaken (λ r. r.0) (next t c))
      by false = refuse_law h

  -- ---- bounds of which some may be missing

  abbrev pub LOpen : Lang OpenBounds
  LOpen u x = IsOpenBounds leaves types u x.0 x.1

  record IsClosedBound (u : List Token) (x : SizedBound) : Type 0 where
    front : List Token
    last : Token
    cut : u ≡ front ++ last ∷ []
    closes : last.kind ≡ k.RightBracket
    is : IsBound leaves types front x.0 x.1

  closed_law : (R : Type 0) (w : World) → (R → w.fuel ≤ w.turns) → Law R w Any (λ w. parse.closed_bound leaves types w.turns w.depth) IsClosedBound
  unfolding parse.closed_bound
  closed_law R w fits = bind (bound_law leaves types R w fits) (λ u x b. expect_law (λ w c. pure x) k.RightBracket (λ c ec. pure_law x (record { front = u; last = c; cut = refl; closes = ec; is = b })))

  -- behind the bracket that opens, where more bounds are read behind these
  open_inside : (R : Type 0) (w : World) → (R → w.fuel ≤ w.turns)
      → ((R' : Type 0) → (R' → w.fuel ≤ w.turns) → (u : List Token) (xs : List (Option Bound)) (h : ℕ) → IsOpenBounds leaves types u xs h → Law R' w Any (λ w. open_bounds_from leaves types w.turns w.depth w.fuel xs h) (λ v y. LOpen (u ++ v) y))
      → (u : List Token) (xs : List (Option Bound)) (h : ℕ) → IsOpenBounds leaves types u xs h → (o : Token) → o.kind ≡ k.LeftBracket
      → Law R w Any (λ w. parse.open_bound leaves types w.turns w.depth (open_bounds_from leaves types w.turns w.depth w.fuel) xs h) (λ v y. LOpen (u ++ o ∷ v) y)
  open_inside R w fits again u xs h l o oc = look kind kind_local
      (λ w next. if same_kind next k.RightBracket then (take_if true >>= (λ _. open_bounds_from leaves types w.turns w.depth w.fuel (xs ++ None ∷ []) h)) else (parse.closed_bound leaves types w.turns w.depth >>= (λ x. open_bounds_from leaves types w.turns w.depth w.fuel (xs ++ Some x.0 ∷ []) (max h x.1)))) stops
      (λ next. choose (same_kind next k.RightBracket)
      (λ yes. take_law (λ w c. open_bounds_from leaves types w.turns w.depth w.fuel (xs ++ None ∷ []) h) always (λ m n l e. e) (λ t. t.kind ≡ k.RightBracket) (λ t ts g. first_kind t ts next g.1 ∙ kind_is next k.RightBracket yes) stops
      (λ c ec. relang (λ v y i. subst (λ q. LOpen q y) (append_assoc u (o ∷ c ∷ []) v) i) (again (R × (true ≡ true)) (λ r. fits r.0) (u ++ o ∷ c ∷ []) (xs ++ None ∷ []) h (missing o c l oc ec))))
      (λ no. anywhere (bind (closed_law R w fits) (λ v x b.
      relang (λ v2 y i. subst (λ q. LOpen q y) (regroup v b.front b.last v2 b.cut) i) (again R fits (u ++ o ∷ (b.front ++ b.last ∷ [])) (xs ++ Some x.0 ∷ []) (max h x.1) (items.more o b.last l oc b.is b.closes))))))
    where
      stops : Has (λ v y. LOpen (u ++ o ∷ v) y)
      stops = record { word = token k.RightBracket ∷ []; value = (xs ++ None ∷ [], h); is = missing o (token k.RightBracket) l oc refl }

      regroup : (v front : List Token) (last : Token) (v2 : List Token) → v ≡ front ++ last ∷ [] → (u ++ o ∷ (front ++ last ∷ [])) ++ v2 ≡ u ++ (o ∷ (v ++ v2))
      regroup v front last v2 e = append_assoc u (o ∷ (front ++ last ∷ [])) v2 ∙ ap (λ q. u ++ o ∷ (q ++ v2)) (sym e)

  open_law : (R : Type 0) (m : ℕ) (w : World) → w.fuel ≡ m → (R → w.fuel ≤ w.turns) → (u : List Token) (xs : List (Option Bound)) (h : ℕ) → IsOpenBounds leaves types u xs h
      → Law R w Any (λ w. open_bounds_from leaves types w.turns w.depth w.fuel xs h) (λ v y. LOpen (u ++ v) y)
  unfolding open_bounds_from
  open_law R zero w e fits u xs h l = no_turn e (record { word = []; value = (xs, h); is = at_nil leaves types LOpen u (xs, h) l })
  open_law R (suc m) w e fits u xs h l =
      let end : LOpen (u ++ []) (xs, h) = at_nil leaves types LOpen u (xs, h) l in
      a_turn (λ i w. open_bounds_from leaves types w.turns w.depth i xs h) m e
      (look kind kind_local (λ w next. if same_kind next k.LeftBracket then (take_if true >>= (λ _. parse.open_bound leaves types w.turns w.depth (open_bounds_from leaves types w.turns w.depth (pred w.fuel)) xs h)) else pure (xs, h))
      (record { word = []; value = (xs, h); is = end })
      (λ next. choose (same_kind next k.LeftBracket)
      (λ yes. turn_law (λ w t. parse.open_bound leaves types w.turns w.depth (open_bounds_from leaves types w.turns w.depth w.fuel) xs h) always (λ m n l e. e) (λ t. t.kind ≡ k.LeftBracket) (λ t ts g. first_kind t ts next g.1 ∙ kind_is next k.LeftBracket yes)
      (record { word = []; value = (xs, h); is = end })
      (λ o oc. open_inside (R × (true ≡ true)) (down w) (λ r. down_fits w.fuel w.turns (fits r.0)) (λ R' fits2 u2 xs2 h2 l2. open_law R' m (down w) (ap pred e) fits2 u2 xs2 h2 l2) u xs h l o oc))
      (λ no. pure_law (xs, h) end)))

  more_open_law : (R : Type 0) (w : World) → (R → w.fuel ≤ w.turns) → (u : List Token) (xs : List (Option Bound)) (h : ℕ) → IsOpenBounds leaves types u xs h
      → Law R w Any (λ w. open_bounds_from leaves types w.turns w.depth w.turns xs h) (λ v y. LOpen (u ++ v) y)
  more_open_law R w fits u xs h l = all_turns fits (λ i w. open_bounds_from leaves types w.turns w.depth i xs h) (open_law (w.fuel ≤ w.turns) w.turns (record w { fuel = w.turns }) refl (λ r. omega arith) u xs h l)

  pub all_open_law : (R : Type 0) (w : World) → (R → w.fuel ≤ w.turns) → Law R w Any (λ w. open_bounds_from leaves types w.turns w.depth w.turns [] 0) LOpen
  all_open_law R w fits = more_open_law R w fits [] [] 0 items.none

  -- no bounds are no tokens
  none_at : (r : List Token) (xs : List (Option Bound)) (h : ℕ) → IsOpenBounds leaves types r xs h → xs ≡ [] → (r ≡ []) × (h ≡ 0)
  none_at r xs h items.none e = (refl, refl)
  none_at r xs h (missing o c {xs = ys} l oc ec) e = absurd (no_end ys None e)
  none_at r xs h (items.more o c {xs = ys} {x = x} l oc m ec) e = absurd (no_end ys (Some x) e)

  none_of : (r : List Token) (h : ℕ) → IsOpenBounds leaves types r [] h → (r ≡ []) × (h ≡ 0)
  none_of r h q = none_at r [] h q refl

  -- ---- what stands behind a base type

  abbrev pub LParameter : Lang SizedParameter
  LParameter u x = IsParameter leaves types u x.0 x.1

  -- parameters by their base type and what stands behind it
  named_at : {takes : Bool} (t : Token) {u v r : List Token} {x : TypeTree} {s h i : ℕ} {bs : List (Option Bound)} → IsBase leaves types true takes u x h → AreStars leaves types v s → IsOtherName leaves types t → IsOpenBounds leaves types r bs i
      → IsParameter leaves types (u ++ (v ++ t ∷ r)) (par.Plain (start u) x s (Some (name_at t)) bs) (max h i)
  named_at t {u = u} {v = v} {r = r} {x = x} {s = s} {h = h} {i = i} {bs = bs} d a c q = subst (λ l. IsParameter leaves types l (par.Plain (start u) x s (Some (name_at t)) bs) (max h i)) (append_assoc u v (t ∷ r)) (named t d a c q)

  array_at : {takes : Bool} {u v r : List Token} {x : TypeTree} {s h i : ℕ} {b : Option Bound} {bs : List (Option Bound)} → IsBase leaves types true takes u x h → AreStars leaves types v s → still_takes_bracket takes s ≡ false → IsOpenBounds leaves types r (b ∷ bs) i
      → IsParameter leaves types (u ++ (v ++ r)) (par.Plain (start u) x s None (b ∷ bs)) (max h i)
  array_at {u = u} {v = v} {r = r} {x = x} {s = s} {h = h} {i = i} {b = b} {bs = bs} d a f q = subst (λ l. IsParameter leaves types l (par.Plain (start u) x s None (b ∷ bs)) (max h i)) (append_assoc u v r) (unnamed_array d a f q)

  -- the stars, the name or none, and the bounds of a base type
  parameter_after_law : (R : Type 0) (w : World) → (R → w.fuel ≤ w.turns) → (u : List Token) (b : ReadBase) (at : Place) → LBase leaves types true u b → start u ≡ at
      → Law R w Any (λ w. parse.parameter_after leaves types w.turns w.depth at b) (λ v y. LParameter (u ++ v) y)
  unfolding parse.parameter_after parse.named_parameter parse.unnamed_parameter
  parameter_after_law R w fits u b at d p = bind (all_turns fits (λ i w. stars_from i 0) (stars_law leaves types (w.fuel ≤ w.turns) w.turns (record w { fuel = w.turns }) refl [] 0 rules.none)) (λ v s a.
      look (sees_other_name types) (other_local leaves types)
      (λ w is. if is then parse.named_parameter leaves types w.turns w.depth at b s else (if still_takes_bracket b.takes_bracket s then pure (par.Plain at b.tree s None [], b.height) else parse.unnamed_parameter leaves types w.turns w.depth at b s)) (stops v s a)
      (λ is. choose is
      (λ yes. take_law (λ w t. open_bounds_from leaves types w.turns w.depth w.turns [] 0 >>= (λ bs. pure (par.Plain at b.tree s (Some (name_at t)) bs.0, max b.height bs.1))) always (λ m n l e. e) (IsOtherName leaves types) (λ t ts g. other_is leaves types t ts (g.1 ∙ yes)) (stops v s a)
      (λ t c. map_law (λ bs. (par.Plain at b.tree s (Some (name_at t)) bs.0, max b.height bs.1)) (all_open_law (R × (true ≡ true)) w (λ r. fits r.0))
      (λ r bs q. subst (λ z. IsParameter leaves types (u ++ (v ++ t ∷ r)) (par.Plain z b.tree s (Some (name_at t)) bs.0) (max b.height bs.1)) p (named_at t d a c q))))
      (λ no. choose (still_takes_bracket b.takes_bracket s)
      (λ takes. pure_law (par.Plain at b.tree s None [], b.height) (bare v s a))
      (λ free. anywhere (map_law (λ bs. (par.Plain at b.tree s None bs.0, max b.height bs.1)) (all_open_law R w fits) (λ r bs q. unnamed_is v s a r bs.0 bs.1 free q))))))
    where
      bare : (v : List Token) (s : ℕ) → AreStars leaves types v s → LParameter (u ++ (v ++ [])) (par.Plain at b.tree s None [], b.height)
      bare v s a = subst (λ l. LParameter (u ++ l) (par.Plain at b.tree s None [], b.height)) (sym (append-nil v)) (subst (λ z. IsParameter leaves types (u ++ v) (par.Plain z b.tree s None []) b.height) p (unnamed d a))

      stops : (v : List Token) (s : ℕ) → AreStars leaves types v s → Has (λ r y. LParameter (u ++ (v ++ r)) y)
      stops v s a = record { word = []; value = (par.Plain at b.tree s None [], b.height); is = bare v s a }

      nothing : (v : List Token) (s : ℕ) → AreStars leaves types v s → (r : List Token) (h : ℕ) → (r ≡ []) × (h ≡ 0) → LParameter (u ++ (v ++ r)) (par.Plain at b.tree s None [], max b.height h)
      nothing v s a r h e =
          let high : b.height ≡ max b.height h = omega (arith, e.1) in
          subst (λ l. LParameter (u ++ (v ++ l)) (par.Plain at b.tree s None [], max b.height h)) (sym e.0) (subst (λ i. LParameter (u ++ (v ++ [])) (par.Plain at b.tree s None [], i)) high (bare v s a))

      unnamed_is : (v : List Token) (s : ℕ) → AreStars leaves types v s → (r : List Token) (bs : List (Option Bound)) (h : ℕ) → still_takes_bracket b.takes_bracket s ≡ false → IsOpenBounds leaves types r bs h → LParameter (u ++ (v ++ r)) (par.Plain at b.tree s None bs, max b.height h)
      unnamed_is v s a r [] h free q = nothing v s a r h (none_of r h q)
      unnamed_is v s a r (x ∷ bs) h free q = subst (λ z. IsParameter leaves types (u ++ (v ++ r)) (par.Plain z b.tree s None (x ∷ bs)) (max b.height h)) p (array_at d a free q)

  -- ---- brackets behind a type's name

  array_is : (t : Token) → IsTypeName leaves types t → (r : List Token) (bs : List (Option Bound)) (h : ℕ) → IsOpenBounds leaves types r bs h → LParameter (t ∷ r) (par.Plain t.place (ty.Named t.place t.name []) 0 None bs, h)
  array_is t c r [] h q =
      let e = none_of r h q in
      let bare : LParameter (t ∷ []) (par.Plain t.place (ty.Named t.place t.name []) 0 None [], 0) = unnamed (rules.named t c) rules.none in
      let high : 0 ≡ h = omega (arith, e.1) in
      subst (λ w. LParameter (t ∷ w) (par.Plain t.place (ty.Named t.place t.name []) 0 None [], h)) (sym e.0) (subst (λ i. LParameter (t ∷ []) (par.Plain t.place (ty.Named t.place t.name []) 0 None [], i)) high bare)
  array_is t c r (x ∷ bs) h q = let d = unnamed_array (rules.named t c) rules.none refl q in subst (λ i. LParameter (t ∷ r) (par.Plain t.place (ty.Named t.place t.name []) 0 None (x ∷ bs), i)) (zero_max h) d

  array_of_law : (R : Type 0) (w : World) → (R → w.fuel ≤ w.turns) → (t : Token) → IsTypeName leaves types t → (u : List Token) (first : Option Bound) (h : ℕ) → IsOpenBounds leaves types u (first ∷ []) h
      → Law R w Any (λ w. parse.array_of leaves types w.turns w.depth t first h) (λ v y. LParameter (t ∷ (u ++ v)) y)
  unfolding parse.array_of
  array_of_law R w fits t tn u first h l = map_law (λ bs. (par.Plain t.place (ty.Named t.place t.name []) 0 None bs.0, bs.1)) (more_open_law R w fits u (first ∷ []) h l) (λ v bs q. array_is t tn (u ++ v) bs.0 bs.1 q)

  one_open : {u : List Token} {x : Bound} {h : ℕ} (o c : Token) → o.kind ≡ k.LeftBracket → IsBound leaves types u x h → c.kind ≡ k.RightBracket → IsOpenBounds leaves types (o ∷ (u ++ c ∷ [])) (Some x ∷ []) h
  one_open {u} {x} {h} o c oc a ec = subst (λ m. IsOpenBounds leaves types (o ∷ (u ++ c ∷ [])) (Some x ∷ []) m) (zero_max h) (items.more o c items.none oc a ec)

  bound_law_of : (R : Type 0) (w : World) → (R → w.fuel ≤ w.turns) → (t o : Token) → IsTypeName leaves types t → o.kind ≡ k.LeftBracket → (u : List Token) (x : SizedBound) → IsBound leaves types u x.0 x.1
      → Law R w Any (λ w. parse.bracketed leaves types w.turns w.depth t (part.Bound x.0, x.1)) (λ v y. LParameter (t ∷ o ∷ (u ++ v)) y)
  bound_law_of R w fits t o tn oc u x a = expect_law (λ w c. parse.array_of leaves types w.turns w.depth t (Some x.0) x.1) k.RightBracket (λ c ec.
      relang (λ v y i. subst (λ q. LParameter (t ∷ o ∷ q) y) (append_assoc u (c ∷ []) v) i) (array_of_law R w fits t tn (o ∷ (u ++ c ∷ [])) (Some x.0) x.1 (one_open o c oc a ec)))

  bracketed_law : (R : Type 0) (w : World) → (R → w.fuel ≤ w.turns) → (R → 0 < w.depth) → (t o : Token) → IsTypeName leaves types t → o.kind ≡ k.LeftBracket → (u : List Token) (x : SizedPart) → LPart leaves types true u x
      → Law R w Any (λ w. parse.bracketed leaves types w.turns w.depth t x) (λ v y. LParameter (t ∷ o ∷ (u ++ v)) y)
  bracketed_law R w fits deep t o tn oc u (part.Type y, h) a = bind (arguments_within_law leaves types R w fits deep t o tn oc u (y, h) a) (λ v b c.
      relang (λ r z i. subst (λ q. LParameter (t ∷ o ∷ q) z) (append_assoc u v r) i) (parameter_after_law R w fits (t ∷ o ∷ (u ++ v)) b t.place c refl))
  bracketed_law R w fits deep t o tn oc u (part.Bound m, h) a = bound_law_of R w fits t o tn oc u (m, h) a

  bracket_law : (R : Type 0) (w : World) → (R → w.fuel ≤ w.turns) → (t o : Token) → IsTypeName leaves types t → o.kind ≡ k.LeftBracket
      → Law R w Any (λ w. parse.bracket leaves types w.turns w.depth t) (λ v y. LParameter (t ∷ o ∷ v) y)
  unfolding parse.bracket
  bracket_law R w fits t o tn oc = look kind kind_local
      (λ w next. if same_kind next k.RightBracket then (take_if true >>= (λ _. parse.array_of leaves types w.turns w.depth t None 0)) else (inside_within leaves types w.turns w.depth >>= parse.bracketed leaves types w.turns w.depth t)) stops
      (λ next. choose (same_kind next k.RightBracket)
      (λ yes. take_law (λ w c. parse.array_of leaves types w.turns w.depth t None 0) always (λ m n l e. e) (λ t. t.kind ≡ k.RightBracket) (λ t ts g. first_kind t ts next g.1 ∙ kind_is next k.RightBracket yes) stops
      (λ c ec. array_of_law (R × (true ≡ true)) w (λ r. fits r.0) t tn (o ∷ c ∷ []) None 0 (missing o c items.none oc ec)))
      (λ no. anywhere (inside_within_law leaves types R w fits (λ w x. parse.bracketed leaves types w.turns w.depth t x)
      (λ R' fits2 deep u x a. bracketed_law R' w fits2 deep t o tn oc u x a)
      (λ R' fits2 u x a. bound_law_of R' w fits2 t o tn oc u x a))))
    where
      stops : Has (λ v y. LParameter (t ∷ o ∷ v) y)
      stops = record { word = token k.RightBracket ∷ []; value = (par.Plain t.place (ty.Named t.place t.name []) 0 None (None ∷ []), 0); is = array_is t tn (o ∷ token k.RightBracket ∷ []) (None ∷ []) 0 (missing o (token k.RightBracket) items.none oc refl) }

  -- ---- parameters

  pub parameter_has : Has LParameter
  parameter_has = let t = token k.Int in record { word = t ∷ []; value = (par.Plain t.place (ty.Basic t.place bt.Int) 0 None [], 0); is = unnamed (rules.basic t refl) rules.none }

  name_parameter_law : (R : Type 0) (w : World) (G : List Token → Type 0) → (R → w.fuel ≤ w.turns) → ((t : Token) (ts : List Token) → G (t ∷ ts) → IsTypeName leaves types t)
      → Law R w G (λ w. parse.name_parameter leaves types w.turns w.depth) LParameter
  unfolding parse.name_parameter
  name_parameter_law R w G fits g = take_law
      (λ w t. peek >>= (λ next. if same_kind next k.LeftBracket then (take_if true >>= (λ _. parse.bracket leaves types w.turns w.depth t)) else parse.parameter_after leaves types w.turns w.depth t.place (sized_base (ty.Named t.place t.name []) 0)))
      always (λ m n l e. e) (IsTypeName leaves types) g parameter_has
      (λ t tn.
      let stops : Has (λ v y. LParameter (t ∷ v) y) = record { word = []; value = (par.Plain t.place (ty.Named t.place t.name []) 0 None [], 0); is = unnamed (rules.named t tn) rules.none } in
      look kind kind_local (λ w next. if same_kind next k.LeftBracket then (take_if true >>= (λ _. parse.bracket leaves types w.turns w.depth t)) else parse.parameter_after leaves types w.turns w.depth t.place (sized_base (ty.Named t.place t.name []) 0)) stops
      (λ next. choose (same_kind next k.LeftBracket)
      (λ yes. take_law (λ w o. parse.bracket leaves types w.turns w.depth t) always (λ m n l e. e) (λ o. o.kind ≡ k.LeftBracket) (λ o ts g. first_kind o ts next g.1 ∙ kind_is next k.LeftBracket yes) stops
      (λ o oc. bracket_law ((R × (true ≡ true)) × (true ≡ true)) w (λ r. fits r.0.0) t o tn oc))
      (λ no. anywhere (parameter_after_law (R × (true ≡ true)) w (λ r. fits r.0) (t ∷ []) (sized_base (ty.Named t.place t.name []) 0) t.place (rules.named t tn) refl))))

  own_pointer_law : (R : Type 0) (w : World) (G : List Token → Type 0) → some_name types ≡ true → ((t : Token) (ts : List Token) → G (t ∷ ts) → t.kind ≡ k.Star) → Law R w G (λ w. parse.own_pointer leaves types w.turns w.depth) LParameter
  unfolding parse.own_pointer
  own_pointer_law R w G names g = take_law (λ w s. type_name types >>= (λ t. pure (par.OwnPointer s.place t.name, 0))) always (λ m n l e. e) (λ t. t.kind ≡ k.Star) g parameter_has
      (λ s c. let n = type_token leaves types names in
      type_name_law (λ w t. pure (par.OwnPointer s.place t.name, 0)) (record { word = n.token ∷ []; value = (par.OwnPointer s.place n.token.name, 0); is = own_pointer s n.token c n.is }) (λ t tn. pure_law (par.OwnPointer s.place t.name, 0) (own_pointer s t c tn)))

  own_value_law : (R : Type 0) (w : World) (G : List Token → Type 0) → some_name types ≡ true → ((t : Token) (ts : List Token) → G (t ∷ ts) → t.kind ≡ k.Dot) → Law R w G (λ w. parse.own_value leaves types w.turns w.depth) LParameter
  unfolding parse.own_value
  own_value_law R w G names g = take_law (λ w s. type_name types >>= (λ t. pure (par.OwnValue s.place t.name, 0))) always (λ m n l e. e) (λ t. t.kind ≡ k.Dot) g parameter_has
      (λ s c. let n = type_token leaves types names in
      type_name_law (λ w t. pure (par.OwnValue s.place t.name, 0)) (record { word = n.token ∷ []; value = (par.OwnValue s.place n.token.name, 0); is = own_value s n.token c n.is }) (λ t tn. pure_law (par.OwnValue s.place t.name, 0) (own_value s t c tn)))

  based_law : (R : Type 0) (w : World) (G : List Token → Type 0) → (R → w.fuel ≤ w.turns) → Law R w G (λ w. parse.based_parameter leaves types w.turns w.depth) LParameter
  unfolding parse.based_parameter
  based_law R w G fits = look start start_local (λ w at. base_within leaves types w.turns w.depth >>= parse.parameter_after leaves types w.turns w.depth at) parameter_has
      (λ at. bind (located at (λ u b d. base_long leaves types d) (base_place leaves types true at) (base_within_law leaves types R w G fits)) (λ u b d. parameter_after_law R w fits u b at d.0 d.1))

  pub parameter_law : (R : Type 0) (w : World) → (R → w.fuel ≤ w.turns) → Law R w Any (λ w. parse.parameter leaves types w.turns w.depth) LParameter
  unfolding parse.parameter
  parameter_law R w fits = look (sees_type_name types) (type_name_local leaves types) (λ w is ts. goes w is (kind ts) ts) parameter_has
      (λ is. look kind kind_local (λ w next. goes w is next) parameter_has
      (λ next. choose is
      (λ yes. name_parameter_law R w (λ ts. (Any ts × (sees_type_name types ts ≡ is)) × (kind ts ≡ next)) fits (λ t ts g. type_name_is leaves types t ts (g.0.1 ∙ yes)))
      (λ no. choose (same_kind next k.Star && some_name types)
      (λ yes. let q = and_parts (same_kind next k.Star) (some_name types) yes in own_pointer_law R w (λ ts. (Any ts × (sees_type_name types ts ≡ is)) × (kind ts ≡ next)) q.1 (λ t ts g. first_kind t ts next g.1 ∙ kind_is next k.Star q.0))
      (λ no2. choose (same_kind next k.Dot && some_name types)
      (λ yes. let q = and_parts (same_kind next k.Dot) (some_name types) yes in own_value_law R w (λ ts. (Any ts × (sees_type_name types ts ≡ is)) × (kind ts ≡ next)) q.1 (λ t ts g. first_kind t ts next g.1 ∙ kind_is next k.Dot q.0))
      (λ no3. based_law R w (λ ts. (Any ts × (sees_type_name types ts ≡ is)) × (kind ts ≡ next)) fits)))))
    where
      goes : World → Bool → TokenKind → Parser SizedParameter
      goes w is next = if is then parse.name_parameter leaves types w.turns w.depth else (if same_kind next k.Star && some_name types then parse.own_pointer leaves types w.turns w.depth else (if same_kind next k.Dot && some_name types then parse.own_value leaves types w.turns w.depth else parse.based_parameter leaves types w.turns w.depth))

  -- ---- lists of parameters

  abbrev pub LParameters : Lang Parameters
  LParameters u x = IsParameters leaves types u x.0 x.1

  parameter_long : {u : List Token} {x : Parameter} {h : ℕ} → IsParameter leaves types u x h → 0 < length u
  parameter_long (named t {u = u} {v = v} {r = r} d a c q) = let long : 0 < length u = base_long leaves types d in omega (arith, long, length-append (u ++ v) (t ∷ r), length-append u v)
  parameter_long (unnamed {u = u} {v = v} d a) = let long : 0 < length u = base_long leaves types d in omega (arith, long, length-append u v)
  parameter_long (unnamed_array {u = u} {v = v} {r = r} d a f q) = let long : 0 < length u = base_long leaves types d in omega (arith, long, length-append (u ++ v) r, length-append u v)
  parameter_long (own_pointer w t wc c) = omega arith
  parameter_long (own_value w t wc c) = omega arith

  parameters_long : {u : List Token} {xs : List Parameter} {h : ℕ} → IsParameters leaves types u xs h → 0 < length u
  parameters_long (one d) = parameter_long d
  parameters_long (items.more t {u = u} {v = v} l c d) = omega (arith, length-append u (t ∷ v))

  parameters_law : (R : Type 0) (m : ℕ) (w : World) → w.fuel ≡ m → (R → w.fuel ≤ w.turns) → (u : List Token) (xs : List Parameter) (h : ℕ) → IsParameters leaves types u xs h
      → Law R w Any (λ w. parse.parameters_from leaves types w.turns w.depth w.fuel xs h) (λ v y. LParameters (u ++ v) y)
  unfolding parse.parameters_from
  parameters_law R zero w e fits u xs h l = no_turn e (record { word = []; value = (xs, h); is = at_nil leaves types LParameters u (xs, h) l })
  parameters_law R (suc m) w e fits u xs h l =
      let end : LParameters (u ++ []) (xs, h) = at_nil leaves types LParameters u (xs, h) l in
      a_turn (λ i w. parse.parameters_from leaves types w.turns w.depth i xs h) m e
      (look kind kind_local (λ w next. if same_kind next k.Comma then (take_if true >>= (λ _. parse.parameter leaves types w.turns w.depth >>= (λ x. parse.parameters_from leaves types w.turns w.depth (pred w.fuel) (xs ++ x.0 ∷ []) (max h x.1)))) else pure (xs, h))
      (record { word = []; value = (xs, h); is = end })
      (λ next. choose (same_kind next k.Comma)
      (λ yes. turn_law (λ w t. parse.parameter leaves types w.turns w.depth >>= (λ x. parse.parameters_from leaves types w.turns w.depth w.fuel (xs ++ x.0 ∷ []) (max h x.1))) always (λ m n l e. e) (λ t. t.kind ≡ k.Comma) (λ t ts g. first_kind t ts next g.1 ∙ kind_is next k.Comma yes)
      (record { word = []; value = (xs, h); is = end })
      (λ t c. bind (parameter_law (R × (true ≡ true)) (down w) (λ r. down_fits w.fuel w.turns (fits r.0))) (λ v x a.
      relang (λ v2 y i. subst (λ q. LParameters q y) (append_assoc u (t ∷ v) v2) i)
      (parameters_law (R × (true ≡ true)) m (down w) (ap pred e) (λ r. down_fits w.fuel w.turns (fits r.0)) (u ++ t ∷ v) (xs ++ x.0 ∷ []) (max h x.1) (items.more t l c a)))))
      (λ no. pure_law (xs, h) end)))

  -- a list and the parenthesis that closes
  record IsClosed (u : List Token) (x : Parameters) : Type 0 where
    front : List Token
    last : Token
    cut : u ≡ front ++ last ∷ []
    closes : last.kind ≡ k.RightParen
    is : IsParameters leaves types front x.0 x.1

  pub record IsClosedList (u : List Token) (x : Parameters) : Type 0 where
    pub front : List Token
    pub last : Token
    pub cut : u ≡ front ++ last ∷ []
    pub closes : last.kind ≡ k.RightParen
    pub is : IsParameterList leaves types front x.0 x.1

  pub list_has : Has IsClosedList
  list_has = record { word = token k.RightParen ∷ []; value = ([], 0); is = record { front = []; last = token k.RightParen; cut = refl; closes = refl; is = items.none } }

  behind_law : (R : Type 0) (w : World) → (R → w.fuel ≤ w.turns) → (u : List Token) (x : SizedParameter) → LParameter u x → Law R w Any (λ w. parse.parameters_behind leaves types w.turns w.depth x) (λ v y. IsClosed (u ++ v) y)
  unfolding parse.parameters_behind
  behind_law R w fits u x a =
      bind (all_turns fits (λ i w. parse.parameters_from leaves types w.turns w.depth i (x.0 ∷ []) x.1) (parameters_law (w.fuel ≤ w.turns) w.turns (record w { fuel = w.turns }) refl (λ r. omega arith) u (x.0 ∷ []) x.1 (one a))) (λ v xs l.
      expect_law (λ w c. pure xs) k.RightParen (λ c ec. pure_law xs (record { front = u ++ v; last = c; cut = sym (append_assoc u v (c ∷ [])); closes = ec; is = l })))

  is_kind : TokenKind → List Token → Bool
  is_kind kd ts = same_kind (kind ts) kd

  first_is : (kd : TokenKind) (t : Token) (u v : List Token) → is_kind kd (t ∷ u) ≡ is_kind kd (t ∷ v)
  unfolding is_kind kind
  first_is kd t u v = refl

  closed_long : (u : List Token) (x : Parameters) → IsClosed u x → 0 < length u
  closed_long u x a = omega (arith, ap length a.cut, length-append a.front (a.last ∷ []))

  -- behind a `void` stands something, and what is no parenthesis that closes

  behind_long : (t : Token) (u : List Token) (x : Parameters) → IsClosed (t ∷ u) x → 0 < length u
  behind_long t u x a = let long : 0 < length a.front = parameters_long a.is in omega (arith, long, ap length a.cut, length-append a.front (a.last ∷ []))

  pointer_has : (t : Token) → t.kind ≡ k.Void → Has (λ v y. IsClosed (t ∷ v) y × (is_kind k.RightParen v ≡ false))
  unfolding is_kind kind same_kind
  pointer_has t c =
      let s = token k.Star in
      record {
        word = s ∷ token k.RightParen ∷ [];
        value = (par.Plain t.place (ty.Basic t.place bt.Void) 1 None [] ∷ [], 0);
        is = (record { front = t ∷ s ∷ []; last = token k.RightParen; cut = refl; closes = refl; is = one (unnamed (rules.basic t (ap basic_type c)) (rules.more s rules.none refl)) }, refl);
      }

  void_list : (t : Token) (u : List Token) (x : Parameters) → IsClosed (t ∷ u) x → is_kind k.RightParen u ≡ false → IsClosedList (t ∷ u) x
  unfolding is_kind kind same_kind
  void_list t u x a f = record { front = a.front; last = a.last; cut = a.cut; closes = a.closes; is = some a.is (alone a.front a.cut) }
    where
      alone : (front : List Token) → t ∷ u ≡ front ++ a.last ∷ [] → is_void_alone front ≡ false
      alone [] e = refl
      alone (s ∷ []) e =
          let same : u ≡ a.last ∷ [] = cc in
          let yes : true ≡ false = sym (ap (λ x. same_kind x k.RightParen) (ap kind same ∙ a.closes)) ∙ f in
          absurd (let z : ⊥ = cc in z)
      alone (s ∷ r ∷ rs) e = refl

  void_behind_law : (R : Type 0) (w : World) (G : List Token → Type 0) → (R → w.fuel ≤ w.turns) → (t : Token) → t.kind ≡ k.Void
      → Law R w (λ ts. G ts × (is_kind k.RightParen ts ≡ false)) (λ w. parse.parameter_after leaves types w.turns w.depth t.place (sized_base (ty.Basic t.place bt.Void) 0) >>= parse.parameters_behind leaves types w.turns w.depth) (λ v y. IsClosedList (t ∷ v) y)
  void_behind_law R w G fits t c =
      relang (λ v y i. void_list t v y i.0 i.1)
      (first_law (is_kind k.RightParen) false (first_is k.RightParen) (λ v y i. behind_long t v y i) (pointer_has t c)
      (anywhere (bind (parameter_after_law R w fits (t ∷ []) (sized_base (ty.Basic t.place bt.Void) 0) t.place (rules.basic t (ap basic_type c)) refl) (λ v x a. behind_law R w fits (t ∷ v) x a))))

  void_first_law : (R : Type 0) (w : World) (G : List Token → Type 0) → (R → w.fuel ≤ w.turns) → ((t : Token) (ts : List Token) → G (t ∷ ts) → t.kind ≡ k.Void) → Law R w G (λ w. parse.void_first leaves types w.turns w.depth) IsClosedList
  unfolding parse.void_first is_kind
  void_first_law R w G fits g = take_law
      (λ w t. peek >>= (λ next. if same_kind next k.RightParen then (take_if true >>= (λ _. pure ([], 0))) else (parse.parameter_after leaves types w.turns w.depth t.place (sized_base (ty.Basic t.place bt.Void) 0) >>= parse.parameters_behind leaves types w.turns w.depth)))
      always (λ m n l e. e) (λ t. t.kind ≡ k.Void) g list_has
      (λ t c. look kind kind_local (λ w next. if same_kind next k.RightParen then (take_if true >>= (λ _. pure ([], 0))) else (parse.parameter_after leaves types w.turns w.depth t.place (sized_base (ty.Basic t.place bt.Void) 0) >>= parse.parameters_behind leaves types w.turns w.depth)) (ends t c)
      (λ next. choose (same_kind next k.RightParen)
      (λ yes. take_law (λ w q. pure ([], 0)) always (λ m n l e. e) (λ t. t.kind ≡ k.RightParen) (λ t ts g. first_kind t ts next g.1 ∙ kind_is next k.RightParen yes) (ends t c)
      (λ q qc. pure_law ([], 0) (record { front = t ∷ []; last = q; cut = refl; closes = qc; is = void t c })))
      (λ no. guarded (λ ts q. (tt, ap (λ x. same_kind x k.RightParen) q.1 ∙ no)) (void_behind_law (R × (true ≡ true)) w Any (λ r. fits r.0) t c))))
    where
      ends : (t : Token) → t.kind ≡ k.Void → Has (λ v y. IsClosedList (t ∷ v) y)
      ends t c = record { word = token k.RightParen ∷ []; value = ([], 0); is = record { front = t ∷ []; last = token k.RightParen; cut = refl; closes = refl; is = void t c } }

  void_kind : (kd : TokenKind) → same_kind kd k.Void ≡ is_void kd
  unfolding same_kind
  void_kind k.Void = refl
  void_kind _ = refl

  plain_has : Has (λ u y. IsClosed u y × (is_kind k.Void u ≡ false))
  unfolding is_kind kind same_kind
  plain_has =
      let t = token k.Int in
      record {
        word = t ∷ token k.RightParen ∷ [];
        value = (par.Plain t.place (ty.Basic t.place bt.Int) 0 None [] ∷ [], 0);
        is = (record { front = t ∷ []; last = token k.RightParen; cut = refl; closes = refl; is = one (unnamed (rules.basic t refl) rules.none) }, refl);
      }

  plain_list : (u : List Token) (x : Parameters) → IsClosed u x → is_kind k.Void u ≡ false → IsClosedList u x
  unfolding is_kind kind
  plain_list u x a f = record { front = a.front; last = a.last; cut = a.cut; closes = a.closes; is = some a.is (alone a.front a.cut) }
    where
      alone : (front : List Token) → u ≡ front ++ a.last ∷ [] → is_void_alone front ≡ false
      alone [] e = refl
      alone (s ∷ []) e = sym (void_kind s.kind) ∙ ap (λ x. same_kind x k.Void) (sym (ap kind e)) ∙ f
      alone (s ∷ r ∷ rs) e = refl

  pub list_law : (R : Type 0) (w : World) → (R → w.fuel ≤ w.turns) → Law R w Any (λ w. parameter_list leaves types w.turns w.depth) IsClosedList
  unfolding parameter_list is_kind
  list_law R w fits = look kind kind_local
      (λ w next. if same_kind next k.RightParen then (take_if true >>= (λ _. pure ([], 0))) else (if same_kind next k.Void then parse.void_first leaves types w.turns w.depth else (parse.parameter leaves types w.turns w.depth >>= parse.parameters_behind leaves types w.turns w.depth))) list_has
      (λ next. choose (same_kind next k.RightParen)
      (λ yes. take_law (λ w c. pure ([], 0)) always (λ m n l e. e) (λ t. t.kind ≡ k.RightParen) (λ t ts g. first_kind t ts next g.1 ∙ kind_is next k.RightParen yes) list_has
      (λ c ec. pure_law ([], 0) (record { front = []; last = c; cut = refl; closes = ec; is = items.none })))
      (λ no. choose (same_kind next k.Void)
      (λ yes. void_first_law R w (λ ts. Any ts × (kind ts ≡ next)) fits (λ t ts g. first_kind t ts next g.1 ∙ kind_is next k.Void yes))
      (λ no2. guarded (λ ts g. (tt, ap (λ x. same_kind x k.Void) g.1 ∙ no2))
      (relang (λ u y i. plain_list u y i.0 i.1) (first_law (is_kind k.Void) false (first_is k.Void) closed_long plain_has (bind (parameter_law R w fits) (λ u x a. behind_law R w fits u x a)))))))

-- What the outcome of a declaration says of its tokens, which are read in several ways.
use Rattle.std.proofs.Common.{◌≡◌, ℕ, zero, suc, ◌+◌, ◌-◌, ◌<◌, ◌≤◌, ◌==◌, ◌⊎◌, inl, inr, Bool, true, false, if◌then◌else◌, List, [], ◌∷◌, ◌++◌, length, take, drop, Option, Some, None, Ok, Err, refl, sym, ap, ◌∙◌, subst, arith, append_assoc, append-nil, length-append}
use Rattle.std.proofs.lemmas.Bool.Decides.{eqb_tells}
use Rattle.std.proofs.lemmas.List.{take_at, take-append-drop}
use Rattle.al_base.specs.declared.place.Place.{Place}
use Rattle.al_lex.specs.declared.kind.TokenKind.TheVariants as k
use Rattle.al_lex.specs.declared.token.Token.{Token}
use Rattle.al_tree.specs.Words.{start}
use Rattle.al_tree.specs.Types.{Leaves, type_name as is_type, other_name as is_other}
use Rattle.al_tree.specs.Items.{Declared, IsScope}
use Rattle.al_tree.specs.Reading.{Outcome, Parser}
use Rattle.al_tree.specs.declared.cursor.ParseError.{ParseError}
use Rattle.al_tree.specs.declared.cursor.ParseError.TheVariants.{NoMemory, Stuck, Deep}
use Rattle.al_tree.specs.declared.item.Scope.{Scope}
use Rattle.al_tree.proofs.Law.{World, Above, Family, Lang, head, Has, Law, Verdict, ReadAt, above_self}
use Rattle.al_tree.proofs.Verdicts.{world}
use Rattle.al_parse_stmt.proofs.Outcomes.{IsErr, same_head}
use Rattle.al_parse_stmt.specs.Ahead.{owner_ahead, owner_of}
use Rattle.al_parse_stmt.specs.Begun.{Begun, owners, left_with, nearer, up_to, can_go_on, alive_by, some_alive, fault_at, begun_as, deeper_as, least, alive, any_alive}
use Rattle.al_parse_stmt.specs.Parse as parse
use Rattle.al_parse_stmt.specs.Parse.{ReadItem}
use Rattle.al_parse_stmt.proofs.Facts.{never_ok, At, token_at, nothing, start_behind}
use Rattle.al_parse_stmt.proofs.Judge.{RefusedAt, EndedAt, TooDeepAt, Judged, Judge, judged}
use Rattle.al_parse_stmt.proofs.Declared.{NameIs, IsBegun, Agrees, OwnerFits}
use Rattle.al_parse_stmt.proofs.Begins.{same_read}
use Rattle.al_parse_stmt.proofs.BegunLaw.{as_law, as_agrees, found_on}
use Rattle.al_parse_stmt.proofs.NeverDeep.{never_deep}
use Rattle.al_parse_stmt.proofs.Ways as ways
use Rattle.al_parse_stmt.proofs.Ways.{Way, NotDeep, is_err}
use Rattle.al_parse_stmt.proofs.Furthest.{Each, each_of, both_each, way_ahead, Leaves as Leave, Least, least_leaves, Leaving, least_is, none_alive, one_alive}
use Rattle.al_parse_stmt.proofs.ItemEnds.{no_name_last}
use Rattle.al_parse_stmt.proofs.ItemLaw.{LItem}

-- a parser that reads tokens of one kind of list as another one reads what is behind them
through : {A : Type 0} (w : World) (p f : Family A) (Q : Lang A) (u r : List Token) → ((w' : World) → Above w w' → (r' : List Token) → head r' ≡ head r → p w' (u ++ r') ≡ f w' r')
    → (o : Outcome A) → Verdict w f (λ x b. Q (u ++ x) b) r o → Verdict w p Q (u ++ r) o
through w p f Q u r same (Ok x) v = record {
  used = u ++ v.used;
  cut = ap (λ l. u ++ l) v.cut ∙ sym (append_assoc u v.used x.1);
  is = v.is;
  again = λ w' ab r' h. ap (p w') (append_assoc u v.used r') ∙ same w' ab (v.used ++ r') (same_head v.used x.1 r' h ∙ ap head (sym v.cut)) ∙ v.again w' ab r' h;
}
through w p f Q u r same (Err NoMemory) v = absurd v
through w p f Q u r same (Err (Stuck m)) v = record {
  used = u ++ v.used;
  rest = v.rest;
  cut = ap (λ l. u ++ l) v.cut ∙ sym (append_assoc u v.used v.rest);
  count = v.count;
  again = λ w' ab r' h. ap (p w') (append_assoc u v.used r') ∙ same w' ab (v.used ++ r') (same_head v.used v.rest r' h ∙ ap head (sym v.cut)) ∙ v.again w' ab r' h;
  goes_on = λ e. let g = v.goes_on e in record { word = g.word; value = g.value; is = subst (λ l. Q l g.value) (sym (append_assoc u v.used g.word)) g.is };
}
through w p f Q u r same (Err (Deep m)) v = record {
  used = u ++ v.used;
  last = v.last;
  rest = v.rest;
  cut = ap (λ l. u ++ l) v.cut ∙ sym (append_assoc u v.used (v.last ∷ v.rest));
  count = v.count;
  again = λ w' ab d r'. ap (p w') (append_assoc u v.used (v.last ∷ r')) ∙ same w' ab (v.used ++ v.last ∷ r') (same_head v.used (v.last ∷ v.rest) (v.last ∷ r') refl ∙ ap head (sym v.cut)) ∙ v.again w' ab d r';
  goes_on = let g = v.goes_on in record { word = g.word; value = g.value; is = subst (λ l. Q l g.value) (sym (append_assoc u v.used (v.last ∷ g.word))) g.is };
}

name_kind : (leaves : Leaves) (d : Declared) (owner : Option ℕ) (owned : Bool) (t : Token) → NameIs leaves d owner owned t → t.kind ≡ k.Name
name_kind leaves d owner true t i = of i.0
  where
    of : Rattle.al_tree.specs.Types.IsTypeName leaves d.types t → t.kind ≡ k.Name
    of (is_type c e) = c
name_kind leaves d owner false t i = of i.0
  where
    of : Rattle.al_tree.specs.Types.IsOtherName leaves d.types t → t.kind ≡ k.Name
    of (is_other c e) = c

-- the tokens up to one are those before it and it
up_to_is : (before after : List Token) (t : Token) (left : ℕ) → length after ≡ left - 1 → up_to left (before ++ t ∷ after) ≡ before ++ t ∷ []
up_to_is before after t left c =
    ap (λ l. take (length (before ++ t ∷ after) - (left - 1)) l) (sym (append_assoc before (t ∷ []) after))
    ∙ take_at (before ++ t ∷ []) after (length (before ++ t ∷ after) - (left - 1)) (omega (arith, c, length-append before (t ∷ []), length-append before (t ∷ after)))

up_to_all : (ts : List Token) → up_to 0 ts ≡ ts
up_to_all ts = ap (λ l. take (length ts - (0 - 1)) l) (sym (append-nil ts)) ∙ take_at ts [] (length ts - (0 - 1)) (omega arith)

module _ (leaves : Leaves) (d : Declared) (at : Place) (scope : Option Scope) (s : List Token) (word : IsScope leaves d.types s scope) (fits : Each (OwnerFits d) (owners d.adts))
    (rest_law : (owner : Option ℕ) → OwnerFits d owner → (R : Type 0) (w : World) → (R → w.fuel ≤ w.turns) → (s : List Token) (scope : Option Scope) → IsScope leaves d.types s scope → (u : List Token) (x : Begun) (at : Place) → IsBegun leaves d owner u x → start (s ++ u) ≡ at
    → Law R w (Agrees d owner x) (λ w. parse.behind_begun leaves w.turns w.depth d at scope x) (λ v y. LItem leaves d (s ++ (u ++ v)) y))
    (rest_has : (owner : Option ℕ) → OwnerFits d owner → (s : List Token) (scope : Option Scope) → IsScope leaves d.types s scope → (u : List Token) (x : Begun) (at : Place) → IsBegun leaves d owner u x → start (s ++ u) ≡ at
    → Has (λ v y. LItem leaves d (s ++ (u ++ v)) y)) where
  abbrev Q : Lang ReadItem
  Q v x = LItem leaves d (s ++ v) x

  abbrev way : Option ℕ → ℕ → ℕ → Parser Begun
  way o F n = begun_as leaves F n d o

  abbrev whole : ℕ → ℕ → Parser ReadItem
  whole F n = parse.declared leaves F n d at scope

  abbrev rest : ℕ → ℕ → Begun → Parser ReadItem
  rest F n y = parse.behind_begun leaves F n d at scope y

  abbrev the : (o : Option ℕ) → OwnerFits d o → Way Begun
  the o fit = record { reads = way o; Reads = IsBegun leaves d o; law = λ F n. as_law leaves d o fit (Unit {0}) (world F n) (λ _. omega arith) }

  -- ---- a declaration by the way that is found ahead

  fit_of : (F : ℕ) (ts : List Token) → OwnerFits d (owner_of d F ts)
  unfolding owner_of
  fit_of F ts = way_ahead (OwnerFits d) d fits tt (owner_ahead d.types F ts)

  opened : (F n : ℕ) (ts : List Token) → whole F n ts ≡ parse.declared_by leaves F n d at scope ts (owner_of d F ts) (way (owner_of d F ts) F n ts)
  unfolding parse.declared
  opened F n ts = refl

  err_by : (F n : ℕ) (ts : List Token) (o : Option ℕ) (x : Outcome Begun) → IsErr x → IsErr (parse.declared_by leaves F n d at scope ts o x)
  err_by F n ts o (Ok x) e = absurd e
  err_by F n ts o (Err x) e = tt

  err_of : (F n : ℕ) (ts : List Token) → IsErr (way (owner_of d F ts) F n ts) → IsErr (whole F n ts)
  err_of F n ts e = subst IsErr (sym (opened F n ts)) (err_by F n ts (owner_of d F ts) (way (owner_of d F ts) F n ts) e)

  ok_of : (F n : ℕ) (ts : List Token) (o : Option ℕ) (y : Begun) (r : List Token) → owner_of d F ts ≡ o → way o F n ts ≡ Ok (y, r) → whole F n ts ≡ rest F n y r
  ok_of F n ts o y r e h = opened F n ts ∙ ap (λ z. parse.declared_by leaves F n d at scope ts z (way z F n ts)) e ∙ ap (parse.declared_by leaves F n d at scope ts o) h

  -- none is read where each way is refused
  none_read : (F n : ℕ) (ts : List Token) → IsErr (way None F n ts) → Each (λ o. IsErr (way o F n ts)) (owners d.adts) → IsErr (whole F n ts)
  unfolding owner_of
  none_read F n ts none each = err_of F n ts (way_ahead (λ o. IsErr (way o F n ts)) d each none (owner_ahead d.types F ts))

  every : (P : Option ℕ → Type 0) → ((o : Option ℕ) → OwnerFits d o → P o) → P None × Each P (owners d.adts)
  every P k = (k None tt, each_of (OwnerFits d) P (owners d.adts) k fits)

  -- what begins so begins a declaration
  goes_on : (o : Option ℕ) → OwnerFits d o → (u : List Token) → Has (λ v y. IsBegun leaves d o (u ++ v) y) → Has (λ v x. Q (u ++ v) x)
  goes_on o fit u h =
      let g = rest_has o fit s scope word (u ++ h.word) h.value (start (s ++ (u ++ h.word))) h.is refl in
      record { word = h.word ++ g.word; value = g.value; is = subst (λ l. LItem leaves d (s ++ l) g.value) (append_assoc u h.word g.word) g.is }

  begun_long : (o : Option ℕ) (u : List Token) (y : Begun) → IsBegun leaves d o u y → 0 < length u
  begun_long o u y i = omega (arith, ap length i.cut, length-append i.front (i.starred ++ y.1.name ∷ []), length-append i.starred (y.1.name ∷ []))

  -- an item has tokens behind the name
  more_behind : (o : Option ℕ) (u : List Token) (y : Begun) (x : ReadItem) → IsBegun leaves d o u y → LItem leaves d (s ++ (u ++ [])) x → ⊥
  more_behind o u y x i a =
      no_name_last leaves (s ++ (i.front ++ i.starred)) y.1.name (name_kind leaves d o y.1.owned y.1.name i.name)
      (subst (λ l. LItem leaves d l x) (ap (λ l. s ++ l) (append-nil u ∙ i.cut ∙ sym (append_assoc i.front i.starred (y.1.name ∷ []))) ∙ sym (append_assoc s (i.front ++ i.starred) (y.1.name ∷ []))) a)

  module _ (R : Type 0) (w : World) (enough : R → w.fuel ≤ w.turns) (r : R) (ts : List Token) (there : start (s ++ ts) ≡ at) (few : length ts < w.fuel) where
    abbrev F : ℕ
    F = w.turns

    abbrev n : ℕ
    n = w.depth

    -- as many levels as tokens may be left
    abbrev high : ℕ
    high = F - 1

    abbrev p : Family ReadItem
    p w = whole w.turns w.depth

    short : length ts < F
    short = omega (arith, few, enough r)

    abbrev main : Option ℕ
    main = owner_of d F ts

    main_fit : OwnerFits d main
    main_fit = fit_of F ts

    begun_at : (o : Option ℕ) (u v : List Token) (y : Begun) → IsBegun leaves d o u y → ts ≡ u ++ v → start (s ++ u) ≡ at
    begun_at o u v y i e = sym (start_behind s u v (begun_long o u y i)) ∙ ap (λ l. start (s ++ l)) (sym e) ∙ there

    -- ---- what is read

    read : (y : Begun) (l : List Token) → way main F n ts ≡ Ok (y, l) → Judged w p Q ts (whole F n ts)
    read y l h =
        let v = subst (Verdict w (λ w. way main w.turns w.depth) (IsBegun leaves d main) ts) h ((as_law leaves d main main_fit R w enough).run r ts tt few) in
        let known = as_agrees leaves d F n main ts y l h in
        let place = begun_at main v.used l y v.is v.cut in
        let c = (rest_law main main_fit R w enough s scope word v.used y at v.is place).run r l known (omega (arith, few, ap length v.cut, length-append v.used l)) in
        let here : length (v.used ++ l) < F = omega (arith, short, ap length v.cut) in
        let on : way main F n (v.used ++ l) ≡ Ok (y, l) = ap (way main F n) (sym v.cut) ∙ h in
        let z = through w p (λ w. rest w.turns w.depth y) Q v.used l
        (λ w' ab r' e. ok_of w'.turns w'.depth (v.used ++ r') main y r' (found_on leaves d main main_fit F n v.used y l here on w'.turns ab.turns r' e) (v.again w' ab r' e))
        (rest F n y l) c in
        judged w p Q ts (whole F n ts) (subst (λ m. Verdict w p Q m (whole F n ts)) (sym v.cut) (subst (Verdict w p Q (v.used ++ l)) (sym (ok_of F n ts main y l refl h)) z))

    -- ---- what is not

    -- a way that is read is the one that is found ahead
    only_main : (o : Option ℕ) → OwnerFits d o → (m : ℕ) (u v : List Token) (y : Begun) (t : Token) (l : List Token) → way o F m u ≡ Ok (y, t ∷ l) → ts ≡ u ++ v → main ≡ o
    only_main o fit m u v y t l h e =
        let q = ways.at (the o fit) F m u (Ok (y, t ∷ l)) (omega (arith, short, ap length e, length-append u v)) h in
        ap (owner_of d F) (e ∙ ap (λ l. l ++ v) q.cut ∙ append_assoc q.used (t ∷ l) v)
        ∙ found_on leaves d o fit F m q.used y (t ∷ l) (omega (arith, short, ap length e, length-append u v, ap length q.cut)) (ap (way o F m) (sym q.cut) ∙ h) F (omega arith) (t ∷ (l ++ v)) refl

    never_read : (o : Option ℕ) → OwnerFits d o → (e : ParseError) → way main F n ts ≡ Err e → (x : Begun × List Token) → way o F n ts ≡ Ok x → ⊥
    never_read o fit e me x h =
        let q = ways.at (the o fit) F n ts (Ok x) short h in
        let same : main ≡ o = ap (owner_of d F) q.cut ∙ found_on leaves d o fit F n q.used x.0 x.1 (omega (arith, short, ap length q.cut)) (ap (way o F n) (sym q.cut) ∙ h) F (omega arith) x.1 refl in
        never_ok e x (sym me ∙ ap (λ z. way z F n ts) same ∙ h)

    -- what is known where no way is read, and the fault furthest on leaves so many tokens
    record Given (left : ℕ) : Type 0 where
      error : ParseError
      is : way main F n ts ≡ Err error
      least : Least left (λ o. way o F n ts) (owners d.adts)
      some : Leaving (OwnerFits d) (λ o. way o F n ts) left
      -- no name is read before that token by the way that is found ahead
      none : (m : ℕ) → way main F n ts ≡ Err (Deep m) → (m + 1 == left) ≡ false → (y : Begun) (t : Token) (l : List Token) → way main F high (up_to left ts) ≡ Ok (y, t ∷ l) → ⊥

    room_of : (left : ℕ) → Leaving (OwnerFits d) (λ o. way o F n ts) left → left ≤ length ts
    room_of left g = by g.error g.is g.left
      where
        by : (e : ParseError) → way g.way F n ts ≡ Err e → left_with e ≡ left → left ≤ length ts
        by NoMemory h l = absurd (ways.never_memory (the g.way g.fit) F n ts short h)
        by (Stuck m) h l = omega (arith, l, ways.room_stuck (the g.way g.fit) F n ts m short h)
        by (Deep m) h l = omega (arith, l, ways.room_deep (the g.way g.fit) F n ts m short h)

    room : (left : ℕ) → Given left → left ≤ length ts
    room left g = room_of left g.some

    -- ---- the text ends too early

    nothing_behind : (o : Option ℕ) → OwnerFits d o → (F2 n2 : ℕ) → F ≤ F2 → (y : Begun) → way o F2 n2 ts ≡ Ok (y, []) → IsErr (rest F2 n2 y [])
    nothing_behind o fit F2 n2 h y e =
        let v = ways.at (the o fit) F2 n2 ts (Ok (y, [])) (omega (arith, short, h)) e in
        by v ((rest_law o fit (Unit {0}) (world F2 n2) (λ _. omega arith) s scope word v.used y at v.is (begun_at o v.used [] y v.is v.cut)).run tt [] (as_agrees leaves d F2 n2 o ts y [] e) (omega (arith, short, h))) (rest F2 n2 y []) refl
      where
        by : (v : ReadAt (world F2 n2) (λ w. way o w.turns w.depth) (IsBegun leaves d o) ts y []) → Verdict (world F2 n2) (λ w. rest w.turns w.depth y) (λ l x. LItem leaves d (s ++ (v.used ++ l)) x) [] (rest F2 n2 y []) → (x : Outcome ReadItem) → rest F2 n2 y [] ≡ x → IsErr (rest F2 n2 y [])
        by v c (Err x) q = is_err x q
        by v c (Ok x) q =
            let a = subst (Verdict (world F2 n2) (λ w. rest w.turns w.depth y) (λ l x. LItem leaves d (s ++ (v.used ++ l)) x) []) q c in
            let empty : a.used ≡ [] = nothing a.used (omega (arith, ap length a.cut, length-append a.used x.1)) in
            absurd (more_behind o v.used y x.0 v.is (subst (λ l. LItem leaves d (s ++ (v.used ++ l)) x.0) empty a.is))

    ended_none : Given 0 → (F2 n2 : ℕ) → F ≤ F2 → n ≤ n2 → IsErr (whole F2 n2 ts)
    ended_none g F2 n2 h k = by (way o F2 n2 ts) refl
      where
        o : Option ℕ
        o = owner_of d F2 ts

        fit : OwnerFits d o
        fit = fit_of F2 ts

        -- the way that is found ahead is read with more levels, but for what is behind the name
        higher : (y : Begun) (t : Token) (l : List Token) → way o F2 n2 ts ≡ Ok (y, t ∷ l) → way o F high ts ≡ Ok (y, t ∷ l)
        higher y t l e = of (way o F high ts) refl
          where
            of : (x : Outcome Begun) → way o F high ts ≡ x → way o F high ts ≡ Ok (y, t ∷ l)
            of (Err (Deep m)) c = absurd (never_deep leaves F d o ts high m (omega (arith, short)) c)
            of (Err NoMemory) c = absurd (ways.never_memory (the o fit) F high ts short c)
            of (Err (Stuck m)) c = c ∙ ways.agree (the o fit) F high F2 n2 ts (Err (Stuck m)) (Ok (y, t ∷ l)) short (omega (arith, short, h)) c e tt tt
            of (Ok x) c = c ∙ ways.agree (the o fit) F high F2 n2 ts (Ok x) (Ok (y, t ∷ l)) short (omega (arith, short, h)) c e tt tt

        by_main : (y : Begun) (t : Token) (l : List Token) → way main F high ts ≡ Ok (y, t ∷ l) → (e : ParseError) → way main F n ts ≡ Err e → ⊥
        by_main y t l q NoMemory c = ways.never_memory (the main main_fit) F n ts short c
        by_main y t l q (Stuck m) c =
            let same : ◌≡◌ {A = Outcome Begun} (Err (Stuck m)) (Ok (y, t ∷ l)) = ways.agree (the main main_fit) F n F high ts (Err (Stuck m)) (Ok (y, t ∷ l)) short short c q tt tt in
            never_ok (Stuck m) (y, t ∷ l) same
        by_main y t l q (Deep m) c = g.none m c (apart (m + 1) (omega arith)) y t l (ap (way main F high) (up_to_all ts) ∙ q)
          where
            apart : (i : ℕ) → 0 < i → (i == 0) ≡ false
            apart i some = of (eqb_tells i 0)
              where
                of : ((i == 0 ≡ true) × (i ≡ 0)) ⊎ ((i == 0 ≡ false) × Rattle.std.proofs.Common.◌≢◌ i 0) → (i == 0) ≡ false
                of (inl e) = absurd (omega (arith, e.1, some))
                of (inr e) = e.0

        by : (x : Outcome Begun) → way o F2 n2 ts ≡ x → IsErr (whole F2 n2 ts)
        by (Err x) e = err_of F2 n2 ts (is_err x e)
        by (Ok x) e = of x.0 x.1 e
          where
            of : (y : Begun) (l : List Token) → way o F2 n2 ts ≡ Ok (y, l) → IsErr (whole F2 n2 ts)
            of y [] e = subst IsErr (sym (ok_of F2 n2 ts o y [] refl e)) (nothing_behind o fit F2 n2 h y e)
            of y (t ∷ l) e =
                let q = higher y t l e in
                let same : main ≡ o = only_main o fit high ts [] y t l q (sym (append-nil ts)) in
                absurd (by_main y t l (ap (λ z. way z F high ts) same ∙ q) g.error g.is)

    ended : Given 0 → EndedAt w p Q ts
    ended g = record { none = λ w' ab. ended_none g w'.turns w'.depth ab.turns ab.depth; goes_on = by g.some.error g.some.is g.some.left }
      where
        by : (e : ParseError) → way g.some.way F n ts ≡ Err e → left_with e ≡ 0 → Has (λ v x. Q (ts ++ v) x)
        by NoMemory h l = absurd (ways.never_memory (the g.some.way g.some.fit) F n ts short h)
        by (Stuck m) h l = goes_on g.some.way g.some.fit ts (ways.begins_stuck (the g.some.way g.some.fit) F n ts short (h ∙ ap (λ (c : ℕ). Err (Stuck c)) l))
        by (Deep m) h l = absurd (omega (arith, l))

    -- ---- a token is refused, or too deep

    module _ (j : ℕ) (g : Given (suc j)) (last : At ts (length ts - suc j)) where
      abbrev before : List Token
      before = last.before

      abbrev after : List Token
      after = last.after

      behind_it : length after ≡ j
      behind_it = omega (arith, room (suc j) g, last.number, ap length last.cut, length-append before (last.token ∷ after))

      abbrev pre : List Token
      pre = before ++ last.token ∷ []

      cut : ts ≡ pre ++ after
      cut = last.cut ∙ sym (append_assoc before (last.token ∷ []) after)

      pre_is : up_to (suc j) ts ≡ pre
      pre_is = ap (up_to (suc j)) last.cut ∙ up_to_is before after last.token (suc j) (omega (arith, behind_it))

      short_cut : length (pre ++ after) < F
      short_cut = omega (arith, short, ap length cut)

      short_pre : length pre < F
      short_pre = omega (arith, short_cut, length-append pre after)

      at_cut : (o : Option ℕ) (x : Outcome Begun) → way o F n ts ≡ x → way o F n (pre ++ after) ≡ x
      at_cut o x h = ap (way o F n) (sym cut) ∙ h

      stuck_way : (o : Option ℕ) → OwnerFits d o → (m : ℕ) → way o F n ts ≡ Err (Stuck m) → suc j ≤ m → (F2 n2 : ℕ) → F ≤ F2 → (more : List Token) → IsErr (way o F2 n2 (pre ++ more))
      stuck_way o fit m h less F2 n2 high more =
          let q = ways.stuck_front (the o fit) F n pre after m short_cut (at_cut o (Err (Stuck m)) h) (omega (arith, less, behind_it)) in
          ways.dead (the o fit) F n pre (m - length after - 1) short_pre (q ∙ ap (λ (c : ℕ). Err (Stuck c)) (omega (arith, less, behind_it))) F2 n2 high more

      -- each way is refused with as many levels, where the tokens go on behind that one
      low_way : (o : Option ℕ) → OwnerFits d o → Leave (suc j) (way o F n ts) → (F2 : ℕ) → F ≤ F2 → (more : List Token) → IsErr (way o F2 n (pre ++ more))
      low_way o fit l F2 high more = by (way o F n ts) refl l
        where
          by : (x : Outcome Begun) → way o F n ts ≡ x → Leave (suc j) x → IsErr (way o F2 n (pre ++ more))
          by (Ok x) h l = absurd (never_read o fit g.error g.is x h)
          by (Err NoMemory) h l = absurd (omega (arith, l))
          by (Err (Stuck m)) h l = stuck_way o fit m h l F2 n high more
          by (Err (Deep m)) h l = ways.deep_more (the o fit) F n pre (m - length after) short_pre (ways.deep_front (the o fit) F n pre after m short_cut (at_cut o (Err (Deep m)) h) (omega (arith, l, behind_it))) F2 high more

      -- and with any levels, where none is alive
      dead_way : (o : Option ℕ) → OwnerFits d o → Leave (suc j) (way o F n ts) → alive leaves F n d ts (suc j) o ≡ false → (F2 n2 : ℕ) → F ≤ F2 → (more : List Token) → IsErr (way o F2 n2 (pre ++ more))
      dead_way o fit l dead F2 n2 up more = by (way o F n ts) refl l dead
        where
          higher : (x : Outcome Begun) → way o F high (up_to (suc j) ts) ≡ x → can_go_on x ≡ false → IsErr (way o F2 n2 (pre ++ more))
          higher (Ok x) h e = absurd (let z : ⊥ = cc in z)
          higher (Err NoMemory) h e = absurd (ways.never_memory (the o fit) F high pre short_pre (ap (way o F high) (sym pre_is) ∙ h))
          higher (Err (Stuck zero)) h e = absurd (let z : ⊥ = cc in z)
          higher (Err (Stuck (suc m))) h e = ways.dead (the o fit) F high pre m short_pre (ap (way o F high) (sym pre_is) ∙ h) F2 n2 up more
          higher (Err (Deep m)) h e = absurd (never_deep leaves F d o pre high m (omega (arith, short_pre)) (ap (way o F high) (sym pre_is) ∙ h))

          deep : (m : ℕ) (b : Bool) → (m + 1 == suc j) ≡ b → (if b then true else can_go_on (way o F high (up_to (suc j) ts))) ≡ false → IsErr (way o F2 n2 (pre ++ more))
          deep m true c e = absurd (let z : ⊥ = cc in z)
          deep m false c e = higher (way o F high (up_to (suc j) ts)) refl e

          by : (x : Outcome Begun) → way o F n ts ≡ x → Leave (suc j) x → alive_by (suc j) x (way o F high (up_to (suc j) ts)) ≡ false → IsErr (way o F2 n2 (pre ++ more))
          by (Ok x) h l e = absurd (never_read o fit g.error g.is x h)
          by (Err NoMemory) h l e = absurd (omega (arith, l))
          by (Err (Stuck m)) h l e = stuck_way o fit m h l F2 n2 up more
          by (Err (Deep m)) h l e = deep m (m + 1 == suc j) refl e

      -- what is alive begins a declaration
      live_way : (o : Option ℕ) → OwnerFits d o → alive leaves F n d ts (suc j) o ≡ true → Has (λ v x. Q (pre ++ v) x)
      live_way o fit live = goes_on o fit pre (by (way o F n ts) refl live)
        where
          Here : Type 0
          Here = Has (λ v y. IsBegun leaves d o (pre ++ v) y)

          high_is : (x : Outcome Begun) → way o F high (up_to (suc j) ts) ≡ x → way o F high pre ≡ x
          high_is x h = ap (way o F high) (sym pre_is) ∙ h

          read_high : (m : ℕ) → way o F n ts ≡ Err (Deep m) → (m + 1 == suc j) ≡ false → (y : Begun) (l : List Token) → way o F high (up_to (suc j) ts) ≡ Ok (y, l) → Has (λ v y. IsBegun leaves d o (pre ++ v) y)
          read_high m h c y [] q = ways.begins_ok (the o fit) F high pre y short_pre (high_is (Ok (y, [])) q)
          read_high m h c y (t ∷ l) q =
              let same : main ≡ o = only_main o fit high pre after y t l (high_is (Ok (y, t ∷ l)) q) cut in
              absurd (g.none m (ap (λ z. way z F n ts) same ∙ h) c y t l (ap (λ z. way z F high (up_to (suc j) ts)) same ∙ q))

          higher : (m : ℕ) → way o F n ts ≡ Err (Deep m) → (m + 1 == suc j) ≡ false → (x : Outcome Begun) → way o F high (up_to (suc j) ts) ≡ x → can_go_on x ≡ true → Has (λ v y. IsBegun leaves d o (pre ++ v) y)
          higher m h c (Ok x) q e = read_high m h c x.0 x.1 q
          higher m h c (Err NoMemory) q e = absurd (let z : ⊥ = cc in z)
          higher m h c (Err (Stuck zero)) q e = ways.begins_stuck (the o fit) F high pre short_pre (high_is (Err (Stuck 0)) q)
          higher m h c (Err (Stuck (suc i))) q e = absurd (let z : ⊥ = cc in z)
          higher m h c (Err (Deep i)) q e = absurd (let z : ⊥ = cc in z)

          same_left : (m : ℕ) → (m + 1 == suc j) ≡ true → length after ≡ m
          same_left m c = of (eqb_tells (m + 1) (suc j))
            where
              of : ((m + 1 == suc j ≡ true) × (m + 1 ≡ suc j)) ⊎ ((m + 1 == suc j ≡ false) × Rattle.std.proofs.Common.◌≢◌ (m + 1) (suc j)) → length after ≡ m
              of (inl e) = omega (arith, e.1, behind_it)
              of (inr e) = let both : true ≡ false = sym c ∙ e.0 in absurd (let z : ⊥ = cc in z)

          deep : (m : ℕ) → way o F n ts ≡ Err (Deep m) → (b : Bool) → (m + 1 == suc j) ≡ b → (if b then true else can_go_on (way o F high (up_to (suc j) ts))) ≡ true → Has (λ v y. IsBegun leaves d o (pre ++ v) y)
          deep m h true c e = ways.begins_deep (the o fit) F n pre after m short_cut (at_cut o (Err (Deep m)) h) (same_left m c)
          deep m h false c e = higher m h c (way o F high (up_to (suc j) ts)) refl e

          by : (x : Outcome Begun) → way o F n ts ≡ x → alive_by (suc j) x (way o F high (up_to (suc j) ts)) ≡ true → Has (λ v y. IsBegun leaves d o (pre ++ v) y)
          by (Ok x) h e = absurd (let z : ⊥ = cc in z)
          by (Err NoMemory) h e = absurd (let z : ⊥ = cc in z)
          by (Err (Stuck m)) h e = absurd (let z : ⊥ = cc in z)
          by (Err (Deep m)) h e = deep m h (m + 1 == suc j) refl e

      seam : (more : List Token) → before ++ last.token ∷ more ≡ pre ++ more
      seam more = sym (append_assoc before (last.token ∷ []) more)

      refused : any_alive leaves F n d ts (suc j) ≡ false → RefusedAt w p ts j
      unfolding any_alive
      refused e = by (alive leaves F n d ts (suc j) None) refl e
        where
          err : (none : alive leaves F n d ts (suc j) None ≡ false) → Each (λ o. alive leaves F n d ts (suc j) o ≡ false) (owners d.adts) → (w' : World) → Above w w' → (more : List Token) → IsErr (p w' (before ++ last.token ∷ more))
          err none each w' ab more =
              let all = both_each (OwnerFits d) (λ o. Leave (suc j) (way o F n ts) × (alive leaves F n d ts (suc j) o ≡ false)) (owners d.adts) fits
              (both_each (λ o. Leave (suc j) (way o F n ts)) (λ o. alive leaves F n d ts (suc j) o ≡ false) (owners d.adts) g.least.each each) in
              subst (λ l. IsErr (p w' l)) (sym (seam more)) (none_read w'.turns w'.depth (pre ++ more) (dead_way None tt g.least.none none w'.turns w'.depth ab.turns more)
              (each_of (λ o. OwnerFits d o × (Leave (suc j) (way o F n ts) × (alive leaves F n d ts (suc j) o ≡ false))) (λ o. IsErr (way o w'.turns w'.depth (pre ++ more))) (owners d.adts)
              (λ o q. dead_way o q.0 q.1.0 q.1.1 w'.turns w'.depth ab.turns more) all))

          by : (b : Bool) → alive leaves F n d ts (suc j) None ≡ b → (if b then true else some_alive (alive leaves F n d ts (suc j)) (owners d.adts)) ≡ false → RefusedAt w p ts j
          by true c e = absurd (let z : ⊥ = cc in z)
          by false c e = record { used = before; last = last.token; rest = after; cut = last.cut; count = behind_it; none = err c (none_alive (alive leaves F n d ts (suc j)) (owners d.adts) e) }

      too_deep : any_alive leaves F n d ts (suc j) ≡ true → TooDeepAt w p Q ts j
      unfolding any_alive
      too_deep e = record {
        used = before;
        last = last.token;
        rest = after;
        cut = last.cut;
        count = behind_it;
        none = err;
        goes_on = let h = by (alive leaves F n d ts (suc j) None) refl e in record { word = h.word; value = h.value; is = subst (λ l. Q l h.value) (sym (seam h.word)) h.is };
      }
        where
          err : (w' : World) → Above w w' → n ≡ w'.depth → (more : List Token) → IsErr (p w' (before ++ last.token ∷ more))
          err w' ab same more =
              let all = both_each (OwnerFits d) (λ o. Leave (suc j) (way o F n ts)) (owners d.adts) fits g.least.each in
              subst (λ l. IsErr (p w' l)) (sym (seam more)) (subst (λ m. IsErr (whole w'.turns m (pre ++ more))) same (none_read w'.turns n (pre ++ more) (low_way None tt g.least.none w'.turns ab.turns more)
              (each_of (λ o. OwnerFits d o × Leave (suc j) (way o F n ts)) (λ o. IsErr (way o w'.turns n (pre ++ more))) (owners d.adts) (λ o q. low_way o q.0 q.1 w'.turns ab.turns more) all)))

          by : (b : Bool) → alive leaves F n d ts (suc j) None ≡ b → (if b then true else some_alive (alive leaves F n d ts (suc j)) (owners d.adts)) ≡ true → Has (λ v x. Q (pre ++ v) x)
          by true c e = live_way None tt c
          by false c e = let a = one_alive (OwnerFits d) (alive leaves F n d ts (suc j)) (owners d.adts) fits e in live_way a.way a.fit a.is

    refused_at : (j : ℕ) → Given (suc j) → any_alive leaves F n d ts (suc j) ≡ false → RefusedAt w p ts j
    refused_at j g e = refused j g (token_at ts (length ts - suc j) (omega (arith, room (suc j) g))) e

    deep_at : (j : ℕ) → Given (suc j) → any_alive leaves F n d ts (suc j) ≡ true → TooDeepAt w p Q ts j
    deep_at j g e = too_deep j g (token_at ts (length ts - suc j) (omega (arith, room (suc j) g))) e

    undecided : (left : ℕ) → Given left → (b : Bool) → any_alive leaves F n d ts left ≡ b → Judged w p Q ts (Err (fault_at left b))
    undecided zero g b e = ended g
    undecided (suc j) g true e = deep_at j g e
    undecided (suc j) g false e = refused_at j g e

    -- ---- a name is read before that token

    one_token : (t : Token) (a b : List Token) → t ∷ [] ≡ a ++ b → ((a ≡ []) × (b ≡ t ∷ [])) ⊎ ((a ≡ t ∷ []) × (b ≡ []))
    one_token t [] b e = inl (refl, sym e)
    one_token t (x ∷ a) b e =
        let first : x ≡ t = cc in
        let none : a ≡ [] = nothing a (omega (arith, ap length e, length-append a b)) in
        inr (ap (λ z. z ∷ a) first ∙ ap (λ z. t ∷ z) none, nothing b (omega (arith, ap length e, length-append a b)))

    module _ (used behind : List Token) (t : Token) (y : Begun) (m : ℕ) (cut : ts ≡ used ++ t ∷ behind) (is : IsBegun leaves d main used y) (high_is : way main F high (used ++ t ∷ []) ≡ Ok (y, t ∷ [])) (deep : way main F n ts ≡ Err (Deep m)) where
      abbrev named_to : List Token
      named_to = used ++ t ∷ []

      joined : (more : List Token) → used ++ t ∷ more ≡ named_to ++ more
      joined more = sym (append_assoc used (t ∷ []) more)

      all_short : length (named_to ++ behind) < F
      all_short = omega (arith, short, ap length cut, ap length (joined behind))

      named_short : length named_to < F
      named_short = omega (arith, all_short, length-append named_to behind)

      -- no other way is found ahead, whatever follows
      main_ahead : (F2 : ℕ) → F ≤ F2 → (more : List Token) → owner_of d F2 (used ++ t ∷ more) ≡ main
      main_ahead F2 h more = found_on leaves d main main_fit F high used y (t ∷ []) named_short high_is F2 h (t ∷ more) refl

      abbrev Behind : Lang ReadItem
      Behind v x = LItem leaves d (s ++ (used ++ v)) x

      verdict : Verdict w (λ w. rest w.turns w.depth y) Behind (t ∷ []) (rest F n y (t ∷ []))
      verdict = (rest_law main main_fit R w enough s scope word used y at is (begun_at main used (t ∷ behind) y is cut)).run r (t ∷ []) (as_agrees leaves d F high main named_to y (t ∷ []) high_is)
          (omega (arith, few, ap length cut, length-append used (t ∷ behind), begun_long main used y is))

      low : (F2 : ℕ) → F ≤ F2 → (more : List Token) → IsErr (whole F2 n (used ++ t ∷ more))
      low F2 h more = err_of F2 n (used ++ t ∷ more) (subst (λ o. IsErr (way o F2 n (used ++ t ∷ more))) (sym (main_ahead F2 h more)) (subst (λ l. IsErr (way main F2 n l)) (sym (joined more))
          (ways.too_deep (the main main_fit) F n named_to behind y t [] m high all_short high_is (ap (way main F n) (sym (cut ∙ joined behind)) ∙ deep) F2 h more)))

      deep_here : Has (λ v x. Q (used ++ t ∷ v) x) → TooDeepAt w p Q ts (suc (length behind) - 1)
      deep_here g = record { used = used; last = t; rest = behind; cut = cut; count = omega arith; none = λ w' ab e more. subst (λ i. IsErr (whole w'.turns i (used ++ t ∷ more))) e (low w'.turns ab.turns more); goes_on = g }

      refused_here : ((w' : World) → Above w w' → (more : List Token) → IsErr (rest w'.turns w'.depth y (t ∷ more))) → RefusedAt w p ts (length behind)
      refused_here none = record { used = used; last = t; rest = behind; cut = cut; count = refl; none = λ w' ab more. by w' ab more (ways.only (the main main_fit) F high named_to y t [] named_short high_is w'.turns w'.depth ab.turns more) }
        where
          by : (w' : World) → Above w w' → (more : List Token) → IsErr (way main w'.turns w'.depth (named_to ++ more)) ⊎ (way main w'.turns w'.depth (named_to ++ more) ≡ Ok (y, t ∷ more)) → IsErr (p w' (used ++ t ∷ more))
          by w' ab more (inl e) = err_of w'.turns w'.depth (used ++ t ∷ more) (subst (λ o. IsErr (way o w'.turns w'.depth (used ++ t ∷ more))) (sym (main_ahead w'.turns ab.turns more)) (subst (λ l. IsErr (way main w'.turns w'.depth l)) (sym (joined more)) e))
          by w' ab more (inr e) = subst IsErr (sym (ok_of w'.turns w'.depth (used ++ t ∷ more) main y (t ∷ more) (main_ahead w'.turns ab.turns more) (ap (way main w'.turns w'.depth) (joined more) ∙ e))) (none w' ab more)

      named : (o : Outcome ReadItem) → Verdict w (λ w. rest w.turns w.depth y) Behind (t ∷ []) o → Judged w p Q ts (Err (parse.fault_behind (suc (length behind)) (parse.refuses o)))
      named (Ok x) v = of (one_token t v.used x.1 v.cut)
        where
          of : ((v.used ≡ []) × (x.1 ≡ t ∷ [])) ⊎ ((v.used ≡ t ∷ []) × (x.1 ≡ [])) → TooDeepAt w p Q ts (suc (length behind) - 1)
          of (inl e) = absurd (more_behind main used y x.0 is (subst (λ l. Behind l x.0) e.0 v.is))
          of (inr e) = deep_here (record { word = []; value = x.0; is = subst (λ l. Behind l x.0) e.0 v.is })
      named (Err NoMemory) v = absurd v
      named (Err (Stuck zero)) v = of (one_token t v.used v.rest v.cut)
        where
          of : ((v.used ≡ []) × (v.rest ≡ t ∷ [])) ⊎ ((v.used ≡ t ∷ []) × (v.rest ≡ [])) → TooDeepAt w p Q ts (suc (length behind) - 1)
          of (inl e) = absurd (omega (arith, ap length e.1, v.count))
          of (inr e) = deep_here (let g = v.goes_on e.1 in record { word = g.word; value = g.value; is = subst (λ l. Behind (l ++ g.word) g.value) e.0 g.is })
      named (Err (Stuck (suc i))) v = of (one_token t v.used v.rest v.cut)
        where
          of : ((v.used ≡ []) × (v.rest ≡ t ∷ [])) ⊎ ((v.used ≡ t ∷ []) × (v.rest ≡ [])) → RefusedAt w p ts (length behind)
          of (inl e) = refused_here (λ w' ab more. is_err (Stuck (length (t ∷ more))) (ap (λ l. rest w'.turns w'.depth y (l ++ t ∷ more)) (sym e.0) ∙ v.again w' ab (t ∷ more) (ap head (sym e.1))))
          of (inr e) = absurd (omega (arith, ap length e.1, v.count))
      named (Err (Deep i)) v = of (one_token t v.used (v.last ∷ v.rest) v.cut)
        where
          of : ((v.used ≡ []) × (v.last ∷ v.rest ≡ t ∷ [])) ⊎ ((v.used ≡ t ∷ []) × (v.last ∷ v.rest ≡ [])) → TooDeepAt w p Q ts (suc (length behind) - 1)
          of (inl e) =
              let e1 : v.last ∷ v.rest ≡ t ∷ [] = e.1 in
              let first : v.last ≡ t = cc in
              deep_here (let g = v.goes_on in record { word = g.word; value = g.value; is = subst (λ z. Behind (z ∷ g.word) g.value) first (subst (λ l. Behind (l ++ v.last ∷ g.word) g.value) e.0 g.is) })
          of (inr e) = absurd (omega (arith, ap length e.1))

    decided : (left m : ℕ) (y : Begun) (t : Token) (l : List Token) → way main F n ts ≡ Err (Deep m) → way main F high (up_to left ts) ≡ Ok (y, t ∷ l)
        → Judged w p Q ts (Err (parse.fault_behind (length ts - (length (up_to left ts) - length (t ∷ l))) (parse.refuses (rest F n y (t ∷ [])))))
    decided left m y t l deep h =
        let i = length ts - (left - 1) in
        let whole_cut : up_to left ts ++ drop i ts ≡ ts = take-append-drop i ts in
        let q = ways.at (the main main_fit) F high (up_to left ts) (Ok (y, t ∷ l)) (omega (arith, short, ap length whole_cut, length-append (up_to left ts) (drop i ts))) h in
        let cut : ts ≡ q.used ++ t ∷ (l ++ drop i ts) = sym whole_cut ∙ ap (λ z. z ++ drop i ts) q.cut ∙ append_assoc q.used (t ∷ l) (drop i ts) in
        let count : suc (length (l ++ drop i ts)) ≡ length ts - (length (up_to left ts) - length (t ∷ l)) =
        omega (arith, ap length cut, ap length q.cut, length-append q.used (t ∷ l), length-append q.used (t ∷ (l ++ drop i ts))) in
        subst (λ c. Judged w p Q ts (Err (parse.fault_behind c (parse.refuses (rest F n y (t ∷ [])))))) count
        (named q.used (l ++ drop i ts) t y m cut q.is (q.again (world F high) (above_self (world F high)) (t ∷ []) refl) deep (rest F n y (t ∷ [])) (verdict q.used (l ++ drop i ts) t y m cut q.is (q.again (world F high) (above_self (world F high)) (t ∷ []) refl) deep))

    -- ---- all together

    other_fault : (m i : ℕ) → ◌≡◌ {A = Outcome Begun} (Err (Stuck m)) (Err (Deep i)) → ⊥
    other_fault m i e = cc

    same_deep : (m i : ℕ) → ◌≡◌ {A = Outcome Begun} (Err (Deep m)) (Err (Deep i)) → m ≡ i
    same_deep m i e = cc

    settle : (e : ParseError) → way main F n ts ≡ Err e → (left : ℕ) → Least left (λ o. way o F n ts) (owners d.adts) → Leaving (OwnerFits d) (λ o. way o F n ts) left
        → Judged w p Q ts (Err (parse.or_at leaves F n d left (any_alive leaves F n d ts left) (parse.decided leaves F n d at scope ts (up_to left ts) left e (deeper_as leaves F d main (up_to left ts)))))
    settle NoMemory me left gl gs = absurd (ways.never_memory (the main main_fit) F n ts short me)
    settle (Stuck m) me left gl gs = undecided left (record { error = Stuck m; is = me; least = gl; some = gs; none = λ i h. absurd (other_fault m i (sym me ∙ h)) }) (any_alive leaves F n d ts left) refl
    settle (Deep m) me left gl gs = by (m + 1 == left) refl
      where
        given : ((i : ℕ) → i ≡ m → (i + 1 == left) ≡ false → (y : Begun) (t : Token) (l : List Token) → way main F high (up_to left ts) ≡ Ok (y, t ∷ l) → ⊥) → Given left
        given none = record { error = Deep m; is = me; least = gl; some = gs; none = λ i h. none i (sym (same_deep m i (sym me ∙ h))) }

        none_so : ((i : ℕ) → i ≡ m → (i + 1 == left) ≡ false → (y : Begun) (t : Token) (l : List Token) → way main F high (up_to left ts) ≡ Ok (y, t ∷ l) → ⊥) → Judged w p Q ts (Err (fault_at left (any_alive leaves F n d ts left)))
        none_so none = undecided left (given none) (any_alive leaves F n d ts left) refl

        at_once : (m + 1 == left) ≡ true → (i : ℕ) → i ≡ m → (i + 1 == left) ≡ false → ⊥
        at_once c i e h = let both : true ≡ false = sym c ∙ ap (λ z. z + 1 == left) (sym e) ∙ h in absurd (let z : ⊥ = cc in z)

        not_more : (y : Begun) → way main F high (up_to left ts) ≡ Ok (y, []) → (y2 : Begun) (t : Token) (l : List Token) → way main F high (up_to left ts) ≡ Ok (y2, t ∷ l) → ⊥
        not_more y c y2 t l h = absurd (omega (arith, ap (λ (x : Begun × List Token). length x.1) (same_read (y, []) (y2, t ∷ l) (sym c ∙ h))))

        read_so : (y : Begun) (l : List Token) → way main F high (up_to left ts) ≡ Ok (y, l) → Judged w p Q ts (Err (parse.or_at leaves F n d left (any_alive leaves F n d ts left) (parse.decided_at leaves F n d at scope ts (up_to left ts) y l)))
        read_so y [] c = none_so (λ i e h y2 t l q. not_more y c y2 t l q)
        read_so y (t ∷ l) c = decided left m y t l me c

        higher : (x : Outcome Begun) → way main F high (up_to left ts) ≡ x → Judged w p Q ts (Err (parse.or_at leaves F n d left (any_alive leaves F n d ts left) (parse.decided_by leaves F n d at scope ts (up_to left ts) x)))
        higher (Ok x) c = read_so x.0 x.1 c
        higher (Err z) c = none_so (λ i e h y t l q. never_ok z (y, t ∷ l) (sym c ∙ q))

        by : (b : Bool) → (m + 1 == left) ≡ b → Judged w p Q ts (Err (parse.or_at leaves F n d left (any_alive leaves F n d ts left) (if b then None else parse.decided_by leaves F n d at scope ts (up_to left ts) (deeper_as leaves F d main (up_to left ts)))))
        by true c = none_so (λ i e h y t l q. at_once c i e h)
        by false c = higher (way main F high (up_to left ts)) refl

    not_read : (e : ParseError) → way main F n ts ≡ Err e → Judged w p Q ts (Err (parse.fault_with leaves F n d at scope ts main e (least leaves F n d ts e)))
    unfolding parse.fault_with least
    not_read e me = settle e me (least leaves F n d ts e) (least_leaves (λ o. way o F n ts) (owners d.adts) (nearer e (length ts))) (least_is (OwnerFits d) (λ o. way o F n ts) (owners d.adts) tt fits (nearer e (length ts))
        (record { way = main; fit = main_fit; error = e; is = me; left = let h = room_of (left_with e) (record { way = main; fit = main_fit; error = e; is = me; left = refl }) in omega (arith, h) }))

    judged_main : (x : Outcome Begun) → way main F n ts ≡ x → Judged w p Q ts (whole F n ts)
    judged_main (Ok x) h = read x.0 x.1 h
    judged_main (Err e) h = subst (Judged w p Q ts) (sym (opened F n ts ∙ ap (parse.declared_by leaves F n d at scope ts main) h)) (not_read e h)

  pub judge_by : (R : Type 0) (w : World) → (R → w.fuel ≤ w.turns) → Judge R w (λ ts. start (s ++ ts) ≡ at) (λ w. whole w.turns w.depth) Q
  judge_by R w enough = record { run = λ r ts there few. judged_main R w enough r ts there few (way (owner_of d w.turns ts) w.turns w.depth ts) refl; has = from_none }
    where
      from_none : Has Q
      from_none = goes_on None tt [] (as_law leaves d None tt (Unit {0}) (world 0 0) (λ _. omega arith)).has

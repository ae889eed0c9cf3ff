-- What the outcome of the parser of whole texts says of the tokens.
use Rattle.std.proofs.Common.{◌≡◌, ℕ, zero, suc, pred, ◌<◌, ◌≤◌, max, false, List, [], ◌∷◌, ◌++◌, length, Ok, Err, refl, sym, ap, ◌∙◌, subst, arith, append_assoc, append-nil, length-append}
use Rattle.al_lex.specs.declared.token.Token.{Token}
use Rattle.al_tree.specs.Types.{Leaves}
use Rattle.al_tree.specs.Items.{Declared, nothing_declared, IsItems}
use Rattle.al_tree.specs.Items as items
use Rattle.al_tree.specs.Reading.{Outcome, Parser, and_then}
use Rattle.al_tree.specs.declared.cursor.ParseError.{ParseError}
use Rattle.al_tree.specs.declared.cursor.ParseError.TheVariants.{NoMemory, Stuck, Deep}
use Rattle.al_tree.specs.declared.item.Item.{Item}
use Rattle.al_tree.proofs.Verdicts.{world}
use Rattle.al_tree.proofs.Law.{World, Above, Family, Lang, Has, ReadAt, head, down, down_above, some_pred}
use Rattle.al_parse_stmt.proofs.Outcomes.{IsErr, same_head, err_then}
use Rattle.al_parse_stmt.specs.Parse as parse
use Rattle.al_parse_stmt.specs.Parse.{ReadItem}
use Rattle.al_parse_stmt.proofs.ItemLaw.{LItem}
use Rattle.al_parse_stmt.proofs.ItemComplete.{item_long}
use Rattle.al_parse_stmt.proofs.ItemJudge.{item_judge}
use Rattle.al_parse_stmt.proofs.FitsKept.{AdtsFit, nothing_fits, after_fits}
use Rattle.al_parse_stmt.proofs.Judge.{Judged}

-- a list of items, with its height
abbrev pub Sized : Type 0
Sized = List Item × ℕ

-- what the outcome of a parser says that reads all tokens
abbrev pub JudgedText : World → Family Sized → Lang Sized → List Token → Outcome Sized → Type 0
JudgedText w p Q ts (Ok x) = (x.1 ≡ []) × Q ts x.0
JudgedText w p Q ts (Err e) = Judged w p Q ts (Err e)

not_end : (u : List Token) (t : Token) (more : List Token) → parse.at_end (u ++ t ∷ more) ≡ false
not_end [] t more = refl
not_end (s ∷ u) t more = refl

module _ (leaves : Leaves) where
  -- items behind these
  pub record More (u v : List Token) (y : Sized) : Type 0 where
    pub after : Declared
    pub is : IsItems leaves (u ++ v) y.0 after y.1

  abbrev behind : World → List Item → ℕ → ReadItem → Parser Sized
  behind w xs h x = parse.items_from leaves w.turns w.depth (pred w.fuel) x.after (xs ++ x.item ∷ []) (max h x.height)

  -- another item, and those behind it
  abbrev next : Declared → List Item → ℕ → Family Sized
  next d xs h w = λ ts. and_then (parse.one_item leaves w.turns w.depth d ts) (behind w xs h)

  abbrev loop : Declared → List Item → ℕ → Family Sized
  loop d xs h w = parse.items_from leaves w.turns w.depth w.fuel d xs h

  turn : (F n m : ℕ) (d : Declared) (xs : List Item) (h : ℕ) (us : List Token) → parse.at_end us ≡ false
      → parse.items_from leaves F n (suc m) d xs h us ≡ and_then (parse.one_item leaves F n d us) (λ x. parse.items_from leaves F n m x.after (xs ++ x.item ∷ []) (max h x.height))
  unfolding parse.items_from
  turn F n m d xs h us e = rw e refl

  unrolled : (w : World) (m : ℕ) (d : Declared) (xs : List Item) (h : ℕ) (us : List Token) → m < w.fuel → parse.at_end us ≡ false → loop d xs h w us ≡ next d xs h w us
  unrolled w m d xs h us less e = ap (λ n. parse.items_from leaves w.turns w.depth n d xs h us) (some_pred w.fuel m less) ∙ turn w.turns w.depth (pred w.fuel) d xs h us e

  none_left : (w : World) (m : ℕ) (d : Declared) (xs : List Item) (h : ℕ) → m < w.fuel → loop d xs h w [] ≡ Ok ((xs, h), [])
  unfolding parse.items_from
  none_left w m d xs h less = ap (λ n. parse.items_from leaves w.turns w.depth n d xs h []) (some_pred w.fuel m less)

  -- the tokens behind one that is refused, where an item is
  module _ (w : World) (m : ℕ) (more : m < w.fuel) (d : Declared) (u : List Token) (xs : List Item) (h : ℕ) (l : IsItems leaves u xs d h) (ts : List Token) where
    some_turns : (w' : World) → Above w w' → m < w'.fuel
    some_turns w' ab = omega (arith, more, ab.fuel)

    -- what an item that is refused says of the items
    refused : (w' : World) → Above w w' → (us : List Token) → parse.at_end us ≡ false → IsErr (parse.one_item leaves w'.turns w'.depth d us) → IsErr (loop d xs h w' us)
    refused w' ab us e none = subst IsErr (sym (unrolled w' m d xs h us (some_turns w' ab) e)) (err_then (parse.one_item leaves w'.turns w'.depth d us) (behind w' xs h) none)

    items_go_on : (v : List Token) → Has (λ z y. LItem leaves d (v ++ z) y) → Has (λ z y. More u (v ++ z) y)
    items_go_on v g = record { word = g.word; value = (xs ++ g.value.item ∷ [], max h g.value.height); is = record { after = g.value.after; is = items.more l g.is } }

    no_item : (o : ParseError) → parse.at_end ts ≡ false → Judged w (λ w. parse.one_item leaves w.turns w.depth d) (LItem leaves d) ts (Err o) → Judged w (loop d xs h) (More u) ts (Err o)
    no_item NoMemory e v = absurd v
    no_item (Stuck zero) e v = record { none = λ w' ab. refused w' ab ts e (v.none w' ab); goes_on = items_go_on ts v.goes_on }
    no_item (Stuck (suc k)) e v = record {
      used = v.used;
      last = v.last;
      rest = v.rest;
      cut = v.cut;
      count = v.count;
      none = λ w' ab more. refused w' ab (v.used ++ v.last ∷ more) (not_end v.used v.last more) (v.none w' ab more);
    }
    no_item (Deep k) e v = record {
      used = v.used;
      last = v.last;
      rest = v.rest;
      cut = v.cut;
      count = v.count;
      none = λ w' ab same more. refused w' ab (v.used ++ v.last ∷ more) (not_end v.used v.last more) (v.none w' ab same more);
      goes_on = to_last v.used v.last v.goes_on;
    }
      where
        to_last : (used : List Token) (t : Token) → Has (λ z y. LItem leaves d (used ++ t ∷ z) y) → Has (λ z y. More u (used ++ t ∷ z) y)
        to_last used t g = record { word = g.word; value = (xs ++ g.value.item ∷ [], max h g.value.height); is = record { after = g.value.after; is = items.more l g.is } }

    -- what the items behind one that was read say
    module _ (x : ReadItem) (r : List Token) (v : ReadAt w (λ w. parse.one_item leaves w.turns w.depth d) (LItem leaves d) ts x r) where
      abbrev rest_of : Family Sized
      rest_of = loop x.after (xs ++ x.item ∷ []) (max h x.height)

      passed : (w' : World) → Above w w' → (r' : List Token) → head r' ≡ head r → parse.at_end (v.used ++ r') ≡ false → IsErr (rest_of (down w') r') → IsErr (loop d xs h w' (v.used ++ r'))
      passed w' ab r' same e none =
          subst IsErr (sym (unrolled w' m d xs h (v.used ++ r') (some_turns w' ab) e ∙ ap (λ o. and_then o (behind w' xs h)) (v.again w' ab r' same))) none

      at_token : (w' : World) → Above w w' → (used : List Token) (t : Token) (rest more : List Token) → r ≡ used ++ t ∷ rest → IsErr (rest_of (down w') (used ++ t ∷ more)) → IsErr (loop d xs h w' ((v.used ++ used) ++ t ∷ more))
      at_token w' ab used t rest more cut none =
          subst (λ l. IsErr (loop d xs h w' l)) (sym (append_assoc v.used used (t ∷ more)))
          (passed w' ab (used ++ t ∷ more) (same_head used (t ∷ rest) (t ∷ more) refl ∙ ap head (sym cut)) (ap parse.at_end (sym (append_assoc v.used used (t ∷ more))) ∙ not_end (v.used ++ used) t more) none)

      grouped : (z : List Token) → (u ++ v.used) ++ z ≡ u ++ (v.used ++ z)
      grouped z = append_assoc u v.used z

      behind_item : (o : Outcome Sized) → parse.at_end ts ≡ false → JudgedText (down w) rest_of (More (u ++ v.used)) r o → JudgedText w (loop d xs h) (More u) ts o
      behind_item (Ok y) e c = (c.0, record { after = c.1.after; is = subst (λ l. IsItems leaves l y.0.0 c.1.after y.0.1) (grouped r ∙ ap (λ l. u ++ l) (sym v.cut)) c.1.is })
      behind_item (Err NoMemory) e c = absurd c
      behind_item (Err (Stuck zero)) e c = record {
        none = λ w' ab. subst (λ l. IsErr (loop d xs h w' l)) (sym v.cut) (passed w' ab r refl (ap parse.at_end (sym v.cut) ∙ e) (c.none (down w') (down_above w w' ab)));
        goes_on = let g = c.goes_on in record {
          word = g.word;
          value = g.value;
          is = record { after = g.is.after; is = subst (λ l. IsItems leaves l g.value.0 g.is.after g.value.1) (grouped (r ++ g.word) ∙ ap (λ l. u ++ l) (sym (append_assoc v.used r g.word) ∙ ap (λ l. l ++ g.word) (sym v.cut))) g.is.is };
        };
      }
      behind_item (Err (Stuck (suc k))) e c = record {
        used = v.used ++ c.used;
        last = c.last;
        rest = c.rest;
        cut = v.cut ∙ ap (λ l. v.used ++ l) c.cut ∙ sym (append_assoc v.used c.used (c.last ∷ c.rest));
        count = c.count;
        none = λ w' ab more. at_token w' ab c.used c.last c.rest more c.cut (c.none (down w') (down_above w w' ab) more);
      }
      behind_item (Err (Deep k)) e c = record {
        used = v.used ++ c.used;
        last = c.last;
        rest = c.rest;
        cut = v.cut ∙ ap (λ l. v.used ++ l) c.cut ∙ sym (append_assoc v.used c.used (c.last ∷ c.rest));
        count = c.count;
        none = λ w' ab same more. at_token w' ab c.used c.last c.rest more c.cut (c.none (down w') (down_above w w' ab) same more);
        goes_on = to_last c.used c.last c.goes_on;
      }
        where
          to_last : (used : List Token) (t : Token) → Has (λ z y. More (u ++ v.used) (used ++ t ∷ z) y) → Has (λ z y. More u ((v.used ++ used) ++ t ∷ z) y)
          to_last used t g = record {
            word = g.word;
            value = g.value;
            is = record { after = g.is.after; is = subst (λ l. IsItems leaves l g.value.0 g.is.after g.value.1) (grouped (used ++ t ∷ g.word) ∙ ap (λ l. u ++ l) (sym (append_assoc v.used used (t ∷ g.word)))) g.is.is };
          }

  -- ---- all items

  abbrev AllJudged : ℕ → Type 0
  AllJudged m = (w : World) → w.fuel ≡ m → w.fuel ≤ w.turns → (d : Declared) → AdtsFit d → (u : List Token) (xs : List Item) (h : ℕ) → IsItems leaves u xs d h → (ts : List Token) → length ts < w.fuel → JudgedText w (loop d xs h) (More u) ts (loop d xs h w ts)

  by_item : (m : ℕ) → AllJudged m → (w : World) → w.fuel ≡ suc m → w.fuel ≤ w.turns → (d : Declared) → AdtsFit d → (u : List Token) (xs : List Item) (h : ℕ) → IsItems leaves u xs d h → (ts : List Token) → parse.at_end ts ≡ false → length ts < w.fuel
      → (o : Outcome ReadItem) → Judged w (λ w. parse.one_item leaves w.turns w.depth d) (LItem leaves d) ts o → JudgedText w (loop d xs h) (More u) ts (and_then o (behind w xs h))
  by_item m go w e fits d f u xs h l ts some s (Ok x) v =
      let long : 0 < length v.used = item_long leaves w.turns w.depth d v.is in
      behind_item w m (omega (arith, e)) d u xs h l ts x.0 x.1 v (loop x.0.after (xs ++ x.0.item ∷ []) (max h x.0.height) (down w) x.1) some
      (go (down w) (ap pred e) (down_less w.fuel w.turns fits) x.0.after (after_fits leaves v.is f) (u ++ v.used) (xs ++ x.0.item ∷ []) (max h x.0.height) (items.more l v.is) x.1
      (let less : pred w.fuel ≡ m = ap pred e in omega (arith, less, e, s, long, ap length v.cut, length-append v.used x.1)))
    where
      down_less : (a b : ℕ) → a ≤ b → pred a ≤ b
      down_less zero b h = omega arith
      down_less (suc a) b h = omega (arith, h)
  by_item m go w e fits d f u xs h l ts some s (Err x) v = no_item w m (omega (arith, e)) d u xs h l ts x some v

  all_judged : (m : ℕ) → AllJudged m
  all_judged zero w e fits d f u xs h l ts s = absurd (omega (arith, e, s))
  all_judged (suc m) w e fits d f u xs h l [] s = subst (JudgedText w (loop d xs h) (More u) []) (sym (none_left w m d xs h (omega (arith, e)))) (refl, record { after = d; is = subst (λ v. IsItems leaves v xs d h) (sym (append-nil u)) l })
  all_judged (suc m) w e fits d f u xs h l (t ∷ ts) s =
      subst (JudgedText w (loop d xs h) (More u) (t ∷ ts)) (sym (unrolled w m d xs h (t ∷ ts) (omega (arith, e)) refl))
      (by_item m (all_judged m) w e fits d f u xs h l (t ∷ ts) refl s (parse.one_item leaves w.turns w.depth d (t ∷ ts)) ((item_judge leaves d f (w.fuel ≤ w.turns) w (λ r. r)).run fits (t ∷ ts) tt s))

  -- all tokens of a text
  pub text_judged : (F n : ℕ) (ts : List Token) → length ts < F → JudgedText (world F n) (λ w. parse.items_from leaves w.turns w.depth w.fuel nothing_declared [] 0) (More []) ts (parse.text_items leaves F n ts)
  unfolding parse.text_items
  text_judged F n ts s = all_judged F (world F n) refl (omega arith) nothing_declared nothing_fits [] [] 0 items.none ts s

-- What every parser that is made of the steps of `Reading` keeps: it reads a list of its language, looks at no more
-- than one token past what it has read, does not change with more turns or more levels, and stops only where the
-- tokens so far can go on.
use Rattle.std.proofs.Common.{◌≡◌, ℕ, zero, suc, pred, ◌+◌, ◌<◌, ◌≤◌, Bool, true, false, if◌then◌else◌, List, [], ◌∷◌, ◌++◌, length, Option, Some, None, Result, Ok, Err, refl, sym, ap, ◌∙◌, subst, arith, append_assoc, append-nil, length-append}
use denote.Enum.Bare.{same_true}
use Rattle.al_lex.specs.contracts.kind.TokenKind.{the_type}
use Rattle.al_lex.specs.declared.kind.TokenKind.{TokenKind}
use Rattle.al_lex.specs.declared.token.Token.{Token}
use Rattle.al_tree.specs.declared.cursor.ParseError.TheVariants.{NoMemory, Stuck, Deep}
use Rattle.al_base.specs.declared.place.Place.{Place}
use Rattle.al_tree.specs.Words.{start}
use Rattle.al_tree.specs.Reading.{Outcome, Parser, and_then, ◌>>=◌, pure, refuse, kind, same_kind, take_if, expect_if, expect}

pub record World : Type 0 where
  pub fuel : ℕ
  pub turns : ℕ
  pub depth : ℕ

pub record Above (w w' : World) : Type 0 where
  pub fuel : w.fuel ≤ w'.fuel
  pub turns : w.turns ≤ w'.turns
  pub depth : w.depth ≤ w'.depth

abbrev pub Family : Type 0 → Type 0
Family A = World → Parser A

abbrev pub Lang : Type 0 → Type 1
Lang A = List Token → A → Type 0

abbrev pub Any : List Token → Type 0
Any ts = Unit {0}

abbrev pub head : List Token → Option Token
head [] = None
head (t ∷ ts) = Some t

-- a token of that kind at a place
abbrev pub token_at : Place → TokenKind → Token
token_at at kd = record { kind = kd; name = 0; from = 0; to = 0; place = at }

abbrev pub token : TokenKind → Token
token kd = token_at (start []) kd

-- some list is in the language
pub record Has {A : Type 0} (Q : Lang A) : Type 0 where
  pub word : List Token
  pub value : A
  pub is : Q word value

pub record ReadAt {A : Type 0} (w : World) (p : Family A) (Q : Lang A) (ts : List Token) (a : A) (r : List Token) : Type 0 where
  pub used : List Token
  pub cut : ts ≡ used ++ r
  pub is : Q used a
  pub again : (w' : World) → Above w w' → (r' : List Token) → head r' ≡ head r → p w' (used ++ r') ≡ Ok (a, r')

pub record StuckAt {A : Type 0} (w : World) (p : Family A) (Q : Lang A) (ts : List Token) (left : ℕ) : Type 0 where
  pub used : List Token
  pub rest : List Token
  pub cut : ts ≡ used ++ rest
  pub count : length rest ≡ left
  pub again : (w' : World) → Above w w' → (r' : List Token) → head r' ≡ head rest → p w' (used ++ r') ≡ Err (Stuck (length r'))
  pub goes_on : rest ≡ [] → Has (λ v b. Q (used ++ v) b)

pub record DeepAt {A : Type 0} (w : World) (p : Family A) (Q : Lang A) (ts : List Token) (left : ℕ) : Type 0 where
  pub used : List Token
  pub last : Token
  pub rest : List Token
  pub cut : ts ≡ used ++ last ∷ rest
  pub count : length rest ≡ left
  pub again : (w' : World) → Above w w' → w.depth ≡ w'.depth → (r' : List Token) → p w' (used ++ last ∷ r') ≡ Err (Deep (length r'))
  pub goes_on : Has (λ v b. Q (used ++ last ∷ v) b)

abbrev pub Verdict : {A : Type 0} → World → Family A → Lang A → List Token → Outcome A → Type 0
Verdict w p Q ts (Ok x) = ReadAt w p Q ts x.0 x.1
Verdict w p Q ts (Err NoMemory) = ⊥
Verdict w p Q ts (Err (Stuck k)) = StuckAt w p Q ts k
Verdict w p Q ts (Err (Deep k)) = DeepAt w p Q ts k

pub record Law {A : Type 0} (R : Type 0) (w : World) (G : List Token → Type 0) (p : Family A) (Q : Lang A) : Type 0 where
  pub run : R → (ts : List Token) → G ts → length ts < w.fuel → Verdict w p Q ts (p w ts)
  pub has : Has Q

same_head : (v r r' : List Token) → head r' ≡ head r → head (v ++ r') ≡ head (v ++ r)
same_head [] r r' h = h
same_head (t ∷ v) r r' h = refl

shorter : (ts u r : List Token) (n : ℕ) → ts ≡ u ++ r → length ts < n → length r < n
shorter ts u r n e h = omega (arith, ap length e, length-append u r)

-- a list of the language that begins with what was read so far
longer : {A : Type 0} (Q : Lang A) (u v : List Token) → Has (λ x b. Q ((u ++ v) ++ x) b) → Has (λ x b. Q (u ++ (v ++ x)) b)
longer Q u v h = record { word = h.word; value = h.value; is = subst (λ l. Q l h.value) (append_assoc u v h.word) h.is }

regroup : {A : Type 0} (Q : Lang A) (u v : List Token) → Has (λ x b. Q (u ++ (v ++ x)) b) → Has (λ x b. Q ((u ++ v) ++ x) b)
regroup Q u v h = record { word = h.word; value = h.value; is = subst (λ l. Q l h.value) (sym (append_assoc u v h.word)) h.is }

-- ---- one parser after another

-- the loop's next turn
abbrev pub down : World → World
down w = record w { fuel = pred w.fuel }

pub pred_mono : (m n : ℕ) → m ≤ n → pred m ≤ pred n
pred_mono zero n h = omega arith
pred_mono (suc m) zero h = absurd (omega arith)
pred_mono (suc m) (suc n) h = omega arith

pred_above : (m n : ℕ) → suc m < n → m < pred n
pred_above m zero h = absurd (omega arith)
pred_above m (suc n) h = omega arith

pub down_above : (w w' : World) → Above w w' → Above (down w) (down w')
down_above w w' ab = record { fuel = pred_mono w.fuel w'.fuel ab.fuel; turns = ab.turns; depth = ab.depth }

module _ {A B : Type 0} (w : World) (δ : World → World) (mono : (w' : World) → Above w w' → Above (δ w) (δ w')) (same : (w' : World) → (δ w').depth ≡ w'.depth) (p : Family A) (f : World → A → Parser B) (P : Lang A) (Q : Lang B) (ts : List Token) where
  joined : (a : A) (r : List Token) (v : ReadAt w p P ts a r) (o : Outcome B) → Verdict (δ w) (λ w. f w a) (λ x b. Q (v.used ++ x) b) r o → Verdict w (λ w. p w >>= f (δ w)) Q ts o
  joined a r v (Ok x) c = record {
    used = v.used ++ c.used;
    cut = v.cut ∙ ap (λ l. v.used ++ l) c.cut ∙ sym (append_assoc v.used c.used x.1);
    is = c.is;
    again = λ w' ab r' h.
        ap (λ l. and_then (p w' l) (f (δ w'))) (append_assoc v.used c.used r')
        ∙ ap (λ o. and_then o (f (δ w'))) (v.again w' ab (c.used ++ r') (same_head c.used x.1 r' h ∙ ap head (sym c.cut)))
        ∙ c.again (δ w') (mono w' ab) r' h;
  }
  joined a r v (Err NoMemory) c = absurd c
  joined a r v (Err (Stuck k)) c = record {
    used = v.used ++ c.used;
    rest = c.rest;
    cut = v.cut ∙ ap (λ l. v.used ++ l) c.cut ∙ sym (append_assoc v.used c.used c.rest);
    count = c.count;
    again = λ w' ab r' h.
        ap (λ l. and_then (p w' l) (f (δ w'))) (append_assoc v.used c.used r')
        ∙ ap (λ o. and_then o (f (δ w'))) (v.again w' ab (c.used ++ r') (same_head c.used c.rest r' h ∙ ap head (sym c.cut)))
        ∙ c.again (δ w') (mono w' ab) r' h;
    goes_on = λ e. regroup Q v.used c.used (c.goes_on e);
  }
  joined a r v (Err (Deep k)) c = record {
    used = v.used ++ c.used;
    last = c.last;
    rest = c.rest;
    cut = v.cut ∙ ap (λ l. v.used ++ l) c.cut ∙ sym (append_assoc v.used c.used (c.last ∷ c.rest));
    count = c.count;
    again = λ w' ab d r'.
        ap (λ l. and_then (p w' l) (f (δ w'))) (append_assoc v.used c.used (c.last ∷ r'))
        ∙ ap (λ o. and_then o (f (δ w'))) (v.again w' ab (c.used ++ c.last ∷ r') (same_head c.used (c.last ∷ c.rest) (c.last ∷ r') refl ∙ ap head (sym c.cut)))
        ∙ c.again (δ w') (mono w' ab) (same w ∙ d ∙ sym (same w')) r';
    goes_on = regroup_last c.goes_on;
  }
    where
      regroup_last : Has (λ x b. Q (v.used ++ (c.used ++ c.last ∷ x)) b) → Has (λ x b. Q ((v.used ++ c.used) ++ c.last ∷ x) b)
      regroup_last h = record { word = h.word; value = h.value; is = subst (λ l. Q l h.value) (sym (append_assoc v.used c.used (c.last ∷ h.word))) h.is }

  after : (o : Outcome A) → Verdict w p P ts o
      → ((u : List Token) (a : A) → P u a → Has (λ x b. Q (u ++ x) b))
      → ((u : List Token) (a : A) → P u a → (r : List Token) → ts ≡ u ++ r → Verdict (δ w) (λ w. f w a) (λ x b. Q (u ++ x) b) r (f (δ w) a r))
      → Verdict w (λ w. p w >>= f (δ w)) Q ts (and_then o (f (δ w)))
  after (Ok x) v has k = joined x.0 x.1 v (f (δ w) x.0 x.1) (k v.used x.0 v.is x.1 v.cut)
  after (Err NoMemory) v has k = absurd v
  after (Err (Stuck n)) v has k = record {
    used = v.used;
    rest = v.rest;
    cut = v.cut;
    count = v.count;
    again = λ w' ab r' h. ap (λ o. and_then o (f (δ w'))) (v.again w' ab r' h);
    goes_on = λ e. let g = v.goes_on e in let h = has (v.used ++ g.word) g.value g.is in
        record { word = g.word ++ h.word; value = h.value; is = subst (λ l. Q l h.value) (append_assoc v.used g.word h.word) h.is };
  }
  after (Err (Deep n)) v has k = record {
    used = v.used;
    last = v.last;
    rest = v.rest;
    cut = v.cut;
    count = v.count;
    again = λ w' ab d r'. ap (λ o. and_then o (f (δ w'))) (v.again w' ab d r');
    goes_on = let g = v.goes_on in let h = has (v.used ++ v.last ∷ g.word) g.value g.is in
        record { word = g.word ++ h.word; value = h.value; is = subst (λ l. Q l h.value) (append_assoc v.used (v.last ∷ g.word) h.word) h.is };
  }

pub bind : {A B R : Type 0} {w : World} {G : List Token → Type 0} {p : Family A} {f : World → A → Parser B} {P : Lang A} {Q : Lang B}
    → Law R w G p P
    → ((u : List Token) (a : A) → P u a → Law R w Any (λ w. f w a) (λ x b. Q (u ++ x) b))
    → Law R w G (λ w. p w >>= f w) Q
bind {w} {p} {f} {P} {Q} l k = record {
  run = λ rt ts g s. after w (λ w. w) (λ w' ab. ab) (λ w'. refl) p f P Q ts (p w ts) (l.run rt ts g s) (λ u a i. (k u a i).has)
      (λ u a i r e. (k u a i).run rt r tt (shorter ts u r w.fuel e s));
  has = let h = (k l.has.word l.has.value l.has.is).has in record { word = l.has.word ++ h.word; value = h.value; is = h.is };
}

-- the same in a loop, whose next turn comes after something was read
pub bind_turn : {A B R : Type 0} {w : World} {G : List Token → Type 0} {p : Family A} {f : World → A → Parser B} {P : Lang A} {Q : Lang B}
    → ((u : List Token) (a : A) → P u a → 0 < length u)
    → Law R w G p P
    → ((u : List Token) (a : A) → P u a → Law R (down w) Any (λ w. f w a) (λ x b. Q (u ++ x) b))
    → Law R w G (λ w. p w >>= f (down w)) Q
bind_turn {w} {p} {f} {P} {Q} some l k = record {
  run = λ rt ts g s. after w down (down_above w) (λ w'. refl) p f P Q ts (p w ts) (l.run rt ts g s) (λ u a i. (k u a i).has)
      (λ u a i r e. (k u a i).run rt r tt (pred_above (length r) w.fuel (let big : 0 < length u = some u a i in omega (arith, ap length e, length-append u r))));
  has = let h = (k l.has.word l.has.value l.has.is).has in record { word = l.has.word ++ h.word; value = h.value; is = h.is };
}

-- the last parser of a rule
pub map_law : {A B R : Type 0} {w : World} {G : List Token → Type 0} {p : Family A} {P : Lang A} {Q : Lang B} (g : A → B)
    → Law R w G p P → ((u : List Token) (a : A) → P u a → Q u (g a)) → Law R w G (λ w. p w >>= (λ a. pure (g a))) Q
map_law {Q} g l k = bind l (λ u a i. record {
  run = λ rt ts _ s. record { used = []; cut = refl; is = subst (λ v. Q v (g a)) (sym (append-nil u)) (k u a i); again = λ w' ab r' h. refl };
  has = record { word = []; value = g a; is = subst (λ v. Q v (g a)) (sym (append-nil u)) (k u a i) };
})

pub pure_law : {A R : Type 0} {w : World} {G : List Token → Type 0} {Q : Lang A} (a : A) → Q [] a → Law R w G (λ w. pure a) Q
pure_law a q = record {
  run = λ rt ts g s. record { used = []; cut = refl; is = q; again = λ w' ab r' h. refl };
  has = record { word = []; value = a; is = q };
}

pub refuse_law : {A R : Type 0} {w : World} {G : List Token → Type 0} {Q : Lang A} → Has Q → Law R w G (λ w. refuse) Q
refuse_law h = record {
  run = λ rt ts g s. record { used = []; rest = ts; cut = refl; count = refl; again = λ w' ab r' e. refl; goes_on = λ _. h };
  has = h;
}

pub choose : {A R : Type 0} {w : World} {G : List Token → Type 0} {p q : Family A} {Q : Lang A} (b : Bool)
    → (b ≡ true → Law R w G p Q) → (b ≡ false → Law R w G q Q) → Law R w G (λ w. if b then p w else q w) Q
choose true k l = k refl
choose false k l = l refl

pub weaken : {A R R' : Type 0} {w : World} {G : List Token → Type 0} {p : Family A} {Q : Lang A} → (R' → R) → Law R w G p Q → Law R' w G p Q
weaken h l = record { run = λ rt ts g s. l.run (h rt) ts g s; has = l.has }

pub anywhere : {A R : Type 0} {w : World} {G : List Token → Type 0} {p : Family A} {Q : Lang A} → Law R w Any p Q → Law R w G p Q
anywhere l = record { run = λ rt ts g s. l.run rt ts tt s; has = l.has }

-- ---- looking ahead

module _ {A X : Type 0} (w : World) (g : List Token → X) (local : (ts ts' : List Token) → head ts ≡ head ts' → g ts ≡ g ts') (f : World → X → Parser A) (Q : Lang A) (ts : List Token) where
  looked : (o : Outcome A) → Verdict w (λ w. f w (g ts)) Q ts o → Verdict w (λ w ts. f w (g ts) ts) Q ts o
  looked (Ok x) v = record {
    used = v.used;
    cut = v.cut;
    is = v.is;
    again = λ w' ab r' h. ap (λ y. f w' y (v.used ++ r')) (local (v.used ++ r') ts (same_head v.used x.1 r' h ∙ ap head (sym v.cut))) ∙ v.again w' ab r' h;
  }
  looked (Err NoMemory) v = absurd v
  looked (Err (Stuck k)) v = record {
    used = v.used;
    rest = v.rest;
    cut = v.cut;
    count = v.count;
    goes_on = v.goes_on;
    again = λ w' ab r' h. ap (λ y. f w' y (v.used ++ r')) (local (v.used ++ r') ts (same_head v.used v.rest r' h ∙ ap head (sym v.cut))) ∙ v.again w' ab r' h;
  }
  looked (Err (Deep k)) v = record {
    used = v.used;
    last = v.last;
    rest = v.rest;
    cut = v.cut;
    count = v.count;
    goes_on = v.goes_on;
    again = λ w' ab d r'. ap (λ y. f w' y (v.used ++ v.last ∷ r')) (local (v.used ++ v.last ∷ r') ts (same_head v.used (v.last ∷ v.rest) (v.last ∷ r') refl ∙ ap head (sym v.cut))) ∙ v.again w' ab d r';
  }

pub look : {A X R : Type 0} {w : World} {G : List Token → Type 0} {Q : Lang A} (g : List Token → X) → ((ts ts' : List Token) → head ts ≡ head ts' → g ts ≡ g ts')
    → (f : World → X → Parser A) → Has Q → ((x : X) → Law R w (λ ts. G ts × (g ts ≡ x)) (λ w. f w x) Q) → Law R w G (λ w ts. f w (g ts) ts) Q
look {w} {Q} g local f h k = record {
  run = λ rt ts gs s. looked w g local f Q ts (f w (g ts) ts) ((k (g ts)).run rt ts (gs, refl) s);
  has = h;
}

pub kind_local : (ts ts' : List Token) → head ts ≡ head ts' → kind ts ≡ kind ts'
unfolding kind
kind_local [] [] h = refl
kind_local [] (t ∷ ts) h = cc
kind_local (t ∷ ts) [] h = cc
kind_local (t ∷ ts) (s ∷ ss) h = let e : t ≡ s = cc in ap (λ (x : Token). x.kind) e

-- ---- taking a token

module _ {A : Type 0} (w : World) (δ : World → World) (f : World → Token → Parser A) (b : ℕ → Bool) (Q : Lang A) (t : Token) (ts : List Token) where
  abbrev whole : Family A
  whole w = take_if (b w.depth) >>= f (δ w)

  taken : ((w' : World) → Above w w' → b w'.depth ≡ true) → ((w' : World) → Above w w' → Above (δ w) (δ w')) → ((w' : World) → (δ w').depth ≡ w'.depth) → (o : Outcome A) → Verdict (δ w) (λ w. f w t) (λ x a. Q (t ∷ x) a) ts o → Verdict w whole Q (t ∷ ts) o
  unfolding take_if
  taken up mono same (Ok x) v = record {
    used = t ∷ v.used;
    cut = ap (λ l. t ∷ l) v.cut;
    is = v.is;
    again = λ w' ab r' h. ap (λ c. and_then (if c then Ok (t, v.used ++ r') else Err (Deep (length (v.used ++ r')))) (f (δ w'))) (up w' ab) ∙ v.again (δ w') (mono w' ab) r' h;
  }
  taken up mono same (Err NoMemory) v = absurd v
  taken up mono same (Err (Stuck k)) v = record {
    used = t ∷ v.used;
    rest = v.rest;
    cut = ap (λ l. t ∷ l) v.cut;
    count = v.count;
    goes_on = v.goes_on;
    again = λ w' ab r' h. ap (λ c. and_then (if c then Ok (t, v.used ++ r') else Err (Deep (length (v.used ++ r')))) (f (δ w'))) (up w' ab) ∙ v.again (δ w') (mono w' ab) r' h;
  }
  taken up mono same (Err (Deep k)) v = record {
    used = t ∷ v.used;
    last = v.last;
    rest = v.rest;
    cut = ap (λ l. t ∷ l) v.cut;
    count = v.count;
    goes_on = v.goes_on;
    again = λ w' ab d r'. ap (λ c. and_then (if c then Ok (t, v.used ++ v.last ∷ r') else Err (Deep (length (v.used ++ v.last ∷ r')))) (f (δ w'))) (up w' ab) ∙ v.again (δ w') (mono w' ab) (same w ∙ d ∙ sym (same w')) r';
  }

  refused : b w.depth ≡ false → Has (λ x a. Q (t ∷ x) a) → DeepAt w whole Q (t ∷ ts) (length ts)
  unfolding take_if
  refused never h = record {
    used = [];
    last = t;
    rest = ts;
    cut = refl;
    count = refl;
    goes_on = h;
    again = λ w' ab d r'. ap (λ c. and_then (if c then Ok (t, r') else Err (Deep (length r'))) (f (δ w'))) (ap b (sym d) ∙ never);
  }

  either : (c : Bool) → b w.depth ≡ c → ((w' : World) → Above w w' → b w.depth ≡ true → b w'.depth ≡ true) → ((w' : World) → Above w w' → Above (δ w) (δ w')) → ((w' : World) → (δ w').depth ≡ w'.depth)
      → Has (λ x a. Q (t ∷ x) a) → (b w.depth ≡ true → Verdict (δ w) (λ w. f w t) (λ x a. Q (t ∷ x) a) ts (f (δ w) t ts))
      → Verdict w whole Q (t ∷ ts) (and_then (if c then Ok (t, ts) else Err (Deep (length ts))) (f (δ w)))
  either true e up mono same h k = taken (λ w' ab. up w' ab e) mono same (f (δ w) t ts) (k e)
  either false e up mono same h k = refused e h

nothing_left : {A : Type 0} (w : World) (δ : World → World) (f : World → Token → Parser A) (b : ℕ → Bool) (Q : Lang A) → Has Q → StuckAt w (λ w. take_if (b w.depth) >>= f (δ w)) Q [] 0
unfolding take_if
nothing_left w δ f b Q h = record {
  used = [];
  rest = [];
  cut = refl;
  count = refl;
  goes_on = λ _. h;
  again = λ w' ab r' e. at_end w' r' e;
}
  where
    at_end : (w' : World) (r' : List Token) → head r' ≡ None → and_then (take_if (b w'.depth) r') (f (δ w')) ≡ Err (Stuck (length r'))
    at_end w' [] e = refl
    at_end w' (t ∷ r') e = cc

abbrev pub Grows : (ℕ → Bool) → Type 0
Grows b = (m n : ℕ) → m ≤ n → b m ≡ true → b n ≡ true

pub take_law : {A R : Type 0} {w : World} {G : List Token → Type 0} {Q : Lang A} (f : World → Token → Parser A) (b : ℕ → Bool) → Grows b → (C : Token → Type 0) → ((t : Token) (ts : List Token) → G (t ∷ ts) → C t)
    → Has Q → ((t : Token) → C t → Law (R × (b w.depth ≡ true)) w Any (λ w. f w t) (λ x a. Q (t ∷ x) a))
    → Law R w G (λ w. take_if (b w.depth) >>= f w) Q
unfolding take_if
take_law {A} {R} {w} {G} {Q} f b grows C c h k = record { run = λ rt ts g s. on rt ts g s; has = h }
  where
    on : R → (ts : List Token) → G ts → length ts < w.fuel → Verdict w (λ w. take_if (b w.depth) >>= f w) Q ts (and_then (take_if (b w.depth) ts) (f w))
    on rt [] g s = nothing_left w (λ w. w) f b Q h
    on rt (t ∷ ts) g s = let l = k t (c t ts g) in
        either w (λ w. w) f b Q t ts (b w.depth) refl (λ w' ab. grows w.depth w'.depth ab.depth) (λ w' ab. ab) (λ w'. refl) l.has
        (λ e. l.run (rt, e) ts tt (omega arith))

-- the same in a loop, whose next turn comes after the token
pub turn_law : {A R : Type 0} {w : World} {G : List Token → Type 0} {Q : Lang A} (f : World → Token → Parser A) (b : ℕ → Bool) → Grows b → (C : Token → Type 0) → ((t : Token) (ts : List Token) → G (t ∷ ts) → C t)
    → Has Q → ((t : Token) → C t → Law (R × (b w.depth ≡ true)) (down w) Any (λ w. f w t) (λ x a. Q (t ∷ x) a))
    → Law R w G (λ w. take_if (b w.depth) >>= f (down w)) Q
unfolding take_if
turn_law {A} {R} {w} {G} {Q} f b grows C c h k = record { run = λ rt ts g s. on rt ts g s; has = h }
  where
    on : R → (ts : List Token) → G ts → length ts < w.fuel → Verdict w (λ w. take_if (b w.depth) >>= f (down w)) Q ts (and_then (take_if (b w.depth) ts) (f (down w)))
    on rt [] g s = nothing_left w down f b Q h
    on rt (t ∷ ts) g s = let l = k t (c t ts g) in
        either w down f b Q t ts (b w.depth) refl (λ w' ab. grows w.depth w'.depth ab.depth) (λ w' ab. down_above w w' ab) (λ w'. refl) l.has
        (λ e. l.run (rt, e) ts tt (pred_above (length ts) w.fuel s))

-- a token of that kind, which goes too deep unless it fits
pub expect_if_law : {A R : Type 0} {w : World} {G : List Token → Type 0} {Q : Lang A} (f : World → Token → Parser A) (b : ℕ → Bool) → Grows b → (K : TokenKind)
    → ((t : Token) → t.kind ≡ K → Law (R × (b w.depth ≡ true)) w Any (λ w. f w t) (λ x a. Q (t ∷ x) a)) → Law R w G (λ w. expect_if (b w.depth) K >>= f w) Q
unfolding expect_if same_kind kind
expect_if_law {A} {R} {w} {G} {Q} f b grows K k = look (λ ts. same_kind (kind ts) K) (λ ts ts' h. ap (λ y. same_kind y K) (kind_local ts ts' h))
    (λ w x ts. and_then (if x then take_if (b w.depth) ts else refuse ts) (f w)) whole_has by
  where
    whole_has : Has Q
    whole_has = let h = (k (token K) refl).has in record { word = token K ∷ h.word; value = h.value; is = h.is }

    by : (x : Bool) → Law R w (λ ts. G ts × (same_kind (kind ts) K ≡ x)) (λ w ts. and_then (if x then take_if (b w.depth) ts else refuse ts) (f w)) Q
    by true = take_law f b grows (λ t. t.kind ≡ K) (λ t ts g. same_true the_type (Prim.search Rattle.std.proofs.Common.rules) _ _ g.1) whole_has k
    by false = refuse_law whole_has

pub expect_law : {A R : Type 0} {w : World} {G : List Token → Type 0} {Q : Lang A} (f : World → Token → Parser A) (K : TokenKind)
    → ((t : Token) → t.kind ≡ K → Law R w Any (λ w. f w t) (λ x a. Q (t ∷ x) a)) → Law R w G (λ w. expect K >>= f w) Q
expect_law f K k = expect_if_law f (λ _. true) (λ m n l e. e) K (λ t c. weaken (λ r. r.0) (k t c))

-- ---- where a list begins

pub start_local : (ts ts' : List Token) → head ts ≡ head ts' → start ts ≡ start ts'
start_local [] [] h = refl
start_local [] (t ∷ ts) h = cc
start_local (t ∷ ts) [] h = cc
start_local (t ∷ ts) (s ∷ ss) h = let e : t ≡ s = cc in ap (λ (x : Token). x.place) e

-- a list that is not empty begins where all lists begin that go on with it
pub start_of : (u v : List Token) → 0 < length u → start (u ++ v) ≡ start u
start_of [] v h = absurd (omega arith)
start_of (t ∷ u) v h = refl

-- what is read begins at the place of the next token
pub located : {A R : Type 0} {w : World} {G : List Token → Type 0} {p : Family A} {Q : Lang A} (at : Place)
    → ((u : List Token) (a : A) → Q u a → 0 < length u) → Has (λ u a. Q u a × (start u ≡ at))
    → Law R w G p Q → Law R w (λ ts. G ts × (start ts ≡ at)) p (λ u a. Q u a × (start u ≡ at))
located {A} {w = w} {p = p} {Q = Q} at some h l = record { run = λ rt ts g s. by ts g.1 (p w ts) (l.run rt ts g.0 s); has = h }
  where
    by : (ts : List Token) → start ts ≡ at → (o : Outcome A) → Verdict w p Q ts o → Verdict w p (λ u a. Q u a × (start u ≡ at)) ts o
    by ts e (Ok x) v = record { used = v.used; cut = v.cut; again = v.again; is = (v.is, sym (start_of v.used x.1 (some v.used x.0 v.is)) ∙ ap start (sym v.cut) ∙ e) }
    by ts e (Err NoMemory) v = absurd v
    by ts e (Err (Stuck n)) v = record { used = v.used; rest = v.rest; cut = v.cut; count = v.count; again = v.again; goes_on = λ none. on v.used (v.cut ∙ ap (λ l. v.used ++ l) none ∙ append-nil v.used) (v.goes_on none) }
      where
        on : (u : List Token) → ts ≡ u → Has (λ x b. Q (u ++ x) b) → Has (λ x b. Q (u ++ x) b × (start (u ++ x) ≡ at))
        on [] c g = h
        on (t ∷ u) c g = record { word = g.word; value = g.value; is = (g.is, ap start (sym c) ∙ e) }
    by ts e (Err (Deep n)) v = record {
      used = v.used;
      last = v.last;
      rest = v.rest;
      cut = v.cut;
      count = v.count;
      again = v.again;
      goes_on = let g = v.goes_on in record { word = g.word; value = g.value; is = (g.is, start_with v.used v.last g.word v.rest ∙ ap start (sym v.cut) ∙ e) };
    }
      where
        start_with : (u : List Token) (t : Token) (x y : List Token) → start (u ++ t ∷ x) ≡ start (u ++ t ∷ y)
        start_with [] t x y = refl
        start_with (s ∷ u) t x y = refl

-- ---- another view of a parser

module _ {A : Type 0} (w : World) (δ : World → World) (p q : Family A) (Q : Lang A)
    (mono : (w' : World) → Above w w' → Above (δ w) (δ w'))
    (same : (w' : World) → Above w w' → w.depth ≡ w'.depth → (δ w).depth ≡ (δ w').depth)
    (is : (w' : World) → Above w w' → (ts : List Token) → q w' ts ≡ p (δ w') ts) (ts : List Token) where
  viewed : (o : Outcome A) → Verdict (δ w) p Q ts o → Verdict w q Q ts o
  viewed (Ok x) v = record { used = v.used; cut = v.cut; is = v.is; again = λ w' ab r' h. is w' ab (v.used ++ r') ∙ v.again (δ w') (mono w' ab) r' h }
  viewed (Err NoMemory) v = absurd v
  viewed (Err (Stuck k)) v = record { used = v.used; rest = v.rest; cut = v.cut; count = v.count; goes_on = v.goes_on; again = λ w' ab r' h. is w' ab (v.used ++ r') ∙ v.again (δ w') (mono w' ab) r' h }
  viewed (Err (Deep k)) v = record { used = v.used; last = v.last; rest = v.rest; cut = v.cut; count = v.count; goes_on = v.goes_on; again = λ w' ab d r'. is w' ab (v.used ++ v.last ∷ r') ∙ v.again (δ w') (mono w' ab) (same w' ab d) r' }

pub above_self : (w : World) → Above w w
above_self w = record { fuel = omega arith; turns = omega arith; depth = omega arith }

pub view_law : {A R R' : Type 0} {w : World} {G : List Token → Type 0} {p q : Family A} {Q : Lang A} (δ : World → World)
    → ((w' : World) → Above w w' → Above (δ w) (δ w')) → ((w' : World) → Above w w' → w.depth ≡ w'.depth → (δ w).depth ≡ (δ w').depth)
    → (R' → R) → (R' → w.fuel ≤ (δ w).fuel) → ((w' : World) → Above w w' → (ts : List Token) → q w' ts ≡ p (δ w') ts) → Law R (δ w) G p Q → Law R' w G q Q
view_law {w} {p} {q} {Q} δ mono same to fits is l = record {
  run = λ rt ts g s. let v = l.run (to rt) ts g (let fit : w.fuel ≤ (δ w).fuel = fits rt in omega arith) in
      subst (λ o. Verdict w q Q ts o) (sym (is w (above_self w) ts)) (viewed w δ p q Q mono same is ts (p (δ w) ts) v);
  has = l.has;
}

pub some_pred : (n m : ℕ) → m < n → n ≡ suc (pred n)
some_pred zero m h = absurd (omega arith)
some_pred (suc n) m h = refl

-- a loop that has a turn left
pub a_turn : {A R : Type 0} {w : World} {G : List Token → Type 0} {Q : Lang A} (L : ℕ → Family A) (m : ℕ) → w.fuel ≡ suc m
    → Law R w G (λ w. L (suc (pred w.fuel)) w) Q → Law R w G (λ w. L w.fuel w) Q
a_turn {w} L m e l = view_law (λ w. w) (λ w' ab. ab) (λ w' ab d. d) (λ r. r) (λ r. omega arith)
    (λ w' ab ts. ap (λ n. L n w' ts) (some_pred w'.fuel m (omega (arith, ab.fuel)))) l

-- a loop that begins
pub all_turns : {A R : Type 0} {w : World} {G : List Token → Type 0} {Q : Lang A} → (R → w.fuel ≤ w.turns) → (L : ℕ → Family A)
    → Law (w.fuel ≤ w.turns) (record w { fuel = w.turns }) G (λ w. L w.fuel (record w { fuel = 0 })) Q → Law R w G (λ w. L w.turns (record w { fuel = 0 })) Q
all_turns {w} fits L l = view_law (λ w. record w { fuel = w.turns }) (λ w' ab. record { fuel = ab.turns; turns = ab.turns; depth = ab.depth }) (λ w' ab d. d) fits fits
    (λ w' ab ts. refl) l

-- no turn is left where no token can be
pub no_turn : {A R : Type 0} {w : World} {G : List Token → Type 0} {p : Family A} {Q : Lang A} → w.fuel ≡ 0 → Has Q → Law R w G p Q
no_turn e h = record { run = λ rt ts g s. absurd (omega (arith, e, s)); has = h }

pub relang : {A R : Type 0} {w : World} {G : List Token → Type 0} {p : Family A} {P Q : Lang A} → ((u : List Token) (a : A) → P u a → Q u a) → Law R w G p P → Law R w G p Q
relang {w} {p} {P} {Q} k l = record { run = λ rt ts g s. same ts (p w ts) (l.run rt ts g s); has = record { word = l.has.word; value = l.has.value; is = k l.has.word l.has.value l.has.is } }
  where
    same : (ts : List Token) (o : Outcome _) → Verdict w p P ts o → Verdict w p Q ts o
    same ts (Ok x) v = record { used = v.used; cut = v.cut; is = k v.used x.0 v.is; again = v.again }
    same ts (Err NoMemory) v = absurd v
    same ts (Err (Stuck n)) v = record { used = v.used; rest = v.rest; cut = v.cut; count = v.count; again = v.again; goes_on = λ e. let h = v.goes_on e in record { word = h.word; value = h.value; is = k (v.used ++ h.word) h.value h.is } }
    same ts (Err (Deep n)) v = record { used = v.used; last = v.last; rest = v.rest; cut = v.cut; count = v.count; again = v.again; goes_on = let h = v.goes_on in record { word = h.word; value = h.value; is = k (v.used ++ v.last ∷ h.word) h.value h.is } }

-- a loop that begins, where a subtree has room
pub all_turns_of : {A R : Type 0} {w : World} {G : List Token → Type 0} {Q : Lang A} → (R → (w.fuel ≤ w.turns) × (0 < w.depth)) → (L : ℕ → Family A)
    → Law ((w.fuel ≤ w.turns) × (0 < w.depth)) (record w { fuel = w.turns }) G (λ w. L w.fuel (record w { fuel = 0 })) Q → Law R w G (λ w. L w.turns (record w { fuel = 0 })) Q
all_turns_of {w} fits L l = view_law (λ w. record w { fuel = w.turns }) (λ w' ab. record { fuel = ab.turns; turns = ab.turns; depth = ab.depth }) (λ w' ab d. d) fits (λ r. (fits r).0)
    (λ w' ab ts. refl) l

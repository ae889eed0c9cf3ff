-- What the outcome of a parser says of the tokens, where it reads them in several ways and so keeps no `Law`.
use Rattle.std.proofs.Common.{◌≡◌, ℕ, zero, suc, ◌<◌, List, [], ◌∷◌, ◌++◌, length, true, Ok, Err, refl, sym, ap, ◌∙◌, subst, arith, append-nil}
use Rattle.al_lex.specs.declared.token.Token.{Token}
use Rattle.al_tree.specs.declared.cursor.ParseError.TheVariants.{NoMemory, Stuck, Deep}
use Rattle.al_tree.specs.Reading.{Outcome, Parser, ◌>>=◌, take_if}
use Rattle.al_tree.proofs.Law.{World, Above, Family, Lang, Any, Has, ReadAt, StuckAt, Verdict, Law, head}
use Rattle.al_parse_stmt.proofs.Outcomes.{IsErr, same_head}

-- no list is read that begins with the tokens up to the one that is refused, with however many levels
pub record RefusedAt {A : Type 0} (w : World) (p : Family A) (ts : List Token) (left : ℕ) : Type 0 where
  pub used : List Token
  pub last : Token
  pub rest : List Token
  pub cut : ts ≡ used ++ last ∷ rest
  pub count : length rest ≡ left
  pub none : (w' : World) → Above w w' → (more : List Token) → IsErr (p w' (used ++ last ∷ more))

-- the tokens are not read, and begin a list of the language
pub record EndedAt {A : Type 0} (w : World) (p : Family A) (Q : Lang A) (ts : List Token) : Type 0 where
  pub none : (w' : World) → Above w w' → IsErr (p w' ts)
  pub goes_on : Has (λ v b. Q (ts ++ v) b)

-- the tokens up to that one begin a list of the language, and none that begins so is read with as many levels
pub record TooDeepAt {A : Type 0} (w : World) (p : Family A) (Q : Lang A) (ts : List Token) (left : ℕ) : Type 0 where
  pub used : List Token
  pub last : Token
  pub rest : List Token
  pub cut : ts ≡ used ++ last ∷ rest
  pub count : length rest ≡ left
  pub none : (w' : World) → Above w w' → w.depth ≡ w'.depth → (more : List Token) → IsErr (p w' (used ++ last ∷ more))
  pub goes_on : Has (λ v b. Q (used ++ last ∷ v) b)

abbrev pub Judged : {A : Type 0} → World → Family A → Lang A → List Token → Outcome A → Type 0
Judged w p Q ts (Ok x) = ReadAt w p Q ts x.0 x.1
Judged w p Q ts (Err NoMemory) = ⊥
Judged w p Q ts (Err (Stuck zero)) = EndedAt w p Q ts
Judged w p Q ts (Err (Stuck (suc m))) = RefusedAt w p ts m
Judged w p Q ts (Err (Deep m)) = TooDeepAt w p Q ts m

pub record Judge {A : Type 0} (R : Type 0) (w : World) (G : List Token → Type 0) (p : Family A) (Q : Lang A) : Type 0 where
  pub run : R → (ts : List Token) → G ts → length ts < w.fuel → Judged w p Q ts (p w ts)
  pub has : Has Q

is_err : {A : Type 0} {o : Outcome A} (e : Rattle.al_tree.specs.declared.cursor.ParseError.ParseError) → o ≡ Err e → IsErr o
is_err e h = subst IsErr (sym h) tt

module _ {A : Type 0} (w : World) (p : Family A) (Q : Lang A) (ts : List Token) where
  stuck : (m : ℕ) → StuckAt w p Q ts m → Judged w p Q ts (Err (Stuck m))
  stuck m s = by m s.rest refl s.count
    where
      by : (m : ℕ) → (rest : List Token) → s.rest ≡ rest → length s.rest ≡ m → Judged w p Q ts (Err (Stuck m))
      by zero [] e c =
          let same : ts ≡ s.used = s.cut ∙ ap (λ l. s.used ++ l) e ∙ append-nil s.used in
          record {
            none = λ w' ab. is_err (Stuck 0) (ap (p w') (same ∙ sym (append-nil s.used)) ∙ s.again w' ab [] (ap head (sym e)));
            goes_on = subst (λ l. Has (λ v b. Q (l ++ v) b)) (sym same) (s.goes_on e);
          }
      by zero (t ∷ rest) e c = absurd (omega (arith, ap length e, c))
      by (suc m) [] e c = absurd (omega (arith, ap length e, c))
      by (suc m) (t ∷ rest) e c = record {
        used = s.used;
        last = t;
        rest = rest;
        cut = s.cut ∙ ap (λ l. s.used ++ l) e;
        count = omega (arith, ap length e, c);
        none = λ w' ab more. is_err (Stuck (length (t ∷ more))) (s.again w' ab (t ∷ more) (ap head (sym e)));
      }

  pub judged : (o : Outcome A) → Verdict w p Q ts o → Judged w p Q ts o
  judged (Ok x) v = v
  judged (Err NoMemory) v = absurd v
  judged (Err (Stuck m)) v = stuck m v
  judged (Err (Deep m)) v = record {
    used = v.used;
    last = v.last;
    rest = v.rest;
    cut = v.cut;
    count = v.count;
    none = λ w' ab d more. is_err (Deep (length more)) (v.again w' ab d more);
    goes_on = v.goes_on;
  }

-- a parser that keeps the law says so much too
pub law_judge : {A R : Type 0} {w : World} {G : List Token → Type 0} {p : Family A} {Q : Lang A} → Law R w G p Q → Judge R w G p Q
law_judge {w = w} {p = p} {Q = Q} l = record { run = λ rt ts g s. judged w p Q ts (p w ts) (l.run rt ts g s); has = l.has }

pub guard_judge : {A R : Type 0} {w : World} {G G' : List Token → Type 0} {p : Family A} {Q : Lang A} → ((ts : List Token) → G' ts → G ts) → Judge R w G p Q → Judge R w G' p Q
guard_judge h l = record { run = λ rt ts g s. l.run rt ts (h ts g) s; has = l.has }

-- ---- looking ahead

module _ {A X : Type 0} (w : World) (g : List Token → X) (local : (ts ts' : List Token) → head ts ≡ head ts' → g ts ≡ g ts') (f : World → X → Parser A) (Q : Lang A) (ts : List Token) where
  abbrev looks_on : Family A
  looks_on w ts = f w (g ts) ts

  at_last : (used : List Token) (last : Token) (rest more : List Token) → ts ≡ used ++ last ∷ rest → (w' : World) → IsErr (f w' (g ts) (used ++ last ∷ more)) → IsErr (looks_on w' (used ++ last ∷ more))
  at_last used last rest more cut w' none =
      subst (λ x. IsErr (f w' x (used ++ last ∷ more))) (local ts (used ++ last ∷ more) (ap head cut ∙ same_head used (last ∷ more) (last ∷ rest) refl)) none

  looked : (o : Outcome A) → Judged w (λ w. f w (g ts)) Q ts o → Judged w looks_on Q ts o
  looked (Ok x) v = record {
    used = v.used;
    cut = v.cut;
    is = v.is;
    again = λ w' ab r' h. ap (λ y. f w' y (v.used ++ r')) (local (v.used ++ r') ts (same_head v.used x.1 r' h ∙ ap head (sym v.cut))) ∙ v.again w' ab r' h;
  }
  looked (Err NoMemory) v = absurd v
  looked (Err (Stuck zero)) v = record { none = v.none; goes_on = v.goes_on }
  looked (Err (Stuck (suc m))) v = record {
    used = v.used;
    last = v.last;
    rest = v.rest;
    cut = v.cut;
    count = v.count;
    none = λ w' ab more. at_last v.used v.last v.rest more v.cut w' (v.none w' ab more);
  }
  looked (Err (Deep m)) v = record {
    used = v.used;
    last = v.last;
    rest = v.rest;
    cut = v.cut;
    count = v.count;
    none = λ w' ab same more. at_last v.used v.last v.rest more v.cut w' (v.none w' ab same more);
    goes_on = v.goes_on;
  }

pub look_judge : {A X R : Type 0} {w : World} {G : List Token → Type 0} {Q : Lang A} (g : List Token → X) → ((ts ts' : List Token) → head ts ≡ head ts' → g ts ≡ g ts')
    → (f : World → X → Parser A) → Has Q → ((x : X) → Judge R w (λ ts. G ts × (g ts ≡ x)) (λ w. f w x) Q) → Judge R w G (λ w ts. f w (g ts) ts) Q
look_judge {w = w} {Q = Q} g local f h k = record {
  run = λ rt ts gs s. looked w g local f Q ts (f w (g ts) ts) ((k (g ts)).run rt ts (gs, refl) s);
  has = h;
}

-- ---- taking a token

module _ {A : Type 0} (w : World) (f : World → Token → Parser A) (Q : Lang A) (t : Token) (ts : List Token) where
  taken : (o : Outcome A) → Judged w (λ w. f w t) (λ x a. Q (t ∷ x) a) ts o → Judged w (λ w. take_if true >>= f w) Q (t ∷ ts) o
  unfolding take_if
  taken (Ok x) v = record { used = t ∷ v.used; cut = ap (λ l. t ∷ l) v.cut; is = v.is; again = λ w' ab r' h. v.again w' ab r' h }
  taken (Err NoMemory) v = absurd v
  taken (Err (Stuck zero)) v = record { none = v.none; goes_on = v.goes_on }
  taken (Err (Stuck (suc m))) v = record { used = t ∷ v.used; last = v.last; rest = v.rest; cut = ap (λ l. t ∷ l) v.cut; count = v.count; none = v.none }
  taken (Err (Deep m)) v = record { used = t ∷ v.used; last = v.last; rest = v.rest; cut = ap (λ l. t ∷ l) v.cut; count = v.count; none = v.none; goes_on = v.goes_on }

pub take_judge : {A R : Type 0} {w : World} {G : List Token → Type 0} {Q : Lang A} (f : World → Token → Parser A) (C : Token → Type 0) → ((t : Token) (ts : List Token) → G (t ∷ ts) → C t) → Has Q
    → ((t : Token) → C t → Judge R w Any (λ w. f w t) (λ x a. Q (t ∷ x) a)) → Judge R w G (λ w. take_if true >>= f w) Q
unfolding take_if
take_judge {A} {R} {w} {G} {Q} f C c h k = record { run = by; has = h }
  where
    by : R → (ts : List Token) → G ts → length ts < w.fuel → Judged w (λ w. take_if true >>= f w) Q ts ((take_if true >>= f w) ts)
    by rt [] g s = record { none = λ w' ab. tt; goes_on = h }
    by rt (t ∷ ts) g s = taken w f Q t ts (f w t ts) ((k t (c t ts g)).run rt ts tt (omega (arith, s)))

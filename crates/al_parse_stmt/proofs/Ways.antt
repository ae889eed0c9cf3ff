-- What is known of one parser's outcomes on the same tokens with other turns and levels, and on more tokens.
use Rattle.std.proofs.Common.{◌≡◌, ℕ, suc, ◌+◌, ◌-◌, ◌<◌, ◌≤◌, max, ◌⊎◌, inl, inr, List, [], ◌∷◌, ◌++◌, length, Ok, Err, refl, sym, ap, ◌∙◌, subst, arith, append_assoc, append-nil, length-append}
use Rattle.al_lex.specs.declared.token.Token.{Token}
use Rattle.al_tree.specs.declared.cursor.ParseError.TheVariants.{NoMemory, Stuck, Deep}
use Rattle.al_tree.specs.Reading.{Outcome, Parser}
use Rattle.al_tree.proofs.Law.{Above, Lang, Any, Has, Law, Verdict, StuckAt, head}
use Rattle.al_tree.proofs.Verdicts.{world}
use Rattle.al_parse_stmt.proofs.Outcomes.{IsErr, behind}
use Rattle.al_parse_stmt.proofs.Facts.{nothing}

abbrev pub NotDeep : {A : Type 0} → Outcome A → Type 0
NotDeep (Ok x) = Unit {0}
NotDeep (Err NoMemory) = Unit {0}
NotDeep (Err (Stuck m)) = Unit {0}
NotDeep (Err (Deep m)) = ⊥

pub is_err : {A : Type 0} {o : Outcome A} (e : Rattle.al_tree.specs.declared.cursor.ParseError.ParseError) → o ≡ Err e → IsErr o
is_err e h = subst IsErr (sym h) tt

-- a parser by how many turns and levels it has, with what it reads
pub record Way (A : Type 0) : Type 1 where
  pub reads : ℕ → ℕ → Parser A
  pub Reads : Lang A
  pub law : (F n : ℕ) → Law (Unit {0}) (world F n) Any (λ w. reads w.turns w.depth) Reads

module _ {A : Type 0} (way : Way A) where
  abbrev q : ℕ → ℕ → Parser A
  q = way.reads

  abbrev Q : Lang A
  Q = way.Reads

  pub at : (F n : ℕ) (ts : List Token) (o : Outcome A) → length ts < F → q F n ts ≡ o → Verdict (world F n) (λ w. q w.turns w.depth) Q ts o
  at F n ts o s e = subst (Verdict (world F n) (λ w. q w.turns w.depth) Q ts) e ((way.law F n).run tt ts tt s)

  above : {F n F2 n2 : ℕ} → F ≤ F2 → n ≤ n2 → Above (world F n) (world F2 n2)
  above h g = record { fuel = h; turns = h; depth = g }

  -- memory is no matter
  pub never_memory : (F n : ℕ) (ts : List Token) → length ts < F → q F n ts ≡ Err NoMemory → ⊥
  never_memory F n ts s e = at F n ts (Err NoMemory) s e

  -- what does not go too deep stays as it is
  pub lasts : (F n : ℕ) (ts : List Token) (o : Outcome A) → length ts < F → q F n ts ≡ o → NotDeep o → (F2 n2 : ℕ) → F ≤ F2 → n ≤ n2 → q F2 n2 ts ≡ o
  lasts F n ts (Ok x) s e d F2 n2 h g = let v = at F n ts (Ok x) s e in ap (q F2 n2) v.cut ∙ v.again (world F2 n2) (above h g) x.1 refl
  lasts F n ts (Err NoMemory) s e d F2 n2 h g = absurd (never_memory F n ts s e)
  lasts F n ts (Err (Stuck m)) s e d F2 n2 h g = let v = at F n ts (Err (Stuck m)) s e in ap (q F2 n2) v.cut ∙ v.again (world F2 n2) (above h g) v.rest refl ∙ ap (λ (c : ℕ). Err (Stuck c)) v.count
  lasts F n ts (Err (Deep m)) s e d F2 n2 h g = absurd d

  -- two outcomes that do not go too deep are one
  pub agree : (F n F2 n2 : ℕ) (ts : List Token) (o o2 : Outcome A) → length ts < F → length ts < F2 → q F n ts ≡ o → q F2 n2 ts ≡ o2 → NotDeep o → NotDeep o2 → o ≡ o2
  agree F n F2 n2 ts o o2 s s2 e e2 d d2 =
      sym (lasts F n ts o s e d (max F F2) (max n n2) (omega arith) (omega arith)) ∙ lasts F2 n2 ts o2 s2 e2 d2 (max F F2) (max n n2) (omega arith) (omega arith)

  -- ---- more tokens

  pub stuck_more : (F n : ℕ) (ts : List Token) (m : ℕ) → length ts < F → q F n ts ≡ Err (Stuck (suc m)) → (F2 n2 : ℕ) → F ≤ F2 → n ≤ n2 → (more : List Token) → IsErr (q F2 n2 (ts ++ more))
  stuck_more F n ts m s e F2 n2 h g more = let v = at F n ts (Err (Stuck (suc m))) s e in by v v.rest refl
    where
      by : (v : StuckAt (world F n) (λ w. q w.turns w.depth) Q ts (suc m)) (rest : List Token) → v.rest ≡ rest → IsErr (q F2 n2 (ts ++ more))
      by v [] c = absurd (omega (arith, v.count, ap length c))
      by v (t ∷ rest) c = is_err (Stuck (length (t ∷ (rest ++ more)))) (
          ap (λ l. q F2 n2 (l ++ more)) (v.cut ∙ ap (λ l. v.used ++ l) c) ∙ ap (q F2 n2) (append_assoc v.used (t ∷ rest) more) ∙ v.again (world F2 n2) (above h g) (t ∷ (rest ++ more)) (ap head (sym c)))

  pub deep_more : (F n : ℕ) (ts : List Token) (m : ℕ) → length ts < F → q F n ts ≡ Err (Deep m) → (F2 : ℕ) → F ≤ F2 → (more : List Token) → IsErr (q F2 n (ts ++ more))
  deep_more F n ts m s e F2 h more =
      let v = at F n ts (Err (Deep m)) s e in
      is_err (Deep (length (v.rest ++ more))) (ap (λ l. q F2 n (l ++ more)) v.cut ∙ ap (q F2 n) (append_assoc v.used (v.last ∷ v.rest) more) ∙ v.again (world F2 n) (above h (omega arith)) refl (v.rest ++ more))

  pub ok_more : (F n : ℕ) (ts : List Token) (a : A) (t : Token) (r : List Token) → length ts < F → q F n ts ≡ Ok (a, t ∷ r) → (F2 n2 : ℕ) → F ≤ F2 → n ≤ n2 → (more : List Token) → q F2 n2 (ts ++ more) ≡ Ok (a, t ∷ (r ++ more))
  ok_more F n ts a t r s e F2 n2 h g more =
      let v = at F n ts (Ok (a, t ∷ r)) s e in
      ap (λ l. q F2 n2 (l ++ more)) v.cut ∙ ap (q F2 n2) (append_assoc v.used (t ∷ r) more) ∙ v.again (world F2 n2) (above h g) (t ∷ (r ++ more)) refl

  -- what is refused with some levels is refused with any, where those tokens go on
  pub dead : (F n : ℕ) (ts : List Token) (m : ℕ) → length ts < F → q F n ts ≡ Err (Stuck (suc m)) → (F2 n2 : ℕ) → F ≤ F2 → (more : List Token) → IsErr (q F2 n2 (ts ++ more))
  dead F n ts m s e F2 n2 h more = by (q F n2 ts) refl
    where
      by : (o : Outcome A) → q F n2 ts ≡ o → IsErr (q F2 n2 (ts ++ more))
      by (Ok x) c = let same : ◌≡◌ {A = Outcome A} (Ok x) (Err (Stuck (suc m))) = agree F n2 F n ts (Ok x) (Err (Stuck (suc m))) s s c e tt tt in absurd (let z : ⊥ = cc in z)
      by (Err NoMemory) c = absurd (never_memory F n2 ts s c)
      by (Err (Stuck k)) c = stuck_more F n2 ts m s (c ∙ agree F n2 F n ts (Err (Stuck k)) (Err (Stuck (suc m))) s s c e tt tt) F2 n2 h (omega arith) more
      by (Err (Deep k)) c = deep_more F n2 ts k s c F2 h more

  -- what is read with some levels is read so or not with any
  pub only : (F n : ℕ) (ts : List Token) (a : A) (t : Token) (r : List Token) → length ts < F → q F n ts ≡ Ok (a, t ∷ r) → (F2 n2 : ℕ) → F ≤ F2 → (more : List Token)
      → IsErr (q F2 n2 (ts ++ more)) ⊎ (q F2 n2 (ts ++ more) ≡ Ok (a, t ∷ (r ++ more)))
  only F n ts a t r s e F2 n2 h more = by (q F n2 ts) refl
    where
      by : (o : Outcome A) → q F n2 ts ≡ o → IsErr (q F2 n2 (ts ++ more)) ⊎ (q F2 n2 (ts ++ more) ≡ Ok (a, t ∷ (r ++ more)))
      by (Ok x) c = inr (ok_more F n2 ts a t r s (c ∙ agree F n2 F n ts (Ok x) (Ok (a, t ∷ r)) s s c e tt tt) F2 n2 h (omega arith) more)
      by (Err NoMemory) c = absurd (never_memory F n2 ts s c)
      by (Err (Stuck k)) c = let same : ◌≡◌ {A = Outcome A} (Err (Stuck k)) (Ok (a, t ∷ r)) = agree F n2 F n ts (Err (Stuck k)) (Ok (a, t ∷ r)) s s c e tt tt in absurd (let z : ⊥ = cc in z)
      by (Err (Deep k)) c = inl (deep_more F n2 ts k s c F2 h more)

  -- and not where it goes too deep on some tokens that go on so
  pub too_deep : (F n : ℕ) (ts rest : List Token) (a : A) (t : Token) (r : List Token) (m g : ℕ) → length (ts ++ rest) < F → q F g ts ≡ Ok (a, t ∷ r) → q F n (ts ++ rest) ≡ Err (Deep m) → (F2 : ℕ) → F ≤ F2 → (more : List Token) → IsErr (q F2 n (ts ++ more))
  too_deep F n ts rest a t r m g s e d F2 h more = by (q F n ts) refl
    where
      short : length ts < F
      short = omega (arith, s, length-append ts rest)

      by : (o : Outcome A) → q F n ts ≡ o → IsErr (q F2 n (ts ++ more))
      by (Ok x) c =
          let same : ◌≡◌ {A = Outcome A} (Ok x) (Ok (a, t ∷ r)) = agree F n F g ts (Ok x) (Ok (a, t ∷ r)) short short c e tt tt in
          let both : ◌≡◌ {A = Outcome A} (Err (Deep m)) (Ok (a, t ∷ (r ++ rest))) = sym d ∙ ok_more F n ts a t r short (c ∙ same) F n (omega arith) (omega arith) rest in
          absurd (let z : ⊥ = cc in z)
      by (Err NoMemory) c = absurd (never_memory F n ts short c)
      by (Err (Stuck k)) c = let same : ◌≡◌ {A = Outcome A} (Err (Stuck k)) (Ok (a, t ∷ r)) = agree F n F g ts (Err (Stuck k)) (Ok (a, t ∷ r)) short short c e tt tt in absurd (let z : ⊥ = cc in z)
      by (Err (Deep k)) c = deep_more F n ts k short c F2 h more

  -- ---- less tokens

  -- where it is stuck before some tokens, those before them tell
  pub stuck_front : (F n : ℕ) (pre rest : List Token) (m : ℕ) → length (pre ++ rest) < F → q F n (pre ++ rest) ≡ Err (Stuck m) → length rest < m → q F n pre ≡ Err (Stuck (m - length rest))
  stuck_front F n pre rest m s e less =
      let v = at F n (pre ++ rest) (Err (Stuck m)) s e in
      let b = behind v.used v.rest pre rest (sym v.cut) (omega (arith, v.count, less)) in
      ap (q F n) b.is ∙ v.again (world F n) (above (omega arith) (omega arith)) b.more (first b.more v.rest b.cut (omega (arith, ap length b.cut, length-append b.more rest, v.count, less)))
      ∙ ap (λ (c : ℕ). Err (Stuck c)) (omega (arith, ap length b.cut, length-append b.more rest, v.count))
    where
      first : (x l : List Token) → l ≡ x ++ rest → 0 < length x → head x ≡ head l
      first [] l c h = absurd (omega (arith, h))
      first (t ∷ x) l c h = ap head (sym c)

  pub deep_front : (F n : ℕ) (pre rest : List Token) (m : ℕ) → length (pre ++ rest) < F → q F n (pre ++ rest) ≡ Err (Deep m) → length rest ≤ m → q F n pre ≡ Err (Deep (m - length rest))
  deep_front F n pre rest m s e less =
      let v = at F n (pre ++ rest) (Err (Deep m)) s e in
      let whole : (v.used ++ v.last ∷ []) ++ v.rest ≡ pre ++ rest = append_assoc v.used (v.last ∷ []) v.rest ∙ sym v.cut in
      let b = behind (v.used ++ v.last ∷ []) v.rest pre rest whole (omega (arith, v.count, less)) in
      ap (q F n) (b.is ∙ append_assoc v.used (v.last ∷ []) b.more) ∙ v.again (world F n) (above (omega arith) (omega arith)) refl b.more
      ∙ ap (λ (c : ℕ). Err (Deep c)) (omega (arith, ap length b.cut, length-append b.more rest, v.count))

  -- ---- what begins a list of the language

  pub begins_stuck : (F n : ℕ) (ts : List Token) → length ts < F → q F n ts ≡ Err (Stuck 0) → Has (λ v a. Q (ts ++ v) a)
  begins_stuck F n ts s e = let v = at F n ts (Err (Stuck 0)) s e in by v v.rest refl
    where
      by : (v : StuckAt (world F n) (λ w. q w.turns w.depth) Q ts 0) (rest : List Token) → v.rest ≡ rest → Has (λ v a. Q (ts ++ v) a)
      by v [] c = subst (λ l. Has (λ v a. Q (l ++ v) a)) (sym (v.cut ∙ ap (λ l. v.used ++ l) c ∙ append-nil v.used)) (v.goes_on c)
      by v (t ∷ rest) c = absurd (omega (arith, v.count, ap length c))

  pub begins_ok : (F n : ℕ) (ts : List Token) (a : A) → length ts < F → q F n ts ≡ Ok (a, []) → Has (λ v a. Q (ts ++ v) a)
  begins_ok F n ts a s e = let v = at F n ts (Ok (a, [])) s e in record { word = []; value = a; is = subst (λ l. Q (l ++ []) a) (sym (v.cut ∙ append-nil v.used)) (subst (λ l. Q l a) (sym (append-nil v.used)) v.is) }

  -- the tokens up to and with one that goes too deep
  pub begins_deep : (F n : ℕ) (pre rest : List Token) (m : ℕ) → length (pre ++ rest) < F → q F n (pre ++ rest) ≡ Err (Deep m) → length rest ≡ m → Has (λ v a. Q (pre ++ v) a)
  begins_deep F n pre rest m s e count =
      let v = at F n (pre ++ rest) (Err (Deep m)) s e in
      let whole : (v.used ++ v.last ∷ []) ++ v.rest ≡ pre ++ rest = append_assoc v.used (v.last ∷ []) v.rest ∙ sym v.cut in
      let b = behind (v.used ++ v.last ∷ []) v.rest pre rest whole (omega (arith, v.count, count)) in
      let none : b.more ≡ [] = nothing b.more (omega (arith, ap length b.cut, length-append b.more rest, v.count, count)) in
      let g = v.goes_on in
      record { word = g.word; value = g.value; is = subst (λ l. Q l g.value) (sym (ap (λ l. l ++ g.word) (b.is ∙ ap (λ l. (v.used ++ v.last ∷ []) ++ l) none ∙ append-nil (v.used ++ v.last ∷ [])) ∙ append_assoc v.used (v.last ∷ []) g.word)) g.is }

  -- how many tokens there are at least
  pub room_stuck : (F n : ℕ) (ts : List Token) (m : ℕ) → length ts < F → q F n ts ≡ Err (Stuck m) → m ≤ length ts
  room_stuck F n ts m s e = let v = at F n ts (Err (Stuck m)) s e in omega (arith, v.count, ap length v.cut, length-append v.used v.rest)

  pub room_deep : (F n : ℕ) (ts : List Token) (m : ℕ) → length ts < F → q F n ts ≡ Err (Deep m) → m + 1 ≤ length ts
  room_deep F n ts m s e = let v = at F n ts (Err (Deep m)) s e in omega (arith, v.count, ap length v.cut, length-append v.used (v.last ∷ v.rest))

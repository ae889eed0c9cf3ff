-- From the law of a parser and its completeness to what its answers mean.
use Rattle.std.proofs.Common.{◌≡◌, ℕ, zero, suc, ◌+◌, ◌<◌, ◌≤◌, max, ◌≢◌, List, [], ◌∷◌, ◌++◌, length, Result, Ok, Err, refl, sym, ap, ◌∙◌, subst, arith, append-nil, length-append}
use Rattle.al_lex.specs.declared.token.Token.{Token}
use Rattle.al_tree.specs.declared.cursor.ParseError.{ParseError}
use Rattle.al_tree.specs.declared.cursor.ParseError.TheVariants.{Stuck, Deep}
use Rattle.al_tree.specs.Reading.{Outcome}
use Rattle.al_tree.specs.Correct.{Grammar, UnexpectedAt, EndOfText, TooDeepAt, Parses}
use Rattle.al_tree.proofs.Law.{World, Family, Lang, head, StuckAt, DeepAt, Verdict}

abbrev pub world : ℕ → ℕ → World
world F n = record { fuel = F; turns = F; depth = n }

-- the trees of a grammar with their heights
abbrev pub Sized : {A : Type 0} → Grammar A → Lang (A × ℕ)
Sized G u x = G u x.0 x.1

-- each list that has a tree is parsed to it, where there is room for it
abbrev pub Complete : {A : Type 0} → Grammar A → Family (A × ℕ) → Type 0
Complete {A} G p = (u : List Token) (x : A) (h : ℕ) → G u x h → (F n : ℕ) → h ≤ n → length u < F → p (world F n) u ≡ Ok ((x, h), [])

module _ {A : Type 0} (G : Grammar A) (p : Family (A × ℕ)) (complete : Complete G p) where
  -- two trees of one list are one
  pub one_tree : (u : List Token) (x y : A) (h i : ℕ) → G u x h → G u y i → (x ≡ y) × (h ≡ i)
  one_tree u x y h i a b =
      let p1 = complete u x h a (length u + 1) (max h i) (omega arith) (omega arith) in
      let p2 = complete u y i b (length u + 1) (max h i) (omega arith) (omega arith) in
      let e : Ok ((x, h), []) ≡ p (world (length u + 1) (max h i)) u = sym p1 in
      let same : ◌≡◌ {A = Outcome (A × ℕ)} (Ok ((x, h), [])) (Ok ((y, i), [])) = e ∙ p2 in
      let q : ◌≡◌ {A = (A × ℕ) × List Token} ((x, h), []) ((y, i), []) = cc in
      (ap (λ (o : (A × ℕ) × List Token). o.0.0) q, ap (λ (o : (A × ℕ) × List Token). o.0.1) q)

  stuck_none : (F n : ℕ) (toks : List Token) (k : ℕ) → (s : StuckAt (world F n) p (Sized G) toks k) → (r : List Token) → head r ≡ head s.rest → (x : A) (h : ℕ) → G (s.used ++ r) x h → ⊥
  stuck_none F n toks k s r e x h g =
      let F' = F + length (s.used ++ r) + 1 in
      let n' = max n h in
      let ok = complete (s.used ++ r) x h g F' n' (omega arith) (omega arith) in
      let no = s.again (world F' n') (record { fuel = omega arith; turns = omega arith; depth = omega arith }) r e in
      let both : ◌≡◌ {A = Outcome (A × ℕ)} (Err (Stuck (length r))) (Ok ((x, h), [])) = sym no ∙ ok in cc

  -- a parser that is stuck with no token left has the end of the text too early
  pub stuck_ends : (F n : ℕ) (toks : List Token) → StuckAt (world F n) p (Sized G) toks 0 → EndOfText G toks
  stuck_ends F n toks s = go s.rest refl
    where
      go : (rest : List Token) → s.rest ≡ rest → EndOfText G toks
      go [] e =
          let h = s.goes_on e in
          let same : toks ≡ s.used = s.cut ∙ ap (λ l. s.used ++ l) e ∙ append-nil s.used in
          record {
            more = h.word;
            tree = h.value.0;
            height = h.value.1;
            is = subst (λ l. G (l ++ h.word) h.value.0 h.value.1) (sym same) h.is;
            none = λ x i g. stuck_none F n toks 0 s [] (ap head (sym e)) x i (subst (λ l. G l x i) (same ∙ sym (append-nil s.used)) g);
          }
      go (t ∷ rest) e = absurd (omega (arith, s.count, ap length e))

  -- and one that is stuck before a token does not expect it
  pub stuck_unexpected : (F n : ℕ) (toks : List Token) (k number : ℕ) → 0 < k → number + k ≡ length toks → StuckAt (world F n) p (Sized G) toks k → UnexpectedAt G toks number
  stuck_unexpected F n toks k number some count s = go s.rest refl
    where
      go : (rest : List Token) → s.rest ≡ rest → UnexpectedAt G toks number
      go [] e = absurd (omega (arith, some, s.count, ap length e))
      go (t ∷ rest) e = record {
        front = s.used;
        count = omega (arith, count, s.count, ap length s.cut, length-append s.used s.rest);
        fault = record {
          token = t;
          rest = rest;
          cut = s.cut ∙ ap (λ l. s.used ++ l) e;
          none = λ more x i g. stuck_none F n toks k s (t ∷ more) (sym (ap head e)) x i g;
        };
      }

  pub deep_means : (F n : ℕ) (toks : List Token) (k number : ℕ) → number + (k + 1) ≡ length toks → DeepAt (world F n) p (Sized G) toks k → TooDeepAt G n toks number
  deep_means F n toks k number count d = record {
    front = d.used;
    count = omega (arith, count, d.count, ap length d.cut, length-append d.used (d.last ∷ d.rest));
    fault = record {
      token = d.last;
      rest = d.rest;
      cut = d.cut;
      more = d.goes_on.word;
      tree = d.goes_on.value.0;
      height = d.goes_on.value.1;
      is = d.goes_on.is;
      high = λ more x h g. high more x h g;
    };
  }
    where
      contradiction : (more : List Token) (x : A) (h : ℕ) → G (d.used ++ d.last ∷ more) x h → h ≤ n → ⊥
      contradiction more x h g low =
          let F' = F + length (d.used ++ d.last ∷ more) + 1 in
          let ok = complete (d.used ++ d.last ∷ more) x h g F' n low (omega arith) in
          let no = d.again (world F' n) (record { fuel = omega arith; turns = omega arith; depth = omega arith }) refl more in
          let both : ◌≡◌ {A = Outcome (A × ℕ)} (Err (Deep (length more))) (Ok ((x, h), [])) = sym no ∙ ok in cc

      high : (more : List Token) (x : A) (h : ℕ) → G (d.used ++ d.last ∷ more) x h → n < h
      high more x h g = let c : h ≤ n → ⊥ = contradiction more x h g in Rattle.std.proofs.Common.lt_of_not-le c

  -- what is read where a tree of the whole list is low enough
  pub ok_only : (F n : ℕ) (toks r : List Token) (x : A × ℕ) → length toks < F → p (world F n) toks ≡ Ok (x, r) → (y : A) (h : ℕ) → G toks y h → h ≤ n → (x.0 ≡ y) × (r ≡ [])
  ok_only F n toks r x short e y h d low =
      let yes = complete toks y h d F n low short in
      let q : ◌≡◌ {A = (A × ℕ) × List Token} (x, r) ((y, h), []) = cc in
      (ap (λ (o : (A × ℕ) × List Token). o.0.0) q, ap (λ (o : (A × ℕ) × List Token). o.1) q)

  -- and nothing but that tree is answered
  pub err_never : (F n : ℕ) (toks : List Token) (e : ParseError) → length toks < F → p (world F n) toks ≡ Err e → (x : A) (h : ℕ) → G toks x h → h ≤ n → ⊥
  err_never F n toks e short is x h d low = let yes = complete toks x h d F n low short in cc

-- a tree that is read to the end
pub ok_means : {A : Type 0} (G : Grammar A) (p : Family (A × ℕ)) (F n : ℕ) (toks r : List Token) (x : A × ℕ)
    → Verdict (world F n) p (Sized G) toks (p (world F n) toks) → p (world F n) toks ≡ Ok (x, r) → r ≡ [] → x.1 ≤ n → Parses G n toks x.0
ok_means G p F n toks r x law e none low =
    let v = subst (λ o. Verdict (world F n) p (Sized G) toks o) e law in
    record { height = x.1; low = low; is = subst (λ l. G l x.0 x.1) (sym (v.cut ∙ ap (λ l. v.used ++ l) none ∙ append-nil v.used)) v.is }

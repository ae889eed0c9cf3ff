-- From the law of a parser of parts and its completeness to what its answers mean.
use Rattle.std.proofs.Common.{◌≡◌, ◌≢◌, ℕ, zero, suc, ◌+◌, ◌-◌, ◌<◌, ◌≤◌, ◌==◌, max, Bool, true, false, if◌then◌else◌, List, [], ◌∷◌, ◌++◌, length, drop, slice_get, Option, Some, None, Ok, Err, refl, sym, ap, ap₂, ◌∙◌, subst, arith, append_assoc, append-nil, length-append, length-drop}
use Rattle.std.proofs.lemmas.Grind.{common_steps}
use Rattle.al_lex.specs.declared.token.Token.{Token}
use Rattle.al_lex.specs.TokenList.{TokenList}
use Rattle.al_tree.specs.declared.cursor.ParseError.{ParseError}
use Rattle.al_tree.specs.declared.cursor.ParseError.TheVariants.{NoMemory, Stuck, Deep}
use Rattle.al_tree.specs.declared.fault.ParseFault.{ParseFault}
use Rattle.al_tree.specs.declared.fault.ParseStop.{ParseStop}
use Rattle.al_tree.specs.declared.fault.ParseStop.TheVariants as stop
use Rattle.al_tree.specs.declared.fault.ParseReason.{ParseReason}
use Rattle.al_tree.specs.declared.fault.ParseReason.TheVariants as reason
use Rattle.al_tree.specs.Reading.{Outcome}
use Rattle.al_tree.specs.Correct.{Grammar, UnexpectedAt, EndOfText, TooDeepAt, IsFault}
use Rattle.al_tree.specs.Tree.{limit}
use Rattle.al_tree.specs.Parts.{Ends, Followed, TokensFrom, IsPartAt, IsPartFault, place_of, count, fault_at, stop_of}
use Rattle.al_tree.proofs.Law.{World, Family, Lang, Any, Law, head, ReadAt, StuckAt, DeepAt, Verdict}
use Rattle.al_tree.proofs.Verdicts.{world, Sized}

-- each part with tokens behind it that it does not go on with is parsed to its tree, where there is room for it
abbrev pub CompleteParts : {A : Type 0} → Grammar A → Family (A × ℕ) → Type 0
CompleteParts {A} G p = (u r : List Token) (x : A) (h : ℕ) → G u x h → Ends G u r → (F n : ℕ) → h ≤ n → length (u ++ r) < F → p (world F n) (u ++ r) ≡ Ok ((x, h), r)

module _ {A : Type 0} (G : Grammar A) (p : Family (A × ℕ)) (complete : CompleteParts G p) where
  parsed : (toks : List Token) (x : A) (h : ℕ) → (q : Followed G toks x h) → (F n : ℕ) → h ≤ n → length toks < F → p (world F n) toks ≡ Ok ((x, h), q.rest)
  parsed toks x h q F n low short = ap (p (world F n)) q.cut ∙ complete q.used q.rest x h q.is q.ends F n low (omega (arith, short, ap length q.cut))

  -- behind what is read stands a token that no part goes on with
  read_ends : (F n : ℕ) (toks r : List Token) (x : A × ℕ) → (v : ReadAt (world F n) p (Sized G) toks x r) → Ends G v.used r
  read_ends F n toks [] x v = tt
  read_ends F n toks (t ∷ r) x v = λ more y i g.
      let all = v.used ++ t ∷ more in
      let F' = F + length all + 1 in
      let n' = max n i in
      let ok = complete all [] y i g tt F' n' (omega arith) (omega (arith, ap length (append-nil all))) in
      let same = v.again (world F' n') (record { fuel = omega arith; turns = omega arith; depth = omega arith }) (t ∷ more) refl in
      let both : ◌≡◌ {A = Outcome (A × ℕ)} (Ok (x, t ∷ more)) (Ok ((y, i), [])) = sym same ∙ ap (p (world F' n')) (sym (append-nil all)) ∙ ok in
      let pairs : ◌≡◌ {A = (A × ℕ) × List Token} (x, t ∷ more) ((y, i), []) = cc in
      omega (arith, ap length (ap (λ (o : (A × ℕ) × List Token). o.1) pairs))

  stuck_none : (F n : ℕ) (toks : List Token) (k : ℕ) → (s : StuckAt (world F n) p (Sized G) toks k) → (r : List Token) → head r ≡ head s.rest → (x : A) (h : ℕ) → Followed G (s.used ++ r) x h → ⊥
  stuck_none F n toks k s r e x h g =
      let F' = F + length (s.used ++ r) + 1 in
      let n' = max n h in
      let ok = parsed (s.used ++ r) x h g F' n' (omega arith) (omega arith) in
      let no = s.again (world F' n') (record { fuel = omega arith; turns = omega arith; depth = omega arith }) r e in
      let both : ◌≡◌ {A = Outcome (A × ℕ)} (Err (Stuck (length r))) (Ok ((x, h), g.rest)) = sym no ∙ ok in
      cc

  stuck_ends : (F n : ℕ) (toks : List Token) → StuckAt (world F n) p (Sized G) toks 0 → EndOfText (Followed G) toks
  stuck_ends F n toks s = go s.rest refl
    where
      go : (rest : List Token) → s.rest ≡ rest → EndOfText (Followed G) toks
      go [] e =
          let h = s.goes_on e in
          let same : toks ≡ s.used = s.cut ∙ ap (λ l. s.used ++ l) e ∙ append-nil s.used in
          record {
            more = h.word;
            tree = h.value.0;
            height = h.value.1;
            is = record { used = s.used ++ h.word; rest = []; cut = ap (λ l. l ++ h.word) same ∙ sym (append-nil (s.used ++ h.word)); is = h.is; ends = tt };
            none = λ x i g. stuck_none F n toks 0 s [] (ap head (sym e)) x i (subst (λ l. Followed G l x i) (same ∙ sym (append-nil s.used)) g);
          }
      go (t ∷ rest) e = absurd (omega (arith, s.count, ap length e))

  stuck_unexpected : (F n : ℕ) (toks : List Token) (k number : ℕ) → 0 < k → number + k ≡ length toks → StuckAt (world F n) p (Sized G) toks k → UnexpectedAt (Followed G) toks number
  stuck_unexpected F n toks k number some count s = go s.rest refl
    where
      go : (rest : List Token) → s.rest ≡ rest → UnexpectedAt (Followed G) toks number
      go [] e = absurd (omega (arith, some, s.count, ap length e))
      go (t ∷ rest) e = record {
        front = s.used;
        count = omega (arith, count, s.count, ap length s.cut, length-append s.used s.rest);
        fault = record {
          token = t;
          rest = rest;
          cut = s.cut ∙ ap (λ l. s.used ++ l) e;
          none = λ more x i g. stuck_none F n toks k s (t ∷ more) (sym (ap head e)) x i g;
        };
      }

  deep_means : (F n : ℕ) (toks : List Token) (k number : ℕ) → number + (k + 1) ≡ length toks → DeepAt (world F n) p (Sized G) toks k → TooDeepAt (Followed G) n toks number
  deep_means F n toks k number count d = record {
    front = d.used;
    count = omega (arith, count, d.count, ap length d.cut, length-append d.used (d.last ∷ d.rest));
    fault = record {
      token = d.last;
      rest = d.rest;
      cut = d.cut;
      more = d.goes_on.word;
      tree = d.goes_on.value.0;
      height = d.goes_on.value.1;
      is = record { used = d.used ++ d.last ∷ d.goes_on.word; rest = []; cut = sym (append-nil (d.used ++ d.last ∷ d.goes_on.word)); is = d.goes_on.is; ends = tt };
      high = λ more x h g. high more x h g;
    };
  }
    where
      contradiction : (more : List Token) (x : A) (h : ℕ) → Followed G (d.used ++ d.last ∷ more) x h → h ≤ n → ⊥
      contradiction more x h g low =
          let F' = F + length (d.used ++ d.last ∷ more) + 1 in
          let ok = parsed (d.used ++ d.last ∷ more) x h g F' n low (omega arith) in
          let no = d.again (world F' n) (record { fuel = omega arith; turns = omega arith; depth = omega arith }) refl more in
          let both : ◌≡◌ {A = Outcome (A × ℕ)} (Err (Deep (length more))) (Ok ((x, h), g.rest)) = sym no ∙ ok in
          cc

      high : (more : List Token) (x : A) (h : ℕ) → Followed G (d.used ++ d.last ∷ more) x h → n < h
      high more x h g = let c : h ≤ n → ⊥ = contradiction more x h g in Rattle.std.proofs.Common.lt_of_not-le c

-- ---- over the tokens of a text

-- the last of a list, and what stands before it
last_of : {A : Type 0} (xs ys : List A) (x y : A) → xs ++ x ∷ [] ≡ ys ++ y ∷ [] → xs ≡ ys
last_of [] [] x y e = refl
last_of [] (b ∷ ys) x y e = absurd (let n = ap length e in omega (arith, n, length-append ys (y ∷ [])))
last_of (a ∷ xs) [] x y e = absurd (let n = ap length e in omega (arith, n, length-append xs (x ∷ [])))
last_of (a ∷ xs) (b ∷ ys) x y e = let h : a ≡ b = cc in let t : xs ++ x ∷ [] ≡ ys ++ y ∷ [] = cc in ap₂ (λ z l. z ∷ l) h (last_of xs ys x y t)

pub one_list : (toks : TokenList) (at : ℕ) (l m : List Token) → TokensFrom toks at l → TokensFrom toks at m → l ≡ m
one_list toks at l m a b = a.«from» ∙ ap (drop at) (last_of a.front b.front a.last b.last (sym a.is ∙ b.is)) ∙ sym b.«from»

get_some : {A : Type 0} (xs : List A) (i : ℕ) → i < length xs → (x : A) × (slice_get xs i ≡ Some x)
get_some [] i h = absurd (omega arith)
get_some (x ∷ xs) zero h = (x, refl)
get_some (x ∷ xs) (suc i) h = get_some xs i (omega arith)

pub record Sized200 (toks : TokenList) (at : ℕ) (list : List Token) : Type 0 where
  pub tokens : TokensFrom toks at list
  pub within : at + length list ≡ count toks
  pub some : 0 < length toks.list

pub from_slice : (toks : TokenList) (at : ℕ) (front : List Token) (last : Token) → toks.list ≡ front ++ last ∷ [] → at < length toks.list → Sized200 toks at (drop at front)
from_slice toks at front last is h = record {
  tokens = record { front = front; last = last; is = is; «from» = refl };
  within = omega (arith, ap length is, length-append front (last ∷ []), length-drop at front, h);
  some = omega (arith, h);
}

memory_stops : (toks : TokenList) (e : ParseError) → e ≡ NoMemory → stop_of toks e ≡ stop.NoMemory
unfolding stop_of
memory_stops toks e h = ap (stop_of toks) h

memory_no_fault : (toks : TokenList) (e : ParseError) (f : ParseFault) → stop_of toks e ≡ stop.Fault f → e ≢ NoMemory
memory_no_fault toks e f g = λ h. let both : stop.NoMemory ≡ stop.Fault f = sym (memory_stops toks e h) ∙ g in let z : ⊥ = cc in z

module _ {A : Type 0} (G : Grammar A) (p : Family (A × ℕ)) (complete : CompleteParts G p) (toks : TokenList) (at : ℕ) (list : List Token) (s : Sized200 toks at list) (F : ℕ) (short : length list < F)
    (law : Verdict (world F limit) p (Sized G) list (p (world F limit) list)) where
  verdict : (o : Outcome (A × ℕ)) → p (world F limit) list ≡ o → Verdict (world F limit) p (Sized G) list o
  verdict o e = subst (λ o. Verdict (world F limit) p (Sized G) list o) e law

  -- what is read is the part that stands there
  pub read_part : (x : A) (h : ℕ) (r : List Token) → p (world F limit) list ≡ Ok ((x, h), r) → h ≤ limit → IsPartAt G toks at x (count toks - length r)
  read_part x h r e low = let v = verdict (Ok ((x, h), r)) e in record {
    list = list;
    tokens = s.tokens;
    height = h;
    low = low;
    part = record { used = v.used; rest = r; cut = v.cut; is = v.is; ends = read_ends G p complete F limit list r (x, h) v };
    next_is = omega (arith, s.within, ap length v.cut, length-append v.used r);
  }

  abbrev at_list : (x : A) (next : ℕ) → (q : IsPartAt G toks at x next) → Followed G list x q.height
  at_list x next q = record { used = q.part.used; rest = q.part.rest; cut = one_list toks at list q.list s.tokens q.tokens ∙ q.part.cut; is = q.part.is; ends = q.part.ends }

  -- and nothing else is read
  pub only_part : (x y : A) (h next : ℕ) (r : List Token) → p (world F limit) list ≡ Ok ((y, h), r) → IsPartAt G toks at x next → (y ≡ x) × (count toks - length r ≡ next)
  only_part x y h next r e q =
      let w = at_list x next q in
      let ok = parsed G p complete list x q.height w F limit q.low short in
      let both : ◌≡◌ {A = (A × ℕ) × List Token} ((y, h), r) ((x, q.height), q.part.rest) = cc in
      let rest : r ≡ q.part.rest = ap (λ (o : (A × ℕ) × List Token). o.1) both in
      (ap (λ (o : (A × ℕ) × List Token). o.0.0) both, omega (arith, s.within, ap length w.cut, length-append q.part.used q.part.rest, ap length rest, q.next_is))

  pub never_part : (x : A) (next : ℕ) (e : ParseError) → p (world F limit) list ≡ Err e → IsPartAt G toks at x next → ⊥
  never_part x next e f q =
      let ok = parsed G p complete list x q.height (at_list x next q) F limit q.low short in
      let both : ◌≡◌ {A = Outcome (A × ℕ)} (Err e) (Ok ((x, q.height), q.part.rest)) = sym f ∙ ok in
      cc

  fault_of : (why : ParseReason) (number n : ℕ) → IsFault (Followed G) limit list why number → n ≡ at + number → n < length toks.list → IsPartFault G toks at (record { reason = why; token = n; place = place_of (slice_get toks.list n) })
  fault_of why number n is e small = let g = get_some toks.list n small in record {
    list = list;
    tokens = s.tokens;
    number = number;
    fault_is = is;
    token_is = e;
    token = g.0;
    here = g.1;
    place = ap place_of g.1;
  }

  pub fault_part : (e : ParseError) (f : ParseFault) → p (world F limit) list ≡ Err e → stop_of toks e ≡ stop.Fault f → IsPartFault G toks at f
  unfolding stop_of
  fault_part NoMemory f h g = absurd (verdict (Err NoMemory) h)
  fault_part (Stuck k) f h g = by (k == 0) refl g
    where
      v : StuckAt (world F limit) p (Sized G) list k
      v = verdict (Err (Stuck k)) h

      size : length v.used + k ≡ length list
      size = omega (arith, v.count, ap length v.cut, length-append v.used v.rest)

      by : (b : Bool) → (k == 0) ≡ b → fault_at toks (if b then reason.EndOfText else reason.Unexpected) (count toks - k) ≡ stop.Fault f → IsPartFault G toks at f
      by true z g =
          let none : k ≡ 0 = grind arith in
          let same : record { reason = reason.EndOfText; token = count toks - k; place = place_of (slice_get toks.list (count toks - k)) } ≡ f = cc in
          subst (IsPartFault G toks at) same (fault_of reason.EndOfText (length list) (count toks - k) (refl, stuck_ends G p complete F limit list (subst (λ m. StuckAt (world F limit) p (Sized G) list m) none v)) (omega (arith, s.within, none)) (omega (arith, s.some)))
      by false z g =
          let some : 0 < k = grind arith in
          let same : record { reason = reason.Unexpected; token = count toks - k; place = place_of (slice_get toks.list (count toks - k)) } ≡ f = cc in
          subst (IsPartFault G toks at) same (fault_of reason.Unexpected (length v.used) (count toks - k) (stuck_unexpected G p complete F limit list k (length v.used) some size v) (omega (arith, s.within, size)) (omega (arith, s.some)))
  fault_part (Deep k) f h g =
      let v : DeepAt (world F limit) p (Sized G) list k = verdict (Err (Deep k)) h in
      let size : length v.used + (k + 1) ≡ length list = omega (arith, v.count, ap length v.cut, length-append v.used (v.last ∷ v.rest)) in
      let same : record { reason = reason.Deep; token = count toks - (k + 1); place = place_of (slice_get toks.list (count toks - (k + 1))) } ≡ f = cc in
      subst (IsPartFault G toks at) same (fault_of reason.Deep (length v.used) (count toks - (k + 1)) (deep_means G p complete F limit list k (length v.used) size v) (omega (arith, s.within, size)) (omega (arith, s.some)))

  -- the same of a call that ends with that error
  pub none_at : (e : ParseError) → (e ≢ NoMemory → p (world F limit) list ≡ Err e) → stop_of toks e ≢ stop.NoMemory → (x : A) (next : ℕ) → IsPartAt G toks at x next → ⊥
  none_at e reads some x next q = never_part x next e (reads (λ h. some (memory_stops toks e h))) q

  pub fault_at_error : (e : ParseError) → (e ≢ NoMemory → p (world F limit) list ≡ Err e) → (f : ParseFault) → stop_of toks e ≡ stop.Fault f → IsPartFault G toks at f
  fault_at_error e reads f g = fault_part e f (reads (memory_no_fault toks e f g)) g

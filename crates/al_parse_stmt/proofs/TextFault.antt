-- The fault that the parser of whole texts tells.
use Rattle.std.proofs.Common.{◌≡◌, ◌≢◌, ℕ, zero, suc, ◌+◌, ◌-◌, ◌<◌, ◌≤◌, ◌==◌, if◌then◌else◌, List, [], ◌∷◌, ◌++◌, length, slice_get, Some, Err, refl, sym, ap, ◌∙◌, subst, arith, append_assoc, length-append}
use Rattle.std.proofs.Math.Dec.{eqb-suc-zero}
use Rattle.al_lex.specs.declared.token.Token.{Token}
use Rattle.al_lex.specs.TokenList.{TokenList}
use Rattle.al_tree.specs.Leaves.{leaves_of, names_from}
use Rattle.al_tree.specs.Types.{Leaves}
use Rattle.al_tree.specs.Items.{nothing_declared}
use Rattle.al_tree.specs.Parts.{TokensFrom, place_of, count, fault_at, stop_of}
use Rattle.al_tree.specs.Correct.{IsFault}
use Rattle.al_tree.specs.Tree.{limit, IsTreeOf, IsParseFault}
use Rattle.al_tree.specs.declared.cursor.ParseError.{ParseError}
use Rattle.al_tree.specs.declared.cursor.ParseError.TheVariants.{NoMemory, Stuck, Deep}
use Rattle.al_tree.specs.declared.fault.ParseFault.{ParseFault}
use Rattle.al_tree.specs.declared.fault.ParseReason.{ParseReason}
use Rattle.al_tree.specs.declared.fault.ParseReason.TheVariants as reason
use Rattle.al_tree.specs.declared.fault.ParseStop.TheVariants as stop
use Rattle.al_tree.specs.declared.item.Tree.{Tree}
use Rattle.al_tree.proofs.Law.{World, Above, Family}
use Rattle.al_tree.proofs.Verdicts.{world}
use Rattle.al_parse_stmt.proofs.Outcomes.{IsErr}
use Rattle.al_parse_stmt.specs.Parse as parse
use Rattle.al_parse_stmt.proofs.ItemComplete.{text_c}
use Rattle.al_parse_stmt.proofs.TextJudge.{Sized, More, JudgedText, text_judged}

seen_at : (u : List Token) (t : Token) (more : List Token) → slice_get (u ++ t ∷ more) (length u) ≡ Some t
seen_at [] t more = refl
seen_at (s ∷ u) t more = seen_at u t more

module _ (toks : TokenList) (list : List Token) (tokens : TokensFrom toks 0 list) where
  abbrev L : Leaves
  L = leaves_of toks.text

  abbrev P : Family Sized
  P w = parse.items_from L w.turns w.depth w.fuel nothing_declared [] 0

  all : list ≡ tokens.front
  all = tokens.«from»

  size : count toks ≡ length list
  size = omega (arith, ap length tokens.is, length-append tokens.front (tokens.last ∷ []), ap length all)

  -- what is refused has no tree that is low enough
  no_tree : (F n : ℕ) (ts : List Token) (tree : Tree) (h : ℕ) → length ts < F → h ≤ n + 1 → IsErr (P (world F n) ts) → IsTreeOf toks.text ts tree h → ⊥
  unfolding parse.text_items
  no_tree F n ts tree h short low none t = subst IsErr (text_c L F n t.items low short) none

  grown : (F n F2 n2 : ℕ) → F ≤ F2 → n ≤ n2 → Above (world F n) (world F2 n2)
  grown F n F2 n2 f l = record { fuel = f; turns = f; depth = l }

  -- items are those of a tree
  abbrev tree_of : (ts : List Token) (y : Sized) → More L [] ts y → Tree
  tree_of ts y m = record { names = names_from toks.text [] ts; items = y.0 }

  is_tree : (ts : List Token) (y : Sized) (m : More L [] ts y) → IsTreeOf toks.text ts (tree_of ts y m) y.1
  is_tree ts y m = record { declared = m.after; items = m.is; names = refl }

  -- where the fault is the one at a token of the text
  at_token : (why : ParseReason) (used : List Token) (last : Token) (rest : List Token) (i : ℕ) → list ≡ used ++ last ∷ rest → length used ≡ i
      → IsFault (IsTreeOf toks.text) limit tokens.front why i → IsParseFault toks (record { reason = why; token = i; place = place_of (slice_get toks.list i) })
  at_token why used last rest i cut number is = record {
    before = used;
    token = last;
    after = rest ++ tokens.last ∷ [];
    cut = whole;
    place = ap (λ n. place_of (slice_get toks.list n)) (sym number) ∙ ap (λ l. place_of (slice_get l (length used))) whole ∙ ap place_of (seen_at used last (rest ++ tokens.last ∷ []));
    front = tokens.front;
    last = tokens.last;
    is = tokens.is;
    number = number;
    fault_is = is;
  }
    where
      whole : toks.list ≡ used ++ last ∷ (rest ++ tokens.last ∷ [])
      whole = tokens.is ∙ ap (λ l. l ++ tokens.last ∷ []) (sym all ∙ cut) ∙ append_assoc used (last ∷ rest) (tokens.last ∷ [])

  at_end : (is : IsFault (IsTreeOf toks.text) limit tokens.front reason.EndOfText (length tokens.front)) → IsParseFault toks (record { reason = reason.EndOfText; token = length tokens.front; place = place_of (slice_get toks.list (length tokens.front)) })
  at_end is = record {
    before = tokens.front;
    token = tokens.last;
    after = [];
    cut = tokens.is;
    place = ap (λ l. place_of (slice_get l (length tokens.front))) tokens.is ∙ ap place_of (seen_at tokens.front tokens.last []);
    front = tokens.front;
    last = tokens.last;
    is = tokens.is;
    number = refl;
    fault_is = is;
  }

  unexpected : (m : ℕ) → fault_at toks (if suc m == 0 then reason.EndOfText else reason.Unexpected) (count toks - suc m) ≡ fault_at toks reason.Unexpected (count toks - suc m)
  unexpected m = ap (λ b. fault_at toks (if b then reason.EndOfText else reason.Unexpected) (count toks - suc m)) (eqb-suc-zero m)

  same_fault : (why : ParseReason) (i : ℕ) (f : ParseFault) → fault_at toks why i ≡ stop.Fault f → record { reason = why; token = i; place = place_of (slice_get toks.list i) } ≡ f
  same_fault why i f h = cc

  -- the fault of each outcome
  told : (F : ℕ) → length list < F → (e : ParseError) → JudgedText (world F 199) P (More L []) list (Err e) → (f : ParseFault) → stop_of toks e ≡ stop.Fault f → IsParseFault toks f
  unfolding stop_of
  told F short NoMemory v f g = absurd v
  told F short (Stuck zero) v f g =
      let n : count toks - 0 ≡ length tokens.front = omega (arith, size, ap length all) in
      let same = same_fault reason.EndOfText (length tokens.front) f (ap (fault_at toks reason.EndOfText) (sym n) ∙ g) in
      subst (IsParseFault toks) same (at_end (
        refl,
        record {
          more = v.goes_on.word;
          tree = tree_of (list ++ v.goes_on.word) v.goes_on.value v.goes_on.is;
          height = v.goes_on.value.1;
          is = subst (λ l. IsTreeOf toks.text (l ++ v.goes_on.word) (tree_of (list ++ v.goes_on.word) v.goes_on.value v.goes_on.is) v.goes_on.value.1) all (is_tree (list ++ v.goes_on.word) v.goes_on.value v.goes_on.is);
          none = λ tree h t. no_tree (F + h) (199 + h) list tree h (omega (arith, short)) (omega arith) (v.none (world (F + h) (199 + h)) (grown F 199 (F + h) (199 + h) (omega arith) (omega arith))) (subst (λ l. IsTreeOf toks.text l tree h) (sym all) t);
        },
      ))
  told F short (Stuck (suc m)) v f g =
      let i : length v.used ≡ count toks - suc m = omega (arith, size, v.count, ap length v.cut, length-append v.used (v.last ∷ v.rest)) in
      subst (IsParseFault toks) (same_fault reason.Unexpected (count toks - suc m) f (sym (unexpected m) ∙ g)) (at_token reason.Unexpected v.used v.last v.rest (count toks - suc m) v.cut i (record {
        front = v.used;
        count = i;
        fault = record {
          token = v.last;
          rest = v.rest;
          cut = sym all ∙ v.cut;
          none = λ more tree h t.
              let F2 = F + length (v.used ++ v.last ∷ more) + 1 in
              no_tree F2 (199 + h) (v.used ++ v.last ∷ more) tree h (omega arith) (omega arith) (v.none (world F2 (199 + h)) (grown F 199 F2 (199 + h) (omega arith) (omega arith)) more) t;
        };
      }))
  told F short (Deep m) v f g =
      let i : length v.used ≡ count toks - (m + 1) = omega (arith, size, v.count, ap length v.cut, length-append v.used (v.last ∷ v.rest)) in
      subst (IsParseFault toks) (same_fault reason.Deep (count toks - (m + 1)) f g) (at_token reason.Deep v.used v.last v.rest (count toks - (m + 1)) v.cut i (record {
        front = v.used;
        count = i;
        fault = record {
          token = v.last;
          rest = v.rest;
          cut = sym all ∙ v.cut;
          more = v.goes_on.word;
          tree = tree_of (v.used ++ v.last ∷ v.goes_on.word) v.goes_on.value v.goes_on.is;
          height = v.goes_on.value.1;
          is = is_tree (v.used ++ v.last ∷ v.goes_on.word) v.goes_on.value v.goes_on.is;
          high = λ more tree h t. high v.used v.last (λ w' ab same more. v.none w' ab same more) more tree h t;
        };
      }))
    where
      high : (used : List Token) (last : Token) → ((w' : World) → Above (world F 199) w' → 199 ≡ w'.depth → (more : List Token) → IsErr (P w' (used ++ last ∷ more))) → (more : List Token) (tree : Tree) (h : ℕ) → IsTreeOf toks.text (used ++ last ∷ more) tree h → limit < h
      high used last none more tree h t = Rattle.std.proofs.Common.lt_of_not-le too_low
        where
          too_low : h ≤ limit → ⊥
          too_low low =
              let F2 = F + length (used ++ last ∷ more) + 1 in
              no_tree F2 199 (used ++ last ∷ more) tree h (omega arith) (omega (arith, low)) (none (world F2 199) (grown F 199 F2 199 (omega arith) (omega arith)) refl more) t

  memory_stops : (e : ParseError) → e ≡ NoMemory → stop_of toks e ≡ stop.NoMemory
  unfolding stop_of
  memory_stops e h = ap (stop_of toks) h

  -- the same of a call that ends with that error
  pub fault_error : (F : ℕ) → length list < F → (e : ParseError) → (e ≢ NoMemory → parse.text_items L F 199 list ≡ Err e) → (f : ParseFault) → stop_of toks e ≡ stop.Fault f → IsParseFault toks f
  fault_error F short e reads f g =
      let read = reads (λ h. let both : stop.NoMemory ≡ stop.Fault f = sym (memory_stops e h) ∙ g in let z : ⊥ = cc in z) in
      told F short e (subst (JudgedText (world F 199) P (More L []) list) read (text_judged L F 199 list short)) f g

-- Receives, sends, and whether they could go at once.
use Rattle.std.proofs.Common.{◌≡◌, ℕ, zero, suc, ◌+◌, ◌*◌, ◌%◌, ◌^◌, ◌<◌, List, [], ◌∷◌, ◌++◌, length, drop, Option, Some, None, refl, sym, ap, ◌∙◌, subst, inl, ⊎_elim, arith, length-append}
use Rattle.std.specs.Prelude.{Bool, true, false, slice_get, slice_index}
use Rattle.std.proofs.Math.Nat.{mod-mod}
use Rattle.al_event.specs.declared.act.Act.TheVariants as act
use Rattle.al_event.specs.declared.act.Branch.{Branch as ActBranch}
use Rattle.al_world.specs.Control.{cut, received_by}
use Rattle.al_typed.specs.declared.layout.Unit.{Unit as StorageUnit}
use Rattle.al_typed.specs.declared.ty.Ty.{Ty}
use Rattle.al_typed.specs.Types.{is_void, is_array}
use Rattle.al_meaning.specs.Words.{fitted_to, truth}
use Rattle.al_meaning.specs.Here.{units_in}
use Rattle.al_meaning.specs.Evaluate.{receiving}
use Rattle.al_meaning.specs.Tasks.{Still, Env, Rest, Task, ask_in}
use Rattle.al_meaning.specs.Told.{value}
use Rattle.al_ir.specs.declared.op.Op.TheVariants.{CanRecv, CanSend, Talk}
use Rattle.al_ir.specs.Control.{Slots, put, put_all, forget}
use Rattle.al_lower_words.specs.Units.{AreOf}
use Rattle.al_lower_words.proofs.Integers.{length_of, words_are, one_word, one_fits}
use Rattle.al_lower_code.specs.Homes.{here}
use Rattle.al_lower_code.specs.Moving.{moves, trims}
use Rattle.al_lower_code.specs.Coded.{Coded, operand_slot, operand_code}
use Rattle.al_lower_code.specs.Actions.{receives_from, receive_coded, can_receive_coded, can_send_coded}
use Rattle.al_lower_steps.specs.Slots.{Holds, Below, Outside}
use Rattle.al_lower_steps.proofs.Slots.{put_below, put_all_below, put_all_holds, forget_outside, put_same, put_outside}
use Rattle.al_lower_steps.proofs.Steps.{moved, comes_out, has_front, has_back}
use Rattle.al_lower_steps.proofs.Actions.{Received, talk_does, can_recv_does, can_send_does as send_asked}
use Rattle.al_lower_claims.proofs.Moving.{CanCopy, AreWords, moves_do, trims_do}
use Rattle.al_lower_claims.proofs.Variables.{Stays, stays_both, stays_below, vars_kept, put_outside_is}
use Rattle.al_lower_claims.proofs.Claims.{Setting, scene, site, spot, Run, HasVars, UnitsOf, count_of, IsWord, GoesOn, CodedDoes}
use Rattle.al_lower_claims.proofs.Operands.{operand_does}
use Rattle.al_lower_claims.proofs.Plain.{plain_does, valued_does}
use Rattle.al_lower_actions.proofs.Assigning.{behind, can_copy}

cut_length : (n m : ℕ) (ws : List ℕ) → length (cut n m ws) ≡ n
cut_length zero m ws = refl
cut_length (suc n) m [] = ap suc (cut_length n m [])
cut_length (suc n) m (w ∷ ws) = ap suc (cut_length n m ws)

cut_words : (n : ℕ) (ws : List ℕ) → AreWords (cut n (2 ^ 32) ws)
cut_words zero ws = tt
cut_words (suc n) [] = (omega arith, cut_words n [])
cut_words (suc n) (w ∷ ws) = ((let q : w % 2 ^ 32 < 2 ^ 32 = omega arith in q), cut_words n ws)

fitted_twice : (us : List StorageUnit) (v : List ℕ) → AreOf us (fitted_to us v)
fitted_twice [] v = refl
fitted_twice (u ∷ us) v = rw (mod-mod (slice_index v 0) (256 ^ u.size), fitted_twice us (drop 1 v)) refl

no_list : (b : ActBranch) (bs : List ActBranch) → b ∷ bs ≡ [] → ⊥
no_list b bs e = cc

-- of one branch, that is what it receives
first_received : (b : ActBranch) (i : ℕ) (words : List ℕ) → Received (b ∷ []) i words → (given : List ℕ) × (words ≡ cut (received_by (Some b)) (2 ^ 32) given)
first_received b i words r = (r.given, r.is ∙ ap (λ j. cut (received_by (slice_get (b ∷ []) j)) (2 ^ 32) r.given) (⊎_elim (λ e. absurd (no_list b [] e)) (λ lt. let z : i ≡ 0 = omega (arith, lt) in z) r.known))

bit : (w : ℕ) → w % 2 ≡ w → (b : Bool) × (w ∷ [] ≡ truth b)
bit zero e = (false, refl)
bit (suc zero) e = (true, refl)
bit (suc (suc n)) e = absurd (omega (arith, e))

module _ (k : Setting) {m : Task (Option (List ℕ))} {u : Ty} {chan : Coded} (word : IsWord k u) (h : CodedDoes k m u chan) where
  -- ---- receive

  abbrev pub receive_means : Ty → Task (Option (List ℕ))
  receive_means t env s next = value m env s (λ c env s. ask_in k.ways.line (act.Talk (receiving k.ways.program t (slice_index c 0) ∷ [])) s (λ words s. next (Some (fitted_to (units_in k.ways.program t) (drop 1 words))) env s))

  pub receive_does : (t : Ty) → is_void t ≡ false → is_array t ≡ false → CodedDoes k (receive_means t) t (receive_coded (spot k) t chan)
  receive_does t nv na = valued_does k chan.keeps (λ dest to. operand_code chan to ++ (here (spot k) (Talk (receives_from (operand_slot chan to) (count_of k t) ∷ []) (to + 2) (to + 1) (to + 6)) ++ (trims k.ways.line (to + 6) (units_in k.ways.program t) ++ moves k.ways.line dest (to + 6) (count_of k t)))) (record {
    by = λ dest to pc slots last env s next d room vars has go.
        let n = count_of k t in
        let us = units_in k.ways.program t in
        let ca = operand_code chan to in
        let cb = here (spot k) (Talk (receives_from (operand_slot chan to) n ∷ []) (to + 2) (to + 1) (to + 6)) in
        let cc2 = trims k.ways.line (to + 6) us in
        let cd = moves k.ways.line dest (to + 6) n in
        let back = has_back (site k) pc ca (cb ++ (cc2 ++ cd)) has in
        operand_does k h word.not_void to pc slots last env s (λ c env s. ask_in k.ways.line (act.Talk (receiving k.ways.program t (slice_index c 0) ∷ [])) s (λ words s. next (Some (fitted_to us (drop 1 words))) env s)) room vars (has_front (site k) pc ca (cb ++ (cc2 ++ cd)) has) (λ c env2 s now1 last1 fc vars1 st1 hc same.
        let one = one_word 0 c (subst (λ us. AreOf us c) word.units fc) in
        let there : now1 (operand_slot chan to) ≡ Some one.word = (subst (Holds now1 (operand_slot chan to)) one.is hc).0 in
        let asked : List ActBranch = receiving k.ways.program t one.word ∷ [] in
        comes_out (site k) (ap (λ c. ask_in k.ways.line (act.Talk (receiving k.ways.program t (slice_index c 0) ∷ [])) s (λ words s. next (Some (fitted_to us (drop 1 words))) env2 s)) one.is)
        (talk_does (site k) asked (λ words s. next (Some (fitted_to us (drop 1 words))) env2 s) back.0 (rw there refl) (λ i words s r.
        let got = first_received (receiving k.ways.program t one.word) i words r in
        let count : length words ≡ length us = ap length got.1 ∙ (cut_length n (2 ^ 32) got.0 ∙ words_are k.ways.program t na) in
        let small : AreWords words = subst AreWords (sym got.1) (cut_words n got.0) in
        let ready : Slots = forget (to + 2) (4 * 1) now1 in
        let now2 : Slots = put_all (to + 6) words (put (to + 1) i ready) in
        let below1 : Below to ready now1 = λ j lt. forget_outside now1 (to + 2) (4 * 1) j (inl (omega (arith, lt))) in
        let below2 : Below to now2 now1 = λ j lt. put_all_below words (to + 6) (put (to + 1) i ready) j (omega (arith, lt)) ∙ put_below ready now1 (to + 1) i to (omega arith) below1 j lt in
        let p1 : pc + length ca + 1 ≡ pc + length ca + 1 = refl in
        trims_do (site k) us words k.ways.line (to + 6) (pc + length ca + 1) now2 last1 s _ count small (has_front (site k) (pc + length ca + 1) cc2 cd back.1) (put_all_holds words (to + 6) (put (to + 1) i ready)) (λ now3 out3 holds3.
        let below3 : Below to now3 now1 = λ j lt. out3 j (inl (omega (arith, lt))) ∙ below2 j lt in
        let vars3 = vars_kept (scene k) env2 to now3 now1 room below3 vars1 in
        let ws = fitted_to us words in
        let fits : UnitsOf k t ws = fitted_twice us words in
        let n_is : n ≡ length ws = words_are k.ways.program t na ∙ sym (length_of _ _ fits) in
        moves_do (site k) ws n k.ways.line dest (to + 6) (pc + length ca + 1 + length cc2) now3 last1 s _ n_is (has_back (site k) (pc + length ca + 1) cc2 cd back.1) holds3 (subst (CanCopy (to + 6) dest) n_is (can_copy k n (to + 6) dest to (behind (omega arith)) d room)) (λ now4 out4 holds4.
        let end : pc + length ca + 1 + length cc2 + length cd ≡ pc + length (ca ++ (cb ++ (cc2 ++ cd))) = omega (arith, length-append ca (cb ++ (cc2 ++ cd)), length-append cc2 cd) in
        moved (site k) end (go (Some ws) env2 s now3 now4 last1 (nv, fits) vars3 (stays_both (scene k) to to now3 now1 slots (omega arith) (stays_below (scene k) to now3 now1 below3) st1) (put_outside_is n dest to now4 now3 (subst (λ q. Outside dest q now4 now3) (sym n_is) out4)) holds4 same (λ e. absurd (cc))))))));
  })

  -- ---- whether they could go

  abbrev pub can_receive_means : Task (Option (List ℕ))
  can_receive_means env s next = value m env s (λ c env s. ask_in k.ways.line (act.CanRecv (slice_index c 0)) s (λ words s. next (Some words) env s))

  abbrev pub can_send_means : Task (Option (List ℕ))
  can_send_means env s next = value m env s (λ c env s. ask_in k.ways.line (act.CanSend (slice_index c 0)) s (λ words s. next (Some words) env s))

  bit_goes : (t : Ty) → IsWord k t → (dest to end w : ℕ) (slots now last : Slots) (env env2 : Env) (s : Still) (next : Option (List ℕ) → Rest) → w % 2 ≡ w → HasVars k env2 now → Stays (scene k) to now slots → (chan.keeps ≡ true → env2 ≡ env) → GoesOn k t chan.keeps true env slots next dest to end → Run k (next (Some (w ∷ [])) env2 s) end (put dest w now) last s
  bit_goes t wt dest to end w slots now last env env2 s next small vars st same go =
      let fits : UnitsOf k t (w ∷ []) = subst (λ us. AreOf us (w ∷ [])) (sym wt.units) (one_fits 0 w (omega (arith, small))) in
      go (Some (w ∷ [])) env2 s now (put dest w now) last (wt.not_void, fits) vars st (put_outside_is (count_of k t) dest to (put dest w now) now (subst (λ n. Outside dest n (put dest w now) now) (sym wt.counts) (put_outside dest w now))) (put_same now dest w, tt) same (λ e. bit w small)

  pub can_receive_does : (t : Ty) → IsWord k t → CodedDoes k can_receive_means t (can_receive_coded (spot k) t chan)
  can_receive_does t wt = plain_does k None chan.keeps true (λ dest to. operand_code chan to ++ here (spot k) (CanRecv dest (operand_slot chan to))) (record {
    by = λ dest to pc slots last env s next d room vars has go.
        let ca = operand_code chan to in
        let cb = here (spot k) (CanRecv dest (operand_slot chan to)) in
        let end : pc + length ca + 1 ≡ pc + length (ca ++ cb) = omega (arith, length-append ca cb) in
        operand_does k h word.not_void to pc slots last env s (λ c env s. ask_in k.ways.line (act.CanRecv (slice_index c 0)) s (λ words s. next (Some words) env s)) room vars (has_front (site k) pc ca cb has) (λ c env2 s now last1 fc vars1 st1 hc same.
        let one = one_word 0 c (subst (λ us. AreOf us c) word.units fc) in
        let there : now (operand_slot chan to) ≡ Some one.word = (subst (Holds now (operand_slot chan to)) one.is hc).0 in
        comes_out (site k) (ap (λ c. ask_in k.ways.line (act.CanRecv (slice_index c 0)) s (λ words s. next (Some words) env2 s)) one.is)
        (can_recv_does (site k) (λ words s. next (Some words) env2 s) (has_back (site k) pc ca cb has).0 there (λ w s small.
        moved (site k) end (bit_goes t wt dest to (pc + length (ca ++ cb)) w slots now last1 env env2 s next small vars1 st1 same go))));
  }) (λ slot e. absurd (cc))

  pub can_send_does : (t : Ty) → IsWord k t → CodedDoes k can_send_means t (can_send_coded (spot k) t chan)
  can_send_does t wt = plain_does k None chan.keeps true (λ dest to. operand_code chan to ++ here (spot k) (CanSend dest (operand_slot chan to))) (record {
    by = λ dest to pc slots last env s next d room vars has go.
        let ca = operand_code chan to in
        let cb = here (spot k) (CanSend dest (operand_slot chan to)) in
        let end : pc + length ca + 1 ≡ pc + length (ca ++ cb) = omega (arith, length-append ca cb) in
        operand_does k h word.not_void to pc slots last env s (λ c env s. ask_in k.ways.line (act.CanSend (slice_index c 0)) s (λ words s. next (Some words) env s)) room vars (has_front (site k) pc ca cb has) (λ c env2 s now last1 fc vars1 st1 hc same.
        let one = one_word 0 c (subst (λ us. AreOf us c) word.units fc) in
        let there : now (operand_slot chan to) ≡ Some one.word = (subst (Holds now (operand_slot chan to)) one.is hc).0 in
        comes_out (site k) (ap (λ c. ask_in k.ways.line (act.CanSend (slice_index c 0)) s (λ words s. next (Some words) env2 s)) one.is)
        (send_asked (site k) (λ words s. next (Some words) env2 s) (has_back (site k) pc ca cb has).0 there (λ w s small.
        moved (site k) end (bit_goes t wt dest to (pc + length (ca ++ cb)) w slots now last1 env env2 s next small vars1 st1 same go))));
  }) (λ slot e. absurd (cc))

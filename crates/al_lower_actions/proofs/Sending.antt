-- Sends, and the end of the program.
use Rattle.std.proofs.Common.{◌≡◌, ℕ, ◌+◌, ◌*◌, List, [], ◌∷◌, ◌++◌, length, Option, Some, None, refl, sym, ap, ◌∙◌, subst, inl, arith, length-append}
use Rattle.std.specs.Prelude.{true, false, ◌&&◌, slice_index}
use Rattle.std.specs.Int.{cast_signed, w32}
use Rattle.al_event.specs.declared.act.Act.TheVariants as act
use Rattle.al_event.specs.declared.act.Branch.{Branch as ActBranch}
use Rattle.al_typed.specs.declared.ty.Ty.{Ty}
use Rattle.al_typed.specs.Types.{is_void, is_array}
use Rattle.al_meaning.specs.Evaluate.{sending}
use Rattle.al_meaning.specs.Tasks.{Task, ask_in, stop_in}
use Rattle.al_meaning.specs.Told.{value}
use Rattle.al_ir.specs.declared.op.Op.TheVariants.{Talk, Terminate}
use Rattle.al_ir.specs.Control.{Slots, put, put_all, forget, words_at}
use Rattle.al_lower_words.specs.Units.{AreOf}
use Rattle.al_lower_words.proofs.Integers.{length_of, words_are, one_word}
use Rattle.al_lower_code.specs.Homes.{here}
use Rattle.al_lower_code.specs.Coded.{Coded, operand_slot, operand_code, first_slot}
use Rattle.al_lower_code.specs.Values.{pair_code}
use Rattle.al_lower_code.specs.Actions.{sends_to, send_coded, terminate_coded}
use Rattle.al_lower_steps.specs.Slots.{Holds, Below}
use Rattle.al_lower_steps.proofs.Slots.{put_below, put_all_below, forget_outside, words_held_of}
use Rattle.al_lower_steps.proofs.Steps.{moved, comes_out, has_front, has_back}
use Rattle.al_lower_steps.proofs.Actions.{talk_does, terminate_does}
use Rattle.al_lower_claims.proofs.Variables.{stays_both, stays_below, vars_kept}
use Rattle.al_lower_claims.proofs.Claims.{Setting, scene, site, spot, count_of, IsWord, CodedDoes}
use Rattle.al_lower_claims.proofs.Operands.{operand_does, pair_does}
use Rattle.al_lower_claims.proofs.Plain.{valued_does}

module _ (k : Setting) {m : Task (Option (List ℕ))} {u : Ty} {c : Coded} (word : IsWord k u) (h : CodedDoes k m u c) where
  abbrev pub send_means : Task (Option (List ℕ)) → Ty → Task (Option (List ℕ))
  send_means o v env s next = value m env s (λ c env s. value o env s (λ x env s. ask_in k.ways.line (act.Talk (sending k.ways.program v (slice_index c 0) x ∷ [])) s (λ words s. next None env s)))

  pub send_does : {o : Task (Option (List ℕ))} {d : Coded} (t v : Ty) → is_void t ≡ true → is_void v ≡ false → is_array v ≡ false → CodedDoes k o v d → CodedDoes k (send_means o v) t (send_coded (spot k) t v c d)
  send_does {o} {d} t v void nv na hd = valued_does k (c.keeps && d.keeps) (λ dest to. pair_code 1 c d to ++ here (spot k) (Talk (sends_to (first_slot c d to) (count_of k v) (operand_slot d (to + 1)) ∷ []) (to + 1 + count_of k v + 1) (to + 1 + count_of k v) (to + 1 + count_of k v))) (record {
    by = λ dest to pc slots last env s next d2 room vars has go.
        let n = count_of k v in
        let branch = to + 1 + n in
        let ca = pair_code 1 c d to in
        let cb = here (spot k) (Talk (sends_to (first_slot c d to) n (operand_slot d (to + 1)) ∷ []) (branch + 1) branch branch) in
        pair_does k h hd word.not_void nv 1 (sym (ap length word.units)) to pc slots last env s (λ c x env s. ask_in k.ways.line (act.Talk (sending k.ways.program v (slice_index c 0) x ∷ [])) s (λ words s. next None env s)) room vars (has_front (site k) pc ca cb has) (λ q x env2 s now last2 fq fx vars2 st2 hq hx same.
        let one = one_word 0 q (subst (λ us. AreOf us q) word.units fq) in
        let there : now (first_slot c d to) ≡ Some one.word = (subst (Holds now (first_slot c d to)) one.is hq).0 in
        let held : words_at now (operand_slot d (to + 1)) n ≡ Some x = words_held_of x (operand_slot d (to + 1)) n now (length_of _ _ fx ∙ sym (words_are k.ways.program v na)) hx in
        let asked : List ActBranch = sending k.ways.program v one.word x ∷ [] in
        let end : pc + length ca + 1 ≡ pc + length (ca ++ cb) = omega (arith, length-append ca cb) in
        comes_out (site k) (ap (λ q. ask_in k.ways.line (act.Talk (sending k.ways.program v (slice_index q 0) x ∷ [])) s (λ words s. next None env2 s)) one.is)
        (talk_does (site k) asked (λ words s. next None env2 s) (has_back (site k) pc ca cb has).0 (rw (there, held) refl) (λ i words s r.
        let ready : Slots = forget (branch + 1) (4 * 1) now in
        let now2 : Slots = put_all branch words (put branch i ready) in
        let below1 : Below to ready now = λ j lt. forget_outside now (branch + 1) (4 * 1) j (inl (omega (arith, lt))) in
        let below2 : Below to now2 now = λ j lt. put_all_below words branch (put branch i ready) j (omega (arith, lt)) ∙ put_below ready now branch i to (omega arith) below1 j lt in
        moved (site k) end (go None env2 s now2 now2 last2 void (vars_kept (scene k) env2 to now2 now room below2 vars2) (stays_both (scene k) to to now2 now slots (omega arith) (stays_below (scene k) to now2 now below2) st2) (λ j lt a. refl) tt same (λ e. absurd (cc))))));
  })

  abbrev pub terminate_means : Task (Option (List ℕ))
  terminate_means env s next = value m env s (λ n env s. stop_in k.ways.line (act.Terminate (cast_signed w32 (slice_index n 0))) s)

  pub terminates : (t : Ty) → CodedDoes k terminate_means t (terminate_coded (spot k) t c)
  terminates t = valued_does k c.keeps (λ dest to. operand_code c to ++ here (spot k) (Terminate (operand_slot c to))) (record {
    by = λ dest to pc slots last env s next d2 room vars has go.
        let ca = operand_code c to in
        let cb = here (spot k) (Terminate (operand_slot c to)) in
        operand_does k h word.not_void to pc slots last env s (λ n env s. stop_in k.ways.line (act.Terminate (cast_signed w32 (slice_index n 0))) s) room vars (has_front (site k) pc ca cb has) (λ n env2 s now last2 fn vars2 st2 hn same.
        let one = one_word 0 n (subst (λ us. AreOf us n) word.units fn) in
        comes_out (site k) (ap (λ n. stop_in k.ways.line (act.Terminate (cast_signed w32 (slice_index n 0))) s) one.is)
        (terminate_does (site k) (has_back (site k) pc ca cb has).0 (subst (Holds now (operand_slot c to)) one.is hn).0));
  })

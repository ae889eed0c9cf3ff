-- Members and elements of places.
use Rattle.std.proofs.Common.{◌≡◌, ℕ, ◌+◌, ◌*◌, ◌%◌, ◌^◌, List, [], ◌∷◌, ◌++◌, length, Option, Some, None, refl, sym, ap, ◌∙◌, subst, le_refl, arith, length-append}
use Rattle.std.specs.Prelude.{Bool, true, false, ◌==◌, not, if◌then◌else◌}
use Rattle.std.proofs.lemmas.Grind.{common_steps}
use Rattle.al_typed.specs.declared.ty.Ty.{Ty}
use Rattle.al_meaning.specs.Words.{bits_of, sum, stepped_by, integer_words}
use Rattle.al_meaning.specs.Shown.{kind_of}
use Rattle.al_meaning.specs.Items.{Found, Words, Address, Local, Private, Nowhere}
use Rattle.al_meaning.specs.Tasks.{Still, Outcome, Env, Rest, Task}
use Rattle.al_meaning.specs.Told.{value, needed, at_address}
use Rattle.al_ir.specs.declared.op.Op.TheVariants.{Offset, Advance}
use Rattle.al_ir.specs.Control.{Slots, put}
use Rattle.al_lower_words.specs.Units.{AreOf}
use Rattle.al_lower_words.proofs.Integers.{one_word}
use Rattle.al_lower_code.specs.Homes.{here}
use Rattle.al_lower_code.specs.Moving.{Where, Stored, Slotted, Kept, home_of, moved_by, settles, settled}
use Rattle.al_lower_code.specs.Coded.{Coded, Placed, operand_slot, operand_code}
use Rattle.al_lower_code.specs.Values.{member_placed, pointed_placed, element_by, element_placed}
use Rattle.al_lower_steps.specs.Slots.{Holds, Below}
use Rattle.al_lower_steps.proofs.Slots.{put_same, put_below, below_refl}
use Rattle.al_lower_steps.proofs.Steps.{moved, comes_out, has_front, has_back}
use Rattle.al_lower_steps.proofs.Plain.{offset_does, advance_does}
use Rattle.al_lower_claims.proofs.Storing.{sum_sum}
use Rattle.al_lower_claims.proofs.Variables.{Stays, stays_below, stays_refl, more_room, vars_kept}
use Rattle.al_lower_claims.proofs.Claims.{Setting, scene, site, spot, Run, Has, HasVars, HasRoom, IsWord, word_is_address, Leads, own, PointsBy, CodedDoes, FoundAt, stored, slotted, PlacedDoes}
use Rattle.al_lower_claims.proofs.Operands.{both_true, operand_does}
use Rattle.al_lower_values.proofs.Loads.{HasAddresses}
use Rattle.al_lower_actions.proofs.Assigning.{not_false, word_there}

moved_home : (n : ℕ) (at : Where) (slot : ℕ) → home_of (moved_by n at) ≡ Some slot → home_of at ≡ Some slot
moved_home n (Stored a b) slot e = absurd (cc)
moved_home n (Slotted a) slot e = e
moved_home n (Kept a) slot e = absurd (cc)

no_slot : (a b slot : ℕ) → home_of (Stored a b) ≡ Some slot → ⊥
no_slot a b slot e = cc

no_address : (n : ℕ) → (a : ℕ) × (Local n ≡ Address a) → ⊥
no_address n x = let q = x.1 in cc

no_private : (n : ℕ) → (a : ℕ) × (Private n ≡ Address a) → ⊥
no_private n x = let q = x.1 in cc

sum_none : (a x : ℕ) → sum a (sum 0 x) ≡ sum a x
sum_none a x = omega arith

sum_small : (a b : ℕ) → sum (sum a b) 0 ≡ sum a b
sum_small a b = omega arith

sum_cut : (a n : ℕ) → sum a n ≡ sum a (n % 2 ^ 32)
sum_cut a n = omega arith

module _ (k : Setting) where
  -- ---- members

  abbrev pub member_means : Task Found → ℕ → Task Found
  member_means m n env s next = m env s (λ fd env s. at_address fd env s (λ a env s. next (Address (sum a n)) env s))

  pub member_does : {m : Task Found} (t u : Ty) (n : ℕ) (pl : Placed) → HasAddresses k u → PlacedDoes k m u pl → PlacedDoes k (member_means m n) t (member_placed n pl)
  member_does {m} t u n pl has_address h = record {
    by = λ lasting to pc slots last env s next room vars has go.
        h.by lasting to pc slots last env s (λ fd env s. at_address fd env s (λ a env s. next (Address (sum a n)) env s)) room vars has (λ fd env2 s now last2 found vars2 st2 same.
        on lasting to (pc + length (pl.code lasting to)) now last2 fd (pl.at lasting to) env2 s next found (λ a at. go (Address (sum a n)) env2 s now last2 at vars2 st2 same));
    local = λ lasting to slot e.
        let lp = h.local lasting to slot (moved_home n (pl.at lasting to) slot e) in
        absurd (no_address lp.number (has_address lasting to (λ i. None) (pl.at lasting to) (Local lp.number) (slotted lp.row lp.local lp.type (lp.at lasting to ∙ ap Slotted lp.is))));
  }
    where
      on : (lasting : Bool) (to end : ℕ) (now last : Slots) (fd : Found) (at : Where) (env : Env) (s : Still) (next : Found → Rest) → FoundAt k u lasting to now at fd → ((a : ℕ) → FoundAt k t lasting to now (moved_by n at) (Address (sum a n)) → Run k (next (Address (sum a n)) env s) end now last s) → Run k (at_address fd env s (λ a env s. next (Address (sum a n)) env s)) end now last s
      on lasting to end now last (Address a) at env s next (stored slot offset w e there is leads) go = go a (stored slot (sum offset n) w (ap (moved_by n) e) there (ap (λ a. sum a n) is ∙ sum_sum w offset n) leads)
      on lasting to end now last (Local i) at env s next x go = absurd (no_address i (has_address lasting to now at (Local i) x))
      on lasting to end now last (Private i) at env s next x go = absurd (no_private i (has_address lasting to now at (Private i) x))
      on lasting to end now last (Words _) at env s next x go = elim x [ ]
      on lasting to end now last Nowhere at env s next x go = elim x [ ]

  -- ---- elements

  module _ {m o : Task (Option (List ℕ))} {t u : Ty} {base index : Coded} (size : ℕ) (wt : IsWord k t) (wu : IsWord k u) (words : (bits : ℕ) → index.known ≡ Some bits → integer_words (kind_of u) bits ≡ bits ∷ []) (hb : CodedDoes k m t base) (hi : CodedDoes k o u index) where
    abbrev pub element_means : Task Found
    element_means env s next = value m env s (λ a env s. value o env s (λ n env s. next (Address (stepped_by false size (bits_of a) (bits_of n))) env s))

    -- a constant index
    known_element : (v : Ty) (n : ℕ) → index.known ≡ Some n → PlacedDoes k element_means v (pointed_placed (n * size % 2 ^ 32) base)
    known_element v n e = record {
      by = λ lasting to pc slots last env s next room vars has go.
          let offset = n * size % 2 ^ 32 in
          let constant = hi.known n e in
          (hb.pointer (word_is_address k t wt)).by lasting to pc slots last env s (λ a env s. value o env s (λ i env s. next (Address (stepped_by false size (bits_of a) (bits_of i))) env s)) room vars has (λ a env2 s now last2 small fit p vars2 st2 same.
          let bits : bits_of (integer_words (kind_of u) n) ≡ n = ap bits_of (words n e) in
          comes_out (site k) (constant.means env2 s (λ q env s. needed q env s (λ i env s. next (Address (stepped_by false size a (bits_of i))) env s)))
          (comes_out (site k) (ap (λ i. next (Address (stepped_by false size a i)) env2 s) bits)
          (go (Address (sum a (n * size))) env2 s now last2 (stored p.slot (sum p.offset offset) p.word (ap (moved_by offset) p.is) p.there (sum_cut a (n * size) ∙ p.same offset) p.leads) vars2 st2 (λ q. same q))));
      local = λ lasting to slot q. absurd (hb.stored (word_is_address k t wt) lasting to slot (moved_home (n * size % 2 ^ 32) (base.leads lasting to) slot q));
    }

    -- the address without an offset, in a slot
    settles_do : (lasting : Bool) (to pc : ℕ) (a : ℕ) (now last : Slots) (env : Env) (s : Still) (out : Outcome) (at : Where) → PointsBy k lasting to now at a → HasRoom k to → HasVars k env now → Has k pc (settles (spot k) at to) → ((now2 : Slots) (word : ℕ) → HasVars k env now2 → Stays (scene k) to now2 now → Leads k lasting (settled at to) to → now2 (settled at to) ≡ Some word → ((x : ℕ) → sum a x ≡ sum word x) → Run k out (pc + length (settles (spot k) at to)) now2 last s) → Run k out pc now last s
    settles_do lasting to pc a now last env s out at p room vars has go = on at p.is has go
      where
        by : (b : Bool) → (p.offset == 0) ≡ b → Has k pc (if b then [] else here (spot k) (Offset to p.slot p.offset)) → ((now2 : Slots) (word : ℕ) → HasVars k env now2 → Stays (scene k) to now2 now → Leads k lasting (if b then p.slot else to) to → now2 (if b then p.slot else to) ≡ Some word → ((x : ℕ) → sum a x ≡ sum word x) → Run k out (pc + length (if b then [] else here (spot k) (Offset to p.slot p.offset))) now2 last s) → Run k out pc now last s
        by true e has go =
            let z : pc ≡ pc + 0 = omega arith in
            let zero : p.offset ≡ 0 = grind (arith, common_steps, e) in
            moved (site k) z (go now p.word vars (stays_refl (scene k) to now) p.leads p.there (λ x. p.same x ∙ (ap (λ q. sum p.word (sum q x)) zero ∙ sum_none p.word x)))
        by false e has go =
            let w = sum p.word p.offset in
            let below : Below to (put to w now) now = put_below now now to w to (le_refl to) (below_refl to now) in
            offset_does (site k) has.0 p.there (go (put to w now) w (vars_kept (scene k) env to (put to w now) now room below vars) (stays_below (scene k) to (put to w now) now below) (own refl) (put_same now to w) (λ x. p.same x ∙ sym (sum_sum p.word p.offset x)))

        on : (at : Where) → at ≡ Stored p.slot p.offset → Has k pc (settles (spot k) at to) → ((now2 : Slots) (word : ℕ) → HasVars k env now2 → Stays (scene k) to now2 now → Leads k lasting (settled at to) to → now2 (settled at to) ≡ Some word → ((x : ℕ) → sum a x ≡ sum word x) → Run k out (pc + length (settles (spot k) at to)) now2 last s) → Run k out pc now last s
        on at e has go =
            subst (λ at. Has k pc (settles (spot k) at to) → ((now2 : Slots) (word : ℕ) → HasVars k env now2 → Stays (scene k) to now2 now → Leads k lasting (settled at to) to → now2 (settled at to) ≡ Some word → ((x : ℕ) → sum a x ≡ sum word x) → Run k out (pc + length (settles (spot k) at to)) now2 last s) → Run k out pc now last s) (sym e) (λ has go. by (p.offset == 0) refl has go) has go

    computed_element : (v : Ty) → PlacedDoes k element_means v (element_by (spot k) size base index)
    computed_element v = record {
      by = λ any to pc slots last env s next room vars has go.
          let lasting = not index.keeps in
          let at = base.leads lasting to in
          let ca = base.pointer lasting to in
          let cb = settles (spot k) at to in
          let cc2 = operand_code index (to + 1) in
          let cd = here (spot k) (Advance false size to (settled at to) (operand_slot index (to + 1))) in
          let back = has_back (site k) pc ca (cb ++ (cc2 ++ cd)) has in
          let back2 = has_back (site k) (pc + length ca) cb (cc2 ++ cd) back in
          (hb.pointer (word_is_address k t wt)).by lasting to pc slots last env s (λ a env s. value o env s (λ i env s. next (Address (stepped_by false size (bits_of a) (bits_of i))) env s)) room vars (has_front (site k) pc ca (cb ++ (cc2 ++ cd)) has) (λ a env1 s now1 last1 small fit p vars1 st1 same1.
          settles_do lasting to (pc + length ca) a now1 last1 env1 s _ at p room vars1 (has_front (site k) (pc + length ca) cb (cc2 ++ cd) back) (λ now2 word vars2 st2 leads there same2.
          operand_does k hi wu.not_void (to + 1) (pc + length ca + length cb) now2 last1 env1 s (λ i env s. next (Address (stepped_by false size a (bits_of i))) env s) (more_room (scene k) to 1 room) vars2 (has_front (site k) (pc + length ca + length cb) cc2 cd back2) (λ i env3 s now3 last3 fi vars3 st3 hi3 same3.
          let one = one_word 0 i (subst (λ us. AreOf us i) wu.units fi) in
          let still = word_there k lasting (settled at to) to word now3 now2 env1 env3 leads there vars2 vars3 st3 (λ q. same3 (not_false index.keeps q)) room in
          let is : stepped_by false size a (bits_of i) ≡ stepped_by false size word one.word = ap (λ q. stepped_by false size a (bits_of q)) one.is ∙ same2 (one.word * size) in
          let w = stepped_by false size word one.word in
          let below : Below to (put to w now3) now3 = put_below now3 now3 to w to (le_refl to) (below_refl to now3) in
          let end : pc + length ca + length cb + length cc2 + 1 ≡ pc + length (ca ++ (cb ++ (cc2 ++ cd))) = omega (arith, length-append ca (cb ++ (cc2 ++ cd)), length-append cb (cc2 ++ cd), length-append cc2 cd) in
          let all : Stays (scene k) to (put to w now3) slots = λ q f lt. below q lt ∙ (st3 q f (omega (arith, lt)) ∙ (st2 q f lt ∙ st1 q f lt)) in
          comes_out (site k) (ap (λ q. next (Address q) env3 s) is)
          (advance_does (site k) (has_back (site k) (pc + length ca + length cb) cc2 cd back2).0 still (subst (Holds now3 (operand_slot index (to + 1))) one.is hi3).0
          (moved (site k) end (go (Address w) env3 s (put to w now3) last3 (stored to 0 w refl (put_same now3 to w) (sym (sum_small word (one.word * size))) (own refl)) (vars_kept (scene k) env3 to (put to w now3) now3 room below vars3) all (λ q. let b = both_true base.keeps index.keeps q in same3 b.1 ∙ same1 b.0)))))));
      local = λ lasting to slot q. absurd (no_slot to 0 slot q);
    }

    pub element_does : (v : Ty) → PlacedDoes k element_means v (element_placed (spot k) size base index)
    element_does v = on index.known refl
      where
        on : (c : Option ℕ) → index.known ≡ c → PlacedDoes k element_means v (elim c [ Some n ↦ pointed_placed (n * size % 2 ^ 32) base | None ↦ element_by (spot k) size base index ])
        on (Some n) e = known_element v n e
        on None e = computed_element v

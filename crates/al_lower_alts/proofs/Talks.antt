-- The channels and values of an alt's cases, and what is asked with them.
use Rattle.std.proofs.Common.{◌≡◌, ℕ, ◌+◌, ◌≤◌, List, [], ◌∷◌, ◌++◌, length, Some, None, refl, sym, ◌∙◌, subst, arith, length-append}
use Rattle.std.specs.Prelude.{false}
use Rattle.std.specs.List.{AllByRecursion}
use Rattle.al_event.specs.declared.act.Branch.{Branch as ActBranch}
use Rattle.al_typed.specs.declared.ty.Ty.{Ty}
use Rattle.al_typed.specs.declared.expression.TExpr.{TExpr}
use Rattle.al_typed.specs.declared.statement.TCommunication.{TCommunication}
use Rattle.al_typed.specs.declared.statement.TCommunication.TheVariants as talk
use Rattle.al_typed.specs.Types.{is_void, is_array}
use Rattle.al_typed.specs.Layout.{unit_at}
use Rattle.al_typed.specs.Typed.{type_of}
use Rattle.al_meaning.specs.Here.{units_in}
use Rattle.al_meaning.specs.Places.{words_in}
use Rattle.al_meaning.specs.Evaluate.{receiving, sending, alt_branches, alt_exprs}
use Rattle.al_meaning.specs.Tasks.{Still, Env, Rest, Ways}
use Rattle.al_meaning.specs.Told.{value, told}
use Rattle.al_meaning.specs.Meant.{values_of}
use Rattle.al_ir.specs.Control.{Slots, words_at}
use Rattle.al_ir.specs.Step.{branch_of, branches_of}
use Rattle.al_lower_words.specs.Units.{AreOf}
use Rattle.al_lower_words.proofs.Integers.{length_of, words_are, IsOne, one_word}
use Rattle.al_lower_code.specs.Homes.{Spot, at_line, words}
use Rattle.al_lower_code.specs.Expressions.{coded}
use Rattle.al_lower_code.specs.Heads.{talk_size, talks_code, talk_branch, talk_branches}
use Rattle.al_lower_steps.specs.Slots.{Holds}
use Rattle.al_lower_steps.specs.Site.{HasAt}
use Rattle.al_lower_steps.proofs.Slots.{words_held_of}
use Rattle.al_lower_steps.proofs.Steps.{Runs, moved, has_front, has_back}
use Rattle.al_lower_claims.proofs.Variables.{Stays, stays_refl, stays_both, holds_stays}
use Rattle.al_lower_claims.proofs.Claims.{scene, spot}
use Rattle.al_lower_claims.proofs.Operands.{free_does}
use Rattle.al_lower_bodies.proofs.Bodies.{Body, setting, ways_in, site_of, scene_of, vars_of, spot_in, ValueIn}

module _ (b : Body) (line : ℕ) where
  -- a channel
  pub record ChannelIn (e : TExpr) : Type 0 where
    pub not_void : is_void (type_of e) ≡ false
    pub units : units_in b.program (type_of e) ≡ unit_at 0 4 ∷ []
    pub does : ValueIn b line 0 e

  -- a value that is sent
  pub record SentIn (e : TExpr) : Type 0 where
    pub not_void : is_void (type_of e) ≡ false
    pub not_array : is_array (type_of e) ≡ false
    pub does : ValueIn b line 0 e

  abbrev pub TalkIn : TCommunication → Type 0
  TalkIn (talk.Receive t chan) = ChannelIn chan
  TalkIn (talk.ReceiveInto t target chan) = ChannelIn chan
  TalkIn (talk.Send chan sent) = ChannelIn chan × SentIn sent

  abbrev s : Spot
  s = at_line line (spot_in b)

  receives : (t : Ty) (at c : ℕ) (now : Slots) → now at ≡ Some c → branch_of now (record { chan = at; words = words_in b.program t; send = None }) ≡ Some (receiving b.program t c)
  receives t at c now there = rw there refl

  sends : (t : Ty) (at c : ℕ) (x : List ℕ) (now : Slots) → now at ≡ Some c → words_at now (at + 1) (words_in b.program t) ≡ Some x → branch_of now (record { chan = at; words = words_in b.program t; send = Some (at + 1) }) ≡ Some (sending b.program t c x)
  sends t at c x now there held = rw (there, held) refl

  more_branches : (now : Slots) (c : TCommunication) (cs : List TCommunication) (at more : ℕ) (x : ActBranch) (xs : List ActBranch) → branch_of now (talk_branch s c at) ≡ Some x → branches_of now (talk_branches s cs more) ≡ Some xs → more ≡ at + talk_size s c → branches_of now (talk_branches s (c ∷ cs) at) ≡ Some (x ∷ xs)
  more_branches now c cs at more x xs one rest same = subst (λ m. branches_of now (talk_branch s c at ∷ talk_branches s cs m) ≡ Some (x ∷ xs)) same (rw (one, rest) refl)

  chan_word : (e : TExpr) → ChannelIn e → (v : List ℕ) → AreOf (units_in b.program (type_of e)) v → IsOne v
  chan_word e h v fits = one_word 0 v (subst (λ us. AreOf us v) h.units fits)

  module _ (jump : ℕ → Rest) (behind again : List Rest) where
    abbrev w : Ways
    w = ways_in b line jump behind again

    -- the channel and the values of the other cases
    received_do : (t : Ty) (chan : TExpr) (c : TCommunication) (cs : List TCommunication) → ChannelIn chan → (to pc : ℕ) (slots last : Slots) (env : Env) (st : Still) (next : List (List ℕ) → Rest) → (spot_in b).turns ≤ to → vars_of b env slots → HasAt (site_of b) pc ((coded s chan).value to to ++ talks_code s cs (to + 1)) → ((pc : ℕ) (slots last : Slots) (env : Env) (st : Still) (next : List (List ℕ) → Rest) → vars_of b env slots → HasAt (site_of b) pc (talks_code s cs (to + 1)) → ((vs : List (List ℕ)) (env2 : Env) (st : Still) (now last2 : Slots) → vars_of b env2 now → Stays (scene_of b 0) (to + 1) now slots → branches_of now (talk_branches s cs (to + 1)) ≡ Some (alt_branches b.program cs vs) → Runs (site_of b) (next vs env2 st) (pc + length (talks_code s cs (to + 1))) now last2 st) → Runs (site_of b) (values_of (alt_exprs cs) w env st next) pc slots last st) → ((v : ℕ) (vs : List (List ℕ)) (env2 : Env) (st : Still) (now last2 : Slots) → vars_of b env2 now → Stays (scene_of b 0) to now slots → now to ≡ Some v → branches_of now (talk_branches s cs (to + 1)) ≡ Some (alt_branches b.program cs vs) → Runs (site_of b) (next ((v ∷ []) ∷ vs) env2 st) (pc + length ((coded s chan).value to to ++ talks_code s cs (to + 1))) now last2 st) → Runs (site_of b) (value (told chan w) env st (λ v env st. values_of (alt_exprs cs) w env st (λ vs env st. next (v ∷ vs) env st))) pc slots last st
    received_do t chan c cs h to pc slots last env st next room vars has rest go =
        let k = setting b line 0 jump behind again in
        let ca = (coded (spot k) chan).value to to in
        let cb = talks_code s cs (to + 1) in
        let len : pc + length ca + length cb ≡ pc + length (ca ++ cb) = omega (arith, length-append ca cb) in
        free_does k (h.does jump behind again).value h.not_void to pc slots last env st (λ v env st. values_of (alt_exprs cs) w env st (λ vs env st. next (v ∷ vs) env st)) (omega (arith, room)) vars (has_front (site_of b) pc ca cb has) (λ v env1 st1 now1 last1 fits vars1 st_1 holds same1.
        let one = chan_word chan h v fits in
        rest (pc + length ca) now1 last1 env1 st1 (λ vs env st. next (v ∷ vs) env st) vars1 (has_back (site_of b) pc ca cb has) (λ vs env2 st2 now2 last2 vars2 st_2 branches.
        let there : Holds now2 to (one.word ∷ []) = holds_stays (scene k) (one.word ∷ []) to (to + 1) now2 now1 (omega (arith, room)) (omega arith) st_2 (subst (Holds now1 to) one.is holds) in
        moved (site_of b) len (subst (λ v. Runs (site_of b) (next (v ∷ vs) env2 st2) (pc + length (ca ++ cb)) now2 last2 st2) (sym one.is) (go one.word vs env2 st2 now2 last2 vars2 (stays_both (scene k) to (to + 1) now2 now1 slots (omega arith) st_2 st_1) there.0 branches))))

    pub talks_do : (cs : List TCommunication) → AllByRecursion TalkIn cs → (to : ℕ) → (spot_in b).turns ≤ to → (pc : ℕ) (slots last : Slots) (env : Env) (st : Still) (next : List (List ℕ) → Rest) → vars_of b env slots → HasAt (site_of b) pc (talks_code s cs to) → ((vs : List (List ℕ)) (env2 : Env) (st : Still) (now last2 : Slots) → vars_of b env2 now → Stays (scene_of b 0) to now slots → branches_of now (talk_branches s cs to) ≡ Some (alt_branches b.program cs vs) → Runs (site_of b) (next vs env2 st) (pc + length (talks_code s cs to)) now last2 st) → Runs (site_of b) (values_of (alt_exprs cs) w env st next) pc slots last st
    talks_do [] h to room pc slots last env st next vars has go = let z : pc ≡ pc + 0 = omega arith in moved (site_of b) z (go [] env st slots last vars (stays_refl (scene_of b 0) to slots) refl)
    talks_do (talk.Receive t chan ∷ cs) h to room pc slots last env st next vars has go =
        received_do t chan (talk.Receive t chan) cs h.0 to pc slots last env st next room vars has (talks_do cs h.1 (to + 1) (omega (arith, room))) (λ v vs env2 st2 now last2 vars2 stays there branches.
        go ((v ∷ []) ∷ vs) env2 st2 now last2 vars2 stays (more_branches now (talk.Receive t chan) cs to (to + 1) (receiving b.program t v) (alt_branches b.program cs vs) (receives t to v now there) branches refl))
    talks_do (talk.ReceiveInto t target chan ∷ cs) h to room pc slots last env st next vars has go =
        received_do t chan (talk.ReceiveInto t target chan) cs h.0 to pc slots last env st next room vars has (talks_do cs h.1 (to + 1) (omega (arith, room))) (λ v vs env2 st2 now last2 vars2 stays there branches.
        go ((v ∷ []) ∷ vs) env2 st2 now last2 vars2 stays (more_branches now (talk.ReceiveInto t target chan) cs to (to + 1) (receiving b.program t v) (alt_branches b.program cs vs) (receives t to v now there) branches refl))
    talks_do (talk.Send chan sent ∷ cs) h to room pc slots last env st next vars has go =
        let k = setting b line 0 jump behind again in
        let t = type_of sent in
        let n = words s t in
        let more = to + (1 + n) in
        let ca = (coded (spot k) chan).value to to in
        let cb = (coded (spot k) sent).value (to + 1) (to + 1) in
        let cd = talks_code s cs more in
        let first = has_front (site_of b) pc (ca ++ cb) cd has in
        let at : pc + length (ca ++ cb) ≡ pc + length ca + length cb = omega (arith, length-append ca cb) in
        let len : pc + length ca + length cb + length cd ≡ pc + length ((ca ++ cb) ++ cd) = omega (arith, length-append (ca ++ cb) cd, length-append ca cb) in
        free_does k (h.0.0.does jump behind again).value h.0.0.not_void to pc slots last env st (λ v env st. value (told sent w) env st (λ x env st. values_of (alt_exprs cs) w env st (λ vs env st. next (v ∷ x ∷ vs) env st))) (omega (arith, room)) vars (has_front (site_of b) pc ca cb first) (λ v env1 st1 now1 last1 fv vars1 st_1 hv same1.
        free_does k (h.0.1.does jump behind again).value h.0.1.not_void (to + 1) (pc + length ca) now1 last1 env1 st1 (λ x env st. values_of (alt_exprs cs) w env st (λ vs env st. next (v ∷ x ∷ vs) env st)) (omega (arith, room)) vars1 (has_back (site_of b) pc ca cb first) (λ x env2 st2 now2 last2 fx vars2 st_2 hx same2.
        let one = chan_word chan h.0.0 v fv in
        let count : length x ≡ n = length_of _ _ fx ∙ sym (words_are b.program t h.0.1.not_array) in
        talks_do cs h.1 more (omega (arith, room)) (pc + length ca + length cb) now2 last2 env2 st2 (λ vs env st. next (v ∷ x ∷ vs) env st) vars2 (subst (λ i. HasAt (site_of b) i cd) at (has_back (site_of b) pc (ca ++ cb) cd has)) (λ vs env3 st3 now3 last3 vars3 st_3 branches.
        let hv2 : Holds now2 to (one.word ∷ []) = holds_stays (scene k) (one.word ∷ []) to (to + 1) now2 now1 (omega (arith, room)) (omega arith) st_2 (subst (Holds now1 to) one.is hv) in
        let hv3 : Holds now3 to (one.word ∷ []) = holds_stays (scene k) (one.word ∷ []) to more now3 now2 (omega (arith, room)) (omega arith) st_3 hv2 in
        let hx3 : Holds now3 (to + 1) x = holds_stays (scene k) x (to + 1) more now3 now2 (omega (arith, room)) (omega (arith, count)) st_3 hx in
        let held : words_at now3 (to + 1) n ≡ Some x = words_held_of x (to + 1) n now3 count hx3 in
        moved (site_of b) len (subst (λ v. Runs (site_of b) (next (v ∷ x ∷ vs) env3 st3) (pc + length ((ca ++ cb) ++ cd)) now3 last3 st3) (sym one.is)
        (go ((one.word ∷ []) ∷ x ∷ vs) env3 st3 now3 last3 vars3 (λ i f lt. st_3 i f (omega (arith, lt)) ∙ (st_2 i f (omega (arith, lt)) ∙ st_1 i f lt)) (more_branches now3 (talk.Send chan sent) cs to more (sending b.program t one.word x) (alt_branches b.program cs vs) (sends t to one.word x now3 hv3.0 held) branches refl))))))

-- Targets that are tuples: the places are found first, and then the parts of a value go into them.
use Rattle.std.proofs.Common.{◌≡◌, ℕ, ◌+◌, ◌≤◌, List, [], ◌∷◌, ◌++◌, length, take, drop, Option, Some, refl, sym, ap, ap₂, ◌∙◌, subst, inr, arith, length-append, append-nil, append_assoc}
use Rattle.std.specs.Prelude.{true, false}
use Rattle.std.specs.List.{flat_map}
use Rattle.std.proofs.Math.Seq.{drop-append_seam}
use Rattle.std.proofs.lemmas.List.{take-append-drop}
use Rattle.al_typed.specs.declared.ty.Ty.{Ty}
use Rattle.al_typed.specs.Types.{is_void, is_array}
use Rattle.al_meaning.specs.Here.{units_in}
use Rattle.al_meaning.specs.Items.{Found, Nowhere}
use Rattle.al_meaning.specs.Tasks.{Still, Env, Rest, Task, give}
use Rattle.al_meaning.specs.Told.{value, save, save_all}
use Rattle.al_ir.specs.Control.{Slots}
use Rattle.al_lower_words.specs.Units.{AreOf}
use Rattle.al_lower_words.proofs.Integers.{length_of, words_are}
use Rattle.al_lower_code.specs.Coded.{Coded, Placed, Aimed}
use Rattle.al_lower_code.specs.Actions.{single_aimed, no_aimed, aimed_with, assigns_parts, changing}
use Rattle.al_lower_steps.specs.Slots.{Holds}
use Rattle.al_lower_steps.proofs.Slots.{holds_front, holds_back, holds_at}
use Rattle.al_lower_steps.proofs.Steps.{moved, comes_out, has_front, has_back}
use Rattle.al_lower_claims.proofs.Privates.{NoArrayGlobals, take_fits, drop_fits}
use Rattle.al_lower_claims.proofs.Variables.{IsFree, Stays, stays_refl, stays_both, holds_stays, more_room}
use Rattle.al_lower_claims.proofs.Claims.{Setting, scene, site, spot, Run, Has, HasVars, HasRoom, UnitsOf, count_of, FoundAt, PlacedDoes, CodedDoes}
use Rattle.al_lower_claims.proofs.Operands.{free_does}
use Rattle.al_lower_claims.proofs.Saving.{save_does}
use Rattle.al_lower_values.proofs.Rows.{UnitsOfAll}
use Rattle.al_lower_actions.proofs.Assigning.{behind, found_later, changing_does}

take_front : (n : ℕ) (a b : List ℕ) → length a ≡ n → take n (a ++ b) ≡ a
take_front n a b e = subst (λ m. take m (a ++ b) ≡ a) e (on a)
  where
    on : (a : List ℕ) → take (length a) (a ++ b) ≡ a
    on [] = refl
    on (x ∷ a) = ap (λ l. x ∷ l) (on a)

drop_front : (n : ℕ) (a b : List ℕ) → length a ≡ n → drop n (a ++ b) ≡ b
drop_front n a b e = subst (λ m. drop m (a ++ b) ≡ b) e (drop-append_seam a b)

flat_append : (k : Setting) (ts us : List Ty) → flat_map (units_in k.ways.program) (ts ++ us) ≡ flat_map (units_in k.ways.program) ts ++ flat_map (units_in k.ways.program) us
flat_append k [] us = refl
flat_append k (t ∷ ts) us = ap (λ l. units_in k.ways.program t ++ l) (flat_append k ts us) ∙ sym (append_assoc (units_in k.ways.program t) (flat_map (units_in k.ways.program) ts) (flat_map (units_in k.ways.program) us))

-- Places of these types are found, one slot for each that needs one. They stay there while other values are found, and parts of
-- a value that stands behind go into them: those that are left go into the places that are left.
pub record AimedDoes (k : Setting) (m : Task (List Found)) (ts : List Ty) (a : Aimed) : Type 1 where
  pub At : (to : ℕ) → Slots → List Found → Type 0
  pub by : (to pc : ℕ) (slots last : Slots) (env : Env) (s : Still) (next : List Found → Rest) → HasRoom k to → HasVars k env slots → Has k pc (a.code to) → ((fs : List Found) (env2 : Env) (s : Still) (now last : Slots) → At to now fs → HasVars k env2 now → Stays (scene k) to now slots → Run k (next fs env2 s) (pc + length (a.code to)) now last s) → Run k (m env s next) pc slots last s
  pub later : (to : ℕ) (fs : List Found) (now old : Slots) (env env2 : Env) → At to old fs → HasVars k env old → HasVars k env2 now → Stays (scene k) (to + a.count) now old → HasRoom k to → At to now fs
  pub saves : (us : List Ty) (gs fs : List Found) (own rest : List ℕ) (to from pc : ℕ) (slots last : Slots) (env : Env) (s : Still) (next : Unit {0} → Rest) → At to slots fs → UnitsOfAll k ts own → Holds slots from own → HasRoom k from → HasRoom k to → HasVars k env slots → Has k pc (a.save to from) → ((env2 : Env) (s : Still) (now : Slots) → HasVars k env2 now → ((i : ℕ) → IsFree (scene k) i → now i ≡ slots i) → Run k (save_all k.ways us gs rest env2 s next) (pc + length (a.save to from)) now last s) → Run k (save_all k.ways (ts ++ us) (fs ++ gs) (own ++ rest) env s next) pc slots last s

module _ (k : Setting) where
  -- a part that goes nowhere
  pub dropped_aims : (t : Ty) → is_array t ≡ false → AimedDoes k (give (Nowhere ∷ [])) (t ∷ []) no_aimed
  dropped_aims t na = record {
    At = λ to slots fs. fs ≡ Nowhere ∷ [];
    by = λ to pc slots last env s next room vars has go. let q : pc ≡ pc + 0 = omega arith in moved (site k) q (go (Nowhere ∷ []) env s slots last refl vars (stays_refl (scene k) to slots));
    later = λ to fs now old env env2 e v w st room. e;
    saves = λ us gs fs own rest to from pc slots last env s next e fits holds le room vars has go.
        let n : length own ≡ count_of k t = length_of _ _ (subst (λ q. AreOf q own) (append-nil (units_in k.ways.program t)) fits) ∙ sym (words_are k.ways.program t na) in
        let q : pc ≡ pc + 0 = omega arith in
        comes_out (site k) (ap (λ f. save_all k.ways (t ∷ us) (f ++ gs) (own ++ rest) env s next) e)
        (comes_out (site k) (ap (λ v. save_all k.ways us gs v env s next) (drop_front (count_of k t) own rest n))
        (moved (site k) q (go env s slots vars (λ i f. refl))));
  }

  pub nothing_aims : AimedDoes k (give []) [] no_aimed
  nothing_aims = record {
    At = λ to slots fs. fs ≡ [];
    by = λ to pc slots last env s next room vars has go. let q : pc ≡ pc + 0 = omega arith in moved (site k) q (go [] env s slots last refl vars (stays_refl (scene k) to slots));
    later = λ to fs now old env env2 e v w st room. e;
    saves = λ us gs fs own rest to from pc slots last env s next e fits holds le room vars has go.
        let q : pc ≡ pc + 0 = omega arith in
        comes_out (site k) (ap₂ (λ (f : List Found) (v : List ℕ). save_all k.ways us (f ++ gs) (v ++ rest) env s next) e (sym fits))
        (moved (site k) q (go env s slots vars (λ i f. refl)));
  }

  abbrev pub more_aimed : Task (List Found) → Task (List Found) → Task (List Found)
  more_aimed m o env s next = m env s (λ fs env s. o env s (λ gs env s. next (fs ++ gs) env s))

  -- targets one behind the other, the first of so many words
  pub more_aims : {m o : Task (List Found)} (ts us : List Ty) (n : ℕ) (a b : Aimed) → n ≡ length (flat_map (units_in k.ways.program) ts) → AimedDoes k m ts a → AimedDoes k o us b → AimedDoes k (more_aimed m o) (ts ++ us) (aimed_with n a b)
  more_aims {m} {o} ts us n a b count ha hb = record {
    At = λ to slots fs. (f : List Found) × ((g : List Found) × ((fs ≡ f ++ g) × (ha.At to slots f × hb.At (to + a.count) slots g)));
    by = λ to pc slots last env s next room vars has go.
        let ca = a.code to in
        let cb = b.code (to + a.count) in
        ha.by to pc slots last env s (λ fs env s. o env s (λ gs env s. next (fs ++ gs) env s)) room vars (has_front (site k) pc ca cb has) (λ f env1 s now1 last1 at1 vars1 st1.
        hb.by (to + a.count) (pc + length ca) now1 last1 env1 s (λ gs env s. next (f ++ gs) env s) (more_room (scene k) to a.count room) vars1 (has_back (site k) pc ca cb has) (λ g env2 s now2 last2 at2 vars2 st2.
        let len : pc + length ca + length cb ≡ pc + length (ca ++ cb) = omega (arith, length-append ca cb) in
        moved (site k) len (go (f ++ g) env2 s now2 last2 (f, (g, (refl, (ha.later to f now2 now1 env1 env2 at1 vars1 vars2 st2 room, at2)))) vars2 (stays_both (scene k) to (to + a.count) now2 now1 slots (omega arith) st2 st1))));
    later = λ to fs now old env env2 x v w st room.
        (x.0, (x.1.0, (x.1.1.0, (ha.later to x.0 now old env env2 x.1.1.1.0 v w (λ i f lt. st i f (omega (arith, lt))) room, hb.later (to + a.count) x.1.0 now old env env2 x.1.1.1.1 v w (λ i f lt. st i f (omega (arith, lt))) (more_room (scene k) to a.count room)))));
    saves = λ vs hs fs own rest to from pc slots last env s next x fits holds le room vars has go.
        let f = x.0 in
        let g = x.1.0 in
        let ca = a.save to from in
        let cb = b.save (to + a.count) (from + n) in
        let both : AreOf (flat_map (units_in k.ways.program) ts ++ flat_map (units_in k.ways.program) us) own = subst (λ q. AreOf q own) (flat_append k ts us) fits in
        let own1 = take n own in
        let own2 = drop n own in
        let parted : own ≡ own1 ++ own2 = sym (take-append-drop n own) in
        let fits1 : UnitsOfAll k ts own1 = subst (λ q. UnitsOfAll k ts (take q own)) (sym count) (take_fits (flat_map (units_in k.ways.program) ts) (flat_map (units_in k.ways.program) us) own both) in
        let fits2 : UnitsOfAll k us own2 = subst (λ q. UnitsOfAll k us (drop q own)) (sym count) (drop_fits (flat_map (units_in k.ways.program) ts) (flat_map (units_in k.ways.program) us) own both) in
        let held = subst (Holds slots from) parted holds in
        let n1 : length own1 ≡ n = length_of _ _ fits1 ∙ sym count in
        let words : own ++ rest ≡ own1 ++ (own2 ++ rest) = ap (λ q. q ++ rest) parted ∙ append_assoc own1 own2 rest in
        let places : fs ++ hs ≡ f ++ (g ++ hs) = ap (λ q. q ++ hs) x.1.1.0 ∙ append_assoc f g hs in
        comes_out (site k) (ap₂ (λ q v. save_all k.ways q (fs ++ hs) v env s next) (append_assoc ts us vs) words)
        (comes_out (site k) (ap (λ q. save_all k.ways (ts ++ (us ++ vs)) q (own1 ++ (own2 ++ rest)) env s next) places)
        (ha.saves (us ++ vs) (g ++ hs) f own1 (own2 ++ rest) to from pc slots last env s next x.1.1.1.0 fits1 (holds_front own1 own2 from slots held) le room vars (has_front (site k) pc ca cb has) (λ env2 s now vars2 same.
        let back : Holds slots (from + n) own2 = holds_at own2 (from + length own1) (from + n) slots (ap (λ i. from + i) n1) (holds_back own1 own2 from slots held) in
        let room_back : HasRoom k (from + n) = more_room (scene k) from n le in
        let back2 : Holds now (from + n) own2 = holds_stays (scene k) own2 (from + n) (from + n + length own2) now slots room_back (omega arith) (λ i fr lt. same i fr) back in
        hb.saves vs hs g own2 rest (to + a.count) (from + n) (pc + length ca) now last env2 s next (hb.later (to + a.count) g now slots env env2 x.1.1.1.1 vars vars2 (λ i fr lt. same i fr) (more_room (scene k) to a.count room)) fits2 back2 room_back (more_room (scene k) to a.count room) vars2 (has_back (site k) pc ca cb has) (λ env3 s now3 vars3 same3.
        let len : pc + length ca + length cb ≡ pc + length (ca ++ cb) = omega (arith, length-append ca cb) in
        moved (site k) len (go env3 s now3 vars3 (λ i fr. same3 i fr ∙ same i fr))))));
  }

module _ (k : Setting) (plain : NoArrayGlobals k.ways.program k.ways.program.globals) where
  abbrev pub one_aimed : Task Found → Task (List Found)
  one_aimed m env s next = m env s (λ fd env s. next (fd ∷ []) env s)

  pub single_aims : {m : Task Found} (t : Ty) (pl : Placed) → is_array t ≡ false → PlacedDoes k m t pl → AimedDoes k (one_aimed m) (t ∷ []) (single_aimed (spot k) t pl)
  single_aims {m} t pl na h = record {
    At = λ to slots fs. (fd : Found) × ((fs ≡ fd ∷ []) × FoundAt k t true to slots (pl.at true to) fd);
    by = λ to pc slots last env s next room vars has go.
        h.by true to pc slots last env s (λ fd env s. next (fd ∷ []) env s) room vars has (λ fd env2 s now last2 found vars2 st2 same. go (fd ∷ []) env2 s now last2 (fd, (refl, found)) vars2 st2);
    later = λ to fs now old env env2 x v w st room. (x.0, (x.1.0, found_later k true to now old env env2 x.1.1 v w st (λ e. absurd (cc)) room));
    saves = λ us gs fs own rest to from pc slots last env s next x fits holds le room vars has go.
        let fd = x.0 in
        let fits2 : UnitsOf k t own = subst (λ q. AreOf q own) (append-nil (units_in k.ways.program t)) fits in
        let n : length own ≡ count_of k t = length_of _ _ fits2 ∙ sym (words_are k.ways.program t na) in
        comes_out (site k) (ap (λ f. save_all k.ways (t ∷ us) (f ++ gs) (own ++ rest) env s next) x.1.0)
        (comes_out (site k) (ap₂ (λ u v. save k.ways t u fd env s (λ z env s. save_all k.ways us gs v env s next)) (take_front (count_of k t) own rest n) (drop_front (count_of k t) own rest n))
        (save_does k plain t own from to pc slots last env s (λ z env s. save_all k.ways us gs rest env s next) x.1.1 na fits2 holds (λ i l y ty. let q = k.homes.fits i l y in let b = k.above in inr (omega (arith, q, b, le))) vars has (λ env2 s now vars2 same still.
        go env2 s now vars2 same)));
  }

  abbrev pub parts_mean : Task (List Found) → Task (Option (List ℕ)) → List Ty → Task (Option (List ℕ))
  parts_mean m o ts env s next = m env s (λ fs env s. value o env s (λ v env s. save_all k.ways ts fs v env s (λ u env s. next (Some v) env s)))

  -- the places, the value, and its parts into them
  pub assign_parts_does : {m : Task (List Found)} {o : Task (Option (List ℕ))} (t : Ty) (ts : List Ty) (a : Aimed) (c : Coded) → is_void t ≡ false → is_array t ≡ false → ((v : List ℕ) → UnitsOf k t v → UnitsOfAll k ts v) → AimedDoes k m ts a → CodedDoes k o t c → CodedDoes k (parts_mean m o ts) t (changing (spot k) t (assigns_parts a c) (λ to. to + a.count))
  assign_parts_does {m} {o} t ts a c nv na to_parts ha hc = changing_does k t (assigns_parts a c) (λ to. to + a.count) nv na (record {
    by = λ to pc slots last env s next room vars has go.
        let ca = a.code to in
        let cb = c.value (to + a.count) (to + a.count) in
        let cd = a.save to (to + a.count) in
        let tail = has_back (site k) pc ca (cb ++ cd) has in
        let room2 = more_room (scene k) to a.count room in
        ha.by to pc slots last env s (λ fs env s. value o env s (λ v env s. save_all k.ways ts fs v env s (λ u env s. next (Some v) env s))) room vars (has_front (site k) pc ca (cb ++ cd) has) (λ fs env1 s now1 last1 at1 vars1 st1.
        free_does k hc.value nv (to + a.count) (pc + length ca) now1 last1 env1 s (λ v env s. save_all k.ways ts fs v env s (λ u env s. next (Some v) env s)) room2 vars1 (has_front (site k) (pc + length ca) cb cd tail) (λ v env2 s now2 last2 fits vars2 st2 holds same.
        let at2 = ha.later to fs now2 now1 env1 env2 at1 vars1 vars2 st2 room in
        let len : pc + length ca + length cb + length cd ≡ pc + length (ca ++ (cb ++ cd)) = omega (arith, length-append ca (cb ++ cd), length-append cb cd) in
        comes_out (site k) (ap₂ (λ q f. save_all k.ways q f v env2 s (λ u env s. next (Some v) env s)) (sym (append-nil ts)) (sym (append-nil fs)))
        (comes_out (site k) (ap (λ w. save_all k.ways (ts ++ []) (fs ++ []) w env2 s (λ u env s. next (Some v) env s)) (sym (append-nil v)))
        (ha.saves [] [] fs v [] to (to + a.count) (pc + length ca + length cb) now2 last2 env2 s (λ u env s. next (Some v) env s) at2 (to_parts v fits) holds room2 room vars2 (has_back (site k) (pc + length ca) cb cd tail) (λ env3 s now3 vars3 same3.
        let held : Holds now3 (to + a.count) v = holds_stays (scene k) v (to + a.count) (to + a.count + length v) now3 now2 room2 (omega arith) (λ i fr lt. same3 i fr) holds in
        moved (site k) len (go v env3 s now3 last2 fits vars3 (λ i fr lt. same3 i fr ∙ (st2 i fr (omega (arith, lt)) ∙ st1 i fr lt)) held (behind (omega arith))))))));
  })

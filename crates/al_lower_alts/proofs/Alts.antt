-- `alt`.
use Rattle.std.proofs.Common.{◌≡◌, ℕ, zero, suc, ◌+◌, ◌*◌, ◌%◌, ◌<◌, ◌≤◌, ◌^◌, List, [], ◌∷◌, ◌++◌, length, drop, Option, Some, None, refl, sym, ap, ap₂, ◌∙◌, subst, ⊎_elim, arith, length-append}
use Rattle.std.specs.Prelude.{slice_get, slice_index, sum_by}
use Rattle.std.specs.List.{AllByRecursion}
use Rattle.al_event.specs.declared.act.Act.TheVariants as act
use Rattle.al_world.specs.Control.{cut, received_by}
use Rattle.al_typed.specs.declared.statement.TCommunication.{TCommunication}
use Rattle.al_typed.specs.declared.statement.TCommunication.TheVariants as talk
use Rattle.al_typed.specs.declared.statement.TStmt.{Alt', AltCase, Row_of-TStmt, end_of-TStmt, more_of-TStmt}
use Rattle.al_meaning.specs.Evaluate.{communication_exprs, alt_branch, alt_branches, alt_exprs}
use Rattle.al_meaning.specs.Tasks.{Rest, asks}
use Rattle.al_meaning.specs.Meant.{Part, Branching, communications, values_of, went_on, alternated, branchings, inside, part_from_row, rest_of_cases, returned, become_in}
use Rattle.al_ir.specs.declared.ir.Operation.{Operation}
use Rattle.al_ir.specs.declared.op.Op.TheVariants as op
use Rattle.al_ir.specs.Control.{Slots, put, put_all, forget}
use Rattle.al_lower_code.specs.Homes.{Spot, at_line, here}
use Rattle.al_lower_code.specs.Heads.{talk_size, talks_code, talk_branches, received_words, most_received, dispatch, alt_head, cases_in, zero_places, alt_size}
use Rattle.al_lower_code.specs.Statements.{Targets, in_cases, all_code, stmt_size, all_size, body_places, place_in_row}
use Rattle.al_lower_steps.specs.Slots.{Below}
use Rattle.al_lower_steps.specs.Site.{HasAt}
use Rattle.al_lower_steps.proofs.Slots.{put_same, put_below, put_all_below, put_all_holds, forget_outside, below_outside}
use Rattle.al_lower_steps.proofs.Steps.{comes_out, has_front, has_back}
use Rattle.al_lower_steps.proofs.Actions.{talk_does}
use Rattle.al_lower_claims.proofs.Moving.{AreWords}
use Rattle.al_lower_claims.proofs.Variables.{vars_kept}
use Rattle.al_lower_flow.proofs.Flow.{goes_at, Round, round_cases, JumpsDo, From}
use Rattle.al_lower_flow.proofs.Sizes.{lengths}
use Rattle.al_lower_bodies.proofs.Bodies.{Body, ways_in, site_of, scene_of, vars_of, spot_in, Goes, MeansIn, StmtIn, IsKnown}
use Rattle.al_lower_switch.proofs.Cases.{RowsIn, all_in, FromIn}
use Rattle.al_lower_alts.proofs.Bodies.{BodiesFrom, bodies_from}
use Rattle.al_lower_alts.proofs.Talks.{TalkIn, talks_do}
use Rattle.al_lower_alts.proofs.Dispatch.{dispatch_length, WentIn, Reaches, dispatch_does}

-- ---- how many there are

branches_length : (s : Spot) (cs : List TCommunication) (at : ℕ) → length (talk_branches s cs at) ≡ length cs
branches_length s [] at = refl
branches_length s (c ∷ cs) at = ap suc (branches_length s cs (at + talk_size s c))

asked_length : (b : Body) (cs : List TCommunication) (vs : List (List ℕ)) → length (alt_branches b.program cs vs) ≡ length cs
asked_length b [] vs = refl
asked_length b (c ∷ cs) vs = ap suc (asked_length b cs (drop (length (communication_exprs c)) vs))

places_length : (s : Spot) {m : _} (row : Row_of-TStmt m) (pc : ℕ) → length (body_places s row pc) ≡ length (cases_in row)
places_length s end_of-TStmt pc = refl
places_length s (more_of-TStmt (AltCase c) rest) pc = ap suc (places_length s rest pc)
places_length s (more_of-TStmt a rest) pc = places_length s rest (pc + stmt_size s a)

zeros_length : (cs : List TCommunication) → length (zero_places cs) ≡ length cs
zeros_length [] = refl
zeros_length (c ∷ cs) = ap suc (zeros_length cs)

head_length : (s r : Spot) {m : _} (row : Row_of-TStmt m) (pc : ℕ) → length (alt_head s (cases_in row) (body_places r row pc)) ≡ alt_size s (cases_in row)
head_length s r row pc =
    let cs = cases_in row in
    let branch = s.turns + sum_by (talk_size s) cs in
    let got = branch + 1 + 4 * length cs in
    let free = got + most_received s cs in
    let talk = here s (op.Talk (talk_branches s cs s.turns) (branch + 1) branch got) in
    let p = dispatch s 0 cs (body_places r row pc) branch got free in
    let q = dispatch s 0 cs (zero_places cs) branch got free in
    lengths (talks_code s cs s.turns) (talk ++ p) (talks_code s cs s.turns) (talk ++ q) refl (lengths talk p talk q refl (dispatch_length s 0 cs (body_places r row pc) (zero_places cs) branch got free (places_length r row pc) (zeros_length cs)))

-- ---- what is received

cut_length : (n m : ℕ) (ws : List ℕ) → length (cut n m ws) ≡ n
cut_length zero m ws = refl
cut_length (suc n) m [] = ap suc (cut_length n m [])
cut_length (suc n) m (w ∷ ws) = ap suc (cut_length n m ws)

cut_words : (n : ℕ) (ws : List ℕ) → AreWords (cut n (2 ^ 32) ws)
cut_words zero ws = tt
cut_words (suc n) [] = (omega arith, cut_words n [])
cut_words (suc n) (w ∷ ws) = ((let q : w % 2 ^ 32 < 2 ^ 32 = omega arith in q), cut_words n ws)

module _ (b : Body) (line : ℕ) where
  abbrev s : Spot
  s = at_line line (spot_in b)

  branch_receives : (c : TCommunication) (vs : List (List ℕ)) → received_by (Some (alt_branch b.program c vs)) ≡ received_words s c
  branch_receives (talk.Receive t chan) vs = refl
  branch_receives (talk.ReceiveInto t target chan) vs = refl
  branch_receives (talk.Send chan value) vs = refl

  receives_at : (cs : List TCommunication) (vs : List (List ℕ)) (i : ℕ) (c : TCommunication) → slice_get cs i ≡ Some c → received_by (slice_get (alt_branches b.program cs vs) i) ≡ received_words s c
  receives_at [] vs i c e = absurd (cc)
  receives_at (d ∷ cs) vs zero c e = branch_receives d vs ∙ ap (received_words s) (same d c e)
    where
      same : (d c : TCommunication) → Some d ≡ Some c → d ≡ c
      same d c e = cc
  receives_at (d ∷ cs) vs (suc i) c e = receives_at cs (drop (length (communication_exprs d)) vs) i c e

  -- no case receives more than the most
  no_more : (cs : List TCommunication) (i : ℕ) (c : TCommunication) → slice_get cs i ≡ Some c → received_words s c ≤ most_received s cs
  no_more [] i c e = absurd (cc)
  no_more (d ∷ cs) zero c e =
      let q : received_words s d ≡ received_words s c = ap (received_words s) (same d c e) in
      omega (arith, q)
    where
      same : (d c : TCommunication) → Some d ≡ Some c → d ≡ c
      same d c e = cc
  no_more (d ∷ cs) (suc i) c e = let q = no_more cs i c e in omega (arith, q)

  case_there : (cs : List TCommunication) (i : ℕ) → i < length cs → (c : TCommunication) × (slice_get cs i ≡ Some c)
  case_there [] i lt = absurd (omega (arith, lt))
  case_there (c ∷ cs) zero lt = (c, refl)
  case_there (c ∷ cs) (suc i) lt = case_there cs i (omega (arith, lt))

  some_branches : (cs : List TCommunication) (vs : List (List ℕ)) → 1 ≤ length cs → alt_branches b.program cs vs ≡ [] → ⊥
  some_branches [] vs le e = omega (arith, le)
  some_branches (c ∷ cs) vs le e = cc

  communications_are : (breaks loops : ℕ) {m : _} (row : Row_of-TStmt m) (least pc : ℕ) (xs : List Branching) (ps : List ℕ) (cs : List TCommunication) → BodiesFrom b breaks loops row least pc xs ps cs → communications xs ≡ cs
  communications_are breaks loops row least pc [] [] [] f = refl
  communications_are breaks loops row least pc (x ∷ xs) (p ∷ ps) (c ∷ cs) f = ap₂ (λ (d : TCommunication) (ds : List TCommunication). d ∷ ds) f.0.0 (communications_are breaks loops row least pc xs ps cs f.1)
  communications_are breaks loops row least pc [] [] (c ∷ cs) f = absurd f
  communications_are breaks loops row least pc [] (p ∷ ps) cs f = absurd f
  communications_are breaks loops row least pc (x ∷ xs) [] cs f = absurd f
  communications_are breaks loops row least pc (x ∷ xs) (p ∷ ps) [] f = absurd f

  -- ---- the statement

  module _ (breaks loops : ℕ) {m : _} (body : Row_of-TStmt m) (some : 1 ≤ length (cases_in body)) (few : length (cases_in body) ≤ 64) (talks : AllByRecursion (TalkIn b line) (cases_in body)) (wents : AllByRecursion (WentIn b line) (cases_in body)) (rows : RowsIn b (suc breaks) loops body) where
    abbrev head : ℕ
    head = alt_size s (cases_in body)

    abbrev size : ℕ
    size = all_size (spot_in b) body

    abbrev inner : Targets → (pc : ℕ) → Targets
    inner c pc = in_cases (pc + head + size) c

    abbrev head_code : (pc : ℕ) → List Operation
    head_code pc = alt_head s (cases_in body) (body_places (spot_in b) body (pc + head))

    abbrev whole : Targets → ℕ → List Operation
    whole c pc = head_code pc ++ all_code (spot_in b) (inner c pc) body (pc + head)

    body_at : (c : Targets) (pc : ℕ) → HasAt (site_of b) pc (whole c pc) → HasAt (site_of b) (pc + head) (all_code (spot_in b) (inner c pc) body (pc + head))
    body_at c pc has = subst (λ n. HasAt (site_of b) (pc + n) (all_code (spot_in b) (inner c pc) body (pc + head))) (head_length s (spot_in b) body (pc + head)) (has_back (site_of b) pc (head_code pc) (all_code (spot_in b) (inner c pc) body (pc + head)) has)

    module _ (pc : ℕ) (c : Targets) (jump : ℕ → Rest) (behind again : List Rest) (next : Rest) (has : HasAt (site_of b) pc (whole c pc)) (round : Round (site_of b) (vars_of b) breaks loops (pc + (head + size)) c behind again) (jumps : JumpsDo (site_of b) (vars_of b) (spot_in b) b.call (returned b.row.locals b.given) (become_in b.row.locals b.instead b.given) (IsKnown b) c jump) (go : Goes b (pc + (head + size)) next) where
      end_is : pc + head + size ≡ pc + (head + size)
      end_is = omega arith

      go_end : Goes b (pc + head + size) next
      go_end = goes_at (site_of b) (vars_of b) end_is go

      inner_round : Round (site_of b) (vars_of b) (suc breaks) loops (pc + head + size) (inner c pc) (next ∷ behind) again
      inner_round = round_cases (site_of b) (vars_of b) (pc + head + size) (pc + head + size) (omega arith) round (omega arith) go_end

      -- a part of the body, from its place on
      part_does : (q : Part) (at : ℕ) → MeansIn b (suc breaks) loops (λ c pc. all_code (spot_in b) c body pc) (all_size (spot_in b) body) q (pc + head) at → (line1 : ℕ) → Goes b at (λ env st. q (ways_in b line1 jump (next ∷ behind) again) env st (λ _. next))
      part_does q at f line1 = f line1 (inner c pc) jump (next ∷ behind) again next (body_at c pc has) inner_round jumps go_end

      reach : (xs : List Branching) (ps : List ℕ) (cs : List TCommunication) → BodiesFrom b (suc breaks) loops body (pc + head) (pc + head) xs ps cs → Reaches b line jump (next ∷ behind) again next (pc + head) xs ps cs
      reach [] [] [] f = tt
      reach (x ∷ xs) (p ∷ ps) (c ∷ cs) f = ((f.0.0, (f.0.1.0, part_does x.body p f.0.1.1 line)), reach xs ps cs f.1)
      reach [] [] (c ∷ cs) f = f
      reach [] (p ∷ ps) cs f = f
      reach (x ∷ xs) [] cs f = f
      reach (x ∷ xs) (p ∷ ps) [] f = f

      alternates : (n : ℕ) → Goes b pc (alternated (branchings body n) (ways_in b line jump behind again) next)
      alternates n = record {
        by = λ env st slots last vars.
            let w = ways_in b line jump behind again in
            let cs = cases_in body in
            let xs = branchings body n in
            let ps = body_places (spot_in b) body (pc + head) in
            let to = (spot_in b).turns in
            let branch = to + sum_by (talk_size s) cs in
            let got = branch + 1 + 4 * length cs in
            let free = got + most_received s cs in
            let from = bodies_from b (suc breaks) loops body rows n (pc + head) (pc + head) (omega arith) in
            let are : communications xs ≡ cs = communications_are (suc breaks) loops body (pc + head) (pc + head) xs ps cs from in
            let ca = talks_code s cs to in
            let cb = here s (op.Talk (talk_branches s cs to) (branch + 1) branch got) in
            let cd = dispatch s 0 cs ps branch got free in
            let front = has_front (site_of b) pc (ca ++ (cb ++ cd)) (all_code (spot_in b) (inner c pc) body (pc + head)) has in
            let back = has_back (site_of b) pc ca (cb ++ cd) front in
            let len1 = length-append ca (cb ++ cd) in
            let size_is = head_length s (spot_in b) body (pc + head) in
            comes_out (site_of b) (ap (λ ds. values_of (alt_exprs ds) w env st (λ values env st. asks w (act.Talk (alt_branches w.program ds values)) env st (λ words env st. went_on (slice_get xs (slice_index words 0)) (drop 1 words) (ways_in b line jump (next ∷ behind) again) env st (λ _. next)))) are)
            (talks_do b line jump behind again cs talks to (omega arith) pc slots last env st (λ values env st. asks w (act.Talk (alt_branches w.program cs values)) env st (λ words env st. went_on (slice_get xs (slice_index words 0)) (drop 1 words) (ways_in b line jump (next ∷ behind) again) env st (λ _. next))) vars (has_front (site_of b) pc ca (cb ++ cd) front) (λ vs env2 st2 now last2 vars2 stays asked.
            talk_does (site_of b) (alt_branches b.program cs vs) (λ words st. went_on (slice_get xs (slice_index words 0)) (drop 1 words) (ways_in b line jump (next ∷ behind) again) env2 st (λ _. next)) back.0 asked (λ i words st3 r.
            let count = asked_length b cs vs in
            let lt : i < length cs = ⊎_elim (λ e. absurd (some_branches cs vs some e)) (λ lt. omega (arith, lt, count)) r.known in
            let d = case_there cs i lt in
            let received : length words ≡ received_words s d.0 = ap length r.is ∙ (cut_length (received_by (slice_get (alt_branches b.program cs vs) i)) (2 ^ 32) r.given ∙ receives_at cs vs i d.0 d.1) in
            let fits = no_more cs i d.0 d.1 in
            let small : AreWords words = subst AreWords (sym r.is) (cut_words (received_by (slice_get (alt_branches b.program cs vs) i)) r.given) in
            let ready : Slots = forget (branch + 1) (4 * length (talk_branches s cs to)) now in
            let with_branch : Slots = put branch i ready in
            let now2 : Slots = put_all got words with_branch in
            let below1 : Below branch ready now = λ j l. below_outside (branch + 1) (4 * length (talk_branches s cs to)) ready now (forget_outside now (branch + 1) (4 * length (talk_branches s cs to))) j (omega (arith, l)) in
            let below2 : Below branch with_branch now = put_below ready now branch i branch (omega arith) below1 in
            let below3 : Below branch now2 now = λ j l. put_all_below words got with_branch j (omega (arith, l)) ∙ below2 j l in
            let there : now2 branch ≡ Some (0 + i) = let z : i ≡ 0 + i = omega arith in put_all_below words got with_branch branch (omega arith) ∙ (put_same ready branch i ∙ ap Some z) in
            let vars3 = vars_kept (scene_of b 0) env2 branch now2 now (omega arith) below3 vars2 in
            dispatch_does b line jump (next ∷ behind) again next (pc + head) xs ps cs (reach xs ps cs from) wents 0 i lt (omega (arith, few)) words branch got free (pc + length ca + 1) now2 last2 env2 st3 (omega arith) (omega arith) (omega (arith, received, fits)) (λ c e. received ∙ ap (received_words s) (same_case d.0 c (sym d.1 ∙ e))) small there (put_all_holds words got with_branch) vars3 back.1 (omega (arith, size_is, len1)))));
      }
        where
          same_case : (d c : TCommunication) → Some d ≡ Some c → d ≡ c
          same_case d c e = cc

    from_inside : (pc : ℕ) (o : Option Part) (i : Option ℕ) → FromIn b (suc breaks) loops body (pc + head) o i → From (site_of b) (vars_of b) (spot_in b) b.call (returned b.row.locals b.given) (become_in b.row.locals b.instead b.given) (IsKnown b) breaks loops whole (head + size) pc (inside rest_of_cases o) i
    from_inside pc None None f = tt
    from_inside pc (Some q) (Some at) f = λ line0 c jump behind again next has round jumps go. part_does pc c jump behind again next has round jumps go q at f line0
    from_inside pc None (Some at) f = absurd f
    from_inside pc (Some q) None f = absurd f

    whole_length : (c : Targets) (pc : ℕ) → length (whole c pc) ≡ head + size
    whole_length c pc =
        let a = head_length s (spot_in b) body (pc + head) in
        let q = (all_in b body rows).sized (inner c pc) (pc + head) in
        omega (arith, a, q, length-append (head_code pc) (all_code (spot_in b) (inner c pc) body (pc + head)))

  pub alt_does : (breaks loops : ℕ) (shape : _) (body : Row_of-TStmt _) → 1 ≤ length (cases_in body) → length (cases_in body) ≤ 64 → AllByRecursion (TalkIn b line) (cases_in body) → AllByRecursion (WentIn b line) (cases_in body) → RowsIn b (suc breaks) loops body → StmtIn b breaks loops (Alt' line shape body)
  alt_does breaks loops shape body some few talks wents rows = record {
    sized = λ c pc. whole_length breaks loops body some few talks wents rows c pc;
    by = λ n pc line0 c jump behind again next has round jumps go. alternates breaks loops body some few talks wents rows pc c jump behind again next has round jumps go n;
    from = λ n l pc. from_inside breaks loops body some few talks wents rows pc (part_from_row l body n) (place_in_row (spot_in b) l body (pc + alt_size (at_line line (spot_in b)) (cases_in body))) ((all_in b body rows).from n l (pc + alt_size (at_line line (spot_in b)) (cases_in body)));
  }

-- Harts follow talks, and starts of procs, tasks and branches of par, in a program whose image is laid out.
use Rattle.std.proofs.Common.{◌≡◌, ◌≢◌, ℕ, zero, suc, ◌+◌, ◌*◌, ◌^◌, ◌<◌, ◌≤◌, true, List, [], ◌∷◌, ◌++◌, length, Option, Some, None, refl, sym, arith, subst, ◌⊎◌, inl, inr, ⊎_elim}
use Rattle.std.specs.Prelude.{All, slice_index_or}
use Rattle.al_ir.specs.Bounds.{BranchFits, IsApart, AreApart, Has}
use Rattle.al_ir.specs.declared.op.TalkBranch.{TalkBranch}
use Rattle.al_ir.specs.declared.ir.Function.{Function}
use Rattle.al_ir.specs.declared.ir.Ir.{Ir}
use Rattle.al_ir.specs.declared.ir.Operation.{Operation}
use Rattle.al_ir.specs.declared.op.Op.{Op}
use Rattle.al_ir.specs.declared.op.Op.TheVariants as op
use Rattle.al_ir.specs.Control.{Frame as IrFrame, Control, operation_at, function_at, arguments_of}
use Rattle.al_ir.specs.Step.{step_op}
use Rattle.rv_isa.specs.declared.image.Contents.{Contents}
use Rattle.rv_exec.specs.Hart.{Hart}
use Rattle.rv_exec.specs.Calls.{Privates}
use Rattle.rv_code.specs.Runs.{Fine}
use Rattle.rv_form.specs.Layout.{Layout}
use Rattle.rv_match.specs.Match.{Private, InFrame}
use Rattle.rv_match.proofs.Steps.{Does, here}
use Rattle.rv_alike.specs.Within.{places, live_in, midway_in}
use Rattle.rv_alike.specs.LaidOut.{IsLaidOut}
use Rattle.rv_alike.proofs.Ranges.{only_one, range, in_first, in_rest}
use Rattle.rv_alike.proofs.Facts.{homes_are, its, slots_are, line_is, code, behind, form_fits, lives, framed, passes_to, slot_in}
use Rattle.rv_exec.specs.Calls.{has_function}
use Rattle.rv_code.specs.declared.home.Home.TheVariants.{Frame}
use Rattle.rv_regs.specs.Uses.{Range, IsIn, reads, in_frame}
use Rattle.rv_talks.proofs.Starts.{proc_does, task_does}
use Rattle.rv_talks.proofs.ParActs.{par_does}
use Rattle.rv_talks.proofs.TalkActs.{AllFit, talk_does}
use Rattle.rv_alike.proofs.Facts.{live, stays, stands_apart}
use Rattle.rv_alike.proofs.Ranges.{is_in_one}

-- ---- slots among ranges

in_left : (xs ys : List Range) (t : ℕ) → IsIn t xs → IsIn t (xs ++ ys)
in_left [] ys t q = absurd (omega (arith, q.2))
in_left (x ∷ xs) ys t q = on q.0 q.1 q.2 q.3 q.4 (λ k y less e is. in_left xs ys t (k, y, less, e, is)) where
  on : (k : ℕ) (y : Range) → k < length (x ∷ xs) → slice_index_or (x ∷ xs) k y ≡ y → (y.from ≤ t) × (t < y.from + y.count)
      → ((k : ℕ) (y : Range) → k < length xs → slice_index_or xs k y ≡ y → (y.from ≤ t) × (t < y.from + y.count) → IsIn t (xs ++ ys)) → IsIn t (x ∷ (xs ++ ys))
  on zero y less e is more = (0, y, omega arith, e, is)
  on (suc k) y less e is more = in_rest x (xs ++ ys) t (more k y (omega (arith, less)) e is)

in_right : (xs ys : List Range) (t : ℕ) → IsIn t ys → IsIn t (xs ++ ys)
in_right [] ys t q = q
in_right (x ∷ xs) ys t q = in_rest x (xs ++ ys) t (in_right xs ys t q)

in_either : (xs ys : List Range) (t : ℕ) → IsIn t (xs ++ ys) → IsIn t xs ⊎ IsIn t ys
in_either [] ys t q = inr q
in_either (x ∷ xs) ys t q = on q.0 q.1 q.2 q.3 q.4 (λ k y less e is. in_either xs ys t (k, y, less, e, is)) where
  on : (k : ℕ) (y : Range) → k < length (x ∷ (xs ++ ys)) → slice_index_or (x ∷ (xs ++ ys)) k y ≡ y → (y.from ≤ t) × (t < y.from + y.count)
      → ((k : ℕ) (y : Range) → k < length (xs ++ ys) → slice_index_or (xs ++ ys) k y ≡ y → (y.from ≤ t) × (t < y.from + y.count) → IsIn t xs ⊎ IsIn t ys) → IsIn t (x ∷ xs) ⊎ IsIn t ys
  on zero y less e is more = inl (0, y, omega arith, e, is)
  on (suc k) y less e is more = ⊎_elim (λ a. inl (in_rest x xs t a)) (λ a. inr a) (more k y (omega (arith, less)) e is)

-- the words that a branch sends or receives
abbrev WordsFit : Function → (records count to got words : ℕ) → Option ℕ → Type 0
WordsFit f records count to got words None = Has f got words × IsApart to got words
WordsFit f records count to got words (Some t) = Has f t words × AreApart t words records count

-- ---- slots of talks

-- the channels of branches, the words that they send, and those that they receive
abbrev channels : List TalkBranch → List Range
channels [] = []
channels (b ∷ bs) = (range b.chan 1 ∷ []) ++ channels bs

abbrev sent : Option ℕ → (words : ℕ) → List Range
sent None words = []
sent (Some t) words = range t words ∷ []

abbrev sent_by : List TalkBranch → List Range
sent_by [] = []
sent_by (b ∷ bs) = sent b.send b.words ++ sent_by bs

abbrev received : (got : ℕ) → List TalkBranch → List Range
received got [] = []
received got (b ∷ bs) = elim b.send [ None ↦ range got b.words ∷ [] | Some t ↦ [] ] ++ received got bs

module _ (ir : Ir) (records to got : ℕ) where
  abbrev talk : List TalkBranch → Op
  talk bs = op.Talk bs records to got

  reads_are : (bs : List TalkBranch) → reads ir (talk bs) ≡ channels bs ++ sent_by bs
  reads_are bs = refl

  framed_are : (bs : List TalkBranch) → in_frame ir (talk bs) ≡ (range records (4 * length bs) ∷ []) ++ sent_by bs ++ received got bs
  framed_are bs = refl

  -- what is read or stands in the frame for some branches is so for one more
  more_reads : (b : TalkBranch) (bs : List TalkBranch) (t : ℕ) → IsIn t (reads ir (talk bs)) → IsIn t (reads ir (talk (b ∷ bs)))
  more_reads b bs t q =
      ⊎_elim (λ a. in_left (channels (b ∷ bs)) (sent_by (b ∷ bs)) t (in_right (range b.chan 1 ∷ []) (channels bs) t a))
      (λ a. in_right (channels (b ∷ bs)) (sent_by (b ∷ bs)) t (in_right (sent b.send b.words) (sent_by bs) t a)) (in_either (channels bs) (sent_by bs) t q)

  more_frame : (b : TalkBranch) (bs : List TalkBranch) (t : ℕ) → IsIn t (in_frame ir (talk bs)) → IsIn t (in_frame ir (talk (b ∷ bs)))
  more_frame b bs t q =
      let first : List Range = range records (4 * length bs) ∷ [] in
      let wider : List Range = range records (4 * length (b ∷ bs)) ∷ [] in
      ⊎_elim
      (λ a. ⊎_elim
      (λ r. let s = is_in_one (range records (4 * length bs)) t r in
      in_left (wider ++ sent_by (b ∷ bs)) (received got (b ∷ bs)) t (in_left wider (sent_by (b ∷ bs)) t (in_first (range records (4 * length (b ∷ bs))) [] t s.0 (omega (arith, s.1)))))
      (λ r. in_left (wider ++ sent_by (b ∷ bs)) (received got (b ∷ bs)) t (in_right wider (sent_by (b ∷ bs)) t (in_right (sent b.send b.words) (sent_by bs) t r)))
      (in_either first (sent_by bs) t a))
      (λ a. in_right (wider ++ sent_by (b ∷ bs)) (received got (b ∷ bs)) t (in_right (elim b.send [ None ↦ range got b.words ∷ [] | Some k ↦ [] ]) (received got bs) t a))
      (in_either (first ++ sent_by bs) (received got bs) t q)

  chan_in : (b : TalkBranch) (bs : List TalkBranch) → IsIn b.chan (reads ir (talk (b ∷ bs)))
  chan_in b bs = in_left (channels (b ∷ bs)) (sent_by (b ∷ bs)) b.chan (in_first (range b.chan 1) (channels bs) b.chan (omega arith) (omega arith))

  in_sent : (b : TalkBranch) (t i : ℕ) → b.send ≡ Some t → i < b.words → IsIn (t + i) (sent b.send b.words)
  in_sent b t i e less = subst (λ (s : Option ℕ). IsIn (t + i) (sent s b.words)) (sym e) (in_first (range t b.words) [] (t + i) (omega arith) (omega (arith, less)))

  sent_in : (b : TalkBranch) (bs : List TalkBranch) (t i : ℕ) → b.send ≡ Some t → i < b.words → IsIn (t + i) (reads ir (talk (b ∷ bs)))
  sent_in b bs t i e less = in_right (channels (b ∷ bs)) (sent_by (b ∷ bs)) (t + i) (in_left (sent b.send b.words) (sent_by bs) (t + i) (in_sent b t i e less))

  sent_framed : (b : TalkBranch) (bs : List TalkBranch) (t i : ℕ) → b.send ≡ Some t → i < b.words → IsIn (t + i) (in_frame ir (talk (b ∷ bs)))
  sent_framed b bs t i e less =
      let wider : List Range = range records (4 * length (b ∷ bs)) ∷ [] in
      in_left (wider ++ sent_by (b ∷ bs)) (received got (b ∷ bs)) (t + i) (in_right wider (sent_by (b ∷ bs)) (t + i) (in_left (sent b.send b.words) (sent_by bs) (t + i) (in_sent b t i e less)))

  got_framed : (b : TalkBranch) (bs : List TalkBranch) (i : ℕ) → b.send ≡ None → i < b.words → IsIn (got + i) (in_frame ir (talk (b ∷ bs)))
  got_framed b bs i e less =
      let wider : List Range = range records (4 * length (b ∷ bs)) ∷ [] in
      in_right (wider ++ sent_by (b ∷ bs)) (received got (b ∷ bs)) (got + i) (in_left (elim b.send [ None ↦ range got b.words ∷ [] | Some k ↦ [] ]) (received got bs) (got + i)
      (subst (λ (s : Option ℕ). IsIn (got + i) (elim s [ None ↦ range got b.words ∷ [] | Some k ↦ [] ])) (sym e) (in_first (range got b.words) [] (got + i) (omega arith) (omega (arith, less)))))

module _ (ir : Ir) (image : Contents) (l : Layout) (all : IsLaidOut ir image l) (left : ℕ) (fr : IrFrame) (below : List IrFrame) (c : Control) (u : List ℕ) (h : Hart) (p : Privates)
    (o : Operation) (at : operation_at ir fr.function fr.pc ≡ Some o) (m : InFrame ir image (places l) (live_in ir l all.homes) (midway_in ir l) left fr below 0 c.text c.last h) (same : Private ir u p) (fine : Fine h p) where
  abbrev Goes : Op → Type 0
  Goes x = Does ir image (places l) (live_in ir l all.homes) (midway_in ir l) left h p (step_op x (here ir image (places l) (live_in ir l all.homes) (midway_in ir l) left fr below c o.line u h p))

  -- ---- talks

  module _ (bs : List TalkBranch) (records to got : ℕ) (e : o.op ≡ op.Talk bs records to got) where
    abbrev Fit : List TalkBranch → Type 0
    Fit rest = AllFit ir image (places l) (live_in ir l all.homes) (midway_in ir l) left fr below c o.line u h p (homes_are ir image l all) all.small m same fine (all.laid.low fr.function (fr.pc + 1)) (line_is ir image l all fr.function fr.pc o at) bs records to got rest

    -- the branches of a talk, of which some are left
    all_fit : (rest : List TalkBranch) → ((t : ℕ) → IsIn t (reads ir (op.Talk rest records to got)) → IsIn t (reads ir (op.Talk bs records to got))) → ((t : ℕ) → IsIn t (in_frame ir (op.Talk rest records to got)) → IsIn t (in_frame ir (op.Talk bs records to got)))
        → All (BranchFits (its ir image l all fr.function fr.pc o at).function records (4 * length bs) to got) rest → Fit rest
    all_fit [] f g q = tt
    all_fit (b ∷ rest) f g q = (
      record {
        chan = lives ir image l all fr.function fr.pc o at (op.Talk bs records to got) e b.chan (f b.chan (chan_in ir records to got b rest));
        apart = one.1.0;
        few = one.1.1.0;
        receives = λ k. received k one.1.1.1;
        sends = λ t k. sent t k one.1.1.1;
      },
      all_fit rest (λ t r. f t (more_reads ir records to got b rest t r)) (λ t r. g t (more_frame ir records to got b rest t r)) (λ k d less. q (suc k) d (omega (arith, less))),
    ) where
      one : BranchFits (its ir image l all fr.function fr.pc o at).function records (4 * length bs) to got b
      one = q 0 b (omega arith)

      abbrev_slots : (t n : ℕ) → Has (its ir image l all fr.function fr.pc o at).function t n → t + n ≤ l.slots fr.function
      abbrev_slots t n r = omega (arith, r, slots_are ir image l all fr.function fr.pc o at)

      received : b.send ≡ None → WordsFit (its ir image l all fr.function fr.pc o at).function records (4 * length bs) to got b.words b.send
          → (got + b.words ≤ l.slots fr.function) × ((to < got) ⊎ (got + b.words ≤ to)) × ((i : ℕ) → i < b.words → l.home fr.function (got + i) ≡ Frame (got + i))
      received k r =
          let s = subst (λ (x : Option ℕ). WordsFit (its ir image l all fr.function fr.pc o at).function records (4 * length bs) to got b.words x) k r in
          (abbrev_slots got b.words s.0, s.1, λ i less. framed ir image l all fr.function fr.pc o at (op.Talk bs records to got) e (got + i) (g (got + i) (got_framed ir records to got b rest i k less)))

      sent : (t : ℕ) → b.send ≡ Some t → WordsFit (its ir image l all fr.function fr.pc o at).function records (4 * length bs) to got b.words b.send
          → (t + b.words ≤ l.slots fr.function) × ((t + b.words ≤ records) ⊎ (records + 4 * length bs ≤ t)) × ((i : ℕ) → i < b.words → live ir image l all fr.function fr.pc 0 (t + i) × (l.home fr.function (t + i) ≡ Frame (t + i)))
      sent t k r =
          let s = subst (λ (x : Option ℕ). WordsFit (its ir image l all fr.function fr.pc o at).function records (4 * length bs) to got b.words x) k r in (
            abbrev_slots t b.words s.0,
            s.1,
            λ i less. (lives ir image l all fr.function fr.pc o at (op.Talk bs records to got) e (t + i) (f (t + i) (sent_in ir records to got b rest t i k less)), framed ir image l all fr.function fr.pc o at (op.Talk bs records to got) e (t + i) (g (t + i) (sent_framed ir records to got b rest t i k less))),
          )

    in_two : (t : ℕ) → IsIn t (range to 1 ∷ range records (4 * length bs) ∷ []) → t ≢ to → (records ≤ t) × (t < records + 4 * length bs)
    in_two t q other = ⊎_elim (λ a. let r = is_in_one (range to 1) t a in absurd (other (omega (arith, r.0, r.1)))) (λ a. is_in_one (range records (4 * length bs)) t a) (in_either (range to 1 ∷ []) (range records (4 * length bs) ∷ []) t q)

    pub talk_goes : Goes (op.Talk bs records to got)
    talk_goes =
        let f = (form_fits ir image l all fr.function fr.pc o at (op.Talk bs records to got) e) in
        talk_does ir image (places l) (live_in ir l all.homes) (midway_in ir l) left fr below c o.line u h p (homes_are ir image l all) all.small m same fine (all.laid.low fr.function (fr.pc + 1)) (line_is ir image l all fr.function fr.pc o at) bs records to got (all_fit bs (λ t r. r) (λ t r. r) f.1.1.1.1) f.0 f.1.0 (omega (arith, f.1.1.0, slots_are ir image l all fr.function fr.pc o at)) (slot_in ir image l all fr.function fr.pc o at to f.1.1.1.0)
        (λ t a other. stands_apart ir image l all fr.function fr.pc o at (op.Talk bs records to got) e (fr.pc + 1) to t (only_one (fr.pc + 1)) (in_left ((range to 1 ∷ []) ++ (range records (4 * length bs) ∷ [])) (received got bs) to (in_first (range to 1) (range records (4 * length bs) ∷ []) to (omega arith) (omega arith))) a (λ q. other (sym q)))
        (λ t a other. ⊎_elim (λ q. inl (in_two t q other)) (λ q. inr q) (stays ir image l all fr.function fr.pc o at (op.Talk bs records to got) e (fr.pc + 1) t (only_one (fr.pc + 1)) a))
        (code ir image l all fr.function fr.pc o at (op.Talk bs records to got) e) (behind ir image l all fr.function fr.pc o at (op.Talk bs records to got) e)

  -- ---- starts

  few_functions : (g : ℕ) → g < length ir.functions → g < 2 ^ 32
  few_functions g less = omega (arith, less, all.bounded.count)

  has_words : (g words : ℕ) → g < length ir.functions → arguments_of (function_at ir g) ≡ words → has_function image g words ≡ true
  has_words g words less e = subst (λ n. has_function image g n ≡ true) e (all.words g less)

  pub proc : (g a n : ℕ) → o.op ≡ op.Proc g a n → Goes (op.Proc g a n)
  proc g a n e =
      let f = (form_fits ir image l all fr.function fr.pc o at (op.Proc g a n) e) in
      proc_does ir image (places l) (live_in ir l all.homes) (midway_in ir l) left fr below c o.line u h p (homes_are ir image l all) all.small m same fine (all.laid.low fr.function (fr.pc + 1)) (line_is ir image l all fr.function fr.pc o at) (passes_to ir image l all fr.function fr.pc o at (op.Proc g a n) e (fr.pc + 1) refl (only_one (fr.pc + 1))) g a n (few_functions g f.0.0) (has_words g n f.0.0 f.0.1) (omega (arith, f.1, slots_are ir image l all fr.function fr.pc o at))
      (λ i less. lives ir image l all fr.function fr.pc o at (op.Proc g a n) e (a + i) (in_first (range a n) [] (a + i) (omega arith) (omega (arith, less)))) (λ i less. framed ir image l all fr.function fr.pc o at (op.Proc g a n) e (a + i) (in_first (range a n) [] (a + i) (omega arith) (omega (arith, less))))
      (code ir image l all fr.function fr.pc o at (op.Proc g a n) e) (behind ir image l all fr.function fr.pc o at (op.Proc g a n) e)

  pub task : (g a n : ℕ) → o.op ≡ op.Task g a n → Goes (op.Task g a n)
  task g a n e =
      let f = (form_fits ir image l all fr.function fr.pc o at (op.Task g a n) e) in
      task_does ir image (places l) (live_in ir l all.homes) (midway_in ir l) left fr below c o.line u h p (homes_are ir image l all) all.small m same fine (all.laid.low fr.function (fr.pc + 1)) (line_is ir image l all fr.function fr.pc o at) (passes_to ir image l all fr.function fr.pc o at (op.Task g a n) e (fr.pc + 1) refl (only_one (fr.pc + 1))) g a n (few_functions g f.0.0) (has_words g n f.0.0 f.0.1) (omega (arith, f.1, slots_are ir image l all fr.function fr.pc o at))
      (λ i less. lives ir image l all fr.function fr.pc o at (op.Task g a n) e (a + i) (in_first (range a n) [] (a + i) (omega arith) (omega (arith, less)))) (λ i less. framed ir image l all fr.function fr.pc o at (op.Task g a n) e (a + i) (in_first (range a n) [] (a + i) (omega arith) (omega (arith, less))))
      (code ir image l all fr.function fr.pc o at (op.Task g a n) e) (behind ir image l all fr.function fr.pc o at (op.Task g a n) e)

  pub par : (gs : List ℕ) (a n records : ℕ) → o.op ≡ op.Par gs a n records → Goes (op.Par gs a n records)
  par gs a n records e =
      let f = (form_fits ir image l all fr.function fr.pc o at (op.Par gs a n records) e) in
      let starts = f.1.1.1.1.1 in
      par_does ir image (places l) (live_in ir l all.homes) (midway_in ir l) left fr below c o.line u h p (homes_are ir image l all) all.small m same fine (all.laid.low fr.function (fr.pc + 1)) (line_is ir image l all fr.function fr.pc o at) gs a n records f.0 f.1.0 (λ k d less. few_functions (slice_index_or gs k d) (starts k d less).0)
      (λ k d less. has_words (slice_index_or gs k d) n (starts k d less).0 (starts k d less).1) (omega (arith, f.1.1.1.0, slots_are ir image l all fr.function fr.pc o at)) (omega (arith, f.1.1.0, slots_are ir image l all fr.function fr.pc o at)) f.1.1.1.1.0
      (λ i less. lives ir image l all fr.function fr.pc o at (op.Par gs a n records) e (a + i) (in_first (range a n) [] (a + i) (omega arith) (omega (arith, less))))
      (λ i less. framed ir image l all fr.function fr.pc o at (op.Par gs a n records) e (a + i) (in_rest (range records (3 * length gs)) (range a n ∷ []) (a + i) (in_first (range a n) [] (a + i) (omega arith) (omega (arith, less)))))
      (λ t q. ⊎_elim (λ r. inl (is_in_one (range records (3 * length gs)) t r)) (λ r. inr r) (stays ir image l all fr.function fr.pc o at (op.Par gs a n records) e (fr.pc + 1) t (only_one (fr.pc + 1)) q))
      (code ir image l all fr.function fr.pc o at (op.Par gs a n records) e) (behind ir image l all fr.function fr.pc o at (op.Par gs a n records) e)

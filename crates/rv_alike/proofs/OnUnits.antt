-- Harts follow operations on the units of values, and those that compose texts from shared memory, in a program whose image is
-- laid out.
use Rattle.std.proofs.Common.{◌≡◌, ℕ, zero, suc, ◌+◌, ◌*◌, ◌^◌, ◌<◌, ◌≤◌, List, [], ◌∷◌, length, slice_get, Option, Some, refl, sym, ap, ◌∙◌, arith, subst, ◌⊎◌, inl, inr, ⊎_elim}
use Rattle.std.specs.Prelude.{All}
use Rattle.std.proofs.lemmas.Bool.{cases_lt}
use Rattle.al_ir.specs.Bounds.{IsSize, IsLayout, most_words}
use Rattle.al_ir.specs.Units.{units_in, units_at, units_or_none}
use Rattle.al_ir.specs.declared.ir.Run.{Run}
use Rattle.al_ir.specs.declared.ir.Ir.{Ir}
use Rattle.al_ir.specs.declared.ir.Operation.{Operation}
use Rattle.al_ir.specs.declared.op.Op.{Op}
use Rattle.al_ir.specs.declared.op.Op.TheVariants as op
use Rattle.al_ir.specs.Control.{Slots, Frame as IrFrame, Control, operation_at}
use Rattle.al_ir.specs.Step.{step_op}
use Rattle.rv_isa.specs.declared.image.Contents.{Contents}
use Rattle.rv_exec.specs.Hart.{Hart}
use Rattle.rv_exec.specs.Calls.{Privates}
use Rattle.rv_code.specs.Runs.{Fine}
use Rattle.rv_form.specs.Layout.{Layout}
use Rattle.rv_match.specs.Match.{Private, InFrame}
use Rattle.rv_match.proofs.Steps.{Does, here}
use Rattle.rv_alike.specs.Within.{places, live_in, midway_in}
use Rattle.rv_alike.specs.LaidOut.{IsLaidOut}
use Rattle.rv_alike.proofs.Ranges.{only_one, range, in_first, in_rest}
use Rattle.rv_alike.proofs.Facts.{homes_are, slots_are, line_is, code, behind, form_fits, lives, framed, passes_to, size_is}
use Rattle.rv_form.specs.Units.{Way, Loads, Stores, Clears}
use Rattle.rv_units.proofs.Runs.{AreRuns}
use Rattle.rv_units.proofs.Scanning.{put_text_does}
use Rattle.rv_units.proofs.Values.{load_units_does, store_units_does, clear_units_does}
use Rattle.rv_alike.specs.Within.{IsLoaded, IsLoadedBy, midway_at, midway_by}
use Rattle.rv_alike.proofs.Facts.{live, stays}
use Rattle.rv_alike.proofs.Ranges.{all_at, is_in_one}

-- ---- layouts

get_is : {X : Type 0} (xs : List X) (k : ℕ) → k < length xs → (x : X) × (slice_get xs k ≡ Some x)
get_is [] k less = absurd (omega (arith, less))
get_is (x ∷ xs) zero less = (x, refl)
get_is (x ∷ xs) (suc k) less = get_is xs k (omega (arith, less))

runs_are : (image : Contents) (small : length image.code ≤ 2 ^ 23) (way : Way) (runs : List Run) → All (λ (r : Run). IsSize r.size) runs → All (λ (r : Run). r.at + r.count * r.size ≤ most_words) runs → AreRuns image small way runs
runs_are image small way [] sizes within = tt
runs_are image small way (r ∷ runs) sizes within = (
  (size_is r.size (sizes 0 r (omega arith)), within 0 r (omega arith)),
  runs_are image small way runs (λ k d less. sizes (suc k) d (omega (arith, less))) (λ k d less. within (suc k) d (omega (arith, less))),
)

module _ (ir : Ir) (image : Contents) (l : Layout) (all : IsLaidOut ir image l) (left : ℕ) (fr : IrFrame) (below : List IrFrame) (c : Control) (u : List ℕ) (h : Hart) (p : Privates)
    (o : Operation) (at : operation_at ir fr.function fr.pc ≡ Some o) (m : InFrame ir image (places l) (live_in ir l all.homes) (midway_in ir l) left fr below c.unit c.text c.last h) (same : Private ir u p) (fine : Fine h p) where
  abbrev Goes : Op → Type 0
  Goes x = Does ir image (places l) (live_in ir l all.homes) (midway_in ir l) left h p (step_op x (here ir image (places l) (live_in ir l all.homes) (midway_in ir l) left fr below c o.line u h p))

  -- what is live before the operation is live within it
  live_on : (n t : ℕ) → live ir image l all fr.function fr.pc 0 t → live ir image l all fr.function fr.pc n t
  live_on zero t a = a
  live_on (suc n) t a = inl a

  module _ (x : Op) (e : o.op ≡ x) where
    loaded : (n t : ℕ) → IsLoaded (operation_at ir fr.function fr.pc) n t → IsLoadedBy x n t
    loaded n t q = subst (λ (y : Op). IsLoadedBy y n t) e (subst (λ (y : Option Operation). IsLoaded y n t) at q)

    loaded_back : (n t : ℕ) → IsLoadedBy x n t → IsLoaded (operation_at ir fr.function fr.pc) n t
    loaded_back n t q = subst (λ (y : Option Operation). IsLoaded y n t) (sym at) (subst (λ (y : Op). IsLoadedBy y n t) (sym e) q)

    comes_out : (n : ℕ) (slots : Slots) (sp : ℕ) (g : Hart) → midway_in ir l fr.function fr.pc n slots sp g → midway_by l x fr.function fr.pc n slots sp g
    comes_out n slots sp g q = subst (λ (y : Op). midway_by l y fr.function fr.pc n slots sp g) e (subst (λ (y : Option Operation). midway_at l y fr.function fr.pc n slots sp g) at q)

    comes_in : (n : ℕ) (slots : Slots) (sp : ℕ) (g : Hart) → midway_by l x fr.function fr.pc n slots sp g → midway_in ir l fr.function fr.pc n slots sp g
    comes_in n slots sp g q = subst (λ (y : Option Operation). midway_at l y fr.function fr.pc n slots sp g) (sym at) (subst (λ (y : Op). midway_by l y fr.function fr.pc n slots sp g) (sym e) q)

    -- where nothing is loaded, what is live within the operation is live before it
    within_same : ((n t : ℕ) → IsLoadedBy x n t → ⊥) → (n t : ℕ) → live ir image l all fr.function fr.pc n t → live ir image l all fr.function fr.pc 0 t
    within_same none zero t a = a
    within_same none (suc n) t a = ⊎_elim (λ q. q) (λ q. absurd (none (suc n) t (loaded (suc n) t q))) a

  -- ---- a layout

  module _ (layout : ℕ) (is : layout < length ir.layouts) where
    abbrev runs : List Run
    runs = l.runs layout

    found : slice_get ir.layouts layout ≡ Some (l.runs layout)
    found = let g = get_is ir.layouts layout is in g.1 ∙ ap (λ (rs : List Run). Some rs) (sym (all.runs layout g.0 g.1))

    its_layout : IsLayout (l.runs layout)
    its_layout = all_at IsLayout ir.layouts layout (l.runs layout) found all.bounded.layouts

    counts : length (units_at ir layout) ≡ length (units_in (l.runs layout))
    counts = ap (λ (q : Option (List Run)). length (units_or_none q)) found

    are : (way : Way) → AreRuns image all.small way (l.runs layout)
    are way = runs_are image all.small way (l.runs layout) its_layout.sizes its_layout.within

    few : length (units_in (l.runs layout)) ≤ 1024
    few = its_layout.count

  -- ---- the operations

  pub load_units : (to a offset layout : ℕ) → o.op ≡ op.LoadUnits to a offset layout → Goes (op.LoadUnits to a offset layout)
  load_units to a offset layout e =
      let f = (form_fits ir image l all fr.function fr.pc o at (op.LoadUnits to a offset layout) e) in
      let is = f.1.1.1.1 in
      let total : length (units_at ir layout) ≡ length (units_in (l.runs layout)) = counts layout is in
      load_units_does ir image (places l) (live_in ir l all.homes) (midway_in ir l) left fr below c o.line u h p (homes_are ir image l all) all.small m same fine (l.runs layout) layout a offset to f.1.1.1.0 (found layout is) (few layout is) (all.laid.low fr.function (fr.pc + 1)) (line_is ir image l all fr.function fr.pc o at)
      (record {
        reads = λ n le. live_on n a (lives ir image l all fr.function fr.pc o at (op.LoadUnits to a offset layout) e a (in_first (range a 1) ([]) a (omega arith) (omega arith)));
        grows = λ n s less q. grows n s q;
        ends = λ s q. ⊎_elim (λ r. got (length (units_in (l.runs layout))) s (subst (λ k. (to ≤ s) × (s < to + k)) total (is_in_one (range to (length (units_at ir layout))) s r)))
            (λ r. live_on (length (units_in (l.runs layout))) s r) (stays ir image l all fr.function fr.pc o at (op.LoadUnits to a offset layout) e (fr.pc + 1) s (only_one (fr.pc + 1)) q);
        gives = λ q. absurd (cc);
        in_frame = λ q n less. framed ir image l all fr.function fr.pc o at (op.LoadUnits to a offset layout) e (to + n) (in_first (range to (length (units_at ir layout))) [] (to + n) (omega arith) (omega (arith, less, total)));
        are_slots = λ q. omega (arith, f.0, total, slots_are ir image l all fr.function fr.pc o at);
        apart = λ q n less r. away f.1.1.0 n (omega (arith, less, total)) r;
        none_cleared = λ q. absurd (cc);
        comes_in = λ n slots sp g q. comes_in (op.LoadUnits to a offset layout) e (suc n) slots sp g q;
        comes_out = λ n slots sp g q. comes_out (op.LoadUnits to a offset layout) e (suc n) slots sp g q;
      }) (are layout is Loads) ((code ir image l all fr.function fr.pc o at (op.LoadUnits to a offset layout) e), (behind ir image l all fr.function fr.pc o at (op.LoadUnits to a offset layout) e)) where
        got : (n s : ℕ) → (to ≤ s) × (s < to + n) → live ir image l all fr.function fr.pc n s
        got zero s q = absurd (omega (arith, q.0, q.1))
        got (suc n) s q = inr (loaded_back (op.LoadUnits to a offset layout) e (suc n) s q)

        grows : (n s : ℕ) → live ir image l all fr.function fr.pc (suc n) s → (s ≡ to + n) ⊎ live ir image l all fr.function fr.pc n s
        grows n s (inl q) = inr (live_on n s q)
        grows n s (inr q) =
            let r = loaded (op.LoadUnits to a offset layout) e (suc n) s q in
            ⊎_elim (λ less. inr (got n s (r.0, less))) (λ more. inl (omega (arith, more, r.1))) (cases_lt s (to + n))

        away : (a < to) ⊎ (to + length (units_at ir layout) ≤ a) → (n : ℕ) → n < length (units_at ir layout) → a ≡ to + n → ⊥
        away (inl q) n less r = absurd (omega (arith, q, r))
        away (inr q) n less r = absurd (omega (arith, q, r, less))

  pub store_units : (a offset layout from : ℕ) → o.op ≡ op.StoreUnits a offset layout from → Goes (op.StoreUnits a offset layout from)
  store_units a offset layout from e =
      let f = (form_fits ir image l all fr.function fr.pc o at (op.StoreUnits a offset layout from) e) in
      let is = f.1.1.1 in
      let total : length (units_at ir layout) ≡ length (units_in (l.runs layout)) = counts layout is in
      store_units_does ir image (places l) (live_in ir l all.homes) (midway_in ir l) left fr below c o.line u h p (homes_are ir image l all) all.small m same fine (l.runs layout) layout a offset from f.1.1.0 (found layout is) (few layout is) (all.laid.low fr.function (fr.pc + 1)) (line_is ir image l all fr.function fr.pc o at)
      (record {
        reads = λ n le. live_on n a (lives ir image l all fr.function fr.pc o at (op.StoreUnits a offset layout from) e a (in_first (range a 1) (range from (length (units_at ir layout)) ∷ []) a (omega arith) (omega arith)));
        grows = λ n s less q. inr (live_on n s (within_same (op.StoreUnits a offset layout from) e (λ i t r. r) (suc n) s q));
        ends = λ s q. live_on (length (units_in (l.runs layout))) s (passes_to ir image l all fr.function fr.pc o at (op.StoreUnits a offset layout from) e (fr.pc + 1) refl (only_one (fr.pc + 1)) s q);
        gives = λ q n less. live_on n (from + n) (lives ir image l all fr.function fr.pc o at (op.StoreUnits a offset layout from) e (from + n) (in_rest (range a 1) (range from (length (units_at ir layout)) ∷ []) (from + n) (in_first (range from (length (units_at ir layout))) [] (from + n) (omega arith) (omega (arith, less, total)))));
        in_frame = λ q n less. framed ir image l all fr.function fr.pc o at (op.StoreUnits a offset layout from) e (from + n) (in_first (range from (length (units_at ir layout))) [] (from + n) (omega arith) (omega (arith, less, total)));
        are_slots = λ q. omega (arith, f.1.0, total, slots_are ir image l all fr.function fr.pc o at);
        apart = λ q. absurd (cc);
        none_cleared = λ q. absurd (cc);
        comes_in = λ n slots sp g q. comes_in (op.StoreUnits a offset layout from) e (suc n) slots sp g q;
        comes_out = λ n slots sp g q. comes_out (op.StoreUnits a offset layout from) e (suc n) slots sp g q;
      }) (are layout is Stores) ((code ir image l all fr.function fr.pc o at (op.StoreUnits a offset layout from) e), (behind ir image l all fr.function fr.pc o at (op.StoreUnits a offset layout from) e))

  pub clear_units : (a offset layout : ℕ) → o.op ≡ op.ClearUnits a offset layout → Goes (op.ClearUnits a offset layout)
  clear_units a offset layout e =
      let f = (form_fits ir image l all fr.function fr.pc o at (op.ClearUnits a offset layout) e) in
      let is = f.1.1 in
      clear_units_does ir image (places l) (live_in ir l all.homes) (midway_in ir l) left fr below c o.line u h p (homes_are ir image l all) all.small m same fine (l.runs layout) layout a offset 0 f.1.0 (found layout is) (few layout is) (all.laid.low fr.function (fr.pc + 1)) (line_is ir image l all fr.function fr.pc o at)
      (record {
        reads = λ n le. live_on n a (lives ir image l all fr.function fr.pc o at (op.ClearUnits a offset layout) e a (in_first (range a 1) ([]) a (omega arith) (omega arith)));
        grows = λ n s less q. inr (live_on n s (within_same (op.ClearUnits a offset layout) e (λ i t r. r) (suc n) s q));
        ends = λ s q. live_on (length (units_in (l.runs layout))) s (passes_to ir image l all fr.function fr.pc o at (op.ClearUnits a offset layout) e (fr.pc + 1) refl (only_one (fr.pc + 1)) s q);
        gives = λ q. absurd (cc);
        in_frame = λ q. absurd (q refl);
        are_slots = λ q. absurd (q refl);
        apart = λ q. absurd (cc);
        none_cleared = λ q. refl;
        comes_in = λ n slots sp g q. comes_in (op.ClearUnits a offset layout) e (suc n) slots sp g q;
        comes_out = λ n slots sp g q. comes_out (op.ClearUnits a offset layout) e (suc n) slots sp g q;
      }) (are layout is Clears) ((code ir image l all fr.function fr.pc o at (op.ClearUnits a offset layout) e), (behind ir image l all fr.function fr.pc o at (op.ClearUnits a offset layout) e))

module _ (ir : Ir) (image : Contents) (l : Layout) (all : IsLaidOut ir image l) (left : ℕ) (fr : IrFrame) (below : List IrFrame) (c : Control) (u : List ℕ) (h : Hart) (p : Privates)
    (o : Operation) (at : operation_at ir fr.function fr.pc ≡ Some o) (m : InFrame ir image (places l) (live_in ir l all.homes) (midway_in ir l) left fr below 0 c.text c.last h) (same : Private ir u p) (fine : Fine h p) where
  abbrev GoesFirst : Op → Type 0
  GoesFirst x = Does ir image (places l) (live_in ir l all.homes) (midway_in ir l) left h p (step_op x (here ir image (places l) (live_in ir l all.homes) (midway_in ir l) left fr below c o.line u h p))

  pub put_text : (a : ℕ) → o.op ≡ op.PutText a → GoesFirst (op.PutText a)
  put_text a e =
      let la = (lives ir image l all fr.function fr.pc o at (op.PutText a) e a (in_first (range a 1) ([]) a (omega arith) (omega arith))) in
      put_text_does ir image (places l) (live_in ir l all.homes) (midway_in ir l) left fr below c o.line u h p (homes_are ir image l all) all.small m same fine a la (passes_to ir image l all fr.function fr.pc o at (op.PutText a) e (fr.pc + 1) refl (only_one (fr.pc + 1))) (λ t lt other. (all.homes fr.function).apart fr.pc a t la lt (λ q. other (sym q))) o at refl e (code ir image l all fr.function fr.pc o at (op.PutText a) e) (behind ir image l all fr.function fr.pc o at (op.PutText a) e) (all.laid.low fr.function (fr.pc + 1)) (line_is ir image l all fr.function fr.pc o at)

-- Homes that are placed are homes as code needs them.
use Rattle.std.proofs.Common.{◌≡◌, ◌≢◌, ℕ, zero, suc, ◌+◌, ◌<◌, Bool, true, ◌&&◌, nat_lt, List, [], ◌∷◌, length, get_or, Some, refl, sym, ap, ◌∙◌, subst, arith, inl, inr, ◌⊎◌}
use Rattle.std.specs.Prelude.{slice_get, Contains}
use Rattle.std.proofs.lemmas.Bool.{false≢true}
use Rattle.std.proofs.lemmas.Option.{slice_get_within}
use Rattle.al_ir.specs.declared.ir.Function.{Function}
use Rattle.al_ir.specs.declared.ir.Operation.{Operation}
use Rattle.al_ir.specs.declared.ir.Ir.{Ir}
use Rattle.al_ir.specs.Control.{operation_at, function_at, arguments_of, code_of}
use Rattle.rv_code.specs.Homes.{Apart}
use Rattle.rv_code.specs.declared.home.Home.{Home}
use Rattle.rv_code.specs.declared.home.Home.TheVariants.{Frame, Saved}
use Rattle.rv_regs.specs.Homes.{IsHomeOf, AreHomes, home_at}
use Rattle.rv_regs.specs.Uses.{IsIn, reads, writes, surely_writes, in_frame, comes_next, calls}
use Rattle.rv_regs.specs.Marks.{marked, any_marked, agrees, busy_of}
use Rattle.rv_regs.specs.Placed.{ArePlaced}
use Rattle.rv_regs.proofs.Marking.{agrees_at, any_at, busy_where_live, busy_at_first, busy_behind, left_of_and, right_of_and}
use Rattle.rv_regs.proofs.Saying.{Says, says}
use Rattle.rv_regs.proofs.Naming.{is_in_is, is_in_back, is_found, is_read, is_written, is_surely, is_calling, only_next, lt_is, is_lt}

-- live before an operation: what stands in the frame always is
live_of : Home → (count : ℕ) → (marks : List Bool) → (pc : ℕ) → Bool
live_of (Frame k) count marks pc = true
live_of (Saved r) count marks pc = nat_lt pc count && marked marks pc

home_cases : (t : ℕ) (h : Home) → IsHomeOf t h → (h ≡ Frame t) ⊎ ((r : ℕ) × (h ≡ Saved r))
home_cases t (Frame k) own = inl (ap Frame own)
home_cases t (Saved r) own = inr (r, refl)

first_of_one : (next only k : ℕ) → k < 1 → get_or (only ∷ []) k next ≡ next → next ≡ only
first_of_one next only zero less is = sym is
first_of_one next only (suc k) less is = absurd (omega (arith, less))

-- a list with one number has no other
single : (next only : ℕ) (pcs : List ℕ) → pcs ≡ only ∷ [] → Contains pcs next → next ≡ only
single next only pcs is has =
    let c : Contains (only ∷ []) next = subst (λ (l : List ℕ). Contains l next) is has in
    first_of_one next only c.0 c.1 c.2

module _ (ir : Ir) (function : ℕ) (f : Function) (homes : List Home) (is : function_at ir function ≡ Some f) (p : ArePlaced ir f homes) where
  lives : (pc t : ℕ) → Bool
  lives pc t = live_of (home_at homes t) (length f.code) (p.live t) pc

  cases : (t : ℕ) → (home_at homes t ≡ Frame t) ⊎ ((r : ℕ) × (home_at homes t ≡ Saved r))
  cases t = home_cases t (home_at homes t) (p.own t)

  in_code : (pc : ℕ) (o : Operation) → operation_at ir function pc ≡ Some o → slice_get f.code pc ≡ Some o
  in_code pc o at = ap (λ m. slice_get (code_of m) pc) (sym is) ∙ at

  in_frame_lives : (pc t : ℕ) → home_at homes t ≡ Frame t → lives pc t ≡ true
  unfolding lives live_of
  in_frame_lives pc t e = rw e refl

  saved_lives : (pc t r : ℕ) → home_at homes t ≡ Saved r → pc < length f.code → marked (p.live t) pc ≡ true → lives pc t ≡ true
  unfolding lives live_of
  saved_lives pc t r e less m = rw e (rw (lt_is pc (length f.code) less) m)

  lives_saved : (pc t r : ℕ) → home_at homes t ≡ Saved r → lives pc t ≡ true → (nat_lt pc (length f.code) && marked (p.live t) pc) ≡ true
  unfolding lives live_of
  lives_saved pc t r e l = subst (λ h. live_of h (length f.code) (p.live t) pc ≡ true) e l

  is_within : (pc t r : ℕ) → home_at homes t ≡ Saved r → lives pc t ≡ true → pc < length f.code
  is_within pc t r e l = is_lt pc (length f.code) (left_of_and (nat_lt pc (length f.code)) (marked (p.live t) pc) (lives_saved pc t r e l))

  is_marked : (pc t r : ℕ) → home_at homes t ≡ Saved r → lives pc t ≡ true → marked (p.live t) pc ≡ true
  is_marked pc t r e l = right_of_and (nat_lt pc (length f.code)) (marked (p.live t) pc) (lives_saved pc t r e l)

  is_busy : (pc t r : ℕ) → home_at homes t ≡ Saved r → lives pc t ≡ true → marked (busy_of ir f t (p.live t)) pc ≡ true
  is_busy pc t r e l =
      let n : 0 + pc ≡ pc = omega arith in
      busy_where_live ir t (p.live t) 0 (nat_lt t f.arguments) f.code pc (is_within pc t r e l) (ap (λ k. marked (p.live t) k) n ∙ is_marked pc t r e l)

  says_at : (pc t r : ℕ) (o : Operation) → home_at homes t ≡ Saved r → operation_at ir function pc ≡ Some o → Says ir t (p.live t) pc o.op
  says_at pc t r o e at =
      let n : 0 + pc ≡ pc = omega arith in
      says ir t (p.live t) pc o.op (subst (λ k. agrees ir t (p.live t) k o.op ≡ true) n (agrees_at ir t (p.live t) 0 f.code pc o (p.agree t r e) (in_code pc o at)))

  goes_on : (pc next t r : ℕ) (o : Operation) → home_at homes t ≡ Saved r → Contains (comes_next pc o.op) next → lives next t ≡ true → any_marked (p.live t) (comes_next pc o.op) ≡ true
  goes_on pc next t r o e follows l = any_at (p.live t) (comes_next pc o.op) follows.0 next follows.1 follows.2 (is_marked next t r e l)

  -- two homes are apart unless they are one register
  unless_one : (t u : ℕ) → t ≢ u → ((r : ℕ) → home_at homes t ≡ Saved r → home_at homes u ≡ Saved r → ⊥) → Apart (home_at homes t) (home_at homes u)
  unless_one t u ne never = elim (cases t) [
    | inl e ↦ elim (cases u) [
      | inl d ↦ rw e (rw d ne)
      | inr d ↦ rw e (rw d.1 tt)
    ]
    | inr e ↦ elim (cases u) [
      | inl d ↦ rw e.1 (rw d tt)
      | inr d ↦
          let differ : e.0 ≢ d.0 = λ same. never e.0 e.1 (d.1 ∙ ap Saved (sym same)) in
          rw e.1 (rw d.1 differ)
    ]
  ]

  -- no register is busy with two slots
  never_both : (pc t u r : ℕ) → t ≢ u → home_at homes t ≡ Saved r → home_at homes u ≡ Saved r → marked (busy_of ir f t (p.live t)) pc ≡ true
      → marked (busy_of ir f u (p.live u)) pc ≡ true → ⊥
  never_both pc t u r ne e d m n = false≢true (sym (p.apart t u r pc e d ne m) ∙ n)

  reading : (pc t : ℕ) (o : Operation) → operation_at ir function pc ≡ Some o → IsIn t (reads ir o.op) → lives pc t ≡ true
  reading pc t o at i = elim (cases t) [
    | inl e ↦ in_frame_lives pc t e
    | inr e ↦
        let s = says_at pc t e.0 o e.1 at in
        elim (is_read ir o.op t (is_in_is t (reads ir o.op) i)) [
          | inl named ↦ saved_lives pc t e.0 e.1 (slice_get_within f.code pc o (in_code pc o at)) (s.read named)
          | inr found ↦ absurd (s.by_name found)
        ]
  ]

  keeping : (pc next t : ℕ) (o : Operation) → operation_at ir function pc ≡ Some o → Contains (comes_next pc o.op) next → lives next t ≡ true
      → IsIn t (surely_writes ir o.op) ⊎ (lives pc t ≡ true)
  keeping pc next t o at follows l = elim (cases t) [
    | inl e ↦ inr (in_frame_lives pc t e)
    | inr e ↦
        elim ((says_at pc t e.0 o e.1 at).kept (goes_on pc next t e.0 o e.1 follows l)) [
          | inl wrote ↦ inl (is_in_back t (surely_writes ir o.op) (is_surely ir o.op t wrote))
          | inr m ↦ inr (saved_lives pc t e.0 e.1 (slice_get_within f.code pc o (in_code pc o at)) m)
        ]
  ]

  finding : (pc t : ℕ) (o : Operation) → operation_at ir function pc ≡ Some o → IsIn t (in_frame ir o.op) → home_at homes t ≡ Frame t
  finding pc t o at i = elim (cases t) [
    | inl e ↦ e
    | inr e ↦ absurd ((says_at pc t e.0 o e.1 at).by_name (is_found ir o.op t (is_in_is t (in_frame ir o.op) i)))
  ]

  calling : (pc next t : ℕ) (o : Operation) → operation_at ir function pc ≡ Some o → calls o.op → Contains (comes_next pc o.op) next → lives next t ≡ true
      → home_at homes t ≡ Frame t
  calling pc next t o at call follows l = elim (cases t) [
    | inl e ↦ e
    | inr e ↦ absurd ((says_at pc t e.0 o e.1 at).quiet (goes_on pc next t e.0 o e.1 follows l) (is_calling o.op call))
  ]

  given : (t : ℕ) → t < arguments_of (function_at ir function) → 0 < length f.code → marked (busy_of ir f t (p.live t)) 0 ≡ true
  given t less some =
      let own : t < f.arguments = subst (λ m. t < arguments_of m) is less in
      rw (lt_is t f.arguments own) (busy_at_first ir t (p.live t) 0 f.code some)

  -- slots of which one is written and another live behind
  writing : (pc next t u : ℕ) (o : Operation) → operation_at ir function pc ≡ Some o → Contains (comes_next pc o.op) next → IsIn t (writes ir o.op)
      → lives next u ≡ true → t ≢ u → Apart (home_at homes t) (home_at homes u)
  writing pc next t u o at follows i l ne = unless_one t u ne (λ r e d.
      elim (is_written ir o.op t (is_in_is t (writes ir o.op) i)) [
        | inl named ↦
            let there : next ≡ pc + 1 = single next (pc + 1) (comes_next pc o.op) (only_next ir o.op t pc named) follows in
            let less : pc + 1 < length f.code = subst (λ k. k < length f.code) there (is_within next u r d l) in
            let busy = busy_behind ir t (p.live t) 0 (nat_lt t f.arguments) f.code pc o (in_code pc o at) named less in
            never_both next t u r ne e d (subst (λ k. marked (busy_of ir f t (p.live t)) k ≡ true) (sym there) busy) (is_busy next u r d l)
        | inr found ↦ absurd ((says_at pc t r o e at).by_name found)
      ])

  pub placed_homes : AreHomes ir function (home_at homes)
  placed_homes = record {
    own = p.own;
    found_by_address = finding;
    live = lives;
    is_liveness = record { read = reading; kept = keeping };
    arguments_apart = λ t u a b l ne. unless_one t u ne (λ r e d. never_both 0 t u r ne e d (is_busy 0 t r e l) (given u b (is_within 0 t r e l)));
    apart = λ pc t u l m ne. unless_one t u ne (λ r e d. never_both pc t u r ne e d (is_busy pc t r e l) (is_busy pc u r d m));
    written_apart = writing;
    across_calls = calling;
  }

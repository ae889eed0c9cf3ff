-- Homes that slots get one after the other.
use Rattle.std.proofs.Common.{◌≡◌, ◌≢◌, ℕ, zero, suc, ◌+◌, ◌-◌, ◌<◌, Bool, true, false, ◌||◌, if◌then◌else◌, nat_eq, List, [], ◌∷◌, ◌++◌, length, get_or-set_other, get_or-set_same, length-set, Some, None, refl, sym, ap, ◌∙◌, subst, arith, inl, inr, ◌⊎◌}
use Rattle.std.specs.Prelude.{slice_get}
use Rattle.std.proofs.lemmas.Bool.{false≢true}
use Rattle.std.proofs.lemmas.Bool.Decides.{eqb_tells}
use Rattle.std.proofs.lemmas.Option.{slice_get_past}
use Rattle.al_ir.specs.declared.ir.Function.{Function}
use Rattle.al_ir.specs.declared.ir.Ir.{Ir}
use Rattle.rv_code.specs.declared.home.Home.{Home}
use Rattle.rv_code.specs.declared.home.Home.TheVariants.{Frame, Saved}
use Rattle.rv_regs.specs.Homes.{IsHomeOf, home_at, home_or_own}
use Rattle.rv_regs.specs.Marks.{marked, all_agree, busy_of}
use Rattle.rv_regs.specs.Rows.{row, GetsRegister, Gets, AreEmpty}
use Rattle.rv_regs.specs.Placed.{ArePlaced}
use Rattle.rv_regs.proofs.Marking.{clear_at, or_true}

-- what is so after each slot: where a slot is busy with a register, this is taken
pub record Placing (ir : Ir) (f : Function) (homes : List Home) (taken : List (List Bool)) : Type 0 where
  pub rows : length taken ≡ 10
  pub placed : ArePlaced ir f homes
  pub within : (t r pc : ℕ) → home_at homes t ≡ Saved r → marked (busy_of ir f t (placed.live t)) pc ≡ true → marked (row taken (r - 18)) pc ≡ true

register_of : Home → ℕ
register_of (Frame k) = 0
register_of (Saved r) = r

is_saved : Home → Bool
is_saved (Frame k) = false
is_saved (Saved r) = true

pub saved_same : (r s : ℕ) → Saved r ≡ Saved s → r ≡ s
unfolding register_of
saved_same r s e = ap register_of e

pub frame_or_saved : (k r : ℕ) → Frame k ≡ Saved r → ⊥
unfolding is_saved
frame_or_saved k r e = false≢true (ap is_saved e)

pub is_false : (b : Bool) → (b ≡ true → ⊥) → b ≡ false
is_false true never = absurd (never refl)
is_false false never = refl

-- ---- none is placed yet

pub none_placed : (ir : Ir) (f : Function) (taken : List (List Bool)) → AreEmpty taken → Placing ir f [] taken
none_placed ir f taken empty = record {
  rows = empty.0;
  placed = record {
    own = λ t. refl;
    live = λ t. [];
    agree = λ t r e. absurd (frame_or_saved t r e);
    apart = λ t u r pc e other ne m. absurd (frame_or_saved t r e);
  };
  within = λ t r pc e m. absurd (frame_or_saved t r e);
}

-- ---- one more

get_other : (xs : List Home) (h : Home) (t : ℕ) → t ≢ length xs → slice_get (xs ++ h ∷ []) t ≡ slice_get xs t
get_other [] h zero ne = absurd (ne refl)
get_other [] h (suc t) ne = refl
get_other (x ∷ xs) h zero ne = refl
get_other (x ∷ xs) h (suc t) ne = get_other xs h t (λ e. ne (ap suc e))

get_last : (xs : List Home) (h : Home) → slice_get (xs ++ h ∷ []) (length xs) ≡ Some h
get_last [] h = refl
get_last (x ∷ xs) h = get_last xs h

at_other : (homes : List Home) (h : Home) (t : ℕ) → t ≢ length homes → home_at (homes ++ h ∷ []) t ≡ home_at homes t
at_other homes h t ne = ap (λ o. home_or_own o t) (get_other homes h t ne)

at_end : (homes : List Home) (h : Home) (t : ℕ) → t ≡ length homes → home_at (homes ++ h ∷ []) t ≡ h
at_end homes h t e = ap (λ o. home_or_own o t) (ap (λ k. slice_get (homes ++ h ∷ []) k) e ∙ get_last homes h)

-- a slot that keeps its own word has the home that it had
same_homes : (homes : List Home) (t : ℕ) → home_at (homes ++ Frame (length homes) ∷ []) t ≡ home_at homes t
same_homes homes t = elim (eqb_tells t (length homes)) [
  | inl is ↦
      let none : slice_get homes t ≡ None = slice_get_past homes t (omega (arith, is.1)) in
      at_end homes (Frame (length homes)) t is.1 ∙ (ap Frame (sym is.1) ∙ sym (ap (λ o. home_or_own o t) none))
  | inr other ↦ at_other homes (Frame (length homes)) t other.1
]

frame_more : (ir : Ir) (f : Function) (homes : List Home) (taken : List (List Bool)) → Placing ir f homes taken → Placing ir f (homes ++ Frame (length homes) ∷ []) taken
frame_more ir f homes taken p = record {
  rows = p.rows;
  placed = record {
    own = λ t. subst (IsHomeOf t) (sym (same_homes homes t)) (p.placed.own t);
    live = p.placed.live;
    agree = λ t r e. p.placed.agree t r (sym (same_homes homes t) ∙ e);
    apart = λ t u r pc e other ne m. p.placed.apart t u r pc (sym (same_homes homes t) ∙ e) (sym (same_homes homes u) ∙ other) ne m;
  };
  within = λ t r pc e m. p.within t r pc (sym (same_homes homes t) ∙ e) m;
}

module _ (ir : Ir) (f : Function) (homes : List Home) (old new : List (List Bool)) (r : ℕ) (p : Placing ir f homes old) (g : GetsRegister ir f (length homes) old new r) where
  abbrev lives : ℕ → List Bool
  lives t = if nat_eq t (length homes) then g.live else p.placed.live t

  record IsNew (t : ℕ) : Type 0 where
    at : t ≡ length homes
    home : home_at (homes ++ Saved r ∷ []) t ≡ Saved r
    live : lives t ≡ g.live

  record IsOld (t : ℕ) : Type 0 where
    other : t ≢ length homes
    home : home_at (homes ++ Saved r ∷ []) t ≡ home_at homes t
    live : lives t ≡ p.placed.live t

  either : (t : ℕ) → IsNew t ⊎ IsOld t
  either t = elim (eqb_tells t (length homes)) [
    | inl is ↦ inl (record { at = is.1; home = at_end homes (Saved r) t is.1; live = rw is.0 refl })
    | inr far ↦ inr (record { other = far.1; home = at_other homes (Saved r) t far.1; live = rw far.0 refl })
  ]

  less : r - 18 < length old
  less = omega (arith, p.rows, g.takes.below)

  new_row : row new (r - 18) ≡ g.takes.joined
  new_row = ap (λ rows. row rows (r - 18)) g.takes.new_is ∙ get_or-set_same old (r - 18) g.takes.joined [] less

  other_row : (j : ℕ) → j ≢ r - 18 → row new j ≡ row old j
  other_row j ne = ap (λ rows. row rows j) g.takes.new_is ∙ get_or-set_other old (r - 18) j g.takes.joined [] ne

  -- what was taken stays so
  stays : (j pc : ℕ) → marked (row old j) pc ≡ true → marked (row new j) pc ≡ true
  stays j pc m = elim (eqb_tells j (r - 18)) [
    | inl is ↦
        let here : marked (row old (r - 18)) pc ≡ true = subst (λ i. marked (row old i) pc ≡ true) is.1 m in
        subst (λ i. marked (row new i) pc ≡ true) (sym is.1) (ap (λ marks. marked marks pc) new_row ∙ (g.takes.is_join pc ∙ rw here refl))
    | inr far ↦ ap (λ marks. marked marks pc) (other_row j far.1) ∙ m
  ]

  -- and the register is taken where it is busy now
  taken_now : (pc : ℕ) → marked (busy_of ir f (length homes) g.live) pc ≡ true → marked (row new (r - 18)) pc ≡ true
  taken_now pc m = ap (λ marks. marked marks pc) new_row ∙ (g.takes.is_join pc ∙ (ap (λ b. marked (row old (r - 18)) pc || b) m ∙ or_true (marked (row old (r - 18)) pc)))

  -- where it was not
  free_now : (pc : ℕ) → marked (busy_of ir f (length homes) g.live) pc ≡ true → marked (row old (r - 18)) pc ≡ false
  free_now pc m =
      let n : 0 + pc ≡ pc = omega arith in
      subst (λ k. marked (row old (r - 18)) k ≡ false) n (clear_at (row old (r - 18)) 0 (busy_of ir f (length homes) g.live) pc g.takes.clear m)

  new_busy : (t pc : ℕ) → IsNew t → marked (busy_of ir f t (lives t)) pc ≡ marked (busy_of ir f (length homes) g.live) pc
  new_busy t pc is = ap (λ marks. marked (busy_of ir f t marks) pc) is.live ∙ ap (λ u. marked (busy_of ir f u g.live) pc) is.at

  old_busy : (t pc : ℕ) → IsOld t → marked (busy_of ir f t (lives t)) pc ≡ marked (busy_of ir f t (p.placed.live t)) pc
  old_busy t pc is = ap (λ marks. marked (busy_of ir f t marks) pc) is.live

  -- two registers that are one are never busy with the new slot and another
  one_busy : (t u q pc : ℕ) → IsNew t → IsOld u → home_at (homes ++ Saved r ∷ []) t ≡ Saved q → home_at (homes ++ Saved r ∷ []) u ≡ Saved q
      → marked (busy_of ir f t (lives t)) pc ≡ true → marked (busy_of ir f u (lives u)) pc ≡ true → ⊥
  one_busy t u q pc is was e other m n =
      let same : r ≡ q = saved_same r q (sym is.home ∙ e) in
      let free = free_now pc (sym (new_busy t pc is) ∙ m) in
      let full = p.within u r pc (sym was.home ∙ (other ∙ ap Saved (sym same))) (sym (old_busy u pc was) ∙ n) in
      false≢true (sym free ∙ full)

  saved_more : Placing ir f (homes ++ Saved r ∷ []) new
  saved_more = record {
    rows = ap length g.takes.new_is ∙ (length-set old (r - 18) g.takes.joined ∙ p.rows);
    placed = record {
      own = λ t. elim (either t) [
        | inl is ↦ subst (IsHomeOf t) (sym is.home) (g.from, omega (arith, g.takes.below, g.from))
        | inr was ↦ subst (IsHomeOf t) (sym was.home) (p.placed.own t)
      ];
      live = lives;
      agree = λ t q e. elim (either t) [
        | inl is ↦ subst (λ marks. all_agree ir t marks 0 f.code ≡ true) (sym is.live) (subst (λ u. all_agree ir u g.live 0 f.code ≡ true) (sym is.at) g.agree)
        | inr was ↦ subst (λ marks. all_agree ir t marks 0 f.code ≡ true) (sym was.live) (p.placed.agree t q (sym was.home ∙ e))
      ];
      apart = λ t u q pc e other ne m. is_false (marked (busy_of ir f u (lives u)) pc) (λ n. elim (either t) [
        | inl is ↦ elim (either u) [ inl also ↦ ne (is.at ∙ sym also.at) | inr was ↦ one_busy t u q pc is was e other m n ]
        | inr was ↦ elim (either u) [
          | inl is ↦ one_busy u t q pc is was other e n m
          | inr also ↦ false≢true (sym (p.placed.apart t u q pc (sym was.home ∙ e) (sym also.home ∙ other) ne (sym (old_busy t pc was) ∙ m)) ∙ (sym (old_busy u pc also) ∙ n))
        ]
      ]);
    };
    within = λ t q pc e m. elim (either t) [
      | inl is ↦
          let same : r ≡ q = saved_same r q (sym is.home ∙ e) in
          subst (λ s. marked (row new (s - 18)) pc ≡ true) same (taken_now pc (sym (new_busy t pc is) ∙ m))
      | inr was ↦ stays (q - 18) pc (p.within t q pc (sym was.home ∙ e) (sym (old_busy t pc was) ∙ m))
    ];
  }

pub one_more : (ir : Ir) (f : Function) (homes : List Home) (old new : List (List Bool)) (h : Home) → Placing ir f homes old → Gets ir f (length homes) old new h → Placing ir f (homes ++ h ∷ []) new
one_more ir f homes old new (Frame k) p gets =
    subst (λ (rows : List (List Bool)). Placing ir f (homes ++ Frame k ∷ []) rows) (sym gets.1)
    (subst (λ j. Placing ir f (homes ++ Frame j ∷ []) old) (sym gets.0) (frame_more ir f homes old p))
one_more ir f homes old new (Saved r) p gets = saved_more ir f homes old new r p gets

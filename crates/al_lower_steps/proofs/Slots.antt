-- Words in slots.
use Rattle.std.proofs.Common.{◌≡◌, ℕ, suc, ◌+◌, ◌<◌, ◌≤◌, List, [], ◌∷◌, ◌++◌, length, Some, refl, ◌∙◌, subst, ◌⊎◌, inl, inr, arith}
use Rattle.std.proofs.lemmas.Grind.{common_steps}
use Rattle.al_ir.specs.Control.{Slots, put, put_all, forget, first_slots, slots_from, words_at}
use Rattle.al_lowered.proofs.Units.{Stand}
use Rattle.al_lower_steps.specs.Slots.{Holds, Below, Kept, Outside}

-- ---- one slot

pub put_same : (slots : Slots) (t w : ℕ) → put t w slots t ≡ Some w
put_same slots t w = grind (arith, common_steps)

pub put_other : (slots : Slots) (t w u : ℕ) → (u ≡ t → ⊥) → put t w slots u ≡ slots u
put_other slots t w u h = grind (arith, common_steps, h)

-- ---- slots that stay

pub below_refl : (t : ℕ) (slots : Slots) → Below t slots slots
below_refl t slots i lt = refl

pub below_both : (t u : ℕ) (c b a : Slots) → u ≤ t → Below t c b → Below u b a → Below u c a
below_both t u c b a le h k i lt = h i (omega (arith, le, lt)) ∙ k i lt

pub below_less : (t u : ℕ) (b a : Slots) → u ≤ t → Below t b a → Below u b a
below_less t u b a le h i lt = h i (omega (arith, le, lt))

pub put_below : (slots old : Slots) (t w b : ℕ) → b ≤ t → Below b slots old → Below b (put t w slots) old
put_below slots old t w b le h i lt = put_other slots t w i (λ e. absurd (omega (arith, e, le, lt))) ∙ h i lt

pub kept_refl : (from to : ℕ) (slots : Slots) → Kept from to slots slots
kept_refl from to slots i l lt = refl

pub kept_both : (from b c : ℕ) (z y x : Slots) → b ≤ c → Kept from c z y → Kept from b y x → Kept from b z x
kept_both from b c z y x le h k i l lt = h i l (omega (arith, le, lt)) ∙ k i l lt

pub kept_below : (from b : ℕ) (now old : Slots) → Below b now old → Kept from b now old
kept_below from b now old h i l lt = h i lt

pub below_outside : (t n : ℕ) (now old : Slots) → Outside t n now old → Below t now old
below_outside t n now old h i lt = h i (inl lt)

pub outside_none : (t n : ℕ) (slots : Slots) → Outside t n slots slots
outside_none t n slots i a = refl

pub outside_both : (t n : ℕ) (c b a : Slots) → Outside t n c b → Outside t n b a → Outside t n c a
outside_both t n c b a h k i w = h i w ∙ k i w

-- a wider stretch
pub outside_wider : (t n u m : ℕ) (now old : Slots) → t ≤ u → u + m ≤ t + n → Outside u m now old → Outside t n now old
outside_wider t n u m now old l r h i (inl lt) = h i (inl (omega (arith, l, lt)))
outside_wider t n u m now old l r h i (inr le) = h i (inr (omega (arith, r, le)))

pub put_outside : (t w : ℕ) (slots : Slots) → Outside t 1 (put t w slots) slots
put_outside t w slots i (inl lt) = put_other slots t w i (λ e. absurd (omega (arith, e, lt)))
put_outside t w slots i (inr le) = put_other slots t w i (λ e. absurd (omega (arith, e, le)))

-- one slot and then the others
pub outside_more : (t n w : ℕ) (now slots : Slots) → Outside (t + 1) n now (put t w slots) → Outside t (suc n) now slots
outside_more t n w now slots h i (inl lt) = h i (inl (omega (arith, lt))) ∙ put_other slots t w i (λ e. absurd (omega (arith, e, lt)))
outside_more t n w now slots h i (inr le) = h i (inr (omega (arith, le))) ∙ put_other slots t w i (λ e. absurd (omega (arith, e, le)))

-- ---- words that stay

pub holds_kept : (ws : List ℕ) (lo t b : ℕ) (now old : Slots) → lo ≤ t → t + length ws ≤ b → Kept lo b now old → Holds old t ws → Holds now t ws
holds_kept [] lo t b now old l le h k = tt
holds_kept (w ∷ ws) lo t b now old l le h k = (h t l (omega (arith, le)) ∙ k.0, holds_kept ws lo (t + 1) b now old (omega (arith, l)) (omega (arith, le)) h k.1)

pub holds_below : (ws : List ℕ) (t b : ℕ) (now old : Slots) → t + length ws ≤ b → Below b now old → Holds old t ws → Holds now t ws
holds_below ws t b now old le h k = holds_kept ws 0 t b now old (omega arith) le (kept_below 0 b now old h) k

pub holds_outside : (ws : List ℕ) (u t n : ℕ) (now old : Slots) → (u + length ws ≤ t) ⊎ (t + n ≤ u) → Outside t n now old → Holds old u ws → Holds now u ws
holds_outside [] u t n now old a h k = tt
holds_outside (w ∷ ws) u t n now old (inl le) h k = (h u (inl (omega (arith, le))) ∙ k.0, holds_outside ws (u + 1) t n now old (inl (omega (arith, le))) h k.1)
holds_outside (w ∷ ws) u t n now old (inr le) h k = (h u (inr le) ∙ k.0, holds_outside ws (u + 1) t n now old (inr (omega (arith, le))) h k.1)

-- words behind a slot that is changed
pub holds_put : (ws : List ℕ) (t u w : ℕ) (slots : Slots) → u < t → Holds slots t ws → Holds (put u w slots) t ws
holds_put ws t u w slots lt k = holds_outside ws t u 1 (put u w slots) slots (inr (omega (arith, lt))) (put_outside u w slots) k

-- ---- several words

pub put_all_outside : (ws : List ℕ) (t : ℕ) (slots : Slots) → Outside t (length ws) (put_all t ws slots) slots
put_all_outside [] t slots i a = refl
put_all_outside (w ∷ ws) t slots i a = outside_more t (length ws) w (put_all (t + 1) ws (put t w slots)) slots (put_all_outside ws (t + 1) (put t w slots)) i a

pub put_all_below : (ws : List ℕ) (t : ℕ) (slots : Slots) → Below t (put_all t ws slots) slots
put_all_below ws t slots i lt = put_all_outside ws t slots i (inl lt)

pub put_all_holds : (ws : List ℕ) (t : ℕ) (slots : Slots) → Holds (put_all t ws slots) t ws
put_all_holds [] t slots = tt
put_all_holds (w ∷ ws) t slots = (put_all_below ws (t + 1) (put t w slots) t (omega arith) ∙ put_same slots t w, put_all_holds ws (t + 1) (put t w slots))

pub words_held : (ws : List ℕ) (t : ℕ) (slots : Slots) → Holds slots t ws → words_at slots t (length ws) ≡ Some ws
words_held [] t slots h = refl
words_held (w ∷ ws) t slots h = rw (h.0, words_held ws (t + 1) slots h.1) refl

pub words_held_of : (ws : List ℕ) (t n : ℕ) (slots : Slots) → length ws ≡ n → Holds slots t ws → words_at slots t n ≡ Some ws
words_held_of ws t n slots e h = subst (λ m. words_at slots t m ≡ Some ws) e (words_held ws t slots h)

pub holds_front : (a b : List ℕ) (t : ℕ) (slots : Slots) → Holds slots t (a ++ b) → Holds slots t a
holds_front [] b t slots h = tt
holds_front (w ∷ a) b t slots h = (h.0, holds_front a b (t + 1) slots h.1)

pub holds_back : (a b : List ℕ) (t : ℕ) (slots : Slots) → Holds slots t (a ++ b) → Holds slots (t + length a) b
holds_back [] b t slots h = let e : t ≡ t + 0 = omega arith in subst (λ n. Holds slots n b) e h
holds_back (w ∷ a) b t slots h =
    let e : t + 1 + length a ≡ t + length (w ∷ a) = omega arith in subst (λ n. Holds slots n b) e (holds_back a b (t + 1) slots h.1)

pub holds_join : (a b : List ℕ) (t : ℕ) (slots : Slots) → Holds slots t a → Holds slots (t + length a) b → Holds slots t (a ++ b)
holds_join [] b t slots h k = let e : t + 0 ≡ t = omega arith in subst (λ n. Holds slots n b) e k
holds_join (w ∷ a) b t slots h k =
    let e : t + length (w ∷ a) ≡ t + 1 + length a = omega arith in (h.0, holds_join a b (t + 1) slots h.1 (subst (λ n. Holds slots n b) e k))

pub holds_is : (ws vs : List ℕ) (t : ℕ) (slots : Slots) → ws ≡ vs → Holds slots t ws → Holds slots t vs
holds_is ws vs t slots e h = subst (Holds slots t) e h

pub holds_at : (ws : List ℕ) (t u : ℕ) (slots : Slots) → t ≡ u → Holds slots t ws → Holds slots u ws
holds_at ws t u slots e h = subst (λ n. Holds slots n ws) e h

-- the same, as operations that go through units have it
pub stand_held : (ws : List ℕ) (t : ℕ) (slots : Slots) → Holds slots t ws → Stand slots t ws
stand_held [] t slots h = tt
stand_held (w ∷ ws) t slots h = (h.0, stand_held ws (t + 1) slots h.1)

-- ---- slots of a function that begins or ends

pub forget_outside : (slots : Slots) (t n : ℕ) → Outside t n (forget t n slots) slots
forget_outside slots t n i (inl lt) = grind (arith, common_steps, lt)
forget_outside slots t n i (inr le) = grind (arith, common_steps, le)

pub holds_first : (ws : List ℕ) (t n : ℕ) (slots : Slots) → t + length ws ≤ n → Holds slots t ws → Holds (first_slots n slots) t ws
holds_first [] t n slots le h = tt
holds_first (w ∷ ws) t n slots le h =
    let lt : t < n = omega (arith, le) in
    let e : first_slots n slots t ≡ slots t = grind (arith, common_steps, lt) in
    (e ∙ h.0, holds_first ws (t + 1) n slots (omega (arith, le)) h.1)

pub holds_from : (ws : List ℕ) (t i : ℕ) (slots : Slots) → Holds slots (t + i) ws → Holds (slots_from t slots) i ws
holds_from [] t i slots h = tt
holds_from (w ∷ ws) t i slots h = (h.0, holds_from ws t (i + 1) slots (let e : t + i + 1 ≡ t + (i + 1) = omega arith in subst (λ n. Holds slots n ws) e h.1))

pub holds_from_start : (ws : List ℕ) (t : ℕ) (slots : Slots) → Holds slots t ws → Holds (slots_from t slots) 0 ws
holds_from_start ws t slots h = holds_from ws t 0 slots (holds_at ws t (t + 0) slots (omega arith) h)

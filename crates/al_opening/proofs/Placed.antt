-- Blocks that are placed one after another.
use Rattle.std.proofs.Common.{◌≡◌, ℕ, zero, suc, ◌+◌, ◌<◌, Bool, true, false, List, [], ◌∷◌, ◌++◌, length, filter, map, get_or, drop, Option, Some, None, option_and_then, refl, ap, sym, subst, ◌∙◌, ◌≤◌, add-one, arith}
use Rattle.std.specs.Prelude.{if◌then◌else◌, not}
use Rattle.std.proofs.Math.Seq.{drop-cons}
use Rattle.std.proofs.lemmas.List.{append-nil}
use Rattle.al_event.specs.declared.act.Block.TheVariants.{Global as GlobalBlock}
use Rattle.al_event.specs.Store.{Live, new_place, spans_of, with_block}
use Rattle.al_world.specs.Step.{with_globals}
use Rattle.al_typed.specs.declared.program.Global.{Global}
use Rattle.al_typed.specs.declared.program.Program.{Program}
use Rattle.al_meaning.specs.Places.{is_shared_global, global_bytes, opening_blocks}
use Rattle.al_opening.specs.Opening.{global_blocks, text_blocks, placed_if}

module _ (region : ℕ) (bytes : List ℕ) (rest : List (List ℕ)) (store : List Live) where
  abbrev goes_on : Option ℕ → Option (List Live)
  goes_on place = option_and_then (λ at. with_globals region rest (with_block (record { at = at; kind = GlobalBlock; bytes = bytes }) store)) place

  pub placed_at : (at : ℕ) (after : List Live) → new_place region (spans_of store) (length bytes) ≡ Some at → after ≡ with_block (record { at = at; kind = GlobalBlock; bytes = bytes }) store → with_globals region (bytes ∷ rest) store ≡ with_globals region rest after
  placed_at at after p e = ap goes_on p ∙ ap (with_globals region rest) (sym e)

  pub not_placed : new_place region (spans_of store) (length bytes) ≡ None → with_globals region (bytes ∷ rest) store ≡ None
  not_placed p = ap goes_on p

pub blocks_none : (p : Program) → global_blocks p [] ≡ []
unfolding global_blocks
blocks_none p = refl

pub blocks_of : (p : Program) → opening_blocks p ≡ global_blocks p p.globals ++ text_blocks p.strings
unfolding global_blocks text_blocks
blocks_of p = refl

pub one_private : (p : Program) (g : Global) (rest : List (List ℕ)) → g.is_private ≡ true → global_blocks p (g ∷ []) ++ rest ≡ rest
unfolding global_blocks
one_private p g rest e = ap (λ (b : Bool). map (global_bytes p) (if not b then g ∷ [] else []) ++ rest) e

pub one_shared : (p : Program) (g : Global) (rest : List (List ℕ)) → g.is_private ≡ false → global_blocks p (g ∷ []) ++ rest ≡ global_bytes p g ∷ rest
unfolding global_blocks
one_shared p g rest e = ap (λ (b : Bool). map (global_bytes p) (if not b then g ∷ [] else []) ++ rest) e

pub one_more : (p : Program) (g : Global) (gs : List Global) (rest : List (List ℕ)) → global_blocks p (g ∷ gs) ++ rest ≡ global_blocks p (g ∷ []) ++ (global_blocks p gs ++ rest)
unfolding global_blocks
one_more p g gs rest =
    elim (is_shared_global g) as (λ b. map (global_bytes p) (if b then g ∷ filter is_shared_global gs else filter is_shared_global gs) ++ rest ≡ map (global_bytes p) (if b then g ∷ [] else []) ++ (map (global_bytes p) (filter is_shared_global gs) ++ rest)) [ true ↦ refl | false ↦ refl ]

pub one_text : (t : List ℕ) (ts : List (List ℕ)) (rest : List (List ℕ)) → text_blocks (t ∷ ts) ++ rest ≡ text_blocks (t ∷ []) ++ (text_blocks ts ++ rest)
unfolding text_blocks
one_text t ts rest = refl

pub text_is : (t : List ℕ) (rest : List (List ℕ)) → text_blocks (t ∷ []) ++ rest ≡ (t ++ 0 ∷ []) ∷ rest
unfolding text_blocks
text_is t rest = refl

pub texts_none : text_blocks [] ≡ []
unfolding text_blocks
texts_none = refl

-- ---- one block after another

pub as_placed : (placed : Bool) → placed ≡ true → (region : ℕ) (rest : List (List ℕ)) (store : List Live) → placed_if placed region rest store ≡ with_globals region rest store
as_placed placed h region rest store = ap (λ b. placed_if b region rest store) h

pub as_full : (placed : Bool) → placed ≡ false → (region : ℕ) (rest : List (List ℕ)) (store : List Live) → placed_if placed region rest store ≡ None
as_full placed h region rest store = ap (λ b. placed_if b region rest store) h

module _ {X : Type 0} (blocks : List X → List (List ℕ)) where
  drop_none : (i : ℕ) → drop {A = X} i [] ≡ []
  drop_none zero = refl
  drop_none (suc i) = refl

  nothing_left : (xs : List X) (i : ℕ) → length xs ≤ i → drop i xs ≡ []
  nothing_left [] i l = drop_none i
  nothing_left (x ∷ xs) zero l = absurd (omega (arith, l))
  nothing_left (x ∷ xs) (suc i) l = nothing_left xs i (omega (arith, l))

  abbrev pub Left : (region : ℕ) → List X → (at : ℕ) → (first store : List Live) → Type 0
  Left region xs i first store = (rest : List (List ℕ)) → with_globals region (blocks xs ++ rest) first ≡ with_globals region (blocks (drop i xs) ++ rest) store

  pub next : ((x : X) (xs : List X) (rest : List (List ℕ)) → blocks (x ∷ xs) ++ rest ≡ blocks (x ∷ []) ++ (blocks xs ++ rest)) → (region own : ℕ) (xs : List X) (i : ℕ) (x : X) (first store after : List Live) (placed : Bool) → own ≡ region → i < length xs → x ≡ get_or xs i x → Left region xs i first store → ((rest : List (List ℕ)) → with_globals own (blocks (x ∷ []) ++ rest) store ≡ placed_if placed own rest after) → (rest : List (List ℕ)) → with_globals region (blocks xs ++ rest) first ≡ placed_if placed region (blocks (drop (i + 1) xs) ++ rest) after
  next more region own xs i x first store after placed same l is left call rest =
      let here : drop i xs ≡ x ∷ drop (i + 1) xs = drop-cons xs i x l ∙ (ap (λ y. y ∷ drop (suc i) xs) (sym is) ∙ ap (λ k. x ∷ drop k xs) (sym (add-one i))) in
      let P : ℕ → Type 0 = λ r. (rest : List (List ℕ)) → with_globals r (blocks (x ∷ []) ++ rest) store ≡ placed_if placed r rest after in
      left rest
      ∙ (ap (λ ds. with_globals region (blocks ds ++ rest) store) here
      ∙ (ap (λ l. with_globals region l store) (more x (drop (i + 1) xs) rest)
      ∙ subst P same call (blocks (drop (i + 1) xs) ++ rest)))

  pub all_done : blocks [] ≡ [] → (region : ℕ) (xs : List X) (i : ℕ) (first store : List Live) → length xs ≤ i → Left region xs i first store → (rest : List (List ℕ)) → with_globals region (blocks xs ++ rest) first ≡ with_globals region rest store
  all_done none region xs i first store l left rest =
      left rest ∙ (ap (λ ds. with_globals region (blocks ds ++ rest) store) (nothing_left xs i l) ∙ ap (λ bs. with_globals region (bs ++ rest) store) none)

-- ---- globals, and then strings

pub first_only : (p : Program) (region : ℕ) (globals : List Global) (first : List Live) → globals ≡ p.globals → ((rest : List (List ℕ)) → with_globals region (global_blocks p globals ++ rest) first ≡ None) → with_globals region (opening_blocks p) first ≡ None
first_only p region globals first same one =
    ap (λ bs. with_globals region bs first) (blocks_of p ∙ ap (λ gs. global_blocks p gs ++ text_blocks p.strings) (sym same)) ∙ one (text_blocks p.strings)

pub both : (p : Program) (region own : ℕ) (globals : List Global) (texts : List (List ℕ)) (first store after : List Live) (placed : Bool) → globals ≡ p.globals → texts ≡ p.strings → own ≡ region → ((rest : List (List ℕ)) → with_globals region (global_blocks p globals ++ rest) first ≡ with_globals region rest store) → ((rest : List (List ℕ)) → with_globals own (text_blocks texts ++ rest) store ≡ placed_if placed own rest after) → with_globals region (opening_blocks p) first ≡ placed_if placed region [] after
both p region own globals texts first store after placed g t same one two =
    let P : ℕ → Type 0 = λ r. (rest : List (List ℕ)) → with_globals r (text_blocks texts ++ rest) store ≡ placed_if placed r rest after in
    ap (λ bs. with_globals region bs first) (blocks_of p ∙ ap (λ gs. global_blocks p gs ++ text_blocks p.strings) (sym g))
    ∙ (one (text_blocks p.strings)
    ∙ (ap (λ ts. with_globals region ts store) (ap text_blocks (sym t) ∙ sym (append-nil (text_blocks texts)))
    ∙ subst P same two []))

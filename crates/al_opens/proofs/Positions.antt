-- Which block is that of a shared global, and which that of a string.
use Rattle.std.proofs.Common.{◌≡◌, ℕ, zero, suc, ◌+◌, Bool, true, false, if◌then◌else◌, List, [], ◌∷◌, ◌++◌, map, length, take, Some, ap, sym, ◌∙◌, arith}
use Rattle.std.specs.Prelude.{filter, not, option_map, slice_get}
use Rattle.std.proofs.lemmas.List.{length-map, take_all}
use Rattle.std.proofs.lemmas.Option.{same_Some, slice_get-map}
use Rattle.al_typed.specs.declared.program.Global.{Global}
use Rattle.al_typed.specs.declared.program.Program.{Program}
use Rattle.al_meaning.specs.Places.{global_bytes, is_shared_global, opening_blocks, shared_before}

module _ {A : Type 0} where
  -- an element that is kept stands behind those before it that are
  kept_at : (f : A → Bool) (xs : List A) (n : ℕ) (x : A) → slice_get xs n ≡ Some x → f x ≡ true → slice_get (filter f xs) (length (filter f (take n xs))) ≡ Some x
  kept_at f [] n x e k = absurd (cc)
  kept_at f (y ∷ xs) zero x e k =
      let same : y ≡ x = same_Some y x e in
      ap (λ (b : Bool). slice_get (if b then y ∷ filter f xs else filter f xs) 0) (ap f same ∙ k) ∙ e
  kept_at f (y ∷ xs) (suc n) x e k = on (f y) (kept_at f xs n x e k)
    where
      on : (b : Bool) → slice_get (filter f xs) (length (filter f (take n xs))) ≡ Some x
          → slice_get (if b then y ∷ filter f xs else filter f xs) (length (if b then y ∷ filter f (take n xs) else filter f (take n xs))) ≡ Some x
      on true h = h
      on false h = h

  in_first : (xs ys : List A) (n : ℕ) (x : A) → slice_get xs n ≡ Some x → slice_get (xs ++ ys) n ≡ Some x
  in_first [] ys n x e = absurd (cc)
  in_first (y ∷ xs) ys zero x e = e
  in_first (y ∷ xs) ys (suc n) x e = in_first xs ys n x e

  in_second : (xs ys : List A) (i n : ℕ) → i ≡ length xs + n → slice_get (xs ++ ys) i ≡ slice_get ys n
  in_second [] ys i n e = let same : i ≡ n = omega arith in ap (slice_get ys) same
  in_second (x ∷ xs) ys zero n e = absurd (omega arith)
  in_second (x ∷ xs) ys (suc i) n e = in_second xs ys i n (omega arith)

module _ (p : Program) where
  pub global_block : (number : ℕ) (g : Global) → slice_get p.globals number ≡ Some g → g.is_private ≡ false → slice_get (opening_blocks p) (shared_before p number) ≡ Some (global_bytes p g)
  global_block number g e here =
      in_first (map (global_bytes p) (filter is_shared_global p.globals)) (map (λ s. s ++ 0 ∷ []) p.strings) (shared_before p number) (global_bytes p g)
      (slice_get-map (global_bytes p) (filter is_shared_global p.globals) (shared_before p number)
      ∙ ap (option_map (global_bytes p)) (kept_at is_shared_global p.globals number g e (ap not here)))

  all_before : shared_before p (length p.globals) ≡ length (map (global_bytes p) (filter is_shared_global p.globals))
  all_before = ap (λ gs. length (filter is_shared_global gs)) (take_all (length p.globals) p.globals (omega arith)) ∙ sym (length-map (filter is_shared_global p.globals) (global_bytes p))

  pub text_block : (number : ℕ) (text : List ℕ) → slice_get p.strings number ≡ Some text → slice_get (opening_blocks p) (shared_before p (length p.globals) + number) ≡ Some (text ++ 0 ∷ [])
  text_block number text e =
      in_second (map (global_bytes p) (filter is_shared_global p.globals)) (map (λ s. s ++ 0 ∷ []) p.strings) (shared_before p (length p.globals) + number) number
      (ap (λ n. n + number) all_before)
      ∙ (slice_get-map (λ s. s ++ 0 ∷ []) p.strings number ∙ ap (option_map (λ s. s ++ 0 ∷ [])) e)

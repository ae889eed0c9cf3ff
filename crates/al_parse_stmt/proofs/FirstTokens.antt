-- The first tokens of a list, taken one by one.
use Rattle.std.proofs.Common.{◌≡◌, ◌≢◌, ℕ, zero, suc, ◌+◌, ◌-◌, ◌<◌, true, List, [], ◌∷◌, ◌++◌, take, Ok, Err, refl, sym, ap, ◌∙◌, arith, append_assoc, append-nil}
use Rattle.al_lex.specs.declared.token.Token.{Token}
use Rattle.al_tree.specs.declared.cursor.ParseError.{ParseError}
use Rattle.al_tree.specs.declared.cursor.ParseError.TheVariants.{NoMemory, Stuck, Deep}
use Rattle.al_tree.specs.Reading.{take_if}

pub one_first : (count i : ℕ) (tokens all rest : List Token) (t : Token) (r : List Token) → take count tokens ≡ all ++ take (count - i) rest → take_if true rest ≡ Ok (t, r) → i < count → take count tokens ≡ (all ++ t ∷ []) ++ take (count - (i + 1)) r
unfolding take_if
one_first count i tokens all [] t r h e less = absurd (let z : ⊥ = cc in z)
one_first count i tokens all (s ∷ rest) t r h e less =
    let pair : ◌≡◌ {A = Token × List Token} (s, rest) (t, r) = cc in
    h ∙ ap (λ n. all ++ take n (s ∷ rest)) (let q : count - i ≡ suc (count - (i + 1)) = omega (arith, less) in q)
    ∙ ap (λ (x : Token × List Token). all ++ (x.0 ∷ take (count - (i + 1)) x.1)) pair
    ∙ sym (append_assoc all (t ∷ []) (take (count - (i + 1)) r))

take_nothing : (n : ℕ) → take n (◌++◌ {A = Token} [] []) ≡ []
take_nothing zero = refl
take_nothing (suc n) = refl

pub no_more_first : (count i : ℕ) (tokens all rest : List Token) (e : ParseError) → take count tokens ≡ all ++ take (count - i) rest → take_if true rest ≡ Err e → all ≡ take count tokens
unfolding take_if
no_more_first count i tokens all [] e h q = sym (h ∙ ap (λ l. all ++ l) (take_nothing (count - i)) ∙ append-nil all)
no_more_first count i tokens all (s ∷ rest) e h q = absurd (let z : ⊥ = cc in z)

pub stuck_first : (count i n : ℕ) (tokens all rest : List Token) → take count tokens ≡ all ++ take (count - i) rest → (Stuck n ≢ NoMemory → take_if true rest ≡ Err (Stuck n)) → all ≡ take count tokens
stuck_first count i n tokens all rest h q = no_more_first count i tokens all rest (Stuck n) h (q (λ e. absurd (let z : ⊥ = cc in z)))

pub deep_first : (count i n : ℕ) (tokens all rest : List Token) → take count tokens ≡ all ++ take (count - i) rest → (Deep n ≢ NoMemory → take_if true rest ≡ Err (Deep n)) → all ≡ take count tokens
deep_first count i n tokens all rest h q = no_more_first count i tokens all rest (Deep n) h (q (λ e. absurd (let z : ⊥ = cc in z)))

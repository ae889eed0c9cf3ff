-- Lists of tokens at their fronts, and outcomes that are faults.
use Rattle.std.proofs.Common.{◌≡◌, ◌≤◌, List, [], ◌∷◌, ◌++◌, length, Ok, Err, refl, ap, ◌∙◌, arith, length-append}
use Rattle.al_lex.specs.declared.token.Token.{Token}
use Rattle.al_tree.specs.Reading.{Outcome, Parser, and_then}
use Rattle.al_tree.proofs.Law.{head}

abbrev pub IsErr : {A : Type 0} → Outcome A → Type 0
IsErr (Ok x) = ⊥
IsErr (Err e) = Unit {0}

pub same_head : (v r r' : List Token) → head r' ≡ head r → head (v ++ r') ≡ head (v ++ r)
same_head [] r r' h = h
same_head (t ∷ v) r r' h = refl

pub err_then : {A B : Type 0} (o : Outcome A) (g : A → Parser B) → IsErr o → IsErr (and_then o g)
err_then (Ok x) g e = absurd e
err_then (Err x) g e = tt

pub record Behind (front ts used : List Token) (r : List Token) : Type 0 where
  pub more : List Token
  pub is : used ≡ front ++ more
  pub cut : ts ≡ more ++ r

-- of two cuts of a list the one that leaves less takes more
pub behind : (front ts used r : List Token) → front ++ ts ≡ used ++ r → length r ≤ length ts → Behind front ts used r
behind [] ts used r e h = record { more = used; is = refl; cut = e }
behind (t ∷ front) ts [] r e h = absurd (omega (arith, h, ap length e, length-append front ts))
behind (t ∷ front) ts (s ∷ used) r e h =
    let q = behind front ts used r (let z : front ++ ts ≡ used ++ r = cc in z) h in
    let first : s ≡ t = cc in
    record { more = q.more; is = ap (λ x. x ∷ used) first ∙ ap (λ l. t ∷ l) q.is; cut = q.cut }

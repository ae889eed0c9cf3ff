-- The token behind a name that decides how a declaration is read.
use Rattle.std.proofs.Common.{◌≡◌, ℕ, ◌-◌, Bool, true, List, [], ◌∷◌, length, Option, Some, None, Ok, Err, refl, sym, ap, ◌∙◌}
use Rattle.al_base.specs.declared.place.Place.{Place}
use Rattle.al_lex.specs.declared.token.Token.{Token}
use Rattle.al_tree.specs.Types.{Leaves}
use Rattle.al_tree.specs.Items.{Declared}
use Rattle.al_tree.specs.Reading.{take_if}
use Rattle.al_tree.specs.declared.cursor.ParseError.{ParseError}
use Rattle.al_tree.specs.declared.item.Scope.{Scope}
use Rattle.al_parse_stmt.specs.Begun.{Begun}
use Rattle.al_parse_stmt.specs.Parse as parse

module _ (leaves : Leaves) (F n : ℕ) (d : Declared) (at : Place) (scope : Option Scope) (all first : List Token) (y : Begun) where
  pub some_next : (ts r : List Token) (t : Token) (left : ℕ) (refused : Bool) (e : ParseError) → take_if true ts ≡ Ok (t, r) → left ≡ length all - (length first - length ts) → refused ≡ parse.refuses (parse.behind_begun leaves F n d at scope y (t ∷ [])) → e ≡ parse.fault_behind left refused
      → Some e ≡ parse.decided_at leaves F n d at scope all first y ts
  unfolding take_if
  some_next [] r t left refused e h l b q = absurd (let z : ⊥ = cc in z)
  some_next (s ∷ ts) r t left refused e h l b q =
      let pair : ◌≡◌ {A = Token × List Token} (s, ts) (t, r) = cc in
      let same : t ≡ s = sym (ap (λ (x : Token × List Token). x.0) pair) in
      ap (λ x. Some x) (q ∙ ap (λ m. parse.fault_behind m refused) l ∙ ap (parse.fault_behind (length all - (length first - length (s ∷ ts)))) (b ∙ ap (λ z. parse.refuses (parse.behind_begun leaves F n d at scope y (z ∷ []))) same))

  pub no_next : (ts : List Token) (e : ParseError) → take_if true ts ≡ Err e → None ≡ parse.decided_at leaves F n d at scope all first y ts
  unfolding take_if
  no_next [] e h = refl
  no_next (s ∷ ts) e h = absurd (let z : ⊥ = cc in z)

-- What the verbs of a print do with the next argument.
use Rattle.std.proofs.Common.{◌≡◌, ℕ, ◌+◌, ◌-◌, ◌^◌, min, nat_lt, Bool, true, false, if◌then◌else◌, List, [], ◌∷◌, ◌++◌, length, refl, sym, ap, ◌∙◌, inl, inr, arith}
use Rattle.std.proofs.lemmas.Bool.{cases_lt, lt-ltb, le-ltb}
use Rattle.al_base.specs.declared.trap.Trap.TheVariants as trap
use Rattle.al_typed.specs.declared.expression.PrintPiece.{PrintPiece}
use Rattle.al_typed.specs.declared.expression.PrintPiece.TheVariants as print
use Rattle.al_meaning.specs.Evaluate.{compose, composes}
use Rattle.al_meaning.specs.Here.{Here, does, traps}
use Rattle.al_meaning.specs.Items.{Argument, Compose}
use Rattle.al_meaning.specs.Shown.{most_text}
use Rattle.al_walk_actions.specs.Shows.{IsShown, shows}

pub shows_by : (verb : PrintPiece) (pieces : List PrintPiece) (arguments : List Argument) (text : List ℕ) (h : Here) → IsShown verb
    → shows h verb pieces arguments text ≡ compose (verb ∷ pieces) arguments text h
shows_by (print.Byte b) pieces arguments text h is = absurd is
shows_by print.Percent pieces arguments text h is = absurd is
shows_by print.Text pieces arguments text h is = absurd is
shows_by print.Signed pieces [] text h is = refl
shows_by print.Signed pieces (a ∷ arguments) text h is = refl
shows_by print.Unsigned pieces [] text h is = refl
shows_by print.Unsigned pieces (a ∷ arguments) text h is = refl
shows_by print.Hexadecimal pieces [] text h is = refl
shows_by print.Hexadecimal pieces (a ∷ arguments) text h is = refl
shows_by print.Character pieces [] text h is = refl
shows_by print.Character pieces (a ∷ arguments) text h is = refl

-- lengths that are kept in 64 bits
pub past : (n m : ℕ) → m ≡ min n (2 ^ 64 - 1) → nat_lt most_text m ≡ nat_lt most_text n
past n m e =
    elim (cases_lt most_text n) [
      | inl h ↦ lt-ltb most_text m (omega (arith, e, h)) ∙ sym (lt-ltb most_text n h)
      | inr h ↦ le-ltb most_text m (omega (arith, e, h)) ∙ sym (le-ltb most_text n h)
    ]

-- where the text has room for more, and where it has none
pub composes_within : (h : Here) (pieces : List PrintPiece) (arguments : List Argument) (text bytes new : List ℕ) → false ≡ nat_lt most_text (length text + length bytes)
    → new ≡ text ++ bytes → does h (Compose pieces arguments new ∷ []) ≡ composes h pieces arguments text bytes
composes_within h pieces arguments text bytes new room e =
    ap (λ ts. does h (Compose pieces arguments ts ∷ [])) e
    ∙ ap (λ (t : Bool). if t then traps h trap.Print else does h (Compose pieces arguments (text ++ bytes) ∷ [])) room

pub composes_past : (h : Here) (pieces : List PrintPiece) (arguments : List Argument) (text bytes : List ℕ) → true ≡ nat_lt most_text (length text + length bytes)
    → traps h trap.Print ≡ composes h pieces arguments text bytes
composes_past h pieces arguments text bytes full =
    ap (λ (t : Bool). if t then traps h trap.Print else does h (Compose pieces arguments (text ++ bytes) ∷ [])) full

pub no_pieces : (pieces : List PrintPiece) → length pieces ≡ 0 → [] ≡ pieces
no_pieces [] e = refl
no_pieces (p ∷ pieces) e = absurd (omega (arith, e))

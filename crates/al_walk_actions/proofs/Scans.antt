-- Bytes of a text that are read one by one.
use Rattle.std.proofs.Common.{◌≡◌, ℕ, zero, suc, ◌<◌, ◌≤◌, nat_lt, Bool, true, false, if◌then◌else◌, List, [], ◌∷◌, ◌++◌, length, refl, ap, ap₂, ◌∙◌, arith}
use Rattle.std.specs.Prelude.{slice_index}
use Rattle.al_base.specs.declared.trap.Trap.TheVariants as trap
use Rattle.al_typed.specs.declared.expression.PrintPiece.{PrintPiece}
use Rattle.al_world.specs.Turns.{Turns}
use Rattle.al_meaning.specs.Evaluate.{scanned}
use Rattle.al_meaning.specs.Here.{Here, Next, control_at, does, traps, value_taken}
use Rattle.al_meaning.specs.Items.{Argument, Found, Words, Address, Local, Private, Nowhere, Compose, Scan}
use Rattle.al_meaning.specs.Shown.{most_text}
use Rattle.al_meaning.specs.Words.{sum}
use Rattle.al_walk_actions.specs.Fits.{ByteFits}

-- a byte but 0, where the text has room for it
pub scanned_more : (b at further : ℕ) (pieces : List PrintPiece) (arguments : List Argument) (text new : List ℕ) (h : Here) → 0 < b
    → true ≡ nat_lt (length text) most_text → further ≡ sum at 1 → new ≡ text ++ b ∷ []
    → does h (Scan further pieces arguments new ∷ []) ≡ scanned b at pieces arguments text h
scanned_more zero at further pieces arguments text new h some room next e = absurd (omega (arith, some))
scanned_more (suc b) at further pieces arguments text new h some room next e =
    ap₂ (λ a ts. does h (Scan a pieces arguments ts ∷ [])) next e
    ∙ ap (λ (t : Bool). if t then does h (Scan (sum at 1) pieces arguments (text ++ suc b ∷ []) ∷ []) else traps h trap.Print) room

-- where it has none
pub scanned_past : (b at : ℕ) (pieces : List PrintPiece) (arguments : List Argument) (text : List ℕ) (h : Here) → 0 < b
    → false ≡ nat_lt (length text) most_text → traps h trap.Print ≡ scanned b at pieces arguments text h
scanned_past zero at pieces arguments text h some full = absurd (omega (arith, some))
scanned_past (suc b) at pieces arguments text h some full =
    ap (λ (t : Bool). if t then does h (Scan (sum at 1) pieces arguments (text ++ suc b ∷ []) ∷ []) else traps h trap.Print) full

-- the end of the text
pub scanned_end : (b at : ℕ) (pieces : List PrintPiece) (arguments : List Argument) (text : List ℕ) (h : Here) → b ≤ 0
    → does h (Compose pieces arguments text ∷ []) ≡ scanned b at pieces arguments text h
scanned_end zero at pieces arguments text h none = refl
scanned_end (suc b) at pieces arguments text h none = absurd (omega (arith, none))

-- what was taken as a byte is what was found
pub byte_found : (found : List Found) (h rest : Here) (byte : ℕ)
    → ((k : ℕ → Here → Next) → value_taken found h (λ ws. k (slice_index ws 0)) ≡ k byte rest) → ByteFits found → byte < 256
byte_found [] h rest byte takes fits = let e = takes (λ n h. Turns n (control_at h) h.privates) in cc
byte_found (Words ws ∷ found) h rest byte takes fits =
    let e = takes (λ n h. Turns n (control_at h) h.privates) in
    let small : slice_index ws 0 < 256 = fits in
    let same : slice_index ws 0 ≡ byte = cc in
    omega arith
byte_found (Address at ∷ found) h rest byte takes fits = let e = takes (λ n h. Turns n (control_at h) h.privates) in cc
byte_found (Local number ∷ found) h rest byte takes fits = let e = takes (λ n h. Turns n (control_at h) h.privates) in cc
byte_found (Private number ∷ found) h rest byte takes fits = let e = takes (λ n h. Turns n (control_at h) h.privates) in cc
byte_found (Nowhere ∷ found) h rest byte takes fits = let e = takes (λ n h. Turns n (control_at h) h.privates) in cc

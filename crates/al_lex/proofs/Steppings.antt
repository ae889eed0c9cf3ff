-- The piece that is found at a byte of a text, and the fault.
use Rattle.std.proofs.Common.{◌≡◌, ℕ, ◌+◌, ◌<◌, ◌≤◌, Bool, List, [], ◌∷◌, ◌++◌, length, take, drop, fold, slice_range, refl, sym, ap, ap₂, ◌∙◌, subst, arith, length-drop, length-take-le, length-append}
use Rattle.std.proofs.lemmas.List.{take_at, drop_at, drop-drop}
use Rattle.al_lex.specs.declared.kind.PieceKind.{PieceKind}
use Rattle.al_lex.specs.declared.fault.LexReason.{LexReason}
use Rattle.al_lex.specs.declared.scan.Found.{Found}
use Rattle.al_lex.specs.declared.scan.Flaw.{Flaw}
use Rattle.al_lex.specs.declared.position.Position.{Position}
use Rattle.al_lex.specs.Cut.{IsNext, IsFault, is_fresh}
use Rattle.al_lex.specs.Position.{IsAt, IsPieceTo, IsFaultFrom, step}
use Rattle.al_lex.specs.Scan.{Answer, found, flaw, scan}
use Rattle.al_lex.proofs.Scanned.{IsRight, right_piece, right_fault, right, same_found, same_flaw, flaw_apart, some_byte}
use Rattle.al_lex.proofs.Positions.{at_more, take_more_bytes}

-- the piece that was found, by its length
record NextOf (fresh : Bool) (ts : List ℕ) (kind : PieceKind) (n : ℕ) : Type 0 where
  some : 0 < n
  within : n ≤ length ts
  is : IsNext fresh kind (take n ts) (drop n ts)

next_by : {fresh : Bool} {ts : List ℕ} {a : Answer} (kind : PieceKind) (n : ℕ) → IsRight fresh ts a → a ≡ found kind n → NextOf fresh ts kind n
next_by kind n (right_fault reason offset f) e = absurd (flaw_apart reason offset kind n e)
next_by {fresh} {ts} kind n (right_piece other m u rest cut len d) e =
    let q = same_found other m kind n e in
    let nu : n ≡ length u = sym q.1 ∙ len in
    let front : take n ts ≡ u = ap₂ take nu cut ∙ take_at u rest (length u) refl in
    let left : drop n ts ≡ rest = ap₂ drop nu cut ∙ drop_at u rest (length u) refl in
    record {
      some = omega (arith, nu, some_byte d.longest.is);
      within = omega (arith, nu, ap length cut, length-append u rest);
      is = subst (λ (x : PieceKind). IsNext fresh x (take n ts) (drop n ts)) q.0 (subst (λ (l : List ℕ). IsNext fresh other (take n ts) l) (sym left) (subst (λ (l : List ℕ). IsNext fresh other l rest) (sym front) d));
    }

next_of : (fresh : Bool) (ts : List ℕ) (kind : PieceKind) (n : ℕ) → 0 < length ts → scan fresh ts ≡ found kind n → NextOf fresh ts kind n
next_of fresh [] kind n h e = absurd (omega arith)
next_of fresh (b ∷ bs) kind n h e = next_by kind n (right fresh b bs) e

fault_by : {fresh : Bool} {ts : List ℕ} {a : Answer} (reason : LexReason) (offset : ℕ) → IsRight fresh ts a → a ≡ flaw reason offset → IsFault fresh ts reason offset
fault_by reason offset (right_piece other m u rest cut len d) e = absurd (flaw_apart reason offset other m (sym e))
fault_by {fresh} {ts} reason offset (right_fault other i f) e =
    let q = same_flaw other i reason offset e in
    subst (λ (x : LexReason). IsFault fresh ts x offset) q.0 (subst (λ (n : ℕ). IsFault fresh ts other n) q.1 f)

fault_of : (fresh : Bool) (ts : List ℕ) (reason : LexReason) (offset : ℕ) → 0 < length ts → scan fresh ts ≡ flaw reason offset → IsFault fresh ts reason offset
fault_of fresh [] reason offset h e = absurd (omega arith)
fault_of fresh (b ∷ bs) reason offset h e = fault_by reason offset (right fresh b bs) e

fold_at : (here : Position) (bytes : List ℕ) → (fold step here bytes).at ≡ here.at + length bytes
fold_at here [] = omega arith
fold_at here (b ∷ bs) = fold_at (step here b) bs ∙ omega arith

-- the piece from here on, and the position behind it
pub record Stepped (text : List ℕ) (here there : Position) (kind : PieceKind) : Type 0 where
  pub is : IsPieceTo text here.at kind there.at
  pub at : IsAt (take there.at text) there

pub stepped : (text : List ℕ) (here there : Position) (f : Found) → here.at < length text → IsAt (take here.at text) here → scan here.fresh (drop here.at text) ≡ found f.kind f.len → there ≡ fold step here (take f.len (drop here.at text)) → Stepped text here there f.kind
stepped text here there f more h e walked =
    let i = here.at in
    let ts = drop i text in
    let n = f.len in
    let d = next_of here.fresh ts f.kind n (omega (arith, length-drop i text)) e in
    let to : there.at ≡ i + n = ap (λ (p : Position). p.at) walked ∙ fold_at here (take n ts) ∙ ap (λ m. i + m) (length-take-le n ts d.within) in
    let range : slice_range text i there.at ≡ take n ts = ap (λ m. take m ts) (omega (arith, to)) in
    let left : drop there.at text ≡ drop n ts = ap (λ m. drop m text) to ∙ sym (drop-drop n i text) in
    let fresh : IsNext (is_fresh (take i text)) f.kind (take n ts) (drop n ts) = subst (λ (x : Bool). IsNext x f.kind (take n ts) (drop n ts)) h.fresh d.is in
    record {
      is = record {
        ordered = omega (arith, to, d.some);
        within = omega (arith, to, d.within, length-drop i text);
        is = subst (λ (l : List ℕ). IsNext (is_fresh (take i text)) f.kind (slice_range text i there.at) l) (sym left) (subst (λ (l : List ℕ). IsNext (is_fresh (take i text)) f.kind l (drop n ts)) (sym range) fresh);
      };
      at =
          let walk = at_more (take i text) here (take n ts) h in
          let before : take i text ++ take n ts ≡ take there.at text = take_more_bytes i n text ∙ ap (λ m. take m text) (sym to) in
          subst (λ (l : List ℕ). IsAt l there) before (subst (IsAt (take i text ++ take n ts)) (sym walked) walk);
    }

pub fault_from : (text : List ℕ) (here : Position) (f : Flaw) → here.at < length text → IsAt (take here.at text) here → scan here.fresh (drop here.at text) ≡ flaw f.reason f.offset → IsFaultFrom text here.at (record { reason = f.reason; byte = here.at + f.offset })
fault_from text here f more h e =
    let d = fault_of here.fresh (drop here.at text) f.reason f.offset (omega (arith, length-drop here.at text)) e in
    record { offset = f.offset; is = subst (λ (x : Bool). IsFault x (drop here.at text) f.reason f.offset) h.fresh d; byte_is = refl }

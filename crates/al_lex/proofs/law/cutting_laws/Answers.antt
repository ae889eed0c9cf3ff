use Rattle.std.proofs.Common.{◌⊎◌, inl, inr, ℕ, List}
use Rattle.al_lex.specs.declared.fault.LexReason.{LexReason}
use Rattle.al_lex.specs.Cut.{Piece, Cut, Stuck}
use Rattle.al_lex.proofs.Laws.{one_cutting, never_both, one_fault, cut_or_stuck, CutOrStuck, is_cut, is_stuck}
use Rattle.al_lex.proofs.law.cutting_laws.Goals as goal

either : (text : List ℕ) → CutOrStuck text → ((ps : List Piece) × Cut text ps) ⊎ ((r : LexReason) × (i : ℕ) × Stuck text r i)
either text (is_cut pieces c) = inl (pieces, c)
either text (is_stuck reason byte s) = inr (reason, byte, s)

pub returns : goal.returns
returns c = record {
  cut_once = one_cutting;
  never_both = never_both;
  one_reason = λ text r s i j a b. (one_fault text r s i j a b).reasons;
  one_byte = λ text r s i j a b. (one_fault text r s i j a b).bytes;
  cut_or_stuck = λ text. either text (cut_or_stuck text);
}

-- Operations on words.
use Rattle.std.proofs.Common.{◌≡◌, ℕ, ◌+◌, ◌-◌, ◌/◌, ◌%◌, ◌^◌, List, [], ◌∷◌, length, Option, Some, None, refl, sym, subst}
use Rattle.std.specs.Prelude.{◌==◌, Bool, replicate, slice_index, slice_set}
use Rattle.al_base.specs.Arith.{applied}
use Rattle.al_base.specs.declared.arith.Op.{Op as Arith}
use Rattle.al_base.specs.declared.arith.Kind.{Kind}
use Rattle.al_base.specs.declared.trap.Trap.TheVariants as trap
use Rattle.al_event.specs.declared.act.Act.TheVariants as act
use Rattle.al_world.specs.Turns.{Moves}
use Rattle.al_meaning.specs.Words.{sum, stepped_by, elements_between}
use Rattle.al_meaning.specs.Tasks.{Still, Outcome, stop_in}
use Rattle.al_ir.specs.declared.op.Op.{Op}
use Rattle.al_ir.specs.declared.op.Op.TheVariants.{Constant, Copy, Zero, Result, Word, WordBy, Long, Complement, IsZero, IsLongSet, Convert, Extract, Offset, Advance, Between, GetPrivate, PutPrivate}
use Rattle.al_ir.specs.Control.{Slots, put, put_all}
use Rattle.al_ir.specs.Step.{step_op, private_step, or_divides, word_kind, long_kind, long_words, pair, one_if, zero_if, kind_words, converted_words}
use Rattle.al_ir.specs.Meaning.{control_weight, resume}
use Rattle.al_ir.proofs.Lighter.{lighter}
use Rattle.al_lowered.proofs.Does.{one, stops}
use Rattle.al_lower_steps.specs.Slots.{Holds}
use Rattle.al_lower_steps.specs.Site.{Site, standing, here, HasOperation}
use Rattle.al_lower_steps.proofs.Slots.{words_held_of}
use Rattle.al_lower_steps.proofs.Steps.{Runs, sets, step_is}

module _ (x : Site) where
  -- ---- words that are moved

  pub constant_does : {o : Outcome} {line pc to w : ℕ} {slots last : Slots} {s : Still} → HasOperation x pc line (Constant to w) → Runs x o (pc + 1) (put to w slots) last s → Runs x o pc slots last s
  constant_does {o} {line} {pc} {to} {w} {slots} {last} {s} h r = sets x (put to w slots) h refl r

  pub copy_does : {o : Outcome} {line pc to from w : ℕ} {slots last : Slots} {s : Still} → HasOperation x pc line (Copy to from) → slots from ≡ Some w → Runs x o (pc + 1) (put to w slots) last s → Runs x o pc slots last s
  copy_does {o} {line} {pc} {to} {from} {w} {slots} {last} {s} h e r = sets x (put to w slots) h (rw e refl) r

  pub zero_does : {o : Outcome} {line pc to count : ℕ} {slots last : Slots} {s : Still} → HasOperation x pc line (Zero to count) → Runs x o (pc + 1) (put_all to (replicate count 0) slots) last s → Runs x o pc slots last s
  zero_does {o} {line} {pc} {to} {count} {slots} {last} {s} h r = sets x (put_all to (replicate count 0) slots) h refl r

  pub result_does : {o : Outcome} {line pc to word w : ℕ} {slots last : Slots} {s : Still} → HasOperation x pc line (Result to word) → last word ≡ Some w → Runs x o (pc + 1) (put to w slots) last s → Runs x o pc slots last s
  result_does {o} {line} {pc} {to} {word} {w} {slots} {last} {s} h e r = sets x (put to w slots) h (rw e refl) r

  pub get_private_does : {o : Outcome} {line pc to place : ℕ} {slots last : Slots} {s : Still} → HasOperation x pc line (GetPrivate to place) → Runs x o (pc + 1) (put to (slice_index s.privates place) slots) last s → Runs x o pc slots last s
  get_private_does {o} {line} {pc} {to} {place} {slots} {last} {s} h r = sets x (put to (slice_index s.privates place) slots) h refl r

  pub put_private_does : {o : Outcome} {line pc place from w : ℕ} {slots last : Slots} {s : Still} → HasOperation x pc line (PutPrivate place from) → slots from ≡ Some w → (x.rules.Private s.privates → x.rules.Private (slice_set s.privates place w)) → Runs x o (pc + 1) slots last (record s { privates = slice_set s.privates place w }) → Runs x o pc slots last s
  put_private_does {o} {line} {pc} {place} {from} {w} {slots} {last} {s} h e keeps r =
      one (private_step x.ir) (control_weight x.ir) resume (lighter x.ir) x.rules {d = standing x (pc + 1) 0 slots last} (step_is x line pc 0 (PutPrivate place from) slots last s.privates _ h (rw e refl)) keeps r

  -- ---- words that are computed

  pub complement_does : {o : Outcome} {line pc to from w : ℕ} {slots last : Slots} {s : Still} → HasOperation x pc line (Complement to from) → slots from ≡ Some w → Runs x o (pc + 1) (put to (2 ^ 32 - 1 - w) slots) last s → Runs x o pc slots last s
  complement_does {o} {line} {pc} {to} {from} {w} {slots} {last} {s} h e r = sets x (put to (2 ^ 32 - 1 - w) slots) h (rw e refl) r

  pub is_zero_does : {o : Outcome} {line pc to from w : ℕ} {slots last : Slots} {s : Still} → HasOperation x pc line (IsZero to from) → slots from ≡ Some w → Runs x o (pc + 1) (put to (one_if (w == 0)) slots) last s → Runs x o pc slots last s
  is_zero_does {o} {line} {pc} {to} {from} {w} {slots} {last} {s} h e r = sets x (put to (one_if (w == 0)) slots) h (rw e refl) r

  pub is_long_set_does : {o : Outcome} {line pc to from low high : ℕ} {slots last : Slots} {s : Still} → HasOperation x pc line (IsLongSet to from) → Holds slots from (low ∷ high ∷ []) → Runs x o (pc + 1) (put to (zero_if (pair low high == 0)) slots) last s → Runs x o pc slots last s
  is_long_set_does {o} {line} {pc} {to} {from} {low} {high} {slots} {last} {s} h e r = sets x (put to (zero_if (pair low high == 0)) slots) h (rw (e.0, e.1.0) refl) r

  pub convert_does : {o : Outcome} {line pc : ℕ} {from into : Kind} {to of : ℕ} {slots last : Slots} {s : Still} (ws : List ℕ) → HasOperation x pc line (Convert from into to of) → length ws ≡ kind_words from → Holds slots of ws → Runs x o (pc + 1) (put_all to (converted_words from into ws) slots) last s → Runs x o pc slots last s
  convert_does {o} {line} {pc} {from} {into} {to} {of} {slots} {last} {s} ws h len e r =
      let there = words_held_of ws of (kind_words from) slots len e in sets x (put_all to (converted_words from into ws) slots) h (rw there refl) r

  pub extract_does : {o : Outcome} {line pc to from skip size w : ℕ} {slots last : Slots} {s : Still} → HasOperation x pc line (Extract to from skip size) → slots from ≡ Some w → Runs x o (pc + 1) (put to (w / 256 ^ skip % 256 ^ size) slots) last s → Runs x o pc slots last s
  extract_does {o} {line} {pc} {to} {from} {skip} {size} {w} {slots} {last} {s} h e r = sets x (put to (w / 256 ^ skip % 256 ^ size) slots) h (rw e refl) r

  pub offset_does : {o : Outcome} {line pc to from bytes w : ℕ} {slots last : Slots} {s : Still} → HasOperation x pc line (Offset to from bytes) → slots from ≡ Some w → Runs x o (pc + 1) (put to (sum w bytes) slots) last s → Runs x o pc slots last s
  offset_does {o} {line} {pc} {to} {from} {bytes} {w} {slots} {last} {s} h e r = sets x (put to (sum w bytes) slots) h (rw e refl) r

  pub advance_does : {o : Outcome} {line pc : ℕ} {back : Bool} {size to pointer count a n : ℕ} {slots last : Slots} {s : Still} → HasOperation x pc line (Advance back size to pointer count) → slots pointer ≡ Some a → slots count ≡ Some n → Runs x o (pc + 1) (put to (stepped_by back size a n) slots) last s → Runs x o pc slots last s
  advance_does {o} {line} {pc} {back} {size} {to} {pointer} {count} {a} {n} {slots} {last} {s} h e k r = sets x (put to (stepped_by back size a n) slots) h (rw (e, k) refl) r

  pub between_does : {o : Outcome} {line pc size to left right a b : ℕ} {slots last : Slots} {s : Still} → HasOperation x pc line (Between size to left right) → slots left ≡ Some a → slots right ≡ Some b → Runs x o (pc + 1) (put to (elements_between size a b) slots) last s → Runs x o pc slots last s
  between_does {o} {line} {pc} {size} {to} {left} {right} {a} {b} {slots} {last} {s} h e k r = sets x (put to (elements_between size a b) slots) h (rw (e, k) refl) r

  -- ---- operators

  -- what is computed, or the trap: `so` says how it comes out with it
  pub computed_does : {line pc : ℕ} {i : Op} {slots last : Slots} {s : Still} (so : Option ℕ → Outcome) (now : ℕ → Slots) (c : Option ℕ) → HasOperation x pc line i → step_op i (here x line pc 0 slots last s.privates) ≡ or_divides (here x line pc 0 slots last s.privates) c (λ z. Moves (standing x (pc + 1) 0 (now z) last) s.privates) → so None ≡ stop_in line (act.Trap trap.Divide) s → ((z : ℕ) → c ≡ Some z → Runs x (so (Some z)) (pc + 1) (now z) last s) → Runs x (so c) pc slots last s
  computed_does {line} {pc} {i} {slots} {last} {s} so now None h e none go =
      subst (λ o. Runs x o pc slots last s) (sym none) (stops (private_step x.ir) (control_weight x.ir) resume (lighter x.ir) x.rules {d = standing x (pc + 1) 0 slots last} (act.Trap trap.Divide) line (step_is x line pc 0 i slots last s.privates _ h e) refl tt)
  computed_does {line} {pc} {i} {slots} {last} {s} so now (Some z) h e none go = sets x (now z) h e (go z refl)

  pub word_does : {line pc : ℕ} {op : Arith} {signed : Bool} {to left right a b : ℕ} {slots last : Slots} {s : Still} (so : Option ℕ → Outcome) → HasOperation x pc line (Word op signed to left right) → slots left ≡ Some a → slots right ≡ Some b → so None ≡ stop_in line (act.Trap trap.Divide) s → ((z : ℕ) → applied op (word_kind signed) a b ≡ Some z → Runs x (so (Some z)) (pc + 1) (put to z slots) last s) → Runs x (so (applied op (word_kind signed) a b)) pc slots last s
  word_does {line} {pc} {op} {signed} {to} {left} {right} {a} {b} {slots} {last} {s} so h e k none go =
      computed_does {i = Word op signed to left right} so (λ z. put to z slots) (applied op (word_kind signed) a b) h (rw (e, k) refl) none go

  pub word_by_does : {line pc : ℕ} {op : Arith} {signed : Bool} {to left a b : ℕ} {slots last : Slots} {s : Still} (so : Option ℕ → Outcome) → HasOperation x pc line (WordBy op signed to left b) → slots left ≡ Some a → so None ≡ stop_in line (act.Trap trap.Divide) s → ((z : ℕ) → applied op (word_kind signed) a b ≡ Some z → Runs x (so (Some z)) (pc + 1) (put to z slots) last s) → Runs x (so (applied op (word_kind signed) a b)) pc slots last s
  word_by_does {line} {pc} {op} {signed} {to} {left} {a} {b} {slots} {last} {s} so h e none go =
      computed_does {i = WordBy op signed to left b} so (λ z. put to z slots) (applied op (word_kind signed) a b) h (rw e refl) none go

  pub long_does : {line pc : ℕ} {op : Arith} {signed : Bool} {to left right a b c d : ℕ} {slots last : Slots} {s : Still} (so : Option ℕ → Outcome) → HasOperation x pc line (Long op signed to left right) → Holds slots left (a ∷ b ∷ []) → Holds slots right (c ∷ d ∷ []) → so None ≡ stop_in line (act.Trap trap.Divide) s → ((z : ℕ) → applied op (long_kind signed) (pair a b) (pair c d) ≡ Some z → Runs x (so (Some z)) (pc + 1) (put_all to (long_words op z) slots) last s) → Runs x (so (applied op (long_kind signed) (pair a b) (pair c d))) pc slots last s
  long_does {line} {pc} {op} {signed} {to} {left} {right} {a} {b} {c} {d} {slots} {last} {s} so h e k none go =
      computed_does {i = Long op signed to left right} so (λ z. put_all to (long_words op z) slots) (applied op (long_kind signed) (pair a b) (pair c d)) h (rw (e.0, e.1.0, k.0, k.1.0) refl) none go

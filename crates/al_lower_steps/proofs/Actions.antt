-- Operations that ask something of the world.
use Rattle.std.proofs.Common.{◌≡◌, ℕ, ◌+◌, ◌*◌, ◌%◌, ◌^◌, ◌<◌, List, [], ◌∷◌, map, drop, length, Some, refl, sym, ◌∙◌, subst, ◌⊎◌, inl, inr, arith}
use Rattle.std.specs.Prelude.{nat_lt, Bool, true, false, if◌then◌else◌, slice_get, slice_index}
use Rattle.std.specs.Int.{cast_signed, w32}
use Rattle.std.specs.List.{AllByRecursion}
use Rattle.std.proofs.Math.Nat.{mod-mod, zero-mod}
use Rattle.std.proofs.lemmas.Grind.{common_steps}
use Rattle.al_base.specs.declared.trap.Trap.{Trap as TrapKind}
use Rattle.al_event.specs.declared.act.Act.{Act}
use Rattle.al_event.specs.declared.act.Act.TheVariants as act
use Rattle.al_event.specs.declared.act.Block.{Block}
use Rattle.al_event.specs.declared.act.Branch.{Branch as ActBranch}
use Rattle.al_world.specs.Control.{fitted, cut, branch_in, received_by}
use Rattle.al_world.specs.Turns.{Asks}
use Rattle.al_world.specs.Alike.{starts_in}
use Rattle.al_until_last.specs.UntilLast.{is_last}
use Rattle.al_meaning.specs.Words.{sum}
use Rattle.al_meaning.specs.Tasks.{Still, Outcome, ask_in, stop_in}
use Rattle.al_ir.specs.declared.op.Op.{Op}
use Rattle.al_ir.specs.declared.op.TalkBranch.{TalkBranch}
use Rattle.al_ir.specs.declared.op.Op.TheVariants.{Load, Store, Alloc, Free, NewChan, FreeChan, CanRecv, CanSend, Talk, Proc, Task, Par, Terminate, Trap}
use Rattle.al_ir.specs.Control.{Slots, put, put_all, forget, Word, Branch}
use Rattle.al_ir.specs.Step.{step_op, private_step, branches_of}
use Rattle.al_ir.specs.Meaning.{control_weight, resume}
use Rattle.al_ir.proofs.Lighter.{lighter}
use Rattle.al_lowered.proofs.Does.{asks_starting, stops}
use Rattle.al_lower_steps.specs.Slots.{Holds}
use Rattle.al_lower_steps.specs.Site.{Site, standing, here, HasOperation}
use Rattle.al_lower_steps.proofs.Slots.{words_held}
use Rattle.al_lower_steps.proofs.Steps.{Out, Runs, step_is}

-- a word in an answer of one word
in_cut : (m : ℕ) (words : List ℕ) → slice_index (cut 1 m words) 0 % m ≡ slice_index (cut 1 m words) 0
in_cut m [] = zero-mod m
in_cut m (w ∷ words) = mod-mod w m

one_cut : (m : ℕ) (words : List ℕ) → cut 1 m words ≡ slice_index (cut 1 m words) 0 ∷ []
one_cut m [] = refl
one_cut m (w ∷ words) = refl

-- what the branch that went receives: as many words as it says
pub record Received (branches : List ActBranch) (i : ℕ) (words : List ℕ) : Type 0 where
  pub known : branches ≡ [] ⊎ (i < length branches)
  pub given : List ℕ
  pub is : words ≡ cut (received_by (slice_get branches i)) (2 ^ 32) given

branch_known : (branches : List ActBranch) (i : ℕ) → (branches ≡ []) ⊎ (branch_in branches i < length branches)
branch_known [] i = inl refl
branch_known (b ∷ bs) i = on (nat_lt i (length (b ∷ bs))) refl
  where
    on : (c : Bool) → nat_lt i (length (b ∷ bs)) ≡ c → (b ∷ bs ≡ []) ⊎ ((if c then i else 0) < length (b ∷ bs))
    on true e = inr (grind (arith, common_steps, e))
    on false e = inr (omega arith)

module _ (x : Site) where
  -- ---- with an answer of one word, or none

  -- the word goes into a slot
  pub asks_word_does : {line pc to : ℕ} {i : Op} {a : Act} {slots last : Slots} {s : Still} (m : ℕ) (k : List ℕ → Still → Outcome) → HasOperation x pc line i → step_op i (here x line pc 0 slots last s.privates) ≡ Asks a line (record (standing x (pc + 1) 0 slots last) { into = Word to }) s.privates → is_last a ≡ false → AllByRecursion x.rules.IsStart (starts_in a) → ((words : List ℕ) → fitted a words ≡ cut 1 m words) → ((w : ℕ) (s : Still) → w % m ≡ w → Runs x (k (w ∷ []) s) (pc + 1) (put to w slots) last s) → Runs x (ask_in line a s k) pc slots last s
  asks_word_does {line} {pc} {to} {i} {a} {slots} {last} {s} m k h e l g shape next =
      asks_starting (private_step x.ir) (control_weight x.ir) resume (lighter x.ir) x.rules {d = record (standing x (pc + 1) 0 slots last) { into = Word to }} k (step_is x line pc 0 i slots last s.privates _ h e) l g
      (λ words s.
      let w = slice_index (cut 1 m words) 0 in
      subst (λ v. Out x (k v s) (resume (record (standing x (pc + 1) 0 slots last) { into = Word to }) v) s) (sym (shape words ∙ one_cut m words)) (next w s (in_cut m words)))

  -- slots may be forgotten meanwhile
  pub asks_nothing_does : {line pc : ℕ} {i : Op} {a : Act} {slots last : Slots} {s : Still} (now : Slots) (k : List ℕ → Still → Outcome) → HasOperation x pc line i → step_op i (here x line pc 0 slots last s.privates) ≡ Asks a line (standing x (pc + 1) 0 now last) s.privates → is_last a ≡ false → AllByRecursion x.rules.IsStart (starts_in a) → ((words : List ℕ) → fitted a words ≡ []) → ((s : Still) → Runs x (k [] s) (pc + 1) now last s) → Runs x (ask_in line a s k) pc slots last s
  asks_nothing_does {line} {pc} {i} {a} {slots} {last} {s} now k h e l g shape next =
      asks_starting (private_step x.ir) (control_weight x.ir) resume (lighter x.ir) x.rules {d = standing x (pc + 1) 0 now last} k (step_is x line pc 0 i slots last s.privates _ h e) l g
      (λ words s. subst (λ v. Out x (k v s) (resume (standing x (pc + 1) 0 now last) v) s) (sym (shape words)) (next s))

  pub stops_does : {line pc : ℕ} {i : Op} {a : Act} {slots last : Slots} {s : Still} → HasOperation x pc line i → step_op i (here x line pc 0 slots last s.privates) ≡ Asks a line (standing x (pc + 1) 0 slots last) s.privates → is_last a ≡ true → AllByRecursion x.rules.IsStart (starts_in a) → Runs x (stop_in line a s) pc slots last s
  stops_does {line} {pc} {i} {a} {slots} {last} {s} h e l g =
      stops (private_step x.ir) (control_weight x.ir) resume (lighter x.ir) x.rules {d = standing x (pc + 1) 0 slots last} a line (step_is x line pc 0 i slots last s.privates _ h e) l g

  pub load_does : {line pc to at offset size a : ℕ} {slots last : Slots} {s : Still} (k : List ℕ → Still → Outcome) → HasOperation x pc line (Load to at offset size) → slots at ≡ Some a → ((w : ℕ) (s : Still) → w % 256 ^ size ≡ w → Runs x (k (w ∷ []) s) (pc + 1) (put to w slots) last s) → Runs x (ask_in line (act.Load (sum a offset) size) s k) pc slots last s
  load_does {line} {pc} {to} {at} {offset} {size} k h e next = asks_word_does {line = line} {pc = pc} {to = to} {i = Load to at offset size} (256 ^ size) k h (rw e refl) refl tt (λ words. refl) next

  pub store_does : {line pc at offset size from a w : ℕ} {slots last : Slots} {s : Still} (k : List ℕ → Still → Outcome) → HasOperation x pc line (Store at offset size from) → slots at ≡ Some a → slots from ≡ Some w → ((s : Still) → Runs x (k [] s) (pc + 1) slots last s) → Runs x (ask_in line (act.Store (sum a offset) size (w % 256 ^ size)) s k) pc slots last s
  store_does {line} {pc} {at} {offset} {size} {from} {slots = slots} k h e f next = asks_nothing_does {line = line} {pc = pc} {i = Store at offset size from} slots k h (rw (e, f) refl) refl tt (λ words. refl) next

  pub alloc_does : {line pc to bytes : ℕ} {kind : Block} {slots last : Slots} {s : Still} (k : List ℕ → Still → Outcome) → HasOperation x pc line (Alloc to bytes kind) → ((w : ℕ) (s : Still) → w % 2 ^ 32 ≡ w → Runs x (k (w ∷ []) s) (pc + 1) (put to w slots) last s) → Runs x (ask_in line (act.Alloc bytes kind) s k) pc slots last s
  alloc_does {line} {pc} {to} {bytes} {kind} k h next = asks_word_does {line = line} {pc = pc} {to = to} {i = Alloc to bytes kind} (2 ^ 32) k h refl refl tt (λ words. refl) next

  pub free_does : {line pc at a : ℕ} {kind : Block} {slots last : Slots} {s : Still} (k : List ℕ → Still → Outcome) → HasOperation x pc line (Free at kind) → slots at ≡ Some a → ((s : Still) → Runs x (k [] s) (pc + 1) slots last s) → Runs x (ask_in line (act.Free a kind) s k) pc slots last s
  free_does {line} {pc} {at} {kind = kind} {slots} k h e next = asks_nothing_does {line = line} {pc = pc} {i = Free at kind} slots k h (rw e refl) refl tt (λ words. refl) next

  pub new_chan_does : {line pc to capacity words : ℕ} {slots last : Slots} {s : Still} (k : List ℕ → Still → Outcome) → HasOperation x pc line (NewChan to capacity words) → ((w : ℕ) (s : Still) → w % 2 ^ 32 ≡ w → Runs x (k (w ∷ []) s) (pc + 1) (put to w slots) last s) → Runs x (ask_in line (act.NewChan capacity words) s k) pc slots last s
  new_chan_does {line} {pc} {to} {capacity} {words} k h next = asks_word_does {line = line} {pc = pc} {to = to} {i = NewChan to capacity words} (2 ^ 32) k h refl refl tt (λ words. refl) next

  pub free_chan_does : {line pc chan c : ℕ} {slots last : Slots} {s : Still} (k : List ℕ → Still → Outcome) → HasOperation x pc line (FreeChan chan) → slots chan ≡ Some c → ((s : Still) → Runs x (k [] s) (pc + 1) slots last s) → Runs x (ask_in line (act.FreeChan c) s k) pc slots last s
  free_chan_does {line} {pc} {chan} {slots = slots} k h e next = asks_nothing_does {line = line} {pc = pc} {i = FreeChan chan} slots k h (rw e refl) refl tt (λ words. refl) next

  pub can_recv_does : {line pc to chan c : ℕ} {slots last : Slots} {s : Still} (k : List ℕ → Still → Outcome) → HasOperation x pc line (CanRecv to chan) → slots chan ≡ Some c → ((w : ℕ) (s : Still) → w % 2 ≡ w → Runs x (k (w ∷ []) s) (pc + 1) (put to w slots) last s) → Runs x (ask_in line (act.CanRecv c) s k) pc slots last s
  can_recv_does {line} {pc} {to} {chan} k h e next = asks_word_does {line = line} {pc = pc} {to = to} {i = CanRecv to chan} 2 k h (rw e refl) refl tt (λ words. refl) next

  pub can_send_does : {line pc to chan c : ℕ} {slots last : Slots} {s : Still} (k : List ℕ → Still → Outcome) → HasOperation x pc line (CanSend to chan) → slots chan ≡ Some c → ((w : ℕ) (s : Still) → w % 2 ≡ w → Runs x (k (w ∷ []) s) (pc + 1) (put to w slots) last s) → Runs x (ask_in line (act.CanSend c) s k) pc slots last s
  can_send_does {line} {pc} {to} {chan} k h e next = asks_word_does {line = line} {pc = pc} {to = to} {i = CanSend to chan} 2 k h (rw e refl) refl tt (λ words. refl) next

  -- ---- without an answer

  pub terminate_does : {line pc status w : ℕ} {slots last : Slots} {s : Still} → HasOperation x pc line (Terminate status) → slots status ≡ Some w → Runs x (stop_in line (act.Terminate (cast_signed w32 w)) s) pc slots last s
  terminate_does {line} {pc} {status} h e = stops_does {line = line} {pc = pc} {i = Terminate status} h (rw e refl) refl tt

  pub trap_does : {line pc : ℕ} {t : TrapKind} {slots last : Slots} {s : Still} → HasOperation x pc line (Trap t) → Runs x (stop_in line (act.Trap t) s) pc slots last s
  trap_does {line} {pc} {t} h = stops_does {line = line} {pc = pc} {i = Trap t} h refl refl tt

  -- ---- talks

  pub talk_does : {line pc : ℕ} {branches : List TalkBranch} {records to got : ℕ} {slots last : Slots} {s : Still} (asked : List ActBranch) (k : List ℕ → Still → Outcome) → HasOperation x pc line (Talk branches records to got) → branches_of slots branches ≡ Some asked → ((i : ℕ) (words : List ℕ) (s : Still) → Received asked i words → Runs x (k (i ∷ words) s) (pc + 1) (put_all got words (put to i (forget records (4 * length branches) slots))) last s) → Runs x (ask_in line (act.Talk asked) s k) pc slots last s
  talk_does {line} {pc} {branches} {records} {to} {got} {slots} {last} {s} asked k h e next =
      let ready : Slots = forget records (4 * length branches) slots in
      asks_starting (private_step x.ir) (control_weight x.ir) resume (lighter x.ir) x.rules {d = record (standing x (pc + 1) 0 ready last) { into = Branch to got }} k (step_is x line pc 0 (Talk branches records to got) slots last s.privates _ h (rw e refl)) refl tt
      (λ words s. next (branch_in asked (slice_index words 0)) (cut (received_by (slice_get asked (branch_in asked (slice_index words 0)))) (2 ^ 32) (drop 1 words)) s
      (record { known = branch_known asked (slice_index words 0); given = drop 1 words; is = refl }))

  -- ---- starts

  pub proc_does : {line pc function arguments : ℕ} {slots last : Slots} {s : Still} (words : List ℕ) (k : List ℕ → Still → Outcome) → HasOperation x pc line (Proc function arguments (length words)) → Holds slots arguments words → x.rules.IsStart (record { code = function; words = words }) → ((s : Still) → Runs x (k [] s) (pc + 1) slots last s) → Runs x (ask_in line (act.Proc (record { code = function; words = words })) s k) pc slots last s
  proc_does {line} {pc} {function} {arguments} {slots} words k h e g next =
      let there = words_held words arguments slots e in asks_nothing_does {line = line} {pc = pc} {i = Proc function arguments (length words)} slots k h (rw there refl) refl (g, tt) (λ words. refl) next

  pub task_does : {line pc function arguments : ℕ} {slots last : Slots} {s : Still} (words : List ℕ) (k : List ℕ → Still → Outcome) → HasOperation x pc line (Task function arguments (length words)) → Holds slots arguments words → x.rules.IsStart (record { code = function; words = words }) → ((s : Still) → Runs x (k [] s) (pc + 1) slots last s) → Runs x (ask_in line (act.Task (record { code = function; words = words })) s k) pc slots last s
  task_does {line} {pc} {function} {arguments} {slots} words k h e g next =
      let there = words_held words arguments slots e in asks_nothing_does {line = line} {pc = pc} {i = Task function arguments (length words)} slots k h (rw there refl) refl (g, tt) (λ words. refl) next

  pub par_does : {line pc : ℕ} {functions : List ℕ} {arguments records : ℕ} {slots last : Slots} {s : Still} (words : List ℕ) (k : List ℕ → Still → Outcome) → HasOperation x pc line (Par functions arguments (length words) records) → Holds slots arguments words → AllByRecursion x.rules.IsStart (map (λ f. record { code = f; words = words }) functions) → ((s : Still) → Runs x (k [] s) (pc + 1) (forget records (3 * length functions) slots) last s) → Runs x (ask_in line (act.Par (map (λ f. record { code = f; words = words }) functions)) s k) pc slots last s
  par_does {line} {pc} {functions} {arguments} {records} {slots} words k h e g next =
      let there = words_held words arguments slots e in asks_nothing_does {line = line} {pc = pc} {i = Par functions arguments (length words) records} (forget records (3 * length functions) slots) k h (rw there refl) refl g (λ words. refl) next

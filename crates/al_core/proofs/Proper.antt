-- The machine asks within the bounds of its runtime calls: what it sends are words, and it starts functions that the image has.
use Rattle.std.proofs.Common.{◌≡◌, ℕ, zero, suc, ◌+◌, ◌-◌, ◌*◌, ◌/◌, ◌%◌, ◌^◌, ◌<◌, ◌≤◌, List, [], ◌∷◌, length, drop, Option, Some, None, Result, Ok, Err, option_map, option_and_then, refl, sym, ap, subst, true, false, Bool, cond, ◌==◌, ◌&&◌, inl, inr, arith, length-append}
use Rattle.std.specs.Prelude.{slice_get, slice_index, nat_le, nat_lt, IsTrue, ℤ}
use Rattle.std.specs.List.{AllByRecursion}
use Rattle.std.specs.Int.{cast_signed, w32}
use Rattle.std.proofs.lemmas.Option.{same_Some}
use Rattle.std.proofs.lemmas.Bool.{leb-true}
use Rattle.std.proofs.lemmas.Nat.{mod_below}
use Rattle.al_base.specs.declared.trap.Trap.{Trap}
use Rattle.al_base.specs.declared.trap.Trap.TheVariants.{Print as TooLong}
use Rattle.al_base.specs.Trap.{trap_of}
use Rattle.al_event.specs.declared.act.Branch.{Branch}
use Rattle.al_event.specs.declared.act.Start.{Start}
use Rattle.al_event.specs.declared.act.Act.{Act}
use Rattle.al_event.specs.declared.act.Act.TheVariants.{Load, Store, Alloc, Free, NewChan, FreeChan, CanRecv, CanSend, Talk, Proc, Task, Par, Print, Terminate, Pause, Trap as Traps, End}
use Rattle.al_world.specs.Control.{Asked, cut, fitted, received_by, branch_in}
use Rattle.al_world.specs.Answers.{AreWords, SendsWords, IsProper, Propriety, StaysProper}
use Rattle.al_world.specs.Alike.{starts_in}
use Rattle.rv_isa.specs.declared.image.Contents.{Contents}
use Rattle.rv_isa.specs.declared.instr.Instr.{Instr}
use Rattle.rv_isa.specs.declared.instr.Instr.TheVariants.{Upper, Jal, Jalr, Branch as Branches, Load as Loads, Store as Stores, Immediate, Shift, Register, Fence, Ecall, Ebreak}
use Rattle.rv_isa.specs.declared.instr.UpperOp.TheVariants.{Lui, Auipc}
use Rattle.rv_isa.specs.declared.instr.LoadOp.{LoadOp}
use Rattle.rv_isa.specs.declared.instr.LoadOp.TheVariants.{Lb, Lh, Lw, Lbu, Lhu}
use Rattle.rv_isa.specs.declared.instr.StoreOp.{StoreOp}
use Rattle.rv_isa.specs.declared.instr.StoreOp.TheVariants.{Sb, Sh, Sw}
use Rattle.rv_isa.specs.Table.{instruction_of}
use Rattle.al_store.specs.Memory.{IsWidth}
use Rattle.rv_exec.specs.declared.state.Waits.{Waits}
use Rattle.rv_exec.specs.declared.state.Waits.TheVariants.{Done, Unit as UnitWaits, Word, Talk as TalkWaits}
use Rattle.rv_exec.specs.declared.windows.Window.{Window}
use Rattle.rv_exec.specs.declared.windows.Window.TheVariants.{Stack, Globals, Shared}
use Rattle.rv_exec.specs.Hart.{Hart, put, register, with_register}
use Rattle.rv_exec.specs.Words.{load_size, store_size, with_unit, is_taken, sum_of, word}
use Rattle.rv_exec.specs.Windows.{window_of, stack_offset, globals_offset, words_from, put_words, stack_place, stack_words}
use Rattle.rv_exec.specs.Calls.{Privates, Move, Goes, Asks, asks, traps, illegal, asks_if_any, block_of, alloc_act, channel_act, branch_of, branch_at, also, records_from, branches_from, records_at, talk_branches, has_function, start_of, start_at, starts_from, longest_text, composed, decimal_text, hexadecimal_text, calls, called_if_any, called, call_of, x10, x11, x12}
use Rattle.rv_exec.specs.Step.{set, jumps, jumps_by, address_of, write_unit, loads, loads_at, stores_stack, stores_globals, stores_at, executed, executed_if_any, word_at, performed, performed_if_any, step, most_jumps}
use Rattle.rv_exec.specs.Machine.{machine, ask, asked, asked_within, resumed, told, started, longest_stretch, place_of}
use Rattle.al_core.specs.Asks.{IsBranch, IsTalk, IsStart, IsPar, IsAskable}

abbrev IsWord : ℕ → Type 0
IsWord w = w < 2 ^ 32

-- the stack holds words, and the text being composed is not too long
pub record IsHart (h : Hart) : Type 0 where
  pub stack : (n : ℕ) → h.stack n < 2 ^ 32
  pub text : length h.text ≤ longest_text

-- ---- small facts

le_of : (m n : ℕ) → nat_le m n ≡ true → m ≤ n
le_of m n e = leb-true m n e

both_of : (a b : Bool) → (a && b) ≡ true → (a ≡ true) × (b ≡ true)
both_of true true e = (refl, refl)
both_of true false e = absurd (cc)
both_of false b e = absurd (cc)

positive : (n : ℕ) → (n == 0) ≡ false → 0 < n
positive zero e = absurd (cc)
positive (suc n) e = omega arith

index_of : (xs : List ℕ) (k : ℕ) → AllByRecursion IsWord xs → IsWord (slice_index xs k)
index_of [] k a = omega arith
index_of (x ∷ xs) zero a = a.0
index_of (x ∷ xs) (suc k) a = index_of xs k a.1

all_get : {X : Type 0} (P : X → Type 0) (xs : List X) (k : ℕ) (x : X) → AllByRecursion P xs → slice_get xs k ≡ Some x → P x
all_get P [] k x a e = absurd (cc)
all_get P (y ∷ ys) zero x a e = subst P (same_Some y x e) a.0
all_get P (y ∷ ys) (suc k) x a e = all_get P ys k x a.1 e

-- ---- the stack

from_length : (f : ℕ → ℕ) (first count : ℕ) → length (words_from f first count) ≡ count
from_length f first zero = refl
from_length f first (suc count) = ap suc (from_length f (first + 1) count)

from_words : (f : ℕ → ℕ) (first count : ℕ) → ((n : ℕ) → IsWord (f n)) → AllByRecursion IsWord (words_from f first count)
from_words f first zero small = tt
from_words f first (suc count) small = (small first, from_words f (first + 1) count small)

put_small : (f : ℕ → ℕ) (at value n : ℕ) → ((n : ℕ) → IsWord (f n)) → IsWord value → IsWord (put f at value n)
put_small f at value n small v = on (n == at)
  where
    on : (b : Bool) → IsWord (cond b value (f n))
    on true = v
    on false = small n

put_words_small : (f : ℕ → ℕ) (first : ℕ) (words : List ℕ) (n : ℕ) → ((n : ℕ) → IsWord (f n)) → AllByRecursion IsWord words → IsWord (put_words f first words n)
put_words_small f first words n small all = on (nat_le first n && nat_lt n (first + length words))
  where
    on : (b : Bool) → IsWord (cond b (slice_index words (n - first)) (f n))
    on true = index_of words (n - first) all
    on false = small n

unit_small : (size offset w unit : ℕ) → IsWord (with_unit size offset w unit)
unit_small size offset w unit = mod_below _ (2 ^ 32) (omega arith)

-- ---- records in the stack

pub record AreRecords {X : Type 0} (P : X → Type 0) (count : ℕ) (xs : List X) : Type 0 where
  pub count_is : length xs ≡ count
  pub each : AllByRecursion P xs

records_all : {X : Type 0} (P : X → Type 0) (record_at : ℕ → Option X) → ((k : ℕ) (x : X) → record_at k ≡ Some x → P x) → (each first count : ℕ) (xs : List X) → records_from record_at each first count ≡ Some xs → AreRecords P count xs
records_all P record_at h each first zero xs e = subst (AreRecords P 0) (same_Some _ _ e) (record { count_is = refl; each = tt })
records_all {X} P record_at h each first (suc count) xs e =
    on (record_at first) (records_from record_at each (first + each) count) refl refl e (λ ys f. records_all P record_at h each (first + each) count ys f)
  where
    on : (o : Option X) (r : Option (List X)) → record_at first ≡ o → records_from record_at each (first + each) count ≡ r → also o r ≡ Some xs → ((ys : List X) → records_from record_at each (first + each) count ≡ Some ys → AreRecords P count ys) → AreRecords P (suc count) xs
    on (Some x) (Some ys) f g e later =
        let rest = later ys g in
        subst (AreRecords P (suc count)) (same_Some _ _ e) (record { count_is = ap suc rest.count_is; each = (h first x f, rest.each) })
    on (Some x) None f g e later = absurd (cc)
    on None r f g e later = absurd (cc)

words_all : (h : Hart) (address count : ℕ) (words : List ℕ) → IsHart h → stack_words h address count ≡ Some words → AreWords count words
words_all h address count words k e = on (stack_place address count) e
  where
    on : (o : Option ℕ) → option_map (λ first. words_from h.stack first count) o ≡ Some words → AreWords count words
    on None e = absurd (cc)
    on (Some first) e =
        subst (AreWords count) (same_Some _ _ e) (record { count = from_length h.stack first count; each = from_words h.stack first count k.stack })

-- by a test of a condition
if_some : {X : Type 0} (P : X → Type 0) (b : Bool) (o r : Option X) (x : X) → (b ≡ true → o ≡ Some x → P x) → (b ≡ false → r ≡ Some x → P x) → cond b o r ≡ Some x → P x
if_some P true o r x h k e = h refl e
if_some P false o r x h k e = k refl e

branch_all : (h : Hart) (chan direction address count : ℕ) (b : Branch) → IsHart h → branch_of h chan direction address count ≡ Some b → IsBranch b
branch_all h chan direction address count b k e =
    if_some IsBranch (nat_le count 1024) _ None b
    (λ few. if_some IsBranch (direction == 0) _ _ b (λ _. receives (le_of count 1024 few) (stack_place address count)) (λ _. if_some IsBranch (direction == 1) _ None b (λ _. sends (le_of count 1024 few) (stack_words h address count) refl) (λ _ e. absurd (cc))))
    (λ _ e. absurd (cc)) e
  where
    receives : count ≤ 1024 → (o : Option ℕ) → option_map (λ place. record { chan = chan; words = count; send = None }) o ≡ Some b → IsBranch b
    receives few None e = absurd (cc)
    receives few (Some place) e = subst IsBranch (same_Some _ _ e) (record { words = few; sends = tt })

    sends : count ≤ 1024 → (o : Option (List ℕ)) → stack_words h address count ≡ o → option_map (λ words. record { chan = chan; words = count; send = Some words }) o ≡ Some b → IsBranch b
    sends few None f e = absurd (cc)
    sends few (Some words) f e = subst IsBranch (same_Some _ _ e) (record { words = few; sends = words_all h address count words k f })

-- 1 to 64 records
pub record IsCount (count : ℕ) : Type 0 where
  pub some : 1 ≤ count
  pub most : count ≤ 64

counted_records : {X : Type 0} (P : List X → Type 0) (words_each address count : ℕ) (all : ℕ → Option (List X)) (xs : List X) → ((first : ℕ) → IsCount count → all first ≡ Some xs → P xs) → option_and_then all (records_at words_each address count) ≡ Some xs → P xs
counted_records {X} P words_each address count all xs h e =
    on (nat_le 1 count && nat_le count 64) refl e
  where
    place : IsCount count → (o : Option ℕ) → option_and_then all o ≡ Some xs → P xs
    place c None e = absurd (cc)
    place c (Some first) e = h first c e

    on : (b : Bool) → (nat_le 1 count && nat_le count 64) ≡ b → option_and_then all (cond b (stack_place address (words_each * count)) None) ≡ Some xs → P xs
    on true t e =
        let both = both_of (nat_le 1 count) (nat_le count 64) t in
        place (record { some = le_of 1 count both.0; most = le_of count 64 both.1 }) (stack_place address (words_each * count)) e
    on false t e = absurd (cc)

talk_all : (h : Hart) (branches : List Branch) → IsHart h → talk_branches h ≡ Some branches → IsTalk branches
talk_all h branches k e =
    counted_records IsTalk 4 (x10 h) (x11 h) (λ first. branches_from h first (x11 h)) branches
    (λ first c f. let r = records_all IsBranch (branch_at h) (λ at b g. branch_all h (h.stack at) (h.stack (at + 1)) (h.stack (at + 2)) (h.stack (at + 3)) b k g) 4 first (x11 h) branches f in let is = r.count_is in let some = c.some in let most = c.most in record { some = omega (arith, is, some); most = omega (arith, is, most); each = r.each }) e

start_all : (image : Contents) (h : Hart) (function address count : ℕ) (s : Start) → IsHart h → start_of image h function address count ≡ Some s → IsStart image s
start_all image h function address count s k e =
    if_some (IsStart image) (has_function image function count) _ None s (λ known. words known (stack_words h address count) refl) (λ _ e. absurd (cc)) e
  where
    words : has_function image function count ≡ true → (o : Option (List ℕ)) → stack_words h address count ≡ o → option_map (λ words. record { code = function; words = words }) o ≡ Some s → IsStart image s
    words known None f e = absurd (cc)
    words known (Some ws) f e =
        let a = words_all h address count ws k f in
        subst (IsStart image) (same_Some _ _ e) (record { known = subst (λ n. IsTrue (has_function image function n)) (sym a.count) known; words = a.each })

par_all : (image : Contents) (h : Hart) (starts : List Start) → IsHart h → option_and_then (λ first. starts_from image h first (x11 h)) (records_at 3 (x10 h) (x11 h)) ≡ Some starts → IsPar image starts
par_all image h starts k e =
    counted_records (IsPar image) 3 (x10 h) (x11 h) (λ first. starts_from image h first (x11 h)) starts
    (λ first c f. let r = records_all (IsStart image) (start_at image h) (λ at s g. start_all image h (h.stack at) (h.stack (at + 1)) (h.stack (at + 2)) s k g) 3 first (x11 h) starts f in let is = r.count_is in let most = c.most in record { most = omega (arith, is, most); each = r.each }) e

-- ---- moves

module _ (image : Contents) where
  abbrev MoveOk : Move → Type 0
  MoveOk (Goes next p) = IsHart next
  MoveOk (Asks act waiting p) = IsHart waiting × IsAskable image act

  asks_ok : (waits : Waits) (act : Act) (h : Hart) (p : Privates) → IsHart h → IsAskable image act → MoveOk (asks waits act h p)
  asks_ok waits act h p k a = (record { stack = k.stack; text = k.text }, a)

  illegal_ok : (h : Hart) (p : Privates) → IsHart h → MoveOk (illegal h p)
  illegal_ok h p k = (record { stack = k.stack; text = k.text }, tt)

  traps_ok : (trap : Trap) (h : Hart) (p : Privates) → IsHart h → MoveOk (traps trap h p)
  traps_ok trap h p k = (record { stack = k.stack; text = k.text }, tt)

  asks_if_any_ok : (waits : Waits) (o : Option Act) (h : Hart) (p : Privates) → IsHart h → ((act : Act) → o ≡ Some act → IsAskable image act) → MoveOk (asks_if_any waits o h p)
  asks_if_any_ok waits None h p k a = illegal_ok h p k
  asks_if_any_ok waits (Some act) h p k a = asks_ok waits act h p k (a act refl)

  move_if : (b : Bool) (x y : Move) → (b ≡ true → MoveOk x) → (b ≡ false → MoveOk y) → MoveOk (cond b x y)
  move_if true x y h k = h refl
  move_if false x y h k = k refl

  map_some : {X : Type 0} (f : X → Act) (o : Option X) (act : Act) → ((x : X) → o ≡ Some x → IsAskable image (f x)) → option_map f o ≡ Some act → IsAskable image act
  map_some f None act h e = absurd (cc)
  map_some f (Some x) act h e = subst (IsAskable image) (same_Some _ _ e) (h x refl)

  alloc_all : (bytes kind : ℕ) (act : Act) → alloc_act bytes kind ≡ Some act → IsAskable image act
  alloc_all bytes kind act e =
      if_some (IsAskable image) (bytes == 0) None _ act (λ _ e. absurd (cc)) (λ some. map_some (λ block. Alloc bytes block) (block_of kind) act (λ block _. positive bytes some)) e

  channel_all : (capacity words : ℕ) (act : Act) → channel_act capacity words ≡ Some act → IsAskable image act
  channel_all capacity words act e =
      if_some (IsAskable image) (nat_le capacity 4096 && nat_le words 1024) _ None act (λ t e. let both = both_of (nat_le capacity 4096) (nat_le words 1024) t in subst (IsAskable image) (same_Some _ _ e) (le_of capacity 4096 both.0, le_of words 1024 both.1)) (λ _ e. absurd (cc)) e

  composed_ok : (piece : List ℕ) (h : Hart) (p : Privates) → IsHart h → MoveOk (composed piece h p)
  composed_ok piece h p k =
      move_if (nat_le (length h.text + length piece) longest_text) _ _ (λ t. record { stack = k.stack; text = subst (λ n. n ≤ longest_text) (sym (length-append h.text piece)) (le_of (length h.text + length piece) longest_text t) }) (λ _. traps_ok TooLong h p k)

  -- ---- calls

  abbrev CallOk : (Contents → Hart → Privates → Move) → Type 0
  CallOk call = (h : Hart) (p : Privates) → IsHart h → MoveOk (call image h p)

  calls_ok : AllByRecursion CallOk calls
  calls_ok = (
    (λ h p k. asks_ok Done End h p k tt),
    (
      (λ h p k. asks_ok Done Pause h p k tt),
      (
        (λ h p k. asks_if_any_ok Done _ h p k (λ act. map_some (λ trap. Traps trap) (trap_of (x10 h)) act (λ _ _. tt))),
        (
          (λ h p k. asks_if_any_ok Word _ h p k (alloc_all (x10 h) (x11 h))),
          (
            (λ h p k. asks_if_any_ok Done _ h p k (λ act. map_some (λ block. Free (x10 h) block) (block_of (x11 h)) act (λ _ _. tt))),
            (
              (λ h p k. asks_if_any_ok Word _ h p k (channel_all (x10 h) (x11 h))),
              (
                (λ h p k. asks_ok Done (FreeChan (x10 h)) h p k tt),
                (
                  (λ h p k. asks_ok Word (CanRecv (x10 h)) h p k tt),
                  (
                    (λ h p k. asks_ok Word (CanSend (x10 h)) h p k tt),
                    (
                      (λ h p k. asks_if_any_ok TalkWaits _ h p k (λ act. map_some (λ branches. Talk branches) (talk_branches h) act (λ branches. talk_all h branches k))),
                      (
                        (λ h p k. asks_if_any_ok Done _ h p k (λ act. map_some (λ start. Proc start) (start_of image h (x10 h) (x11 h) (x12 h)) act (λ s. start_all image h (x10 h) (x11 h) (x12 h) s k))),
                        (
                          (λ h p k. asks_if_any_ok Done _ h p k (λ act. map_some (λ start. Task start) (start_of image h (x10 h) (x11 h) (x12 h)) act (λ s. start_all image h (x10 h) (x11 h) (x12 h) s k))),
                          (
                            (λ h p k. asks_if_any_ok Done _ h p k (λ act. map_some (λ starts. Par starts) _ act (λ starts. par_all image h starts k))),
                            (
                              (λ h p k. asks_ok Done (Print h.text) (record h { text = [] }) p (record { stack = k.stack; text = omega arith }) k.text),
                              (
                                (λ h p k. asks_ok Done (Terminate (cast_signed w32 (x10 h))) h p k tt),
                                (
                                  (λ h p k. composed_ok (x10 h % 256 ∷ []) h p k),
                                  (
                                    (λ h p k. composed_ok (decimal_text (x10 h) (x11 h) (x12 h)) h p k),
                                    ((λ h p k. composed_ok (hexadecimal_text (x10 h) (x11 h)) h p k), tt),
                                  ),
                                ),
                              ),
                            ),
                          ),
                        ),
                      ),
                    ),
                  ),
                ),
              ),
            ),
          ),
        ),
      ),
    ),
  )

  called_ok : (number : ℕ) (h : Hart) (p : Privates) → IsHart h → MoveOk (called number image h p)
  called_ok number h p k = on (call_of number) (λ call e. of number call e)
    where
      of : (number : ℕ) (call : Contents → Hart → Privates → Move) → call_of number ≡ Some call → CallOk call
      of zero call e = absurd (cc)
      of (suc n) call e = all_get CallOk calls n call calls_ok e

      on : (o : Option (Contents → Hart → Privates → Move)) → ((call : Contents → Hart → Privates → Move) → o ≡ Some call → CallOk call) → MoveOk (called_if_any o image h p)
      on None c = illegal_ok h p k
      on (Some call) c = c call refl h p k

  -- ---- instructions

  set_ok : (rd value : ℕ) (h : Hart) (p : Privates) → IsHart h → MoveOk (set rd value h p)
  set_ok rd value h p k = record { stack = k.stack; text = k.text }

  jumps_ok : (is_counted : Bool) (target : ℕ) (next h : Hart) (p : Privates) → IsHart next → IsHart h → MoveOk (jumps is_counted target next h p)
  jumps_ok true target next h p n k =
      move_if (nat_le most_jumps h.jumps) _ _ (λ _. illegal_ok h p k) (λ _. record { stack = n.stack; text = n.text })
  jumps_ok false target next h p n k = record { stack = n.stack; text = n.text }

  jumps_by_ok : (imm : ℤ) (next h : Hart) (p : Privates) → IsHart next → IsHart h → MoveOk (jumps_by imm next h p)
  jumps_by_ok imm next h p n k =
      jumps_ok (nat_le (sum_of h.pc (word imm)) h.pc) (sum_of h.pc (word imm)) next h p n k

  loads_ok : (op : LoadOp) (rd : ℕ) (f : ℕ → ℕ) (r : Result ℕ Trap) (h : Hart) (p : Privates) → IsHart h → MoveOk (loads op rd f r h p)
  loads_ok op rd f (Ok offset) h p k = record { stack = k.stack; text = k.text }
  loads_ok op rd f (Err trap) h p k = traps_ok trap h p k

  load_width : (op : LoadOp) → IsWidth (load_size op)
  load_width Lb = inl refl
  load_width Lh = inr (inl refl)
  load_width Lw = inr (inr refl)
  load_width Lbu = inl refl
  load_width Lhu = inr (inl refl)

  store_width : (op : StoreOp) → IsWidth (store_size op)
  store_width Sb = inl refl
  store_width Sh = inr (inl refl)
  store_width Sw = inr (inr refl)

  loads_at_ok : (w : Window) (op : LoadOp) (rd address bytes : ℕ) (h : Hart) (p : Privates) → IsHart h → MoveOk (loads_at w op rd address bytes h p)
  loads_at_ok Stack op rd address bytes h p k = loads_ok op rd h.stack (stack_offset (load_size op) address) h p k
  loads_at_ok Globals op rd address bytes h p k =
      loads_ok op rd p (globals_offset bytes (load_size op) address) h p k
  loads_at_ok Shared op rd address bytes h p k =
      asks_ok (UnitWaits op rd) (Load address (load_size op)) h p k (load_width op)

  write_small : (f : ℕ → ℕ) (size offset unit : ℕ) → ((n : ℕ) → IsWord (f n)) → (n : ℕ) → IsWord (write_unit f size offset unit n)
  write_small f size offset unit small n = put_small f (offset / 4) _ n small (unit_small size (offset % 4) (f (offset / 4)) unit)

  stores_stack_ok : (op : StoreOp) (value : ℕ) (r : Result ℕ Trap) (h : Hart) (p : Privates) → IsHart h → MoveOk (stores_stack op value r h p)
  stores_stack_ok op value (Ok offset) h p k =
      record { stack = write_small h.stack (store_size op) offset value k.stack; text = k.text }
  stores_stack_ok op value (Err trap) h p k = traps_ok trap h p k

  stores_globals_ok : (op : StoreOp) (value : ℕ) (r : Result ℕ Trap) (h : Hart) (p : Privates) → IsHart h → MoveOk (stores_globals op value r h p)
  stores_globals_ok op value (Ok offset) h p k = record { stack = k.stack; text = k.text }
  stores_globals_ok op value (Err trap) h p k = traps_ok trap h p k

  stores_at_ok : (w : Window) (op : StoreOp) (value address bytes : ℕ) (h : Hart) (p : Privates) → IsHart h → MoveOk (stores_at w op value address bytes h p)
  stores_at_ok Stack op value address bytes h p k =
      stores_stack_ok op value (stack_offset (store_size op) address) h p k
  stores_at_ok Globals op value address bytes h p k =
      stores_globals_ok op value (globals_offset bytes (store_size op) address) h p k
  stores_at_ok Shared op value address bytes h p k =
      asks_ok Done (Store address (store_size op) (value % 2 ^ (8 * store_size op))) h p k (store_width op)

  executed_ok : (instr : Instr) (h : Hart) (p : Privates) → IsHart h → MoveOk (executed instr image h p)
  executed_ok (Upper Lui rd imm) h p k = set_ok rd _ h p k
  executed_ok (Upper Auipc rd imm) h p k = set_ok rd _ h p k
  executed_ok (Jal rd imm) h p k = jumps_by_ok imm (with_register rd (h.pc + 4) h) h p (record { stack = k.stack; text = k.text }) k
  executed_ok (Jalr rd rs1 imm) h p k = jumps_ok true _ (with_register rd (h.pc + 4) h) h p (record { stack = k.stack; text = k.text }) k
  executed_ok (Branches op rs1 rs2 imm) h p k = move_if (is_taken op (register h rs1) (register h rs2)) _ _ (λ _. jumps_by_ok imm h h p k k) (λ _. record { stack = k.stack; text = k.text })
  executed_ok (Loads op rd rs1 imm) h p k = loads_at_ok (window_of rs1) op rd (address_of h rs1 imm) image.privates h p k
  executed_ok (Stores op rs1 rs2 imm) h p k = stores_at_ok (window_of rs1) op (register h rs2) (address_of h rs1 imm) image.privates h p k
  executed_ok (Immediate op rd rs1 imm) h p k = set_ok rd _ h p k
  executed_ok (Shift op rd rs1 amount) h p k = set_ok rd _ h p k
  executed_ok (Register op rd rs1 rs2) h p k = set_ok rd _ h p k
  executed_ok (Fence rd rs1 imm) h p k = record { stack = k.stack; text = k.text }
  executed_ok Ecall h p k = called_ok (register h 17) h p k
  executed_ok Ebreak h p k = illegal_ok h p k

  if_any_ok : (o : Option Instr) (h : Hart) (p : Privates) → IsHart h → MoveOk (executed_if_any o image h p)
  if_any_ok None h p k = illegal_ok h p k
  if_any_ok (Some instr) h p k = executed_ok instr h p k

  performed_ok : (fetched : ℕ) (h : Hart) (p : Privates) → IsHart h → MoveOk (performed fetched image h p)
  unfolding performed
  performed_ok fetched h p k = if_any_ok (instruction_of fetched) (record h { work = h.work + 1 }) p (record { stack = k.stack; text = k.text })

  fetched_ok : (o : Option ℕ) (h : Hart) (p : Privates) → IsHart h → MoveOk (performed_if_any o image h p)
  fetched_ok None h p k = illegal_ok h p k
  fetched_ok (Some fetched) h p k = performed_ok fetched h p k

  step_ok : (h : Hart) (p : Privates) → IsHart h → MoveOk (step image h p)
  step_ok h p k = fetched_ok (word_at image.code h.pc) h p k

  -- ---- asks

  pub record AsksOk (a : Asked Hart Privates) : Type 0 where
    pub hart : IsHart a.control
    pub act : IsAskable image a.act

  asked_ok : (act : Act) (h : Hart) (p : Privates) → IsHart h → IsAskable image act → AsksOk (asked image act h p)
  asked_ok act h p k a = record { hart = record { stack = k.stack; text = k.text }; act = a }

  within_ok : (most : ℕ) (h : Hart) (p : Privates) → IsHart h → AsksOk (asked_within image most h p)
  within_ok zero h p k = asked_ok (Traps _) h p k tt
  within_ok (suc most) h p k = on (step image h p) (step_ok h p k) (λ next q. within_ok most next q)
    where
      on : (m : Move) → MoveOk m → ((next : Hart) (q : Privates) → IsHart next → AsksOk (asked_within image most next q)) → AsksOk (elim m [ Goes next q ↦ asked_within image most next q | Asks act waiting q ↦ asked image act waiting q ])
      on (Goes next q) k later = later next q k
      on (Asks act waiting q) k later = asked_ok act waiting q k.0 k.1

  pub ask_ok : (h : Hart) (p : Privates) → IsHart h → AsksOk (ask image h p)
  ask_ok h p k = within_ok (longest_stretch - h.work) h p k

-- ---- answers and starts

cut_small : (n m : ℕ) (ws : List ℕ) → 0 < m → m ≤ 2 ^ 32 → AllByRecursion IsWord (cut n m ws)
cut_small zero m ws pos le = tt
cut_small (suc n) m [] pos le = (omega arith, cut_small n m [] pos le)
cut_small (suc n) m (w ∷ ws) pos le = (below (w % m) (mod_below w m pos), cut_small n m ws pos le)
  where
    below : (x : ℕ) → x < m → IsWord x
    below x lt = omega (arith, lt, le)

-- what an answer brings beside its first word
rest_one : (m : ℕ) (ws : List ℕ) → AllByRecursion IsWord (drop 1 (cut 1 m ws))
rest_one m [] = tt
rest_one m (w ∷ ws) = tt

rest_small : (act : Act) (ws : List ℕ) → AllByRecursion IsWord (drop 1 (fitted act ws))
rest_small (Load at size) ws = rest_one (256 ^ size) ws
rest_small (Alloc bytes kind) ws = rest_one (2 ^ 32) ws
rest_small (NewChan capacity each) ws = rest_one (2 ^ 32) ws
rest_small (CanRecv c) ws = rest_one 2 ws
rest_small (CanSend c) ws = rest_one 2 ws
rest_small (Talk branches) ws =
    cut_small (received_by (slice_get branches (branch_in branches (slice_index ws 0)))) (2 ^ 32) (drop 1 ws) (omega arith) (omega arith)
rest_small act ws = tt

told_ok : (waits : Waits) (words : List ℕ) (h : Hart) → AllByRecursion IsWord (drop 1 words) → IsHart h → IsHart (told waits words h)
told_ok Done words h a k = k
told_ok (UnitWaits op rd) words h a k = record { stack = k.stack; text = k.text }
told_ok Word words h a k = record { stack = k.stack; text = k.text }
told_ok TalkWaits words h a k =
    record { stack = λ n. put_words_small h.stack (place_of h (slice_index words 0)) (drop 1 words) n k.stack a; text = k.text }

resumed_ok : (h : Hart) (words : List ℕ) → AllByRecursion IsWord (drop 1 words) → IsHart h → IsHart (resumed h words)
resumed_ok h words a k = let t = told_ok h.waits words h a k in record { stack = t.stack; text = t.text }

pub started_ok : (image : Contents) (s : Start) → IsStart image s → IsHart (started image s.code s.words)
started_ok image s k = record {
  stack = λ n. put_words_small (λ n. 0) 0 s.words n (λ n. omega arith) k.words;
  text = omega arith;
}

-- the harts, private globals and starts that there are in a run of an image
abbrev pub proper : Contents → Propriety Hart Privates
proper image = record {
  Going = IsHart;
  Waiting = λ act h. IsHart h × IsAskable image act;
  Private = λ p. Unit {0};
  IsStart = IsStart image;
}

sends_ok : (branches : List Branch) → AllByRecursion IsBranch branches → AllByRecursion (λ (b : Branch). SendsWords b.words b.send) branches
sends_ok [] a = tt
sends_ok (b ∷ bs) a = (a.0.sends, sends_ok bs a.1)

pub proper_act : (image : Contents) (act : Act) → IsAskable image act → IsProper act
proper_act image (Talk branches) a = sends_ok branches a.each
proper_act image (Load at size) a = tt
proper_act image (Store at size word) a = tt
proper_act image (Alloc bytes kind) a = tt
proper_act image (Free at kind) a = tt
proper_act image (NewChan capacity words) a = tt
proper_act image (FreeChan c) a = tt
proper_act image (CanRecv c) a = tt
proper_act image (CanSend c) a = tt
proper_act image (Proc start) a = tt
proper_act image (Task start) a = tt
proper_act image (Par starts) a = tt
proper_act image (Print text) a = tt
proper_act image (Terminate status) a = tt
proper_act image Pause a = tt
proper_act image (Traps trap) a = tt
proper_act image End a = tt

starts_ok : (image : Contents) (act : Act) → IsAskable image act → AllByRecursion (IsStart image) (starts_in act)
starts_ok image (Proc start) a = (a, tt)
starts_ok image (Task start) a = (a, tt)
starts_ok image (Par starts) a = a.each
starts_ok image act a = tt

-- the machine asks properly
pub stays_proper : (image : Contents) → StaysProper (machine image) (proper image)
stays_proper image = record {
  asks = λ h p k _. let a = ask_ok image h p k in record { act = proper_act image _ a.act; control = (a.hart, a.act); privates = tt; starts = starts_ok image _ a.act };
  resumes = λ act h words k. resumed_ok h (fitted act words) (rest_small act words) k.0;
  starts = λ s k. started_ok image s k;
  fresh = tt;
}

-- The instructions of each operation.
use Rattle.std.specs.Prelude.{ℕ, ◌+◌, ◌-◌, List, ◌++◌}
use Rattle.rv_isa.specs.declared.instr.Instr.{Instr}
use Rattle.rv_isa.specs.declared.instr.BranchOp.TheVariants.{Beq, Bne}
use Rattle.al_ir.specs.declared.op.Op.{Op}
use Rattle.al_ir.specs.declared.op.Op.TheVariants.{Constant, Copy, Zero, Result, Word, WordBy, Long, Complement, IsZero, IsLongSet, Convert, Extract, Offset, Advance, Between, GetPrivate, PutPrivate, Skip, SkipIfZero, SkipIfSet, SkipUnless, GoTo, Back, Turn, Invoke, InvokePointer, Become, Leave, Load, Store, LoadUnits, StoreUnits, ClearUnits, Alloc, Free, NewChan, FreeChan, CanRecv, CanSend, Talk, Proc, Task, Par, PutByte, PutCharacter, PutDecimal, PutLongDecimal, PutHex, PutLongHex, PutText, Print, Terminate, Trap}
use Rattle.rv_code.specs.Homes.{frame_load, get_code, get_register, put_code, put_register}
use Rattle.rv_code.specs.Jumps.{jump_code}
use Rattle.rv_code.specs.Pieces.{private_load, private_store, trap_code}
use Rattle.rv_form.specs.Layout.{Layout}
use Rattle.rv_form.specs.Words.{constant_code, copy_code, word_code, word_by_code, complement_code, is_zero_code, convert_code, extract_code, offset_code, advance_code, between_code}
use Rattle.rv_form.specs.Longs.{long_op_code, is_long_set_code}
use Rattle.rv_form.specs.Flow.{skip_code, turn_to, skip_unless_code, invoke_code, become_code, invoke_pointer_code, leave_code}
use Rattle.rv_form.specs.Units.{load_code, store_code, zero_code, Loads, Stores, Clears, value_code}
use Rattle.rv_form.specs.Acts.{alloc_code, free_code, new_chan_code, free_chan_code, chan_question, talk_code, start_code, par_code}
use Rattle.rv_form.specs.Texts.{byte_code, character_code, decimal_code, long_decimal_code, hexadecimal_code, long_hexadecimal_code, text_code, print_code, terminate_code}

-- the instructions of operation number `pc` of function number `f`
abbrev pub template : Layout → (f pc : ℕ) → Op → List Instr
template l f pc (Constant to word) = constant_code (l.home f to) word
template l f pc (Copy to from) = copy_code (l.home f to) (l.home f from)
template l f pc (Zero to count) = zero_code (l.home f) to count
template l f pc (Result to word) = frame_load (put_register (l.home f to) 10) (l.stack f + word) ++ put_code (l.home f to) 10
template l f pc (Word op signed to left right) = word_code op signed (l.home f to) (l.home f left) (l.home f right)
template l f pc (WordBy op signed to left word) = word_by_code op signed (l.home f to) (l.home f left) word
template l f pc (Long op signed to left right) =
    long_op_code l.routine op signed (l.home f to) (l.home f (to + 1)) (l.home f left) (l.home f (left + 1)) (l.home f right) (l.home f (right + 1))
template l f pc (Complement to from) = complement_code (l.home f to) (l.home f from)
template l f pc (IsZero to from) = is_zero_code (l.home f to) (l.home f from)
template l f pc (IsLongSet to from) = is_long_set_code (l.home f to) (l.home f from) (l.home f (from + 1))
template l f pc (Convert from into to of) = convert_code from into (l.home f to) (l.home f (to + 1)) (l.home f of) (l.home f (of + 1))
template l f pc (Extract to from skip size) = extract_code (l.home f to) (l.home f from) skip size
template l f pc (Offset to from bytes) = offset_code (l.home f to) (l.home f from) bytes
template l f pc (Advance back size to pointer count) = advance_code back size (l.home f to) (l.home f pointer) (l.home f count)
template l f pc (Between size to left right) = between_code size (l.home f to) (l.home f left) (l.home f right)
template l f pc (GetPrivate to place) = private_load (put_register (l.home f to) 10) place ++ put_code (l.home f to) 10
template l f pc (PutPrivate place from) = get_code (l.home f from) 10 ++ private_store (get_register (l.home f from) 10) place
template l f pc (Skip count) = jump_code (l.reach f) (l.at f pc) (l.at f (pc + 1 + count))
template l f pc (SkipIfZero slot count) = skip_code (l.reach f) Beq (l.home f slot) (l.at f pc) (l.at f (pc + 1 + count))
template l f pc (SkipIfSet slot count) = skip_code (l.reach f) Bne (l.home f slot) (l.at f pc) (l.at f (pc + 1 + count))
template l f pc (SkipUnless op signed left right count) =
    skip_unless_code (l.reach f) op signed (l.home f left) (l.home f right) (l.at f pc) (l.at f (pc + 1 + count))
template l f pc (GoTo to) = jump_code (l.reach f) (l.at f pc) (l.at f to)
template l f pc (Back count) = turn_to (l.reach f) (l.at f pc) (l.at f (pc - count))
template l f pc (Turn to) = turn_to (l.reach f) (l.at f pc) (l.at f to)
template l f pc (Invoke g arguments) = invoke_code (l.home f) (l.stack f) (l.stack g) (l.entry g) arguments (l.arguments g)
template l f pc (InvokePointer class pointer arguments) =
    invoke_pointer_code (l.home f) (l.stack f) (l.dispatcher class) pointer arguments (l.class_arguments class)
template l f pc (Become g arguments) = become_code (l.home f) (l.slots f) (l.stack g) (l.entry g) arguments (l.arguments g)
template l f pc (Leave words) = leave_code (l.home f) (l.slots f) words
template l f pc (Load to at offset size) = load_code (l.home f to) (l.home f at) offset size
template l f pc (Store at offset size from) = store_code (l.home f at) offset size (l.home f from)
template l f pc (LoadUnits to at offset layout) = value_code Loads (l.home f at) offset (l.runs layout) to
template l f pc (StoreUnits at offset layout from) = value_code Stores (l.home f at) offset (l.runs layout) from
template l f pc (ClearUnits at offset layout) = value_code Clears (l.home f at) offset (l.runs layout) 0
template l f pc (Alloc to bytes kind) = alloc_code (l.home f to) bytes kind
template l f pc (Free at kind) = free_code (l.home f at) kind
template l f pc (NewChan to capacity words) = new_chan_code (l.home f to) capacity words
template l f pc (FreeChan chan) = free_chan_code (l.home f chan)
template l f pc (CanRecv to chan) = chan_question 8 (l.home f to) (l.home f chan)
template l f pc (CanSend to chan) = chan_question 9 (l.home f to) (l.home f chan)
template l f pc (Talk branches records to got) = talk_code (l.home f) branches records to got
template l f pc (Proc function arguments words) = start_code 11 function arguments words
template l f pc (Task function arguments words) = start_code 12 function arguments words
template l f pc (Par functions arguments words records) = par_code functions arguments words records
template l f pc (PutByte byte) = byte_code byte
template l f pc (PutCharacter from) = character_code (l.home f from)
template l f pc (PutDecimal signed from) = decimal_code signed (l.home f from)
template l f pc (PutLongDecimal signed from) = long_decimal_code signed (l.home f from) (l.home f (from + 1))
template l f pc (PutHex from) = hexadecimal_code (l.home f from)
template l f pc (PutLongHex from) = long_hexadecimal_code (l.home f from) (l.home f (from + 1))
template l f pc (PutText at) = text_code (l.home f at)
template l f pc Print = print_code
template l f pc (Terminate status) = terminate_code (l.home f status)
template l f pc (Trap t) = trap_code t

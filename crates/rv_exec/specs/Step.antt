-- One instruction on the registers, the pc and the private windows. After the RISC-V unprivileged specification; the
-- windows and the bound on jumps are this project's choice.
use Rattle.std.specs.Prelude.{ℕ, ◌+◌, ◌-◌, ◌*◌, ◌/◌, ◌%◌, ◌^◌, ◌==◌, nat_le, Bool, true, ◌&&◌, if◌then◌else◌, ℤ, List, slice_get, Option, Some, None, Result, Ok, Err}
use Rattle.al_base.specs.declared.trap.Trap.{Trap}
use Rattle.al_event.specs.declared.act.Act.TheVariants.{Load as LoadAct, Store as StoreAct}
use Rattle.rv_isa.specs.declared.addresses.TheConstants.{CODE_START}
use Rattle.rv_isa.specs.declared.image.Contents.{Contents}
use Rattle.rv_isa.specs.Table.{instruction_of}
use Rattle.rv_isa.specs.declared.instr.Instr.{Instr}
use Rattle.rv_isa.specs.declared.instr.Instr.TheVariants.{Upper, Jal, Jalr, Branch, Load, Store, Immediate, Shift, Register, Fence, Ecall, Ebreak}
use Rattle.rv_isa.specs.declared.instr.UpperOp.TheVariants.{Lui, Auipc}
use Rattle.rv_isa.specs.declared.instr.LoadOp.{LoadOp}
use Rattle.rv_isa.specs.declared.instr.StoreOp.{StoreOp}
use Rattle.rv_exec.specs.declared.state.Waits.TheVariants.{Done, Unit as UnitWaits}
use Rattle.rv_exec.specs.Hart.{Hart, put, register, with_register, moved}
use Rattle.rv_exec.specs.Words.{word, sum_of, computed, computed_immediate, shifted, is_taken, load_size, store_size, extended, unit_of, with_unit}
use Rattle.rv_exec.specs.declared.windows.Window.{Window}
use Rattle.rv_exec.specs.declared.windows.Window.TheVariants.{Stack, Globals, Shared}
use Rattle.rv_exec.specs.Windows.{window_of, stack_offset, globals_offset}
use Rattle.rv_exec.specs.Calls.{Privates, Move, Goes, asks, traps, illegal, called}

-- ---- registers

-- a register has a new value, and the hart is at the next word
abbrev pub set : ℕ → ℕ → Hart → Privates → Move
set rd value h p = Goes (moved (with_register rd value h)) p

-- ---- jumps

-- a stretch has at most this many counted jumps
abbrev pub most_jumps : ℕ
most_jumps = 2 ^ 27

-- to `target`, with the registers of `next`; a counted jump that is one too many is not made
abbrev pub jumps : (is_counted : Bool) (target : ℕ) (next : Hart) → Hart → Privates → Move
jumps is_counted target next h p =
    if is_counted
    then (if nat_le most_jumps h.jumps then illegal h p else Goes (record next { pc = target; jumps = h.jumps + 1 }) p)
    else Goes (record next { pc = target }) p

-- a jump is counted where its target is not above it
abbrev pub jumps_by : (imm : ℤ) (next : Hart) → Hart → Privates → Move
jumps_by imm next h p =
    let target = sum_of h.pc (word imm) in
    jumps (nat_le target h.pc) target next h p

-- ---- loads and stores

abbrev pub address_of : Hart → ℕ → ℤ → ℕ
address_of h rs1 imm = sum_of (register h rs1) (word imm)

-- the unit at a byte's offset in words
abbrev pub read_unit : (ℕ → ℕ) → (size offset : ℕ) → ℕ
read_unit f size offset = unit_of size (offset % 4) (f (offset / 4))

abbrev pub write_unit : (ℕ → ℕ) → (size offset unit : ℕ) → (ℕ → ℕ)
write_unit f size offset unit = put f (offset / 4) (with_unit size (offset % 4) (f (offset / 4)) unit)

abbrev pub loads : LoadOp → ℕ → (ℕ → ℕ) → Result ℕ Trap → Hart → Privates → Move
loads op rd f (Ok offset) h p = set rd (extended op (read_unit f (load_size op) offset)) h p
loads op rd f (Err trap) h p = traps trap h p

abbrev pub loads_at : Window → LoadOp → (rd address bytes : ℕ) → Hart → Privates → Move
loads_at Stack op rd address bytes h p = loads op rd h.stack (stack_offset (load_size op) address) h p
loads_at Globals op rd address bytes h p = loads op rd p (globals_offset bytes (load_size op) address) h p
loads_at Shared op rd address bytes h p = asks (UnitWaits op rd) (LoadAct address (load_size op)) h p

abbrev pub stores_stack : StoreOp → ℕ → Result ℕ Trap → Hart → Privates → Move
stores_stack op value (Ok offset) h p =
    Goes (moved (record h { stack = write_unit h.stack (store_size op) offset value })) p
stores_stack op value (Err trap) h p = traps trap h p

abbrev pub stores_globals : StoreOp → ℕ → Result ℕ Trap → Hart → Privates → Move
stores_globals op value (Ok offset) h p = Goes (moved h) (write_unit p (store_size op) offset value)
stores_globals op value (Err trap) h p = traps trap h p

-- a store's word is what its size keeps
abbrev pub stores_at : Window → StoreOp → (value address bytes : ℕ) → Hart → Privates → Move
stores_at Stack op value address bytes h p = stores_stack op value (stack_offset (store_size op) address) h p
stores_at Globals op value address bytes h p = stores_globals op value (globals_offset bytes (store_size op) address) h p
stores_at Shared op value address bytes h p =
    asks Done (StoreAct address (store_size op) (value % 2 ^ (8 * store_size op))) h p

-- ---- the instructions

abbrev pub executed : Instr → Contents → Hart → Privates → Move
executed (Upper Lui rd imm) image h p = set rd (imm * 2 ^ 12) h p
executed (Upper Auipc rd imm) image h p = set rd (sum_of h.pc (imm * 2 ^ 12)) h p
executed (Jal rd imm) image h p = jumps_by imm (with_register rd (h.pc + 4) h) h p
executed (Jalr rd rs1 imm) image h p =
    let target = address_of h rs1 imm in
    jumps true (target - target % 2) (with_register rd (h.pc + 4) h) h p
executed (Branch op rs1 rs2 imm) image h p =
    if is_taken op (register h rs1) (register h rs2) then jumps_by imm h h p else Goes (moved h) p
executed (Load op rd rs1 imm) image h p = loads_at (window_of rs1) op rd (address_of h rs1 imm) image.privates h p
executed (Store op rs1 rs2 imm) image h p =
    stores_at (window_of rs1) op (register h rs2) (address_of h rs1 imm) image.privates h p
executed (Immediate op rd rs1 imm) image h p = set rd (computed_immediate op (register h rs1) (word imm)) h p
executed (Shift op rd rs1 amount) image h p = set rd (shifted op (register h rs1) amount) h p
executed (Register op rd rs1 rs2) image h p = set rd (computed op (register h rs1) (register h rs2)) h p
executed (Fence rd rs1 imm) image h p = Goes (moved h) p
executed Ecall image h p = called (register h 17) image h p
executed Ebreak image h p = illegal h p

-- ---- fetching

-- the word at an address, where the code has one
abbrev pub word_at : List ℕ → ℕ → Option ℕ
word_at code pc = if nat_le CODE_START pc && (pc % 4 == 0) then slice_get code ((pc - CODE_START) / 4) else None

abbrev pub executed_if_any : Option Instr → Contents → Hart → Privates → Move
executed_if_any None image h p = illegal h p
executed_if_any (Some instr) image h p = executed instr image h p

-- what a fetched word does; it counts as work
unfoldable pub performed : ℕ → Contents → Hart → Privates → Move
performed fetched image h p = executed_if_any (instruction_of fetched) image (record h { work = h.work + 1 }) p

abbrev pub performed_if_any : Option ℕ → Contents → Hart → Privates → Move
performed_if_any None image h p = illegal h p
performed_if_any (Some fetched) image h p = performed fetched image h p

-- one instruction; a pc at which the code has no word fetches none
abbrev pub step : Contents → Hart → Privates → Move
step image h p = performed_if_any (word_at image.code h.pc) image h p

-- The tasks of a program of operations, as a kind of control of the world.
use Rattle.std.specs.Prelude.{ℕ, zero, suc, ◌+◌, ◌-◌, List, [], ◌∷◌, ◌++◌, map, fold, length, replicate, Option, Some, None}
use Rattle.al_event.specs.Store.{bytes_of, overwritten}
use Rattle.al_event.specs.declared.act.Act.TheVariants as act
use Rattle.al_event.specs.declared.act.Start.{Start}
use Rattle.al_event.specs.declared.entry.Entry.{Entry}
use Rattle.al_world.specs.Control.{Kind, Asked, kind_of}
use Rattle.al_world.specs.Turns.{ask_within}
use Rattle.al_world.specs.World.{World}
use Rattle.al_world.specs.Step.{run_from}
use Rattle.al_meaning.specs.Words.{sum}
use Rattle.al_meaning.specs.Items.{most_turns}
use Rattle.al_ir.specs.declared.ir.Ir.{Ir}
use Rattle.al_ir.specs.declared.ir.Global.{Global}
use Rattle.al_ir.specs.declared.ir.StartItem.{StartItem}
use Rattle.al_ir.specs.Control.{Slots, put, put_all, no_slots, Frame, Entering, Into, Nowhere, Word, Branch, Byte, Control, function_at, code_of, arguments_of, begun, given}
use Rattle.al_ir.specs.Step.{private_step}

-- the operations that are left of a function bound the steps up to a turn or an action
abbrev pub frames_weight : Ir → List Frame → ℕ
frames_weight ir [] = 0
frames_weight ir (f ∷ below) = length (code_of (function_at ir f.function)) - f.pc

abbrev pub weight_entering : Ir → Option Entering → List Frame → ℕ
weight_entering ir (Some e) frames = 1 + length (code_of (function_at ir e.function))
weight_entering ir None frames = frames_weight ir frames

abbrev pub control_weight : Ir → Control → ℕ
control_weight ir c = weight_entering ir c.entering c.frames

-- private steps up to the next action
abbrev pub ask : Ir → Control → List ℕ → Asked Control (List ℕ)
ask ir c privates = ask_within (private_step ir) (control_weight ir) most_turns act.Pause c privates

-- ---- answers

abbrev pub in_first : (Frame → Frame) → List Frame → List Frame
in_first g [] = []
in_first g (f ∷ below) = g f ∷ below

abbrev pub with_slots : (Slots → Slots) → Control → Control
with_slots g c = record c { into = Nowhere; frames = in_first (λ f. record f { slots = g f.slots }) c.frames }

-- a byte of a text: 0 ends it
abbrev pub with_byte : (slot at byte : ℕ) → Control → Control
with_byte slot at zero c = record c { into = Nowhere; frames = in_first (λ f. record f { pc = f.pc + 1 }) c.frames }
with_byte slot at (suc b) c = record (with_slots (put slot (sum at 1)) c) { text = c.text ++ suc b ∷ [] }

abbrev pub with_answer : Into → ℕ → List ℕ → Control → Control
with_answer Nowhere w words c = c
with_answer (Word to) w words c = with_slots (put to w) c
with_answer (Branch to got) w words c = with_slots (λ slots. put_all got words (put to w slots)) c
with_answer (Byte slot at) w words c = with_byte slot at w c

-- An answer without words changes nothing: the control is behind its action already.
abbrev pub resume : Control → List ℕ → Control
resume c [] = c
resume c (w ∷ words) = with_answer c.into w words c

-- ---- starts

abbrev pub start : Ir → Start → Control
start ir s = record { entering = None; into = Nowhere; unit = 0; text = []; last = no_slots; frames = begun ir s.code (given s.words) ∷ [] }

abbrev pub fresh_privates : Ir → List ℕ
fresh_privates ir = replicate ir.privates 0

-- the tasks of a program, as a kind of control of the world
abbrev pub tasks : Ir → Kind
tasks ir = kind_of (ask ir) resume (start ir) (fresh_privates ir)

-- parameters of the first task are 0 and nil
abbrev pub main_start : Ir → Start
main_start ir = record { code = ir.main; words = replicate (arguments_of (function_at ir ir.main)) 0 }

-- the blocks of the first world
abbrev pub with_item : List ℕ → StartItem → List ℕ
with_item bytes i = overwritten bytes i.at (bytes_of i.size i.word)

abbrev pub global_bytes : Global → List ℕ
global_bytes g = fold with_item (replicate g.bytes 0) g.start

abbrev pub opening_blocks : Ir → List (List ℕ)
opening_blocks ir = map global_bytes ir.globals

-- the world of a program after the entries of a schedule, in a region of so many bytes
abbrev pub run : (ir : Ir) → ℕ → List Entry → Option (World (tasks ir))
run ir region h = run_from (tasks ir) region (opening_blocks ir) (main_start ir) h

-- The instructions of actions: their arguments come into registers 10 to 12, and their answer from register 10.
use Rattle.std.specs.Prelude.{ℕ, ◌+◌, List, [], ◌∷◌, ◌++◌, length, Option, Some, None}
use Rattle.al_event.specs.declared.act.Block.{Block}
use Rattle.al_event.specs.declared.act.Block.TheVariants as block
use Rattle.al_ir.specs.declared.op.TalkBranch.{TalkBranch}
use Rattle.rv_isa.specs.declared.instr.Instr.{Instr}
use Rattle.rv_code.specs.declared.home.Home.{Home}
use Rattle.rv_code.specs.Homes.{frame_store, bring, leave}
use Rattle.rv_code.specs.Pieces.{number_code, call_code}
use Rattle.rv_form.specs.Flow.{pass_word}
use Rattle.rv_form.specs.Units.{frame_address}

-- ---- blocks and channels

-- a block's kind as a runtime call has it
abbrev pub block_number : Block → ℕ
block_number block.Heap = 1
block_number block.Frame = 2
block_number block.Global = 0

abbrev pub alloc_code : (to : Home) → (bytes : ℕ) → Block → List Instr
alloc_code to bytes kind = number_code 10 bytes ++ (number_code 11 (block_number kind) ++ (call_code 4 ++ leave to 10))

abbrev pub free_code : (at : Home) → Block → List Instr
free_code at kind = bring at 10 ++ (number_code 11 (block_number kind) ++ call_code 5)

abbrev pub new_chan_code : (to : Home) → (capacity words : ℕ) → List Instr
new_chan_code to capacity words = number_code 10 capacity ++ (number_code 11 words ++ (call_code 6 ++ leave to 10))

abbrev pub free_chan_code : (chan : Home) → List Instr
free_chan_code chan = bring chan 10 ++ call_code 7

-- a question of a channel, by the number of its call
abbrev pub chan_question : (number : ℕ) → (to chan : Home) → List Instr
chan_question number to chan = bring chan 10 ++ (call_code number ++ leave to 10)

-- ---- records in the frame

-- a number, or the address of a word of the frame, into word k of the frame
abbrev pub store_number : (n k : ℕ) → List Instr
store_number n k = number_code 10 n ++ frame_store 10 k

abbrev pub store_address : (word k : ℕ) → List Instr
store_address word k = frame_address 10 word ++ frame_store 10 k

-- ---- talks

abbrev pub direction : Option ℕ → ℕ
direction None = 0
direction (Some _) = 1

-- where the words of a branch stand: those that it sends, or receives
abbrev pub words_place : (got : ℕ) → Option ℕ → ℕ
words_place got None = got
words_place got (Some t) = t

-- a branch's record: its channel, 0 for a receive or 1 for a send, the address of its words, and their number
abbrev pub branch_record : (home : ℕ → Home) → (got : ℕ) → TalkBranch → (k : ℕ) → List Instr
branch_record home got b k =
    pass_word (home b.chan) k
    ++ (store_number (direction b.send) (k + 1) ++ (store_address (words_place got b.send) (k + 2) ++ store_number b.words (k + 3)))

abbrev pub branch_records : (home : ℕ → Home) → (got : ℕ) → List TalkBranch → (k : ℕ) → List Instr
branch_records home got [] k = []
branch_records home got (b ∷ bs) k = branch_record home got b k ++ branch_records home got bs (k + 4)

-- the runtime call of that number on so many records, which stand from word k on
abbrev pub call_on_records : (k count number : ℕ) → List Instr
call_on_records k count number = frame_address 10 k ++ (number_code 11 count ++ call_code number)

abbrev pub talk_code : (home : ℕ → Home) → List TalkBranch → (records to got : ℕ) → List Instr
talk_code home branches records to got =
    branch_records home got branches records ++ (call_on_records records (length branches) 10 ++ leave (home to) 10)

-- ---- starts

-- a proc or a task, by the number of its call
abbrev pub start_code : (number function arguments words : ℕ) → List Instr
start_code number function arguments words =
    number_code 10 function ++ (frame_address 11 arguments ++ (number_code 12 words ++ call_code number))

-- the record of a start: the function, and the address and number of its words
abbrev pub start_record : (arguments words function k : ℕ) → List Instr
start_record arguments words function k =
    store_number function k ++ (store_address arguments (k + 1) ++ store_number words (k + 2))

abbrev pub start_records : (arguments words : ℕ) → List ℕ → (k : ℕ) → List Instr
start_records arguments words [] k = []
start_records arguments words (f ∷ fs) k = start_record arguments words f k ++ start_records arguments words fs (k + 3)

abbrev pub par_code : List ℕ → (arguments words records : ℕ) → List Instr
par_code functions arguments words records =
    start_records arguments words functions records ++ call_on_records records (length functions) 13

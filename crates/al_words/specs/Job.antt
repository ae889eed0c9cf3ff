-- The job that words name.
use Rattle.std.specs.Prelude.{◌≡◌, ℕ, ◌+◌, ◌-◌, ◌*◌, ◌==◌, nat_le, Bool, ◌&&◌, if◌then◌else◌, List, [], ◌∷◌, length, Option, Some, None, is_some, option_and_then, unwrap_or, codes, Result, Ok, Err}
use Rattle.std.specs.List.{list_all}
use Rattle.std.specs.Char.{is_ascii_digit}
use Rattle.std.specs.Str.{bytes_eq}
use Rattle.clap.specs.Walk.{Row, Text, first_of}
use Rattle.clap.specs.Simple.{matches_of}
use Rattle.clap.specs.Faults.{fault_of}
use Rattle.clap.specs.Kinds.{Kinds}
use Rattle.al_words.specs.Command.{line}
use Rattle.al_words.specs.declared.job.Mode.{Mode}
use Rattle.al_words.specs.declared.job.Mode.TheVariants.{Run, Replay, Recorded, Build, Exec, Check, Sample, Race, Step, Link}
use Rattle.al_words.specs.declared.job.Job.{Job}
use Rattle.al_words.specs.declared.stop.WordsStop.{WordsStop}
use Rattle.al_words.specs.declared.stop.WordsStop.TheVariants.{Fault, NoMemory}

-- what stood for each part of the line
pub record Given : Type 0 where
  pub mode : Option Text
  pub file : Option Text
  pub schedule : Option Text
  pub workers : Option Text
  pub entries : Option Text
  pub region : Option Text
  pub number : Option Text

abbrev pub given_by : List Row → Given
given_by rows = record {
  mode = first_of (codes "mode") rows;
  file = first_of (codes "file") rows;
  schedule = first_of (codes "schedule") rows;
  workers = first_of (codes "workers") rows;
  entries = first_of (codes "entries") rows;
  region = first_of (codes "region") rows;
  number = first_of (codes "number") rows;
}

-- the number that decimal digits spell behind a number
abbrev pub spelled : ℕ → Text → ℕ
spelled n [] = n
spelled n (digit ∷ digits) = spelled (10 * n + (digit - 48)) digits

-- 1 to 10 decimal digits
abbrev pub is_number : Text → Bool
is_number text = nat_le 1 (length text) && nat_le (length text) 10 && list_all is_ascii_digit text

-- a number from `least` to `most`
abbrev pub number_in : (least most : ℕ) → Text → Option ℕ
number_in least most text =
    if is_number text && nat_le least (spelled 0 text) && nat_le (spelled 0 text) most then Some (spelled 0 text) else None

-- the number that is given, or the one that holds where none is
abbrev pub number_or : (default least most : ℕ) → Option Text → Option ℕ
number_or default least most None = Some default
number_or default least most (Some text) = number_in least most text

abbrev pub mode_of : Text → Option Mode
mode_of word =
    if bytes_eq word (codes "run") then Some Run
    else (if bytes_eq word (codes "replay") then Some Replay
    else (if bytes_eq word (codes "record") then Some Recorded
    else (if bytes_eq word (codes "build") then Some Build
    else (if bytes_eq word (codes "exec") then Some Exec
    else (if bytes_eq word (codes "check") then Some Check
    else (if bytes_eq word (codes "sample") then Some Sample
    else (if bytes_eq word (codes "race") then Some Race
    else (if bytes_eq word (codes "step") then Some Step
    else (if bytes_eq word (codes "link") then Some Link
    else None)))))))))

-- how many files a mode names
abbrev pub files_of : Mode → ℕ
files_of Sample = 0
files_of Replay = 2
files_of Race = 2
files_of Step = 2
files_of _ = 1

-- how many files are given: by position, so that a second comes only with a first
abbrev pub files_in : Given → ℕ
files_in g = (if is_some g.file then 1 else 0) + (if is_some g.schedule then 1 else 0)

abbrev pub name_or_empty : Option Text → Text
name_or_empty name = unwrap_or name []

abbrev pub with_numbers : Mode → Given → Option ℕ → Option ℕ → Option ℕ → Option ℕ → Option Job
with_numbers mode g (Some workers) (Some entries) (Some region) (Some number) = Some (record {
  mode = mode;
  file = name_or_empty g.file;
  schedule = name_or_empty g.schedule;
  workers = workers;
  entries = entries;
  region = region;
  number = number;
})
with_numbers mode g _ _ _ _ = None

abbrev pub in_mode : Given → Mode → Option Job
in_mode g mode =
    if files_in g == files_of mode
    then with_numbers mode g (number_or 4 1 64 g.workers) (number_or 4194304 1 67108864 g.entries) (number_or 16 1 256 g.region) (number_or 0 0 4294967295 g.number)
    else None

abbrev pub job_given : Given → Option Job
job_given g = option_and_then (in_mode g) (option_and_then mode_of g.mode)

abbrev pub job_unless : Kinds → Given → Option Job
job_unless [] g = job_given g
job_unless (_ ∷ _) g = None

-- the job that the words name: where `clap` finds no fault in them, what they give
unfoldable pub job_of : List Text → Option Job
job_of words = job_unless (fault_of line words) (given_by (matches_of line words))

-- what `read_job` answers: the job, or a fault where there is none; want of memory says nothing
abbrev pub IsReadOf : Option Job → Result Job WordsStop → Type 0
IsReadOf job (Ok read) = job ≡ Some read
IsReadOf job (Err (Fault fault)) = job ≡ None
IsReadOf job (Err NoMemory) = Unit {0}

-- The bounds of a job's numbers.
use Rattle.std.proofs.Common.{◌≡◌, ℕ, ◌^◌, ◌≤◌, Bool, true, false, cond, ◌&&◌, Option, Some, None, refl, subst, arith}
use Rattle.std.specs.Prelude.{◌==◌, nat_le, option_and_then}
use Rattle.std.proofs.lemmas.Bool.{and_parts, leb-true}
use Rattle.std.proofs.lemmas.Option.{same_Some}
use Rattle.clap.specs.Walk.{Text}
use Rattle.clap.specs.Kinds.{Kinds}
use Rattle.clap.specs.Simple.{matches_of}
use Rattle.clap.specs.Faults.{fault_of}
use Rattle.al_words.specs.Command.{line}
use Rattle.std.specs.Prelude.{List, [], ◌∷◌}
use Rattle.al_words.specs.Job.{Given, given_by, spelled, is_number, number_or, mode_of, files_of, files_in, with_numbers, in_mode, job_unless, job_of}
use Rattle.al_words.specs.declared.job.Mode.{Mode}
use Rattle.al_words.specs.declared.job.Job.{Job}

pub record IsBounded (job : Job) : Type 0 where
  pub some_workers : 1 ≤ job.workers
  pub workers : job.workers ≤ 64
  pub some_region : 1 ≤ job.region
  pub region : job.region ≤ 256
  pub some_entries : 1 ≤ job.entries
  pub entries : job.entries ≤ 2 ^ 26

number_within : (default least most n : ℕ) (o : Option Text) → least ≤ default → default ≤ most → number_or default least most o ≡ Some n → (least ≤ n) × (n ≤ most)
number_within default least most n None le le' e = let same = same_Some default n e in (omega (arith, same, le), omega (arith, same, le'))
number_within default least most n (Some text) le le' e = on (is_number text && nat_le least (spelled 0 text) && nat_le (spelled 0 text) most) refl e
  where
    on : (b : Bool) → (is_number text && nat_le least (spelled 0 text) && nat_le (spelled 0 text) most) ≡ b → cond b (Some (spelled 0 text)) None ≡ Some n → (least ≤ n) × (n ≤ most)
    on false b e = absurd (cc)
    on true b e =
        let outer = and_parts (is_number text && nat_le least (spelled 0 text)) (nat_le (spelled 0 text) most) b in
        let inner = and_parts (is_number text) (nat_le least (spelled 0 text)) outer.0 in
        let low = leb-true least (spelled 0 text) inner.1 in
        let high = leb-true (spelled 0 text) most outer.1 in
        let same = same_Some (spelled 0 text) n e in
        (omega (arith, low, same), omega (arith, high, same))

numbers_bounded : (mode : Mode) (g : Given) (job : Job) (w e r n : Option ℕ) → ((k : ℕ) → w ≡ Some k → (1 ≤ k) × (k ≤ 64)) → ((k : ℕ) → e ≡ Some k → (1 ≤ k) × (k ≤ 2 ^ 26)) → ((k : ℕ) → r ≡ Some k → (1 ≤ k) × (k ≤ 256)) → with_numbers mode g w e r n ≡ Some job → IsBounded job
numbers_bounded mode g job (Some w) (Some e) (Some r) (Some n) hw he hr is =
    subst IsBounded (same_Some _ job is) (record { some_workers = (hw w refl).0; workers = (hw w refl).1; some_region = (hr r refl).0; region = (hr r refl).1; some_entries = (he e refl).0; entries = (he e refl).1 })
numbers_bounded mode g job None e r n hw he hr is = absurd (cc)
numbers_bounded mode g job (Some w) None r n hw he hr is = absurd (cc)
numbers_bounded mode g job (Some w) (Some e) None n hw he hr is = absurd (cc)
numbers_bounded mode g job (Some w) (Some e) (Some r) None hw he hr is = absurd (cc)

mode_bounded : (g : Given) (mode : Mode) (job : Job) → in_mode g mode ≡ Some job → IsBounded job
mode_bounded g mode job is = on (files_in g == files_of mode) is
  where
    on : (b : Bool) → cond b (with_numbers mode g (number_or 4 1 64 g.workers) (number_or 4194304 1 67108864 g.entries) (number_or 16 1 256 g.region) (number_or 0 0 4294967295 g.number)) None ≡ Some job → IsBounded job
    on false is = absurd (cc)
    on true is =
        numbers_bounded mode g job (number_or 4 1 64 g.workers) (number_or 4194304 1 67108864 g.entries) (number_or 16 1 256 g.region) (number_or 0 0 4294967295 g.number)
        (λ k e. number_within 4 1 64 k g.workers (omega arith) (omega arith) e) (λ k e. number_within 4194304 1 67108864 k g.entries (omega arith) (omega arith) e) (λ k e. number_within 16 1 256 k g.region (omega arith) (omega arith) e) is

given_bounded : (g : Given) (job : Job) (o : Option Mode) → option_and_then (in_mode g) o ≡ Some job → IsBounded job
given_bounded g job None is = absurd (cc)
given_bounded g job (Some mode) is = mode_bounded g mode job is

unless_bounded : (k : Kinds) (g : Given) (job : Job) → job_unless k g ≡ Some job → IsBounded job
unless_bounded [] g job is = given_bounded g job (option_and_then mode_of g.mode) is
unless_bounded (f ∷ fs) g job is = absurd (cc)

pub job_bounded : (words : List Text) (job : Job) → job_of words ≡ Some job → IsBounded job
unfolding job_of
job_bounded words job is = unless_bounded (fault_of line words) (given_by (matches_of line words)) job is

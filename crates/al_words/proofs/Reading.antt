-- What a parse of the line says of the job that the words name.
use Rattle.std.proofs.Common.{◌≡◌, ◌≢◌, true, List, [], ◌∷◌, None, inl, inr, refl, sym, ap, subst, ◌∙◌}
use Rattle.clap.specs.Walk.{Text, Row}
use Rattle.clap.specs.Simple.{App, is_simple, matches_of}
use Rattle.clap.specs.Faults.{fault_of, is_simple_and_free}
use Rattle.clap.specs.Kinds.{Kinds, HasKind, IsAmong}
use Rattle.clap.specs.Values.{kind_of}
use Rattle.clap.specs.declared.error.Error.{Error}
use Rattle.clap.specs.declared.error.kind.ErrorKind.TheVariants.{OutOfMemory}
use Rattle.clap.proofs.OnLiterals.{clap_on_literals}
use Rattle.al_words.specs.Command.{line}
use Rattle.al_words.specs.Job.{job_of, job_given, job_unless, given_by}

line_is_simple : is_simple line ≡ true
unfolding clap_on_literals
line_is_simple = refl

line_is_free : is_simple_and_free line ≡ true
unfolding clap_on_literals
line_is_free = refl

pub simple : (a : App) → a ≡ line → is_simple a ≡ true
simple a e = ap is_simple e ∙ line_is_simple

pub free : (a : App) → a ≡ line → is_simple_and_free a ≡ true
free a e = ap is_simple_and_free e ∙ line_is_free

-- no fault: the job is what the matches give
pub job_found : (a : App) (words : List Text) (rows : List Row) → a ≡ line → fault_of a words ≡ [] → rows ≡ matches_of a words
    → job_of words ≡ job_given (given_by rows)
unfolding job_of
job_found a words rows e f m =
    let none : fault_of line words ≡ [] = ap (λ (x : App). fault_of x words) (sym e) ∙ f in
    let same : rows ≡ matches_of line words = m ∙ ap (λ (x : App). matches_of x words) e in
    rw (none, same) refl

-- a fault: there is none
pub no_job : (a : App) (words : List Text) (error : Error) → a ≡ line → HasKind (fault_of a words) error → kind_of error ≢ OutOfMemory
    → job_of words ≡ None
unfolding job_of
no_job a words error e h other = on (fault_of line words) refl (subst (λ (x : App). HasKind (fault_of x words) error) e h)
  where
    on : (kinds : Kinds) → fault_of line words ≡ kinds → HasKind (fault_of line words) error → job_unless (fault_of line words) (given_by (matches_of line words)) ≡ None
    on [] is (inl k) = absurd (other k)
    on [] is (inr k) = absurd (subst (λ (ks : Kinds). IsAmong (kind_of error) ks) is k)
    on (k ∷ ks) is _ = rw is refl

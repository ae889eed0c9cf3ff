-- Operations that are made one behind the other.
use Rattle.std.proofs.Common.{◌≡◌, List, ◌++◌, Result, OnOk, ap, ◌∙◌, subst, append_assoc}
use Rattle.al_ir.specs.declared.ir.Operation.{Operation}

-- those of one part, and others behind them
pub behind : (out made one other whole : List Operation) → made ≡ out ++ one → one ++ other ≡ whole → made ++ other ≡ out ++ whole
behind out made one other whole is all = ap (λ (ops : List Operation). ops ++ other) is ∙ append_assoc out one other ∙ ap (λ (ops : List Operation). out ++ ops) all

-- the same where the others may not have been made for want of memory
pub then_ok : {A E : Type 0} (r : Result A E) (new out made one other whole : List Operation) → made ≡ out ++ one → one ++ other ≡ whole
    → OnOk r (new ≡ made ++ other) → OnOk r (new ≡ out ++ whole)
then_ok r new out made one other whole is all last = subst (λ (ops : List Operation). OnOk r (new ≡ ops)) (behind out made one other whole is all) last

pub as_ok : {A E : Type 0} (r : Result A E) (new out one whole : List Operation) → one ≡ whole → OnOk r (new ≡ out ++ one) → OnOk r (new ≡ out ++ whole)
as_ok r new out one whole is last = subst (λ (ops : List Operation). OnOk r (new ≡ out ++ ops)) is last

-- those of two parts, and others behind them
pub then_both : {A E : Type 0} (r : Result A E) (new out first second one two three whole : List Operation) → first ≡ out ++ one → second ≡ first ++ two
    → one ++ (two ++ three) ≡ whole → OnOk r (new ≡ second ++ three) → OnOk r (new ≡ out ++ whole)
then_both r new out first second one two three whole a b all last =
    then_ok r new out second (one ++ two) three whole (b ∙ ap (λ (ops : List Operation). ops ++ two) a ∙ append_assoc out one two) (append_assoc one two three ∙ all) last

-- and of three
pub then_all : {A E : Type 0} (r : Result A E) (new out first second third one two three four whole : List Operation) → first ≡ out ++ one → second ≡ first ++ two → third ≡ second ++ three
    → one ++ (two ++ (three ++ four)) ≡ whole → OnOk r (new ≡ third ++ four) → OnOk r (new ≡ out ++ whole)
then_all r new out first second third one two three four whole a b c all last =
    then_both r new out second third (one ++ two) three four whole (b ∙ ap (λ (ops : List Operation). ops ++ two) a ∙ append_assoc out one two) c (append_assoc one two (three ++ four) ∙ all) last

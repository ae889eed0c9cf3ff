use Rattle.std.proofs.Common.{◌≡◌, add-one, arith, ap, ◌∙◌, sym, ℕ, List}
use Rattle.std.specs.Prelude.{string_bytes}
use Rattle.std.specs.Str.{bytes_eq}
use Rattle.al_host.proofs.Lookup.{File, found_here, not_here}
use Rattle.al_host.proofs.memory_host.place_of.Goals as goal

-- the answer of the test, said of the file's name
told : (n name : List ℕ) {x y : File} → x ≡ y → n ≡ string_bytes y.0 → bytes_eq (string_bytes x.0) name ≡ bytes_eq n name
told n name is value = ap (λ (f : File). bytes_eq (string_bytes f.0) name) is ∙ ap (λ (v : List ℕ). bytes_eq v name) (sym value)

pub returns-then-eq-clause-text : goal.returns-then-eq-clause-text
returns-then-eq-clause-text c =
    found_here c.args.name.now c.args.files.now c.loop-at.at c.index-files-at.result (omega arith) c.index-files-at.is c.loop-at.invariant
    (told _ _ c.index-files-at.is c.as_str.ensures.value ∙ sym c.eq.ensures ∙ c.if-eq.true)

pub loop-at-preserved : goal.loop-at-preserved
loop-at-preserved c =
    rw add-one (not_here c.args.name.now c.args.files.now c.loop-at.at c.index-files-at.result (omega arith) c.index-files-at.is c.loop-at.invariant
    (told _ _ c.index-files-at.is c.as_str.ensures.value ∙ sym c.eq.ensures ∙ c.if-eq.false))

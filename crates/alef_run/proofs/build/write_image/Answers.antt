use Rattle.std.proofs.Common.{◌≡◌, ℕ, List, sym, subst}
use Rattle.std.specs.Prelude.{Ok}
use Rattle.rv_image.specs.Reading.{reading}
use Rattle.rv_image.specs.Spelling.{IsImage2}
use Rattle.alef_run.proofs.build.write_image.Goals as goal

pub returns-in-Ok-write_all : goal.returns-in-Ok-write_all
returns-in-Ok-write_all g c =
    let S : List ℕ → Type 0 = λ bytes. IsImage2 bytes c.args.image.now in
    let R : List ℕ → Type 0 = λ bytes. reading bytes ≡ Ok c.args.image.now in
    let value = sym c.as_slice.ensures.value in
    (c.as_slice.result.now, subst S value c.in-Ok.ensures.spelling, subst R value c.in-Ok.ensures.again, c.in-Ok-write_all.ensures.all, c.in-Ok-write_all.ensures.ok)

pub returns : goal.returns
returns g c =
    let S : List ℕ → Type 0 = λ bytes. IsImage2 bytes c.args.image.now in
    let R : List ℕ → Type 0 = λ bytes. reading bytes ≡ Ok c.args.image.now in
    let value = sym c.as_slice.ensures.value in
    (c.as_slice.result.now, subst S value c.in-Ok.ensures.spelling, subst R value c.in-Ok.ensures.again, c.in-Err-write_all.ensures.part, c.in-Err-write_all.ensures.cause)

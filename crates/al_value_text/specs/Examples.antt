-- Worked values.
use Rattle.std.specs.Prelude.{◌≡◌, true, false, List, [], ◌∷◌, Some, refl, codes}
use Rattle.std.specs.Fmt.{digits}
use Rattle.al_base.specs.declared.arith.Kind.TheVariants as kind
use Rattle.al_typed.specs.declared.program.Aggregate.{Aggregate}
use Rattle.al_typed.specs.declared.ty.Ty.{Ty}
use Rattle.al_typed.specs.declared.ty.Ty.TheVariants as ty
use Rattle.al_typed.specs.declared.ty.Ty.TheBlock.{hidden-the_row-Ty-0, hidden-the_row-Ty-1}
use denote.Hole.Carrier.{hidden}
use Rattle.al_value_text.specs.Values.{shown, shown_in, shown_of, shown_after, aggregate_shown}

abbrev int : Ty
int = ty.Integer kind.Int

abbrev byte : Ty
byte = ty.Integer kind.Byte

-- union{int a;byte b;}, and aggr{byte a[2];union b;}
abbrev rows : List Aggregate
rows =
    record { is_union = true; size = 4; align = 4; units = 1; members = Some (int ∷ byte ∷ []) }
    ∷ record { is_union = false; size = 8; align = 4; units = 3; members = Some (ty.Array byte 2 ∷ ty.Aggregate 0 ∷ []) }
    ∷ []

a_tuple : shown [] (ty.Tuple (int ∷ ty.Pointer byte ∷ [])) (0xffffffff ∷ 4096 ∷ []) ≡ codes "(-1,0x00001000)"
unfolding digits shown_in shown_of shown_after hidden-the_row-Ty-0 hidden-the_row-Ty-1 hidden
a_tuple = refl

a_lint : shown [] (ty.Integer kind.Lint) (0 ∷ 0x80000000 ∷ []) ≡ codes "-9223372036854775808"
unfolding digits shown_in shown_of shown_after
a_lint = refl

an_aggr : shown rows (ty.Aggregate 1) (7 ∷ 255 ∷ 4294967295 ∷ []) ≡ codes "((7,255),(4294967295))"
unfolding digits shown_in shown_of shown_after aggregate_shown hidden-the_row-Ty-0 hidden-the_row-Ty-1 hidden
an_aggr = refl

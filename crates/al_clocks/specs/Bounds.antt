-- What a clock says of a proc.
use Rattle.std.specs.Prelude.{ℕ, if◌then◌else◌, ◌==◌, slice_index}
use Rattle.al_clocks.specs.declared.clock.Clock.{Clock}

abbrev pub bounds : Clock → ℕ → ℕ
bounds c q = if q == c.proc then c.own else slice_index c.rest.value.items q

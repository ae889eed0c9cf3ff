use Rattle.std.proofs.Common.{◌≡◌, ℕ, List, ◌++◌, All, refl, ap, subst, ◌∙◌}
use Rattle.std.specs.List.{flat_map}
use Rattle.rv_image.specs.Spelling.{spelled, function_row, item_row, line_row, version_2}
use Rattle.rv_image.proofs.Lists.{written}
use Rattle.rv_image.proofs.Numbers.{Fits}
use Rattle.rv_image.proofs.writing.write_contents.Goals as goal

pub returns : goal.returns
returns c =
    let numbers : c.header_of-header.result ++ (flat_map function_row c.as_slice.result.now ++ c.as_slice-2.result.now ++ flat_map item_row c.as_slice-3.result.now ++ c.as_slice-4.result.now) ++ flat_map line_row c.as_slice-5.result.now ≡ version_2 c.args.contents.now =
    rw (c.header_of-header.ensures, c.as_slice.ensures.value, c.as_slice-2.ensures.value, c.as_slice-3.ensures.value, c.as_slice-4.ensures.value, c.as_slice-5.ensures.value) refl in
    let spelling : _ ≡ spelled (version_2 c.args.contents.now) = written _ _ _ _ _ _ _ c.header_of-header.result (flat_map function_row c.as_slice.result.now) c.as_slice-2.result.now (flat_map item_row c.as_slice-3.result.now) c.as_slice-4.result.now (flat_map line_row c.as_slice-5.result.now)
    c.new-out.ensures.items c.in_ok-put_numbers.ensures.written c.in_ok-put_functions.ensures c.in_ok-put_numbers-2.ensures.written c.in_ok-put_items.ensures c.in_ok-put_numbers-3.ensures.written c.in_ok-put_lines.ensures
    ∙ ap spelled numbers in
    record { contents = record { within = c.requires; words = subst (λ (ns : List ℕ). All Fits ns) c.as_slice-4.ensures.value c.put_numbers-3.ensures.numbers }; spelling = spelling }

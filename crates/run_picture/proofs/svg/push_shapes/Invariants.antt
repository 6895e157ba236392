use Rattle.std.proofs.Common.{◌≡◌, ◌++◌, flat_map, string_bytes, take}
use Rattle.run_picture.specs.Texts.{shape_text}
use Rattle.run_picture.proofs.svg.push_shapes.Given as goal

abbrev pub invariant-loop-shape : goal.invariant-loop-shape
invariant-loop-shape l =
    string_bytes l.text ≡ string_bytes l.initial.text ++ flat_map shape_text (take l.shape-index l.shapes)

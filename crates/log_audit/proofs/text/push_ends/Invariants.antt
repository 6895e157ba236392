use Rattle.std.proofs.Common.{◌≡◌, ◌++◌, flat_map, string_bytes, take}
use Rattle.log_audit.specs.Texts.{torn_text}
use Rattle.log_audit.proofs.text.push_ends.Given as goal

abbrev pub invariant-loop-end : goal.invariant-loop-end
invariant-loop-end l = string_bytes l.text ≡ string_bytes l.initial.text ++ flat_map torn_text (take l.end-index l.torn)

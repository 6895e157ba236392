use Rattle.std.proofs.Common.{◌≡◌, ◌-◌, ◌++◌, flat_map, string_bytes}
use Rattle.std.specs.List.{range_with_len}
use Rattle.load_script.specs.Scripts.{filling_text}
use Rattle.load_script.proofs.scripts.push_fillings.Given as goal

abbrev pub invariant-loop-session : goal.invariant-loop-session
invariant-loop-session l =
    string_bytes l.text ++ flat_map filling_text (range_with_len l.session (l.count - l.session))
    ≡ string_bytes l.initial.text ++ flat_map filling_text (range_with_len 0 l.count)

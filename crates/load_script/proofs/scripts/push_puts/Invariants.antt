use Rattle.std.proofs.Common.{◌≡◌, ◌-◌, ◌++◌, flat_map, string_bytes}
use Rattle.std.specs.List.{range_with_len}
use Rattle.load_script.specs.Scripts.{put_text}
use Rattle.load_script.proofs.scripts.push_puts.Given as goal

abbrev pub invariant-loop-place : goal.invariant-loop-place
invariant-loop-place l =
    string_bytes l.text ++ flat_map (put_text l.session) (range_with_len l.place (l.count - l.place))
    ≡ string_bytes l.initial.text ++ flat_map (put_text l.session) (range_with_len 0 l.count)

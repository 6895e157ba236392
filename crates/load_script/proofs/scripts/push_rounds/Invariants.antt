use Rattle.std.proofs.Common.{◌≡◌, ◌-◌, ◌++◌, string_bytes}
use Rattle.load_script.specs.Scripts.{rounds_text}
use Rattle.load_script.proofs.scripts.push_rounds.Given as goal

abbrev pub invariant-loop-round : goal.invariant-loop-round
invariant-loop-round l =
    string_bytes l.text ++ rounds_text l.round (l.rounds - l.round) l.words ≡ string_bytes l.initial.text ++ rounds_text 0 l.rounds l.initial.words

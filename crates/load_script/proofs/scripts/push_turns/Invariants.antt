use Rattle.std.proofs.Common.{◌≡◌, ◌-◌, ◌++◌, string_bytes}
use Rattle.load_script.specs.Scripts.{behind_turns, turns_text}
use Rattle.load_script.proofs.scripts.push_turns.Given as goal

abbrev pub invariant-loop-session : goal.invariant-loop-session
invariant-loop-session l = record {
  text : string_bytes l.text ++ turns_text l.round l.session (4 - l.session) l.words ≡ string_bytes l.initial.text ++ turns_text l.round 0 4 l.initial.words;
  words : behind_turns (4 - l.session) l.words ≡ behind_turns 4 l.initial.words;
}

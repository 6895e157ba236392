-- What is read is well formed.
use Rattle.std.proofs.Common.{◌≡◌, ℕ, ◌+◌, ◌<◌, ◌≤◌, List, [], ◌∷◌, ◌++◌, length, Result, Ok, Err, refl, sym, subst, arith, length-append, lit≤, lit<}
use Rattle.std.specs.Str.Lines.{lines}
use Rattle.script_text.specs.declared.item.Item.{Item}
use Rattle.script_text.specs.declared.rule.Rule.{Rule}
use Rattle.script_text.specs.declared.said.Said.{Said}
use Rattle.script_text.specs.ScriptParts.{ScriptParts}
use Rattle.script_text.specs.Words.{words}
use Rattle.script_text.specs.Rules.{counted, line_read}
use Rattle.script_text.specs.Reading.{Refusal, joined, go_on, lines_read, nothing_said, script_of, whole, reading}
use Rattle.script_text.specs.WellFormed.{AreApart, IsWellFormed}
use Rattle.script_text.proofs.Lists.{All-push}
use Rattle.script_text.proofs.LineCases.{line_read-ok, of_words}
use Rattle.script_text.proofs.State.{IsSound, IsSound-later, items_so_far, joined-push}
use Rattle.script_text.proofs.FormSteps.{Follows, form-follows}

-- a line that breaks no rule leads on from what was said before
line-follows : (said next : Said) (line : List ℕ) → line_read said line ≡ Ok next → Follows (counted said) next
line-follows said next line h =
    of_words (Follows (counted said)) (counted said) next (words line)
    (record { lines = refl; sound = λ before later sound. IsSound-later (counted said) before (said.lines + 1) (omega arith) sound })
    (form-follows (counted said) next (words line)) (line_read-ok said next line h).1

-- each line is counted
pub line_read-lines : (said next : Said) (line : List ℕ) → line_read said line ≡ Ok next → next.lines ≡ said.lines + 1
line_read-lines said next line h = (line-follows said next line h).lines

line-sound : (said next : Said) (line : List ℕ) → IsSound said.lines said → line_read said line ≡ Ok next → IsSound next.lines next
line-sound said next line sound h =
    let here : IsSound said.lines (counted said) = record {
      settings = sound.settings;
      rise = sound.rise;
      within = sound.within;
      begins = sound.begins;
      opened = sound.opened;
      count = sound.count;
      named = sound.named;
      few = sound.few;
      ended = sound.ended;
      apart = sound.apart;
    } in
    let P : ℕ → Type 0 = λ n. IsSound n next in
    let follows = line-follows said next line h in
    subst P (sym follows.lines) (follows.sound said.lines (omega arith) here)

pub go_on-ok : (judged : Result Said Rule) (line : ℕ) (read : Said → Result Said Refusal) (final : Said) → go_on judged line read ≡ Ok final → (next : Said) × (judged ≡ Ok next) × (read next ≡ Ok final)
go_on-ok (Ok next) line read final h = (next, refl, h)
go_on-ok (Err rule) line read final h = absurd (cc)

lines-sound : (ls : List (List ℕ)) (said final : Said) → IsSound said.lines said → lines_read said ls ≡ Ok final → IsSound final.lines final
lines-sound [] said final sound h = let e : said ≡ final = cc in subst (λ s. IsSound s.lines s) e sound
lines-sound (line ∷ ls) said final sound h =
    let next = go_on-ok (line_read said line) (said.lines + 1) (λ s. lines_read s ls) final h in
    lines-sound ls next.0 final (line-sound said next.0 line sound next.1) next.2

lines-few : (ls : List (List ℕ)) (said final : Said) → said.lines ≤ 10000 → lines_read said ls ≡ Ok final → final.lines ≤ 10000
lines-few [] said final few h = let e : said ≡ final = cc in subst (λ s. s.lines ≤ 10000) e few
lines-few (line ∷ ls) said final few h =
    let next = go_on-ok (line_read said line) (said.lines + 1) (λ s. lines_read s ls) final h in
    let short = (line_read-ok said next.0 line next.1).0.lines in
    let counts = line_read-lines said next.0 line next.1 in
    lines-few ls next.0 final (omega arith) next.2

pub whole-ok : (read : Result Said Refusal) (parts : ScriptParts) → whole read ≡ Ok parts → (final : Said) × (read ≡ Ok final) × (script_of final ≡ parts)
whole-ok (Ok final) parts h = let e : script_of final ≡ parts = cc in (final, refl, e)
whole-ok (Err refusal) parts h = absurd (cc)

has-last : (waves : List (List (ℕ × Item))) (wave : List (ℕ × Item)) → 0 < length (waves ++ wave ∷ [])
has-last waves wave = omega (arith, length-append waves (wave ∷ []))

nothing-sound : IsSound 0 nothing_said
nothing-sound = record {
  settings = record {
    some_instances = lit≤ tt;
    few_instances = lit≤ tt;
    some_blocks = lit≤ tt;
    few_blocks = lit≤ tt;
    some_undo = lit≤ tt;
    few_undo = lit≤ tt;
    undo_by_four = refl;
    some_cache = lit≤ tt;
    few_cache = lit≤ tt;
    seed_fits = lit< tt;
  };
  rise = tt;
  within = tt;
  begins = λ _. refl;
  opened = tt;
  count = refl;
  named = refl;
  few = lit≤ tt;
  ended = tt;
  apart = tt;
}

-- a text that is read is a well-formed script
pub reading-well_formed : (text : List ℕ) (parts : ScriptParts) → reading text ≡ Ok parts → IsWellFormed parts
unfolding reading
reading-well_formed text parts h =
    let read = whole-ok (lines_read nothing_said (lines text)) parts h in
    let sound = lines-sound (lines text) nothing_said read.0 nothing-sound read.1 in
    let all : joined (read.0.waves ++ read.0.wave ∷ []) ≡ items_so_far read.0 = joined-push read.0.waves read.0.wave in
    subst IsWellFormed read.2 (record {
      settings_fit = sound.settings;
      has_wave = has-last read.0.waves read.0.wave;
      lines_rise = rw all sound.rise;
      items_within = rw all sound.within;
      items_opened = rw all sound.opened;
      items_apart = All-push AreApart read.0.waves read.0.wave sound.ended sound.apart;
      lines_fit = lines-few (lines text) nothing_said read.0 (lit≤ tt) read.1;
      sessions_fit = sound.few;
      sessions_are_named = sound.named;
    })

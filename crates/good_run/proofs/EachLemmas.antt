-- `each_passes` is recursive; these lemmas say that it speaks of each place of a journal.
use Rattle.std.proofs.Common.{◌≡◌, [], ◌∷◌, ◌++◌, ◌↔◌, Bool, true, refl, ap, subst}
use Rattle.std.proofs.lemmas.Bool.{and_from, and_parts}
use Rattle.journal.specs.declared.entry.Entry.{Entry}
use Rattle.journal.specs.Past.{Past}
use Rattle.good_run.specs.Waves.{each_passes}

module _ (test : Past → Entry → Bool) where
  -- what all pass one passes
  passes-at : (newer : Past) (e : Entry) (older : Past) → each_passes test (newer ++ e ∷ older) ≡ true → test older e ≡ true
  passes-at [] e older all = (and_parts (test older e) (each_passes test older) all).0
  passes-at (x ∷ newer) e older all =
      passes-at newer e older (and_parts (test (newer ++ e ∷ older) x) (each_passes test (newer ++ e ∷ older)) all).1

  -- what each one passes all pass
  passes-from : (past : Past) → ((newer older : Past) (e : Entry) → past ≡ newer ++ e ∷ older → test older e ≡ true) → each_passes test past ≡ true
  passes-from [] each = refl
  passes-from (e ∷ past) each =
      and_from (test past e) (each_passes test past) (each [] past e refl)
      (passes-from past (λ newer older x same. each (e ∷ newer) older x (ap (λ (xs : Past). e ∷ xs) same)))

  pub passes-places : (past : Past) → (each_passes test past ≡ true) ↔ ((newer older : Past) (e : Entry) → past ≡ newer ++ e ∷ older → test older e ≡ true)
  passes-places past =
      (λ all newer older e same. passes-at newer e older (subst (λ (xs : Past). each_passes test xs ≡ true) same all), passes-from past)

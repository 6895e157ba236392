-- `Each` is recursive; these lemmas say that it speaks of each place of a journal.
use Rattle.std.proofs.Common.{◌≡◌, [], ◌∷◌, ◌++◌, ◌↔◌, refl, ap, subst}
use Rattle.journal.specs.declared.entry.Entry.{Entry}
use Rattle.journal.specs.Past.{Past, Each}

module _ (P : Past → Entry → Type 0) where
  -- what holds of each holds of one
  pub Each-at : (newer : Past) (e : Entry) (older : Past) → Each P (newer ++ e ∷ older) → P older e
  Each-at [] e older each = each.0
  Each-at (x ∷ newer) e older each = Each-at newer e older each.1

  -- what holds of each one holds of each
  pub Each-from : (past : Past) → ((newer older : Past) (e : Entry) → past ≡ newer ++ e ∷ older → P older e) → Each P past
  Each-from [] all = tt
  Each-from (e ∷ past) all =
      (all [] past e refl, Each-from past (λ newer older x same. all (e ∷ newer) older x (ap (λ (xs : Past). e ∷ xs) same)))

  pub Each-places : (past : Past) → Each P past ↔ ((newer older : Past) (e : Entry) → past ≡ newer ++ e ∷ older → P older e)
  Each-places past = (λ each newer older e same. Each-at newer e older (subst (Each P) same each), Each-from past)

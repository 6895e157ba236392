-- What stands, kept with the oldest first.
use Rattle.std.proofs.Common.{◌≡◌, ◌∙◌, ℕ, ◌-◌, List, length, reverse, take, drop, ap, sym}
use Rattle.std.proofs.lemmas.List.{length-reverse}
use Rattle.journal.specs.declared.deeds.Deed.{Deed}
use Rattle.journal_check.proofs.PastLemmas.{reverse_take}

-- the oldest so many deeds
pub undone_stands : (left : ℕ) (deeds : List Deed) → reverse (take left deeds) ≡ drop (length (reverse deeds) - left) (reverse deeds)
undone_stands left deeds =
    reverse_take left deeds ∙ ap (λ (n : ℕ). drop (n - left) (reverse deeds)) (sym (length-reverse deeds))

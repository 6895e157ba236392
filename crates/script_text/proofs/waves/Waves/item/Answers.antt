use Rattle.std.proofs.Common.{◌≡◌, ◌-◌, Some, None, arith, refl, sym, ap, slice_get, ◌∙◌, Option, ℕ}
use Rattle.script_text.specs.Places.{place_of, item_in_wave, item_at_place}
use Rattle.script_text.proofs.PlaceLemmas.{item_at_place-is}
use Rattle.script_text.proofs.waves.Waves.item.Goals as goal

pub returns-in-Some : goal.returns-in-Some
returns-in-Some c =
    let waves = c.self.inside.waves.items in
    let place : Some c.in-Some.field-0.now ≡ place_of c.args.line 0 waves = c.in-Some.ensures.value ∙ c.self.invariant c.args.line in
    let found = c.in-Some.field-0.now in
    let same : found.0 - 0 ≡ found.0 = omega arith in
    let stands : item_at_place 0 waves (Some found) ≡ item_in_wave (slice_get waves found.0) found.1 = rw same refl in
    rw (← c.self.view_is)
    (c.item_at.ensures ∙ ap (λ ws. item_in_wave (slice_get ws found.0) found.1) c.as_slice.ensures.value
    ∙ sym stands ∙ ap (item_at_place 0 waves) place ∙ item_at_place-is c.args.line 0 waves)

pub returns-in-None : goal.returns-in-None
returns-in-None c =
    let waves = c.self.inside.waves.items in
    let place : let nowhere : Option (ℕ × ℕ) = None in nowhere ≡ place_of c.args.line 0 waves = c.in-None.ensures.value ∙ c.self.invariant c.args.line in
    rw (← c.self.view_is) (ap (item_at_place 0 waves) place ∙ item_at_place-is c.args.line 0 waves)

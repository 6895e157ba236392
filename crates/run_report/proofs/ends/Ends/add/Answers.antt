use Rattle.std.proofs.Common.{◌≡◌, Bool, true, false, cond, not, ◌&&◌, ◌||◌, refl, ◌∙◌}
use Rattle.std.specs.Prelude.{◌==◌}
use Rattle.run_report.specs.Found.{kept}
use Rattle.run_report.proofs.ends.Ends.add.Goals as goal

-- a pair that is put among others, in the words of the clause
put : (same_inst same_wave before : Bool) → cond (same_wave && same_inst) true before ≡ (before || ((same_inst && true) && same_wave))
put true true true = refl
put true true false = refl
put true false true = refl
put true false false = refl
put false true true = refl
put false true false = refl
put false false true = refl
put false false false = refl

-- none is put
left : (same_inst same_wave before : Bool) → before ≡ (before || ((same_inst && false) && same_wave))
left true _ true = refl
left true _ false = refl
left false _ true = refl
left false _ false = refl

pub returns-in_ok-insert-2 : goal.returns-in_ok-insert-2
returns-in_ok-insert-2 c = λ w down i.
    let is_down = c.if-is_down.true in
    let every = c.in_ok-insert.ensures.updates.0 (w, i) in
    let found_down = c.in_ok-insert-2.ensures.updates.0 (w, i) in
    rw (← c.inst.view_is, is_down) (elim down as (λ d. kept (record { ended = c.insert.new.self; found_down = c.insert-then-is_down.new.self }) w d i ≡ (kept c.args.self.now w d i || ((c.inst.inside.0 == i) && not (d && not true) && (c.args.wave == w)))) [
      | true ↦ found_down ∙ put (c.inst.inside.0 == i) (c.args.wave == w) (kept c.args.self.now w true i)
      | false ↦ every ∙ put (c.inst.inside.0 == i) (c.args.wave == w) (kept c.args.self.now w false i)
    ])

pub returns-else-is_down : goal.returns-else-is_down
returns-else-is_down c = λ w down i.
    let is_up = c.if-is_down.false in
    let every = c.in_ok-insert.ensures.updates.0 (w, i) in
    rw (← c.inst.view_is, is_up) (elim down as (λ d. kept (record { ended = c.insert.new.self; found_down = c.args.self.now.found_down }) w d i ≡ (kept c.args.self.now w d i || ((c.inst.inside.0 == i) && not (d && not false) && (c.args.wave == w)))) [
      | true ↦ left (c.inst.inside.0 == i) (c.args.wave == w) (kept c.args.self.now w true i)
      | false ↦ every ∙ put (c.inst.inside.0 == i) (c.args.wave == w) (kept c.args.self.now w false i)
    ])

-- A row that its transaction held keeps its lock byte where the transaction has one ITL slot.
use Rattle.std.proofs.Common.{◌≡◌, ℕ, ◌-◌, ◌%◌, ◌^◌, ◌<◌, Bool, true, cond, List, length, get_or, set, map, sym, ap, subst, ◌∙◌, arith, IfSome}
use Rattle.std.proofs.Math.Nat.{mod-lt}
use Rattle.std.proofs.lemmas.Bool.{false_from_ne_true}
use Rattle.std.proofs.lemmas.List.{get_or-map, get_or-set_same, length-map, length-set}
use Rattle.redo_types.specs.declared.redo.Redo.{Redo}
use Rattle.block_image.specs.declared.row.Row.{Row}
use Rattle.block_image.specs.Block.{BlockContent, clear_row, row_at}
use Rattle.scn_clock.specs.declared.clock.Clock.{Clock}
use Rattle.txn_engine.specs.declared.made.Plan.{Plan}
use Rattle.txn_engine.specs.Back.{locks_of}
use Rattle.txn_engine.specs.Change.{change_record, holds, row_made}
use Rattle.txn_engine.specs.Parts.{data_change}
use Rattle.txn_laws.specs.TakenBack.{AreWhole, HasOneSlot, IsTakenBack, OnHand, block_after, locks_left, other_lock}
use Rattle.txn_laws.proofs.ChoiceLemmas.{held_names, names_one}
use Rattle.txn_laws.proofs.KnownLemmas.{IsKnown, known_plan}
use Rattle.txn_laws.proofs.LawLemmas.{locks_as_left, made_by, xid_of_made}

-- the lock byte of a row of which the lock bytes tell
lock_in : (rows before : List Row) (f : ℕ → ℕ) (row lock : ℕ) → map (λ (r : Row). r.lock) rows ≡ set (map f (map (λ (r : Row). r.lock) before)) row lock → row < length before → (row_at rows row).lock ≡ lock
lock_in rows before f row lock is within =
    let locks : List ℕ = map (λ (r : Row). r.lock) before in
    let a = length-map {A = Row} {B = ℕ} before (λ (r : Row). r.lock) in
    let b = length-map {A = ℕ} {B = ℕ} locks f in
    let c = length-set (map f locks) row lock in
    let d = length-map {A = Row} {B = ℕ} rows (λ (r : Row). r.lock) in
    let e = ap length is in
    let long : row < length rows = omega arith in
    sym (get_or-map (λ (r : Row). r.lock) rows row clear_row 0 long)
    ∙ ap (λ (ls : List ℕ). get_or ls row 0) is
    ∙ get_or-set_same (map f locks) row lock 0 (omega arith)

-- the transaction's slot in the block is that which the row's lock byte names
slot_named : (hand : OnHand) (plan : Plan) → AreWhole hand → IsKnown hand plan → HasOneSlot hand.image plan.xid → holds plan.xid hand.image (hand.ask.row % 8) ≡ true → (row_at hand.image.rows (hand.ask.row % 8)).lock ≡ plan.itl
slot_named hand plan whole known one held =
    let names = names_one hand.image (hand.ask.row % 8) plan.xid whole.block (mod-lt hand.ask.row (omega arith)) (held_names plan.xid hand.image (hand.ask.row % 8) held) in
    let kept = false_from_ne_true plan.fresh (λ fresh. let other = known.unheld fresh in cc) in
    names.lock ∙ one names.number plan.itl names.some names.few known.some_itl known.itl names.xid (known.kept kept)

kept_by : (hand : OnHand) (plan : Plan) (b : BlockContent) → AreWhole hand → IsKnown hand plan → HasOneSlot hand.image plan.xid
    → IfSome (made_by hand plan).row (λ made. locks_of b ≡ locks_left (made_by hand plan).xid hand.image made.to)
    → IfSome (made_by hand plan).row (λ made. holds (made_by hand plan).xid hand.image made.to.row ≡ true → (row_at b.rows made.to.row).lock ≡ (row_at hand.image.rows made.to.row).lock)
unfolding change_record data_change row_made
kept_by hand plan b whole known one left = λ held.
    let row = hand.ask.row % 8 in
    let eight = whole.block.eight_rows in
    let few : hand.ask.row % 8 < 8 = mod-lt hand.ask.row (omega arith) in
    lock_in b.rows hand.image.rows (other_lock (row_made hand.ask plan hand.segment.head.front.next)) row (cond (holds plan.xid hand.image row) plan.itl 0) left (omega arith)
    ∙ ap (λ (mine : Bool). cond mine plan.itl 0) held
    ∙ sym (slot_named hand plan whole known one held)

pub held_as_before : (hand : OnHand) (change back : Redo) (at : ℕ) (later : Clock) → IsTakenBack hand change at later back → HasOneSlot hand.image change.xid → change.xid.wrap < 2 ^ 32 - 1
    → IfSome change.row (λ made. holds change.xid hand.image made.to.row ≡ true → (row_at (block_after hand change back).rows made.to.row).lock ≡ (row_at hand.image.rows made.to.row).lock)
held_as_before hand change back at later is one wrap =
    let by = known_plan hand change is.whole is.made wrap in
    let plan = by.plan in
    let xid : change.xid ≡ plan.xid = ap (λ (r : Redo). r.xid) (sym by.made) ∙ xid_of_made hand plan in
    let b = block_after hand change back in
    subst (λ (c : Redo). IfSome c.row (λ made. holds c.xid hand.image made.to.row ≡ true → (row_at b.rows made.to.row).lock ≡ (row_at hand.image.rows made.to.row).lock)) by.made
    (kept_by hand plan b is.whole by.known (subst (HasOneSlot hand.image) xid one)
    (subst (λ (c : Redo). IfSome c.row (λ made. locks_of b ≡ locks_left c.xid hand.image made.to)) (sym by.made) (locks_as_left hand change back at later is)))

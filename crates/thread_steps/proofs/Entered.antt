-- Records whose Committed have entered.
use Rattle.std.proofs.Common.{◌≡◌, ℕ, ◌+◌, ◌<◌, ◌≤◌, max, Bool, List, [], ◌∷◌, length, refl, sym, ap, subst, ◌∙◌, arith}
use Rattle.std.specs.Prelude.{◌&&◌, if◌then◌else◌}
use Rattle.std.proofs.lemmas.Bool.{le-ltb}
use Rattle.std.proofs.lemmas.List.{get_or-set_same, length-set}
use Rattle.redo_types.specs.declared.redo.Redo.{Redo}
use Rattle.redo_record.specs.Redo.{length_of}
use Rattle.journal.specs.declared.entry.Entry.TheVariants.{Committed}
use Rattle.log_history.specs.LogHistory.{is_commit}
use Rattle.inst_state.specs.declared.shared.Core.{Core}
use Rattle.inst_state.specs.Shared.{counted_of}
use Rattle.thread_steps.specs.Read.{record_entered, records_entered}

-- Each record that stands from a place on ends at or before another place.
abbrev pub AreUpTo : ℕ → List Redo → ℕ → Type 0
AreUpTo at [] n = Unit {0}
AreUpTo at (redo ∷ records) n = (at + length_of redo.kind ≤ n) × AreUpTo (at + length_of redo.kind) records n

-- a thread is counted up to where the record ends
counted : (thread behind : ℕ) (redo : Redo) (core : Core) → thread < length core.recovery.counted → counted_of (record_entered thread behind redo core) thread ≡ max (counted_of core thread) behind
counted thread behind redo core within = get_or-set_same core.recovery.counted thread (max (counted_of core thread) behind) 0 within

still_within : (thread behind : ℕ) (redo : Redo) (core : Core) → thread < length core.recovery.counted → thread < length (record_entered thread behind redo core).recovery.counted
still_within thread behind redo core within =
    let same = length-set core.recovery.counted thread (max (counted_of core thread) behind) in
    subst (λ n. thread < n) (sym same) within

-- the count never falls
grows : (thread at : ℕ) (records : List Redo) (core : Core) → thread < length core.recovery.counted → counted_of core thread ≤ counted_of (records_entered thread at records core) thread
grows thread at [] core within = omega arith
grows thread at (redo ∷ records) core within =
    let behind = at + length_of redo.kind in
    let next = record_entered thread behind redo core in
    let now = counted thread behind redo core within in
    let later = grows thread behind records next (still_within thread behind redo core within) in
    omega (arith, now, later)

-- the count covers the records
covers : (thread at : ℕ) (records : List Redo) (core : Core) → thread < length core.recovery.counted → AreUpTo at records (counted_of (records_entered thread at records core) thread)
covers thread at [] core within = tt
covers thread at (redo ∷ records) core within =
    let behind = at + length_of redo.kind in
    let next = record_entered thread behind redo core in
    let room = still_within thread behind redo core within in
    let now = counted thread behind redo core within in
    let later = grows thread behind records next room in
    (omega (arith, now, later), covers thread behind records next room)

-- what is counted already enters nothing
enters_none : (thread at : ℕ) (records : List Redo) (core : Core) → thread < length core.recovery.counted → AreUpTo at records (counted_of core thread) → (records_entered thread at records core).journal ≡ core.journal
enters_none thread at [] core within upto = refl
enters_none thread at (redo ∷ records) core within upto =
    let behind = at + length_of redo.kind in
    let next = record_entered thread behind redo core in
    let old = le-ltb (counted_of core thread) behind upto.0 in
    let same : counted_of core thread ≡ counted_of next thread = omega (arith, counted thread behind redo core within, upto.0) in
    enters_none thread behind records next (still_within thread behind redo core within) (subst (λ n. AreUpTo behind records n) same upto.1)
    ∙ ap (λ (b : Bool). if b && is_commit redo.kind then Committed redo.xid redo.scn thread ∷ core.journal else core.journal) old

still : (thread at : ℕ) (records : List Redo) (core : Core) → thread < length core.recovery.counted → thread < length (records_entered thread at records core).recovery.counted
still thread at [] core within = within
still thread at (redo ∷ records) core within =
    let behind = at + length_of redo.kind in
    still thread behind records (record_entered thread behind redo core) (still_within thread behind redo core within)

-- what was read once enters nothing as it is read again
pub enters_once : (thread position : ℕ) (records : List Redo) (core : Core) → thread < length core.recovery.counted
    → (records_entered thread position records (records_entered thread position records core)).journal ≡ (records_entered thread position records core).journal
enters_once thread position records core within =
    enters_none thread position records (records_entered thread position records core) (still thread position records core within) (covers thread position records core within)

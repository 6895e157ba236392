-- What two appends do, one after the other.
use Rattle.std.proofs.Common.{◌≡◌, ◌<◌, ◌≤◌, ◌+◌, ℕ, List, ◌++◌, length, take, Option, None, Some, Result, Ok, Err, ap, sym, subst, ◌∙◌, inl, inr, append_assoc, arith, length-append, slice_index_or, set, set-set, get_or-set_same}
use Rattle.std.proofs.Math.Seq.{take-append-add}
use Rattle.std.proofs.lemmas.List.{take-append-le}
use Rattle.rac_io.specs.Counts.{Rose}
use Rattle.rac_disk.specs.Content.{Content, LogState, no_log, log_at, room_at, with_log}
use Rattle.rac_disk.specs.State.{State, PutBehind, Leaves, MayLeave, WhereTold, LacksRoom, Makes}

-- an append behind an append is one append of both
pub with_log-with_log : (it : Content) (thread : ℕ) (first second : List ℕ) → thread < length it.logs → with_log (with_log it thread first) thread (log_at (with_log it thread first) thread ++ second) ≡ with_log it thread (first ++ second)
with_log-with_log it thread first second inside =
    let put : LogState = record { bytes = first; room = room_at it thread } in
    ap (λ (log : LogState). with_log' (set it.logs thread put) log) (get_or-set_same it.logs thread put no_log inside)
    ∙ ap (λ (logs : List LogState). record it { logs = logs }) (set-set it.logs thread put (record { bytes = first ++ second; room = room_at it thread }))
  where
    with_log' : List LogState → LogState → Content
    with_log' logs log = record it { logs = set logs thread (record { bytes = log.bytes ++ second; room = log.room }) }

-- an append behind a whole one is an append of both pieces
pub leaves_more : {T E : Type 0} (result : Result T E) (old mid new : Content) (thread : ℕ) (first second : List ℕ) → thread < length old.logs → mid ≡ with_log old thread (log_at old thread ++ first) → Leaves (PutBehind thread second) result mid new → Leaves (PutBehind thread (first ++ second)) result old new
leaves_more (Ok _) old mid new thread first second inside whole p =
    p ∙ ap (λ (m : Content). with_log m thread (log_at m thread ++ second)) whole
    ∙ with_log-with_log old thread (log_at old thread ++ first) second inside
    ∙ ap (with_log old thread) (append_assoc (log_at old thread) first second)
leaves_more (Err _) old mid new thread first second inside whole p = (
  length first + p.0,
  omega (arith, p.1, length-append first second),
  p.2 ∙ ap (λ (m : Content). with_log m thread (log_at m thread ++ take p.0 second)) whole
      ∙ with_log-with_log old thread (log_at old thread ++ first) (take p.0 second) inside
      ∙ ap (with_log old thread) (append_assoc (log_at old thread) first (take p.0 second))
      ∙ ap (λ (l : List ℕ). with_log old thread (log_at old thread ++ l)) (sym (take-append-add first second p.0)),
)

-- a part of the first piece is a part of both
pub leaves_part : (old new : Content) (thread : ℕ) (first second : List ℕ) → MayLeave (PutBehind thread first) old new → MayLeave (PutBehind thread (first ++ second)) old new
leaves_part old new thread first second p = (
  p.0,
  omega (arith, p.1, length-append first second),
  p.2 ∙ ap (λ (l : List ℕ). with_log old thread (log_at old thread ++ l)) (sym (take-append-le p.0 first second p.1)),
)

-- the same where the disk tells what it holds
pub told_more : {T E : Type 0} (done : T) (result : Result T E) (old mid new : Option Content) (thread : ℕ) (first second : List ℕ) → thread < 8 → WhereTold old mid (let whole : Result T E = Ok done in Leaves (PutBehind thread first) whole) → WhereTold mid new (Leaves (PutBehind thread second) result) → WhereTold old new (Leaves (PutBehind thread (first ++ second)) result)
told_more done result None mid new thread first second inside p q = tt
told_more done result (Some old) None new thread first second inside p q = absurd p
told_more done result (Some old) (Some mid) None thread first second inside p q = absurd q
told_more done result (Some old) (Some mid) (Some new) thread first second inside p q =
    (p.0, q.1, leaves_more result old mid new thread first second (omega (arith, p.0.logs)) p.2 q.2)

-- the same of a part, where the disk tells what it holds
pub told_part : (old new : Option Content) (thread : ℕ) (first second : List ℕ) → WhereTold old new (MayLeave (PutBehind thread first)) → WhereTold old new (MayLeave (PutBehind thread (first ++ second)))
told_part None new thread first second p = tt
told_part (Some old) None thread first second p = absurd p
told_part (Some old) (Some new) thread first second p = (p.0, p.1, leaves_part old new thread first second p.2)

-- no room for some bytes is none for more
pub lacks_more : (told : Option Content) (thread : ℕ) (first second : List ℕ) → LacksRoom told thread (length first) → LacksRoom told thread (length (first ++ second))
lacks_more None thread first second p = tt
lacks_more (Some it) thread first second p = omega (arith, p, length-append first second)

-- no room for some bytes behind others is none for both
pub lacks_both : (old mid : Option Content) (thread : ℕ) (first second : List ℕ) → thread < 8 → WhereTold old mid (λ a b. b ≡ with_log a thread (log_at a thread ++ first)) → LacksRoom mid thread (length second) → LacksRoom old thread (length (first ++ second))
lacks_both None mid thread first second inside told p = tt
lacks_both (Some old) None thread first second inside told p = absurd told
lacks_both (Some old) (Some mid) thread first second inside told p =
    let put : LogState = record { bytes = log_at old thread ++ first; room = room_at old thread } in
    let same : slice_index_or mid.logs thread no_log ≡ put = ap (λ (it : Content). slice_index_or it.logs thread no_log) told.2 ∙ get_or-set_same old.logs thread put no_log (omega (arith, told.0.logs)) in
    omega (arith, p, length-append first second, length-append (log_at old thread) first, ap (λ (log : LogState). log.room) same, ap (λ (log : LogState). length log.bytes) same)

-- two appends are one of both pieces
pub two_appends : {T E : Type 0} (done : T) (result : Result T E) (old mid new : State) (thread : ℕ) (first second : List ℕ) → thread < 8 → (let whole : Result T E = Ok done in Makes (PutBehind thread first) whole old mid) → Makes (PutBehind thread second) result mid new → Makes (PutBehind thread (first ++ second)) result old new
two_appends {T = T} {E = E} done (Ok value) old mid new thread first second inside p q = record {
  disk = told_more {T = T} {E = E} done (Ok value) old.told mid.told new.told thread first second inside p.disk q.disk;
  counts = record { faults = q.counts.faults ∙ p.counts.faults; full = q.counts.full ∙ p.counts.full };
}
two_appends {T = T} {E = E} done (Err error) old mid new thread first second inside p q = record {
  disk = told_more {T = T} {E = E} done (Err error) old.told mid.told new.told thread first second inside p.disk q.disk;
  counts = elim q.counts [
    | inl fault ↦ inl (record { later = subst (λ n. n ≤ new.faults) p.counts.faults fault.later; rose = subst (λ n. Rose n new.faults) p.counts.faults fault.rose; full = fault.full ∙ p.counts.full })
    | inr (met, lacks) ↦ inr (record { later = subst (λ n. n ≤ new.full) p.counts.full met.later; rose = subst (λ n. Rose n new.full) p.counts.full met.rose; faults = met.faults ∙ p.counts.faults }, lacks_both old.told mid.told thread first second inside p.disk lacks)
  ];
}

-- a failed append of the first piece is one of both
pub first_fails : {T E : Type 0} (error : E) (old new : State) (thread : ℕ) (first second : List ℕ) → (let failed : Result T E = Err error in Makes (PutBehind thread first) failed old new) → (let failed : Result T E = Err error in Makes (PutBehind thread (first ++ second)) failed old new)
first_fails error old new thread first second p = record {
  disk = told_part old.told new.told thread first second p.disk;
  counts = elim p.counts [
    | inl fault ↦ inl fault
    | inr (met, lacks) ↦ inr (met, lacks_more old.told thread first second lacks)
  ];
}

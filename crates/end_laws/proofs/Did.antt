-- What a step does to the transactions of an instance.
use Rattle.std.proofs.Common.{◌≡◌, ℕ, ◌≤◌, Bool, true, false, List, [], ◌∷◌, ◌++◌, Option, Some, None, if◌then◌else◌, refl, ◌∙◌, ◌⊎◌}
use Rattle.std.proofs.Math.Nat.{le_refl, le_trans}
use Rattle.std.specs.Prelude.{slice_set}
use Rattle.std.specs.List.{fold}
use Rattle.redo_types.specs.declared.redo.Redo.{Redo}
use Rattle.journal.specs.declared.entry.Entry.{Entry}
use Rattle.journal.specs.declared.entry.Entry.TheVariants.{Acked, Changed, Committed, Crashed, Ended, Locked, Marked, Rolled, Undone}
use Rattle.inst_state.specs.declared.inst.Inst.{Inst}
use Rattle.inst_state.specs.declared.inst.WaitingEnd.{WaitingEnd}
use Rattle.inst_state.specs.declared.shared.Core.{Core}
use Rattle.inst_state.specs.Shared.{is_live, is_running}
use Rattle.inst_state.specs.State.{asks_at, stmt_at}
use Rattle.inst_loss.specs.Lost.{lost}
use Rattle.inst_loss.specs.declared.ends.Loss.{Loss}
use Rattle.disk_steps.specs.Force.{all_forced, commit_told}
use Rattle.stmt_steps.specs.Back.{back_decided, record_of, stepped_by}
use Rattle.stmt_steps.specs.Change.{change_decided, record_tells, row_changed, row_of}
use Rattle.stmt_steps.specs.Mark.{commits, end_decided, end_kind, end_made}
use Rattle.stmt_steps.specs.Mark.{end_tells as mark_entry}
use Rattle.txn_engine.specs.declared.ask.Decision.TheVariants.{Do}
use Rattle.thread_steps.specs.declared.found.FoundLog.{FoundLog}
use Rattle.run_laws.specs.Tells.{log_tells, lost_tells}
use Rattle.end_laws.proofs.Stakes.{Awaited, Stake, ledger, stake_at, stakes, with_stakes}

-- An entry names no transaction, and tells of no loss.
abbrev pub is_still : Entry → Bool
is_still (Changed stmt x row found new) = false
is_still (Locked stmt x row) = false
is_still (Marked stmt x commit_scn) = false
is_still (Committed x commit_scn inst) = false
is_still (Acked stmt x commit_scn) = false
is_still (Undone x left) = false
is_still (Rolled x) = false
is_still (Crashed line inst) = false
is_still (Ended inst bad) = false
is_still _ = true

-- Entries name no transaction, and tell of no loss.
abbrev pub Stills : List Entry → Type 0
Stills [] = Unit {0}
Stills (e ∷ es) = (is_still e ≡ true) × Stills es

-- An entry tells of a rollback.
abbrev pub is_rollback : Entry → Bool
is_rollback (Undone x left) = true
is_rollback (Rolled x) = true
is_rollback _ = false

-- An instance has the same transactions and ends as before, and its clock hasn't fallen.
pub record Keeps (n m : Inst) : Type 0 where
  pub same : ledger m ≡ ledger n
  pub clock : n.clock.scn ≤ m.clock.scn

pub keeps : (n : Inst) → Keeps n n
keeps n = record { same = refl; clock = le_refl n.clock.scn }

pub keeps_then : (a b c : Inst) → Keeps a b → Keeps b c → Keeps a c
keeps_then a b c first later = record { same = later.same ∙ first.same; clock = le_trans first.clock later.clock }

-- An instance has the same ends as before, and the same transactions but that a session has this stake; its clock hasn't fallen.
pub record Sets (n m : Inst) (z : ℕ) (s : Stake) : Type 0 where
  pub same : ledger m ≡ with_stakes n (slice_set (stakes n) z s)
  pub clock : n.clock.scn ≤ m.clock.scn

-- a session with its transaction and this place of its next line, which waits for no end
abbrev pub waits_not : ℕ → Stake → Stake
waits_not next s = record { next = next; own = s.own; awaits = None }

-- An instance is on its way through a recovery: the cluster doesn't run, or the instance isn't live.
abbrev pub IsUnrest : Core → ℕ → Type 0
IsUnrest core me = (is_running core.members.phase ≡ false) ⊎ (is_live core me ≡ false)

-- An instance has the same sessions and ends as before, and a segment of its own, if it had one.
pub record Restores (n m : Inst) : Type 0 where
  pub plan : m.plan ≡ n.plan
  pub ends : m.ends ≡ n.ends
  pub stakes : stakes m ≡ stakes n
  pub seg : n.segment.head.front.seg ≡ n.plan.me → m.segment.head.front.seg ≡ n.plan.me

pub restored : (n : Inst) → Restores n n
restored n = record { plan = refl; ends = refl; stakes = refl; seg = λ is. is }

-- No session waits for an end, and it is no commit.
pub record IsBackground (end : WaitingEnd) : Type 0 where
  pub commit : end.commit ≡ false
  pub session : end.session ≡ None

-- An instance has the same sessions and the same segment as before, and the same ends but for some that nobody waits for.
pub record Leads (n m : Inst) : Type 0 where
  pub leads : n.leading.leads ≡ true
  pub plan : m.plan ≡ n.plan
  pub ends : (m.ends ≡ n.ends) ⊎ ((end : WaitingEnd) × IsBackground end × (m.ends ≡ n.ends ++ end ∷ []))
  pub stakes : stakes m ≡ stakes n
  pub head : m.segment.head ≡ n.segment.head

-- What a step of an instance does to its transactions, and what it tells: it leaves them; starts or answers a session's line
-- that waits for no end, or only for one that is on the disk; answers an end; changes a row; takes a change back; makes the
-- end record of a session's transaction; rolls back a transaction of a down segment; forces its redo; ends; reads a dead
-- thread; or comes back to its segment.
pub data Did (n : Inst) (core : Core) (reading : Bool) (m : Inst) (es : List Entry) : Type 0 where
  rests : Keeps n m → Stills es → Did n core reading m es
  goes : (z next : ℕ) → (stake_at n z).awaits ≡ None → Sets n m z (waits_not next (stake_at n z)) → Stills es → Did n core reading m es
  acks : (z next : ℕ) (a : Awaited) (e : Entry) → (stake_at n z).awaits ≡ Some a → a.on_disk ≡ true
      → Sets n m z (waits_not next (stake_at n z)) → is_still e ≡ true
      → es ≡ (if a.commit then Acked (stmt_at n z) a.xid a.scn else e) ∷ [] → Did n core reading m es
  changes : (z : ℕ) (redo : Redo) → change_decided n z ≡ Some (Do redo) → m ≡ row_changed n z redo
      → es ≡ record_tells (stmt_at n z) (row_of (asks_at n z)) redo redo.kind ∷ [] → Did n core reading m es
  steps : (z left : ℕ) (redo : Redo) → record_of (back_decided n z) ≡ Some redo → m ≡ stepped_by n z (Some redo)
      → es ≡ Undone redo.xid left ∷ [] → Did n core reading m es
  marks : (z : ℕ) (redo : Redo) → end_decided n z ≡ Some redo → m ≡ end_made n z redo (commits (end_kind n z))
      → es ≡ mark_entry (stmt_at n z) redo (commits (end_kind n z)) ∷ [] → Did n core reading m es
  leads : (e : Entry) → Leads n m → is_rollback e ≡ true → es ≡ e ∷ [] → Did n core reading m es
  forces : m ≡ all_forced n → es ≡ fold (commit_told n.plan.me) [] n.ends → Did n core reading m es
  loses : (k : Inst) (it : Loss) (kept : Option ℕ) (log : List Entry) → m ≡ lost k → k.plan ≡ n.plan → k.ends ≡ n.ends
      → (n.segment.head.front.seg ≡ n.plan.me → k.segment.head.front.seg ≡ n.plan.me)
      → (log ≡ []) ⊎ ((reading ≡ true) × (thread : ℕ) × (found : FoundLog) × (log ≡ log_tells core thread found))
      → es ≡ lost_tells k it kept ++ log → Did n core reading m es
  reads : (thread : ℕ) (log : FoundLog) → reading ≡ true → IsUnrest core n.plan.me → Keeps n m → es ≡ log_tells core thread log → Did n core reading m es
  restores : IsUnrest core n.plan.me → Restores n m → Stills es → Did n core reading m es

-- What the sessions of an instance have of their transactions, and which ends they wait for.
use Rattle.std.proofs.Common.{◌≡◌, ℕ, ◌<◌, Bool, List, length, map, get_or, Option, Some, None, sym, ap, ◌∙◌, arith}
use Rattle.std.specs.Prelude.{slice_set}
use Rattle.std.proofs.Math.ListN.{get_or-map}
use Rattle.std.proofs.lemmas.List.{get_or-set_other, get_or-set_same, length-map}
use Rattle.base_types.specs.declared.names.Scn.{Scn}
use Rattle.base_types.specs.declared.names.Xid.{Xid}
use Rattle.undo_image.specs.Header.{HeaderContent}
use Rattle.inst_state.specs.declared.inst.Inst.{Inst}
use Rattle.inst_state.specs.declared.inst.WaitingEnd.{WaitingEnd}
use Rattle.inst_state.specs.declared.plan.Plan.{Plan}
use Rattle.inst_state.specs.declared.session.Doing.{Doing}
use Rattle.inst_state.specs.declared.session.Doing.TheVariants.{Ends}
use Rattle.inst_state.specs.declared.session.Ending.{Ending}
use Rattle.inst_state.specs.declared.session.Session.{Session}
use Rattle.inst_state.specs.Sessions.{new_session}
use Rattle.inst_state.specs.State.{session_at, stmt_at}
use Rattle.run_laws.proofs.Looks.{look_is, other_look, same_look, set_look}
use Rattle.line_laws.proofs.Courses.{lines_in}
use Rattle.line_laws.proofs.Losses.{next_stmt}
use Rattle.line_laws.proofs.ScriptLines.{stmt_no}

-- an end for which a session waits
pub record Awaited : Type 0 where
  pub xid : Xid
  pub scn : Scn
  pub commit : Bool
  pub on_disk : Bool

abbrev pub awaited_of : Ending → Awaited
awaited_of ending = record { xid = ending.xid; scn = ending.scn; commit = ending.commit; on_disk = ending.on_disk }

-- the end for which a session waits, if it does
abbrev pub awaited_in : Doing → Option Awaited
awaited_in (Ends ending) = Some (awaited_of ending)
awaited_in _ = None

-- what a session has of its transaction: the place of its next line, its open transaction, and the end for which it waits
pub record Stake : Type 0 where
  pub next : ℕ
  pub own : Option Xid
  pub awaits : Option Awaited

abbrev pub stake_of : Session → Stake
stake_of s = record { next = s.next; own = s.own; awaits = awaited_in s.doing }

abbrev pub stake_at : Inst → ℕ → Stake
stake_at n z = stake_of (session_at n z)

abbrev pub stakes : Inst → List Stake
stakes n = map stake_of n.sessions

pub stake_is : (n : Inst) (z : ℕ) → get_or (stakes n) z (stake_of new_session) ≡ stake_at n z
stake_is n z = look_is stake_of n z

pub same_stake : (n m : Inst) (z : ℕ) → stakes m ≡ stakes n → stake_at m z ≡ stake_at n z
same_stake n m z e = same_look stake_of n m z e

pub set_stake : (n m : Inst) (z : ℕ) (s : Stake) → stakes m ≡ slice_set (stakes n) z s → z < length n.sessions → stake_at m z ≡ s
set_stake n m z s e within = set_look stake_of n m z s e within

pub other_stake : (n m : Inst) (z : ℕ) (s : Stake) (y : ℕ) → stakes m ≡ slice_set (stakes n) z s → (y ≡ z → ⊥) → stake_at m y ≡ stake_at n y
other_stake n m z s y e apart = other_look stake_of n m z s y e apart

-- what an instance has of its transactions, where its sessions have these stakes
pub record Ledger : Type 0 where
  pub plan : Plan
  pub ends : List WaitingEnd
  pub stakes : List Stake
  pub head : HeaderContent
  pub leads : Bool

abbrev pub with_stakes : Inst → List Stake → Ledger
with_stakes n l = record { plan = n.plan; ends = n.ends; stakes = l; head = n.segment.head; leads = n.leading.leads }

abbrev pub ledger : Inst → Ledger
ledger n = with_stakes n (stakes n)

-- the number of the line at a place of a session's lines, by an instance's plan
abbrev pub stmt_in : Plan → ℕ → ℕ → ℕ
stmt_in plan z next = stmt_no (lines_in plan z) next

pub stmt_is : (n : Inst) (z : ℕ) → stmt_at n z ≡ stmt_in n.plan z (stake_at n z).next
stmt_is n z = next_stmt n z

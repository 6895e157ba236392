-- What a step tells is what it adds to the journal.
use Rattle.std.proofs.Common.{◌≡◌, ℕ, List, ◌++◌, ◌∙◌, refl, ap}
use Rattle.journal.specs.declared.entry.Entry.{Entry}
use Rattle.inst_state.specs.declared.inst.Inst.{Inst}
use Rattle.inst_state.specs.declared.shared.Core.{Core}
use Rattle.inst_loss.specs.declared.ends.Loss.TheVariants as loss
use Rattle.std.specs.Prelude.{Some, true}
use Rattle.inst_node.specs.declared.actions.Action.{Action}
use Rattle.inst_node.specs.declared.actions.Action.TheVariants.{Block, Dead, Inst as OfInst, Line, Plain, Session}
use Rattle.inst_node.specs.declared.actions.BlockStep.{BlockStep}
use Rattle.inst_node.specs.declared.actions.BlockStep.TheVariants as block
use Rattle.inst_node.specs.declared.actions.DeadStep.{DeadStep}
use Rattle.inst_node.specs.declared.actions.DeadStep.TheVariants as dead
use Rattle.inst_node.specs.declared.actions.InstStep.{InstStep}
use Rattle.inst_node.specs.declared.actions.InstStep.TheVariants as inst
use Rattle.inst_node.specs.declared.actions.LineStep.{LineStep}
use Rattle.inst_node.specs.declared.actions.LineStep.TheVariants as line
use Rattle.inst_node.specs.declared.actions.PlainStep.{PlainStep}
use Rattle.inst_node.specs.declared.actions.PlainStep.TheVariants as plain
use Rattle.inst_node.specs.declared.actions.SessionStep.{SessionStep}
use Rattle.inst_node.specs.declared.actions.SessionStep.TheVariants as session
use Rattle.inst_node.specs.declared.hows.How.{How}
use Rattle.inst_node.specs.Moves.{asked_undo_of, block_core, closing_of, core_after, core_of, counted, crashed_of, dead_core, forced_of, found_of, inst_core, installed_of, line_core, plain_core, prepared, session_core, written_of}
use Rattle.run_laws.specs.Tells.{block_tells, dead_tells, inst_tells, line_tells, plain_tells, session_tells, tells, tells_of}
use Rattle.run_laws.proofs.Losses.{lost_journal}
use Rattle.run_laws.proofs.Sent.{ask_quiet, broadcast_quiet, bucket_sent_quiet, copy_quiet, evict_quiet, heard_quiet, invalidate_quiet, master_quiet, past_quiet, ship_quiet, undo_quiet, write_plea_quiet}
use Rattle.run_laws.proofs.Told.{ack_journal, ask_journal, bucket_kept_journal, bucket_taken_journal, checkpoint_journal, close_journal, crash_journal, enter_journal, force_journal, install_journal, join_by_journal, read_journal, recover_by_journal, reopen_journal, resume_journal, skip_journal, thaw_by_journal, write_journal}

session_journal : (n : Inst) (core : Core) (kind : SessionStep) (z : ℕ) (it : How)
    → (session_core n core kind z it).journal ≡ session_tells n core kind z it ++ core.journal
unfolding session_core session_tells
session_journal n core session.StartStmt z it = refl
session_journal n core session.Visit z it = refl
session_journal n core session.Change z it = refl
session_journal n core session.Mark z it = refl
session_journal n core session.StepBack z it = refl
session_journal n core session.EndStmt z it = refl
session_journal n core session.AskUndo z it = ask_journal n core z (asked_undo_of it)
session_journal n core session.Broadcast z it = broadcast_quiet n core z
session_journal n core session.Ack z it = ack_journal n core z

dead_journal : (n : Inst) (core : Core) (kind : DeadStep) → (dead_core n core kind).journal ≡ dead_tells n kind ++ core.journal
unfolding dead_core dead_tells
dead_journal n core dead.Mark = refl
dead_journal n core dead.StepBack = refl
dead_journal n core dead.AskUndo = lost_journal n core (loss.Ended true) (Some 0)

block_journal : (n : Inst) (core : Core) (kind : BlockStep) (number : ℕ) (it : How)
    → (block_core n core kind number it).journal ≡ block_tells n kind it ++ core.journal
unfolding block_core block_tells
block_journal n core block.Ask number it = ask_quiet n core number
block_journal n core block.Evict number it = evict_quiet n core number
block_journal n core block.WriteBlock number it = write_journal n core number (written_of it)
block_journal n core block.AskWrite number it = write_plea_quiet n core number
block_journal n core block.GivePast number it = refl
block_journal n core block.RecoverBlock number it = recover_by_journal n core number it

inst_journal : (n : Inst) (core : Core) (kind : InstStep) (from : ℕ) (it : How)
    → (inst_core n core kind from it).journal ≡ inst_tells n core kind from it ++ core.journal
unfolding inst_core inst_tells
inst_journal n core inst.MasterTake from it = master_quiet n core from
inst_journal n core inst.Invalidate from it = invalidate_quiet n core from
inst_journal n core inst.Ship from it = ship_quiet n core from
inst_journal n core inst.ServeCopy from it = copy_quiet n core from
inst_journal n core inst.DropPast from it = past_quiet n core from
inst_journal n core inst.Install from it = install_journal n core from (installed_of it)
inst_journal n core inst.TakeCopy from it = refl
inst_journal n core inst.TakeUndo from it = refl
inst_journal n core inst.ServeUndo from it = undo_quiet n core from
inst_journal n core inst.Heard from it = heard_quiet n core from
inst_journal n core inst.TakeBucket from it = bucket_taken_journal n core from
inst_journal n core inst.ReadThread from it = read_journal n core from (found_of it)
inst_journal n core inst.CloseThread from it = close_journal n core from (closing_of it)

line_journal : (n : Inst) (core : Core) (kind : LineStep) (number : ℕ) (it : How)
    → (line_core n core kind number it).journal ≡ line_tells n core kind number it ++ core.journal
unfolding line_core line_tells
line_journal n core line.Crash number it = crash_journal n core number (crashed_of it)
line_journal n core line.SendBucket number it = bucket_sent_quiet n core number
line_journal n core line.KeepBucket number it = bucket_kept_journal core number
line_journal n core line.Checkpoint number it = checkpoint_journal n core number (written_of it)
line_journal n core line.Skip number it = skip_journal core number
line_journal n core line.Join number it = join_by_journal n core number it

plain_journal : (n : Inst) (core : Core) (kind : PlainStep) (it : How) → (plain_core n core kind it).journal ≡ plain_tells n core kind it ++ core.journal
unfolding plain_core plain_tells
plain_journal n core plain.Enter it = enter_journal n core
plain_journal n core plain.Force it = force_journal n core (forced_of it)
plain_journal n core plain.Report it = refl
plain_journal n core plain.Thaw it = thaw_by_journal n core it
plain_journal n core plain.Reopen it = reopen_journal core
plain_journal n core plain.Resume it = resume_journal n core
plain_journal n core plain.Leave it = refl
plain_journal n core plain.Wave it = refl

journal_of : (n : Inst) (core : Core) (action : Action) (it : How) → (core_of n core action it).journal ≡ tells_of n core action it ++ core.journal
journal_of n core (Session kind z) it = session_journal n core kind z it
journal_of n core (Dead kind job) it = dead_journal n core kind
journal_of n core (Block kind number) it = block_journal n core kind number it
journal_of n core (OfInst kind from) it = inst_journal n core kind from it
journal_of n core (Line kind number) it = line_journal n core kind number it
journal_of n core (Plain kind) it = plain_journal n core kind it

counted_journal : (core : Core) (me : ℕ) (action : Action) → (counted core me action).journal ≡ core.journal
unfolding counted
counted_journal core me action = refl

-- what a step tells is what it adds to the journal
pub journal_told : (n : Inst) (core : Core) (action : Action) (it : How) → (core_after n core action it).journal ≡ tells n core action it ++ core.journal
journal_told n core action it =
    journal_of (prepared n core action) (counted core n.plan.me action) action it
    ∙ ap (λ (js : List Entry). tells n core action it ++ js) (counted_journal core n.plan.me action)

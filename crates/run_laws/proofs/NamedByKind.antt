-- In each step the sessions that are named are of the script, where the instance has the script's plan.
use Rattle.std.proofs.Common.{◌≡◌, ◌<◌, ℕ, Bool, true, false, List, [], refl, ap, sym, subst, length, Option, None, Some}
use Rattle.std.specs.Prelude.{◌-◌, ◌&&◌, not, slice_get, is_some}
use Rattle.std.specs.List.{AllByRecursion}
use Rattle.std.specs.Option.{option_and_then, option_map}
use Rattle.std.proofs.lemmas.Option.{slice_get_within}
use Rattle.script_text.specs.ScriptParts.{ScriptParts}
use Rattle.wire_net.specs.declared.message.Lane.TheVariants.{Main}
use Rattle.inst_loss.specs.declared.ends.Loss.TheVariants as loss
use Rattle.inst_state.specs.declared.inst.Inst.{Inst}
use Rattle.inst_state.specs.declared.line.Line.{Line as ScriptLine}
use Rattle.inst_state.specs.declared.plan.Opening.{Opening}
use Rattle.inst_state.specs.declared.plan.Plan.{Plan}
use Rattle.inst_state.specs.declared.shared.Core.{Core}
use Rattle.inst_state.specs.Sending.{first_from, without_first}
use Rattle.inst_state.specs.Sessions.{is_idle}
use Rattle.inst_state.specs.Shared.{open_control}
use Rattle.inst_state.specs.State.{asks_at, behind_of, end_waits, in_wave, is_before_first, line_at, line_now, may_begin, session_at, stmt_at, works}
use Rattle.stmt_steps.specs.Back.{back_decided, dead_back_decided, record_of}
use Rattle.stmt_steps.specs.Change.{change_tells, decided_of, decision_tells}
use Rattle.stmt_steps.specs.End.{answer_at}
use Rattle.stmt_steps.specs.Mark.{dead_end_decided, end_decided}
use Rattle.stmt_steps.specs.Start.{may_start}
use Rattle.stmt_steps.specs.Visit.{range_of, read_made}
use Rattle.image_steps.specs.Hear.{first_message, hears}
use Rattle.disk_steps.specs.AskUndo.{lacking}
use Rattle.wave_steps.specs.News.{durable_ending}
use Rattle.inst_node.specs.declared.actions.Action.{Action}
use Rattle.inst_node.specs.declared.actions.Action.TheVariants.{Block, Dead, Inst as OfInst, Line, Plain, Session}
use Rattle.inst_node.specs.declared.actions.BlockStep.{BlockStep}
use Rattle.inst_node.specs.declared.actions.BlockStep.TheVariants as block
use Rattle.inst_node.specs.declared.actions.DeadStep.{DeadStep}
use Rattle.inst_node.specs.declared.actions.DeadStep.TheVariants as dead
use Rattle.inst_node.specs.declared.actions.InstStep.{InstStep}
use Rattle.inst_node.specs.declared.actions.InstStep.TheVariants as inst
use Rattle.inst_node.specs.declared.actions.LineStep.{LineStep}
use Rattle.inst_node.specs.declared.actions.LineStep.TheVariants as line
use Rattle.inst_node.specs.declared.actions.PlainStep.{PlainStep}
use Rattle.inst_node.specs.declared.actions.PlainStep.TheVariants as plain
use Rattle.inst_node.specs.declared.actions.SessionStep.{SessionStep}
use Rattle.inst_node.specs.declared.actions.SessionStep.TheVariants as session
use Rattle.inst_node.specs.declared.hows.How.{How}
use Rattle.inst_node.specs.Allowed.{is_allowed}
use Rattle.inst_node.specs.Moves.{asked_undo_of, closing_of, counted, crashed_of, forced_of, found_of, installed_of, prepared, written_of}
use Rattle.inst_node.specs.Needs.{action_needs, needs, session_needs}
use Rattle.run_laws.specs.Tells.{block_tells, dead_tells, inst_tells, line_tells, plain_tells, session_tells, tells}
use Rattle.run_laws.proofs.Named.{Named, named_ack, named_answer, named_ask, named_checkpoint, named_close, named_crash, named_dead_mark, named_decision, named_force, named_install, named_join, named_lost, named_mark, named_move, named_openings, named_packet, named_read, named_recover, named_reopen, named_rows, named_skip, named_thaw, named_undone, named_up, named_write}
use Rattle.run_laws.proofs.Plans.{prepared_plan}

-- An instance has a list of lines for each session of the script, and no others, and opens sessions of the script.
pub record IsOf (script : ScriptParts) (plan : Plan) : Type 0 where
  pub lines : length plan.lines ≡ length script.names
  pub openings : AllByRecursion (λ (opening : Opening). opening.session < length script.names) plan.openings

both_second : (a b : Bool) → (a && b) ≡ true → b ≡ true
both_second true b e = e
both_second false b e = absurd (cc)

both_first : (a b : Bool) → (a && b) ≡ true → a ≡ true
both_first true b e = refl
both_first false b e = absurd (cc)

-- a session that has a line is one of the script

there_by : (n : Inst) (z : ℕ) (lines : Option (List ScriptLine)) → slice_get n.plan.lines z ≡ lines
    → is_some (option_and_then (λ (lines : List ScriptLine). slice_get lines (session_at n z).next) lines) ≡ true → z < length n.plan.lines
there_by n z None is some = absurd (cc)
there_by n z (Some lines) is some = slice_get_within n.plan.lines z lines is

there : (n : Inst) (z : ℕ) → is_some (line_at n z) ≡ true → z < length n.plan.lines
there n z some = there_by n z (slice_get n.plan.lines z) refl some

now_by : (n : Inst) (wave : ℕ) (it : Option ScriptLine) → is_some (in_wave wave it) ≡ true → is_some it ≡ true
now_by n wave None some = some
now_by n wave (Some it) some = refl

-- what a start needs says that the session has a line
start_there : (n : Inst) (z : ℕ) → may_start n z ≡ true → z < length n.plan.lines
start_there n z may =
    let all = both_first (works n && (session_at n z).connected && is_idle (session_at n z).doing && may_begin n z) (not (end_waits n)) may in
    let begins = both_second (works n && (session_at n z).connected && is_idle (session_at n z).doing) (may_begin n z) all in
    let now = both_first (is_some (line_now n z)) (not (is_before_first n (behind_of (line_now n z)))) begins in
    there n z (now_by n n.wave.entered (line_at n z) now)

module _ (script : ScriptParts) where
  named_change_by : (n : Inst) (z : ℕ) → length n.plan.lines ≡ length script.names → (it : Option ScriptLine) → line_at n z ≡ it
      → Named script (decision_tells n z (decided_of n z (option_map (λ (line : ScriptLine). line.asks) it)))
  named_change_by n z count None is = tt
  named_change_by n z count (Some it) is =
      named_decision script n z
      (subst (λ (k : ℕ). z < k) count (there n z (ap (λ (o : Option ScriptLine). is_some o) is)))
      (decided_of n z (Some it.asks))

  named_change : (n : Inst) (z : ℕ) → length n.plan.lines ≡ length script.names → Named script (change_tells n z)
  named_change n z count = named_change_by n z count (line_at n z) refl

  session_named : (n : Inst) (core : Core) (kind : SessionStep) (z : ℕ) (it : How) → IsOf script n.plan
      → (kind ≡ session.StartStmt → z < length script.names) → Named script (session_tells n core kind z it)
  unfolding session_tells
  session_named n core session.StartStmt z it of starts = (starts refl, tt)
  session_named n core session.Visit z it of starts = named_rows script (stmt_at n z) (range_of (asks_at n z)) (read_made n z) (session_at n z)
  session_named n core session.Change z it of starts = named_change n z of.lines
  session_named n core session.Mark z it of starts = named_mark script n z (end_decided n z)
  session_named n core session.StepBack z it of starts = named_undone script (record_of (back_decided n z)) ((session_at n z).standing - 1)
  session_named n core session.EndStmt z it of starts = named_answer script (stmt_at n z) (answer_at n z)
  session_named n core session.AskUndo z it of starts = named_ask script n core (lacking n z) (asked_undo_of it)
  session_named n core session.Broadcast z it of starts = tt
  session_named n core session.Ack z it of starts = named_ack script (stmt_at n z) (durable_ending n z)

  dead_named : (n : Inst) (kind : DeadStep) → Named script (dead_tells n kind)
  unfolding dead_tells
  dead_named n dead.Mark = named_dead_mark script (dead_end_decided n)
  dead_named n dead.StepBack = named_undone script (record_of (dead_back_decided n)) 0
  dead_named n dead.AskUndo = named_lost script n (loss.Ended true) (Some 0)

  block_named : (n : Inst) (kind : BlockStep) (it : How) → Named script (block_tells n kind it)
  unfolding block_tells
  block_named n block.WriteBlock it = named_write script n (written_of it)
  block_named n block.RecoverBlock it = named_recover script n it
  block_named n _ it = tt

  inst_named : (n : Inst) (core : Core) (kind : InstStep) (from : ℕ) (it : How) → Named script (inst_tells n core kind from it)
  unfolding inst_tells
  inst_named n core inst.Install from it = named_install script (hears n core from Main) (first_message n core from Main) (installed_of it)
  inst_named n core inst.TakeBucket from it =
      named_packet script (without_first core from n.plan.me Main) n.plan.me (first_from core from n.plan.me Main)
  inst_named n core inst.ReadThread from it = named_read script n core from (found_of it)
  inst_named n core inst.CloseThread from it = named_close script n (closing_of it)
  inst_named n core _ from it = tt

  line_named : (n : Inst) (core : Core) (kind : LineStep) (number : ℕ) (it : How) → Named script (line_tells n core kind number it)
  unfolding line_tells
  line_named n core line.Crash number it = named_crash script n (open_control core number) (crashed_of it)
  line_named n core line.SendBucket number it = tt
  line_named n core line.KeepBucket number it = named_move script (open_control core number)
  line_named n core line.Checkpoint number it = named_checkpoint script n number (written_of it)
  line_named n core line.Skip number it = named_skip script (open_control core number)
  line_named n core line.Join number it = named_join script n core number it

  plain_named : (n : Inst) (core : Core) (kind : PlainStep) (it : How) → IsOf script n.plan → Named script (plain_tells n core kind it)
  unfolding plain_tells
  plain_named n core plain.Enter it of = named_openings script n.plan.me core.waves.wave n.plan.openings of.openings [] tt
  plain_named n core plain.Force it of = named_force script n (forced_of it)
  plain_named n core plain.Thaw it of = named_thaw script n core it
  plain_named n core plain.Reopen it of = named_reopen script core.recovery.closed_since
  plain_named n core plain.Resume it of = named_up script n.plan.me n.life
  plain_named n core _ it of = tt

  -- a line that starts is of a session of the script
  starts_there : (n : Inst) (core : Core) (kind : SessionStep) (z : ℕ) → IsOf script n.plan → session_needs n core kind z ≡ true
      → kind ≡ session.StartStmt → z < length script.names
  unfolding session_needs
  starts_there n core session.StartStmt z of may is = subst (λ (k : ℕ). z < k) of.lines (start_there n z may)
  starts_there n core session.Visit z of may is = absurd (cc)
  starts_there n core session.Change z of may is = absurd (cc)
  starts_there n core session.Mark z of may is = absurd (cc)
  starts_there n core session.StepBack z of may is = absurd (cc)
  starts_there n core session.EndStmt z of may is = absurd (cc)
  starts_there n core session.AskUndo z of may is = absurd (cc)
  starts_there n core session.Broadcast z of may is = absurd (cc)
  starts_there n core session.Ack z of may is = absurd (cc)

  named_of : (n : Inst) (core : Core) (action : Action) (it : How) → IsOf script n.plan → needs n core action ≡ true
      → IsOf script (prepared n core action).plan → Named script (tells n core action it)
  named_of n core (Session kind z) it of may ready =
      session_named (prepared n core (Session kind z)) (counted core n.plan.me (Session kind z)) kind z it ready
      (starts_there n core kind z of (both_second (is_allowed n core (Session kind z)) (action_needs n core (Session kind z)) may))
  named_of n core (Dead kind job) it of may ready = dead_named (prepared n core (Dead kind job)) kind
  named_of n core (Block kind number) it of may ready = block_named (prepared n core (Block kind number)) kind it
  named_of n core (OfInst kind from) it of may ready =
      inst_named (prepared n core (OfInst kind from)) (counted core n.plan.me (OfInst kind from)) kind from it
  named_of n core (Line kind number) it of may ready =
      line_named (prepared n core (Line kind number)) (counted core n.plan.me (Line kind number)) kind number it
  named_of n core (Plain kind) it of may ready =
      plain_named (prepared n core (Plain kind)) (counted core n.plan.me (Plain kind)) kind it ready

  -- the sessions that a step names are of the script
  pub step_named : (n : Inst) (core : Core) (action : Action) (it : How) → IsOf script n.plan → needs n core action ≡ true → Named script (tells n core action it)
  step_named n core action it of may =
      named_of n core action it of may (subst (λ (plan : Plan). IsOf script plan) (sym (prepared_plan n core action)) of)

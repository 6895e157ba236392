-- What the needs of a step say of the logs.
use Rattle.std.proofs.Common.{◌≡◌, ℕ, zero, suc, ◌^◌, ◌<◌, ◌≤◌, ◌&&◌, ◌||◌, not, Bool, true, false, List, [], ◌∷◌, length, Option, None, Some, slice_get, if◌then◌else◌, refl, ap, subst, ◌∙◌, inl, inr, arith}
use Rattle.std.specs.Prelude.{◌==◌, IfSome, find, is_some, nat_le, nat_lt}
use Rattle.std.specs.List.{list_all, list_any}
use Rattle.inst_state.specs.declared.inst.ReadThread.{ReadThread}
use Rattle.std.proofs.lemmas.Bool.{and_parts, eqb-true, ltb-true}
use Rattle.std.proofs.lemmas.Option.{none-some, same_Some, slice_get_within}
use Rattle.redo_types.specs.declared.redo.Redo.{Redo}
use Rattle.redo_record.specs.Redo.{IsRedo}
use Rattle.redo_thread.specs.Thread.{end_of}
use Rattle.base_types.specs.declared.names.Xid.{Xid}
use Rattle.undo_segment.specs.Segment.{SegmentState}
use Rattle.inst_set.specs.Sets.{all_insts, count_below, has}
use Rattle.block_image.specs.Block.{BlockContent}
use Rattle.recovery.specs.declared.members.Phase.{Phase}
use Rattle.recovery.specs.declared.members.Phase.TheVariants as phase
use Rattle.recovery.specs.Members.{all_reported, leader}
use Rattle.inst_state.specs.declared.inst.Inst.{Inst}
use Rattle.inst_state.specs.declared.shared.Core.{Core}
use Rattle.inst_state.specs.Needs.{adopted_at, dead_needed, dead_place, dead_segment, dead_txn}
use Rattle.inst_state.specs.Shared.{due_crash, is_frozen, is_inst, is_led_by, is_live, is_running, is_thawed, open_control, wants_crash_now, wave_controls}
use Rattle.inst_state.specs.State.{free_bytes, has_room, is_forced, is_stopped, is_up, works}
use Rattle.stmt_steps.specs.Back.{back_decided, dead_back_decided, dead_back_on, needed_image, record_of}
use Rattle.stmt_steps.specs.Change.{change_decided, is_decided}
use Rattle.stmt_steps.specs.Mark.{dead_end_decided, dead_end_of, end_decided, is_job}
use Rattle.report_steps.specs.Recovering.{all_closed, are_read, are_rebuilt, is_dead, is_of_epoch, is_read, leads_recovery}
use Rattle.report_steps.specs.Reopen.{is_done, is_ready_but_forced, may_reopen, may_resume}
use Rattle.thread_steps.specs.Close.{is_all_rebuilt, may_close}
use Rattle.thread_steps.specs.Read.{may_read}
use Rattle.rebuild_steps.specs.Join.{asks_start, is_open_to_joins, may_join}
use Rattle.rebuild_steps.specs.Thaw.{is_restored, may_thaw}
use Rattle.inst_node.specs.declared.actions.Action.{Action}
use Rattle.inst_node.specs.declared.actions.Action.TheVariants.{Dead, Inst as OfInst, Line, Plain, Session}
use Rattle.inst_node.specs.declared.actions.DeadStep.{DeadStep}
use Rattle.inst_node.specs.declared.actions.DeadStep.TheVariants as dead
use Rattle.inst_node.specs.declared.actions.InstStep.{InstStep}
use Rattle.inst_node.specs.declared.actions.InstStep.TheVariants as inst
use Rattle.inst_node.specs.declared.actions.LineStep.{LineStep}
use Rattle.inst_node.specs.declared.actions.LineStep.TheVariants as line
use Rattle.inst_node.specs.declared.actions.PlainStep.{PlainStep}
use Rattle.inst_node.specs.declared.actions.PlainStep.TheVariants as plain
use Rattle.inst_node.specs.declared.actions.SessionStep.{SessionStep}
use Rattle.inst_node.specs.declared.actions.SessionStep.TheVariants as session
use Rattle.inst_node.specs.Allowed.{is_allowed, is_frozen_before_report, kind_class, runs}
use Rattle.inst_node.specs.Moves.{comes_after_thaw, counted, prepared, prepared_if}
use Rattle.inst_node.specs.Needs.{action_needs, dead_needs, inst_needs, is_by_line, line_needs, needs, plain_needs, session_needs}
use Rattle.inst_node.specs.Made.{record_made}
use Rattle.log_laws.proofs.ByKind.{CanRecord, LineMay, MayMakeRedo, PlainMay, ThreadMay}
use Rattle.log_laws.proofs.Eases.{taken_eases}
use Rattle.log_laws.proofs.Keeps.{Eased, eased_where_same}
use Rattle.log_laws.proofs.ByOpen.{ThawMay}
use Rattle.log_laws.proofs.ByThread.{dead_shut}
use Rattle.log_laws.proofs.Cluster.{Own as OwnPart, shared_of}
use Rattle.log_laws.proofs.Sets.{found_fits}

-- the instance that is ready, and the shared part with the step counted

pub prepared_eases : (n : Inst) (core : Core) (action : Action) → Eased n (prepared n core action)
unfolding prepared
prepared_eases n core action = by (comes_after_thaw (kind_class action)) (is_thawed core.members.phase)
  where
    by : (after thawed : Bool) → Eased n (prepared_if after thawed n core)
    by false thawed = eased_where_same n n refl
    by true false = eased_where_same n n refl
    by true true = taken_eases n core

pub counted_shared : (core : Core) (me : ℕ) (action : Action) → shared_of (counted core me action) ≡ shared_of core
unfolding counted
counted_shared core me action = refl

not_true : (b : Bool) → not b ≡ true → b ≡ false
not_true true e = absurd (let no : false ≡ true = e in cc)
not_true false e = refl

-- there is room for a record

room_of : (n : Inst) → has_room n ≡ true → end_of n.thread < 2 ^ 62
room_of n e =
    let a = and_parts (nat_le 236 (free_bytes n) && nat_lt (end_of n.thread) (2 ^ 62)) (nat_lt n.clock.scn (2 ^ 62)) e in
    ltb-true (end_of n.thread) (2 ^ 62) (and_parts (nat_le 236 (free_bytes n)) (nat_lt (end_of n.thread) (2 ^ 62)) a.0).1

works_record : (n : Inst) (rest : Bool) → (works n && has_room n && rest) ≡ true → CanRecord n
works_record n rest e =
    let a = and_parts (works n && has_room n) rest e in
    let b = and_parts (works n) (has_room n) a.0 in
    let c = and_parts (is_up n.life) (not n.paused) b.0 in
    record { may = inl c.0; room = room_of n b.1 }

some_adopted : (n : Inst) (o : Option ℕ) (segment : SegmentState) → adopted_at n.leading.adopted o ≡ Some segment → 1 ≤ length n.leading.adopted
some_adopted n None segment e = absurd (none-some segment e)
some_adopted n (Some place) segment e = let within = slice_get_within n.leading.adopted place segment e in omega (arith, within)

dead_adopted : (n : Inst) (o : Option SegmentState) → dead_segment n ≡ o → is_some o ≡ true → 1 ≤ length n.leading.adopted
dead_adopted n None e some = absurd (let no : false ≡ true = some in cc)
dead_adopted n (Some segment) e some = some_adopted n (dead_place n) segment e

end_some : (n : Inst) (x : Option Xid) (o : Option SegmentState) (redo : Redo) → dead_end_of n x o ≡ Some redo → is_some o ≡ true
end_some n (Some x) (Some segment) redo e = refl
end_some n None o redo e = absurd (none-some redo e)
end_some n (Some x) None redo e = absurd (none-some redo e)

back_some : (n : Inst) (x : Option Xid) (o : Option SegmentState) (image : Option BlockContent) (redo : Redo) → record_of (dead_back_on n x o image) ≡ Some redo → is_some o ≡ true
back_some n (Some x) (Some segment) image redo e = refl
back_some n None o image redo e = absurd (none-some redo e)
back_some n (Some x) None image redo e = absurd (none-some redo e)

redo_is : (o : Option Redo) (redo : Redo) → IfSome o IsRedo → o ≡ Some redo → IsRedo redo
redo_is o redo all e = subst (λ (x : Option Redo). IfSome x IsRedo) e all

pub session_may : (n : Inst) (core : Core) (kind : SessionStep) (z : ℕ) → needs n core (Session kind z) ≡ true
    → IfSome (record_made (prepared n core (Session kind z)) (Session kind z)) IsRedo → MayMakeRedo (prepared n core (Session kind z)) (Session kind z)
unfolding prepared session_needs
session_may n core session.Change z may is redo e = (
  works_record n (is_decided (change_decided n z)) (and_parts (is_allowed n core (Session session.Change z)) (works n && has_room n && is_decided (change_decided n z)) may).1,
  redo_is (record_made n (Session session.Change z)) redo is e,
)
session_may n core session.Mark z may is redo e =
    let a = (and_parts (is_allowed n core (Session session.Mark z)) (works n && has_room n && not (is_stopped n z) && is_some (end_decided n z)) may).1 in
    let b = (and_parts (works n && has_room n && not (is_stopped n z)) (is_some (end_decided n z)) a).0 in
    (works_record n (not (is_stopped n z)) b, redo_is (record_made n (Session session.Mark z)) redo is e)
session_may n core session.StepBack z may is redo e = (
  works_record n (is_some (record_of (back_decided n z))) (and_parts (is_allowed n core (Session session.StepBack z)) (works n && has_room n && is_some (record_of (back_decided n z))) may).1,
  redo_is (record_made n (Session session.StepBack z)) redo is e,
)
session_may n core session.StartStmt z may is redo e = absurd (none-some redo e)
session_may n core session.Visit z may is redo e = absurd (none-some redo e)
session_may n core session.EndStmt z may is redo e = absurd (none-some redo e)
session_may n core session.AskUndo z may is redo e = absurd (none-some redo e)
session_may n core session.Broadcast z may is redo e = absurd (none-some redo e)
session_may n core session.Ack z may is redo e = absurd (none-some redo e)

dead_room : (n : Inst) (job : ℕ) (rest : Bool) → (has_room n && is_job job (dead_txn n) && rest) ≡ true → end_of n.thread < 2 ^ 62
dead_room n job rest e =
    let a = and_parts (has_room n && is_job job (dead_txn n)) rest e in room_of n (and_parts (has_room n) (is_job job (dead_txn n)) a.0).0

pub dead_may : (n : Inst) (core : Core) (kind : DeadStep) (job : ℕ) → needs n core (Dead kind job) ≡ true
    → IfSome (record_made (prepared n core (Dead kind job)) (Dead kind job)) IsRedo → MayMakeRedo (prepared n core (Dead kind job)) (Dead kind job)
unfolding prepared dead_needs
dead_may n core dead.Mark job may is redo e =
    let a = (and_parts (is_allowed n core (Dead dead.Mark job)) (has_room n && is_job job (dead_txn n) && is_some (dead_end_decided n)) may).1 in (
      record { may = inr (dead_adopted n (dead_segment n) refl (end_some n (dead_txn n) (dead_segment n) redo e)); room = dead_room n job (is_some (dead_end_decided n)) a },
      redo_is (record_made n (Dead dead.Mark job)) redo is e,
    )
dead_may n core dead.StepBack job may is redo e =
    let a = (and_parts (is_allowed n core (Dead dead.StepBack job)) (has_room n && is_job job (dead_txn n) && is_some (record_of (dead_back_decided n))) may).1 in (
      record { may = inr (dead_adopted n (dead_segment n) refl (back_some n (dead_txn n) (dead_segment n) (needed_image n (dead_needed n)) redo e)); room = dead_room n job (is_some (record_of (dead_back_decided n))) a },
      redo_is (record_made n (Dead dead.StepBack job)) redo is e,
    )
dead_may n core dead.AskUndo job may is redo e = absurd (none-some redo e)

-- threads

at_list : (p : ℕ → Bool) (l : List ℕ) (k x : ℕ) → list_all p l ≡ true → slice_get l k ≡ Some x → p x ≡ true
at_list p [] k x all e = absurd (none-some x e)
at_list p (a ∷ l) zero x all e = subst (λ (y : ℕ). p y ≡ true) (same_Some a x e) (and_parts (p a) (list_all p l) all).0
at_list p (a ∷ l) (suc k) x all e = at_list p l k x (and_parts (p a) (list_all p l) all).1 e

at_insts : (t : ℕ) → t < 8 → slice_get all_insts t ≡ Some t
at_insts zero h = refl
at_insts (suc zero) h = refl
at_insts (suc (suc zero)) h = refl
at_insts (suc (suc (suc zero))) h = refl
at_insts (suc (suc (suc (suc zero)))) h = refl
at_insts (suc (suc (suc (suc (suc zero))))) h = refl
at_insts (suc (suc (suc (suc (suc (suc zero)))))) h = refl
at_insts (suc (suc (suc (suc (suc (suc (suc zero))))))) h = refl
at_insts (suc (suc (suc (suc (suc (suc (suc (suc t)))))))) h = absurd (omega (arith, h))

pub at_all : (p : ℕ → Bool) → list_all p all_insts ≡ true → (t : ℕ) → t < 8 → p t ≡ true
at_all p all t few = at_list p all_insts t t all (at_insts t few)

epoch_if : (d e r : Bool) → d ≡ true → (not d || (e && r)) ≡ true → e ≡ true
epoch_if true true r dead h = refl
epoch_if true false r dead h = absurd (let no : false ≡ true = h in cc)
epoch_if false e r dead h = absurd (let no : false ≡ true = dead in cc)

read_epoch : (n : Inst) (core : Core) (t : ℕ) → are_read n core ≡ true → t < 8 → is_dead core t ≡ true → n.leading.recovering.epoch ≡ core.members.epoch
read_epoch n core t all few dead =
    eqb-true n.leading.recovering.epoch core.members.epoch
    (epoch_if (is_dead core t) (is_of_epoch n core) (list_any (λ (read : ReadThread). read.thread == t) n.leading.recovering.threads) dead
    (at_all (λ thread. not (is_dead core thread) || is_read n core thread) all t few))

all_read : (n : Inst) (core : Core) → is_all_rebuilt n core ≡ true → are_read n core ≡ true
unfolding is_all_rebuilt
all_read n core e = (and_parts (are_read n core) (are_rebuilt n core) e).0

pub thread_may : (n : Inst) (core : Core) (kind : InstStep) (from : ℕ) → needs n core (OfInst kind from) ≡ true
    → ThreadMay (prepared n core (OfInst kind from)) (counted core n.plan.me (OfInst kind from)) kind from
unfolding prepared counted inst_needs
thread_may n core inst.ReadThread t may =
    let a = (and_parts (is_allowed n core (OfInst inst.ReadThread t)) (may_read n core t) may).1 in
    let b = and_parts (nat_lt t 8 && leads_recovery n core && is_dead core t) (not (is_read n core t)) a in
    let c = and_parts (nat_lt t 8 && leads_recovery n core) (is_dead core t) b.0 in
    let d = and_parts (nat_lt t 8) (leads_recovery n core) c.0 in
    (ltb-true t 8 d.0, dead_shut core t c.1)
thread_may n core inst.CloseThread t may =
    let a = (and_parts (is_allowed n core (OfInst inst.CloseThread t)) (may_close n core t) may).1 in
    let b = and_parts (nat_lt t 8 && leads_recovery n core && is_dead core t) (is_all_rebuilt n core) a in
    let c = and_parts (nat_lt t 8 && leads_recovery n core) (is_dead core t) b.0 in
    let d = and_parts (nat_lt t 8) (leads_recovery n core) c.0 in
    let few = ltb-true t 8 d.0 in
    (few, dead_shut core t c.1, read_epoch n core t (all_read n core b.1) few c.1)
thread_may n core inst.MasterTake from may = tt
thread_may n core inst.Invalidate from may = tt
thread_may n core inst.Ship from may = tt
thread_may n core inst.ServeCopy from may = tt
thread_may n core inst.DropPast from may = tt
thread_may n core inst.Install from may = tt
thread_may n core inst.TakeCopy from may = tt
thread_may n core inst.TakeUndo from may = tt
thread_may n core inst.ServeUndo from may = tt
thread_may n core inst.Heard from may = tt
thread_may n core inst.TakeBucket from may = tt

-- control lines

due_live : (core : Core) (me number : ℕ) → is_by_line number (due_crash core me) ≡ true → is_live core me ≡ true
due_live core me number e = by (is_live core me) e
  where
    by : (b : Bool) → is_by_line number (if b then find (λ control. not control.done && wants_crash_now core me control.wanted) (wave_controls core.waves) else None) ≡ true → b ≡ true
    by true e = refl
    by false e = absurd (let no : false ≡ true = e in cc)

phase_running : (p : Phase) → is_running p ≡ true → p ≡ phase.Running
phase_running phase.Running e = refl
phase_running phase.Frozen e = absurd (let no : false ≡ true = e in cc)
phase_running phase.Thawed e = absurd (let no : false ≡ true = e in cc)
phase_running phase.Dark e = absurd (let no : false ≡ true = e in cc)

prepared_me : (n : Inst) (core : Core) (action : Action) → (prepared n core action).plan.me ≡ n.plan.me
prepared_me n core action = ap (λ (o : OwnPart). o.me) (prepared_eases n core action).own

pub line_may : (n : Inst) (core : Core) (kind : LineStep) (number : ℕ) → needs n core (Line kind number) ≡ true
    → LineMay (prepared n core (Line kind number)) (counted core n.plan.me (Line kind number)) kind
unfolding prepared counted line_needs
line_may n core line.Crash number may =
    due_live core n.plan.me number (and_parts (is_allowed n core (Line line.Crash number)) (is_by_line number (due_crash core n.plan.me)) may).1
line_may n core line.Checkpoint number may =
    let a = (and_parts (is_allowed n core (Line line.Checkpoint number)) (line_needs n core line.Checkpoint number) may).0 in
    let b = and_parts (is_live core n.plan.me) (runs n core) a in
    (ap (is_live core) (prepared_me n core (Line line.Checkpoint number)) ∙ b.0, phase_running core.members.phase (and_parts (is_running core.members.phase) (not n.paused) b.1).0)
line_may n core line.Join number may =
    let a = (and_parts (is_allowed n core (Line line.Join number)) (may_join n core number) may).1 in
    let b = and_parts (asks_start n.plan.me (open_control core number) && not (is_live core n.plan.me)) (is_open_to_joins core) a in
    let c = and_parts (asks_start n.plan.me (open_control core number)) (not (is_live core n.plan.me)) b.0 in
    record { gone = not_true (is_live core n.plan.me) c.1; opens = b.1 }
line_may n core line.SendBucket number may = tt
line_may n core line.KeepBucket number may = tt
line_may n core line.Skip number may = tt

-- an instance alone

phase_thawed : (p : Phase) → is_thawed p ≡ true → p ≡ phase.Thawed
phase_thawed phase.Thawed e = refl
phase_thawed phase.Frozen e = absurd (let no : false ≡ true = e in cc)
phase_thawed phase.Running e = absurd (let no : false ≡ true = e in cc)
phase_thawed phase.Dark e = absurd (let no : false ≡ true = e in cc)

led_live : (core : Core) (me : ℕ) → is_led_by core me ≡ true → is_live core me ≡ true
led_live core me e = by (leader core.members) refl e
  where
    by : (o : Option ℕ) → leader core.members ≡ o → is_inst me o ≡ true → is_live core me ≡ true
    by None is h = absurd (let no : false ≡ true = h in cc)
    by (Some x) is h =
        let fits = found_fits (λ inst. has core.members.live inst && (count_below core.members.live inst == 0)) all_insts x is in
        subst (λ (y : ℕ). has core.members.live y ≡ true) (eqb-true x me h) (and_parts (has core.members.live x) (count_below core.members.live x == 0) fits).0

closed_all : (n : Inst) (core : Core) → is_restored n core ≡ true → all_closed core ≡ true
unfolding is_restored
closed_all n core e = (and_parts (all_closed core) (are_rebuilt n core) e).0

allowed_live : (n : Inst) (core : Core) → is_allowed n core (Plain plain.Force) ≡ true → is_live core n.plan.me ≡ true
allowed_live n core e =
    (and_parts (is_live core n.plan.me) (runs n core || is_frozen_before_report n core || is_thawed core.members.phase) e).0

force_may : (n : Inst) (core : Core) → needs n core (Plain plain.Force) ≡ true → is_live core n.plan.me ≡ true
force_may n core may = allowed_live n core (and_parts (is_allowed n core (Plain plain.Force)) (action_needs n core (Plain plain.Force)) may).0

counted_live : (core : Core) (me who : ℕ) (action : Action) → is_live (counted core me action) who ≡ is_live core who
unfolding counted
counted_live core me who action = refl

thaw_may : (n : Inst) (core : Core) → may_thaw n core ≡ true → ThawMay (prepared n core (Plain plain.Thaw)) (counted core n.plan.me (Plain plain.Thaw))
unfolding prepared counted
thaw_may n core e =
    let a = and_parts (leads_recovery n core) (is_restored n core) e in
    let b = and_parts (is_frozen core.members.phase && is_led_by core n.plan.me) (all_reported core.members) a.0 in
    let c = and_parts (is_frozen core.members.phase) (is_led_by core n.plan.me) b.0 in
    record {
      live = led_live core n.plan.me c.1;
      closed = λ t few. not_true (is_dead core t) (at_all (λ thread. not (is_dead core thread)) (closed_all n core a.1) t few);
    }

reopen_may : (n : Inst) (core : Core) → may_reopen n core ≡ true
    → ((counted core n.plan.me (Plain plain.Reopen)).members.phase ≡ phase.Thawed) × (list_all is_done (prepared n core (Plain plain.Reopen)).leading.adopted ≡ true)
unfolding prepared counted
reopen_may n core e =
    let a = and_parts (is_ready_but_forced n core) (is_forced n) e in
    let b = and_parts (is_thawed core.members.phase && is_led_by core n.plan.me) (list_all is_done n.leading.adopted) a.0 in
    (phase_thawed core.members.phase (and_parts (is_thawed core.members.phase) (is_led_by core n.plan.me) b.0).0, b.1)

resume_may : (n : Inst) (core : Core) → may_resume n core ≡ true
    → (is_live (counted core n.plan.me (Plain plain.Resume)) (prepared n core (Plain plain.Resume)).plan.me ≡ true) × ((counted core n.plan.me (Plain plain.Resume)).members.phase ≡ phase.Running)
unfolding prepared counted
resume_may n core e =
    let a = and_parts (is_live core n.plan.me && is_running core.members.phase) n.paused e in
    let b = and_parts (is_live core n.plan.me) (is_running core.members.phase) a.0 in
    (b.0, phase_running core.members.phase b.1)

pub plain_may : (n : Inst) (core : Core) (kind : PlainStep) → needs n core (Plain kind) ≡ true
    → PlainMay (prepared n core (Plain kind)) (counted core n.plan.me (Plain kind)) kind
unfolding plain_needs
plain_may n core plain.Force may =
    counted_live core n.plan.me (prepared n core (Plain plain.Force)).plan.me (Plain plain.Force) ∙ ap (is_live core) (prepared_me n core (Plain plain.Force)) ∙ force_may n core may
plain_may n core plain.Thaw may = thaw_may n core (and_parts (is_allowed n core (Plain plain.Thaw)) (may_thaw n core) may).1
plain_may n core plain.Reopen may = reopen_may n core (and_parts (is_allowed n core (Plain plain.Reopen)) (may_reopen n core) may).1
plain_may n core plain.Resume may = resume_may n core (and_parts (is_allowed n core (Plain plain.Resume)) (may_resume n core) may).1
plain_may n core plain.Enter may = tt
plain_may n core plain.Report may = tt
plain_may n core plain.Leave may = tt
plain_may n core plain.Wave may = tt

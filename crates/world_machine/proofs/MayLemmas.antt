-- What is picked may be made.
use Rattle.std.proofs.Common.{◌≡◌, ℕ, ◌+◌, ◌-◌, ◌<◌, ◌&&◌, Bool, true, false, List, [], ◌∷◌, ◌++◌, ◌∙◌, refl, ap, sym, subst, Option, None, Some, unwrap_or, drop, get_or, eq-eqb, length, length-drop, arith}
use Rattle.std.specs.Prelude.{if◌then◌else◌, slice_get, ◌%◌}
use Rattle.std.specs.List.{All, flat_map, range_with_len}
use Rattle.std.proofs.lemmas.List.{drop_more}
use Rattle.std.proofs.lemmas.List.Elements.{All-append, All-cons, All-get_or, All-nil}
use Rattle.std.proofs.lemmas.Option.{none-some, slice_get-get_or, slice_get_within, unwrap_or-slice_get}
use Rattle.base_types.specs.declared.names.Xid.{Xid}
use Rattle.inst_set.specs.Sets.{all_insts}
use Rattle.rand_pcg.specs.Lcg.{Lcg}
use Rattle.rand_pcg.specs.Pcg.{pcg32}
use Rattle.inst_state.specs.declared.control.Control.{Control}
use Rattle.inst_state.specs.declared.inst.Inst.{Inst}
use Rattle.inst_state.specs.declared.shared.Core.{Core}
use Rattle.inst_state.specs.Needs.{dead_txn}
use Rattle.inst_state.specs.Shared.{due_crash, wave_controls}
use Rattle.stmt_steps.specs.Mark.{dead_job}
use Rattle.inst_node.specs.declared.actions.Action.{Action}
use Rattle.inst_node.specs.declared.actions.Action.TheVariants.{Block, Dead, Inst as OfInst, Line, Plain, Session}
use Rattle.inst_node.specs.declared.actions.BlockStep.{BlockStep}
use Rattle.inst_node.specs.declared.actions.BlockStep.TheVariants as block
use Rattle.inst_node.specs.declared.actions.DeadStep.{DeadStep}
use Rattle.inst_node.specs.declared.actions.DeadStep.TheVariants as dead
use Rattle.inst_node.specs.declared.actions.InstStep.{InstStep}
use Rattle.inst_node.specs.declared.actions.InstStep.TheVariants as inst
use Rattle.inst_node.specs.declared.actions.LineStep.{LineStep}
use Rattle.inst_node.specs.declared.actions.LineStep.TheVariants as line
use Rattle.inst_node.specs.declared.actions.PlainStep.{PlainStep}
use Rattle.inst_node.specs.declared.actions.PlainStep.TheVariants as plain
use Rattle.inst_node.specs.declared.actions.SessionStep.{SessionStep}
use Rattle.inst_node.specs.declared.actions.SessionStep.TheVariants as session
use Rattle.inst_node.specs.declared.actions.Step.{Step}
use Rattle.inst_node.specs.Choices.{alone, block_choices, choices, data_blocks, for_dead, for_lines, for_sessions, for_txn, image_choices, line_choices, local_choices, news_choices, offer, recovery_choices, with_blocks, with_insts}
use Rattle.inst_node.specs.Needs.{is_by_line, line_needs, needs}
use Rattle.world_machine.specs.declared.worlds.World.{World}
use Rattle.world_machine.specs.Enabled.{crash_or, due, due_from, enabled, enabled_from}
use Rattle.world_machine.specs.Machine.{MayMake}
use Rattle.world_machine.specs.Runs.{IsDrawn, IsPicked, IsPickedBy}

some_same : {A : Type 0} (x y : A) → Some x ≡ Some y → x ≡ y
some_same {A = A} x y e = ap (λ (o : Option A). unwrap_or o x) e

-- a step of an instance that is there, and that the instance may make
one_may : (w : World) (i : ℕ) (n : Inst) (action : Action) → slice_get w.insts i ≡ Some n → i < length w.insts → needs n w.core action ≡ true
    → MayMake w (record { inst = i; action = action })
one_may w i n action at within may = record {
  inst = within;
  needs = λ m is. subst (λ (k : Inst). needs k w.core action ≡ true) (some_same n m (sym at ∙ is)) may;
}

both : (w : World) (xs ys : List Step) → All (MayMake w) xs → All (MayMake w) ys → All (MayMake w) (xs ++ ys)
both w xs ys first later = All-append (MayMake w) xs ys first later

offer_as : (w : World) (i : ℕ) (n : Inst) → slice_get w.insts i ≡ Some n → i < length w.insts → (action : Action) (may : Bool) → needs n w.core action ≡ may
    → All (MayMake w) (if may then record { inst = i; action = action } ∷ [] else [])
offer_as w i n at within action true is =
    All-cons (MayMake w) (record { inst = i; action = action }) [] (one_may w i n action at within is) (All-nil (MayMake w))
offer_as w i n at within action false is = All-nil (MayMake w)

offer_may : (w : World) (i : ℕ) (n : Inst) → slice_get w.insts i ≡ Some n → i < length w.insts → (action : Action) → All (MayMake w) (offer i n w.core action)
offer_may w i n at within action = offer_as w i n at within action (needs n w.core action) refl

-- each of the steps about the items of a list
each_may : {A : Type 0} (w : World) (i : ℕ) (n : Inst) → slice_get w.insts i ≡ Some n → i < length w.insts → (about : A → Action) (items : List A)
    → All (MayMake w) (flat_map (λ (x : A). offer i n w.core (about x)) items)
each_may {A = A} w i n at within about [] = All-nil (MayMake w)
each_may {A = A} w i n at within about (x ∷ items) =
    both w (offer i n w.core (about x)) (flat_map (λ (y : A). offer i n w.core (about y)) items) (offer_may w i n at within (about x))
    (each_may w i n at within about items)

sessions_may : (w : World) (i : ℕ) (n : Inst) → slice_get w.insts i ≡ Some n → i < length w.insts → (kind : SessionStep) → All (MayMake w) (for_sessions i n w.core kind)
unfolding for_sessions
sessions_may w i n at within kind = each_may w i n at within (λ (z : ℕ). Session kind z) n.plan.mine

txn_may : (w : World) (i : ℕ) (n : Inst) → slice_get w.insts i ≡ Some n → i < length w.insts → (kind : DeadStep) (x : Option Xid) → All (MayMake w) (for_txn i n w.core kind x)
txn_may w i n at within kind None = All-nil (MayMake w)
txn_may w i n at within kind (Some x) = offer_may w i n at within (Dead kind (dead_job x))

dead_may : (w : World) (i : ℕ) (n : Inst) → slice_get w.insts i ≡ Some n → i < length w.insts → (kind : DeadStep) → All (MayMake w) (for_dead i n w.core kind)
unfolding for_dead
dead_may w i n at within kind = txn_may w i n at within kind (dead_txn n)

blocks_may : (w : World) (i : ℕ) (n : Inst) → slice_get w.insts i ≡ Some n → i < length w.insts → (kind : BlockStep) (count : ℕ) → All (MayMake w) (with_blocks i n w.core kind count)
unfolding with_blocks
blocks_may w i n at within kind count = each_may w i n at within (λ (b : ℕ). Block kind b) (range_with_len 0 count)

insts_may : (w : World) (i : ℕ) (n : Inst) → slice_get w.insts i ≡ Some n → i < length w.insts → (kind : InstStep) → All (MayMake w) (with_insts i n w.core kind)
unfolding with_insts
insts_may w i n at within kind = each_may w i n at within (λ (from : ℕ). OfInst kind from) all_insts

lines_may : (w : World) (i : ℕ) (n : Inst) → slice_get w.insts i ≡ Some n → i < length w.insts → (kind : LineStep) → All (MayMake w) (for_lines i n w.core kind)
unfolding for_lines
lines_may w i n at within kind =
    each_may w i n at within (λ (control : Control). Line kind control.line) (wave_controls w.core.waves)

alone_may : (w : World) (i : ℕ) (n : Inst) → slice_get w.insts i ≡ Some n → i < length w.insts → (kind : PlainStep) → All (MayMake w) (alone i n w.core kind)
unfolding alone
alone_may w i n at within kind = offer_may w i n at within (Plain kind)

local_choices_may : (w : World) (i : ℕ) (n : Inst) → slice_get w.insts i ≡ Some n → i < length w.insts → All (MayMake w) (local_choices i n w.core)
unfolding local_choices
local_choices_may w i n at within =
    let z = for_sessions i n w.core in
    let d = for_dead i n w.core in
    both w (z session.StartStmt ++ z session.Visit ++ z session.Change ++ z session.Mark ++ d dead.Mark ++ z session.StepBack ++ d dead.StepBack) (z session.EndStmt)
    (both w (z session.StartStmt ++ z session.Visit ++ z session.Change ++ z session.Mark ++ d dead.Mark ++ z session.StepBack) (d dead.StepBack)
    (both w (z session.StartStmt ++ z session.Visit ++ z session.Change ++ z session.Mark ++ d dead.Mark) (z session.StepBack)
    (both w (z session.StartStmt ++ z session.Visit ++ z session.Change ++ z session.Mark) (d dead.Mark)
    (both w (z session.StartStmt ++ z session.Visit ++ z session.Change) (z session.Mark)
    (both w (z session.StartStmt ++ z session.Visit) (z session.Change)
    (both w (z session.StartStmt) (z session.Visit)
    (sessions_may w i n at within session.StartStmt)
    (sessions_may w i n at within session.Visit))
    (sessions_may w i n at within session.Change))
    (sessions_may w i n at within session.Mark))
    (dead_may w i n at within dead.Mark))
    (sessions_may w i n at within session.StepBack))
    (dead_may w i n at within dead.StepBack))
    (sessions_may w i n at within session.EndStmt)

block_choices_may : (w : World) (i : ℕ) (n : Inst) → slice_get w.insts i ≡ Some n → i < length w.insts → All (MayMake w) (block_choices i n w.core)
unfolding block_choices
block_choices_may w i n at within =
    let o = alone i n w.core in
    let b = with_blocks i n w.core in
    both w (o plain.Enter ++ b block.Ask (data_blocks n) ++ b block.Evict (data_blocks n) ++ b block.WriteBlock 200 ++ b block.AskWrite (data_blocks n)) (o plain.Force)
    (both w (o plain.Enter ++ b block.Ask (data_blocks n) ++ b block.Evict (data_blocks n) ++ b block.WriteBlock 200) (b block.AskWrite (data_blocks n))
    (both w (o plain.Enter ++ b block.Ask (data_blocks n) ++ b block.Evict (data_blocks n)) (b block.WriteBlock 200)
    (both w (o plain.Enter ++ b block.Ask (data_blocks n)) (b block.Evict (data_blocks n))
    (both w (o plain.Enter) (b block.Ask (data_blocks n))
    (alone_may w i n at within plain.Enter)
    (blocks_may w i n at within block.Ask (data_blocks n)))
    (blocks_may w i n at within block.Evict (data_blocks n)))
    (blocks_may w i n at within block.WriteBlock 200))
    (blocks_may w i n at within block.AskWrite (data_blocks n)))
    (alone_may w i n at within plain.Force)

image_choices_may : (w : World) (i : ℕ) (n : Inst) → slice_get w.insts i ≡ Some n → i < length w.insts → All (MayMake w) (image_choices i n w.core)
unfolding image_choices
image_choices_may w i n at within =
    let f = with_insts i n w.core in
    both w (f inst.MasterTake ++ f inst.Invalidate ++ f inst.Ship ++ f inst.ServeCopy ++ f inst.DropPast ++ f inst.Install ++ f inst.TakeCopy) (f inst.TakeUndo)
    (both w (f inst.MasterTake ++ f inst.Invalidate ++ f inst.Ship ++ f inst.ServeCopy ++ f inst.DropPast ++ f inst.Install) (f inst.TakeCopy)
    (both w (f inst.MasterTake ++ f inst.Invalidate ++ f inst.Ship ++ f inst.ServeCopy ++ f inst.DropPast) (f inst.Install)
    (both w (f inst.MasterTake ++ f inst.Invalidate ++ f inst.Ship ++ f inst.ServeCopy) (f inst.DropPast)
    (both w (f inst.MasterTake ++ f inst.Invalidate ++ f inst.Ship) (f inst.ServeCopy)
    (both w (f inst.MasterTake ++ f inst.Invalidate) (f inst.Ship)
    (both w (f inst.MasterTake) (f inst.Invalidate)
    (insts_may w i n at within inst.MasterTake)
    (insts_may w i n at within inst.Invalidate))
    (insts_may w i n at within inst.Ship))
    (insts_may w i n at within inst.ServeCopy))
    (insts_may w i n at within inst.DropPast))
    (insts_may w i n at within inst.Install))
    (insts_may w i n at within inst.TakeCopy))
    (insts_may w i n at within inst.TakeUndo)

news_choices_may : (w : World) (i : ℕ) (n : Inst) → slice_get w.insts i ≡ Some n → i < length w.insts → All (MayMake w) (news_choices i n w.core)
unfolding news_choices
news_choices_may w i n at within =
    let z = for_sessions i n w.core in
    let d = for_dead i n w.core in
    let f = with_insts i n w.core in
    both w (z session.AskUndo ++ d dead.AskUndo ++ f inst.ServeUndo ++ z session.Broadcast ++ f inst.Heard) (z session.Ack)
    (both w (z session.AskUndo ++ d dead.AskUndo ++ f inst.ServeUndo ++ z session.Broadcast) (f inst.Heard)
    (both w (z session.AskUndo ++ d dead.AskUndo ++ f inst.ServeUndo) (z session.Broadcast)
    (both w (z session.AskUndo ++ d dead.AskUndo) (f inst.ServeUndo)
    (both w (z session.AskUndo) (d dead.AskUndo)
    (sessions_may w i n at within session.AskUndo)
    (dead_may w i n at within dead.AskUndo))
    (insts_may w i n at within inst.ServeUndo))
    (sessions_may w i n at within session.Broadcast))
    (insts_may w i n at within inst.Heard))
    (sessions_may w i n at within session.Ack)

line_choices_may : (w : World) (i : ℕ) (n : Inst) → slice_get w.insts i ≡ Some n → i < length w.insts → All (MayMake w) (line_choices i n w.core)
unfolding line_choices
line_choices_may w i n at within =
    let l = for_lines i n w.core in
    let f = with_insts i n w.core in
    both w (l line.SendBucket ++ f inst.TakeBucket ++ l line.KeepBucket ++ l line.Checkpoint ++ l line.Skip) (l line.Join)
    (both w (l line.SendBucket ++ f inst.TakeBucket ++ l line.KeepBucket ++ l line.Checkpoint) (l line.Skip)
    (both w (l line.SendBucket ++ f inst.TakeBucket ++ l line.KeepBucket) (l line.Checkpoint)
    (both w (l line.SendBucket ++ f inst.TakeBucket) (l line.KeepBucket)
    (both w (l line.SendBucket) (f inst.TakeBucket)
    (lines_may w i n at within line.SendBucket)
    (insts_may w i n at within inst.TakeBucket))
    (lines_may w i n at within line.KeepBucket))
    (lines_may w i n at within line.Checkpoint))
    (lines_may w i n at within line.Skip))
    (lines_may w i n at within line.Join)

recovery_choices_may : (w : World) (i : ℕ) (n : Inst) → slice_get w.insts i ≡ Some n → i < length w.insts → All (MayMake w) (recovery_choices i n w.core)
unfolding recovery_choices
recovery_choices_may w i n at within =
    let o = alone i n w.core in
    let b = with_blocks i n w.core in
    let f = with_insts i n w.core in
    both w (o plain.Report ++ b block.GivePast (data_blocks n) ++ f inst.ReadThread ++ b block.RecoverBlock 200 ++ f inst.CloseThread ++ o plain.Thaw ++ o plain.Reopen ++ o plain.Resume ++ o plain.Leave) (o plain.Wave)
    (both w (o plain.Report ++ b block.GivePast (data_blocks n) ++ f inst.ReadThread ++ b block.RecoverBlock 200 ++ f inst.CloseThread ++ o plain.Thaw ++ o plain.Reopen ++ o plain.Resume) (o plain.Leave)
    (both w (o plain.Report ++ b block.GivePast (data_blocks n) ++ f inst.ReadThread ++ b block.RecoverBlock 200 ++ f inst.CloseThread ++ o plain.Thaw ++ o plain.Reopen) (o plain.Resume)
    (both w (o plain.Report ++ b block.GivePast (data_blocks n) ++ f inst.ReadThread ++ b block.RecoverBlock 200 ++ f inst.CloseThread ++ o plain.Thaw) (o plain.Reopen)
    (both w (o plain.Report ++ b block.GivePast (data_blocks n) ++ f inst.ReadThread ++ b block.RecoverBlock 200 ++ f inst.CloseThread) (o plain.Thaw)
    (both w (o plain.Report ++ b block.GivePast (data_blocks n) ++ f inst.ReadThread ++ b block.RecoverBlock 200) (f inst.CloseThread)
    (both w (o plain.Report ++ b block.GivePast (data_blocks n) ++ f inst.ReadThread) (b block.RecoverBlock 200)
    (both w (o plain.Report ++ b block.GivePast (data_blocks n)) (f inst.ReadThread)
    (both w (o plain.Report) (b block.GivePast (data_blocks n))
    (alone_may w i n at within plain.Report)
    (blocks_may w i n at within block.GivePast (data_blocks n)))
    (insts_may w i n at within inst.ReadThread))
    (blocks_may w i n at within block.RecoverBlock 200))
    (insts_may w i n at within inst.CloseThread))
    (alone_may w i n at within plain.Thaw))
    (alone_may w i n at within plain.Reopen))
    (alone_may w i n at within plain.Resume))
    (alone_may w i n at within plain.Leave))
    (alone_may w i n at within plain.Wave)

choices_may : (w : World) (i : ℕ) (n : Inst) → slice_get w.insts i ≡ Some n → i < length w.insts → All (MayMake w) (choices i n w.core)
unfolding choices
choices_may w i n at within =
    both w (local_choices i n w.core ++ block_choices i n w.core ++ image_choices i n w.core ++ news_choices i n w.core ++ line_choices i n w.core) (recovery_choices i n w.core)
    (both w (local_choices i n w.core ++ block_choices i n w.core ++ image_choices i n w.core ++ news_choices i n w.core) (line_choices i n w.core)
    (both w (local_choices i n w.core ++ block_choices i n w.core ++ image_choices i n w.core) (news_choices i n w.core)
    (both w (local_choices i n w.core ++ block_choices i n w.core) (image_choices i n w.core)
    (both w (local_choices i n w.core) (block_choices i n w.core)
    (local_choices_may w i n at within)
    (block_choices_may w i n at within))
    (image_choices_may w i n at within))
    (news_choices_may w i n at within))
    (line_choices_may w i n at within))
    (recovery_choices_may w i n at within)

-- the steps of the instances from number i on
all_may : (w : World) (insts : List Inst) (i : ℕ) → drop i w.insts ≡ insts → All (MayMake w) (enabled_from i insts w.core)
all_may w [] i e = All-nil (MayMake w)
all_may w (n ∷ insts) i e =
    let long : length (n ∷ insts) ≡ length w.insts - i = ap length (sym e) ∙ length-drop i w.insts in
    let within : i < length w.insts = omega arith in
    let front : get_or w.insts i n ∷ drop (i + 1) w.insts ≡ n ∷ insts = sym (drop_more w.insts i n within) ∙ e in
    let first : get_or w.insts i n ≡ n = cc in
    let rest : drop (i + 1) w.insts ≡ insts = cc in
    let at : slice_get w.insts i ≡ Some n = slice_get-get_or w.insts i n within ∙ ap (λ (m : Inst). Some m) first in
    both w (choices i n w.core) (enabled_from (i + 1) insts w.core) (choices_may w i n at within) (all_may w insts (i + 1) rest)

-- what the next word draws may be made
drawn_may : (g : Lcg) (w : World) (c : Step) (h : Lcg) → IsDrawn g w c h → MayMake w c
drawn_may g w c h drawn =
    let k = (pcg32 g).0 % length (enabled w) in
    let there : get_or (enabled w) k c ≡ c = sym (unwrap_or-slice_get (enabled w) k c) ∙ ap (λ o. unwrap_or o c) drawn.picked in
    subst (MayMake w) there (All-get_or (MayMake w) (enabled w) k c (slice_get_within (enabled w) k c drawn.picked) (all_may w w.insts 0 refl))

-- an instance may crash by a line whose crash is due
crash_needs : (n : Inst) (core : Core) (control : Control) → due_crash core n.plan.me ≡ Some control → needs n core (Line line.Crash control.line) ≡ true
unfolding line_needs
crash_needs n core control is = subst (λ (o : Option Control). is_by_line control.line o ≡ true) (sym is) (eq-eqb control.line control.line refl)

-- the first due crash of the instances from number i on may be made
due_as : (w : World) (insts : List Inst) (i : ℕ) (n : Inst) (c : Step) → slice_get w.insts i ≡ Some n → i < length w.insts → (o : Option Control) → due_crash w.core n.plan.me ≡ o
    → (due_from (i + 1) insts w.core ≡ Some c → MayMake w c) → crash_or i o (due_from (i + 1) insts w.core) ≡ Some c → MayMake w c
due_as w insts i n c at within None is later picked = later picked
due_as w insts i n c at within (Some control) is later picked =
    subst (MayMake w) (some_same (record { inst = i; action = Line line.Crash control.line }) c picked)
    (one_may w i n (Line line.Crash control.line) at within (crash_needs n w.core control is))

due_may : (w : World) (insts : List Inst) (i : ℕ) (c : Step) → drop i w.insts ≡ insts → due_from i insts w.core ≡ Some c → MayMake w c
due_may w [] i c e picked = absurd (none-some c picked)
due_may w (n ∷ insts) i c e picked =
    let long : length (n ∷ insts) ≡ length w.insts - i = ap length (sym e) ∙ length-drop i w.insts in
    let within : i < length w.insts = omega arith in
    let front : get_or w.insts i n ∷ drop (i + 1) w.insts ≡ n ∷ insts = sym (drop_more w.insts i n within) ∙ e in
    let first : get_or w.insts i n ≡ n = cc in
    let rest : drop (i + 1) w.insts ≡ insts = cc in
    let at : slice_get w.insts i ≡ Some n = slice_get-get_or w.insts i n within ∙ ap (λ (m : Inst). Some m) first in
    due_as w insts i n c at within (due_crash w.core n.plan.me) refl (λ (later : due_from (i + 1) insts w.core ≡ Some c). due_may w insts (i + 1) c rest later) picked

picked_as : (g : Lcg) (w : World) (c : Step) (h : Lcg) (o : Option Step) → due w ≡ o → IsPickedBy o g w c h → MayMake w c
picked_as g w c h None is picked = drawn_may g w c h picked
picked_as g w c h (Some crash) is picked =
    due_may w w.insts 0 c refl (is ∙ ap (λ (s : Step). Some s) (sym picked.0))

-- what is picked may be made
pub picked_may : (g : Lcg) (w : World) (c : Step) (h : Lcg) → IsPicked g w c h → MayMake w c
picked_may g w c h picked = picked_as g w c h (due w) refl picked

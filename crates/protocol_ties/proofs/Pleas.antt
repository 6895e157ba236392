-- A master hears of past images and writes, and of pleas for writes.
use Rattle.std.proofs.Common.{◌≡◌, ◌∙◌, ℕ, ◌≤◌, Bool, true, false, cond, List, [], ◌∷◌, ◌++◌, refl, sym, ap, arith}
use Rattle.std.specs.Prelude.{map, flat_map, max, Option, Some, None, nat_le}
use Rattle.std.proofs.lemmas.Bool.{eq-eqb, leb-true}
use Rattle.wire_net.specs.declared.message.Message.TheVariants as messages
use Rattle.wire_net.specs.declared.entry.Holder.{Holder}
use Rattle.wire_net.specs.declared.entry.PastVersions.{PastVersions}
use Rattle.wire_net.specs.declared.entry.Entry.{Entry}
use Rattle.inst_set.specs.Sets.{all_insts}
use Rattle.wire_net.specs.Entry.{grant_of, version_of, versions_above}
use Rattle.resource_dir.specs.Taken.{Taken, telling}
use Rattle.resource_dir.specs.Pasts.{drops_to, wrote, plead, answer_plea}
use Rattle.block_protocol.specs.Block.{Want, Idle, WritePlease, Memo, Please, Wrote, DropPast, Block, Takes, here}
use Rattle.block_protocol.specs.Sound.{OnlyShared}
use Rattle.block_protocol.specs.Steps.{Step, clock_there, hears_written, hears_plea, passes_plea, asks_to_write}
use Rattle.block_protocol.specs.Wire.{Wire, PleaseWire, WroteWire, DropPastWire, WritePleaseWire, of_operation, of_request, of_waiting, gather, of_note, of_memo, flights, Same, more}
use Rattle.block_protocol.proofs.Bags.{Takes-right}
use Rattle.protocol_ties.specs.Messages.{instances, wires_of}
use Rattle.protocol_ties.specs.Entries.{listed_beside}
use Rattle.protocol_ties.specs.MasterRuns.{IsMasters, stays, goes}
use Rattle.protocol_ties.specs.Takes.{HasRoom}
use Rattle.protocol_ties.proofs.Goes.{TiedTo, Goes, goes-then, goes-before, nothing-done}
use Rattle.protocol_ties.proofs.Serves.{hold-grant}
use Rattle.protocol_ties.proofs.Hears.{drops-one}
use Rattle.protocol_ties.proofs.Origins.{memo-taken}

-- past images up to a version that was written may go
pub drops-each : (wires : List Wire) (asks : List (ℕ × Want)) (b limit : ℕ) (past : PastVersions) (entry : Entry) (insts : List ℕ) (s : Block) → TiedTo entry s → (entry.op ≡ None → HasRoom entry) → limit ≤ s.written
    → Same wires (flights instances s) → Same asks (gather of_waiting instances s.request)
    → (k : Goes wires asks (record { entry = entry; sends = flat_map (λ inst. drops_to b limit (version_of past inst) inst) insts }) s) × (k.after.written ≡ s.written)
drops-each wires asks b limit past entry [] s tied room le bag queue = (nothing-done wires asks entry s tied bag queue room, refl)
drops-each wires asks b limit past entry (i ∷ insts) s tied room le bag queue =
    go (version_of past i) (λ ws t tied le bag queue. drops-each ws asks b limit past entry insts t tied room le bag queue)
  where
    go : (o : Option ℕ)
        → ((ws : List Wire) (t : Block) → TiedTo entry t → limit ≤ t.written → Same ws (flights instances t) → Same asks (gather of_waiting instances t.request)
        → (k : Goes ws asks (record { entry = entry; sends = flat_map (λ inst. drops_to b limit (version_of past inst) inst) insts }) t) × (k.after.written ≡ t.written))
        → (k : Goes wires asks (record { entry = entry; sends = drops_to b limit o i ++ flat_map (λ inst. drops_to b limit (version_of past inst) inst) insts }) s) × (k.after.written ≡ s.written)
    go None others = others wires s tied le bag queue
    go (Some v) others = pick (nat_le v limit) refl
      where
        pick : (t : Bool) → nat_le v limit ≡ t → (k : Goes wires asks (record { entry = entry; sends = cond t ((i, messages.DropPast b v) ∷ []) [] ++ flat_map (λ inst. drops_to b limit (version_of past inst) inst) insts }) s) × (k.after.written ≡ s.written)
        pick true is =
            let low : v ≤ limit = leb-true v limit is in
            let rest = others (DropPastWire i v ∷ wires) (record s { memos = DropPast i v ∷ s.memos })
            (record { lists = tied.lists; alone = tied.alone; sized = tied.sized; draws = tied.draws; operation = tied.operation; known = tied.known }) le
            (drops-one wires asks b i v entry s tied room (omega (arith, low, le)) bag queue).bags.0 queue in (
              goes-then wires asks asks (telling entry i (messages.DropPast b v)) (λ e. record { entry = e; sends = flat_map (λ inst. drops_to b limit (version_of past inst) inst) insts }) s
                  (drops-one wires asks b i v entry s tied room (omega (arith, low, le)) bag queue) rest.0,
              rest.1,
            )
        pick false is = others wires s tied le bag queue

written-tied : (version : ℕ) (entry : Entry) (s : Block) (memos : List Memo) → TiedTo entry s
    → TiedTo (record entry { written = max entry.written version; past = versions_above entry.past version }) (record s { written = max s.written version; memos = memos })
written-tied version entry s memos tied = record {
  lists = tied.lists;
  alone = tied.alone;
  sized = tied.sized;
  draws = tied.draws;
  operation = tied.operation;
  known = let known = tied.known in omega (arith, known);
}

module _ (wires : List Wire) (asks : List (ℕ × Want)) (b version : ℕ) (entry : Entry) (s : Block) (tied : TiedTo entry s) (room : entry.op ≡ None → HasRoom entry) (queue : Same asks (gather of_waiting instances s.request)) where
  -- once the version is known to be written
  writes-known : (memos : List Memo) (step : Step s (record s { written = max s.written version; memos = memos })) → IsMasters step → Same wires (flights instances (record s { memos = memos }))
      → (k : Goes wires asks (wrote b version entry) s) × (version ≤ k.after.written)
  writes-known memos step masters bag =
      let all = drops-each wires asks b version entry.past (record entry { written = max entry.written version; past = versions_above entry.past version }) all_insts (record s { written = max s.written version; memos = memos })
      (written-tied version entry s memos tied) room (omega arith) bag queue in
      let same = all.1 in (
        goes-before wires asks (wrote b version entry) s (record s { written = max s.written version; memos = memos }) (goes step masters (stays (record s { written = max s.written version; memos = memos }))) refl all.0,
        omega (arith, same),
      )

  pub goes-wrote : Same (WroteWire version ∷ wires) (flights instances s) → Goes wires asks (wrote b version entry) s
  goes-wrote bag =
      let t = memo-taken (WroteWire version) wires s (Wrote version) refl refl bag in
      (writes-known t.0 (hears_written s version t.0 t.1) tt t.2).0

  -- a plea that was met, or goes to the exclusive holder
  passed : (taken : Taken) (memos : List Memo) → Takes (Please version) s.memos memos → Goes wires asks taken (record s { memos = memos }) → Goes wires asks taken s
  passed taken memos takes k = goes-before wires asks taken s (record s { memos = memos }) (goes (passes_plea s version memos takes) tt (stays (record s { memos = memos }))) refl k

  tied-memos : (memos : List Memo) → TiedTo entry (record s { memos = memos })
  tied-memos memos = record { lists = tied.lists; alone = tied.alone; sized = tied.sized; draws = tied.draws; operation = tied.operation; known = tied.known }

  pub goes-met : (holder : ℕ) → nat_le version entry.written ≡ true → Same (PleaseWire version ∷ wires) (flights instances s) → Goes wires asks (telling entry holder (messages.DropPast b version)) s
  goes-met holder is bag =
      let t = memo-taken (PleaseWire version) wires s (Please version) refl refl bag in
      let low : version ≤ entry.written = leb-true version entry.written is in let known = tied.known in
      passed (telling entry holder (messages.DropPast b version)) t.0 t.1 (drops-one wires asks b holder version entry (record s { memos = t.0 }) (tied-memos t.0) room (omega (arith, low, known)) t.2 queue)

  asks-holder : (x : Holder) (holder : ℕ) (memos : List Memo) → entry.x ≡ Some x → s.op ≡ Idle → Same wires (flights instances (record s { memos = memos })) → Goes wires asks (telling entry x.inst (messages.WritePlease b version holder (Some x.grant))) (record s { memos = memos })
  asks-holder x holder memos e idle bag = record {
    after = record s { notes = WritePlease x.inst x.grant ∷ s.notes; memos = memos };
    run = goes (asks_to_write (record s { memos = memos }) x.inst x.grant idle (tied.lists x.inst ∙ (rw (e, eq-eqb x.inst x.inst refl) refl))) tt (stays (record s { notes = WritePlease x.inst x.grant ∷ s.notes; memos = memos }));
    tied = record { lists = tied.lists; alone = tied.alone; sized = tied.sized; draws = tied.draws; operation = tied.operation; known = tied.known };
    bags = (
      more (WritePleaseWire x.inst x.grant) wires (of_operation s.op ++ (gather of_request instances s.request ++ (WritePleaseWire x.inst x.grant ∷ (map of_note s.notes ++ map of_memo memos)))) (flights instances (record s { memos = memos }))
          (Takes-right (WritePleaseWire x.inst x.grant) (of_operation s.op) (gather of_request instances s.request ++ (WritePleaseWire x.inst x.grant ∷ (map of_note s.notes ++ map of_memo memos))) (gather of_request instances s.request ++ (map of_note s.notes ++ map of_memo memos))
          (Takes-right (WritePleaseWire x.inst x.grant) (gather of_request instances s.request) (WritePleaseWire x.inst x.grant ∷ (map of_note s.notes ++ map of_memo memos)) (map of_note s.notes ++ map of_memo memos) (here (map of_note s.notes ++ map of_memo memos))))
          bag,
      queue,
    );
    beside = refl;
    room = room;
  }

  pub goes-plead : (holder : ℕ) → s.op ≡ Idle → Same (PleaseWire version ∷ wires) (flights instances s) → (o : Option Holder) → entry.x ≡ o → Goes wires asks (plead o b version holder entry) s
  goes-plead holder idle bag (Some x) e =
      let t = memo-taken (PleaseWire version) wires s (Please version) refl refl bag in
      passed (telling entry x.inst (messages.WritePlease b version holder (Some x.grant))) t.0 t.1 (asks-holder x holder t.0 e idle t.2)
  goes-plead holder idle bag None e =
      let t = memo-taken (PleaseWire version) wires s (Please version) refl refl bag in
      let k = writes-known t.0 (hears_plea s version t.0 t.1 idle only) tt t.2 in
      goes-then wires asks asks (wrote b version entry) (λ after. telling after holder (messages.DropPast b version)) s k.0
      (drops-one (wires_of (clock_there s) (wrote b version entry).sends ++ wires) asks b holder version (wrote b version entry).entry k.0.after k.0.tied k.0.room k.1 k.0.bags.0 k.0.bags.1)
    where
      only : OnlyShared s.lists
      only i hold l = (hold-grant (grant_of entry.shared i) hold (sym (tied.lists i ∙ ap (λ o. listed_beside o (grant_of entry.shared i) i) e) ∙ l)).1

  pub goes-plea : (holder : ℕ) → s.op ≡ Idle → Same (PleaseWire version ∷ wires) (flights instances s) → Goes wires asks (answer_plea b version holder entry) s
  goes-plea holder idle bag = go (nat_le version entry.written) refl
    where
      go : (t : Bool) → nat_le version entry.written ≡ t → Goes wires asks (cond t (telling entry holder (messages.DropPast b version)) (plead entry.x b version holder entry)) s
      go true is = goes-met holder is bag
      go false is = goes-plead holder idle bag entry.x refl

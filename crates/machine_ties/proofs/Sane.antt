-- What the messages under way name: instances that there are, modes in which images are held, and versions that were made.
use Rattle.std.proofs.Common.{◌≡◌, ℕ, ◌<◌, ◌≤◌, Bool, true, false, cond, List, [], ◌∷◌, ◌++◌, refl, sym, subst}
use Rattle.std.specs.Prelude.{flat_map, Option, Some, None, nat_le, unwrap_or}
use Rattle.wire_net.specs.declared.message.Mode.{Mode as HoldMode}
use Rattle.wire_net.specs.declared.message.Mode.TheVariants as modes
use Rattle.wire_net.specs.declared.message.Unfound.{Unfound}
use Rattle.wire_net.specs.declared.message.Unfound.TheVariants as unfound
use Rattle.wire_net.specs.declared.message.Message.{Message}
use Rattle.wire_net.specs.declared.message.Message.TheVariants as messages
use Rattle.wire_net.specs.declared.message.Waiting.{Waiting}
use Rattle.wire_net.specs.declared.message.Waiting.TheVariants as waiting
use Rattle.wire_net.specs.declared.entry.Grants.{Grants as GrantTable}
use Rattle.wire_net.specs.declared.entry.Holder.{Holder}
use Rattle.wire_net.specs.declared.entry.PastHolder.{PastHolder}
use Rattle.wire_net.specs.declared.entry.PastVersions.{PastVersions}
use Rattle.wire_net.specs.declared.entry.Operation.{Operation}
use Rattle.wire_net.specs.declared.entry.Entry.{Entry}
use Rattle.inst_set.specs.Sets.{all_insts}
use Rattle.wire_net.specs.Entry.{grant_of, version_of, with_version}
use Rattle.resource_dir.specs.Holders.{other_than, first_sharer, has_other_sharer, is_other_sharer, is_granting, is_number, taken_out}
use Rattle.resource_dir.specs.Taken.{Taken, silent, telling, and_then, where_busy, queued}
use Rattle.resource_dir.specs.Asks.{stepped_out, shared_from, read_beside, invalidates_to, cleared, written_beside, serve, answer, ask, is_clear, go_on_if, go_on_as}
use Rattle.resource_dir.specs.Pasts.{is_superseded, keep, keep_any, keep_any_newer, drops_to, wrote, plead, answer_plea, write_please}
use Rattle.resource_dir.specs.Ends.{gone, ended, entered, done_if, done_as, done, gave_up, ask_anew, hear_back}
use Rattle.resource_dir.specs.Takes.{take_up, drain_all, drain, react, takes}
use Rattle.resource_dir.proofs.DrainLemmas.{take_up-queue}
use Rattle.machine_ties.specs.Sane.{AreSane, AreSaneWaiting, IsSane, IsSaneWaiting}
use Rattle.protocol_ties.proofs.Backs.{gone-queue}
use Rattle.protocol_ties.proofs.Reacts.{done-queue, gave-up-queue}

sane-append : (made : ℕ → ℕ) (xs ys : List (ℕ × Message)) → AreSane made xs → AreSane made ys → AreSane made (xs ++ ys)
sane-append made [] ys a b = b
sane-append made (x ∷ xs) ys a b = (a.0, sane-append made xs ys a.1 b)

sane-wait : (made : ℕ → ℕ) (xs : List Waiting) (w : Waiting) → AreSaneWaiting made xs → IsSaneWaiting made w → AreSaneWaiting made (xs ++ w ∷ [])
sane-wait made [] w a e = (e, tt)
sane-wait made (x ∷ xs) w a e = (a.0, sane-wait made xs w a.1 e)

module _ (b : ℕ) (made : ℕ → ℕ) where
  sane-invalidates : (asker : ℕ) (shared : GrantTable) (insts : List ℕ) → AreSane made (flat_map (invalidates_to b asker shared) insts)
  sane-invalidates asker shared [] = tt
  sane-invalidates asker shared (i ∷ insts) = go (is_other_sharer shared asker i) (sane-invalidates asker shared insts)
    where
      go : (t : Bool) → AreSane made (flat_map (invalidates_to b asker shared) insts) → AreSane made (cond t ((i, messages.Invalidate b (unwrap_or (grant_of shared i) 0)) ∷ []) [] ++ flat_map (invalidates_to b asker shared) insts)
      go true rest = (tt, rest)
      go false rest = rest

  sane-shared : (sharer : Option ℕ) (asker : ℕ) (held : HoldMode) (entry : Entry) → asker < 8 → AreSane made (shared_from sharer b asker held entry).sends
  sane-shared None asker held entry low = (refl, tt)
  sane-shared (Some i) asker held entry low = (low, tt)

  sane-read : (x : Option Holder) (asker : ℕ) (held : HoldMode) (entry : Entry) → asker < 8 → AreSane made (read_beside x b asker held entry).sends
  sane-read None asker held entry low = sane-shared (first_sharer entry.shared) asker held entry low
  sane-read (Some x) asker held entry low = (low, tt)

  sane-cleared : (t : Bool) (asker : ℕ) (held : HoldMode) (entry : Entry) → AreSane made (cleared t b asker held entry).sends
  sane-cleared true asker held entry = sane-invalidates asker entry.shared all_insts
  sane-cleared false asker held entry = (refl, tt)

  sane-written : (x : Option Holder) (asker : ℕ) (held : HoldMode) (entry : Entry) → asker < 8 → AreSane made (written_beside x b asker held entry).sends
  sane-written None asker held entry low = sane-cleared (has_other_sharer entry.shared asker) asker held entry
  sane-written (Some x) asker held entry low = (low, tt)

  sane-serve : (mode : HoldMode) (asker : ℕ) (held : HoldMode) (entry : Entry) → asker < 8 → AreSane made (serve mode b asker held entry).sends
  sane-serve modes.Null asker held entry low = tt
  sane-serve modes.Shared asker held entry low = sane-read (other_than asker entry.x) asker held entry low
  sane-serve modes.Exclusive asker held entry low = sane-written (other_than asker entry.x) asker held entry low

  sane-answer : (mode held : HoldMode) (asker : ℕ) (entry : Entry) → asker < 8 → AreSane made (answer b mode held asker entry).sends
  sane-answer mode held asker entry low = sane-serve mode asker held (stepped_out asker held entry) low

  sane-ask : (mode held : HoldMode) (asker : ℕ) (entry : Entry) → asker < 8 → AreSaneWaiting made entry.queue → AreSane made (ask b mode held asker entry).sends × AreSaneWaiting made (ask b mode held asker entry).entry.queue
  sane-ask mode held asker entry low q = go entry.op
    where
      go : (op : Option Operation) → AreSane made (where_busy op (queued entry (waiting.Ask b mode held asker)) (answer b mode held asker entry)).sends
          × AreSaneWaiting made (where_busy op (queued entry (waiting.Ask b mode held asker)) (answer b mode held asker entry)).entry.queue
      go None = (sane-answer mode held asker entry low, subst (λ l. AreSaneWaiting made l) (sym (take_up-queue (waiting.Ask b mode held asker) entry)) q)
      go (Some op) = (tt, sane-wait made entry.queue (waiting.Ask b mode held asker) q low)

  sane-on : (op : Option Operation) (entry : Entry) → AreSane made (go_on_as op b entry).sends
  sane-on None entry = tt
  sane-on (Some op) entry = go (is_clear op)
    where
      go : (t : Bool) → AreSane made (go_on_if t op b entry).sends
      go true = (refl, tt)
      go false = tt

  sane-gone : (g : ℕ) (entry : Entry) → AreSane made (gone b g entry).sends
  sane-gone g entry = sane-on (taken_out g entry).op (taken_out g entry)

  sane-gave-up : (g : ℕ) (entry : Entry) → AreSane made (gave_up b g entry).sends
  sane-gave-up g entry = go (is_granting entry.op g)
    where
      go : (t : Bool) → AreSane made (cond t (silent (ended entry)) (gone b g entry)).sends
      go true = tt
      go false = sane-gone g entry

  sane-keep : (past : PastHolder) (entry : Entry) → AreSane made (keep b past entry).sends
  sane-keep past entry = go (nat_le past.version entry.written)
    where
      go : (t : Bool) → AreSane made (cond t (telling entry past.inst (messages.DropPast b past.version)) (silent (record entry { past = with_version entry.past past.inst (Some past.version) }))).sends
      go true = (tt, tt)
      go false = tt

  sane-keep-any : (past : Option PastHolder) (entry : Entry) → AreSane made (keep_any b past entry).sends
  sane-keep-any None entry = tt
  sane-keep-any (Some past) entry = sane-keep past entry

  sane-keep-newer : (past : Option PastHolder) (entry : Entry) → AreSane made (keep_any_newer b past entry).sends
  sane-keep-newer None entry = tt
  sane-keep-newer (Some past) entry = go (is_superseded past entry)
    where
      go : (t : Bool) → AreSane made (cond t (silent entry) (keep b past entry)).sends
      go true = tt
      go false = sane-keep past entry

  sane-done : (g : ℕ) (past : Option PastHolder) (entry : Entry) → AreSane made (done b g past entry).sends
  sane-done g past entry = go entry.op
    where
      pick : (op : Operation) (t : Bool) → AreSane made (done_if t op b g past entry).sends
      pick op true = sane-keep-any past (ended (entered op.mode op.asker g entry))
      pick op false = sane-keep-newer past entry

      go : (op : Option Operation) → AreSane made (done_as op b g past entry).sends
      go None = sane-keep-newer past entry
      go (Some op) = pick op (is_number op.grant g)

  sane-drops : (limit : ℕ) (past : PastVersions) (insts : List ℕ) → AreSane made (flat_map (λ inst. drops_to b limit (version_of past inst) inst) insts)
  sane-drops limit past [] = tt
  sane-drops limit past (i ∷ insts) = go (version_of past i) (sane-drops limit past insts)
    where
      pick : (v : ℕ) (t : Bool) → AreSane made (flat_map (λ inst. drops_to b limit (version_of past inst) inst) insts) → AreSane made (cond t ((i, messages.DropPast b v) ∷ []) [] ++ flat_map (λ inst. drops_to b limit (version_of past inst) inst) insts)
      pick v true rest = (tt, rest)
      pick v false rest = rest

      go : (p : Option ℕ) → AreSane made (flat_map (λ inst. drops_to b limit (version_of past inst) inst) insts) → AreSane made (drops_to b limit p i ++ flat_map (λ inst. drops_to b limit (version_of past inst) inst) insts)
      go None rest = rest
      go (Some v) rest = pick v (nat_le v limit) rest

  sane-plead : (x : Option Holder) (version holder : ℕ) (entry : Entry) → (holder < 8) × (version ≤ made b) → AreSane made (plead x b version holder entry).sends
  sane-plead (Some x) version holder entry ok = (ok, tt)
  sane-plead None version holder entry ok = sane-append made (wrote b version entry).sends ((holder, messages.DropPast b version) ∷ []) (sane-drops version entry.past all_insts) (tt, tt)

  plead-queue : (x : Option Holder) (version holder : ℕ) (entry : Entry) → (plead x b version holder entry).entry.queue ≡ entry.queue
  plead-queue None version holder entry = refl
  plead-queue (Some x) version holder entry = refl

  sane-plea : (version holder : ℕ) (entry : Entry) → (holder < 8) × (version ≤ made b) → AreSane made (answer_plea b version holder entry).sends
  sane-plea version holder entry ok = go (nat_le version entry.written)
    where
      go : (t : Bool) → AreSane made (cond t (telling entry holder (messages.DropPast b version)) (plead entry.x b version holder entry)).sends
      go true = (tt, tt)
      go false = sane-plead entry.x version holder entry ok

  sane-please : (version holder : ℕ) (entry : Entry) → (holder < 8) × (version ≤ made b) → AreSaneWaiting made entry.queue → AreSane made (write_please b version holder entry).sends × AreSaneWaiting made (write_please b version holder entry).entry.queue
  sane-please version holder entry ok q = pick (nat_le version entry.written)
    where
      go : (op : Option Operation) → AreSane made (where_busy op (queued entry (waiting.WritePlease b version holder)) (plead entry.x b version holder entry)).sends
          × AreSaneWaiting made (where_busy op (queued entry (waiting.WritePlease b version holder)) (plead entry.x b version holder entry)).entry.queue
      go None = (sane-plead entry.x version holder entry ok, subst (λ l. AreSaneWaiting made l) (sym (plead-queue entry.x version holder entry)) q)
      go (Some op) = (tt, sane-wait made entry.queue (waiting.WritePlease b version holder) q ok)

      pick : (t : Bool) → AreSane made (cond t (telling entry holder (messages.DropPast b version)) (where_busy entry.op (queued entry (waiting.WritePlease b version holder)) (plead entry.x b version holder entry))).sends
          × AreSaneWaiting made (cond t (telling entry holder (messages.DropPast b version)) (where_busy entry.op (queued entry (waiting.WritePlease b version holder)) (plead entry.x b version holder entry))).entry.queue
      pick true = ((tt, tt), q)
      pick false = go entry.op

  sane-anew : (mode : HoldMode) (new asker : ℕ) (entry : Entry) → asker < 8 → AreSaneWaiting made entry.queue → AreSane made (ask_anew b mode new asker entry).sends × AreSaneWaiting made (ask_anew b mode new asker entry).entry.queue
  sane-anew mode new asker entry low q = go (is_granting entry.op new)
    where
      go : (t : Bool) → AreSane made (cond t (answer b mode modes.Null asker (ended entry)) (silent entry)).sends × AreSaneWaiting made (cond t (answer b mode modes.Null asker (ended entry)) (silent entry)).entry.queue
      go true = (sane-answer mode modes.Null asker (ended entry) low, subst (λ l. AreSaneWaiting made l) (sym (take_up-queue (waiting.Ask b mode modes.Null asker) (ended entry))) q)
      go false = (tt, q)

  -- after a grant was given up
  sane-after : (g : ℕ) (entry : Entry) (next : Entry → Taken) → AreSaneWaiting made entry.queue → ((later : Entry) → AreSaneWaiting made later.queue → AreSane made (next later).sends × AreSaneWaiting made (next later).entry.queue)
      → AreSane made (and_then (gave_up b g entry) next).sends × AreSaneWaiting made (and_then (gave_up b g entry) next).entry.queue
  sane-after g entry next q then =
      let k = then (gave_up b g entry).entry (subst (λ l. AreSaneWaiting made l) (sym (gave-up-queue b g entry)) q) in
      (sane-append made (gave_up b g entry).sends (next (gave_up b g entry).entry).sends (sane-gave-up g entry) k.0, k.1)

sane-back : (u : Unfound) (made : ℕ → ℕ) (entry : Entry) → IsSane made (messages.Back u) → AreSaneWaiting made entry.queue → AreSane made (hear_back u entry).sends × AreSaneWaiting made (hear_back u entry).entry.queue
sane-back (unfound.CopyTo b g reader) made entry low q = sane-after b made g entry (ask b modes.Shared modes.Null reader) q (λ later. sane-ask b made modes.Shared modes.Null reader later low)
sane-back (unfound.ShareTo b g new asker) made entry low q = sane-after b made g entry (ask_anew b modes.Shared new asker) q (λ later. sane-anew b made modes.Shared new asker later low)
sane-back (unfound.ShipTo b g new asker) made entry low q = sane-after b made g entry (ask_anew b modes.Exclusive new asker) q (λ later. sane-anew b made modes.Exclusive new asker later low)
sane-back (unfound.WritePlease b g version holder) made entry ok q = sane-after b made g entry (write_please b version holder) q (λ later. sane-please b made version holder later ok)

sane-react : (message : Message) (made : ℕ → ℕ) (entry : Entry) → IsSane made message → AreSaneWaiting made entry.queue → AreSane made (react message entry).sends × AreSaneWaiting made (react message entry).entry.queue
sane-react (messages.Ask b mode held asker) made entry ok q = sane-ask b made mode held asker entry ok.0 q
sane-react (messages.Gone b g) made entry ok q = (sane-gone b made g entry, subst (λ l. AreSaneWaiting made l) (sym (gone-queue b g entry)) q)
sane-react (messages.Done b g m past) made entry ok q = (sane-done b made g past entry, subst (λ l. AreSaneWaiting made l) (sym (done-queue b g past entry)) q)
sane-react (messages.GaveUp b g) made entry ok q = (sane-gave-up b made g entry, subst (λ l. AreSaneWaiting made l) (sym (gave-up-queue b g entry)) q)
sane-react (messages.Back u) made entry ok q = sane-back u made entry ok q
sane-react (messages.Wrote b version) made entry ok q = (sane-drops b made version entry.past all_insts, q)
sane-react (messages.WritePlease b version holder None) made entry ok q = sane-please b made version holder entry ok q
sane-react (messages.WritePlease b version holder (Some g)) made entry ok q = (tt, q)
sane-react _ made entry ok q = (tt, q)

sane-up : (w : Waiting) (made : ℕ → ℕ) (entry : Entry) → IsSaneWaiting made w → AreSane made (take_up w entry).sends
sane-up (waiting.Ask b mode held asker) made entry ok = sane-answer b made mode held asker entry ok
sane-up (waiting.WritePlease b version holder) made entry ok = sane-plea b made version holder entry ok

sane-drain : (queue : List Waiting) (made : ℕ → ℕ) (entry : Entry) → AreSaneWaiting made queue → AreSane made (drain_all queue entry).sends × AreSaneWaiting made (drain_all queue entry).entry.queue
sane-drain [] made entry q = (tt, tt)
sane-drain (w ∷ rest) made entry q = go entry.op (sane-drain rest made (take_up w (record entry { queue = rest })).entry q.1)
  where
    go : (op : Option Operation) → AreSane made (drain_all rest (take_up w (record entry { queue = rest })).entry).sends × AreSaneWaiting made (drain_all rest (take_up w (record entry { queue = rest })).entry).entry.queue
        → AreSane made (where_busy op (silent (record entry { queue = w ∷ rest })) (and_then (take_up w (record entry { queue = rest })) (drain_all rest))).sends
        × AreSaneWaiting made (where_busy op (silent (record entry { queue = w ∷ rest })) (and_then (take_up w (record entry { queue = rest })) (drain_all rest))).entry.queue
    go None k = (sane-append made (take_up w (record entry { queue = rest })).sends (drain_all rest (take_up w (record entry { queue = rest })).entry).sends (sane-up w made (record entry { queue = rest }) q.0) k.0, k.1)
    go (Some op) k = (tt, q)

-- what a master sends is sane where the message is and what waits
pub sane-takes : (message : Message) (made : ℕ → ℕ) (entry : Entry) → IsSane made message → AreSaneWaiting made entry.queue → AreSane made (takes entry message).sends × AreSaneWaiting made (takes entry message).entry.queue
sane-takes message made entry ok q =
    let k = sane-react message made entry ok q in
    let m = sane-drain (react message entry).entry.queue made (react message entry).entry k.1 in
    (sane-append made (react message entry).sends (drain (react message entry).entry).sends k.0 m.0, m.1)

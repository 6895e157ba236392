-- A master sends to the instances alone, and its entry names no others.
use Rattle.std.proofs.Common.{◌≡◌, ℕ, ◌<◌, Bool, true, false, cond, List, [], ◌∷◌, ◌++◌, refl, subst, arith, eqb}
use Rattle.std.specs.Prelude.{flat_map, find, Option, Some, None, nat_le, unwrap_or}
use Rattle.std.specs.List.{AllByRecursion}
use Rattle.wire_net.specs.declared.message.Mode.{Mode as HoldMode}
use Rattle.wire_net.specs.declared.message.Mode.TheVariants as modes
use Rattle.wire_net.specs.declared.message.Unfound.{Unfound}
use Rattle.wire_net.specs.declared.message.Unfound.TheVariants as unfound
use Rattle.wire_net.specs.declared.message.Message.{Message}
use Rattle.wire_net.specs.declared.message.Message.TheVariants as messages
use Rattle.wire_net.specs.declared.message.Waiting.{Waiting}
use Rattle.wire_net.specs.declared.message.Waiting.TheVariants as waiting
use Rattle.wire_net.specs.declared.entry.Grants.{Grants as GrantTable}
use Rattle.wire_net.specs.declared.entry.Holder.{Holder}
use Rattle.wire_net.specs.declared.entry.PastHolder.{PastHolder}
use Rattle.wire_net.specs.declared.entry.PastVersions.{PastVersions}
use Rattle.wire_net.specs.declared.entry.Operation.{Operation}
use Rattle.wire_net.specs.declared.entry.Entry.{Entry}
use Rattle.inst_set.specs.Sets.{all_insts}
use Rattle.wire_net.specs.Entry.{grant_of, version_of, with_version}
use Rattle.resource_dir.specs.Holders.{other_than, under_other, first_sharer, is_sharer, sharer_under, unwaited, has_other_sharer, is_other_sharer, is_granting, is_number, taken_out}
use Rattle.resource_dir.specs.Taken.{Taken, silent, telling, and_then, where_busy, queued}
use Rattle.resource_dir.specs.Asks.{stepped_out, shared_from, read_beside, invalidates_to, cleared, written_beside, serve, answer, ask, is_clear, go_on_if, go_on_as}
use Rattle.resource_dir.specs.Pasts.{is_superseded, keep, keep_any, keep_any_newer, drops_to, wrote, plead, answer_plea, write_please}
use Rattle.resource_dir.specs.Ends.{gone, ended, entered, done_if, done_as, done, gave_up, ask_anew, hear_back}
use Rattle.resource_dir.specs.Takes.{take_up, drain_all, drain, react, takes}
use Rattle.protocol_ties.specs.Messages.{instances}
use Rattle.protocol_ties.specs.Numbered.{IsHolderNumbered, IsAskerNumbered, IsWaitingNumbered, IsNumbered, IsPastNumbered, IsUnfoundNumbered, IsMessageNumbered, AreReached}

-- what is sent and the entry after
abbrev pub Numbered : Taken → Type 0
Numbered taken = AreReached taken.sends × IsNumbered taken.entry

reach-append : (xs ys : List (ℕ × Message)) → AreReached xs → AreReached ys → AreReached (xs ++ ys)
reach-append [] ys a b = b
reach-append (x ∷ xs) ys a b = (a.0, reach-append xs ys a.1 b)

wait-append : (xs : List Waiting) (w : Waiting) → AllByRecursion IsWaitingNumbered xs → IsWaitingNumbered w → AllByRecursion IsWaitingNumbered (xs ++ w ∷ [])
wait-append [] w a e = (e, tt)
wait-append (x ∷ xs) w a e = (a.0, wait-append xs w a.1 e)

numbered-then : (first : Taken) (next : Entry → Taken) → Numbered first → Numbered (next first.entry) → Numbered (and_then first next)
numbered-then first next one two = (reach-append first.sends (next first.entry).sends one.0 two.0, two.1)

-- the numbers of all instances are below eight
all-low : AllByRecursion (λ i. i < instances) all_insts
all-low = (omega arith, (omega arith, (omega arith, (omega arith, (omega arith, (omega arith, (omega arith, (omega arith, tt))))))))

find-low : (p : ℕ → Bool) (xs : List ℕ) → AllByRecursion (λ i. i < instances) xs → (i : ℕ) → find p xs ≡ Some i → i < instances
find-low p [] a i e = absurd (let clash : ◌≡◌ {A = Option ℕ} None (Some i) = e in cc)
find-low p (x ∷ xs) a i e = go (p x) e (find-low p xs a.1 i)
  where
    go : (t : Bool) → cond t (Some x) (find p xs) ≡ Some i → (find p xs ≡ Some i → i < instances) → i < instances
    go true f rest = let same : x ≡ i = cc in subst (λ k. k < instances) same a.0
    go false f rest = rest f

other-low : (asker : ℕ) (x : Option Holder) → IsHolderNumbered x → IsHolderNumbered (other_than asker x)
other-low asker None h = tt
other-low asker (Some k) h = go (eqb k.inst asker)
  where
    go : (t : Bool) → IsHolderNumbered (cond t None (Some k))
    go true = tt
    go false = h

under-low : (g : ℕ) (x : Option Holder) → IsHolderNumbered x → IsHolderNumbered (under_other g x)
under-low g None h = tt
under-low g (Some k) h = go (eqb k.grant g)
  where
    go : (t : Bool) → IsHolderNumbered (cond t None (Some k))
    go true = tt
    go false = h

unwaited-low : (op : Option Operation) (o : Option ℕ) → IsAskerNumbered op → IsAskerNumbered (unwaited op o)
unwaited-low None o a = tt
unwaited-low (Some op) None a = a
unwaited-low (Some op) (Some i) a = a

out-low : (g : ℕ) (entry : Entry) → IsNumbered entry → IsNumbered (taken_out g entry)
out-low g entry n = (under-low g entry.x n.0, unwaited-low entry.op (sharer_under entry.shared g) n.1, n.2)

module _ (b : ℕ) where
  reach-invalidates : (asker : ℕ) (shared : GrantTable) (insts : List ℕ) → AllByRecursion (λ i. i < instances) insts → AreReached (flat_map (invalidates_to b asker shared) insts)
  reach-invalidates asker shared [] a = tt
  reach-invalidates asker shared (i ∷ insts) a = go (is_other_sharer shared asker i) (reach-invalidates asker shared insts a.1)
    where
      go : (t : Bool) → AreReached (flat_map (invalidates_to b asker shared) insts) → AreReached (cond t ((i, messages.Invalidate b (unwrap_or (grant_of shared i) 0)) ∷ []) [] ++ flat_map (invalidates_to b asker shared) insts)
      go true rest = (a.0, rest)
      go false rest = rest

  num-shared : (sharer : Option ℕ) (asker : ℕ) (held : HoldMode) (entry : Entry) → first_sharer entry.shared ≡ sharer → asker < instances → IsNumbered entry → Numbered (shared_from sharer b asker held entry)
  num-shared None asker held entry e lt n = ((lt, tt), (n.0, lt, n.2))
  num-shared (Some i) asker held entry e lt n = ((find-low (is_sharer entry.shared) all_insts all-low i e, tt), (n.0, lt, n.2))

  num-read : (x : Option Holder) (asker : ℕ) (held : HoldMode) (entry : Entry) → IsHolderNumbered x → asker < instances → IsNumbered entry → Numbered (read_beside x b asker held entry)
  num-read None asker held entry h lt n = num-shared (first_sharer entry.shared) asker held entry refl lt n
  num-read (Some x) asker held entry h lt n = ((h, tt), n)

  num-cleared : (t : Bool) (asker : ℕ) (held : HoldMode) (entry : Entry) → asker < instances → IsNumbered entry → Numbered (cleared t b asker held entry)
  num-cleared true asker held entry lt n = (reach-invalidates asker entry.shared all_insts all-low, (n.0, lt, n.2))
  num-cleared false asker held entry lt n = ((lt, tt), (n.0, lt, n.2))

  num-written : (x : Option Holder) (asker : ℕ) (held : HoldMode) (entry : Entry) → IsHolderNumbered x → asker < instances → IsNumbered entry → Numbered (written_beside x b asker held entry)
  num-written None asker held entry h lt n = num-cleared (has_other_sharer entry.shared asker) asker held entry lt n
  num-written (Some x) asker held entry h lt n = ((h, tt), (n.0, lt, n.2))

  num-serve : (mode : HoldMode) (asker : ℕ) (held : HoldMode) (entry : Entry) → asker < instances → IsNumbered entry → Numbered (serve mode b asker held entry)
  num-serve modes.Null asker held entry lt n = (tt, n)
  num-serve modes.Shared asker held entry lt n = num-read (other_than asker entry.x) asker held entry (other-low asker entry.x n.0) lt n
  num-serve modes.Exclusive asker held entry lt n = num-written (other_than asker entry.x) asker held entry (other-low asker entry.x n.0) lt n

  num-stepped : (asker : ℕ) (held : HoldMode) (entry : Entry) → IsNumbered entry → IsNumbered (stepped_out asker held entry)
  num-stepped asker modes.Null entry n = (other-low asker entry.x n.0, n.1, n.2)
  num-stepped asker modes.Shared entry n = n
  num-stepped asker modes.Exclusive entry n = n

  num-answer : (mode held : HoldMode) (asker : ℕ) (entry : Entry) → asker < instances → IsNumbered entry → Numbered (answer b mode held asker entry)
  num-answer mode held asker entry lt n = num-serve mode asker held (stepped_out asker held entry) lt (num-stepped asker held entry n)

  num-ask : (mode held : HoldMode) (asker : ℕ) (entry : Entry) → asker < instances → IsNumbered entry → Numbered (ask b mode held asker entry)
  num-ask mode held asker entry lt n = go entry.op
    where
      go : (op : Option Operation) → Numbered (where_busy op (queued entry (waiting.Ask b mode held asker)) (answer b mode held asker entry))
      go None = num-answer mode held asker entry lt n
      go (Some op) = (tt, (n.0, n.1, wait-append entry.queue (waiting.Ask b mode held asker) n.2 lt))

  num-on : (op : Option Operation) (entry : Entry) → IsAskerNumbered op → IsNumbered entry → Numbered (go_on_as op b entry)
  num-on None entry a n = (tt, n)
  num-on (Some op) entry a n = go (is_clear op)
    where
      go : (t : Bool) → Numbered (go_on_if t op b entry)
      go true = ((a, tt), (n.0, a, n.2))
      go false = (tt, n)

  num-gone : (g : ℕ) (entry : Entry) → IsNumbered entry → Numbered (gone b g entry)
  num-gone g entry n = let out = out-low g entry n in num-on (taken_out g entry).op (taken_out g entry) out.1 out

  num-gave-up : (g : ℕ) (entry : Entry) → IsNumbered entry → Numbered (gave_up b g entry)
  num-gave-up g entry n = go (is_granting entry.op g)
    where
      go : (t : Bool) → Numbered (cond t (silent (ended entry)) (gone b g entry))
      go true = (tt, (n.0, tt, n.2))
      go false = num-gone g entry n

  num-keep : (past : PastHolder) (entry : Entry) → past.inst < instances → IsNumbered entry → Numbered (keep b past entry)
  num-keep past entry lt n = go (nat_le past.version entry.written)
    where
      go : (t : Bool) → Numbered (cond t (telling entry past.inst (messages.DropPast b past.version)) (silent (record entry { past = with_version entry.past past.inst (Some past.version) })))
      go true = ((lt, tt), n)
      go false = (tt, n)

  num-keep-any : (past : Option PastHolder) (entry : Entry) → IsPastNumbered past → IsNumbered entry → Numbered (keep_any b past entry)
  num-keep-any None entry p n = (tt, n)
  num-keep-any (Some past) entry p n = num-keep past entry p n

  num-keep-newer : (past : Option PastHolder) (entry : Entry) → IsPastNumbered past → IsNumbered entry → Numbered (keep_any_newer b past entry)
  num-keep-newer None entry p n = (tt, n)
  num-keep-newer (Some past) entry p n = go (is_superseded past entry)
    where
      go : (t : Bool) → Numbered (cond t (silent entry) (keep b past entry))
      go true = (tt, n)
      go false = num-keep past entry p n

  num-entered : (mode : HoldMode) (i g : ℕ) (entry : Entry) → i < instances → IsNumbered entry → IsNumbered (ended (entered mode i g entry))
  num-entered modes.Null i g entry lt n = (n.0, tt, n.2)
  num-entered modes.Shared i g entry lt n = (n.0, tt, n.2)
  num-entered modes.Exclusive i g entry lt n = (lt, tt, n.2)

  num-done : (g : ℕ) (past : Option PastHolder) (entry : Entry) → IsPastNumbered past → IsNumbered entry → Numbered (done b g past entry)
  num-done g past entry p n = go entry.op n.1
    where
      pick : (op : Operation) → op.asker < instances → (t : Bool) → Numbered (done_if t op b g past entry)
      pick op a true = num-keep-any past (ended (entered op.mode op.asker g entry)) p (num-entered op.mode op.asker g entry a n)
      pick op a false = num-keep-newer past entry p n

      go : (op : Option Operation) → IsAskerNumbered op → Numbered (done_as op b g past entry)
      go None a = num-keep-newer past entry p n
      go (Some op) a = pick op a (is_number op.grant g)

  reach-drops : (limit : ℕ) (past : PastVersions) (insts : List ℕ) → AllByRecursion (λ i. i < instances) insts → AreReached (flat_map (λ inst. drops_to b limit (version_of past inst) inst) insts)
  reach-drops limit past [] a = tt
  reach-drops limit past (i ∷ insts) a = go (version_of past i) (reach-drops limit past insts a.1)
    where
      pick : (v : ℕ) (t : Bool) → AreReached (flat_map (λ inst. drops_to b limit (version_of past inst) inst) insts) → AreReached (cond t ((i, messages.DropPast b v) ∷ []) [] ++ flat_map (λ inst. drops_to b limit (version_of past inst) inst) insts)
      pick v true rest = (a.0, rest)
      pick v false rest = rest

      go : (p : Option ℕ) → AreReached (flat_map (λ inst. drops_to b limit (version_of past inst) inst) insts) → AreReached (drops_to b limit p i ++ flat_map (λ inst. drops_to b limit (version_of past inst) inst) insts)
      go None rest = rest
      go (Some v) rest = pick v (nat_le v limit) rest

  num-wrote : (version : ℕ) (entry : Entry) → IsNumbered entry → Numbered (wrote b version entry)
  num-wrote version entry n = (reach-drops version entry.past all_insts all-low, n)

  num-plead : (x : Option Holder) (version holder : ℕ) (entry : Entry) → IsHolderNumbered x → holder < instances → IsNumbered entry → Numbered (plead x b version holder entry)
  num-plead (Some x) version holder entry h lt n = ((h, tt), n)
  num-plead None version holder entry h lt n = numbered-then (wrote b version entry) (λ after. telling after holder (messages.DropPast b version)) (num-wrote version entry n) ((lt, tt), n)

  num-plea : (version holder : ℕ) (entry : Entry) → holder < instances → IsNumbered entry → Numbered (answer_plea b version holder entry)
  num-plea version holder entry lt n = go (nat_le version entry.written)
    where
      go : (t : Bool) → Numbered (cond t (telling entry holder (messages.DropPast b version)) (plead entry.x b version holder entry))
      go true = ((lt, tt), n)
      go false = num-plead entry.x version holder entry n.0 lt n

  num-please : (version holder : ℕ) (entry : Entry) → holder < instances → IsNumbered entry → Numbered (write_please b version holder entry)
  num-please version holder entry lt n = pick (nat_le version entry.written)
    where
      go : (op : Option Operation) → Numbered (where_busy op (queued entry (waiting.WritePlease b version holder)) (plead entry.x b version holder entry))
      go None = num-plead entry.x version holder entry n.0 lt n
      go (Some op) = (tt, (n.0, n.1, wait-append entry.queue (waiting.WritePlease b version holder) n.2 lt))

      pick : (t : Bool) → Numbered (cond t (telling entry holder (messages.DropPast b version)) (where_busy entry.op (queued entry (waiting.WritePlease b version holder)) (plead entry.x b version holder entry)))
      pick true = ((lt, tt), n)
      pick false = go entry.op

  num-anew : (mode : HoldMode) (new asker : ℕ) (entry : Entry) → asker < instances → IsNumbered entry → Numbered (ask_anew b mode new asker entry)
  num-anew mode new asker entry lt n = go (is_granting entry.op new)
    where
      go : (t : Bool) → Numbered (cond t (answer b mode modes.Null asker (ended entry)) (silent entry))
      go true = num-answer mode modes.Null asker (ended entry) lt (n.0, tt, n.2)
      go false = (tt, n)

num-back : (u : Unfound) (entry : Entry) → IsUnfoundNumbered u → IsNumbered entry → Numbered (hear_back u entry)
num-back (unfound.CopyTo b g reader) entry lt n = let first = num-gave-up b g entry n in numbered-then (gave_up b g entry) (ask b modes.Shared modes.Null reader) first (num-ask b modes.Shared modes.Null reader (gave_up b g entry).entry lt first.1)
num-back (unfound.ShareTo b g new asker) entry lt n = let first = num-gave-up b g entry n in numbered-then (gave_up b g entry) (ask_anew b modes.Shared new asker) first (num-anew b modes.Shared new asker (gave_up b g entry).entry lt first.1)
num-back (unfound.ShipTo b g new asker) entry lt n = let first = num-gave-up b g entry n in numbered-then (gave_up b g entry) (ask_anew b modes.Exclusive new asker) first (num-anew b modes.Exclusive new asker (gave_up b g entry).entry lt first.1)
num-back (unfound.WritePlease b g version holder) entry lt n = let first = num-gave-up b g entry n in numbered-then (gave_up b g entry) (write_please b version holder) first (num-please b version holder (gave_up b g entry).entry lt first.1)

num-react : (message : Message) (entry : Entry) → IsMessageNumbered message → IsNumbered entry → Numbered (react message entry)
num-react (messages.Ask b mode held asker) entry m n = num-ask b mode held asker entry m n
num-react (messages.Gone b g) entry m n = num-gone b g entry n
num-react (messages.Done b g mode past) entry m n = num-done b g past entry m n
num-react (messages.GaveUp b g) entry m n = num-gave-up b g entry n
num-react (messages.Back u) entry m n = num-back u entry m n
num-react (messages.Wrote b version) entry m n = num-wrote b version entry n
num-react (messages.WritePlease b version holder None) entry m n = num-please b version holder entry m n
num-react (messages.WritePlease b version holder (Some g)) entry m n = (tt, n)
num-react _ entry m n = (tt, n)

num-up : (w : Waiting) (entry : Entry) → IsWaitingNumbered w → IsNumbered entry → Numbered (take_up w entry)
num-up (waiting.Ask b mode held asker) entry w n = num-answer b mode held asker entry w n
num-up (waiting.WritePlease b version holder) entry w n = num-plea b version holder entry w n

num-drain : (queue : List Waiting) (entry : Entry) → AllByRecursion IsWaitingNumbered queue → IsHolderNumbered entry.x → IsAskerNumbered entry.op → Numbered (drain_all queue entry)
num-drain [] entry q h a = (tt, (h, a, tt))
num-drain (w ∷ rest) entry q h a =
    let one = num-up w (record entry { queue = rest }) q.0 (h, a, q.1) in
    go entry.op (numbered-then (take_up w (record entry { queue = rest })) (drain_all rest) one (num-drain rest (take_up w (record entry { queue = rest })).entry q.1 one.1.0 one.1.1))
  where
    go : (op : Option Operation) → Numbered (and_then (take_up w (record entry { queue = rest })) (drain_all rest)) → Numbered (where_busy op (silent (record entry { queue = w ∷ rest })) (and_then (take_up w (record entry { queue = rest })) (drain_all rest)))
    go None k = k
    go (Some op) k = (tt, (h, a, q))

pub num-takes : (message : Message) (entry : Entry) → IsMessageNumbered message → IsNumbered entry → Numbered (takes entry message)
num-takes message entry m n =
    let k = num-react message entry m n in
    numbered-then (react message entry) drain k (num-drain (react message entry).entry.queue (react message entry).entry k.1.2 k.1.0 k.1.1)

-- How many grants a master draws as it takes a message.
use Rattle.std.proofs.Common.{◌≡◌, ◌∙◌, ℕ, ◌+◌, ◌≤◌, Bool, true, false, cond, List, [], ◌∷◌, refl, ap, subst, arith, ◌⊎◌, inl, inr}
use Rattle.std.specs.Prelude.{is_some, Option, Some, None, nat_le}
use Rattle.wire_net.specs.declared.message.Mode.{Mode as HoldMode}
use Rattle.wire_net.specs.declared.message.Mode.TheVariants as modes
use Rattle.wire_net.specs.declared.message.Unfound.{Unfound}
use Rattle.wire_net.specs.declared.message.Unfound.TheVariants as unfound
use Rattle.wire_net.specs.declared.message.Message.{Message}
use Rattle.wire_net.specs.declared.message.Message.TheVariants as messages
use Rattle.wire_net.specs.declared.message.Waiting.{Waiting}
use Rattle.wire_net.specs.declared.message.Waiting.TheVariants as waiting
use Rattle.wire_net.specs.declared.entry.Holder.{Holder}
use Rattle.wire_net.specs.declared.entry.PastHolder.{PastHolder}
use Rattle.wire_net.specs.declared.entry.Operation.{Operation}
use Rattle.wire_net.specs.declared.entry.Entry.{Entry}
use Rattle.wire_net.specs.Entry.{with_version}
use Rattle.resource_dir.specs.Holders.{first_sharer, grant_after, has_other_sharer, is_granting, is_number, other_than, taken_out}
use Rattle.resource_dir.specs.Taken.{Taken, and_then, queued, silent, telling, where_busy}
use Rattle.resource_dir.specs.Asks.{answer, ask, cleared, go_on_as, go_on_if, is_clear, read_beside, serve, shared_from, stepped_out, written_beside}
use Rattle.resource_dir.specs.Pasts.{answer_plea, is_superseded, keep, keep_any, keep_any_newer, plead, write_please, wrote}
use Rattle.resource_dir.specs.Ends.{ask_anew, done, done_as, done_if, ended, entered, gave_up, gone, hear_back}
use Rattle.resource_dir.specs.Takes.{drain, drain_all, react, take_up, takes}

-- a grant is drawn for an operation that is under way then, or none is drawn
abbrev Drew : Entry → Entry → Type 0
Drew entry later = (later.next_grant ≡ entry.next_grant) ⊎ ((later.next_grant ≤ entry.next_grant + 1) × (is_some later.op ≡ true))

after-one : (g : ℕ) → grant_after g ≤ g + 1
after-one g = grind (arith)

module _ (b : ℕ) where
  drew-shared : (sharer : Option ℕ) (asker : ℕ) (held : HoldMode) (entry : Entry) → Drew entry (shared_from sharer b asker held entry).entry
  drew-shared None asker held entry = inr (after-one entry.next_grant, refl)
  drew-shared (Some i) asker held entry = inr (after-one entry.next_grant, refl)

  drew-read : (x : Option Holder) (asker : ℕ) (held : HoldMode) (entry : Entry) → Drew entry (read_beside x b asker held entry).entry
  drew-read None asker held entry = drew-shared (first_sharer entry.shared) asker held entry
  drew-read (Some x) asker held entry = inl refl

  drew-cleared : (t : Bool) (asker : ℕ) (held : HoldMode) (entry : Entry) → Drew entry (cleared t b asker held entry).entry
  drew-cleared true asker held entry = inl refl
  drew-cleared false asker held entry = inr (after-one entry.next_grant, refl)

  drew-written : (x : Option Holder) (asker : ℕ) (held : HoldMode) (entry : Entry) → Drew entry (written_beside x b asker held entry).entry
  drew-written None asker held entry = drew-cleared (has_other_sharer entry.shared asker) asker held entry
  drew-written (Some x) asker held entry = inr (after-one entry.next_grant, refl)

  drew-serve : (mode : HoldMode) (asker : ℕ) (held : HoldMode) (entry : Entry) → Drew entry (serve mode b asker held entry).entry
  drew-serve modes.Null asker held entry = inl refl
  drew-serve modes.Shared asker held entry = drew-read (other_than asker entry.x) asker held entry
  drew-serve modes.Exclusive asker held entry = drew-written (other_than asker entry.x) asker held entry

  stepped-grant : (asker : ℕ) (held : HoldMode) (entry : Entry) → (stepped_out asker held entry).next_grant ≡ entry.next_grant
  stepped-grant asker modes.Null entry = refl
  stepped-grant asker modes.Shared entry = refl
  stepped-grant asker modes.Exclusive entry = refl

  drew-answer : (mode held : HoldMode) (asker : ℕ) (entry : Entry) → Drew entry (answer b mode held asker entry).entry
  drew-answer mode held asker entry =
      subst (λ (g : ℕ). ((answer b mode held asker entry).entry.next_grant ≡ g) ⊎ (((answer b mode held asker entry).entry.next_grant ≤ g + 1) × (is_some (answer b mode held asker entry).entry.op ≡ true)))
      (stepped-grant asker held entry) (drew-serve mode asker held (stepped_out asker held entry))

  -- at most one more
  drew-most : (entry later : Entry) → Drew entry later → later.next_grant ≤ entry.next_grant + 1
  drew-most entry later (inl e) = let same : later.next_grant ≡ entry.next_grant = e in omega (arith, same)
  drew-most entry later (inr p) = p.0

  most-ask : (mode held : HoldMode) (asker : ℕ) (entry : Entry) → (ask b mode held asker entry).entry.next_grant ≤ entry.next_grant + 1
  most-ask mode held asker entry = go entry.op
    where
      go : (op : Option Operation) → (where_busy op (queued entry (waiting.Ask b mode held asker)) (answer b mode held asker entry)).entry.next_grant ≤ entry.next_grant + 1
      go None = drew-most entry (answer b mode held asker entry).entry (drew-answer mode held asker entry)
      go (Some op) = omega arith

  most-on : (op : Option Operation) (entry : Entry) → (go_on_as op b entry).entry.next_grant ≤ entry.next_grant + 1
  most-on None entry = omega arith
  most-on (Some op) entry = go (is_clear op)
    where
      go : (t : Bool) → (go_on_if t op b entry).entry.next_grant ≤ entry.next_grant + 1
      go true = after-one entry.next_grant
      go false = omega arith

  most-gone : (g : ℕ) (entry : Entry) → (gone b g entry).entry.next_grant ≤ entry.next_grant + 1
  most-gone g entry = most-on (taken_out g entry).op (taken_out g entry)

  most-gave-up : (g : ℕ) (entry : Entry) → (gave_up b g entry).entry.next_grant ≤ entry.next_grant + 1
  most-gave-up g entry = go (is_granting entry.op g)
    where
      go : (t : Bool) → (cond t (silent (ended entry)) (gone b g entry)).entry.next_grant ≤ entry.next_grant + 1
      go true = omega arith
      go false = most-gone g entry

  same-keep : (past : PastHolder) (entry : Entry) → (keep b past entry).entry.next_grant ≡ entry.next_grant
  same-keep past entry = go (nat_le past.version entry.written)
    where
      go : (t : Bool) → (cond t (telling entry past.inst (messages.DropPast b past.version)) (silent (record entry { past = with_version entry.past past.inst (Some past.version) }))).entry.next_grant ≡ entry.next_grant
      go true = refl
      go false = refl

  same-keep-any : (past : Option PastHolder) (entry : Entry) → (keep_any b past entry).entry.next_grant ≡ entry.next_grant
  same-keep-any None entry = refl
  same-keep-any (Some past) entry = same-keep past entry

  same-keep-newer : (past : Option PastHolder) (entry : Entry) → (keep_any_newer b past entry).entry.next_grant ≡ entry.next_grant
  same-keep-newer None entry = refl
  same-keep-newer (Some past) entry = go (is_superseded past entry)
    where
      go : (t : Bool) → (cond t (silent entry) (keep b past entry)).entry.next_grant ≡ entry.next_grant
      go true = refl
      go false = same-keep past entry

  entered-grant : (mode : HoldMode) (inst g : ℕ) (entry : Entry) → (entered mode inst g entry).next_grant ≡ entry.next_grant
  entered-grant modes.Null inst g entry = refl
  entered-grant modes.Shared inst g entry = refl
  entered-grant modes.Exclusive inst g entry = refl

  same-done : (g : ℕ) (past : Option PastHolder) (entry : Entry) → (done b g past entry).entry.next_grant ≡ entry.next_grant
  same-done g past entry = go entry.op
    where
      pick : (op : Operation) (t : Bool) → (done_if t op b g past entry).entry.next_grant ≡ entry.next_grant
      pick op true = same-keep-any past (ended (entered op.mode op.asker g entry)) ∙ entered-grant op.mode op.asker g entry
      pick op false = same-keep-newer past entry

      go : (op : Option Operation) → (done_as op b g past entry).entry.next_grant ≡ entry.next_grant
      go None = same-keep-newer past entry
      go (Some op) = pick op (is_number op.grant g)

  same-plead : (x : Option Holder) (version holder : ℕ) (entry : Entry) → (plead x b version holder entry).entry.next_grant ≡ entry.next_grant
  same-plead (Some x) version holder entry = refl
  same-plead None version holder entry = refl

  same-plea : (version holder : ℕ) (entry : Entry) → (answer_plea b version holder entry).entry.next_grant ≡ entry.next_grant
  same-plea version holder entry = go (nat_le version entry.written)
    where
      go : (t : Bool) → (cond t (telling entry holder (messages.DropPast b version)) (plead entry.x b version holder entry)).entry.next_grant ≡ entry.next_grant
      go true = refl
      go false = same-plead entry.x version holder entry

  same-please : (version holder : ℕ) (entry : Entry) → (write_please b version holder entry).entry.next_grant ≡ entry.next_grant
  same-please version holder entry = pick (nat_le version entry.written)
    where
      go : (op : Option Operation) → (where_busy op (queued entry (waiting.WritePlease b version holder)) (plead entry.x b version holder entry)).entry.next_grant ≡ entry.next_grant
      go None = same-plead entry.x version holder entry
      go (Some op) = refl

      pick : (t : Bool) → (cond t (telling entry holder (messages.DropPast b version)) (where_busy entry.op (queued entry (waiting.WritePlease b version holder)) (plead entry.x b version holder entry))).entry.next_grant ≡ entry.next_grant
      pick true = refl
      pick false = go entry.op

  most-anew : (mode : HoldMode) (new asker : ℕ) (entry : Entry) → (ask_anew b mode new asker entry).entry.next_grant ≤ entry.next_grant + 1
  most-anew mode new asker entry = go (is_granting entry.op new)
    where
      go : (t : Bool) → (cond t (answer b mode modes.Null asker (ended entry)) (silent entry)).entry.next_grant ≤ entry.next_grant + 1
      go true = drew-most (ended entry) (answer b mode modes.Null asker (ended entry)).entry (drew-answer mode modes.Null asker (ended entry))
      go false = omega arith

  most-after : (g : ℕ) (entry : Entry) (next : Entry → Taken) → ((later : Entry) → (next later).entry.next_grant ≤ later.next_grant + 1) → (and_then (gave_up b g entry) next).entry.next_grant ≤ entry.next_grant + 2
  most-after g entry next then =
      let first : (gave_up b g entry).entry.next_grant ≤ entry.next_grant + 1 = most-gave-up g entry in
      let second : (next (gave_up b g entry).entry).entry.next_grant ≤ (gave_up b g entry).entry.next_grant + 1 = then (gave_up b g entry).entry in
      omega arith

most-back : (u : Unfound) (entry : Entry) → (hear_back u entry).entry.next_grant ≤ entry.next_grant + 2
most-back (unfound.CopyTo b g reader) entry = most-after b g entry (ask b modes.Shared modes.Null reader) (most-ask b modes.Shared modes.Null reader)
most-back (unfound.ShareTo b g new asker) entry = most-after b g entry (ask_anew b modes.Shared new asker) (most-anew b modes.Shared new asker)
most-back (unfound.ShipTo b g new asker) entry = most-after b g entry (ask_anew b modes.Exclusive new asker) (most-anew b modes.Exclusive new asker)
most-back (unfound.WritePlease b g version holder) entry =
    most-after b g entry (write_please b version holder) (λ later. let same : (write_please b version holder later).entry.next_grant ≡ later.next_grant = same-please b version holder later in omega (arith, same))

one-of : (entry later : Entry) → later.next_grant ≤ entry.next_grant + 1 → later.next_grant ≤ entry.next_grant + 2
one-of entry later le = omega arith

none-of : (entry later : Entry) → later.next_grant ≡ entry.next_grant → later.next_grant ≤ entry.next_grant + 2
none-of entry later same = omega (arith, same)

most-react : (message : Message) (entry : Entry) → (react message entry).entry.next_grant ≤ entry.next_grant + 2
most-react (messages.Ask b mode held asker) entry = one-of entry (ask b mode held asker entry).entry (most-ask b mode held asker entry)
most-react (messages.Gone b g) entry = one-of entry (gone b g entry).entry (most-gone b g entry)
most-react (messages.Done b g m past) entry = none-of entry (done b g past entry).entry (same-done b g past entry)
most-react (messages.GaveUp b g) entry = one-of entry (gave_up b g entry).entry (most-gave-up b g entry)
most-react (messages.Back u) entry = most-back u entry
most-react (messages.Wrote b version) entry = none-of entry (wrote b version entry).entry refl
most-react (messages.WritePlease b version holder None) entry = none-of entry (write_please b version holder entry).entry (same-please b version holder entry)
most-react (messages.WritePlease b version holder (Some g)) entry = none-of entry entry refl
most-react _ entry = none-of entry entry refl

drew-up : (w : Waiting) (entry : Entry) → Drew entry (take_up w entry).entry
drew-up (waiting.Ask b mode held asker) entry = drew-answer b mode held asker entry
drew-up (waiting.WritePlease b version holder) entry = inl (same-plea b version holder entry)

-- once an operation is under way nothing more is taken up
busy-drain : (queue : List Waiting) (entry : Entry) (op : Option Operation) → entry.op ≡ op → is_some op ≡ true → (drain_all queue entry).entry.next_grant ≡ entry.next_grant
busy-drain [] entry op is some = refl
busy-drain (w ∷ rest) entry None is some = absurd (let clash : false ≡ true = some in cc)
busy-drain (w ∷ rest) entry (Some op) is some =
    ap (λ (o : Option Operation). (where_busy o (silent (record entry { queue = w ∷ rest })) (and_then (take_up w (record entry { queue = rest })) (drain_all rest))).entry.next_grant) is

then-drain : (w : Waiting) (rest : List Waiting) (entry : Entry) → ((later : Entry) → (drain_all rest later).entry.next_grant ≤ later.next_grant + 1) → Drew entry (take_up w entry).entry
    → (drain_all rest (take_up w entry).entry).entry.next_grant ≤ entry.next_grant + 1
then-drain w rest entry next (inl e) =
    let same : (take_up w entry).entry.next_grant ≡ entry.next_grant = e in
    let later : (drain_all rest (take_up w entry).entry).entry.next_grant ≤ (take_up w entry).entry.next_grant + 1 = next (take_up w entry).entry in
    omega (arith, same)
then-drain w rest entry next (inr p) =
    let one : (take_up w entry).entry.next_grant ≤ entry.next_grant + 1 = p.0 in
    let still : (drain_all rest (take_up w entry).entry).entry.next_grant ≡ (take_up w entry).entry.next_grant = busy-drain rest (take_up w entry).entry (take_up w entry).entry.op refl p.1 in
    omega (arith, still)

if-busy : (op : Option Operation) (entry : Entry) (queue : List Waiting) (later : Taken) → later.entry.next_grant ≤ entry.next_grant + 1
    → (where_busy op (silent (record entry { queue = queue })) later).entry.next_grant ≤ entry.next_grant + 1
if-busy None entry queue later le = le
if-busy (Some op) entry queue later le = omega arith

most-drain : (queue : List Waiting) (entry : Entry) → (drain_all queue entry).entry.next_grant ≤ entry.next_grant + 1
most-drain [] entry = omega arith
most-drain (w ∷ rest) entry =
    if-busy entry.op entry (w ∷ rest) (and_then (take_up w (record entry { queue = rest })) (drain_all rest))
    (then-drain w rest (record entry { queue = rest }) (λ later. most-drain rest later) (drew-up w (record entry { queue = rest })))

-- a master draws at most three grants as it takes a message
pub few-drawn : (message : Message) (entry : Entry) → (takes entry message).entry.next_grant ≤ entry.next_grant + 3
few-drawn message entry =
    let first : (react message entry).entry.next_grant ≤ entry.next_grant + 2 = most-react message entry in
    let then : (drain (react message entry).entry).entry.next_grant ≤ (react message entry).entry.next_grant + 1 = most-drain (react message entry).entry.queue (react message entry).entry in
    omega arith

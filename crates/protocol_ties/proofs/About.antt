-- What a master sends, and what waits, is about the block of the message.
use Rattle.std.proofs.Common.{◌≡◌, ◌≢◌, ◌∙◌, ℕ, Bool, true, false, cond, List, [], ◌∷◌, ◌++◌, refl, sym, ap, subst}
use Rattle.std.specs.Prelude.{is_some, flat_map, option_to_list, Option, Some, None, nat_le, unwrap_or}
use Rattle.std.specs.List.{AllByRecursion}
use Rattle.std.proofs.lemmas.Bool.{eq-eqb, ne_eqb}
use Rattle.wire_net.specs.declared.message.Mode.{Mode as HoldMode}
use Rattle.wire_net.specs.declared.message.Mode.TheVariants as modes
use Rattle.wire_net.specs.declared.message.Unfound.{Unfound}
use Rattle.wire_net.specs.declared.message.Unfound.TheVariants as unfound
use Rattle.wire_net.specs.declared.message.Message.{Message}
use Rattle.wire_net.specs.declared.message.Message.TheVariants as messages
use Rattle.wire_net.specs.declared.message.Waiting.{Waiting}
use Rattle.wire_net.specs.declared.message.Waiting.TheVariants as waiting
use Rattle.wire_net.specs.declared.entry.Grants.{Grants as GrantTable}
use Rattle.wire_net.specs.declared.entry.Holder.{Holder}
use Rattle.wire_net.specs.declared.entry.PastHolder.{PastHolder}
use Rattle.wire_net.specs.declared.entry.PastVersions.{PastVersions}
use Rattle.wire_net.specs.declared.entry.Operation.{Operation}
use Rattle.wire_net.specs.declared.entry.Entry.{Entry}
use Rattle.inst_set.specs.Sets.{all_insts}
use Rattle.wire_net.specs.Entry.{grant_of, version_of, with_version}
use Rattle.resource_dir.specs.Holders.{other_than, first_sharer, has_other_sharer, is_other_sharer, is_granting, is_number, taken_out}
use Rattle.resource_dir.specs.Taken.{Taken, silent, telling, and_then, where_busy, queued}
use Rattle.resource_dir.specs.Asks.{stepped_out, shared_from, read_beside, invalidates_to, cleared, written_beside, serve, answer, ask, is_clear, go_on_if, go_on_as}
use Rattle.resource_dir.specs.Pasts.{is_superseded, keep, keep_any, keep_any_newer, drops_to, wrote, plead, answer_plea, write_please}
use Rattle.resource_dir.specs.Ends.{gone, ended, entered, done_if, done_as, done, gave_up, ask_anew, hear_back}
use Rattle.resource_dir.specs.Takes.{take_up, drain_all, drain, react, takes}
use Rattle.resource_dir.proofs.DrainLemmas.{take_up-queue}
use Rattle.protocol_ties.specs.Messages.{wire_of, wires_of, block_of, block_of_waiting}
use Rattle.protocol_ties.specs.AmongAll.{is_block, wires_about}
use Rattle.protocol_ties.proofs.Backs.{gone-queue}
use Rattle.protocol_ties.proofs.Reacts.{done-queue, gave-up-queue}

-- all that is sent is about this block
abbrev pub AreAbout : Option ℕ → List (ℕ × Message) → Type 0
AreAbout o sends = AllByRecursion (λ sent. (block_of sent.1 ≡ o) × ((clock : ℕ) → is_some (wire_of sent.0 clock sent.1) ≡ true)) sends

-- so is what waits
abbrev pub WaitAbout : Option ℕ → List Waiting → Type 0
WaitAbout o queue = AllByRecursion (λ w. Some (block_of_waiting w) ≡ o) queue

about-append : (o : Option ℕ) (xs ys : List (ℕ × Message)) → AreAbout o xs → AreAbout o ys → AreAbout o (xs ++ ys)
about-append o [] ys a b = b
about-append o (x ∷ xs) ys a b = (a.0, about-append o xs ys a.1 b)

wait-append : (o : Option ℕ) (xs : List Waiting) (w : Waiting) → WaitAbout o xs → Some (block_of_waiting w) ≡ o → WaitAbout o (xs ++ w ∷ [])
wait-append o [] w a e = (e, tt)
wait-append o (x ∷ xs) w a e = (a.0, wait-append o xs w a.1 e)

module _ (b : ℕ) (o : Option ℕ) (e : Some b ≡ o) where
  about-invalidates : (asker : ℕ) (shared : GrantTable) (insts : List ℕ) → AreAbout o (flat_map (invalidates_to b asker shared) insts)
  about-invalidates asker shared [] = tt
  about-invalidates asker shared (i ∷ insts) = go (is_other_sharer shared asker i) (about-invalidates asker shared insts)
    where
      go : (t : Bool) → AreAbout o (flat_map (invalidates_to b asker shared) insts) → AreAbout o (cond t ((i, messages.Invalidate b (unwrap_or (grant_of shared i) 0)) ∷ []) [] ++ flat_map (invalidates_to b asker shared) insts)
      go true rest = ((e, λ clock. refl), rest)
      go false rest = rest

  about-shared : (sharer : Option ℕ) (asker : ℕ) (held : HoldMode) (entry : Entry) → AreAbout o (shared_from sharer b asker held entry).sends
  about-shared None asker held entry = ((e, λ clock. refl), tt)
  about-shared (Some i) asker held entry = ((e, λ clock. refl), tt)

  about-read : (x : Option Holder) (asker : ℕ) (held : HoldMode) (entry : Entry) → AreAbout o (read_beside x b asker held entry).sends
  about-read None asker held entry = about-shared (first_sharer entry.shared) asker held entry
  about-read (Some x) asker held entry = ((e, λ clock. refl), tt)

  about-cleared : (t : Bool) (asker : ℕ) (held : HoldMode) (entry : Entry) → AreAbout o (cleared t b asker held entry).sends
  about-cleared true asker held entry = about-invalidates asker entry.shared all_insts
  about-cleared false asker held entry = ((e, λ clock. refl), tt)

  about-written : (x : Option Holder) (asker : ℕ) (held : HoldMode) (entry : Entry) → AreAbout o (written_beside x b asker held entry).sends
  about-written None asker held entry = about-cleared (has_other_sharer entry.shared asker) asker held entry
  about-written (Some x) asker held entry = ((e, λ clock. refl), tt)

  about-serve : (mode : HoldMode) (asker : ℕ) (held : HoldMode) (entry : Entry) → AreAbout o (serve mode b asker held entry).sends
  about-serve modes.Null asker held entry = tt
  about-serve modes.Shared asker held entry = about-read (other_than asker entry.x) asker held entry
  about-serve modes.Exclusive asker held entry = about-written (other_than asker entry.x) asker held entry

  about-answer : (mode held : HoldMode) (asker : ℕ) (entry : Entry) → AreAbout o (answer b mode held asker entry).sends
  about-answer mode held asker entry = about-serve mode asker held (stepped_out asker held entry)

  about-ask : (mode held : HoldMode) (asker : ℕ) (entry : Entry) → WaitAbout o entry.queue → AreAbout o (ask b mode held asker entry).sends × WaitAbout o (ask b mode held asker entry).entry.queue
  about-ask mode held asker entry q = go entry.op
    where
      go : (op : Option Operation) → AreAbout o (where_busy op (queued entry (waiting.Ask b mode held asker)) (answer b mode held asker entry)).sends
          × WaitAbout o (where_busy op (queued entry (waiting.Ask b mode held asker)) (answer b mode held asker entry)).entry.queue
      go None = (about-answer mode held asker entry, subst (λ l. WaitAbout o l) (sym (take_up-queue (waiting.Ask b mode held asker) entry)) q)
      go (Some op) = (tt, wait-append o entry.queue (waiting.Ask b mode held asker) q e)

  about-on : (op : Option Operation) (entry : Entry) → AreAbout o (go_on_as op b entry).sends
  about-on None entry = tt
  about-on (Some op) entry = go (is_clear op)
    where
      go : (t : Bool) → AreAbout o (go_on_if t op b entry).sends
      go true = ((e, λ clock. refl), tt)
      go false = tt

  about-gone : (g : ℕ) (entry : Entry) → AreAbout o (gone b g entry).sends
  about-gone g entry = about-on (taken_out g entry).op (taken_out g entry)

  about-gave-up : (g : ℕ) (entry : Entry) → AreAbout o (gave_up b g entry).sends
  about-gave-up g entry = go (is_granting entry.op g)
    where
      go : (t : Bool) → AreAbout o (cond t (silent (ended entry)) (gone b g entry)).sends
      go true = tt
      go false = about-gone g entry

  about-keep : (past : PastHolder) (entry : Entry) → AreAbout o (keep b past entry).sends
  about-keep past entry = go (nat_le past.version entry.written)
    where
      go : (t : Bool) → AreAbout o (cond t (telling entry past.inst (messages.DropPast b past.version)) (silent (record entry { past = with_version entry.past past.inst (Some past.version) }))).sends
      go true = ((e, λ clock. refl), tt)
      go false = tt

  about-keep-any : (past : Option PastHolder) (entry : Entry) → AreAbout o (keep_any b past entry).sends
  about-keep-any None entry = tt
  about-keep-any (Some past) entry = about-keep past entry

  about-keep-newer : (past : Option PastHolder) (entry : Entry) → AreAbout o (keep_any_newer b past entry).sends
  about-keep-newer None entry = tt
  about-keep-newer (Some past) entry = go (is_superseded past entry)
    where
      go : (t : Bool) → AreAbout o (cond t (silent entry) (keep b past entry)).sends
      go true = tt
      go false = about-keep past entry

  about-done : (g : ℕ) (past : Option PastHolder) (entry : Entry) → AreAbout o (done b g past entry).sends
  about-done g past entry = go entry.op
    where
      pick : (op : Operation) (t : Bool) → AreAbout o (done_if t op b g past entry).sends
      pick op true = about-keep-any past (ended (entered op.mode op.asker g entry))
      pick op false = about-keep-newer past entry

      go : (op : Option Operation) → AreAbout o (done_as op b g past entry).sends
      go None = about-keep-newer past entry
      go (Some op) = pick op (is_number op.grant g)

  about-drops : (limit : ℕ) (past : PastVersions) (insts : List ℕ) → AreAbout o (flat_map (λ inst. drops_to b limit (version_of past inst) inst) insts)
  about-drops limit past [] = tt
  about-drops limit past (i ∷ insts) = go (version_of past i) (about-drops limit past insts)
    where
      pick : (v : ℕ) (t : Bool) → AreAbout o (flat_map (λ inst. drops_to b limit (version_of past inst) inst) insts) → AreAbout o (cond t ((i, messages.DropPast b v) ∷ []) [] ++ flat_map (λ inst. drops_to b limit (version_of past inst) inst) insts)
      pick v true rest = ((e, λ clock. refl), rest)
      pick v false rest = rest

      go : (p : Option ℕ) → AreAbout o (flat_map (λ inst. drops_to b limit (version_of past inst) inst) insts) → AreAbout o (drops_to b limit p i ++ flat_map (λ inst. drops_to b limit (version_of past inst) inst) insts)
      go None rest = rest
      go (Some v) rest = pick v (nat_le v limit) rest

  about-plead : (x : Option Holder) (version holder : ℕ) (entry : Entry) → AreAbout o (plead x b version holder entry).sends
  about-plead (Some x) version holder entry = ((e, λ clock. refl), tt)
  about-plead None version holder entry = about-append o (wrote b version entry).sends ((holder, messages.DropPast b version) ∷ []) (about-drops version entry.past all_insts) ((e, λ clock. refl), tt)

  plead-queue : (x : Option Holder) (version holder : ℕ) (entry : Entry) → (plead x b version holder entry).entry.queue ≡ entry.queue
  plead-queue None version holder entry = refl
  plead-queue (Some x) version holder entry = refl

  about-plea : (version holder : ℕ) (entry : Entry) → AreAbout o (answer_plea b version holder entry).sends
  about-plea version holder entry = go (nat_le version entry.written)
    where
      go : (t : Bool) → AreAbout o (cond t (telling entry holder (messages.DropPast b version)) (plead entry.x b version holder entry)).sends
      go true = ((e, λ clock. refl), tt)
      go false = about-plead entry.x version holder entry

  about-please : (version holder : ℕ) (entry : Entry) → WaitAbout o entry.queue → AreAbout o (write_please b version holder entry).sends × WaitAbout o (write_please b version holder entry).entry.queue
  about-please version holder entry q = pick (nat_le version entry.written)
    where
      go : (op : Option Operation) → AreAbout o (where_busy op (queued entry (waiting.WritePlease b version holder)) (plead entry.x b version holder entry)).sends
          × WaitAbout o (where_busy op (queued entry (waiting.WritePlease b version holder)) (plead entry.x b version holder entry)).entry.queue
      go None = (about-plead entry.x version holder entry, subst (λ l. WaitAbout o l) (sym (plead-queue entry.x version holder entry)) q)
      go (Some op) = (tt, wait-append o entry.queue (waiting.WritePlease b version holder) q e)

      pick : (t : Bool) → AreAbout o (cond t (telling entry holder (messages.DropPast b version)) (where_busy entry.op (queued entry (waiting.WritePlease b version holder)) (plead entry.x b version holder entry))).sends
          × WaitAbout o (cond t (telling entry holder (messages.DropPast b version)) (where_busy entry.op (queued entry (waiting.WritePlease b version holder)) (plead entry.x b version holder entry))).entry.queue
      pick true = (((e, λ clock. refl), tt), q)
      pick false = go entry.op

  about-anew : (mode : HoldMode) (new asker : ℕ) (entry : Entry) → WaitAbout o entry.queue → AreAbout o (ask_anew b mode new asker entry).sends × WaitAbout o (ask_anew b mode new asker entry).entry.queue
  about-anew mode new asker entry q = go (is_granting entry.op new)
    where
      go : (t : Bool) → AreAbout o (cond t (answer b mode modes.Null asker (ended entry)) (silent entry)).sends × WaitAbout o (cond t (answer b mode modes.Null asker (ended entry)) (silent entry)).entry.queue
      go true = (about-answer mode modes.Null asker (ended entry), subst (λ l. WaitAbout o l) (sym (take_up-queue (waiting.Ask b mode modes.Null asker) (ended entry))) q)
      go false = (tt, q)

  -- after a grant was given up
  about-after : (g : ℕ) (entry : Entry) (next : Entry → Taken) → WaitAbout o entry.queue → ((later : Entry) → WaitAbout o later.queue → AreAbout o (next later).sends × WaitAbout o (next later).entry.queue)
      → AreAbout o (and_then (gave_up b g entry) next).sends × WaitAbout o (and_then (gave_up b g entry) next).entry.queue
  about-after g entry next q then =
      let k = then (gave_up b g entry).entry (subst (λ l. WaitAbout o l) (sym (gave-up-queue b g entry)) q) in
      (about-append o (gave_up b g entry).sends (next (gave_up b g entry).entry).sends (about-gave-up g entry) k.0, k.1)

about-back : (u : Unfound) (o : Option ℕ) (entry : Entry) → block_of (messages.Back u) ≡ o → WaitAbout o entry.queue → AreAbout o (hear_back u entry).sends × WaitAbout o (hear_back u entry).entry.queue
about-back (unfound.CopyTo b g reader) o entry e q = about-after b o e g entry (ask b modes.Shared modes.Null reader) q (about-ask b o e modes.Shared modes.Null reader)
about-back (unfound.ShareTo b g new asker) o entry e q = about-after b o e g entry (ask_anew b modes.Shared new asker) q (about-anew b o e modes.Shared new asker)
about-back (unfound.ShipTo b g new asker) o entry e q = about-after b o e g entry (ask_anew b modes.Exclusive new asker) q (about-anew b o e modes.Exclusive new asker)
about-back (unfound.WritePlease b g version holder) o entry e q = about-after b o e g entry (write_please b version holder) q (about-please b o e version holder)

about-react : (message : Message) (o : Option ℕ) (entry : Entry) → block_of message ≡ o → WaitAbout o entry.queue → AreAbout o (react message entry).sends × WaitAbout o (react message entry).entry.queue
about-react (messages.Ask b mode held asker) o entry e q = about-ask b o e mode held asker entry q
about-react (messages.Gone b g) o entry e q = (about-gone b o e g entry, subst (λ l. WaitAbout o l) (sym (gone-queue b g entry)) q)
about-react (messages.Done b g m past) o entry e q = (about-done b o e g past entry, subst (λ l. WaitAbout o l) (sym (done-queue b g past entry)) q)
about-react (messages.GaveUp b g) o entry e q = (about-gave-up b o e g entry, subst (λ l. WaitAbout o l) (sym (gave-up-queue b g entry)) q)
about-react (messages.Back u) o entry e q = about-back u o entry e q
about-react (messages.Wrote b version) o entry e q = (about-drops b o e version entry.past all_insts, q)
about-react (messages.WritePlease b version holder None) o entry e q = about-please b o e version holder entry q
about-react (messages.WritePlease b version holder (Some g)) o entry e q = (tt, q)
about-react _ o entry e q = (tt, q)

about-up : (w : Waiting) (o : Option ℕ) (entry : Entry) → Some (block_of_waiting w) ≡ o → AreAbout o (take_up w entry).sends
about-up (waiting.Ask b mode held asker) o entry e = about-answer b o e mode held asker entry
about-up (waiting.WritePlease b version holder) o entry e = about-plea b o e version holder entry

about-drain : (queue : List Waiting) (o : Option ℕ) (entry : Entry) → WaitAbout o queue → AreAbout o (drain_all queue entry).sends × WaitAbout o (drain_all queue entry).entry.queue
about-drain [] o entry q = (tt, tt)
about-drain (w ∷ rest) o entry q = go entry.op (about-drain rest o (take_up w (record entry { queue = rest })).entry q.1)
  where
    go : (op : Option Operation) → AreAbout o (drain_all rest (take_up w (record entry { queue = rest })).entry).sends × WaitAbout o (drain_all rest (take_up w (record entry { queue = rest })).entry).entry.queue
        → AreAbout o (where_busy op (silent (record entry { queue = w ∷ rest })) (and_then (take_up w (record entry { queue = rest })) (drain_all rest))).sends
        × WaitAbout o (where_busy op (silent (record entry { queue = w ∷ rest })) (and_then (take_up w (record entry { queue = rest })) (drain_all rest))).entry.queue
    go None k = (about-append o (take_up w (record entry { queue = rest })).sends (drain_all rest (take_up w (record entry { queue = rest })).entry).sends (about-up w o (record entry { queue = rest }) q.0) k.0, k.1)
    go (Some op) k = (tt, q)

pub about-takes : (message : Message) (o : Option ℕ) (entry : Entry) → block_of message ≡ o → WaitAbout o entry.queue → AreAbout o (takes entry message).sends × WaitAbout o (takes entry message).entry.queue
about-takes message o entry e q =
    let k = about-react message o entry e q in
    let m = about-drain (react message entry).entry.queue o (react message entry).entry k.1 in
    (about-append o (react message entry).sends (drain (react message entry).entry).sends k.0 m.0, m.1)

-- what is about a block is all of that block's, and none of another's
pub wires-here : (b scn : ℕ) (sends : List (ℕ × Message)) → AreAbout (Some b) sends → wires_about b scn sends ≡ wires_of scn sends
wires-here b scn [] a = refl
wires-here b scn (x ∷ sends) a =
    let own : is_block b (block_of x.1) ≡ true = ap (is_block b) a.0.0 ∙ eq-eqb b b refl in
    let rest = wires-here b scn sends a.1 in
    ap (λ t. cond t (option_to_list (wire_of x.0 scn x.1)) [] ++ wires_about b scn sends) own ∙ ap (λ l. option_to_list (wire_of x.0 scn x.1) ++ l) rest

pub wires-there : (b c scn : ℕ) (sends : List (ℕ × Message)) → c ≢ b → AreAbout (Some b) sends → wires_about c scn sends ≡ []
wires-there b c scn [] ne a = refl
wires-there b c scn (x ∷ sends) ne a =
    let other : is_block c (block_of x.1) ≡ false = ap (is_block c) a.0.0 ∙ ne_eqb b c (λ e. ne (sym e)) in
    ap (λ t. cond t (option_to_list (wire_of x.0 scn x.1)) [] ++ wires_about c scn sends) other ∙ wires-there b c scn sends ne a.1

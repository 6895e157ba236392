-- That an operation that is under way has its grant or waits for somebody, and that messages wait for an operation.
use Rattle.std.proofs.Common.{◌≡◌, ◌∙◌, ◌&&◌, ℕ, Bool, true, false, not, List, [], ◌∷◌, Option, None, Some, ap, sym, refl, subst, nat_le, nat_lt, is_some, map, if◌then◌else◌}
use Rattle.std.specs.List.{list_all, list_any}
use Rattle.wire_net.specs.declared.message.Mode.{Mode}
use Rattle.wire_net.specs.declared.message.Mode.TheVariants.{Null, Shared, Exclusive}
use Rattle.wire_net.specs.declared.message.Message.{Message}
use Rattle.wire_net.specs.declared.message.Message.TheVariants as messages
use Rattle.wire_net.specs.declared.message.Unfound.{Unfound}
use Rattle.wire_net.specs.declared.message.Unfound.TheVariants as unfound
use Rattle.wire_net.specs.declared.message.Waiting.{Waiting}
use Rattle.wire_net.specs.declared.message.Waiting.TheVariants as waiting
use Rattle.wire_net.specs.declared.entry.Grants.{Grants}
use Rattle.wire_net.specs.declared.entry.Holder.{Holder}
use Rattle.wire_net.specs.declared.entry.PastHolder.{PastHolder}
use Rattle.wire_net.specs.declared.entry.Operation.{Operation}
use Rattle.wire_net.specs.declared.entry.Entry.{Entry}
use Rattle.inst_set.specs.Sets.{all_insts, is_empty}
use Rattle.resource_dir.specs.Holders.{first_sharer, has_other_sharer, is_granting, is_number, is_other_sharer, other_sharers, other_than, taken_out}
use Rattle.resource_dir.specs.Taken.{Taken, silent, and_then, where_busy, queued}
use Rattle.resource_dir.specs.Asks.{answer, ask, cleared, go_on, go_on_as, go_on_if, is_clear, read_beside, serve, shared_from, stepped_out, written_beside}
use Rattle.resource_dir.specs.Pasts.{answer_plea, is_superseded, keep, keep_any, keep_any_newer, keep_newer, plead, write_please}
use Rattle.resource_dir.specs.Ends.{ask_anew, done_as, done_if, ended, entered, gave_up, gone, hear_back}
use Rattle.resource_dir.specs.Takes.{drain_all, hear_plea, react, take_up, takes}
use Rattle.resource_dir.specs.Laws.{IsHeldUp, WaitsFor}

-- somebody is in the set of all that pass a test where one passes it
any-waits : {A : Type 0} (test : A → Bool) (xs : List A) → list_all (λ is_in. not is_in) (map test xs) ≡ not (list_any test xs)
any-waits test [] = refl
any-waits test (x ∷ xs) = go (test x) refl (any-waits test xs) where
  go : (passes : Bool) → test x ≡ passes → list_all (λ is_in. not is_in) (map test xs) ≡ not (list_any test xs)
      → list_all (λ is_in. not is_in) (map test (x ∷ xs)) ≡ not (list_any test (x ∷ xs))
  go true is others = rw is refl
  go false is others = rw is others

waits-for-others : (shared : Grants) (asker : ℕ) → has_other_sharer shared asker ≡ true → is_empty (other_sharers shared asker) ≡ false
waits-for-others shared asker others = any-waits (is_other_sharer shared asker) all_insts ∙ ap not others

held-shared_from : (sharer : Option ℕ) (block asker : ℕ) (held : Mode) (entry : Entry)
    → IsHeldUp (shared_from sharer block asker held entry).entry.op
held-shared_from None block asker held entry = refl
held-shared_from (Some sharer) block asker held entry = refl

held-read : (x : Option Holder) (block asker : ℕ) (held : Mode) (entry : Entry) → IsHeldUp entry.op
    → IsHeldUp (read_beside x block asker held entry).entry.op
held-read None block asker held entry up = held-shared_from (first_sharer entry.shared) block asker held entry
held-read (Some holder) block asker held entry up = up

held-cleared : (others : Bool) (block asker : ℕ) (held : Mode) (entry : Entry) → has_other_sharer entry.shared asker ≡ others
    → IsHeldUp (cleared others block asker held entry).entry.op
held-cleared true block asker held entry is = waits-for-others entry.shared asker is
held-cleared false block asker held entry is = refl

held-written : (x : Option Holder) (block asker : ℕ) (held : Mode) (entry : Entry)
    → IsHeldUp (written_beside x block asker held entry).entry.op
held-written None block asker held entry = held-cleared (has_other_sharer entry.shared asker) block asker held entry refl
held-written (Some holder) block asker held entry = refl

held-serve : (mode : Mode) (block asker : ℕ) (held : Mode) (entry : Entry) → IsHeldUp entry.op
    → IsHeldUp (serve mode block asker held entry).entry.op
held-serve Null block asker held entry up = up
held-serve Shared block asker held entry up = held-read (other_than asker entry.x) block asker held entry up
held-serve Exclusive block asker held entry up = held-written (other_than asker entry.x) block asker held entry

held-stepped : (asker : ℕ) (held : Mode) (entry : Entry) → IsHeldUp entry.op → IsHeldUp (stepped_out asker held entry).op
held-stepped asker Null entry up = up
held-stepped asker Shared entry up = up
held-stepped asker Exclusive entry up = up

held-answer : (block : ℕ) (mode held : Mode) (asker : ℕ) (entry : Entry) → IsHeldUp entry.op
    → IsHeldUp (answer block mode held asker entry).entry.op
held-answer block mode held asker entry up =
    held-serve mode block asker held (stepped_out asker held entry) (held-stepped asker held entry up)

-- one of two things is done
held-busy : (op : Option Operation) (waits goes : Taken) → IsHeldUp waits.entry.op → IsHeldUp goes.entry.op
    → IsHeldUp (where_busy op waits goes).entry.op
held-busy None waits goes up-waits up-goes = up-goes
held-busy (Some op) waits goes up-waits up-goes = up-waits

held-if : (test : Bool) (passes fails : Taken) → IsHeldUp passes.entry.op → IsHeldUp fails.entry.op
    → IsHeldUp (if test then passes else fails).entry.op
held-if true passes fails up-passes up-fails = up-passes
held-if false passes fails up-passes up-fails = up-fails

held-ask : (block : ℕ) (mode held : Mode) (asker : ℕ) (entry : Entry) → IsHeldUp entry.op
    → IsHeldUp (ask block mode held asker entry).entry.op
held-ask block mode held asker entry up =
    held-busy entry.op (queued entry (waiting.Ask block mode held asker)) (answer block mode held asker entry) up
    (held-answer block mode held asker entry up)

held-go_on : (block : ℕ) (entry : Entry) → IsHeldUp (go_on block entry).entry.op
held-go_on block entry = at entry.op refl where
  clear : (op : Operation) → entry.op ≡ Some op → (test : Bool) → is_clear op ≡ test → IsHeldUp (go_on_if test op block entry).entry.op
  clear op is true test-is = refl
  clear op is false test-is = let P : Option Operation → Type 0 = λ it. IsHeldUp it in subst P (sym is) test-is

  at : (it : Option Operation) → entry.op ≡ it → IsHeldUp (go_on_as it block entry).entry.op
  at None is = let P : Option Operation → Type 0 = λ it. IsHeldUp it in subst P (sym is) tt
  at (Some op) is = clear op is (is_clear op) refl

held-gave_up : (block grant : ℕ) (entry : Entry) → IsHeldUp (gave_up block grant entry).entry.op
held-gave_up block grant entry =
    held-if (is_granting entry.op grant) (silent (ended entry)) (gone block grant entry) tt (held-go_on block (taken_out grant entry))

held-anew : (block : ℕ) (mode : Mode) (grant asker : ℕ) (entry : Entry) → IsHeldUp entry.op
    → IsHeldUp (ask_anew block mode grant asker entry).entry.op
held-anew block mode grant asker entry up =
    held-if (is_granting entry.op grant) (answer block mode Null asker (ended entry)) (silent entry)
    (held-answer block mode Null asker (ended entry) tt) up

held-keep : (block : ℕ) (kept : PastHolder) (entry : Entry) → IsHeldUp entry.op → IsHeldUp (keep block kept entry).entry.op
held-keep block kept entry up = held-if (nat_le kept.version entry.written) _ _ up up

held-keep_any : (block : ℕ) (kept : Option PastHolder) (entry : Entry) → IsHeldUp entry.op
    → IsHeldUp (keep_any block kept entry).entry.op
held-keep_any block None entry up = up
held-keep_any block (Some kept) entry up = held-keep block kept entry up

held-keep_any_newer : (block : ℕ) (kept : Option PastHolder) (entry : Entry) → IsHeldUp entry.op
    → IsHeldUp (keep_any_newer block kept entry).entry.op
held-keep_any_newer block None entry up = up
held-keep_any_newer block (Some kept) entry up =
    held-if (is_superseded kept entry) (silent entry) (keep block kept entry) up (held-keep block kept entry up)

held-plead : (x : Option Holder) (block version holder : ℕ) (entry : Entry) → IsHeldUp entry.op
    → IsHeldUp (plead x block version holder entry).entry.op
held-plead None block version holder entry up = up
held-plead (Some x) block version holder entry up = up

held-answer_plea : (block version holder : ℕ) (entry : Entry) → IsHeldUp entry.op
    → IsHeldUp (answer_plea block version holder entry).entry.op
held-answer_plea block version holder entry up =
    held-if (nat_le version entry.written) _ (plead entry.x block version holder entry) up (held-plead entry.x block version holder entry up)

held-write_please : (block version holder : ℕ) (entry : Entry) → IsHeldUp entry.op
    → IsHeldUp (write_please block version holder entry).entry.op
held-write_please block version holder entry up =
    let waits = queued entry (waiting.WritePlease block version holder) in
    let goes = plead entry.x block version holder entry in
    held-if (nat_le version entry.written) _ (where_busy entry.op waits goes) up
    (held-busy entry.op waits goes up (held-plead entry.x block version holder entry up))

held-done : (op : Option Operation) (block grant : ℕ) (kept : Option PastHolder) (entry : Entry) → IsHeldUp entry.op
    → IsHeldUp (done_as op block grant kept entry).entry.op
held-done None block grant kept entry up = held-keep_any_newer block kept entry up
held-done (Some op) block grant kept entry up = go (is_number op.grant grant) where
  go : (test : Bool) → IsHeldUp (done_if test op block grant kept entry).entry.op
  go true = held-keep_any block kept (ended (entered op.mode op.asker grant entry)) tt
  go false = held-keep_any_newer block kept entry up

held-back : (it : Unfound) (entry : Entry) → IsHeldUp entry.op → IsHeldUp (hear_back it entry).entry.op
held-back (unfound.CopyTo block grant reader) entry up =
    held-ask block Shared Null reader (gave_up block grant entry).entry (held-gave_up block grant entry)
held-back (unfound.ShareTo block grant new_grant asker) entry up =
    held-anew block Shared new_grant asker (gave_up block grant entry).entry (held-gave_up block grant entry)
held-back (unfound.ShipTo block grant new_grant asker) entry up =
    held-anew block Exclusive new_grant asker (gave_up block grant entry).entry (held-gave_up block grant entry)
held-back (unfound.WritePlease block grant version holder) entry up =
    held-write_please block version holder (gave_up block grant entry).entry (held-gave_up block grant entry)

held-plea : (grant : Option ℕ) (block version holder : ℕ) (entry : Entry) → IsHeldUp entry.op
    → IsHeldUp (hear_plea grant block version holder entry).entry.op
held-plea None block version holder entry up = held-write_please block version holder entry up
held-plea (Some grant) block version holder entry up = up

-- what a message asks for itself
held-react : (message : Message) (entry : Entry) → IsHeldUp entry.op → IsHeldUp (react message entry).entry.op
held-react (messages.Ask block mode held asker) entry up = held-ask block mode held asker entry up
held-react (messages.Gone block grant) entry up = held-go_on block (taken_out grant entry)
held-react (messages.Done block grant mode kept) entry up = held-done entry.op block grant kept entry up
held-react (messages.GaveUp block grant) entry up = held-gave_up block grant entry
held-react (messages.Back it) entry up = held-back it entry up
held-react (messages.Wrote block version) entry up = up
held-react (messages.WritePlease block version holder grant) entry up = held-plea grant block version holder entry up
held-react _ entry up = up

held-take_up : (first : Waiting) (entry : Entry) → IsHeldUp entry.op → IsHeldUp (take_up first entry).entry.op
held-take_up (waiting.Ask block mode held asker) entry up = held-answer block mode held asker entry up
held-take_up (waiting.WritePlease block version holder) entry up = held-answer_plea block version holder entry up

held-drain_all : (waits : List Waiting) (entry : Entry) → IsHeldUp entry.op → IsHeldUp (drain_all waits entry).entry.op
held-drain_all [] entry up = up
held-drain_all (first ∷ rest) entry up =
    let taken = take_up first (record entry { queue = rest }) in
    held-busy entry.op (silent (record entry { queue = first ∷ rest })) (and_then taken (drain_all rest)) up
    (held-drain_all rest taken.entry (held-take_up first (record entry { queue = rest }) up))

-- an operation that is under way after a message has its grant, or waits for somebody
pub held-takes : (message : Message) (entry : Entry) → IsHeldUp entry.op → IsHeldUp (takes entry message).entry.op
held-takes message entry up =
    held-drain_all (react message entry).entry.queue (react message entry).entry (held-react message entry up)

none-waits : (op : Option Operation) (entry : Entry) → entry.queue ≡ [] → WaitsFor op entry
none-waits None entry is = is
none-waits (Some op) entry is = tt

busy-waits : (op : Option Operation) (stays : Entry) (goes : Taken) → stays.op ≡ op → WaitsFor goes.entry.op goes.entry
    → WaitsFor (where_busy op (silent stays) goes).entry.op (where_busy op (silent stays) goes).entry
busy-waits None stays goes is others = others
busy-waits (Some op) stays goes is others = let P : Option Operation → Type 0 = λ it. WaitsFor it stays in subst P (sym is) tt

-- messages wait only for the end of an operation
pub waits-drain_all : (waits : List Waiting) (entry : Entry)
    → WaitsFor (drain_all waits entry).entry.op (drain_all waits entry).entry
waits-drain_all [] entry = none-waits entry.op (record entry { queue = [] }) refl
waits-drain_all (first ∷ rest) entry =
    busy-waits entry.op (record entry { queue = first ∷ rest })
    (and_then (take_up first (record entry { queue = rest })) (drain_all rest)) refl
    (waits-drain_all rest (take_up first (record entry { queue = rest })).entry)

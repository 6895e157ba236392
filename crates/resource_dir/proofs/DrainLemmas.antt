-- How the messages that wait are taken up, one after the other.
use Rattle.std.proofs.Common.{◌≡◌, ◌∙◌, ◌++◌, ◌+◌, ◌<◌, ℕ, Bool, true, false, List, [], ◌∷◌, Option, None, Some, ap, sym, refl, nat_le, is_some, slice_get, drop, length, arith, append_assoc}
use Rattle.wire_net.specs.declared.message.Message.{Message}
use Rattle.wire_net.specs.declared.message.Mode.{Mode}
use Rattle.wire_net.specs.declared.message.Mode.TheVariants.{Null, Shared, Exclusive}
use Rattle.wire_net.specs.declared.message.Waiting.{Waiting}
use Rattle.wire_net.specs.declared.message.Waiting.TheVariants as waiting
use Rattle.wire_net.specs.declared.entry.Holder.{Holder}
use Rattle.wire_net.specs.declared.entry.Operation.{Operation}
use Rattle.wire_net.specs.declared.entry.Entry.{Entry}
use Rattle.resource_dir.specs.Holders.{other_than, first_sharer, has_other_sharer}
use Rattle.resource_dir.specs.Taken.{Taken, silent, telling, and_then, where_busy}
use Rattle.resource_dir.specs.Asks.{answer, serve, stepped_out, read_beside, shared_from, written_beside, cleared}
use Rattle.resource_dir.specs.Pasts.{answer_plea, plead}
use Rattle.resource_dir.specs.Takes.{take_up, drain, drain_all}

shared_from-queue : (sharer : Option ℕ) (block asker : ℕ) (held : Mode) (entry : Entry)
    → (shared_from sharer block asker held entry).entry.queue ≡ entry.queue
shared_from-queue None block asker held entry = refl
shared_from-queue (Some sharer) block asker held entry = refl

read_beside-queue : (x : Option Holder) (block asker : ℕ) (held : Mode) (entry : Entry)
    → (read_beside x block asker held entry).entry.queue ≡ entry.queue
read_beside-queue None block asker held entry = shared_from-queue (first_sharer entry.shared) block asker held entry
read_beside-queue (Some holder) block asker held entry = refl

cleared-queue : (others : Bool) (block asker : ℕ) (held : Mode) (entry : Entry)
    → (cleared others block asker held entry).entry.queue ≡ entry.queue
cleared-queue true block asker held entry = refl
cleared-queue false block asker held entry = refl

written_beside-queue : (x : Option Holder) (block asker : ℕ) (held : Mode) (entry : Entry)
    → (written_beside x block asker held entry).entry.queue ≡ entry.queue
written_beside-queue None block asker held entry = cleared-queue (has_other_sharer entry.shared asker) block asker held entry
written_beside-queue (Some holder) block asker held entry = refl

serve-queue : (mode : Mode) (block asker : ℕ) (held : Mode) (entry : Entry)
    → (serve mode block asker held entry).entry.queue ≡ entry.queue
serve-queue Null block asker held entry = refl
serve-queue Shared block asker held entry = read_beside-queue (other_than asker entry.x) block asker held entry
serve-queue Exclusive block asker held entry = written_beside-queue (other_than asker entry.x) block asker held entry

stepped_out-queue : (asker : ℕ) (held : Mode) (entry : Entry) → (stepped_out asker held entry).queue ≡ entry.queue
stepped_out-queue asker Null entry = refl
stepped_out-queue asker Shared entry = refl
stepped_out-queue asker Exclusive entry = refl

plead-queue : (x : Option Holder) (block version holder : ℕ) (entry : Entry)
    → (plead x block version holder entry).entry.queue ≡ entry.queue
plead-queue None block version holder entry = refl
plead-queue (Some x) block version holder entry = refl

answer_plea-queue : (block version holder : ℕ) (entry : Entry) → (answer_plea block version holder entry).entry.queue ≡ entry.queue
answer_plea-queue block version holder entry = go (nat_le version entry.written) refl where
  go : (is_written : Bool) → nat_le version entry.written ≡ is_written → (answer_plea block version holder entry).entry.queue ≡ entry.queue
  go true is = rw is refl
  go false is = rw is (plead-queue entry.x block version holder entry)

-- what is taken up leaves the others waiting
pub take_up-queue : (first : Waiting) (entry : Entry) → (take_up first entry).entry.queue ≡ entry.queue
take_up-queue (waiting.Ask block mode held asker) entry =
    serve-queue mode block asker held (stepped_out asker held entry) ∙ stepped_out-queue asker held entry
take_up-queue (waiting.WritePlease block version holder) entry = answer_plea-queue block version holder entry

drain_all-busy : (waits : List Waiting) (op : Operation) (entry : Entry) → entry.op ≡ Some op → entry.queue ≡ waits
    → drain_all waits entry ≡ silent entry
drain_all-busy [] op entry busy is = ap (λ (waits : List Waiting). silent (record entry { queue = waits })) (sym is)
drain_all-busy (first ∷ rest) op entry busy is =
    ap (λ (it : Option Operation). where_busy it (silent (record entry { queue = first ∷ rest }))
    (and_then (take_up first (record entry { queue = rest })) (drain_all rest))) busy
    ∙ ap (λ (waits : List Waiting). silent (record entry { queue = waits })) (sym is)

-- where an operation is under way nothing is taken up
pub drain-busy : (op : Operation) (entry : Entry) → entry.op ≡ Some op → drain entry ≡ silent entry
drain-busy op entry busy = drain_all-busy entry.queue op entry busy refl

-- where nothing waits nothing is taken up
pub drain-done : (entry : Entry) → entry.queue ≡ [] → drain entry ≡ silent entry
drain-done entry is =
    ap (λ (waits : List Waiting). drain_all waits entry) is
    ∙ ap (λ (waits : List Waiting). silent (record entry { queue = waits })) (sym is)

-- else the first is taken up, and then the others
pub drain-more : (first : Waiting) (rest : List Waiting) (entry : Entry) → entry.op ≡ None → entry.queue ≡ first ∷ rest
    → drain entry ≡ and_then (take_up first (record entry { queue = rest })) drain
drain-more first rest entry free is =
    let taken = take_up first (record entry { queue = rest }) in
    ap (λ (waits : List Waiting). drain_all waits entry) is
    ∙ (ap (λ (it : Option Operation). where_busy it (silent (record entry { queue = first ∷ rest }))
    (and_then (take_up first (record entry { queue = rest })) (drain_all rest))) free
    ∙ ap (λ (waits : List Waiting). and_then taken (drain_all waits)) (sym (take_up-queue first (record entry { queue = rest }))))

-- the first of a list, and the rest
first-rest : {A : Type 0} (xs rest : List A) (x : A) → slice_get xs 0 ≡ Some x → rest ≡ drop 1 xs → xs ≡ x ∷ rest
first-rest [] rest x first is = cc
first-rest (y ∷ xs) rest x first is = cc

-- a fact about the only way in which nothing is there
is-none : {A : Type 0} (it : Option A) → is_some it ≡ false → it ≡ None
is-none None free = refl
is-none (Some x) free = cc

-- where an operation is under way nothing is taken up
pub drain-stays : (entry : Entry) → is_some entry.op ≡ true → drain entry ≡ silent entry
drain-stays entry busy = go entry.op refl where
  go : (it : Option Operation) → entry.op ≡ it → drain entry ≡ silent entry
  go None is = let clash : false ≡ true = sym (ap (λ (it : Option Operation). is_some it) is) ∙ busy in cc
  go (Some op) is = drain-busy op entry is

-- a turn of the loop that takes the messages up
pub record IsTurn (before after : Entry) (waits : Waiting) (others : List Waiting) (out out_after : List (ℕ × Message)) : Type 0 where
  pub free : is_some before.op ≡ false
  pub first : slice_get before.queue 0 ≡ Some waits
  pub rest : others ≡ drop 1 before.queue
  pub taken : after ≡ (take_up waits (record before { queue = others })).entry
  pub sends : out_after ≡ out ++ (take_up waits (record before { queue = others })).sends

turn-drains : (before after : Entry) (waits : Waiting) (others : List Waiting) (out out_after : List (ℕ × Message))
    → IsTurn before after waits others out out_after
    → drain before ≡ and_then (take_up waits (record before { queue = others })) drain
turn-drains before after waits others out out_after turn =
    drain-more waits others before (is-none before.op turn.free) (first-rest before.queue others waits turn.first turn.rest)

-- it leaves the same entry to be come to
pub turn-entry : (before after : Entry) (waits : Waiting) (others : List Waiting) (out out_after : List (ℕ × Message))
    → IsTurn before after waits others out out_after → (drain after).entry ≡ (drain before).entry
turn-entry before after waits others out out_after turn =
    ap (λ (it : Entry). (drain it).entry) turn.taken
    ∙ sym (ap (λ (it : Taken). it.entry) (turn-drains before after waits others out out_after turn))

-- and the same to be sent
pub turn-sends : (before after : Entry) (waits : Waiting) (others : List Waiting) (out out_after : List (ℕ × Message))
    → IsTurn before after waits others out out_after → out_after ++ (drain after).sends ≡ out ++ (drain before).sends
turn-sends before after waits others out out_after turn =
    let sent = (take_up waits (record before { queue = others })).sends in
    ap (λ (it : List (ℕ × Message)). it ++ (drain after).sends) turn.sends
    ∙ (ap (λ (it : Entry). (out ++ sent) ++ (drain it).sends) turn.taken
    ∙ (append_assoc out sent _
    ∙ sym (ap (λ (it : Taken). out ++ it.sends) (turn-drains before after waits others out out_after turn))))

-- one message less waits after it
pub turn-shorter : (before after : Entry) (waits : Waiting) (others : List Waiting) (out out_after : List (ℕ × Message))
    → IsTurn before after waits others out out_after → length after.queue < length before.queue
turn-shorter before after waits others out out_after turn =
    let was : length before.queue ≡ length others + 1 =
    ap length (first-rest before.queue others waits turn.first turn.rest) ∙ omega arith in
    let is : length after.queue ≡ length others =
    ap (λ (it : Entry). length it.queue) turn.taken ∙ ap length (take_up-queue waits (record before { queue = others })) in
    omega arith

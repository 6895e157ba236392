-- What waits on the links is sane.
use Rattle.std.proofs.Common.{◌≡◌, ◌∙◌, ℕ, zero, suc, ◌+◌, ◌*◌, ◌<◌, ◌≤◌, Bool, true, false, List, [], ◌∷◌, ◌++◌, refl, sym, ap, subst, arith, nat_le}
use Rattle.std.specs.Prelude.{if◌then◌else◌, Option, Some, None, drop, replicate, slice_get, slice_index_or, slice_set}
use Rattle.std.specs.List.{AllByRecursion}
use Rattle.std.proofs.lemmas.Bool.{leb-true}
use Rattle.wire_net.specs.declared.message.Lane.{Lane}
use Rattle.wire_net.specs.declared.message.Lane.TheVariants.{Main, Undo}
use Rattle.wire_net.specs.declared.message.Message.{Message}
use Rattle.wire_net.specs.declared.message.Message.TheVariants as messages
use Rattle.wire_net.specs.declared.message.Packet.{Packet}
use Rattle.wire_net.specs.declared.message.Unfound.{Unfound}
use Rattle.wire_net.specs.declared.message.Unfound.TheVariants as unfound
use Rattle.wire_net.specs.declared.message.Waiting.{Waiting}
use Rattle.wire_net.specs.declared.message.Waiting.TheVariants as waiting
use Rattle.wire_net.specs.Links.{first_on, lane_for, no_packets, place_of, sent, taken, waiting_on}
use Rattle.protocol_ties.specs.OnLinks.{all_sent}
use Rattle.protocol_ties.proofs.Origins.{some-one}
use Rattle.machine_ties.specs.Sane.{AreSane, AreSaneLinks, AreSaneWaiting, IsSane, IsSaneLink, IsSaneUnfound, IsSaneWaiting, IsUndo}

all-set : {A : Type 0} (P : A → Type 0) (xs : List A) (i : ℕ) (x : A) → AllByRecursion P xs → P x → AllByRecursion P (slice_set xs i x)
all-set P [] i x all one = tt
all-set P (y ∷ xs) zero x all one = (one, all.1)
all-set P (y ∷ xs) (suc i) x all one = (all.0, all-set P xs i x all.1 one)

all-get : {A : Type 0} (P : A → Type 0) (xs : List A) (i : ℕ) (d : A) → AllByRecursion P xs → P d → P (slice_index_or xs i d)
all-get P [] i d all one = one
all-get P (y ∷ xs) zero d all one = all.0
all-get P (y ∷ xs) (suc i) d all one = all-get P xs i d all.1 one

all-last : {A : Type 0} (P : A → Type 0) (xs : List A) (x : A) → AllByRecursion P xs → P x → AllByRecursion P (xs ++ x ∷ [])
all-last P [] x all one = (one, tt)
all-last P (y ∷ xs) x all one = (all.0, all-last P xs x all.1 one)

all-rest : {A : Type 0} (P : A → Type 0) (xs : List A) → AllByRecursion P xs → AllByRecursion P (drop 1 xs)
all-rest P [] all = tt
all-rest P (y ∷ xs) all = all.1

-- another element leaves what holds of the one at a place, if it has it where it is that one
all-at-set : {A : Type 0} (P : A → Type 0) (xs : List (List A)) (k i : ℕ) (new : List A) → AllByRecursion P (slice_index_or xs i []) → (i ≡ k → AllByRecursion P new) → AllByRecursion P (slice_index_or (slice_set xs k new) i [])
all-at-set P [] k i new was one = was
all-at-set P (x ∷ xs) zero zero new was one = one refl
all-at-set P (x ∷ xs) zero (suc i) new was one = was
all-at-set P (x ∷ xs) (suc k) zero new was one = was
all-at-set P (x ∷ xs) (suc k) (suc i) new was one = all-at-set P xs k i new was (λ same. one (ap suc same))

-- the place of a lane of undo is odd, and that of another one isn't
undo-place : (f t : ℕ) → t < 8 → place_of f t Undo ≡ (8 * f + t) * 2 + 1
undo-place f t there = ap (λ (b : Bool). if b then 128 else (8 * f + t) * 2 + 1) (lt-leb t there)
  where
    lt-leb : (i : ℕ) → i < 8 → nat_le 8 i ≡ false
    lt-leb i low = go (nat_le 8 i) refl
      where
        go : (b : Bool) → nat_le 8 i ≡ b → nat_le 8 i ≡ false
        go true e = absurd (let high = leb-true 8 i e in omega (arith, low, high))
        go false e = e

other-place : (from to f t : ℕ) → (8 * f + t) * 2 + 1 ≡ place_of from to Main → ⊥
other-place from to f t same = go (nat_le 8 to) same
  where
    go : (b : Bool) → (8 * f + t) * 2 + 1 ≡ (if b then 128 else (8 * from + to) * 2 + 0) → ⊥
    go true e = omega (arith, e)
    go false e = omega (arith, e)

undo-sent : (links : List (List Packet)) (from to f t : ℕ) (packet : Packet) → t < 8 → place_of f t Undo ≡ place_of from to (lane_for packet.message) → AllByRecursion IsUndo (waiting_on links f t Undo)
    → AllByRecursion IsUndo (waiting_on links from to (lane_for packet.message) ++ packet ∷ [])
undo-sent links from to f t packet there same was = go (lane_for packet.message) refl
  where
    go : (lane : Lane) → lane_for packet.message ≡ lane → AllByRecursion IsUndo (waiting_on links from to (lane_for packet.message) ++ packet ∷ [])
    go Main e = absurd (other-place from to f t (sym (undo-place f t there) ∙ same ∙ ap (place_of from to) e))
    go Undo e = all-last IsUndo (waiting_on links from to (lane_for packet.message)) packet (subst (λ (k : ℕ). AllByRecursion IsUndo (slice_index_or links k [])) same was) e

pub sane-sent : (made : ℕ → ℕ) (links : List (List Packet)) (from to : ℕ) (packet : Packet) → AreSaneLinks made links → IsSane made packet.message → AreSaneLinks made (sent links from to packet)
sane-sent made links from to packet sane one = record {
  messages = all-set (IsSaneLink made) links (place_of from to (lane_for packet.message)) (waiting_on links from to (lane_for packet.message) ++ packet ∷ []) sane.messages
      (all-last (λ (p : Packet). IsSane made p.message) (waiting_on links from to (lane_for packet.message)) packet
      (all-get (IsSaneLink made) links (place_of from to (lane_for packet.message)) [] sane.messages tt) one);
  undo = λ f t there. all-at-set IsUndo links (place_of from to (lane_for packet.message)) (place_of f t Undo) (waiting_on links from to (lane_for packet.message) ++ packet ∷ []) (sane.undo f t there)
      (λ same. undo-sent links from to f t packet there same (sane.undo f t there));
}

pub sane-taken : (made : ℕ → ℕ) (links : List (List Packet)) (from to : ℕ) (lane : Lane) → AreSaneLinks made links → AreSaneLinks made (taken links from to lane)
sane-taken made links from to lane sane = record {
  messages = all-set (IsSaneLink made) links (place_of from to lane) (drop 1 (waiting_on links from to lane)) sane.messages
      (all-rest (λ (p : Packet). IsSane made p.message) (waiting_on links from to lane) (all-get (IsSaneLink made) links (place_of from to lane) [] sane.messages tt));
  undo = λ f t there. all-at-set IsUndo links (place_of from to lane) (place_of f t Undo) (drop 1 (waiting_on links from to lane)) (sane.undo f t there)
      (λ same. all-rest IsUndo (waiting_on links from to lane) (subst (λ (k : ℕ). AllByRecursion IsUndo (slice_index_or links k [])) same (sane.undo f t there)));
}

first-of-all : {A : Type 0} (P : A → Type 0) (xs : List A) (x : A) → AllByRecursion P xs → slice_get xs 0 ≡ Some x → P x
first-of-all {A = A} P [] x all is = absurd (let clash : ◌≡◌ {A = Option A} None (Some x) = is in cc)
first-of-all P (y ∷ xs) x all is = subst (λ z. P z) (some-one y x is) all.0

pub sane-first : (made : ℕ → ℕ) (links : List (List Packet)) (from to : ℕ) (lane : Lane) (packet : Packet) → AreSaneLinks made links → first_on links from to lane ≡ Some packet → IsSane made packet.message
sane-first made links from to lane packet sane is =
    first-of-all (λ (p : Packet). IsSane made p.message) (waiting_on links from to lane) packet (all-get (IsSaneLink made) links (place_of from to lane) [] sane.messages tt) is

pub undo-first : (made : ℕ → ℕ) (links : List (List Packet)) (from to : ℕ) (packet : Packet) → to < 8 → AreSaneLinks made links → first_on links from to Undo ≡ Some packet → lane_for packet.message ≡ Undo
undo-first made links from to packet there sane is = first-of-all IsUndo (waiting_on links from to Undo) packet (sane.undo from to there) is

pub sane-all-sent : (made : ℕ → ℕ) (me scn : ℕ) (sends : List (ℕ × Message)) (links : List (List Packet)) → AreSaneLinks made links → AreSane made sends → AreSaneLinks made (all_sent me scn sends links)
sane-all-sent made me scn [] links sane all = sane
sane-all-sent made me scn (told ∷ sends) links sane all =
    sane-all-sent made me scn sends (sent links me told.0 (record { scn = scn; message = told.1 })) (sane-sent made links me told.0 (record { scn = scn; message = told.1 }) sane all.0) all.1

none-sane : (made : ℕ → ℕ) (n : ℕ) → AllByRecursion (IsSaneLink made) (replicate n [])
none-sane made zero = tt
none-sane made (suc n) = (tt, none-sane made n)

nothing-waits : (P : Packet → Type 0) (n i : ℕ) → AllByRecursion P (slice_index_or (replicate n []) i [])
nothing-waits P zero i = tt
nothing-waits P (suc n) zero = tt
nothing-waits P (suc n) (suc i) = nothing-waits P n i

pub no-packets-sane : (made : ℕ → ℕ) → AreSaneLinks made no_packets
no-packets-sane made = record { messages = none-sane made 128; undo = λ from to there. nothing-waits IsUndo 128 (place_of from to Undo) }

-- more versions are made of blocks, and none less
abbrev pub Grows : (ℕ → ℕ) → (ℕ → ℕ) → Type 0
Grows made later = (b : ℕ) → made b ≤ later b

all-weaker : {A : Type 0} (P Q : A → Type 0) (xs : List A) → ((x : A) → P x → Q x) → AllByRecursion P xs → AllByRecursion Q xs
all-weaker P Q [] w all = tt
all-weaker P Q (x ∷ xs) w all = (w x all.0, all-weaker P Q xs w all.1)

made-still : (made later : ℕ → ℕ) → Grows made later → (b holder version : ℕ) → (holder < 8) × (version ≤ made b) → (holder < 8) × (version ≤ later b)
made-still made later grows b holder version ok = let le : made b ≤ later b = grows b in let was : version ≤ made b = ok.1 in (ok.0, omega arith)

unfound-later : (made later : ℕ → ℕ) → Grows made later → (u : Unfound) → IsSaneUnfound made u → IsSaneUnfound later u
unfound-later made later grows (unfound.CopyTo b g reader) ok = ok
unfound-later made later grows (unfound.ShareTo b g new asker) ok = ok
unfound-later made later grows (unfound.ShipTo b g new asker) ok = ok
unfound-later made later grows (unfound.WritePlease b g version holder) ok = made-still made later grows b holder version ok

pub sane-later : (made later : ℕ → ℕ) → Grows made later → (m : Message) → IsSane made m → IsSane later m
sane-later made later grows (messages.Ask b mode held asker) ok = ok
sane-later made later grows (messages.CopyTo b g reader) ok = ok
sane-later made later grows (messages.ShareTo b g new asker) ok = ok
sane-later made later grows (messages.ShipTo b g new asker) ok = ok
sane-later made later grows (messages.Grant b g mode d) ok = ok
sane-later made later grows (messages.Shipped shipment) ok = ok
sane-later made later grows (messages.Done b g mode past) ok = ok
sane-later made later grows (messages.Back u) ok = unfound-later made later grows u ok
sane-later made later grows (messages.WritePlease b version holder g) ok = made-still made later grows b holder version ok
sane-later made later grows (messages.Invalidate b g) ok = ok
sane-later made later grows (messages.Copy i u) ok = ok
sane-later made later grows (messages.Gone b g) ok = ok
sane-later made later grows (messages.GaveUp b g) ok = ok
sane-later made later grows (messages.Wrote b v) ok = ok
sane-later made later grows (messages.DropPast b v) ok = ok
sane-later made later grows (messages.NeedUndo b j) ok = ok
sane-later made later grows (messages.UndoIs i j) ok = ok
sane-later made later grows (messages.Commit c) ok = ok
sane-later made later grows (messages.Heard c) ok = ok
sane-later made later grows (messages.Bucket k e) ok = ok

pub links-later : (made later : ℕ → ℕ) → Grows made later → (links : List (List Packet)) → AreSaneLinks made links → AreSaneLinks later links
links-later made later grows links sane = record {
  messages = all-weaker (IsSaneLink made) (IsSaneLink later) links (λ (packets : List Packet).
      all-weaker (λ (p : Packet). IsSane made p.message) (λ (p : Packet). IsSane later p.message) packets (λ (p : Packet). sane-later made later grows p.message)) sane.messages;
  undo = sane.undo;
}

waiting-later : (made later : ℕ → ℕ) → Grows made later → (w : Waiting) → IsSaneWaiting made w → IsSaneWaiting later w
waiting-later made later grows (waiting.Ask b mode held asker) ok = ok
waiting-later made later grows (waiting.WritePlease b version holder) ok = made-still made later grows b holder version ok

pub queue-later : (made later : ℕ → ℕ) → Grows made later → (queue : List Waiting) → AreSaneWaiting made queue → AreSaneWaiting later queue
queue-later made later grows queue sane = all-weaker (IsSaneWaiting made) (IsSaneWaiting later) queue (waiting-later made later grows) sane

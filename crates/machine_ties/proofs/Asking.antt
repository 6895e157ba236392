-- An ask for undo plays the protocol on.
use Rattle.std.proofs.Common.{◌≡◌, ◌∙◌, ℕ, zero, suc, ◌+◌, ◌*◌, ◌<◌, ◌≤◌, Bool, true, false, List, [], ◌∷◌, length, refl, sym, ap, subst, arith, ◌⊎◌, inl, inr, nat_le}
use Rattle.std.specs.Prelude.{if◌then◌else◌, IfSome, Option, None, Some, slice_get, slice_set}
use Rattle.std.proofs.lemmas.Bool.{leb-false}
use Rattle.rac_disk.specs.Content.{Content}
use Rattle.rac_disk.specs.State.{State}
use Rattle.wire_net.specs.declared.message.Lane.TheVariants.{Undo}
use Rattle.wire_net.specs.declared.message.Message.TheVariants as messages
use Rattle.wire_net.specs.declared.message.Packet.{Packet}
use Rattle.wire_net.specs.Links.{place_of as link_place, sent}
use Rattle.disk_calls.specs.declared.images.ReadUndo.TheVariants as read
use Rattle.disk_steps.specs.declared.undo_asks.AskedUndo.{AskedUndo}
use Rattle.disk_steps.specs.declared.undo_asks.AskedUndo.TheVariants.{Read}
use Rattle.disk_steps.specs.declared.undo_asks.Lacking.{Lacking}
use Rattle.disk_steps.specs.declared.undo_asks.Lacking.TheVariants as lack
use Rattle.disk_steps.specs.declared.undo_asks.Place.{Place}
use Rattle.disk_steps.specs.AskUndo.{AsksAt, AsksBy, AsksUndoAs, AsksWhere, asked_at, asked_by, asked_by_core, asked_core, asked_undo, lacking, place_of, undo_ask_told, undo_asked, undo_read, undo_read_core}
use Rattle.inst_state.specs.declared.inst.Inst.{Inst}
use Rattle.inst_state.specs.declared.shared.Core.{Core}
use Rattle.inst_state.specs.Shared.{is_live}
use Rattle.image_steps.specs.Sends.{sends}
use Rattle.machine_ties.specs.HasUndo.{HasUndo, IsReadAt, IsReadWhere}
use Rattle.machine_ties.specs.Plays.{Plays, newest}
use Rattle.machine_ties.proofs.Heard.{low-me}
use Rattle.machine_ties.proofs.Moves.{low-or-not, max-same}
use Rattle.machine_ties.proofs.Quiet.{BearSame, alike-but, bears-same, plays-about-none, plays-with, same-sent}

-- where there is no such link nothing is sent
set-past : {A : Type 0} (xs : List A) (k : ℕ) (x : A) → length xs ≤ k → slice_set xs k x ≡ xs
set-past [] k x far = refl
set-past (y ∷ xs) zero x far = absurd (omega (arith, far))
set-past (y ∷ xs) (suc k) x far = ap (λ (ys : List _). y ∷ ys) (set-past xs k x (omega (arith, far)))

no-place : (from to : ℕ) → 8 ≤ to → link_place from to Undo ≡ 128
no-place from to high = go (nat_le 8 to) refl
  where
    go : (t : Bool) → nat_le 8 to ≡ t → (if t then 128 else (8 * from + to) * 2 + 1) ≡ 128
    go true e = refl
    go false e = absurd (let low = leb-false 8 to e in omega (arith, low, high))

module _ (count steps blocks : ℕ) (core : Core) (insts : List Inst) (disk : Content) (p : Plays count steps blocks core.net.links core.net.masters insts disk) (n : Inst) (at : slice_get insts n.plan.me ≡ Some n) (z : ℕ) where
  abbrev me : ℕ
  me = n.plan.me

  asks-nothing : (to block : ℕ) → BearSame (newest p.whole) core.net.links (sent core.net.links me to (record { scn = n.clock.scn; message = messages.NeedUndo block z }))
  asks-nothing to block = go (low-or-not to 8)
    where
      same : BearSame (newest p.whole) core.net.links core.net.links
      same = bears-same count steps blocks core insts disk p n at

      go : (to < 8) ⊎ (8 ≤ to) → BearSame (newest p.whole) core.net.links (sent core.net.links me to (record { scn = n.clock.scn; message = messages.NeedUndo block z }))
      go (inl there) = same-sent (newest p.whole) core.net.links core.net.links me to n.clock.scn (messages.NeedUndo block z) (low-me count steps blocks core insts disk p n at) there refl tt same
      go (inr high) =
          let far : length core.net.links ≤ link_place me to Undo = (let long = p.sized in let place = no-place me to high in omega (arith, long, place)) in
          subst (λ (links : List (List Packet)). BearSame (newest p.whole) core.net.links links) (sym (set-past core.net.links (link_place me to Undo) _ far)) same

  ask-sent : (to block : ℕ) → Plays count steps blocks (sends n core to (messages.NeedUndo block z)).net.links core.net.masters (slice_set insts me (undo_asked n z)) disk
  ask-sent to block =
      plays-about-none count steps blocks core insts disk p n at n.clock.scn (sent core.net.links me to (record { scn = n.clock.scn; message = messages.NeedUndo block z })) (undo_asked n z)
      (alike-but n n.clock (undo_asked n z).sessions n.wave) (max-same n.clock.scn) (λ c. refl) (asks-nothing to block)

  abbrev Leads : Core → Inst → State → Type 0
  Leads shared m new = (later : Content) × (new.told ≡ Some later) × Plays count steps blocks shared.net.links core.net.masters (slice_set insts me m) later

  by-where : (t : Bool) (place : Place) (how : AskedUndo) (old new : State) → old.told ≡ Some disk → IsReadWhere t how → AsksWhere t place how old new
      → Leads (if t then sends n core place.seg (messages.NeedUndo place.block z) else undo_read_core n core how) (if t then undo_asked n z else undo_read n z how) new
  by-where true place how old new told well left = (disk, ap (λ (x : State). x.told) left ∙ told, ask-sent place.seg place.block)
  by-where false place (Read (read.Head head)) old new told well left =
      let keeps : new.told ≡ Some disk = subst (λ (o : Option Content). IfSome o (λ it. new.told ≡ Some it)) told left.loads.told in
      (disk, keeps, plays-with count steps blocks core insts disk p n at (undo_read n z (Read (read.Head head))).sessions n.wave)
  by-where false place (Read (read.Block block)) old new told well left =
      let keeps : new.told ≡ Some disk = subst (λ (o : Option Content). IfSome o (λ it. new.told ≡ Some it)) told left.loads.told in
      (disk, keeps, plays-with count steps blocks core insts disk p n at (undo_read n z (Read (read.Block block))).sessions n.wave)
  by-where false place how old new told well left = absurd well

  by-place : (o : Option Place) (how : AskedUndo) (old new : State) → old.told ≡ Some disk → IsReadAt core o how → AsksAt core o how old new → Leads (asked_core n core z o how) (asked_at n core z o how) new
  by-place None how old new told well left = absurd well
  by-place (Some place) how old new told well left = by-where (is_live core place.seg) place how old new told well left

  by-lack : (o : Option Lacking) (how : AskedUndo) (old new : State) → old.told ≡ Some disk → HasUndo n core o how → AsksBy n.plan.layout core o how old new → Leads (asked_by_core n core z o how) (asked_by n core z o how) new
  by-lack None how old new told well left = absurd well
  by-lack (Some (lack.Undo what)) how old new told well left = by-place (place_of n.plan.layout what) how old new told well left
  by-lack (Some lack.Sense) how old new told well left = absurd well

  pub undo-ask-plays : (how : AskedUndo) (old new : State) → old.told ≡ Some disk → HasUndo n core (lacking n z) how → AsksUndoAs n core z how old new → Leads (undo_ask_told n core z how) (asked_undo n core z how) new
  undo-ask-plays how old new told well left = by-lack (lacking n z) how old new told well left

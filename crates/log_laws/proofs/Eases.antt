-- Which steps leave an instance's redo as it is, and no more places of it that the disk may lack.
use Rattle.std.proofs.Common.{◌≡◌, ℕ, Bool, true, false, List, [], ◌++◌, length, Option, None, Some, slice_get, if◌then◌else◌, refl, sym, ap, subst}
use Rattle.std.proofs.lemmas.List.{length-set}
use Rattle.std.specs.List.{AllByRecursion, flat_map}
use Rattle.std.specs.Option.{option_and_then, option_map, option_or, option_to_list}
use Rattle.wire_net.specs.declared.message.Message.{Message}
use Rattle.wire_net.specs.declared.message.Message.TheVariants.{Copy, UndoIs}
use Rattle.wire_net.specs.declared.message.Mode.{Mode}
use Rattle.wire_net.specs.declared.message.Shipment.{Shipment}
use Rattle.block_image.specs.Block.{BlockContent}
use Rattle.buffer_cache.specs.declared.place.Current.{Current}
use Rattle.buffer_cache.specs.declared.place.Place.{Place}
use Rattle.buffer_cache.specs.Cache.{at_place, place_at, with_copy_used}
use Rattle.buffer_cache.specs.Place.{given_up, holds_dirty, lacking, mine_of, past_mine, read_from_disk, shipped as shipped_image, upgraded, with_ask, with_current, with_past_asked, with_wish, with_written, without_clean, without_grant, without_past}
use Rattle.inst_state.specs.declared.inst.Inst.{Inst}
use Rattle.inst_state.specs.declared.shared.Core.{Core}
use Rattle.inst_state.specs.Needs.{needed}
use Rattle.inst_state.specs.declared.needs.Needed.{Needed}
use Rattle.inst_state.specs.Hand.{reads_kept, snapshot_at}
use Rattle.stmt_steps.specs.Visit.{cache_used, visited}
use Rattle.image_steps.specs.Ask.{asked_in}
use Rattle.image_steps.specs.AskWrite.{write_asked}
use Rattle.image_steps.specs.DropPast.{cache_ordered, first_past_order, past_dropped}
use Rattle.image_steps.specs.declared.pasts.PastOrder.{PastOrder}
use Rattle.image_steps.specs.declared.pasts.PastOrder.TheVariants.{Drop, Write}
use Rattle.image_steps.specs.Evict.{evicted}
use Rattle.image_steps.specs.Invalidate.{without_image}
use Rattle.image_steps.specs.declared.invalidating.Granted.{Granted}
use Rattle.image_steps.specs.Ship.{followed}
use Rattle.image_steps.specs.declared.shipping.Order.{Order}
use Rattle.image_steps.specs.TakeCopy.{came_by}
use Rattle.disk_steps.specs.Install.{with_image}
use Rattle.disk_steps.specs.Write.{adopted_cleaned, cleaned_in, with_segment as cleaned_segment, written_as}
use Rattle.disk_steps.specs.declared.writing.Target.{Target}
use Rattle.disk_steps.specs.declared.writing.Target.TheVariants.{Adopted, Data, Own}
use Rattle.image_steps.specs.ServeUndo.{place_in}
use Rattle.undo_segment.specs.Segment.{SegmentState}
use Rattle.report_steps.specs.Report.{reported}
use Rattle.report_steps.specs.TakeOver.{taken_over}
use Rattle.log_laws.proofs.Cluster.{own_of}
use Rattle.log_laws.proofs.Keeps.{Eased, eased_where_same}
use Rattle.log_laws.proofs.Places.{Fewer, all_behind, all_both, all_front, asks_past, cleaned_fewer, fewer_by, forgets_fewer, gives_up, is_written, loses_clean, loses_grant, loses_past, place_fewer, place_more, places_of, taken_fewer}

-- an instance of which the cache alone has changed
cache_eases : (n m : Inst) → own_of m ≡ record (own_of n) { places = places_of m } → m.segment ≡ n.segment
    → Fewer (flat_map mine_of n.cache.places) (flat_map mine_of m.cache.places) → Eased n m
cache_eases n m own segment cache = record {
  own = own;
  fewer = fewer_by n m (λ P a. subst_since P segment a) cache;
}
  where
    subst_since : (P : ℕ → Type 0) → m.segment ≡ n.segment → AllByRecursion P (flat_map option_to_list n.segment.since) → AllByRecursion P (flat_map option_to_list m.segment.since)
    subst_since P e a = subst (λ (own : SegmentState). AllByRecursion P (flat_map option_to_list own.since)) (sym e) a

pub visited_eases : (n : Inst) (z : ℕ) → Eased n (visited n z)
visited_eases n z = cache_eases n (visited n z) refl refl (by (needed n z))
  where
    used : (need : Needed) (kept : Bool) → Fewer (flat_map mine_of n.cache.places)
        (flat_map mine_of (if kept then with_copy_used n.cache need.block (snapshot_at n z) else n.cache).places)
    used need true P a = a
    used need false P a = a

    by : (o : Option Needed) → Fewer (flat_map mine_of n.cache.places) (flat_map mine_of (cache_used n z o).places)
    by None P a = a
    by (Some need) P a = used need (reads_kept n z need) P a

pub asked_eases : (n : Inst) (block : ℕ) (o : Option Mode) → Eased n (asked_in n block o)
asked_eases n block None = eased_where_same n n refl
asked_eases n block (Some mode) = cache_eases n (asked_in n block (Some mode)) refl refl (place_fewer (with_ask (Some mode)) n.cache block (λ place P a. a))

pub evicted_eases : (n : Inst) (block : ℕ) → Eased n (evicted n block)
evicted_eases n block = cache_eases n (evicted n block) refl refl (place_fewer without_clean n.cache block loses_clean)

pub plea_eases : (n : Inst) (block : ℕ) → Eased n (write_asked n block)
plea_eases n block = cache_eases n (write_asked n block) refl refl (place_fewer with_past_asked n.cache block asks_past)

cleaned_count : (adopted : List SegmentState) (at : ℕ) (block : ℕ) → length (adopted_cleaned adopted at block) ≡ length adopted
cleaned_count adopted at block = by (option_map (λ segment. cleaned_in segment (place_in segment block)) (slice_get adopted at))
  where
    by : (o : Option SegmentState) → length (cleaned_segment adopted at o) ≡ length adopted
    by None = refl
    by (Some x) = length-set adopted at x

pub written_eases : (n : Inst) (block : ℕ) (what : Target) → Eased n (written_as n block what)
written_eases n block Data = cache_eases n (written_as n block Data) refl refl (place_fewer with_written n.cache block is_written)
written_eases n block (Adopted at) = eased_where_same n (written_as n block (Adopted at)) (ap (λ (k : ℕ). record (own_of n) { adopts = k }) (cleaned_count n.leading.adopted at block))
written_eases n block Own = record {
  own = refl;
  fewer = fewer_by n (written_as n block Own) (by (place_in n.segment block)) (λ P a. a);
}
  where
    by : (o : Option ℕ) → Fewer (flat_map option_to_list n.segment.since) (flat_map option_to_list (cleaned_in n.segment o).since)
    by None P a = a
    by (Some k) P a = cleaned_fewer n.segment k P a

pub without_eases : (k : Inst) (o : Option Granted) → Eased k (without_image k o)
without_eases k None = eased_where_same k k refl
without_eases k (Some image) =
    cache_eases k (without_image k (Some image)) refl refl (place_fewer (without_grant image.grant) k.cache image.block (loses_grant image.grant))

pub followed_eases : (k : Inst) (o : Option Order) → Eased k (followed k o)
followed_eases k None = eased_where_same k k refl
followed_eases k (Some order) = cache_eases k (followed k (Some order)) refl refl (by order.shared)
  where
    by : (shared : Bool) → Fewer (flat_map mine_of k.cache.places) (flat_map mine_of (if shared then k.cache else at_place given_up k.cache order.block).places)
    by true P a = a
    by false P a = place_fewer given_up k.cache order.block gives_up P a

pub past_eases : (n : Inst) (core : Core) (from : ℕ) → Eased n (past_dropped n core from)
past_eases n core from = cache_eases n (past_dropped n core from) refl refl (by (first_past_order n core from))
  where
    wished : (block : ℕ) (dirty : Bool) → Fewer (flat_map mine_of n.cache.places) (flat_map mine_of (if dirty then at_place with_wish n.cache block else n.cache).places)
    wished block true P a = place_fewer with_wish n.cache block (λ place P a. a) P a
    wished block false P a = a

    by : (o : Option PastOrder) → Fewer (flat_map mine_of n.cache.places) (flat_map mine_of (cache_ordered n.cache o).places)
    by None P a = a
    by (Some (Drop block version)) P a = place_fewer (without_past version) n.cache block (loses_past version) P a
    by (Some (Write plea)) P a = wished plea.block (holds_dirty (place_at n.cache plea.block).current) P a

pub came_eases : (n : Inst) (o : Option Message) → Eased n (came_by n o)
came_eases n (Some (Copy image upto)) =
    cache_eases n (came_by n (Some (Copy image upto))) refl refl (place_fewer (with_ask None) n.cache image.front.number (λ place P a. a))
came_eases n (Some (UndoIs image job)) = eased_where_same n (came_by n (Some (UndoIs image job))) refl
came_eases n _ = eased_where_same n n refl

-- an image that comes with no own record of its own
image_eases : (k : Inst) (block : ℕ) (current : Option Current)
    → ((P : ℕ → Type 0) → AllByRecursion P (mine_of (place_at k.cache block)) → AllByRecursion P (mine_of (with_current current (place_at k.cache block))))
    → Eased k (with_image k block current)
image_eases k block current kept = cache_eases k (with_image k block current) refl refl (λ P a. place_more P (with_current current) k.cache block (kept P) a)

-- an image that came lacks no record but its own and those of the past image
lacks : (P : ℕ → Type 0) (first : Option ℕ) (now : Current) → AllByRecursion P (option_to_list now.mine) → AllByRecursion P (option_to_list first)
    → AllByRecursion P (option_to_list (lacking first now).mine)
lacks P first now own past = by now.dirty now.mine own
  where
    by : (dirty : Bool) (mine : Option ℕ) → AllByRecursion P (option_to_list mine) → AllByRecursion P (option_to_list (if dirty then option_or mine first else mine))
    by true None own = past
    by true (Some at) own = own
    by false mine own = own

pub shipped_eases : (k : Inst) (shipment : Shipment) → Eased k (with_image k shipment.block (Some (shipped_image shipment)))
shipped_eases k shipment = image_eases k shipment.block (Some (shipped_image shipment)) (λ P a. by P (place_at k.cache shipment.block) a)
  where
    by : (P : ℕ → Type 0) (place : Place) → AllByRecursion P (mine_of place) → AllByRecursion P (mine_of (with_current (Some (shipped_image shipment)) place))
    by P place a =
        all_both P (option_to_list (lacking (past_mine place.past) (shipped_image shipment)).mine) []
        (lacks P (past_mine place.past) (shipped_image shipment) tt
        (all_behind P (option_to_list (option_and_then (λ now. now.mine) place.current)) (option_to_list (past_mine place.past)) a)) tt

pub read_eases : (k : Inst) (block grant : ℕ) (mode : Mode) (image : BlockContent) → Eased k (with_image k block (Some (read_from_disk grant mode image)))
read_eases k block grant mode image = image_eases k block (Some (read_from_disk grant mode image)) (λ P a. tt)

pub upgraded_eases : (k : Inst) (block grant : ℕ) → Eased k (with_image k block (option_map (upgraded grant) (place_at k.cache block).current))
upgraded_eases k block grant = image_eases k block (option_map (upgraded grant) (place_at k.cache block).current) (λ P a. by P (place_at k.cache block) a)
  where
    of : (P : ℕ → Type 0) (current : Option Current) (first : Option ℕ) → AllByRecursion P (option_to_list (option_and_then (λ now. now.mine) current) ++ option_to_list first)
        → AllByRecursion P (option_to_list (option_and_then (λ now. now.mine) (option_map (lacking first) (option_map (upgraded grant) current))) ++ [])
    of P None first a = tt
    of P (Some now) first a =
        all_both P (option_to_list (lacking first (upgraded grant now)).mine) []
        (lacks P first (upgraded grant now) (all_front P (option_to_list now.mine) (option_to_list first) a) (all_behind P (option_to_list now.mine) (option_to_list first) a)) tt

    by : (P : ℕ → Type 0) (place : Place) → AllByRecursion P (mine_of place) → AllByRecursion P (mine_of (with_current (option_map (upgraded grant) place.current) place))
    by P place a = of P place.current (past_mine place.past) a

pub reported_eases : (n : Inst) → Eased n (reported n)
reported_eases n = cache_eases n (reported n) refl refl (forgets_fewer n.cache)

pub taken_eases : (n : Inst) (core : Core) → Eased n (taken_over n core)
taken_eases n core = record { own = refl; fewer = taken_fewer n core }

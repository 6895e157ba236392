-- A master takes the first packet of a link.
use Rattle.std.proofs.Common.{◌≡◌, ◌∙◌, ℕ, ◌<◌, List, [], ◌∷◌, ◌++◌, refl, sym, ap, subst, length, append_assoc, cond}
use Rattle.std.specs.Prelude.{option_to_list, drop}
use Rattle.std.proofs.lemmas.Bool.{eq-eqb, ne_eqb}
use Rattle.std.proofs.lemmas.List.{length-set}
use Rattle.wire_net.specs.declared.message.Message.{Message}
use Rattle.wire_net.specs.declared.message.Lane.TheVariants.{Main}
use Rattle.wire_net.specs.declared.message.Packet.{Packet}
use Rattle.wire_net.specs.Links.{lane_for, place_of, waiting_on, sent, taken}
use Rattle.wire_net.specs.declared.entry.Entry.{Entry}
use Rattle.resource_dir.specs.Directory.{directory_takes}
use Rattle.block_protocol.specs.Block.{here, Block}
use Rattle.block_protocol.specs.AllBlocks.{view}
use Rattle.block_protocol.specs.Wire.{Wire, flights, Same, none, more}
use Rattle.block_protocol.proofs.Bags.{put-both, same-refl, same-move}
use Rattle.protocol_ties.specs.Messages.{instances, wire_of, pleas_of}
use Rattle.protocol_ties.specs.Entries.{Shows}
use Rattle.protocol_ties.specs.Takes.{MayTake}
use Rattle.protocol_ties.specs.AmongAll.{is_block, wires_at, wires_about}
use Rattle.protocol_ties.specs.Bags.{bag_of}
use Rattle.protocol_ties.specs.OnLinks.{all_sent, clock_after, MasterTakesFromLinks}
use Rattle.protocol_ties.specs.Numbered.{IsNumbered, AreReached}
use Rattle.protocol_ties.proofs.Numbered.{num-takes}
use Rattle.protocol_ties.proofs.Origins.{some-one}
use Rattle.resource_dir.specs.Takes.{takes}
use Rattle.protocol_ties.proofs.Bag.{same-trans, same-under}
use Rattle.protocol_ties.proofs.Links.{same-over, sent-comes-in, taken-has-gone}
use Rattle.protocol_ties.proofs.Among.{message-is-taken-among-all}
use Rattle.protocol_ties.proofs.Directories.{directory-takes-at-one}

pub same-sym : {A : Type 0} (xs ys : List A) → Same xs ys → Same ys xs
same-sym xs ys none = none
same-sym xs ys (more x us vs ws t s) = put-both x ys ws (x ∷ us) us t (here us) (same-sym us ws s)

-- what is sent comes into the bag, and there are as many links as before
pub sends-in : (b me scn : ℕ) (sends : List (ℕ × Message)) (links : List (List Packet)) → length links ≡ 128 → me < 8 → AreReached sends
    → Same (wires_about b scn sends ++ bag_of b links) (bag_of b (all_sent me scn sends links)) × (length (all_sent me scn sends links) ≡ 128)
sends-in b me scn [] links all low reached = (same-refl (bag_of b links), all)
sends-in b me scn (told ∷ sends) links all low reached =
    let one = sent-comes-in b links me told.0 (record { scn = scn; message = told.1 }) all low reached.0 in
    let long : length (sent links me told.0 (record { scn = scn; message = told.1 })) ≡ 128 =
    length-set links (place_of me told.0 (lane_for told.1)) (waiting_on links me told.0 (lane_for told.1) ++ record { scn = scn; message = told.1 } ∷ []) ∙ all in
    let rest = sends-in b me scn sends (sent links me told.0 (record { scn = scn; message = told.1 })) long low reached.1 in (
      subst (λ l. Same l (bag_of b (all_sent me scn (told ∷ sends) links))) (sym (append_assoc (wires_at b scn told) (wires_about b scn sends) (bag_of b links)))
          (same-trans (wires_at b scn told ++ (wires_about b scn sends ++ bag_of b links)) (wires_about b scn sends ++ (wires_at b scn told ++ bag_of b links)) (bag_of b (all_sent me scn (told ∷ sends) links))
          (same-move (wires_at b scn told) (wires_about b scn sends) (bag_of b links))
          (same-trans (wires_about b scn sends ++ (wires_at b scn told ++ bag_of b links)) (wires_about b scn sends ++ bag_of b (sent links me told.0 (record { scn = scn; message = told.1 }))) (bag_of b (all_sent me scn (told ∷ sends) links))
          (same-under (wires_about b scn sends) (wires_at b scn told ++ bag_of b links) (bag_of b (sent links me told.0 (record { scn = scn; message = told.1 }))) one) rest.0)),
      rest.1,
    )

-- a bag in another order is shown too
pub shows-same : {wires under : List Wire} {entry : Entry} {block : Block} → Same under wires → Shows wires entry block → Shows under entry block
shows-same {wires = wires} {under = under} {entry = entry} {block = block} same shows = record {
  tied = shows.tied;
  messages = same-trans (under ++ pleas_of entry.queue) (wires ++ pleas_of entry.queue) (flights instances block) (same-over under wires (pleas_of entry.queue) same) shows.messages;
  requests = shows.requests;
  proper = shows.proper;
}

pub master-takes-from-links : MasterTakesFromLinks
master-takes-from-links me from whole directory links packet b entry era mastered first room =
    let d = directory-takes-at-one directory b packet.message entry mastered.sized.0 mastered.masters in
    let numbered = num-takes packet.message entry first.for_master.1 mastered.waits.1 in
    let reached : AreReached (directory_takes directory b packet.message).sends = subst (λ l. AreReached l) (sym d.sends) numbered.0 in
    let own : wires_at b packet.scn (me, packet.message) ≡ first.wire ∷ [] =
    ap (λ t. cond t (option_to_list (wire_of me packet.scn packet.message)) []) (ap (is_block b) first.about ∙ eq-eqb b b refl) ∙ ap option_to_list first.is in
    let bag : Same (first.wire ∷ bag_of b (taken links from me Main)) (bag_of b links) = subst (λ l. Same (l ++ bag_of b (taken links from me Main)) (bag_of b links)) own (taken-has-gone b links from me Main packet mastered.sized.1 first.instances.1 first.instances.0 first.first) in
    let may : MayTake me packet.scn packet.message (bag_of b (taken links from me Main)) entry (view whole b).block = record {
      place = mastered.place;
      sound = mastered.sound;
      for_master = first.for_master.0;
      of_made = first.for_master.2;
      wire = first.wire;
      is = first.is;
      shows = shows-same bag mastered.shows;
    } in
    let k = message-is-taken-among-all whole directory me packet.scn b packet.message (bag_of b (taken links from me Main)) entry era
    (record { sized = mastered.sized.0; masters = mastered.masters; about = first.about; waits = mastered.waits.0; may = may }) room in
    let long : length (taken links from me Main) ≡ 128 = length-set links (place_of from me Main) (drop 1 (waiting_on links from me Main)) ∙ mastered.sized.1 in
    let in-of = sends-in b me (clock_after me packet.scn (view whole b).block) (directory_takes directory b packet.message).sends (taken links from me Main) long first.instances.0 reached in
    record {
      later = k.later;
      after = k.after;
      leads = k.leads.0;
      beside = k.leads.1;
      mastered = record {
        sized = ((directory-takes-at-one directory b packet.message entry mastered.sized.0 mastered.masters).sized, in-of.1);
        masters = k.here.0;
        waits = (k.here.1, subst (λ e. IsNumbered e) (some-one (takes entry packet.message).entry k.later (sym d.here ∙ k.here.0)) numbered.1);
        place = ap (λ z. z.place) k.leads.1 ∙ mastered.place;
        sound = k.leads.2;
        shows = shows-same (same-sym (wires_about b (clock_after me packet.scn (view whole b).block) (directory_takes directory b packet.message).sends ++ bag_of b (taken links from me Main)) (bag_of b (all_sent me (clock_after me packet.scn (view whole b).block) (directory_takes directory b packet.message).sends (taken links from me Main))) in-of.0) k.shows;
      };
      others = λ c ne.
          let o = k.others c ne in
          let none-sent : wires_about c (clock_after me packet.scn (view whole b).block) (directory_takes directory b packet.message).sends ≡ [] = o.1 (clock_after me packet.scn (view whole b).block) in
          let there = sends-in c me (clock_after me packet.scn (view whole b).block) (directory_takes directory b packet.message).sends (taken links from me Main) long first.instances.0 reached in
          let not-it : wires_at c packet.scn (me, packet.message) ≡ [] = ap (λ t. cond t (option_to_list (wire_of me packet.scn packet.message)) []) (ap (is_block c) first.about ∙ ne_eqb b c (λ e. ne (sym e))) in
          let gone : Same (bag_of c (taken links from me Main)) (bag_of c links) = subst (λ l. Same (l ++ bag_of c (taken links from me Main)) (bag_of c links)) not-it (taken-has-gone c links from me Main packet mastered.sized.1 first.instances.1 first.instances.0 first.first) in
          let come : Same (bag_of c (taken links from me Main)) (bag_of c (all_sent me (clock_after me packet.scn (view whole b).block) (directory_takes directory b packet.message).sends (taken links from me Main))) =
          subst (λ l. Same (l ++ bag_of c (taken links from me Main)) (bag_of c (all_sent me (clock_after me packet.scn (view whole b).block) (directory_takes directory b packet.message).sends (taken links from me Main)))) none-sent there.0 in (
            o.0,
            same-trans (bag_of c links) (bag_of c (taken links from me Main)) (bag_of c (all_sent me (clock_after me packet.scn (view whole b).block) (directory_takes directory b packet.message).sends (taken links from me Main)))
                (same-sym (bag_of c (taken links from me Main)) (bag_of c links) gone) come,
          );
    }

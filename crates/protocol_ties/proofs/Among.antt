-- What a master does with a message, among all blocks.
use Rattle.std.proofs.Common.{ℕ, ◌≡◌, ◌∙◌, ◌++◌, sym, ap, subst, arith, max}
use Rattle.std.specs.Prelude.{Some}
use Rattle.wire_net.specs.declared.entry.Entry.{Entry}
use Rattle.resource_dir.specs.Takes.{takes}
use Rattle.block_protocol.specs.Sound.{Sound}
use Rattle.block_protocol.specs.Steps.{clock_there, raises}
use Rattle.block_protocol.proofs.Directory.{Sound-step}
use Rattle.protocol_ties.proofs.Goes.{sound-after}
use Rattle.block_protocol.specs.AllBlocks.{view}
use Rattle.block_protocol.proofs.Basics.{all-keep}
use Rattle.protocol_ties.specs.Messages.{wires_of, block_of_waiting}
use Rattle.protocol_ties.specs.Entries.{Shows}
use Rattle.protocol_ties.specs.MasterRuns.{raised}
use Rattle.protocol_ties.specs.AmongAll.{WaitsAbout, wires_about, MessageIsTakenAmongAll, SendsAreOfTheBlock}
use Rattle.protocol_ties.proofs.Origins.{some-one}
use Rattle.protocol_ties.proofs.Reacts.{message-is-a-run}
use Rattle.protocol_ties.proofs.Directories.{directory-takes-at-one}
use Rattle.protocol_ties.proofs.Turns.{master-runs-are-turns-of-all}
use Rattle.protocol_ties.proofs.About.{WaitAbout, about-takes, wires-here, wires-there}

waits-on : (b : ℕ) (entry : Entry) → WaitsAbout b entry → WaitAbout (Some b) entry.queue
waits-on b entry waits = all-keep (λ w. block_of_waiting w ≡ b) (λ w. Some (block_of_waiting w) ≡ Some b) entry.queue (λ w e. ap (λ n. Some n) e) waits

waits-still : (b : ℕ) (entry : Entry) → WaitAbout (Some b) entry.queue → WaitsAbout b entry
waits-still b entry waits = all-keep (λ w. Some (block_of_waiting w) ≡ Some b) (λ w. block_of_waiting w ≡ b) entry.queue (λ w e. some-one (block_of_waiting w) b e) waits

pub sends-are-of-the-block : SendsAreOfTheBlock
sends-are-of-the-block b message entry about waits =
    let k = about-takes message (Some b) entry about (waits-on b entry waits) in
    (k.0, waits-still b (takes entry message).entry k.1)

pub message-is-taken-among-all : MessageIsTakenAmongAll
message-is-taken-among-all whole directory me scn b message wires entry era among room =
    let k = message-is-a-run me scn message wires entry (view whole b).block among.may room in
    let start : Sound (raised me scn (view whole b).block) = Sound-step (raises (view whole b).block me (max ((view whole b).block.clock me) scn) (omega arith)) among.may.sound in
    let d = directory-takes-at-one directory b message entry among.sized among.masters in
    let about = about-takes message (Some b) entry among.about (waits-on b entry among.waits) in
    let sent : wires_about b (clock_there (raised me scn (view whole b).block)) (takes entry message).sends ≡ wires_of (clock_there (raised me scn (view whole b).block)) (takes entry message).sends = wires-here b (clock_there (raised me scn (view whole b).block)) (takes entry message).sends about.0 in
    record {
      after = k.after;
      later = (takes entry message).entry;
      leads = (master-runs-are-turns-of-all whole me scn b k.after era k.run, k.beside, sound-after k.run start);
      here = (d.here, waits-still b (takes entry message).entry about.1);
      shows = subst (λ s. Shows (wires_about b (clock_there (raised me scn (view whole b).block)) s ++ wires) (takes entry message).entry k.after) (sym d.sends)
          (subst (λ l. Shows (l ++ wires) (takes entry message).entry k.after) (sym sent) k.shows);
      others = λ c ne. (d.others c ne, λ clock. ap (wires_about c clock) d.sends ∙ wires-there b c clock (takes entry message).sends ne about.0);
    }

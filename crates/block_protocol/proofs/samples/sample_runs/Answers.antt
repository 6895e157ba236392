-- The runs, step by step.
use Rattle.std.proofs.Common.{refl}
use Rattle.block_protocol.specs.Block.{Exclusive}
use Rattle.block_protocol.proofs.Sample.{moves}
use Rattle.block_protocol.proofs.SampleRebuilt.{goes-on, is-lost, is-rebuilt, grant1, then-turns}
use Rattle.block_protocol.proofs.SampleReads.{copied, upgraded, upgraded_hold}
use Rattle.block_protocol.proofs.SampleDark.{dark}
use Rattle.block_protocol.proofs.SampleClocks.{again, twice, taken-back}
use Rattle.block_protocol.proofs.samples.sample_runs.Goals as goal

pub returns-clause-shipped : goal.returns-clause-shipped
returns-clause-shipped c = let m = moves.1 in (moves.0, m.run, (record { mode = Exclusive; grant = 2 }, m.there, refl), m.version, m.disk, m.gone, m.past)

pub returns-clause-copied : goal.returns-clause-copied
returns-clause-copied c = (copied.0, copied.1, copied.2, copied.3)

pub returns-clause-upgraded : goal.returns-clause-upgraded
returns-clause-upgraded c = (upgraded.0, upgraded.2, upgraded.3, upgraded.4, upgraded.1, upgraded.5, (upgraded_hold, upgraded.6, refl), upgraded.7, upgraded.8)

pub returns-clause-rebuilt : goal.returns-clause-rebuilt
returns-clause-rebuilt c = (goes-on.0, then-turns is-lost (then-turns is-rebuilt goes-on.7), goes-on.1, goes-on.2, goes-on.3, (grant1, goes-on.4, refl), goes-on.5, goes-on.6)

pub returns-clause-dark : goal.returns-clause-dark
returns-clause-dark c = dark

pub returns-clause-taken_back : goal.returns-clause-taken_back
returns-clause-taken_back c = (twice.0, again, taken-back.0, twice.1, twice.2, twice.3, refl, refl, taken-back.3, taken-back.1, taken-back.2)

-- All are of what holds in each phase.
use Rattle.block_protocol.proofs.ClusterClaims.{coherent-always, orderly-always, read-always, covered-always, floor-always, kept, whole, resumed}
use Rattle.block_protocol.proofs.laws.the_invariant_gives_the_claims.Goals as goal

pub returns-clause-coherent : goal.returns-clause-coherent
returns-clause-coherent c w m = coherent-always w m.holds

pub returns-clause-orderly : goal.returns-clause-orderly
returns-clause-orderly c w m = orderly-always w m.holds

pub returns-clause-reads : goal.returns-clause-reads
returns-clause-reads c w m = read-always w m.holds

pub returns-clause-covered : goal.returns-clause-covered
returns-clause-covered c w m = covered-always w m.holds m.located

pub returns-clause-floor : goal.returns-clause-floor
returns-clause-floor c w m = floor-always w m.holds

pub returns-clause-kept : goal.returns-clause-kept
returns-clause-kept c w m frozen = kept w frozen m.holds m.located

pub returns-clause-whole : goal.returns-clause-whole
returns-clause-whole c w m era = whole w era m.holds

pub returns-clause-resumed : goal.returns-clause-resumed
returns-clause-resumed c w m era = resumed w era m.holds

use Rattle.std.proofs.Common.{◌≡◌, ◌<◌, [], ℕ, length, get_or}
use Rattle.wire_net.proofs.links.Links.clear.Given as goal

abbrev pub invariant-loop-link : goal.invariant-loop-link
invariant-loop-link l = record {
  all : length l.link-items ≡ 128;
  clear : (k : ℕ) → k < l.link-index → get_or l.link-items k [] ≡ [];
}

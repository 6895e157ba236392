use Rattle.std.proofs.Common.{ℕ, ◌+◌, ◌*◌, ◌<◌, ◌≤◌, arith}
use Rattle.std.proofs.Math.Nat.{mul-le-mul_right}
use Rattle.base_types.proofs.layout.Layout.head_block.Goals as goal

-- one of n segments begins below the end of them all
below_end : (blocks i n size : ℕ) → i < n → 1 ≤ size → blocks + i * size < blocks + n * size
below_end blocks i n size earlier some =
    let later : (i + 1) * size ≤ n * size = mul-le-mul_right size (omega arith) in
    omega arith

pub returns-clause-on_disk : goal.returns-clause-on_disk
returns-clause-on_disk c =
    rw (c.from.ensures, c.segment_len.ensures.blocks, c.instance.view_is)
    (below_end c.args.self.now.blocks c.args.instance c.args.self.now.instances _ c.requires.in_range (omega arith))
